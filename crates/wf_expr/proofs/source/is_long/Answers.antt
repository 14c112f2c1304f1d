use Rattle.std.proofs.Common.{◌≡◌, ap, length, chars, nat_lt, rules}
use Rattle.std.proofs.lemmas.Str.{chars_from_encodes}
use Rattle.wf_expr.proofs.source.is_long.Goals as goal

pub returns : goal.returns
returns c =
    let same : c.count.result ≡ length (chars c.args.src.now) = search (rules, chars_from_encodes) in
    ap (nat_lt 400) same
