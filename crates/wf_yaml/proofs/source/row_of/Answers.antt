use Rattle.std.proofs.Common.{◌≡◌, rules}
use Rattle.std.specs.Str.{chars}
use Rattle.std.proofs.lemmas.Str.{chars_from_encodes}
use Rattle.wf_yaml.proofs.source.row_of.Goals as goal

pub returns : goal.returns
returns c =
    let line = c.args.line.now in
    let same : c.in_ok-text.text.items ≡ chars line.body.now = search (rules, chars_from_encodes) in
    (λ i. record { number = line.number; indent = line.indent; text = same i })
