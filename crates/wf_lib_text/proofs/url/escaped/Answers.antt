use Rattle.std.proofs.Common.{arith, rules}
use Rattle.std.proofs.lemmas.List.Elements.{All-from_get_or}
use Rattle.wf_lib_text.proofs.Escapes.{IsByte, escapes}
use Rattle.wf_lib_text.proofs.url.escaped.Goals as goal

pub returns : goal.returns
returns c =
    let small = All-from_get_or IsByte c.args.s.now 0 (λ i within. omega (arith, c.type_inv.s i)) in
    search (rules, escapes c.args.s.now small)
