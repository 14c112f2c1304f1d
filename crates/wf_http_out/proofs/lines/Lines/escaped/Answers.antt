use Rattle.std.proofs.Common.{arith, rules}
use Rattle.std.proofs.lemmas.List.Elements.{All-from_get_or}
use Rattle.wf_http_out.proofs.Escaping.{IsByte, escapes}
use Rattle.wf_http_out.proofs.lines.Lines.escaped.Goals as goal

pub returns : goal.returns
returns c =
    let small = All-from_get_or IsByte c.args.text.now 0 (λ i within. omega (arith, c.type_inv.text i)) in
    search (rules, escapes c.args.text.now small)
