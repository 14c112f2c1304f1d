use Rattle.std.proofs.Common.{rules, w64, FitsSigned}
use Rattle.wf_eval.proofs.Listed.{indexed}
use Rattle.wf_eval.proofs.members.at_index.Goals as goal

pub returns-in_ok-whole-in-List : goal.returns-in_ok-whole-in-List
returns-in_ok-whole-in-List c =
    let fits : FitsSigned w64 c.in_ok-whole-in-List.field-0 = search rules in
    indexed c.item_at.result c.args.v.now c.args.w.now c.in-List.l c.in_ok-whole-in-List.field-0 c.items.result.now fits c.in-List.is c.in_ok-whole-in-List.ensures c.items.ensures c.item_at.ensures
