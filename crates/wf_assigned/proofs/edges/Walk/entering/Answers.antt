use Rattle.std.proofs.Common.{sym, ◌∙◌}
use Rattle.wf_assigned.proofs.Laying.{of_these}
use Rattle.wf_assigned.proofs.Stepping.{enters_none, enters_some}
use Rattle.wf_assigned.proofs.edges.Walk.entering.Goals as goal
use Rattle.wf_lemmas.proofs.Results.{on_ok}

pub returns-then-is_empty : goal.returns-then-is_empty
returns-then-is_empty c = on_ok c.leading.result (of_these c.args.self.now c.leading.new.self _ _ (enters_none c.args.steps.now c.items.result.now c.items.ensures.view (sym c.is_empty.ensures ∙ c.if-is_empty.true) c.args.depth c.args.from c.args.first c.args.writes c.args.out)) c.leading.ensures

pub returns-in_ok-next : goal.returns-in_ok-next
returns-in_ok-next c =
    on_ok c.edge.result (of_these c.args.self.now c.edge.new.self _ _ (enters_some c.args.steps.now c.items.result.now c.items.ensures.view (sym c.is_empty.ensures ∙ c.if-is_empty.false) c.args.depth c.in_ok-next.field-0 c.in_ok-next.ensures c.args.from c.args.first c.args.writes c.args.out)) c.edge.ensures
