use Rattle.std.proofs.Common.{sym, ◌∙◌}
use Rattle.wf_yaml_flow.specs.FlowWalk.{turned}
use Rattle.wf_yaml_flow.proofs.FlowTurns.{marked_item}
use Rattle.wf_yaml_flow.proofs.nodes.read_item.Goals as goal

pub returns-clause-seen : goal.returns-clause-seen
returns-clause-seen c =
    let n = c.args.line in
    let d = c.args.depth in
    marked_item n d c.args.s.now c.behind_property.result.now c.property_fault.result (turned n d c.in_ok-turn.turn) (turned n d c.noting_first.result)
    (sym c.is_property.ensures ∙ c.if-not-is_property.false) c.behind_property.ensures.rest c.property_fault.ensures (c.noting_first.ensures.seen n d) c.in_ok-turn.ensures.seen
