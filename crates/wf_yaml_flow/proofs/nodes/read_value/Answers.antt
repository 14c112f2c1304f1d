use Rattle.std.proofs.Common.{sym, ◌∙◌}
use Rattle.wf_yaml_flow.specs.FlowWalk.{turned}
use Rattle.wf_yaml_flow.proofs.FlowTurns.{marked_value}
use Rattle.wf_yaml_flow.proofs.nodes.read_value.Goals as goal

pub returns-clause-seen : goal.returns-clause-seen
returns-clause-seen c = λ d.
    marked_value c.args.line d c.args.delay c.args.r.now c.flow_blanks-s.result.now c.behind_property.result.now c.property_fault.result (turned c.args.line d c.in_ok-turn.turn) (turned c.args.line d c.noting_first.result)
    c.flow_blanks-s.ensures.rest (sym c.is_empty.ensures ∙ c.if-is_empty.false) c.behind_property.ensures.rest c.property_fault.ensures (c.noting_first.ensures.seen c.args.line d) (c.in_ok-turn.ensures.seen d)
