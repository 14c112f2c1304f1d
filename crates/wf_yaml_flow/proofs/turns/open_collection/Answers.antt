use Rattle.wf_yaml_flow.proofs.FlowTurns.{opened_turn}
use Rattle.wf_yaml_flow.proofs.turns.open_collection.Goals as goal

pub returns-clause-seen : goal.returns-clause-seen
returns-clause-seen c = opened_turn c.args.line c.args.depth c.args.is_map c.args.s.now c.flow_blanks-rest.result.now c.in_ok-hand.hand c.depth_fault.result c.depth_fault.ensures c.flow_blanks-rest.ensures.rest
    (c.in_ok-hand.ensures c.args.line c.args.depth c.flow_blanks-rest.result.now)
