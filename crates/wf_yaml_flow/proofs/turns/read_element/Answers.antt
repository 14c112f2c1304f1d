use Rattle.wf_yaml_flow.specs.FlowWalk.{turned}
use Rattle.wf_yaml_flow.proofs.FlowTurns.{element_item_of, element_pair_of}
use Rattle.wf_yaml_flow.proofs.turns.read_element.Goals as goal

pub returns-in-Items-clause-seen : goal.returns-in-Items-clause-seen
returns-in-Items-clause-seen c = λ d. element_item_of c.args.line d c.args.hand c.in-Items.items c.args.s.now c.in-Items.is c.requires.0 c.requires.1

pub returns-in_ok-turn-in-Pairs-clause-seen : goal.returns-in_ok-turn-in-Pairs-clause-seen
returns-in_ok-turn-in-Pairs-clause-seen c = λ d.
    element_pair_of c.args.line d c.args.hand c.in-Pairs.map c.args.s.now c.behind_property.result.now c.property_fault.result (turned c.args.line d c.in_ok-turn-in-Pairs.turn) (turned c.args.line d c.noting_first.result)
    c.in-Pairs.is c.requires.0 c.requires.1 c.behind_property.ensures.rest c.property_fault.ensures (c.noting_first.ensures.seen c.args.line d) (c.in_ok-turn-in-Pairs.ensures.seen d)
