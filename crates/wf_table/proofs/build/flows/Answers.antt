use Rattle.wf_table.proofs.Going.{adds_all, all_numbers, begins, goes}
use Rattle.wf_table.proofs.Laid.{flow_own, flow_parts, flows_lay, numbers_of_flows}
use Rattle.wf_table.proofs.build.flows.Goals as goal

pub loop-flow-init : goal.loop-flow-init
loop-flow-init c = begins flow_parts numbers_of_flows _ _ _ c.new-numbers.ensures.items

pub loop-flow-preserved : goal.loop-flow-preserved
loop-flow-preserved c =
    goes flow_parts numbers_of_flows flow_own flows_lay _ c.loop-flow.nodes.items _ c.args.flows.now c.loop-flow.flow-index c.flow-item.result c.loop-flow.numbers.items _ c.in_ok-flow_node.field-0
    c.loop-flow-test.true c.flow-item.is c.in_ok-flow_node.ensures.number c.in_ok-add.ensures c.in_ok-flow_node.ensures.adds c.loop-flow.invariant

pub returns-clause-numbers : goal.returns-clause-numbers
returns-clause-numbers c = all_numbers flow_parts numbers_of_flows flow_own flows_lay _ c.loop-flow.nodes.items c.args.flows.now c.loop-flow.flow-index c.loop-flow.numbers.items c.loop-flow-test.false c.loop-flow.invariant

pub returns-clause-adds : goal.returns-clause-adds
returns-clause-adds c = adds_all flow_parts numbers_of_flows flow_own flows_lay _ c.loop-flow.nodes.items c.args.flows.now c.loop-flow.flow-index c.loop-flow.numbers.items c.loop-flow-test.false c.loop-flow.invariant
