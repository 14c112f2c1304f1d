use Rattle.std.proofs.Common.{drop}
use Rattle.wf_table.proofs.Going.{Going}
use Rattle.wf_table.proofs.Laid.{flow_parts, numbers_of_flows}
use Rattle.wf_table.proofs.build.flows.Given as goal

abbrev pub invariant-loop-flow : goal.invariant-loop-flow
invariant-loop-flow l = Going flow_parts numbers_of_flows l.initial.nodes.items l.nodes.items l.flows (drop l.flow-index l.flows) l.numbers.items
