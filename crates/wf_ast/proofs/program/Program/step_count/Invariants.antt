use Rattle.std.proofs.Common.{◌≡◌, length, min, ◌+◌, ◌≤◌, drop, map}
use Rattle.wf_ast.specs.Nodes.{all_step_names}
use Rattle.wf_ast.specs.View.{flow_view, flows_view}
use Rattle.wf_ast.proofs.program.Program.step_count.Given as goal

abbrev pub invariant-loop-flow : goal.invariant-loop-flow
invariant-loop-flow l = record {
  same : min (l.total + length (all_step_names (map flow_view (drop l.flow-index l.flow-items)))) 18446744073709551615 ≡ min (length (all_step_names (flows_view l.self.flows))) 18446744073709551615;
  fits : l.total ≤ 18446744073709551615;
}
