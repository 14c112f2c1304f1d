use Rattle.std.proofs.Common.{◌≡◌, drop, map}
use Rattle.wf_ast.specs.Flows.{flow_in}
use Rattle.wf_ast.specs.View.{flow_view}
use Rattle.wf_check_expressions.proofs.calls.flow_named.Given as goal

-- what is left tells
abbrev pub invariant-loop-flow : goal.invariant-loop-flow
invariant-loop-flow l = flow_in (map flow_view l.flows) l.name ≡ flow_in (map flow_view (drop l.flow-index l.flows)) l.name
