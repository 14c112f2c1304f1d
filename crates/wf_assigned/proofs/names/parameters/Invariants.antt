use Rattle.std.proofs.Common.{◌≡◌, ◌++◌, drop, map}
use Rattle.wf_assigned.proofs.names.parameters.Given as goal
use Rattle.wf_ast.specs.Nodes.{param_names}
use Rattle.wf_ast.specs.View.{param_view}

-- with those that are left they are all
abbrev pub invariant-loop-param : goal.invariant-loop-param
invariant-loop-param l = l.names ++ param_names (map param_view (drop l.param-index l.param-items)) ≡ param_names (map param_view l.param-items)
