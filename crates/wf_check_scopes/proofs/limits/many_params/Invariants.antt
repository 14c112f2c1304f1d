use Rattle.std.proofs.Common.{◌≡◌, drop, map}
use Rattle.wf_ast.specs.Accept.{params_many}
use Rattle.wf_ast.specs.Nodes.{Path}
use Rattle.wf_ast.specs.View.{param_view}
use Rattle.wf_check_scopes.proofs.limits.many_params.Given as goal

-- what is left tells
abbrev pub invariant-each : goal.invariant-each
invariant-each l = (path : Path) → params_many (map param_view l.params) path 0 ≡ params_many (map param_view (drop l.index l.params)) path l.index
