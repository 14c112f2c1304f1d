use Rattle.std.proofs.Common.{◌≡◌, drop, map}
use Rattle.wf_ast.specs.Accept.{unknown_shared}
use Rattle.wf_ast.specs.Nodes.{Path}
use Rattle.wf_check_scopes.proofs.variables.unseen_shared.Given as goal
use Rattle.wf_symbols.specs.Around.{layer_view}

-- what is left tells
abbrev pub invariant-each : goal.invariant-each
invariant-each l = (path : Path) → unknown_shared (map layer_view l.layers) l.shared path 0 ≡ unknown_shared (map layer_view l.layers) (drop l.index l.shared) path l.index
