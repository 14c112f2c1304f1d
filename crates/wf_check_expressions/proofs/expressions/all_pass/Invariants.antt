use Rattle.std.proofs.Common.{◌≡◌, drop, map}
use Rattle.wf_ast.specs.Tree.{exprs}
use Rattle.wf_ast.specs.View.{expr_view}
use Rattle.wf_check_expressions.proofs.expressions.all_pass.Given as goal
use Rattle.wf_check_expressions.specs.Expressions.{are_fine}
use Rattle.wf_check_expressions.specs.Tests.{sees}
use Rattle.wf_symbols.specs.Around.{layer_view}

-- what is left tells
abbrev pub invariant-loop-e : goal.invariant-loop-e
invariant-loop-e l = are_fine (sees (map layer_view l.layers)) (exprs (map expr_view l.es)) ≡ are_fine (sees (map layer_view l.layers)) (exprs (map expr_view (drop l.e-index l.es)))
