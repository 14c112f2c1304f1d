use Rattle.std.proofs.Common.{◌≡◌, drop, map}
use Rattle.std.specs.List.{list_all}
use Rattle.wf_ast.specs.Accept.{is_visible}
use Rattle.wf_ast.specs.Reads.{exprs_read}
use Rattle.wf_ast.specs.Tree.{exprs}
use Rattle.wf_ast.specs.View.{expr_view}
use Rattle.wf_check_expressions.proofs.reads.+expr.Given as goal
use Rattle.wf_symbols.specs.Around.{layer_view}

-- what is left tells
abbrev pub invariant-sees_exprs-loop-e : goal.invariant-sees_exprs-loop-e
invariant-sees_exprs-loop-e l = list_all (λ x. is_visible x (map layer_view l.layers)) (exprs_read (exprs (map expr_view l.es))) ≡ list_all (λ x. is_visible x (map layer_view l.layers)) (exprs_read (exprs (map expr_view (drop l.e-index l.es))))
