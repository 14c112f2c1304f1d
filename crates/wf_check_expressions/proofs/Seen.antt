-- What is read of calls as the code holds them.
use Rattle.std.proofs.Common.{◌≡◌, ◌&&◌, List, sym, ◌∙◌, ap}
use Rattle.std.proofs.Common as seq
use Rattle.std.specs.List.{list_all}
use Rattle.wf_ast.proofs.Views.{view_call}
use Rattle.wf_ast.specs.Accept.{is_visible}
use Rattle.wf_ast.specs.Nodes.{Names}
use Rattle.wf_ast.specs.Reads.{expr_reads, exprs_read}
use Rattle.wf_ast.specs.Tree.{exprs}
use Rattle.wf_ast.specs.View.{expr_list, expr_view}
use Rattle.wf_ast.specs.declared.expr.Expr.{Expr}
use Rattle.wf_ast.specs.declared.expr.Expr.TheViews as e
use Rattle.wf_ast.specs.declared.expr.Exprs.{Exprs}
use Rattle.wf_ast.specs.declared.expr.Func.{Func}
use Rattle.wf_value.specs.Pairs.{Text}

module _ (ls : List Names) where
  -- each of these is visible
  abbrev pub All : List Text → seq.Bool
  All xs = list_all (λ x. is_visible x ls) xs

  -- a call
  pub call_told : (x : Expr) (f : Func) (es : Exprs) (xs : List Expr) → x ≡ e.Call f es → xs ≡ expr_list es → All (exprs_read (exprs (seq.map expr_view xs))) ≡ All (expr_reads (expr_view x))
  call_told x f es xs is listed = ap (λ l. All (exprs_read (exprs (seq.map expr_view l)))) listed ∙ sym (ap (λ y. All (expr_reads (expr_view y))) is ∙ ap (λ y. All (expr_reads y)) (view_call f es))
