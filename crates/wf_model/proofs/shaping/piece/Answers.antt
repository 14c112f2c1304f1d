use Rattle.std.proofs.Common.{refl, sym, ap}
use Rattle.wf_ast.specs.Tree as t
use Rattle.wf_ast.specs.View.{expr_view, part_view}
use Rattle.wf_model.proofs.Compiling.{alike, hole, then}
use Rattle.wf_model.proofs.shaping.piece.Goals as goal
use Rattle.wf_model.specs.Shapes.{hole_by}

pub returns-in_ok-add-in-Expr : goal.returns-in_ok-add-in-Expr
returns-in_ok-add-in-Expr c =
    let n = c.in_ok-add-in-Expr.field-0 in
    let e = expr_view c.in-Expr.e in
    alike _ _ (λ cs. t.Hole (hole_by cs n)) _ (t.Hole e) _ (λ cs. refl) (sym (ap part_view c.in-Expr.is)) (then t.Hole _ _ (λ cs. hole_by cs n) e (hole _ _ e n c.in_ok-add-in-Expr.ensures.0 c.in_ok-add-in-Expr.ensures.1))
