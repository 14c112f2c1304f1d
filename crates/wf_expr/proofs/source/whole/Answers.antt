use Rattle.std.proofs.Common.{sym}
use Rattle.std.proofs.lemmas.Result.{err_from_is_err_and}
use Rattle.wf_expr.proofs.Judged.{whole_fails, whole_left, whole_read}
use Rattle.wf_expr.proofs.source.whole.Goals as goal

pub returns-in_err-expression : goal.returns-in_err-expression
returns-in_err-expression c =
    let p = err_from_is_err_and c.from_residual.result c.from_residual.ensures.1 in
    rw (p.1, p.2) (whole_fails _ _ c.in_err-expression.ensures)

pub returns-then-is_empty : goal.returns-then-is_empty
returns-then-is_empty c = whole_read _ c.in_ok-expression.rest.now _ (sym c.if-is_empty.ensures) c.in_ok-expression.ensures

pub returns-else-is_empty : goal.returns-else-is_empty
returns-else-is_empty c = whole_left _ c.in_ok-expression.rest.now _ (sym c.if-is_empty.ensures) c.in_ok-expression.ensures
