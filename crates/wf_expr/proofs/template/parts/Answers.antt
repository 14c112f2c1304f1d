use Rattle.std.proofs.lemmas.Result.{err_from_is_err_and}
use Rattle.wf_ast.specs.View.{part_view, parts_view}
use Rattle.wf_expr.proofs.Joins.{fault_at, next_part}
use Rattle.wf_expr.proofs.template.parts.Goals as goal

pub returns-in_err-part : goal.returns-in_err-part
returns-in_err-part c =
    let p = err_from_is_err_and c.from_residual-in_err-part.result c.from_residual-in_err-part.ensures.1 in
    rw (p.1, p.2) (fault_at c.args.pieces.now c.join.piece-index _ (parts_view c.join.parts) _ c.join-test.true c.join.invariant c.in_err-part.ensures)

pub join-preserved : goal.join-preserved
join-preserved c =
    next_part c.args.pieces.now c.join.piece-index _ (parts_view c.join.parts) (parts_view c.add.new.parts) (part_view c.in_ok-part.field-0) c.join-test.true c.join.invariant c.in_ok-part.ensures c.in_ok-add.ensures
