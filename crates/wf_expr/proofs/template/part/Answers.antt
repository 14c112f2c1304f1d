use Rattle.std.proofs.lemmas.Result.{err_from_is_err_and}
use Rattle.wf_expr.proofs.Joins.{hole_fault, open_fault}
use Rattle.wf_expr.proofs.template.part.Goals as goal

pub returns-in_err-parse-in-Hole : goal.returns-in_err-parse-in-Hole
returns-in_err-parse-in-Hole c =
    let p = err_from_is_err_and c.from_residual-in_err-parse-in-Hole.result c.from_residual-in_err-parse-in-Hole.ensures.1 in
    rw (p.1, p.2) (hole_fault c.args.piece.now c.in-Hole.source _ c.in-Hole.is c.in_err-parse-in-Hole.ensures.fault)

pub returns-in-Unclosed : goal.returns-in-Unclosed
returns-in-Unclosed c = rw c.end.ensures (open_fault c.args.piece.now c.in-Unclosed.text c.in-Unclosed.is)
