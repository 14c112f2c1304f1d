use Rattle.std.proofs.Common.{map, sym, ap, ◌∙◌}
use Rattle.std.proofs.lemmas.Result.{err_from_is_err_and}
use Rattle.wf_expr.proofs.Joins.{whole_fault}
use Rattle.wf_expr.specs.Splits.{piece_of}
use Rattle.wf_expr.proofs.template.parse_template.Goals as goal

pub returns-in_err-parse-in-Some-clause-fault : goal.returns-in_err-parse-in-Some-clause-fault
returns-in_err-parse-in-Some-clause-fault c =
    let p = err_from_is_err_and c.from_residual-in_err-parse-in-Some.result c.from_residual-in_err-parse-in-Some.ensures.1 in
    let alone = ap (map piece_of) (sym c.deref.ensures.value) ∙ c.in-Some.ensures in
    rw (p.1, p.2) (whole_fault c.args.text.now c.in-Some.source.now (map piece_of c.in_ok-pieces.pieces.items) _ c.in_ok-pieces.ensures alone c.in_err-parse-in-Some.ensures.fault)
