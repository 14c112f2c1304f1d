use Rattle.wf_expr.proofs.Judged.{spelled_fault, stopped, stopped_fault}
use Rattle.wf_expr.specs.Begins.{IsExpression}
use Rattle.wf_expr.proofs.source.of_symbols.Goals as goal

pub returns-in-Ok-Some : goal.returns-in-Ok-Some
returns-in-Ok-Some c = spelled_fault c.args.src.now _ _ _ c.in-Ok.ensures (rw c.in-Ok-Some.field-0-is at c.in-Ok-Some.ensures)

pub returns-in-Ok-None-first_fault : goal.returns-in-Ok-None-first_fault
returns-in-Ok-None-first_fault c =
    rw (c.place.ensures, c.split_at.ensures.back) (stopped IsExpression c.args.src.now c.args.symbols.now c.in-Err-Syntax.left (rw c.in-Err-Syntax.field-0-is at c.in-Err-Syntax.ensures) (rw (c.in-Ok-None-first_fault.field-0-is, c.split_at.ensures.front) at c.in-Ok-None-first_fault.ensures))

pub returns-in-Ok-Some-first_fault : goal.returns-in-Ok-Some-first_fault
returns-in-Ok-Some-first_fault c =
    stopped_fault IsExpression c.args.src.now c.args.symbols.now c.in-Err-Syntax.left _ (rw c.in-Err-Syntax.field-0-is at c.in-Err-Syntax.ensures) (rw (c.in-Ok-Some-first_fault.field-0-is, c.split_at.ensures.front) at c.in-Ok-Some-first_fault.ensures)
