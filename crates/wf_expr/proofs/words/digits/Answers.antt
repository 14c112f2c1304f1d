use Rattle.wf_expr.proofs.Numbers.{number_refused}
use Rattle.wf_expr.proofs.words.digits.Goals as goal

pub returns-in-Err : goal.returns-in-Err
returns-in-Err c = number_refused c.args.text.now c.requires c.in-Err.ensures.value.0
