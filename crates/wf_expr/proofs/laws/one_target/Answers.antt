use Rattle.wf_expr.proofs.Ones.{not_target_and_refused, one_target}
use Rattle.wf_expr.proofs.laws.one_target.Goals as goal

pub returns-clause-one : goal.returns-clause-one
returns-clause-one c = one_target c.tokens_are_one.ensures

pub returns-clause-apart : goal.returns-clause-apart
returns-clause-apart c = not_target_and_refused c.tokens_are_one.ensures
