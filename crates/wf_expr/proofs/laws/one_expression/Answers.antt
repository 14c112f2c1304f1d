use Rattle.wf_expr.proofs.Ones.{not_both, one_derivation, one_expression}
use Rattle.wf_expr.proofs.laws.one_expression.Goals as goal

pub returns-clause-one : goal.returns-clause-one
returns-clause-one c = one_expression c.tokens_are_one.ensures

pub returns-clause-derivation : goal.returns-clause-derivation
returns-clause-derivation c = one_derivation

pub returns-clause-apart : goal.returns-clause-apart
returns-clause-apart c = not_both c.tokens_are_one.ensures
