use Rattle.wf_expr.proofs.OneTemplate.{not_both, one_template}
use Rattle.wf_expr.proofs.template_laws.one_template.Goals as goal

pub returns-clause-one : goal.returns-clause-one
returns-clause-one c = one_template c.one_expression.ensures.one

pub returns-clause-apart : goal.returns-clause-apart
returns-clause-apart c = not_both c.one_expression.ensures.apart
