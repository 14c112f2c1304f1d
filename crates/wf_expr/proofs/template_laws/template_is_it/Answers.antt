use Rattle.wf_expr.proofs.Made.{template_is_it}
use Rattle.wf_expr.proofs.template_laws.template_is_it.Goals as goal

pub returns : goal.returns
returns c = template_is_it
