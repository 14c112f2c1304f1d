use Rattle.wf_expr.proofs.Cuts.{found}
use Rattle.wf_expr.proofs.template.has_expressions.Goals as goal

pub returns : goal.returns
returns c = found c.args.text.now c.contains.result c.contains.ensures.cases
