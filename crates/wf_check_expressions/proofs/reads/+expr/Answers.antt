use Rattle.std.proofs.Common.{◌∙◌, map}
use Rattle.wf_check_expressions.proofs.Seen.{call_told}
use Rattle.wf_check_expressions.proofs.reads.+expr.Goals as goal
use Rattle.wf_symbols.specs.Around.{layer_view}

pub sees_expr-returns-in-Call : goal.sees_expr-returns-in-Call
sees_expr-returns-in-Call t c = c.sees_exprs.ensures ∙ call_told (map layer_view c.args.layers.now) c.args.e.now c.in-Call.field-0 c.in-Call.arguments c.items.result.now c.in-Call.is c.items.ensures.items
