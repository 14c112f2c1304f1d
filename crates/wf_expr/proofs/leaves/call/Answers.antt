use Rattle.std.proofs.Common.{sym, ◌∙◌}
use Rattle.wf_ast.proofs.Views.{view_call}
use Rattle.wf_expr.proofs.Library.{called}
use Rattle.wf_expr.proofs.leaves.call.Goals as goal

pub returns-in-Some : goal.returns-in-Some
returns-in-Some c = view_call c.in-Some.callee.func c.args.args ∙ called _ _ _ (sym c.in-Some.is ∙ c.function.ensures)
