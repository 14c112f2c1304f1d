use Rattle.std.proofs.Common.{Some, ap, ◌∙◌}
use Rattle.wf_ast.specs.Func.{func_named}
use Rattle.wf_expr.proofs.Library.{found, lacks}
use Rattle.wf_expr.proofs.functions.function.Goals as goal

pub returns-in-Some : goal.returns-in-Some
returns-in-Some c =
    ap Some c.callee.ensures
    ∙ found c.function_named.result (func_named c.args.name.now) c.in-Some.function c.in-Some.is c.function_named.ensures

pub returns-in-None : goal.returns-in-None
returns-in-None c = lacks c.function_named.result (func_named c.args.name.now) c.in-None.is c.function_named.ensures
