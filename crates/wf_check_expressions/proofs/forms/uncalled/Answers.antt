use Rattle.wf_ast.specs.Func.{func_named, special_named}
use Rattle.wf_check_expressions.proofs.Calling.{listed}
use Rattle.wf_check_expressions.proofs.forms.uncalled.Goals as goal

pub returns-in-Some : goal.returns-in-Some
returns-in-Some c = listed c.function_named.result (func_named c.args.name.now) (special_named c.args.name.now) c.function_named.ensures c.in-Some.field-0 c.in-Some.is
