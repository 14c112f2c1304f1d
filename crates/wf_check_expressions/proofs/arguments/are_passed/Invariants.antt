use Rattle.std.proofs.Common.{◌≡◌, drop, map}
use Rattle.wf_ast.specs.Accept.{required}
use Rattle.wf_ast.specs.Func.{all_among}
use Rattle.wf_ast.specs.View.{param_view}
use Rattle.wf_check_expressions.proofs.arguments.are_passed.Given as goal
use Rattle.wf_symbols.specs.Names.{names_of}

-- what is left tells
abbrev pub invariant-loop-param : goal.invariant-loop-param
invariant-loop-param l = all_among (required (map param_view l.params)) (names_of l.given) ≡ all_among (required (map param_view (drop l.param-index l.params))) (names_of l.given)
