use Rattle.std.proofs.Common.{◌≡◌, ◌++◌, drop, map}
use Rattle.wf_ast.specs.Func.{all_among}
use Rattle.wf_ast.specs.Tree.{field_names, fields}
use Rattle.wf_ast.specs.View.{field_view}
use Rattle.wf_check_expressions.proofs.arguments.are_taken.Given as goal
use Rattle.wf_ast.specs.Functions.{signature_of}

-- what is left tells
abbrev pub invariant-loop-argument : goal.invariant-loop-argument
invariant-loop-argument l = all_among (field_names (fields (map field_view l.arguments))) ((signature_of l.names).needs ++ (signature_of l.names).may) ≡ all_among (field_names (fields (map field_view (drop l.argument-index l.arguments)))) ((signature_of l.names).needs ++ (signature_of l.names).may)
