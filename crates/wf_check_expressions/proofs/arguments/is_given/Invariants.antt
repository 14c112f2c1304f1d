use Rattle.std.proofs.Common.{◌≡◌, drop, map}
use Rattle.wf_ast.specs.Tree.{field_names, fields}
use Rattle.wf_ast.specs.View.{field_view}
use Rattle.wf_check_expressions.proofs.arguments.is_given.Given as goal
use Rattle.wf_value.specs.HttpRequest.{is_among}

-- what is left tells
abbrev pub invariant-loop-argument : goal.invariant-loop-argument
invariant-loop-argument l = is_among l.name (field_names (fields (map field_view l.arguments))) ≡ is_among l.name (field_names (fields (map field_view (drop l.argument-index l.arguments))))
