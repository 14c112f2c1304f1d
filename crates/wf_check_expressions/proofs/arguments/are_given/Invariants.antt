use Rattle.std.proofs.Common.{◌≡◌, drop, map}
use Rattle.wf_ast.specs.Func.{all_among}
use Rattle.wf_ast.specs.Tree.{field_names, fields}
use Rattle.wf_ast.specs.View.{field_view}
use Rattle.wf_check_expressions.proofs.arguments.are_given.Given as goal

-- what is left tells
abbrev pub invariant-loop-need : goal.invariant-loop-need
invariant-loop-need l = all_among (map (λ n. n.now) l.needs) (field_names (fields (map field_view l.arguments))) ≡ all_among (map (λ n. n.now) (drop l.need-index l.needs)) (field_names (fields (map field_view l.arguments)))
