use Rattle.std.proofs.Common.{[], ◌∷◌, map, refl}
use Rattle.wf_ast.specs.Tree.{field_names, fields}
use Rattle.wf_ast.specs.View.{field_view}
use Rattle.wf_symbols.proofs.Added.{adds_one, item_next, items_end, only_those}
use Rattle.wf_check_expressions.proofs.arguments.argument_names.Goals as goal

pub loop-argument-preserved : goal.loop-argument-preserved
loop-argument-preserved c =
    item_next (λ l. field_names (fields (map field_view l))) c.args.arguments.now c.loop-argument.argument-index c.argument-item.result (c.argument-item.result.name ∷ []) _ _ _ _ c.loop-argument-test.true c.argument-item.is refl c.loop-argument.invariant
    (adds_one _ _ _ _ c.as_str.ensures c.in_ok-add.ensures.added)

pub returns : goal.returns
returns c =
    only_those c.new-names.result c.loop-argument.names (field_names (fields (map field_view c.args.arguments.now))) c.new-names.ensures
    (items_end (λ l. field_names (fields (map field_view l))) c.args.arguments.now c.loop-argument.argument-index _ _ _ c.loop-argument-test.false refl c.loop-argument.invariant)
