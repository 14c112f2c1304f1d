use Rattle.std.proofs.Common.{◌∙◌}
use Rattle.wf_ast.proofs.Table.{all_parts, either}
use Rattle.wf_ast.proofs.functions.function_named.Goals as goal

pub returns : goal.returns
returns c =
    either _ _ c.or-3.result _ _ c.or-3.ensures
    (either _ _ c.or-2.result _ _ c.or-2.ensures
    (either _ _ c.or.result _ _ c.or.ensures c.basic_function.ensures c.text_function.ensures)
    c.value_function.ensures)
    c.system_function.ensures
    ∙ all_parts c.args.name.now
