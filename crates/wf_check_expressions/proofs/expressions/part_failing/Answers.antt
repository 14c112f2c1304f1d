use Rattle.std.proofs.Common.{map, codes, sym, ap}
use Rattle.wf_ast.specs.View.{template_view}
use Rattle.wf_diagnostics.proofs.Told.{tells_as, tells_keyed}
use Rattle.wf_check_expressions.proofs.expressions.part_failing.Goals as goal
use Rattle.wf_check_expressions.specs.Expressions.{failing, part_failing}
use Rattle.wf_diagnostics.specs.Parts.{part_view}
use Rattle.wf_diagnostics.specs.Said.{as_said}
use Rattle.wf_check_expressions.specs.Tests.{sees}
use Rattle.wf_diagnostics.specs.declared.kind.CheckKind.TheVariants as kinds
use Rattle.wf_symbols.specs.Around.{layer_view}

pub returns-in-Arm : goal.returns-in-Arm
returns-in-Arm c =
    let fine = sees (map layer_view c.args.layers.now) in
    let kind = kinds.UnknownName in
    tells_as c.keyed.result _ _ (λ path. ap (as_said kind) (sym (ap (λ y. part_failing fine (part_view y) path) c.in-Arm.is)))
    (tells_keyed (codes "condition") c.failing-found.result c.keyed.result (λ path. as_said kind (failing fine (template_view c.in-Arm.arm.now.condition) path)) c.keyed.ensures c.failing-found.ensures)
