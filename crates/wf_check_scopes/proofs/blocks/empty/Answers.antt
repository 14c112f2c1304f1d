use Rattle.std.proofs.Common.{codes, sym, ap, ◌∙◌}
use Rattle.wf_ast.proofs.Views.{steps_level}
use Rattle.wf_ast.specs.Blocks.{at_if, has_no_steps, rule_empty}
use Rattle.wf_ast.specs.Nodes.{below}
use Rattle.wf_diagnostics.proofs.Told.{tells_as}
use Rattle.wf_check_scopes.proofs.blocks.empty.Goals as goal
use Rattle.wf_diagnostics.specs.Parts.{part_view}
use Rattle.wf_diagnostics.specs.Said.{as_said}
use Rattle.wf_diagnostics.specs.declared.kind.CheckKind.TheVariants as kinds

pub returns-in-Flow : goal.returns-in-Flow
returns-in-Flow c =
    tells_as c.speak_at.result _ _ (λ path. ap (as_said kinds.EmptySteps) (ap (λ b. at_if b (below path (codes "steps"))) (c.is_empty.ensures ∙ ap has_no_steps (steps_level c.in-Flow.flow.now.steps))
    ∙ sym (ap (λ p. rule_empty (part_view p) path) c.in-Flow.is))) c.speak_at.ensures
