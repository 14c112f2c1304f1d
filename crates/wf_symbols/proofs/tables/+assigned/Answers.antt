use Rattle.std.proofs.Common.{map, refl, sym, ap, ◌∙◌, subst}
use Rattle.wf_ast.proofs.Views.{arms_level, steps_level}
use Rattle.wf_ast.specs.Nodes.{arms_assigned, assigned, entry_names}
use Rattle.wf_ast.specs.Tree as tree
use Rattle.wf_ast.specs.View.{arm_view, entry_view, step_view}
use Rattle.wf_symbols.proofs.Added.{adds_one, item_next, items_end}
use Rattle.wf_symbols.proofs.tables.+assigned.Goals as goal
use Rattle.wf_symbols.specs.Names.{Adds}

pub add_assigned-loop-step-preserved : goal.add_assigned-loop-step-preserved
add_assigned-loop-step-preserved t c =
    item_next (λ l. assigned (tree.steps (map step_view l))) c.items-step-items.result.now c.loop-step.step-index c.step-item.result _ _ _ _ _ c.loop-step-test.true c.step-item.is refl c.loop-step.invariant
    (c.in_ok-add_body_assigned.ensures)

pub add_assigned-returns : goal.add_assigned-returns
add_assigned-returns t c =
    subst (λ l. Adds c.args.names.now c.loop-step.names (assigned l)) (ap tree.steps c.items-step-items.ensures.view ∙ sym (steps_level c.args.steps.now))
    (items_end (λ l. assigned (tree.steps (map step_view l))) c.items-step-items.result.now c.loop-step.step-index _ _ _ c.loop-step-test.false refl c.loop-step.invariant)

pub add_body_assigned-loop-entry-preserved : goal.add_body_assigned-loop-entry-preserved
add_body_assigned-loop-entry-preserved t c =
    item_next (λ l. entry_names (map entry_view l)) c.items-entry-items.result.now c.loop-entry.entry-index c.entry-item.result _ _ _ _ _ c.loop-entry-test.true c.entry-item.is refl c.loop-entry.invariant
    (adds_one _ _ _ _ c.as_str.ensures c.in_ok-add-in-Assign.ensures.added)

pub add_arms_assigned-loop-arm-preserved : goal.add_arms_assigned-loop-arm-preserved
add_arms_assigned-loop-arm-preserved t c =
    item_next (λ l. arms_assigned (tree.arms (map arm_view l))) c.items-arm-items.result.now c.loop-arm.arm-index c.arm-item.result _ _ _ _ _ c.loop-arm-test.true c.arm-item.is refl c.loop-arm.invariant
    (c.in_ok-add_body_assigned.ensures)

pub add_arms_assigned-returns : goal.add_arms_assigned-returns
add_arms_assigned-returns t c =
    subst (λ l. Adds c.args.names.now c.loop-arm.names (arms_assigned l)) (ap tree.arms c.items-arm-items.ensures.view ∙ sym (arms_level c.args.arms.now))
    (items_end (λ l. arms_assigned (tree.arms (map arm_view l))) c.items-arm-items.result.now c.loop-arm.arm-index _ _ _ c.loop-arm-test.false refl c.loop-arm.invariant)
