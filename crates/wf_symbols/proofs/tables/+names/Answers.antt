use Rattle.std.proofs.Common.{◌∷◌, [], map, refl, sym, ap, ◌∙◌, subst}
use Rattle.wf_ast.proofs.Views.{arms_level, branches_level, branch_level, steps_level}
use Rattle.wf_ast.specs.Nodes.{arms_step_names, branches_step_names, step_names}
use Rattle.wf_ast.specs.Tree as tree
use Rattle.wf_ast.specs.View.{arm_view, branch_view, step_view}
use Rattle.wf_symbols.proofs.Added.{adds_one, adds_then, item_next, items_end}
use Rattle.wf_symbols.proofs.Bodies.{tried_names}
use Rattle.wf_symbols.proofs.tables.+names.Goals as goal
use Rattle.wf_symbols.specs.Names.{Adds}
use Rattle.wf_ast.specs.declared.body.Body.TheViews.{out-Branch}

pub add_step_names-loop-step-preserved : goal.add_step_names-loop-step-preserved
add_step_names-loop-step-preserved t c =
    item_next (λ l. step_names (tree.steps (map step_view l))) c.items-step-items.result.now c.loop-step.step-index c.step-item.result _ _ _ _ _ c.loop-step-test.true c.step-item.is refl c.loop-step.invariant
    (adds_then _ _ _ (c.step-item.result.name ∷ []) _ (adds_one _ _ _ _ c.as_str.ensures c.in_ok-add.ensures.added) c.in_ok-add_body_names.ensures)

pub add_step_names-returns : goal.add_step_names-returns
add_step_names-returns t c =
    subst (λ l. Adds c.args.names.now c.loop-step.names (step_names l)) (ap tree.steps c.items-step-items.ensures.view ∙ sym (steps_level c.args.steps.now))
    (items_end (λ l. step_names (tree.steps (map step_view l))) c.items-step-items.result.now c.loop-step.step-index _ _ _ c.loop-step-test.false refl c.loop-step.invariant)

pub add_arms_names-loop-arm-preserved : goal.add_arms_names-loop-arm-preserved
add_arms_names-loop-arm-preserved t c =
    item_next (λ l. arms_step_names (tree.arms (map arm_view l))) c.items-arm-items.result.now c.loop-arm.arm-index c.arm-item.result _ _ _ _ _ c.loop-arm-test.true c.arm-item.is refl c.loop-arm.invariant
    (c.in_ok-add_body_names.ensures)

pub add_arms_names-returns : goal.add_arms_names-returns
add_arms_names-returns t c =
    subst (λ l. Adds c.args.names.now c.loop-arm.names (arms_step_names l)) (ap tree.arms c.items-arm-items.ensures.view ∙ sym (arms_level c.args.arms.now))
    (items_end (λ l. arms_step_names (tree.arms (map arm_view l))) c.items-arm-items.result.now c.loop-arm.arm-index _ _ _ c.loop-arm-test.false refl c.loop-arm.invariant)

pub add_branches_names-loop-branch-preserved : goal.add_branches_names-loop-branch-preserved
add_branches_names-loop-branch-preserved t c =
    let b = out-Branch c.branch-item.result in
    let e = branch_level c.branch-item.result in
    item_next (λ l. branches_step_names (tree.branches (map branch_view l))) c.items-branch-items.result.now c.loop-branch.branch-index c.branch-item.result (step_names (branch_view c.branch-item.result).1) _ _ _ _ c.loop-branch-test.true c.branch-item.is refl c.loop-branch.invariant
    (subst (λ p. Adds c.loop-branch.names c.add_step_names.new.names (step_names p)) (steps_level b.steps ∙ sym (ap (λ p. p.1) e)) c.in_ok-add_step_names.ensures)

pub add_branches_names-returns : goal.add_branches_names-returns
add_branches_names-returns t c =
    subst (λ l. Adds c.args.names.now c.loop-branch.names (branches_step_names l)) (ap tree.branches c.items-branch-items.ensures.view ∙ sym (branches_level c.args.branches.now))
    (items_end (λ l. branches_step_names (tree.branches (map branch_view l))) c.items-branch-items.result.now c.loop-branch.branch-index _ _ _ c.loop-branch-test.false refl c.loop-branch.invariant)

pub add_try_names-returns-in_ok-add_step_names-in-Some : goal.add_try_names-returns-in_ok-add_step_names-in-Some
add_try_names-returns-in_ok-add_step_names-in-Some t c =
    let both = adds_then _ _ _ _ _ c.in_ok-add_body_names.ensures c.in_ok-add_step_names-in-Some.ensures in
    subst (λ l. Adds c.args.names.now c.add_step_names.new.names l) (tried_names c.args.tried.now c.deref.result.now c.in-Some.except c.deref.ensures c.in-Some.is) both
