use Rattle.std.proofs.Common.{◌+◌, map, refl, sym, ap, ◌∙◌}
use Rattle.wf_assigned.proofs.Counting.{count_ends}
use Rattle.wf_assigned.proofs.sizes.+sizes.Goals as goal
use Rattle.wf_ast.proofs.Views.{arms_level, branches_level, steps_level}
use Rattle.wf_ast.specs.Tree as t
use Rattle.wf_ast.specs.View.{arm_view, branch_view, step_view}
use Rattle.wf_model.specs.Spots.{arms_size, branches_size, steps_size}

pub behind_steps-returns : goal.behind_steps-returns
behind_steps-returns u c =
    count_ends (λ l. steps_size (t.steps (map step_view l))) c.items-step-items.result.now c.loop-step.step-index c.loop-step.number _ c.loop-step-test.false refl c.loop-step.invariant
    ∙ ap (λ ss. c.args.first + steps_size ss) (ap t.steps c.items-step-items.ensures.view ∙ sym (steps_level c.args.steps.now))

pub behind_arms-returns : goal.behind_arms-returns
behind_arms-returns u c =
    count_ends (λ l. arms_size (t.arms (map arm_view l))) c.items-arm-items.result.now c.loop-arm.arm-index c.loop-arm.number _ c.loop-arm-test.false refl c.loop-arm.invariant
    ∙ ap (λ xs. c.args.first + arms_size xs) (ap t.arms c.items-arm-items.ensures.view ∙ sym (arms_level c.args.arms.now))

pub behind_branches-returns : goal.behind_branches-returns
behind_branches-returns u c =
    count_ends (λ l. branches_size (t.branches (map branch_view l))) c.items-branch-items.result.now c.loop-branch.branch-index c.loop-branch.number _ c.loop-branch-test.false refl c.loop-branch.invariant
    ∙ ap (λ bs. c.args.first + branches_size bs) (ap t.branches c.items-branch-items.ensures.view ∙ sym (branches_level c.args.branches.now))
