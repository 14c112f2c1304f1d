use Rattle.std.proofs.Common.{◌≡◌, ◌+◌, drop, map}
use Rattle.wf_assigned.proofs.sizes.+sizes.Given as goal
use Rattle.wf_ast.specs.Tree as t
use Rattle.wf_ast.specs.View.{arm_view, branch_view, step_view}
use Rattle.wf_model.specs.Spots.{arms_size, branches_size, steps_size}

-- the numbers of those that are left follow
abbrev pub invariant-behind_steps-loop-step : goal.invariant-behind_steps-loop-step
invariant-behind_steps-loop-step l = l.number + steps_size (t.steps (map step_view (drop l.step-index l.step-items))) ≡ l.first + steps_size (t.steps (map step_view l.step-items))

abbrev pub invariant-behind_arms-loop-arm : goal.invariant-behind_arms-loop-arm
invariant-behind_arms-loop-arm l = l.number + arms_size (t.arms (map arm_view (drop l.arm-index l.arm-items))) ≡ l.first + arms_size (t.arms (map arm_view l.arm-items))

abbrev pub invariant-behind_branches-loop-branch : goal.invariant-behind_branches-loop-branch
invariant-behind_branches-loop-branch l = l.number + branches_size (t.branches (map branch_view (drop l.branch-index l.branch-items))) ≡ l.first + branches_size (t.branches (map branch_view l.branch-items))
