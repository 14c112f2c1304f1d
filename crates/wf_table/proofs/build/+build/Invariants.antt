use Rattle.std.proofs.Common.{ℕ, List, drop}
use Rattle.wf_table.proofs.Going.{Going}
use Rattle.wf_table.proofs.Laid.{arm_parts, branch_parts, numbers_of_arms, numbers_of_branches, numbers_of_steps, step_parts}
use Rattle.wf_table.proofs.build.+build.Given as goal
use Rattle.wf_table.specs.Made.{StandsIn}

abbrev pub invariant-block-loop-step : goal.invariant-block-loop-step
invariant-block-loop-step l = (os : List ℕ) → StandsIn l.inner os
    → Going (step_parts os) numbers_of_steps l.initial.nodes.items l.nodes.items l.step-items (drop l.step-index l.step-items) l.numbers.items

abbrev pub invariant-arms-loop-item : goal.invariant-arms-loop-item
invariant-arms-loop-item l = (os : List ℕ) → StandsIn l.here os
    → Going (arm_parts os) numbers_of_arms l.initial.nodes.items l.nodes.items l.arms (drop l.item-index l.arms) l.numbers.items

abbrev pub invariant-branches-loop-item : goal.invariant-branches-loop-item
invariant-branches-loop-item l = (os : List ℕ) → StandsIn l.here os
    → Going (branch_parts os) numbers_of_branches l.initial.nodes.items l.nodes.items l.branches (drop l.item-index l.branches) l.numbers.items
