use Rattle.std.proofs.Common.{◌+◌, ◌*◌, take}
use Rattle.wf_ast.specs.View.{arms_view, branches_view, steps_view}
use Rattle.wf_syntax_rules.specs.Faults.{AreSound}
use Rattle.wf_syntax_rules.specs.Meaning.{Each, IsStep}
use Rattle.wf_syntax_rules.specs.Rules.{Arm, Branch, Step, each}
use Rattle.wf_syntax.proofs.steps.+steps.Given as goal
use Rattle.wf_syntax.specs.Forms.{IsArm, IsBranch}
use Rattle.wf_tree.specs.Plain.{plain_items, plain_tree}
use Rattle.wf_tree.specs.Trees.{depth, items_of, pairs_depth, pairs_of}

abbrev pub invariant-steps-each : goal.invariant-steps-each
invariant-steps-each l = record {
  sound : AreSound (each Step 0 (items_of (take l.index (plain_items l.items))));
  steps : Each IsStep (steps_view l.made) (items_of (take l.index (plain_items l.items)));
}

abbrev pub invariant-arms-each : goal.invariant-arms-each
invariant-arms-each l = record {
  sound : AreSound (each Arm 0 (items_of (take l.index (plain_items l.items))));
  arms : Each IsArm (arms_view l.made) (items_of (take l.index (plain_items l.items)));
}

abbrev pub invariant-branches-each : goal.invariant-branches-each
invariant-branches-each l = record {
  sound : AreSound (each Branch 0 (items_of (take l.index (plain_items l.items))));
  branches : Each IsBranch (branches_view l.made) (items_of (take l.index (plain_items l.items)));
}

abbrev pub decreases-steps : goal.decreases-steps
decreases-steps l = 4 * depth (plain_tree l.tree.now)

abbrev pub decreases-steps_at : goal.decreases-steps_at
decreases-steps_at l = 4 * pairs_depth (pairs_of l.fields.now) + 1

abbrev pub decreases-step : goal.decreases-step
decreases-step l = 4 * depth (plain_tree l.tree.now)

abbrev pub decreases-step_body : goal.decreases-step_body
decreases-step_body l = 4 * depth (plain_tree l.tree.now)

abbrev pub decreases-parts : goal.decreases-parts
decreases-parts l = 4 * pairs_depth (pairs_of l.fields.now) + 3

abbrev pub decreases-loop_parts : goal.decreases-loop_parts
decreases-loop_parts l = 4 * pairs_depth (pairs_of l.fields.now) + 2

abbrev pub decreases-block_parts : goal.decreases-block_parts
decreases-block_parts l = 4 * pairs_depth (pairs_of l.fields.now) + 2

abbrev pub decreases-arms : goal.decreases-arms
decreases-arms l = 4 * depth (plain_tree l.tree.now)

abbrev pub decreases-arms_at : goal.decreases-arms_at
decreases-arms_at l = 4 * pairs_depth (pairs_of l.fields.now) + 1

abbrev pub decreases-arm : goal.decreases-arm
decreases-arm l = 4 * depth (plain_tree l.tree.now)

abbrev pub decreases-loop_body : goal.decreases-loop_body
decreases-loop_body l = 4 * depth (plain_tree l.tree.now)

abbrev pub decreases-loop_at : goal.decreases-loop_at
decreases-loop_at l = 4 * pairs_depth (pairs_of l.fields.now) + 1

abbrev pub decreases-parallel : goal.decreases-parallel
decreases-parallel l = 4 * depth (plain_tree l.tree.now)

abbrev pub decreases-parallel_at : goal.decreases-parallel_at
decreases-parallel_at l = 4 * pairs_depth (pairs_of l.fields.now) + 1

abbrev pub decreases-branches : goal.decreases-branches
decreases-branches l = 4 * depth (plain_tree l.tree.now)

abbrev pub decreases-branches_at : goal.decreases-branches_at
decreases-branches_at l = 4 * pairs_depth (pairs_of l.fields.now) + 1

abbrev pub decreases-branch : goal.decreases-branch
decreases-branch l = 4 * depth (plain_tree l.tree.now)

abbrev pub decreases-block : goal.decreases-block
decreases-block l = 4 * depth (plain_tree l.tree.now)

abbrev pub decreases-tried : goal.decreases-tried
decreases-tried l = 4 * depth (plain_tree l.tree.now)

abbrev pub decreases-try_at : goal.decreases-try_at
decreases-try_at l = 4 * pairs_depth (pairs_of l.fields.now) + 1

abbrev pub decreases-except : goal.decreases-except
decreases-except l = 4 * depth (plain_tree l.tree.now)

abbrev pub decreases-except_at : goal.decreases-except_at
decreases-except_at l = 4 * pairs_depth (pairs_of l.fields.now) + 1
