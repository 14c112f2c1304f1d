use Rattle.std.proofs.Common.{arith, rules}
use Rattle.std.proofs.lemmas.Grind.{common_steps}
use Rattle.wf_ast.proofs.Views.{arms_level, branches_level, branch_level, steps_level}
use Rattle.wf_ast.specs.declared.body.Body.TheViews.{out-Branch}
use Rattle.wf_ast.proofs.count.+count.Goals as goal

pub count_arms-loop-arm-init : goal.count_arms-loop-arm-init
count_arms-loop-arm-init t c = rw (c.as_slice-arm-items.ensures.value, arms_level c.args.arms.now) (search rules)

pub count_branches-loop-branch-init : goal.count_branches-loop-branch-init
count_branches-loop-branch-init t c = rw (c.as_slice-branch-items.ensures.value, branches_level c.args.branches.now) (search rules)

pub count_branches-loop-branch-preserved : goal.count_branches-loop-branch-preserved
count_branches-loop-branch-preserved t c = grind (arith, common_steps, branch_level c.branch-item.result, steps_level (out-Branch c.branch-item.result).steps)

pub count_steps-loop-step-init : goal.count_steps-loop-step-init
count_steps-loop-step-init t c = rw (c.as_slice-step-items.ensures.value, steps_level c.args.steps.now) (search rules)
