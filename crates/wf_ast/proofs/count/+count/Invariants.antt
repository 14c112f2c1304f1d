use Rattle.std.proofs.Common.{◌≡◌, length, min, ◌+◌, ◌≤◌, drop, map}
use Rattle.wf_ast.specs.Nodes.{arms_step_names, branches_step_names, step_names}
use Rattle.wf_ast.specs.Tree as t
use Rattle.wf_ast.specs.View.{arm_view, branch_view, step_view, arms_in, branches_in, steps_in}
use Rattle.wf_ast.proofs.count.+count.Given as goal

abbrev pub invariant-count_arms-loop-arm : goal.invariant-count_arms-loop-arm
invariant-count_arms-loop-arm l = record {
  same : min (l.total + length (arms_step_names (t.arms (map arm_view (drop l.arm-index l.arm-items))))) 18446744073709551615 ≡ min (length (arms_step_names (arms_in l.arms))) 18446744073709551615;
  fits : l.total ≤ 18446744073709551615;
}

abbrev pub invariant-count_branches-loop-branch : goal.invariant-count_branches-loop-branch
invariant-count_branches-loop-branch l = record {
  same : min (l.total + length (branches_step_names (t.branches (map branch_view (drop l.branch-index l.branch-items))))) 18446744073709551615 ≡ min (length (branches_step_names (branches_in l.branches))) 18446744073709551615;
  fits : l.total ≤ 18446744073709551615;
}

abbrev pub invariant-count_steps-loop-step : goal.invariant-count_steps-loop-step
invariant-count_steps-loop-step l = record {
  same : min (l.total + length (step_names (t.steps (map step_view (drop l.step-index l.step-items))))) 18446744073709551615 ≡ min (length (step_names (steps_in l.steps))) 18446744073709551615;
  fits : l.total ≤ 18446744073709551615;
}
