use Rattle.std.proofs.Common.{drop, map}
use Rattle.wf_ast.specs.Nodes.{arms_step_names, branches_step_names, step_names}
use Rattle.wf_ast.specs.Tree as t
use Rattle.wf_ast.specs.View.{arm_view, branch_view, step_view}
use Rattle.wf_symbols.proofs.Added.{AddsOn}
use Rattle.wf_symbols.proofs.tables.+names.Given as goal

abbrev pub invariant-add_step_names-loop-step : goal.invariant-add_step_names-loop-step
invariant-add_step_names-loop-step l = AddsOn l.initial.names l.names (step_names (t.steps (map step_view l.step-items))) (step_names (t.steps (map step_view (drop l.step-index l.step-items))))

abbrev pub invariant-add_arms_names-loop-arm : goal.invariant-add_arms_names-loop-arm
invariant-add_arms_names-loop-arm l = AddsOn l.initial.names l.names (arms_step_names (t.arms (map arm_view l.arm-items))) (arms_step_names (t.arms (map arm_view (drop l.arm-index l.arm-items))))

abbrev pub invariant-add_branches_names-loop-branch : goal.invariant-add_branches_names-loop-branch
invariant-add_branches_names-loop-branch l = AddsOn l.initial.names l.names (branches_step_names (t.branches (map branch_view l.branch-items))) (branches_step_names (t.branches (map branch_view (drop l.branch-index l.branch-items))))
