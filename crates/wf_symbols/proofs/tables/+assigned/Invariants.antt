use Rattle.std.proofs.Common.{drop, map}
use Rattle.wf_ast.specs.Nodes.{arms_assigned, assigned, entry_names}
use Rattle.wf_ast.specs.Tree as t
use Rattle.wf_ast.specs.View.{arm_view, entry_view, step_view}
use Rattle.wf_symbols.proofs.Added.{AddsOn}
use Rattle.wf_symbols.proofs.tables.+assigned.Given as goal

abbrev pub invariant-add_assigned-loop-step : goal.invariant-add_assigned-loop-step
invariant-add_assigned-loop-step l = AddsOn l.initial.names l.names (assigned (t.steps (map step_view l.step-items))) (assigned (t.steps (map step_view (drop l.step-index l.step-items))))

abbrev pub invariant-add_body_assigned-loop-entry : goal.invariant-add_body_assigned-loop-entry
invariant-add_body_assigned-loop-entry l = AddsOn l.initial.names l.names (entry_names (map entry_view l.entry-items)) (entry_names (map entry_view (drop l.entry-index l.entry-items)))

abbrev pub invariant-add_arms_assigned-loop-arm : goal.invariant-add_arms_assigned-loop-arm
invariant-add_arms_assigned-loop-arm l = AddsOn l.initial.names l.names (arms_assigned (t.arms (map arm_view l.arm-items))) (arms_assigned (t.arms (map arm_view (drop l.arm-index l.arm-items))))
