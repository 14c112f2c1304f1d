use Rattle.std.proofs.Common.{◌≡◌, ◌++◌, reverse, length}
use Rattle.wf_tree.proofs.json_text.path_of.Given as goal

abbrev pub invariant-loop-step : goal.invariant-loop-step
invariant-loop-step l = l.path ++ reverse l.left.items ≡ reverse l.fn.steps.items

abbrev pub decreases-loop-step : goal.decreases-loop-step
decreases-loop-step l = length l.left.items
