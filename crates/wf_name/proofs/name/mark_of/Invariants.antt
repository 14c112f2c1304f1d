use Rattle.std.proofs.Common.{◌≡◌, ◌-◌, ◌≤◌, length, drop, min}
use Rattle.wf_name.specs.Marks.{digits}
use Rattle.wf_name.proofs.name.mark_of.Given as goal

abbrev pub invariant-loop-at : goal.invariant-loop-at
invariant-loop-at l = (l.at ≤ 7) × (l.mark ≡ digits (7 - l.at) (drop l.at l.name) (min (length l.name) 8))

abbrev pub decreases-loop-at : goal.decreases-loop-at
decreases-loop-at l = l.at
