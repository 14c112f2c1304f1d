use Rattle.std.proofs.Common.{◌+◌, ◌-◌, drop, length}
use Rattle.wf_lib_data.proofs.Merges.{Merges}
use Rattle.wf_lib_data.proofs.merging.merged.Given as goal

-- what is merged, and what is left of each
abbrev pub invariant-pairs : goal.invariant-pairs
invariant-pairs l = Merges l.whole (drop l.i l.first) (drop l.j l.second) l.first l.second

abbrev pub decreases-pairs : goal.decreases-pairs
decreases-pairs l = (length l.first - l.i) + (length l.second - l.j)
