use Rattle.std.proofs.Common.{length}
use Rattle.wf_frames.proofs.places.+fault_below.Given as goal

-- the places that are left
abbrev pub decreases-fault_below : goal.decreases-fault_below
decreases-fault_below l = length l.places.now
