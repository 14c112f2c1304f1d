use Rattle.std.proofs.Common.{◌≡◌, ◌+◌, false, replicate}
use Rattle.wf_machine.specs.Seen.{state_of}
use Rattle.wf_replay.proofs.Events.{leads}
use Rattle.wf_replay.proofs.replaying.apply_moves.Given as goal
use Rattle.wf_value.specs.Events.{Move}

-- the moves that are left lead where all of them did, and the others are counted
abbrev pub invariant-loop-left : goal.invariant-loop-left
invariant-loop-left g l =
    (leads l.fn.machine (replicate l.count (Move 0)) ≡ leads l.machine (replicate l.left (Move 0))) × ((state_of l.machine).program ≡ (state_of l.fn.machine).program) × ((state_of l.machine).broken ≡ false)
    × (l.steps + l.left ≡ l.fn.steps + l.count)

abbrev pub decreases-loop-left : goal.decreases-loop-left
decreases-loop-left g l = l.left
