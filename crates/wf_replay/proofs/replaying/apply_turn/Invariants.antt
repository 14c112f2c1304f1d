use Rattle.std.proofs.Common.{◌≡◌, ◌+◌, false, drop, length}
use Rattle.wf_events.specs.Runs.{runs_view}
use Rattle.wf_machine.specs.Seen.{state_of}
use Rattle.wf_replay.proofs.Events.{leads}
use Rattle.wf_replay.proofs.replaying.apply_turn.Given as goal

-- the runs that are left lead where all of them did, and the events of the others are counted
abbrev pub invariant-loop-run : goal.invariant-loop-run
invariant-loop-run g l =
    (leads l.fn.machine (runs_view l.runs) ≡ leads l.machine (runs_view (drop l.run-index l.runs))) × ((state_of l.machine).program ≡ (state_of l.fn.machine).program) × ((state_of l.machine).broken ≡ false)
    × (l.steps + length (runs_view (drop l.run-index l.runs)) ≡ l.fn.steps + length (runs_view l.runs))
