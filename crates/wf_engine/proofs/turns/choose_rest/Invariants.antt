use Rattle.std.proofs.Common.{◌≡◌, ◌+◌, ◌-◌, length}
use Rattle.wf_engine.proofs.Turning.{Gone}
use Rattle.wf_engine.proofs.turns.choose_rest.Given as goal
use Rattle.wf_events.specs.View.{events_view}
use Rattle.wf_machine.specs.Seen.{state_of}

abbrev pub invariant-loop-events : goal.invariant-loop-events
invariant-loop-events g l =
    Gone (state_of l.fn.machine) (state_of l.machine) l.fn.reading (events_view l.fn.events) (events_view l.events)
    × (l.steps + length (events_view l.fn.events) ≡ l.fn.steps + length (events_view l.events))

abbrev pub decreases-loop-events : goal.decreases-loop-events
decreases-loop-events g l = 4096 - length (events_view l.events)
