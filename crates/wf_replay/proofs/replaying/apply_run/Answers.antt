use Rattle.wf_events.specs.View.{event_view}
use Rattle.wf_machine.specs.Seen.{state_of}
use Rattle.wf_replay.proofs.Applying.{one_event}
use Rattle.wf_replay.proofs.replaying.apply_run.Goals as goal

pub returns-in-One : goal.returns-in-One
returns-in-One g c =
    rw c.in-One.is (one_event (state_of c.args.machine.now) (state_of c.apply.new.self) (event_view c.in-One.event) c.args.steps.now c.apply.new.steps c.apply.result c.apply.ensures)
