use Rattle.std.specs.Prelude.{◌≡◌}
use Rattle.wf_history.specs.Stands.{unread}
use Rattle.wf_replay.proofs.Replays.{Kept}
use Rattle.wf_replay.proofs.replaying.replay.Given as goal

abbrev pub invariant-loop-machine : goal.invariant-loop-machine
invariant-loop-machine g l =
    Kept (g.H.Host.world l.fn.host) (g.H.Host.world l.host) (g.H.Host.faults l.fn.host) (g.H.Host.faults l.host) l.fn.history l.history l.fn.machine l.machine l.fn.steps l.steps ((l.history ≡ l.fn.history) × (l.host ≡ l.fn.host))

abbrev pub decreases-loop-machine : goal.decreases-loop-machine
decreases-loop-machine g l = unread l.history
