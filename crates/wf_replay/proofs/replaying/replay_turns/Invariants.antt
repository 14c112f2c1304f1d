use Rattle.std.specs.Prelude.{◌≡◌, ◌≤◌}
use Rattle.wf_replay.proofs.Fronts.{Gone}
use Rattle.wf_replay.proofs.Replays.{Kept}
use Rattle.wf_replay.proofs.replaying.replay_turns.Given as goal

abbrev pub invariant-loop-left : goal.invariant-loop-left
invariant-loop-left g l =
    record {
      within : l.left ≤ l.turns;
      kept : Kept (g.H.Host.world l.fn.host) (g.H.Host.world l.host) (g.H.Host.faults l.fn.host) (g.H.Host.faults l.host) l.fn.history l.history l.fn.machine l.machine l.fn.steps l.steps ((l.history ≡ l.fn.history) × (l.host ≡ l.fn.host));
      gone : Gone (g.H.Host.world l.fn.host) l.fn.history l.history l.fn.machine l.machine l.turns l.left;
    }

abbrev pub decreases-loop-left : goal.decreases-loop-left
decreases-loop-left g l = l.left
