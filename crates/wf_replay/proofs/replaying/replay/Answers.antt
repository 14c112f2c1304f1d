use Rattle.std.proofs.Common.{refl}
use Rattle.wf_host.proofs.Printings.{NoneFell-refl}
use Rattle.wf_replay.proofs.Replays.{starts}
use Rattle.wf_replay.proofs.replaying.replay.Goals as goal

pub loop-machine-init : goal.loop-machine-init
loop-machine-init g c = record {
  so_far = λ told. starts (g.H.Host.world c.args.host.now) c.args.history.now c.args.machine c.args.steps.now (λ i d left. g.met.H.Host.only_now c.args.host.now i d told left) (λ open_now. c.requires.kept open_now told);
  closed = refl;
  new = refl;
  whole = c.requires.whole;
  tells = refl;
  counts = NoneFell-refl (g.H.Host.faults c.args.host.now);
  idle = λ _. (refl, refl);
}
