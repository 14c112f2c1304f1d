use Rattle.std.proofs.Common.{◌≡◌, ◌≢◌}
use Rattle.wf_engine.proofs.Waiting.{Waiting}
use Rattle.wf_engine.proofs.engine.Engine.session.Given as goal
use Rattle.wf_engine.specs.Engine.{memory}
use Rattle.wf_model.specs.Config.{Active}

-- with an outcome nothing was done
abbrev pub invariant-loop-left : goal.invariant-loop-left
invariant-loop-left g l =
    Waiting (g.H.Host.world l.fn.host) (g.H.Host.world l.host) (g.H.Host.faults l.fn.host) (g.H.Host.faults l.host) l.fn.self l.self l.waits l.left
    ((memory l.fn.self).config.outcome ≢ Active → (l.host ≡ l.fn.host) × ((memory l.self).config ≡ (memory l.fn.self).config))

abbrev pub decreases-loop-left : goal.decreases-loop-left
decreases-loop-left g l = l.left
