use Rattle.std.proofs.Common.{◌≡◌, ◌⊎◌}
use Rattle.wf_deeds.specs.Memory.{IsSettled}
use Rattle.wf_engine.proofs.Settling.{Going, left}
use Rattle.wf_engine.proofs.engine.Engine.settle.Given as goal
use Rattle.wf_engine.specs.Engine.{memory}

-- nothing was done yet, or it wasn't settled
abbrev pub invariant-loop-self : goal.invariant-loop-self
invariant-loop-self g l =
    Going (g.H.Host.world l.fn.host) (g.H.Host.world l.host) (g.H.Host.faults l.fn.host) (g.H.Host.faults l.host) l.fn.self l.self
    (((l.self ≡ l.fn.self) × (l.host ≡ l.fn.host)) ⊎ (IsSettled (memory l.fn.self) → ⊥))

abbrev pub decreases-loop-self : goal.decreases-loop-self
decreases-loop-self g l = left (memory l.self)
