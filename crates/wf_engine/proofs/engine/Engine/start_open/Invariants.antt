use Rattle.wf_engine.proofs.CallsSent.{Starting}
use Rattle.wf_engine.proofs.engine.Engine.start_open.Given as goal

abbrev pub invariant-loop-place : goal.invariant-loop-place
invariant-loop-place g l = Starting (g.H.Host.world l.fn.host) (g.H.Host.world l.host) (g.H.Host.faults l.fn.host) (g.H.Host.faults l.host) l.fn.self l.self l.place
