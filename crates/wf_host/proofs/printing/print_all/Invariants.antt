use Rattle.std.proofs.Common.{length}
use Rattle.wf_host.proofs.Printings.{Kept}
use Rattle.wf_host.proofs.printing.print_all.Given as goal

abbrev pub invariant-loop-rest : goal.invariant-loop-rest
invariant-loop-rest g l =
    Kept (g.H.Host.world l.fn.host) (g.H.Host.world l.host) (g.H.Host.faults l.fn.host) (g.H.Host.faults l.host) l.text l.rest

abbrev pub decreases-loop-rest : goal.decreases-loop-rest
decreases-loop-rest g l = length l.rest
