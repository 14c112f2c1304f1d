use Rattle.std.proofs.Common.{◌-◌, suc, length}
use Rattle.wf_connections.specs.Lines.{AreRead, AreSame}
use Rattle.wf_connections.proofs.lines.reach.Given as goal

abbrev pub invariant-loop-lines : goal.invariant-loop-lines
invariant-loop-lines l = AreSame l.fn.lines.items l.lines.items × (AreRead l.fn.lines.items → AreRead l.lines.items)

abbrev pub decreases-loop-lines : goal.decreases-loop-lines
decreases-loop-lines l = suc l.i - length l.lines.items
