use Rattle.std.proofs.Common.{◌-◌, length}
use Rattle.wf_args.proofs.Steps.{Along}
use Rattle.wf_args.proofs.read.bad_word.Given as goal

abbrev pub invariant-loop-at : goal.invariant-loop-at
invariant-loop-at l = Along l.command l.options l.at

abbrev pub decreases-loop-at : goal.decreases-loop-at
decreases-loop-at l = length l.options - l.at
