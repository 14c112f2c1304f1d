use Rattle.std.proofs.Common.{◌≤◌, ◌-◌, length}
use Rattle.wf_eval.proofs.functions.pair_count.Given as goal

abbrev pub invariant-loop-i : goal.invariant-loop-i
invariant-loop-i l = l.i ≤ length l.m

abbrev pub decreases-loop-i : goal.decreases-loop-i
decreases-loop-i l = length l.m - l.i
