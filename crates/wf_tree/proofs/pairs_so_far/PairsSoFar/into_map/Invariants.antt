use Rattle.std.proofs.Common.{◌≡◌, ◌++◌}
use Rattle.wf_tree.proofs.pairs_so_far.PairsSoFar.into_map.Given as goal

abbrev pub invariant-loop-key : goal.invariant-loop-key
invariant-loop-key l = l.pairs.items ++ l.key-iterator ≡ l.initial.key-iterator
