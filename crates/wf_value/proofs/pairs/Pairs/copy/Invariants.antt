use Rattle.std.proofs.Common.{◌≡◌, take}
use Rattle.wf_value.proofs.pairs.Pairs.copy.Given as goal

-- so far the first pairs
abbrev pub invariant-loop-pair : goal.invariant-loop-pair
invariant-loop-pair l = l.copy ≡ take l.pair-index l.pair-items
