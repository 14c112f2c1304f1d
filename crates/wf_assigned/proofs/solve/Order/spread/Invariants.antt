use Rattle.std.proofs.Common.{ℕ}
use Rattle.wf_assigned.proofs.solve.Order.spread.Given as goal
use Rattle.wf_assigned.specs.Links.{AreWays}

-- ways give the bits still
abbrev pub invariant-loop-index : goal.invariant-loop-index
invariant-loop-index l = (count : ℕ) → AreWays count l.links l.written l.fn.words → AreWays count l.links l.written l.words
