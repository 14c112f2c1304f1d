use Rattle.std.proofs.Common.{ℕ}
use Rattle.wf_assigned.proofs.solve.Order.carry.Given as goal
use Rattle.wf_assigned.specs.Links.{AreWays}

-- ways give the bits still
abbrev pub invariant-loop : goal.invariant-loop
invariant-loop l = (count : ℕ) → AreWays count l.links l.written l.fn.words → AreWays count l.links l.written l.words
