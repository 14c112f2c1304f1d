use Rattle.std.proofs.Common.{◌≡◌, ◌≤◌, ℕ}
use Rattle.wf_assigned.proofs.solve.fill.Given as goal
use Rattle.wf_assigned.specs.Links.{word_at}

-- the others are as they were
abbrev pub invariant-loop-place : goal.invariant-loop-place
invariant-loop-place l = (i : ℕ) → l.count ≤ i → word_at l.words i ≡ word_at l.fn.words i
