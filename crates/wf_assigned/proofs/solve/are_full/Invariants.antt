use Rattle.wf_assigned.proofs.solve.are_full.Given as goal
use Rattle.wf_assigned.specs.Links.{AreFull}

-- those so far are full
abbrev pub invariant-loop-place : goal.invariant-loop-place
invariant-loop-place l = AreFull l.place l.words
