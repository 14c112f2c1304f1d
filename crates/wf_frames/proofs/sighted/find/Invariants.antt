use Rattle.std.proofs.Common.{◌≡◌, length}
use Rattle.wf_ast.specs.Apply.{env_in}
use Rattle.wf_frames.proofs.sighted.find.Given as goal

-- what is left tells
abbrev pub invariant-loop-rest : goal.invariant-loop-rest
invariant-loop-rest l = env_in l.pairs l.key ≡ env_in l.rest l.key

abbrev pub decreases-loop-rest : goal.decreases-loop-rest
decreases-loop-rest l = length l.rest
