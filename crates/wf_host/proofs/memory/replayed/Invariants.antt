use Rattle.std.proofs.Common.{◌≡◌, length}
use Rattle.wf_host.specs.Memory.{content}
use Rattle.wf_host.proofs.memory.replayed.Given as goal

-- the rest of the calls leads to the same file
abbrev pub invariant-loop-rest : goal.invariant-loop-rest
invariant-loop-rest l = content l.file.items l.rest ≡ content l.first l.past

abbrev pub decreases-loop-rest : goal.decreases-loop-rest
decreases-loop-rest l = length l.rest
