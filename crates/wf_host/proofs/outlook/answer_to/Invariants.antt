use Rattle.std.proofs.Common.{◌≡◌, length}
use Rattle.wf_host.specs.Ahead.{answer_to}
use Rattle.wf_host.proofs.outlook.answer_to.Given as goal

-- the rest answers alike
abbrev pub invariant-loop-rest : goal.invariant-loop-rest
invariant-loop-rest l = answer_to l.rest l.to l.n ≡ answer_to l.services l.to l.n

abbrev pub decreases-loop-rest : goal.decreases-loop-rest
decreases-loop-rest l = length l.rest
