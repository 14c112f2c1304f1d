use Rattle.std.proofs.Common.{◌≡◌, ◌++◌, length}
use Rattle.wf_host.specs.Ahead.{pieces}
use Rattle.wf_host.proofs.outlook.pieces_of.Given as goal

-- what was copied stands in front of the rest
abbrev pub invariant-loop-rest : goal.invariant-loop-rest
invariant-loop-rest l = l.things.items ++ pieces l.call l.rest ≡ pieces l.call l.found

abbrev pub decreases-loop-rest : goal.decreases-loop-rest
decreases-loop-rest l = length l.rest
