use Rattle.std.proofs.Common.{length}
use Rattle.wf_scope.proofs.written.+written.Given as goal

-- the places that are left
abbrev pub decreases-written : goal.decreases-written
decreases-written l = length l.path.now
