use Rattle.std.proofs.Common.{length}
use Rattle.wf_check_scopes.proofs.variables.+may_write.Given as goal

abbrev pub decreases-may_write : goal.decreases-may_write
decreases-may_write l = length l.layers.now
