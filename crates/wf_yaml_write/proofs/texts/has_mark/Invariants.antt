use Rattle.std.proofs.Common.{◌≡◌, length}
use Rattle.wf_yaml_write.specs.Layout.{has_mark}
use Rattle.wf_yaml_write.proofs.texts.has_mark.Given as goal

abbrev pub invariant-bytes : goal.invariant-bytes
invariant-bytes l = has_mark l.rest ≡ has_mark l.s

abbrev pub decreases-bytes : goal.decreases-bytes
decreases-bytes l = length l.rest
