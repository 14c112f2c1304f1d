use Rattle.std.proofs.Common.{◌≡◌, length}
use Rattle.wf_value.specs.LibTime.{has_form}
use Rattle.wf_lib_time.proofs.form.has_form.Given as goal

abbrev pub invariant-bytes : goal.invariant-bytes
invariant-bytes l = has_form l.form l.text ≡ has_form l.fn.form l.fn.text

abbrev pub decreases-bytes : goal.decreases-bytes
decreases-bytes l = length l.text
