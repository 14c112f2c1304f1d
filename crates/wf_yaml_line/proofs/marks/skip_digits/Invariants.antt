use Rattle.std.proofs.Common.{◌≡◌, ◌≤◌, length}
use Rattle.wf_yaml_line.specs.Marks as texts
use Rattle.wf_yaml_line.proofs.marks.skip_digits.Given as goal

abbrev pub invariant-digits : goal.invariant-digits
invariant-digits l = (texts.skip texts.is_digit l.rest ≡ texts.skip texts.is_digit l.s) × (length l.rest ≤ length l.s)

abbrev pub decreases-digits : goal.decreases-digits
decreases-digits l = length l.rest
