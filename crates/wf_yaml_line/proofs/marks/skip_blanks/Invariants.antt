use Rattle.std.proofs.Common.{◌≡◌, ◌≤◌, length}
use Rattle.wf_yaml_line.specs.Marks as texts
use Rattle.wf_yaml_line.proofs.marks.skip_blanks.Given as goal

abbrev pub invariant-skip : goal.invariant-skip
invariant-skip l = (texts.skip_blanks l.rest ≡ texts.skip_blanks l.s) × (length l.rest ≤ length l.s)

abbrev pub decreases-skip : goal.decreases-skip
decreases-skip l = length l.rest
