use Rattle.std.proofs.Common.{◌≡◌, ◌≤◌, ◌||◌, length, not}
use Rattle.wf_yaml_line.specs.Marks as marks
use Rattle.wf_yaml_flow.proofs.signs.skip_property.Given as goal

abbrev pub invariant-property : goal.invariant-property
invariant-property l = (marks.skip (λ b. not (marks.is_blank b || marks.is_flow_mark b)) l.rest ≡ marks.skip (λ b. not (marks.is_blank b || marks.is_flow_mark b)) l.s) × (length l.rest ≤ length l.s)

abbrev pub decreases-property : goal.decreases-property
decreases-property l = length l.rest
