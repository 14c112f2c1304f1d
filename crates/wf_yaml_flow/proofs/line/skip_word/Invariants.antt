use Rattle.std.proofs.Common.{◌≡◌, length, not}
use Rattle.wf_yaml_line.specs.Marks as marks
use Rattle.wf_yaml_flow.proofs.line.skip_word.Given as goal

abbrev pub invariant-word : goal.invariant-word
invariant-word l = marks.skip (λ b. not (marks.is_blank b)) l.rest ≡ marks.skip (λ b. not (marks.is_blank b)) l.s

abbrev pub decreases-word : goal.decreases-word
decreases-word l = length l.rest
