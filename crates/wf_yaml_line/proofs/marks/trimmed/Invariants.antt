use Rattle.std.proofs.Common.{◌≡◌, ◌≤◌, length, take}
use Rattle.wf_yaml_line.specs.Marks as texts
use Rattle.wf_yaml_line.proofs.marks.trimmed.Given as goal

abbrev pub invariant-loop-n : goal.invariant-loop-n
invariant-loop-n l = (l.n ≤ length l.s) × (texts.trimmed (take l.n l.s) ≡ texts.trimmed l.s)

abbrev pub decreases-loop-n : goal.decreases-loop-n
decreases-loop-n l = l.n
