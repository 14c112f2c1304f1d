use Rattle.std.proofs.Common.{◌≡◌, ◌++◌, drop, take, false}
use Rattle.wf_yaml_line.specs.Marks as texts
use Rattle.wf_yaml_line.proofs.marks.before_comment.Given as goal

abbrev pub invariant-loop-i : goal.invariant-loop-i
invariant-loop-i l = (take l.i l.s ++ texts.before_comment l.after_blank (drop l.i l.s) ≡ texts.before_comment false l.s) × (texts.has_comment l.after_blank (drop l.i l.s) ≡ texts.has_comment false l.s)
