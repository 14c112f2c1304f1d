use Rattle.std.proofs.Common.{◌≡◌, ◌++◌, drop, take, false, option_map}
use Rattle.wf_yaml_line.specs.Marks as texts
use Rattle.wf_yaml_line.proofs.marks.around_colon.Given as goal

abbrev pub invariant-loop-i : goal.invariant-loop-i
invariant-loop-i l = option_map (λ p. (take l.i l.s ++ p.0, p.1)) (texts.around_colon l.after_blank (drop l.i l.s)) ≡ texts.around_colon false l.s
