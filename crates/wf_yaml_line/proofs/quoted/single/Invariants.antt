use Rattle.std.proofs.Common.{◌≡◌, drop, true, false}
use Rattle.wf_yaml_line.specs.Quoted as texts
use Rattle.wf_yaml_line.specs.Views.{onto}
use Rattle.wf_yaml_line.proofs.quoted.single.Given as goal

abbrev pub invariant-loop-i : goal.invariant-loop-i
invariant-loop-i l = onto l.chars.items true (texts.single l.after_quote (drop l.i l.s)) ≡ texts.single false l.s
