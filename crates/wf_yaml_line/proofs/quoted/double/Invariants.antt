use Rattle.std.proofs.Common.{◌≡◌, drop, false}
use Rattle.wf_yaml_line.specs.Quoted as texts
use Rattle.wf_yaml_line.specs.Views.{onto}
use Rattle.wf_yaml_line.proofs.quoted.double.Given as goal

abbrev pub invariant-loop-i : goal.invariant-loop-i
invariant-loop-i l = onto l.chars.items l.good (texts.double l.escaped l.skip (drop l.i l.s)) ≡ texts.double false 0 l.s
