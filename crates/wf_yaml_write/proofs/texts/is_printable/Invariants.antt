use Rattle.std.proofs.Common.{◌≡◌, drop}
use Rattle.wf_yaml_write.specs.Layout.{is_printable}
use Rattle.wf_yaml_write.proofs.texts.is_printable.Given as goal

abbrev pub invariant-loop-b : goal.invariant-loop-b
invariant-loop-b l = is_printable (drop l.b-index l.s) ≡ is_printable l.s
