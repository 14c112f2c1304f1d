use Rattle.std.proofs.Common.{◌≡◌, take}
use Rattle.wf_yaml_write.proofs.texts.characters.Given as goal

abbrev pub invariant-loop-b : goal.invariant-loop-b
invariant-loop-b l = l.list.items ≡ take l.b-index l.s
