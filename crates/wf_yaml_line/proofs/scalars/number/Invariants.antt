use Rattle.std.proofs.Common.{◌≡◌, drop}
use Rattle.wf_yaml_line.specs.Words as words
use Rattle.wf_yaml_line.proofs.scalars.number.Given as goal

abbrev pub invariant-loop-c : goal.invariant-loop-c
invariant-loop-c l = words.number_from l.base l.n (drop l.c-index l.s) ≡ words.number_from l.base 0 l.s
