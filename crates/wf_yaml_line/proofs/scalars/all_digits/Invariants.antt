use Rattle.std.proofs.Common.{◌≡◌, drop}
use Rattle.wf_yaml_line.specs.Words as words
use Rattle.wf_yaml_line.proofs.scalars.all_digits.Given as goal

abbrev pub invariant-loop-c : goal.invariant-loop-c
invariant-loop-c l = words.all_digits l.base (drop l.c-index l.s) ≡ words.all_digits l.base l.s
