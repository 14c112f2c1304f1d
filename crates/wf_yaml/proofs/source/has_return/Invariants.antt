use Rattle.std.proofs.Common.{◌≡◌, drop}
use Rattle.wf_yaml_line.specs.Marks as marks
use Rattle.wf_yaml.proofs.source.has_return.Given as goal

abbrev pub invariant-loop-c : goal.invariant-loop-c
invariant-loop-c l = marks.among (drop l.c-index l.text) marks.return_mark ≡ marks.among l.text marks.return_mark
