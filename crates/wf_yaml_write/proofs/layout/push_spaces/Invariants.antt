use Rattle.std.proofs.Common.{◌≡◌, ◌++◌, replicate, string_bytes}
use Rattle.wf_yaml_line.specs.Marks.{space}
use Rattle.wf_yaml_write.proofs.layout.push_spaces.Given as goal

abbrev pub invariant-loop-done : goal.invariant-loop-done
invariant-loop-done l = string_bytes l.out ≡ string_bytes l.fn.out ++ replicate l.done space
