use Rattle.std.proofs.Common.{◌≡◌, ◌++◌, string_bytes}
use Rattle.std.specs.Prelude.{codes}
use Rattle.std.specs.Str.Iter.{chars_rest}
use Rattle.wf_yaml_write.specs.Layout.{all_escaped}
use Rattle.wf_yaml_write.proofs.texts.push_quoted.Given as goal

abbrev pub invariant-loop-c : goal.invariant-loop-c
invariant-loop-c l = string_bytes l.out ++ all_escaped (chars_rest l.c-iterator) ≡ string_bytes l.fn.out ++ codes "\"" ++ all_escaped l.s
