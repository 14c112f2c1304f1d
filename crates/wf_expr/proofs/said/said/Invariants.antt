use Rattle.std.proofs.Common.{◌≡◌, ◌++◌, string_bytes}
use Rattle.std.specs.Str.Iter.{chars_rest}
use Rattle.wf_expr.specs.Symbols.{said, text_said}
use Rattle.wf_expr.proofs.said.said.Given as goal

abbrev pub invariant-loop-c : goal.invariant-loop-c
invariant-loop-c l = string_bytes l.out ++ said l.quote l.after_backslash (chars_rest l.c-iterator) ≡ text_said l.text
