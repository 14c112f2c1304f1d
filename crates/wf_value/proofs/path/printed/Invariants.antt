use Rattle.std.proofs.Common.{◌≡◌, ◌++◌, drop, string_bytes}
use Rattle.wf_value.specs.Paths.{path_text, rest_text}
use Rattle.wf_value.proofs.path.printed.Given as goal

abbrev pub invariant-loop-part : goal.invariant-loop-part
invariant-loop-part l = string_bytes l.text ++ rest_text (drop l.part-index l.rest) ≡ path_text l.parts
