use Rattle.std.proofs.Common.{◌≡◌, ◌++◌, length, string_bytes}
use denote.Shadow.{shadow}
use denote.Text.{Utf8}
use Rattle.wf_value.specs.LibText.{joined_by, pieces}
use Rattle.wf_lib_text.proofs.replace.replaced.Given as goal

-- what is written, and what is to come
abbrev pub invariant-places : goal.invariant-places
invariant-places l = record {
  utf8 : shadow (Utf8 l.rest);
  left : string_bytes l.out ++ joined_by l.other (pieces l.part l.rest) ≡ joined_by l.other (pieces l.part l.s);
}

abbrev pub decreases-places : goal.decreases-places
decreases-places l = length l.rest
