use Rattle.std.proofs.Common.{◌≡◌, ◌++◌, chars, length}
use denote.Shadow.{shadow}
use denote.Text.{Utf8}
use Rattle.wf_value.specs.LibText.{pieces, starts_of}
use Rattle.wf_lib_text.proofs.places.starts.Given as goal

-- the places so far, and those in what is left
abbrev pub invariant-places : goal.invariant-places
invariant-places l = record {
  utf8 : shadow (Utf8 l.rest);
  left : l.starts ++ starts_of l.from l.width (pieces l.part l.rest) ≡ starts_of 0 l.width (pieces l.part l.s);
}

abbrev pub decreases-places : goal.decreases-places
decreases-places l = length l.rest
