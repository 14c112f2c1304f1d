use Rattle.std.proofs.Common.{◌≡◌, ◌++◌, length, map}
use denote.Shadow.{shadow}
use denote.Text.{Utf8}
use Rattle.wf_value.specs.LibText.{pieces}
use Rattle.wf_value.specs.Data.{text}
use Rattle.wf_lib_text.proofs.split.parts.Given as goal

-- the parts so far, and those of what is left
abbrev pub invariant-places : goal.invariant-places
invariant-places l = record {
  utf8 : shadow (Utf8 l.rest);
  left : l.parts ++ map text (pieces l.separator l.rest) ≡ map text (pieces l.separator l.s);
}

abbrev pub decreases-places : goal.decreases-places
decreases-places l = length l.rest
