-- What the code finds at the front of bytes.
use Rattle.std.specs.Prelude.{◌≡◌, ℕ, ◌+◌, ◌<◌, ◌≤◌, List, ◌∷◌, ◌++◌, length, take, drop, ⊤}
use Rattle.httparse.specs.Grammar.{Field, ReadsSection, HasNoSection, NeverHasSection, MayBecomeSection, print_section}
use Rattle.httparse.specs.Grammar as http
use Rattle.wf_value.specs.HttpBody.{EndsWrong, field_limit, trailer_limit}
use Rattle.wf_http_body.specs.declared.chunk.LineEnd.{LineEnd}
use Rattle.wf_http_body.specs.declared.chunk.LineEnd.TheVariants as line_end
use Rattle.wf_http_body.specs.declared.chunk.Place.{Place}
use Rattle.wf_http_body.specs.declared.chunk.Step.{Step}
use Rattle.wf_http_body.specs.declared.chunk.Step.TheVariants as step
use Rattle.wf_http_body.specs.declared.trailer.Glance.{Glance}
use Rattle.wf_http_body.specs.declared.trailer.Glance.TheVariants as glance
use Rattle.wf_http_body.specs.declared.trailer.Section.{Section}
use Rattle.wf_http_body.specs.declared.trailer.Section.TheVariants as section
use Rattle.wf_http_body.specs.Chunks.{BeginsEnd, IsBadSection, IsCrowdedSection}
use Rattle.wf_http_body.specs.Parts.{IsPart, IsRead, IsOpenSection}

-- ## Trailer fields
-- whole trailer fields within their limits
pub record IsWholeSection (s : List ℕ) : Type 0 where
  pub fields : List Field
  pub end : http.LineEnd
  pub rest : List ℕ
  pub reads : ReadsSection s fields end rest
  pub short : length (print_section fields end) ≤ trailer_limit
  pub few : length fields ≤ field_limit

abbrev pub IsGlance : List ℕ → Glance → Type 0
IsGlance s glance.Whole = IsWholeSection s
IsGlance s glance.Crowded = IsCrowdedSection s
IsGlance s glance.NotYet = HasNoSection s × MayBecomeSection s
IsGlance s glance.Never = NeverHasSection s

abbrev pub IsSection : List ℕ → Section → Type 0
IsSection s section.Whole = IsWholeSection s
IsSection s section.NotYet = IsOpenSection s
IsSection s section.Bad = IsBadSection s

-- ## Chunks
-- the CR LF behind a chunk's content
abbrev pub IsLineEnd : List ℕ → LineEnd → Type 0
IsLineEnd b line_end.Whole = (b ≡ 13 ∷ 10 ∷ drop 2 b) × (2 ≤ length b)
IsLineEnd b line_end.NotYet = BeginsEnd b
IsLineEnd b line_end.Wrong = EndsWrong b

-- from a place, where these bytes are to be read
abbrev pub IsStep : ℕ → Place → (all heard content : List ℕ) → Step → Type 0
IsStep limit p all heard content (step.Passes n next) = IsPart limit next all (drop n heard) content
IsStep limit p all heard content (step.Takes n next) = IsPart limit next all (drop n heard) (content ++ take n heard)
IsStep limit p all heard content (step.Ends e) = IsRead limit p all heard content e

-- whatever was read before, where the content may have so many bytes more
abbrev pub Steps : Place → List ℕ → ℕ → Step → Type 0
Steps p heard room s = (limit : ℕ) (all content : List ℕ) → length content + room ≡ limit → IsPart limit p all heard content
    → IsStep limit p all heard content s

-- it takes bytes, and no more than there are
abbrev pub IsStepWithin : List ℕ → Step → Type 0
IsStepWithin heard (step.Passes n next) = (0 < n) × (n ≤ length heard)
IsStepWithin heard (step.Takes n next) = (0 < n) × (n ≤ length heard)
IsStepWithin heard (step.Ends e) = ⊤
