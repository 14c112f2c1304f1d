-- How far a body of so many bytes was read.
use Rattle.std.specs.Prelude.{◌≡◌, ℕ, ◌<◌, ◌≤◌, List, ◌++◌, length}
use Rattle.wf_value.specs.HttpBody.{Close, Complete, length_state}
use Rattle.wf_http_body.specs.declared.body.End.{End}
use Rattle.wf_http_body.specs.declared.body.End.TheVariants as end

-- all bytes heard of it are its content so far
abbrev pub IsLengthPart : ℕ → (all content : List ℕ) → Type 0
IsLengthPart n all content = (all ≡ content) × (length content ≤ n)

-- the same, and more has to come
abbrev pub IsOpenLength : ℕ → (all content : List ℕ) → Type 0
IsOpenLength n all content = (all ≡ content) × (length content < n)

-- it is whole, whatever is heard behind these bytes
abbrev pub IsWholeLength : ℕ → ℕ → (all content : List ℕ) → Type 0
IsWholeLength limit n all content = (more : List ℕ) (close : Close) → Complete content ≡ length_state limit close (all ++ more) n

abbrev pub IsLengthRead : ℕ → ℕ → (all content : List ℕ) → End → Type 0
IsLengthRead limit n all content end.More = IsOpenLength n all content
IsLengthRead limit n all content end.Whole = IsWholeLength limit n all content
IsLengthRead limit n all content e = ⊥
