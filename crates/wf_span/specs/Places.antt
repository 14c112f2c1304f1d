-- Where the lines of a source stand.
use Rattle.std.specs.Prelude.{◌≡◌, ◌≢◌, ◌<◌, ◌≤◌, ℕ, suc, ◌+◌, ◌++◌, List, [], ◌∷◌, length, drop, take}
use Rattle.std.specs.List.{AllByRecursion, repeat}
use Rattle.wf_span.specs.Lines.{Placed, spaces, without_return}

-- the body is the part of the source at its place
abbrev pub IsPartAt : List ℕ → Placed → Type 0
IsPartAt source l = (l.at + length l.body ≤ length source) × (l.body ≡ take (length l.body) (drop l.at source))

-- the numbers of these lines count from this one
abbrev pub CountFrom : ℕ → List Placed → Type 0
CountFrom number [] = Unit {0}
CountFrom number (l ∷ ls) = (l.number ≡ number) × CountFrom (suc number) ls

-- each body begins at this place or behind it, and behind the body and the line end before it
abbrev pub RiseFrom : ℕ → List Placed → Type 0
RiseFrom at [] = Unit {0}
RiseFrom at (l ∷ ls) = (at ≤ l.at) × RiseFrom (suc (l.at + length l.body)) ls

-- what may stand between a body and the rest of the source: LF, CR LF, or nothing at the end
pub data IsEnding (body rest : List ℕ) : List ℕ → Type 0 where
  feed : without_return body ≡ body → IsEnding body rest (10 ∷ [])
  return_and_feed : IsEnding body rest (13 ∷ 10 ∷ [])
  end : rest ≡ [] → IsEnding body rest []

-- a source begins with this line, whose first byte stands at this place: its spaces, all of them, its body, which holds no LF, its line end, and the rest
pub record IsLine (at : ℕ) (source : List ℕ) (l : Placed) (ending rest : List ℕ) : Type 0 where
  pub some : 0 < length source
  pub whole : source ≡ repeat l.indent (32 ∷ []) ++ (l.body ++ (ending ++ rest))
  pub place : l.at ≡ at + l.indent
  pub all_spaces : spaces l.body ≡ 0
  pub one_line : AllByRecursion (λ b. b ≢ 10) l.body
  pub ended : IsEnding l.body rest ending

-- a source, which goes on with this number at this place, is these lines and nothing else
abbrev pub StandFrom : ℕ → ℕ → List ℕ → List Placed → Type 0
StandFrom number at source [] = source ≡ []
StandFrom number at source (l ∷ ls) =
    (ending : List ℕ) × (rest : List ℕ) × (l.number ≡ number) × IsLine at source l ending rest × StandFrom (suc number) (l.at + (length l.body + length ending)) rest ls
