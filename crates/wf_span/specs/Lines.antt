-- The lines of a source, each with its number and its place.
use Rattle.std.specs.Prelude.{◌≡◌, ℕ, suc, ◌+◌, ◌==◌, List, [], ◌∷◌, length, drop, Bool, cond, if◌then◌else◌}
use Rattle.std.specs.List.{slice_split}

-- a line without where it lies in memory
pub record Placed : Type 0 where
  pub number : ℕ
  pub at : ℕ
  pub indent : ℕ
  pub body : List ℕ

abbrev pub spaces : List ℕ → ℕ
spaces [] = 0
spaces (b ∷ r) = cond (b == 32) (suc (spaces r)) 0

-- The line with this text, which begins at this place: its indentation is its leading spaces, and the rest is its body.
abbrev pub placed : ℕ → ℕ → List ℕ → Placed
placed number at text = record { number = number; at = at + spaces text; indent = spaces text; body = drop (spaces text) text }

-- without the CR at the end, if one stands there
abbrev pub without_return : List ℕ → List ℕ
without_return [] = []
without_return (b ∷ []) = if b == 13 then [] else b ∷ []
without_return (b ∷ c ∷ r) = b ∷ without_return (c ∷ r)

-- An empty rest behind the last LF is no line.
abbrev pub last_line : ℕ → ℕ → List ℕ → List Placed
last_line number at [] = []
last_line number at (b ∷ r) = placed number at (b ∷ r) ∷ []

-- The lines in the parts between the LFs. Only a part before an LF loses its CR.
abbrev pub lines_of : ℕ → ℕ → List (List ℕ) → List Placed
lines_of number at [] = []
lines_of number at (x ∷ []) = last_line number at x
lines_of number at (x ∷ y ∷ more) = placed number at (without_return x) ∷ lines_of (suc number) (at + (length x + 1)) (y ∷ more)

abbrev pub is_newline : ℕ → Bool
is_newline b = b == 10

abbrev pub lines_from : ℕ → ℕ → List ℕ → List Placed
lines_from number at source = lines_of number at (slice_split is_newline source)

-- the lines of a source
abbrev pub source_lines : List ℕ → List Placed
source_lines source = lines_from 1 0 source

-- A source begins with the line of this text, which takes so many bytes with its end.
abbrev pub IsFirstText : List ℕ → List ℕ → List ℕ → ℕ → Type 0
IsFirstText source text rest taken = (number at : ℕ) → lines_from number at source ≡ placed number at text ∷ lines_from (suc number) (at + taken) rest
