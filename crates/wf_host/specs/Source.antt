-- What a source has left.
use Rattle.std.specs.Prelude.{◌≡◌, ℕ, List, ◌++◌, take, Option, Some, None, ⊤}

-- the bytes that weren't read yet, or nothing is told
abbrev pub Rest : Type 0
Rest = Option (List ℕ)

-- these bytes stood in front, where it tells; whether it tells is the same
abbrev pub HoldsRest : Rest → Rest → List ℕ → Type 0
HoldsRest None None bytes = ⊤
HoldsRest (Some old) (Some new) bytes = old ≡ bytes ++ new
HoldsRest None (Some new) bytes = ⊥
HoldsRest (Some old) None bytes = ⊥

-- this holds where the source tells what it has left
abbrev pub WhereTold : Rest → Type 0 → Type 0
WhereTold None P = ⊤
WhereTold (Some left) P = P

-- the first bytes of what was left, up to the limit, where it tells
abbrev pub IsFirst : ℕ → Rest → List ℕ → Type 0
IsFirst limit None bytes = ⊤
IsFirst limit (Some left) bytes = bytes ≡ take limit left
