-- Marks of names.
--     first_of              the first byte of a name; 0 where it is empty
--     digits                so many bytes of a name from the first on as the digits of a number, the first one as the last digit
--     mark_of               the mark of a name
--     AreBytes              each is a byte
use Rattle.std.specs.Prelude.{◌+◌, ◌*◌, ◌<◌, ℕ, zero, suc, List, [], ◌∷◌, length, min}

abbrev pub first_of : List ℕ → ℕ
first_of [] = 0
first_of (b ∷ bs) = b

-- with `more` above them
abbrev pub digits : ℕ → List ℕ → ℕ → ℕ
digits zero bs more = more
digits (suc n) [] more = digits n [] more * 256
digits (suc n) (b ∷ bs) more = digits n bs more * 256 + b

-- the first seven bytes, and above them the length, at most 8
abbrev pub mark_of : List ℕ → ℕ
mark_of bs = digits 7 bs (min (length bs) 8)

abbrev pub AreBytes : List ℕ → Type 0
AreBytes [] = Unit {0}
AreBytes (b ∷ bs) = (b < 256) × AreBytes bs
