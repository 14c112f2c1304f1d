-- Which first bytes the names of a layer have.
--     class_of              the class of a name
--     HasNone               no variable has a name of a class
--     Covers                a table of hints that are 0 only for such classes
--     shifted               a hint behind an insertion
use Rattle.std.specs.Prelude.{◌≡◌, ◌<◌, ◌+◌, ◌%◌, ◌&&◌, ℕ, List, [], ◌∷◌, None, if◌then◌else◌, nat_lt, slice_index}
use Rattle.std.specs.Coded.{le_prop, Unit-prop, ×_prop}
use Rattle.wf_value.specs.Data.{Data}
use Rattle.wf_value.specs.Maps.{value_at}
use Rattle.wf_value.specs.Pairs.{Text}

-- the first byte modulo 32; the empty name has class 0
abbrev pub class_of : Text → ℕ
class_of [] = 0
class_of (b ∷ bs) = b % 32

-- no variable has a name of this class
abbrev pub HasNone : ℕ → List (Text × Data) → Type 0
HasNone c vs = (x : Text) → c ≡ class_of x → value_at x vs ≡ None

module _ {X : Type 0} where
  -- no name is of a class whose hint is 0
  abbrev pub Covers : List ℕ → List (Text × X) → Type 0
  Covers hints [] = Unit {0}
  Covers hints (p ∷ vs) = (0 < slice_index hints (class_of p.0)) × Covers hints vs

  -- at most one proof
  pub Covers-prop : (hints : List ℕ) (vs : List (Text × X)) → IsProp (Covers hints vs)
  Covers-prop hints [] = Unit-prop
  Covers-prop hints (p ∷ vs) = ×_prop le_prop (Covers-prop hints vs)

-- a hint behind an insertion at a place: a place behind it is one farther. 255 tells no farther one
abbrev pub shifted : ℕ → ℕ → ℕ
shifted place hint = if nat_lt place hint && nat_lt hint 255 then hint + 1 else hint
