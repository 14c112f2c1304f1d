-- Layers of variables by their numbers.
--     Layer                 a layer, as contracts see it
--     find, vars_at         a layer and its variables, by its number
--     chain, look_in        the layers that are seen from one, innermost first, and a variable in them
--     holder_in             the number of the layer in which it stands
--     total_of              what all variables come to
--     fresh, opened         a new layer
--     closed, put_at        without a layer, and with a variable in one
use Rattle.std.specs.Prelude.{◌≡◌, ℕ, zero, suc, ◌+◌, max, Bool, true, false, ◌&&◌, List, [], ◌∷◌, ◌++◌, length, if◌then◌else◌, nat_eq, nat_lt, is_some, Some, None, Option}
use Rattle.wf_value.specs.Data.{Data, size, pairs_size, pairs_of}
use Rattle.wf_value.specs.Maps.{value_at, with_value}
use Rattle.wf_value.specs.Pairs.{Text}

-- variables by their names, with the number of the layer outside, if there is one, and the count of those around
pub record Layer : Type 0 where
  pub number : ℕ
  pub outer : Option ℕ
  pub depth : ℕ
  pub vars : List (Text × Data)

-- ## By number
abbrev pub find : ℕ → List Layer → Option Layer
find n [] = None
find n (l ∷ ls) = if nat_eq l.number n then Some l else find n ls

-- there is a layer with this number
abbrev pub IsLive : ℕ → List Layer → Type 0
IsLive n ls = is_some (find n ls) ≡ true

abbrev pub vars_in : Option Layer → List (Text × Data)
vars_in None = []
vars_in (Some l) = l.vars

-- the variables of a layer
abbrev pub vars_at : ℕ → List Layer → List (Text × Data)
vars_at n ls = vars_in (find n ls)

-- how many layers stand around one
abbrev pub depth_in : Option Layer → ℕ
depth_in None = 0
depth_in (Some l) = l.depth

-- ## What is seen
-- a layer and those outside it, at most so many, innermost first
abbrev pub chain_in : ℕ → Option ℕ → List Layer → List Layer
chain_in d None ls = []
chain_in zero (Some n) ls = []
chain_in (suc d) (Some n) ls = elim (find n ls) [ None ↦ [] | Some l ↦ l ∷ chain_in d l.outer ls ]

-- those that are seen from a layer, and it itself
abbrev pub chain : ℕ → List Layer → List Layer
chain n ls = chain_in (suc (depth_in (find n ls))) (Some n) ls

-- a variable in the innermost layer that has it
abbrev pub look_in : Text → List Layer → Option Data
look_in x [] = None
look_in x (l ∷ ls) = elim (value_at x l.vars) [ None ↦ look_in x ls | Some v ↦ Some v ]

-- the number of that layer
abbrev pub holder_in : Text → List Layer → Option ℕ
holder_in x [] = None
holder_in x (l ∷ ls) = elim (value_at x l.vars) [ None ↦ holder_in x ls | Some v ↦ Some l.number ]

-- ## What variables come to
-- a variable that may be there
abbrev pub variable_size : Text → Option Data → ℕ
variable_size x None = 0
variable_size x (Some v) = 2 + length x + size v

-- all variables of all layers
abbrev pub total_of : List Layer → ℕ
total_of [] = 0
total_of (l ∷ ls) = pairs_size (pairs_of l.vars) + total_of ls

-- ## A store of layers
-- a number above those of all layers
abbrev pub fresh : List Layer → ℕ
fresh [] = 0
fresh (l ∷ ls) = max (suc l.number) (fresh ls)

-- around the one outside stands one layer less
abbrev pub is_outside : ℕ → Option Layer → Bool
is_outside d None = false
is_outside d (Some l) = nat_eq d (suc l.depth)

-- a layer with so many around it stands inside this live one, or inside none
abbrev pub stands : Option ℕ → ℕ → List Layer → Bool
stands None d ls = nat_eq d 0
stands (Some o) d ls = is_outside d (find o ls)

-- each of some layers stands among these
abbrev pub all_stand : List Layer → List Layer → Bool
all_stand ls [] = true
all_stand ls (l ∷ rest) = stands l.outer l.depth ls && all_stand ls rest

-- all numbers are above this one
abbrev pub all_above : ℕ → List Layer → Bool
all_above n [] = true
all_above n (l ∷ ls) = nat_lt n l.number && all_above n ls

-- the numbers rise
abbrev pub rises : List Layer → Bool
rises [] = true
rises (l ∷ ls) = all_above l.number ls && rises ls

-- a layer stands directly inside this one
abbrev pub is_inside : ℕ → Option ℕ → Bool
is_inside n None = false
is_inside n (Some o) = nat_eq o n

-- no layer does
abbrev pub IsInnermost : ℕ → List Layer → Type 0
IsInnermost n [] = Unit {0}
IsInnermost n (l ∷ ls) = (is_inside n l.outer ≡ false) × IsInnermost n ls

-- the live layers stay live
abbrev pub StayLive : List Layer → List Layer → Type 0
StayLive old new = (n : ℕ) → IsLive n old → IsLive n new

-- a layer in which none stands stays one
abbrev pub StayInnermost : List Layer → List Layer → Type 0
StayInnermost old new = (n : ℕ) → IsInnermost n old → IsInnermost n new

-- ## Changes
-- a layer without variables
abbrev pub new_layer : ℕ → Option ℕ → ℕ → Layer
new_layer n outer d = record { number = n; outer = outer; depth = d; vars = [] }

-- a new layer, inside another one or inside none
abbrev pub opened : Option ℕ → ℕ → List Layer → List Layer
opened outer d ls = ls ++ new_layer (fresh ls) outer d ∷ []

-- without a layer
abbrev pub closed : ℕ → List Layer → List Layer
closed n [] = []
closed n (l ∷ ls) = if nat_eq l.number n then ls else l ∷ closed n ls

-- a layer with a variable
abbrev pub with_variable : Text → Data → Layer → Layer
with_variable x v l = record l { vars = with_value x v l.vars }

-- with a variable in a layer
abbrev pub put_at : ℕ → Text → Data → List Layer → List Layer
put_at n x v [] = []
put_at n x v (l ∷ ls) = if nat_eq l.number n then with_variable x v l ∷ ls else l ∷ put_at n x v ls

-- with a variable in the layer at a place of the list
abbrev pub put_place : ℕ → Text → Data → List Layer → List Layer
put_place i x v [] = []
put_place zero x v (l ∷ ls) = with_variable x v l ∷ ls
put_place (suc i) x v (l ∷ ls) = l ∷ put_place i x v ls
