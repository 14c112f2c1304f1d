-- Where variables stand.
--     IsSpot                where a variable of a layer stands, or where it belongs
--     IsKept                the same, if there is one
--     IsNearest             a layer such that none inside it has a variable
--     HoldsWhole            a layer whose variable is a whole number
use Rattle.std.specs.Prelude.{◌≡◌, ◌<◌, ℕ, true, IfSome, List, Option, length, slice_get, Some}
use Rattle.wf_value.specs.Maps.{place_of, value_at}
use Rattle.wf_value.specs.Pairs.{Text}
use Rattle.wf_scope.specs.Firsts.{class_of}
use Rattle.wf_scope.specs.Layers.{Layer, chain, find, holder_in, variable_size, vars_at}
use Rattle.wf_scope.specs.Names.{is_whole}
use Rattle.wf_scope.specs.Views.{views}
use Rattle.wf_scope.specs.declared.layer.Layer as declared
use Rattle.wf_scope.specs.declared.spot.Spot.{Spot}

-- the place of its layer, its own place among the names there, its name's class, and what it counts
pub record IsSpot (s : Spot) (x : Text) (ls : List declared.Layer) : Type 0 where
  pub within : s.layer < length (views ls)
  pub layer : slice_get (views ls) s.layer ≡ find s.number (views ls)
  pub pair : (l : declared.Layer) → slice_get ls s.layer ≡ Some l → s.pair ≡ place_of x l.vars.items
  pub class : s.class ≡ class_of x
  pub below : s.class < 32
  pub counted : s.counted ≡ variable_size x (value_at x (vars_at s.number (views ls)))

-- a spot in the layer with this number, if there is one
abbrev pub IsKept : ℕ → Text → List declared.Layer → Option Spot → Type 0
IsKept n x ls o = IfSome o (λ s. (s.number ≡ n) × IsSpot s x ls)

-- the layer at this place is seen from the one with this number, and none that is seen before it has the variable
pub record IsNearest (i : ℕ) (x : Text) (n : ℕ) (ls : List Layer) : Type 0 where
  pub within : i < length ls
  pub seen : (l : Layer) → slice_get ls i ≡ Some l → holder_in x (chain n ls) ≡ holder_in x (chain l.number ls)

-- the variable of the layer at this place is a whole number
abbrev pub HoldsWhole : ℕ → Text → List Layer → Type 0
HoldsWhole i x ls = (l : Layer) → slice_get ls i ≡ Some l → is_whole (value_at x l.vars) ≡ true
