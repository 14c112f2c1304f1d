-- The layers that a store's own are seen as.
--     layer_view, views     one, with the names that are bound, and all of them
--     counted_in            what some count
--     are_straight          the first ones stand at their numbers
use Rattle.std.specs.Prelude.{ℕ, zero, suc, ◌+◌, ◌&&◌, Bool, true, List, [], ◌∷◌, map, nat_eq}
use Rattle.wf_scope.specs.Layers.{Layer}
use Rattle.wf_scope.specs.Names.{bound_of}
use Rattle.wf_scope.specs.declared.layer.Layer as declared

abbrev pub layer_view : declared.Layer → Layer
layer_view l = record { number = l.number; outer = l.outer; depth = l.depth; vars = bound_of l.vars.items }

abbrev pub views : List declared.Layer → List Layer
views ls = map layer_view ls

abbrev pub counted_in : List declared.Layer → ℕ
counted_in [] = 0
counted_in (l ∷ ls) = l.counted + counted_in ls

-- the first so many, of which the first one stands at a place
abbrev pub are_straight : ℕ → ℕ → List declared.Layer → Bool
are_straight zero i ls = true
are_straight (suc n) i [] = true
are_straight (suc n) i (l ∷ ls) = nat_eq l.number i && are_straight n (suc i) ls
