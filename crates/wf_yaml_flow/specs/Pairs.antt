-- The pairs of a map are kept in the order of the keys' bytes.
use Rattle.std.specs.Prelude.{ℕ, List, [], ◌∷◌}
use Rattle.wf_tree.specs.Trees.{Tree, map, pairs_of}
use Rattle.wf_value.specs.Maps.{with_value}

-- these pairs, one after another put into those
abbrev pub with_pairs : List (List ℕ × Tree) → List (List ℕ × Tree) → List (List ℕ × Tree)
with_pairs done [] = done
with_pairs done (p ∷ ps) = with_pairs (with_value p.0 p.1 done) ps

-- the map of these pairs
abbrev pub map_of : List (List ℕ × Tree) → Tree
map_of ps = map (pairs_of (with_pairs [] ps))
