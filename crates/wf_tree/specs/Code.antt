-- How the logic stores a tree: as a value is stored, where the text of a decimal stands as bytes.
use Rattle.std.proofs.Common.{◌≡◌, ℕ, List, refl}
use Rattle.std.specs.Coded.{Coded, code_by, coded×, coded_list, coded_ℕ}
use Rattle.wf_value.specs.Code.{coded_data}
use Rattle.wf_value.specs.Data as value
use Rattle.wf_tree.specs.Trees.{Tree, null, boolean, integer, decimal, text, list, map, Items, no_items, item, Pairs, no_pairs, pair}

-- a tree as a value
abbrev mutual
  pub to_value : Tree → value.Data
  to_value null = value.null
  to_value (boolean b) = value.boolean b
  to_value (integer n) = value.integer n
  to_value (decimal s) = value.bytes s
  to_value (text s) = value.text s
  to_value (list ts) = value.list (to_items ts)
  to_value (map ps) = value.map (to_pairs ps)

  to_items : Items → value.Items
  to_items no_items = value.no_items
  to_items (item t ts) = value.item (to_value t) (to_items ts)

  to_pairs : Pairs → value.Pairs
  to_pairs no_pairs = value.no_pairs
  to_pairs (pair k t ps) = value.pair k (to_value t) (to_pairs ps)

-- and back
abbrev mutual
  pub from_value : value.Data → Tree
  from_value value.null = null
  from_value (value.boolean b) = boolean b
  from_value (value.integer n) = integer n
  from_value (value.bytes s) = decimal s
  from_value (value.text s) = text s
  from_value (value.list ds) = list (from_items ds)
  from_value (value.map ps) = map (from_pairs ps)

  from_items : value.Items → Items
  from_items value.no_items = no_items
  from_items (value.item d ds) = item (from_value d) (from_items ds)

  from_pairs : value.Pairs → Pairs
  from_pairs value.no_pairs = no_pairs
  from_pairs (value.pair k d ps) = pair k (from_value d) (from_pairs ps)

-- what was stored comes back
mutual
  pub from_value-to_value : (t : Tree) → from_value (to_value t) ≡ t
  from_value-to_value null = refl
  from_value-to_value (boolean b) = refl
  from_value-to_value (integer n) = refl
  from_value-to_value (decimal s) = refl
  from_value-to_value (text s) = refl
  from_value-to_value (list ts) = λ i. list (from_items-to_items ts i)
  from_value-to_value (map ps) = λ i. map (from_pairs-to_pairs ps i)

  from_items-to_items : (ts : Items) → from_items (to_items ts) ≡ ts
  from_items-to_items no_items = refl
  from_items-to_items (item t ts) = λ i. item (from_value-to_value t i) (from_items-to_items ts i)

  from_pairs-to_pairs : (ps : Pairs) → from_pairs (to_pairs ps) ≡ ps
  from_pairs-to_pairs no_pairs = refl
  from_pairs-to_pairs (pair k t ps) = λ i. pair k (from_value-to_value t i) (from_pairs-to_pairs ps i)

-- the code of trees, of lists of trees and of lists of pairs
abbrev pub coded_tree : Coded Tree
coded_tree = code_by value.Data coded_data to_value from_value from_value-to_value

abbrev pub coded_items : Coded (List Tree)
coded_items = coded_list coded_tree

abbrev pub coded_pairs : Coded (List (List ℕ × Tree))
coded_pairs = coded_list (coded× (coded_list coded_ℕ) coded_tree)
