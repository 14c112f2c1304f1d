-- What a source's tree is, as plain data. A map has its pairs in the order of the keys' bytes.
use Rattle.std.specs.Prelude.{ℕ, suc, max, ℤ, List, [], ◌∷◌, Bool}

-- a tree: a scalar, or a list or a map of trees; a decimal is its text as written
mutual
  pub data Tree : Type 0 where
    null : Tree
    boolean : Bool → Tree
    integer : ℤ → Tree
    decimal : List ℕ → Tree
    text : List ℕ → Tree
    list : Items → Tree
    map : Pairs → Tree

  pub data Items : Type 0 where
    no_items : Items
    item : Tree → Items → Items

  pub data Pairs : Type 0 where
    no_pairs : Pairs
    pair : List ℕ → Tree → Pairs → Pairs

-- a list of trees, as trees hold it
abbrev pub items_of : List Tree → Items
items_of [] = no_items
items_of (t ∷ ts) = item t (items_of ts)

-- a list of pairs, as trees hold it
abbrev pub pairs_of : List (List ℕ × Tree) → Pairs
pairs_of [] = no_pairs
pairs_of (p ∷ ps) = pair p.0 p.1 (pairs_of ps)

-- how deep lists and maps nest
abbrev mutual
  pub depth : Tree → ℕ
  depth null = 0
  depth (boolean b) = 0
  depth (integer n) = 0
  depth (decimal s) = 0
  depth (text s) = 0
  depth (list ts) = suc (items_depth ts)
  depth (map ps) = suc (pairs_depth ps)

  pub items_depth : Items → ℕ
  items_depth no_items = 0
  items_depth (item t ts) = max (depth t) (items_depth ts)

  pub pairs_depth : Pairs → ℕ
  pairs_depth no_pairs = 0
  pairs_depth (pair k t ps) = max (depth t) (pairs_depth ps)
