-- The tree of some JSON, over the values of `serde_json`.
use Rattle.std.specs.Prelude.{◌≡◌, ◌<◌, ◌≤◌, ℕ, suc, List, [], ◌∷◌, is_some, if◌then◌else◌, Option, Some, None, option_map, option_and_then}
use Rattle.std.specs.Option.{option_or}
use Rattle.serde_json.specs.Data as json
use Rattle.serde_json.specs.Find.{as_i64}
use Rattle.wf_value.specs.Json.{Reads}
use Rattle.wf_value.specs.declared.path.PathPart.{PathPart}
use Rattle.wf_value.specs.declared.path.PathPart.TheVariants.{Key, Index}
use Rattle.wf_tree.specs.Trees.{Tree, null, boolean, integer, text, list, map, items_of, pairs_of, depth}

-- the tree of some JSON, and none where a number of it is no whole number of 64 bits
abbrev mutual
  pub tree_of : json.Data → Option Tree
  tree_of json.null = Some null
  tree_of (json.boolean b) = Some (boolean b)
  tree_of (json.number n) = option_map integer (as_i64 n)
  tree_of (json.string s) = Some (text s)
  tree_of (json.array js) = option_map (λ ts. list (items_of ts)) (items_tree js)
  tree_of (json.object ms) = option_map (λ ps. map (pairs_of ps)) (members_tree ms)

  pub items_tree : json.Items → Option (List Tree)
  items_tree json.no_items = Some []
  items_tree (json.item j js) = option_and_then (λ t. option_map (λ ts. t ∷ ts) (items_tree js)) (tree_of j)

  pub members_tree : json.Members → Option (List (List ℕ × Tree))
  members_tree json.no_members = Some []
  members_tree (json.member k j ms) = option_and_then (λ t. option_map (λ ps. (k, t) ∷ ps) (members_tree ms)) (tree_of j)

-- a path that is seen from one step further out
abbrev pub behind : PathPart → Option (List PathPart) → Option (List PathPart)
behind part path = option_map (λ parts. part ∷ parts) path

-- the path of the first number that is no whole number of 64 bits, where there is one: items stand
-- in their order from this index on, members in the order of their keys
abbrev mutual
  pub first_decimal : json.Data → Option (List PathPart)
  first_decimal json.null = None
  first_decimal (json.boolean b) = None
  first_decimal (json.number n) = if is_some (as_i64 n) then None else Some []
  first_decimal (json.string s) = None
  first_decimal (json.array js) = first_in_items 0 js
  first_decimal (json.object ms) = first_in_members ms

  pub first_in_items : ℕ → json.Items → Option (List PathPart)
  first_in_items i json.no_items = None
  first_in_items i (json.item j js) = option_or (behind (Index i) (first_decimal j)) (first_in_items (suc i) js)

  pub first_in_members : json.Members → Option (List PathPart)
  first_in_members json.no_members = None
  first_in_members (json.member k j ms) = option_or (behind (Key k) (first_decimal j)) (first_in_members ms)

-- the source is JSON whose first decimal stands at this path
abbrev pub HasDecimalAt : List ℕ → List PathPart → Type 0
HasDecimalAt b p = (j : json.Data) × Reads b j × (first_decimal j ≡ Some p)

-- the source is JSON of a tree that nests deeper than 100
abbrev pub IsTooDeep : List ℕ → Type 0
IsTooDeep b = (j : json.Data) × (t : Tree) × Reads b j × (tree_of j ≡ Some t) × (100 < depth t)

-- the source is JSON of this tree, which nests at most 100 deep
abbrev pub IsTree : List ℕ → Tree → Type 0
IsTree b t = (j : json.Data) × Reads b j × (tree_of j ≡ Some t) × (depth t ≤ 100)
