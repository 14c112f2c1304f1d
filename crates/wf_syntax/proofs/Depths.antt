-- How deep the parts of a node are.
use Rattle.std.proofs.Common.{◌≡◌, ◌≤◌, ◌<◌, ℕ, max, Bool, true, false, if◌then◌else◌, bytes_eq, length, get_or, List, Option, Some, None, arith, ap}
use Rattle.wf_syntax_words.specs.Fields.{field}
use Rattle.wf_syntax.proofs.Valued.{item_deep}
use Rattle.wf_tree.specs.Plain.{plain_items, plain_tree}
use Rattle.wf_tree.specs.Trees.{Tree, list, Pairs, no_pairs, pair, depth, items_of, pairs_depth}
use Rattle.wf_tree.specs.declared.tree.Tree.{Tree as Node}
use Rattle.wf_value.specs.Pairs.{Text}

abbrev depth_or : ℕ → Option Tree → ℕ
depth_or n None = n
depth_or n (Some t) = depth t

key_deep : (b : Bool) (u t : Tree) (more : Option Tree) (n : ℕ) → Some t ≡ (if b then Some u else more) → (Some t ≡ more → depth t ≤ n) → depth t ≤ max (depth u) n
key_deep true u t more n e f = omega (arith, ap (depth_or 0) e)
key_deep false u t more n e f = omega (arith, f e)

-- the tree at a key
pub field_deep : (k : Text) (fs : Pairs) (t : Tree) → Some t ≡ field k fs → depth t ≤ pairs_depth fs
field_deep k no_pairs t e = let x : ⊥ = cc in absurd x
field_deep k (pair j u fs) t e = key_deep (bytes_eq k j) u t (field k fs) (pairs_depth fs) e (field_deep k fs t)

-- an item of a list
pub list_item_deep : (x : Tree) (ts : List Node) (i : ℕ) (t : Node) → x ≡ list (items_of (plain_items ts)) → i < length ts → t ≡ get_or ts i t → depth (plain_tree t) < depth x
list_item_deep x ts i t is lt e = omega (arith, ap depth is, item_deep ts i t lt e)
