-- A member nests less deep than what holds it.
use Rattle.std.specs.Prelude.{ℕ, ◌≤◌, List, [], ◌∷◌, max}
use Rattle.std.proofs.Common.{arith}
use denote.Param.Weighed.{most}
use Rattle.wf_tree.specs.Trees.{depth, items_depth, items_of, pairs_depth, pairs_of}
use Rattle.wf_tree.specs.Plain.{plain_tree, plain_items, plain_pairs}
use Rattle.wf_tree.specs.declared.tree.Tree.{Tree}
use Rattle.wf_tree.specs.declared.tree.Tree.TheVariants as tree
use Rattle.wf_tree.specs.declared.tree.TreeList.TheDeep.{deep-Tree}

-- a tree's measure is within its depth
pub deep-Tree-le-depth : (t : Tree) → deep-Tree t ≤ depth (plain_tree t)
deep-Tree-le-depth tree.Null = omega arith
deep-Tree-le-depth (tree.Bool b) = omega arith
deep-Tree-le-depth (tree.Int n) = omega arith
deep-Tree-le-depth (tree.Decimal s) = omega arith
deep-Tree-le-depth (tree.Text s) = omega arith
deep-Tree-le-depth (tree.List ts) = omega arith
deep-Tree-le-depth (tree.Map ps) = omega arith

-- so is that of the items of a list
pub most_items : (ts : List Tree) → max (most (λ t. deep-Tree t) ts) 0 ≤ items_depth (items_of (plain_items ts))
most_items [] = omega arith
most_items (t ∷ ts) = omega (arith, deep-Tree-le-depth t, most_items ts)

-- and that of the pairs of a map
pub most_pairs : (ps : List (List ℕ × Tree)) → max (most (λ p. max 0 (max (deep-Tree p.1) 0)) ps) 0 ≤ pairs_depth (pairs_of (plain_pairs ps))
most_pairs [] = omega arith
most_pairs (p ∷ ps) = omega (arith, deep-Tree-le-depth p.1, most_pairs ps)
