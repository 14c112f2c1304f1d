-- The plain data that a tree is.
use Rattle.std.specs.Prelude.{ℕ, List}
use Rattle.std.specs.Prelude as seq
use Rattle.wf_tree.specs.Trees as trees
use Rattle.wf_tree.specs.Trees.{null, boolean, integer, decimal, text, list, map, items_of, pairs_of}
use Rattle.wf_tree.specs.declared.tree.Tree.{Tree}
use Rattle.wf_tree.specs.declared.tree.Tree.TheVariants as tree

-- the plain data of a tree
abbrev pub plain_tree : Tree → trees.Tree
plain_tree tree.Null = null
plain_tree (tree.Bool b) = boolean b
plain_tree (tree.Int n) = integer n
plain_tree (tree.Decimal s) = decimal s
plain_tree (tree.Text s) = text s
plain_tree (tree.List ts) = list (items_of ts)
plain_tree (tree.Map ps) = map (pairs_of ps)

-- the plain data of some trees
abbrev pub plain_items : List Tree → List trees.Tree
plain_items ts = seq.map plain_tree ts

-- the pairs, with the plain data of their trees
abbrev pub plain_pairs : List (List ℕ × Tree) → List (List ℕ × trees.Tree)
plain_pairs ps = seq.map (λ p. (p.0, plain_tree p.1)) ps
