-- What was written is in memory: numbers by their type, maps by their order, and the loops over items and pairs.
use Rattle.std.proofs.Common.{◌≡◌, ℕ, ◌+◌, ℤ, pos, negsuc, List, [], ◌∷◌, drop, sym, subst}
use Rattle.std.specs.Str.{IsUtf8}
use Rattle.std.specs.List.{AllByRecursion}
use Rattle.std.specs.List.Sorted.{IsStrictlySortedBy}
use Rattle.std.specs.Map.{keys_of}
use Rattle.std.specs.declared.cmp.Ordering.TheVariants.{Less}
use mir.Syntax.{w64}
use mir.Val.{SFits}
use Rattle.wf_value.specs.Maps.{IsInOrder, key_cmp}
use Rattle.wf_tree.specs.Trees.{items_of, pairs_of}
use Rattle.wf_tree.specs.Trees as trees
use Rattle.wf_tree.specs.Plain.{plain_tree, plain_items, plain_pairs}
use Rattle.wf_tree.specs.declared.tree.Tree.{Tree}
use Rattle.wf_tree.specs.declared.tree.Tree.TheVariants as tree
use Rattle.wf_yaml_write.specs.Back.{Is64}
use Rattle.wf_yaml_write.specs.Whole.{IsBelow, KeysRise, IsInMemory, AreInMemory, ArePairsInMemory}
use Rattle.wf_yaml_write.proofs.Parts.{Entry}

-- ---- numbers

is_64 : (z : ℤ) → SFits w64 z → Is64 z
is_64 (pos n) f = f.sfits
is_64 (negsuc n) f = f.sfits

pub number_in_memory : (t : Tree) (z : ℤ) → t ≡ tree.Int z → SFits w64 z → IsInMemory (plain_tree t)
number_in_memory t z is fits = subst (λ (u : Tree). IsInMemory (plain_tree u)) (sym is) (is_64 z fits)

-- ---- maps

all_below : (k : List ℕ) (ps : List Entry) → AllByRecursion (λ l. key_cmp k l ≡ Less) (keys_of ps) → IsBelow k (pairs_of (plain_pairs ps))
all_below k [] h = tt
all_below k (p ∷ ps) h = (h.0, all_below k ps h.1)

keys_rise : (ps : List Entry) → IsInOrder ps → KeysRise (pairs_of (plain_pairs ps))
unfolding IsStrictlySortedBy
keys_rise [] h = tt
keys_rise (p ∷ ps) h = (all_below p.0 ps h.0, keys_rise ps h.1)

pub map_in_memory : (t : Tree) (ds : List (List ℕ × trees.Tree)) (ps : List Entry) → t ≡ tree.Map ds → plain_pairs ps ≡ ds → IsInOrder ps → ArePairsInMemory (pairs_of (plain_pairs ps)) → IsInMemory (plain_tree t)
map_in_memory t ds ps is seen order h =
    subst (λ (u : Tree). IsInMemory (plain_tree u)) (sym is) (subst (λ (l : List (List ℕ × trees.Tree)). IsInMemory (trees.map (pairs_of l))) seen (keys_rise ps order, h))

-- ---- the loops

pub items_next : (i : ℕ) (ts : List Tree) (t : Tree) (All : Type 0) → drop i ts ≡ t ∷ drop (i + 1) ts → (AreInMemory (items_of (plain_items (drop i ts))) → All) → IsInMemory (plain_tree t) → AreInMemory (items_of (plain_items (drop (i + 1) ts))) → All
items_next i ts t All is so_far here more = so_far (subst (λ (l : List Tree). AreInMemory (items_of (plain_items l))) (sym is) (here, more))

pub pairs_next : (i : ℕ) (ps : List Entry) (p : Entry) (All : Type 0) → drop i ps ≡ p ∷ drop (i + 1) ps → (ArePairsInMemory (pairs_of (plain_pairs (drop i ps))) → All) → IsUtf8 p.0 × IsInMemory (plain_tree p.1) → ArePairsInMemory (pairs_of (plain_pairs (drop (i + 1) ps))) → All
pairs_next i ps p All is so_far here more = so_far (subst (λ (l : List Entry). ArePairsInMemory (pairs_of (plain_pairs l))) (sym is) (here.0, here.1, more))
