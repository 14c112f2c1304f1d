-- The steps of the loops over items and pairs.
use Rattle.std.proofs.Common.{◌≡◌, ℕ, zero, suc, ◌+◌, ◌≤◌, ◌<◌, List, [], ◌∷◌, ◌++◌, replicate, take, drop, length, get_or, ◌-◌, false, not, ◌==◌, append-nil, refl, ap, sym, ◌∙◌, arith}
use Rattle.std.proofs.lemmas.List.{take_rest}
use borrow.Author.Tests.{ne_eqb}
use Rattle.wf_tree.specs.Trees.{list, map, depth, items_of, items_depth, pairs_of, pairs_depth}
use Rattle.wf_tree.specs.Plain.{plain_tree, plain_items, plain_pairs}
use Rattle.wf_tree.specs.Trees as trees
use Rattle.wf_tree.specs.declared.tree.Tree.{Tree}
use Rattle.wf_tree.specs.declared.tree.Tree.TheVariants as tree
use Rattle.wf_yaml_line.specs.Marks.{space}
use Rattle.wf_yaml_write.specs.Laid.{laid, indented}
use Rattle.wf_yaml_write.specs.Layout.{layout, as_item, as_pair, items_layout, pairs_layout, is_block}
use Rattle.wf_yaml_write.proofs.Lines.{HasFirst, has_first, item_first, pair_first, laid_start, laid_next}

abbrev pub Entry : Type 0
Entry = List ℕ × Tree

item_lines : (t : Tree) → HasFirst (as_item (layout (plain_tree t)))
item_lines t = let h = item_first (layout (plain_tree t)) [] (has_first (plain_tree t)) in record { first = h.first; others = h.others; is = sym (append-nil (as_item (layout (plain_tree t)))) ∙ h.is }

abbrev pub pair_lines : Entry → List (List ℕ)
pair_lines p = as_pair p.0 (is_block (plain_tree p.1)) (layout (plain_tree p.1))

pair_has : (p : Entry) → HasFirst (pair_lines p)
pair_has p = let h = pair_first p.0 (is_block (plain_tree p.1)) (layout (plain_tree p.1)) [] in record { first = h.first; others = h.others; is = sym (append-nil (pair_lines p)) ∙ h.is }

-- ---- the places of lists

-- a list that begins with x
pub first_rest : {A : Type 0} (s : List A) (x : A) → 1 ≤ length s → x ≡ get_or s 0 x → s ≡ x ∷ take (length s - 1) (drop 1 s)
first_rest [] x h e = absurd (omega (arith, h))
first_rest (y ∷ s) x h e = ap (λ z. z ∷ s) (sym e) ∙ ap (λ r. x ∷ r) (sym (take_rest (y ∷ s) 1))

-- ---- items

abbrev pub items_text : ℕ → List Tree → List ℕ
items_text n ts = indented n (items_layout (items_of (plain_items ts)))

abbrev pub items_deep : List Tree → ℕ
items_deep ts = items_depth (items_of (plain_items ts))

pub item_deep : (ts : List Tree) (i : ℕ) (t : Tree) → i < length ts → t ≡ get_or ts i t → depth (plain_tree t) ≤ items_deep ts
item_deep [] i t h e = absurd (omega (arith, h))
item_deep (u ∷ ts) zero t h e = omega (arith, ap (λ r. depth (plain_tree r)) e)
item_deep (u ∷ ts) (suc i) t h e = omega (arith, item_deep ts i t (omega (arith, h)) e)

pub list_deep : (t : Tree) (ds : List trees.Tree) (ts : List Tree) → t ≡ tree.List ds → plain_items ts ≡ ds → depth (plain_tree t) ≡ items_deep ts + 1
list_deep t ds ts is seen = omega (arith, ap (λ l. items_depth (items_of l)) seen, ap (λ u. depth (plain_tree u)) is)

pub items_start : (n : ℕ) (out first new : List ℕ) (t : Tree) (ts : List Tree) → first ≡ out ++ laid n (as_item (layout (plain_tree t))) → new ≡ first ++ items_text n ts → new ≡ out ++ laid n (layout (list (items_of (plain_items (t ∷ ts)))))
items_start n out first new t ts f e = e ∙ laid_start n out first (as_item (layout (plain_tree t))) (items_layout (items_of (plain_items ts))) (item_lines t) f

pub items_next : (n : ℕ) (out new all : List ℕ) (t : Tree) (ts : List Tree) → out ++ items_text n (t ∷ ts) ≡ all → new ≡ (out ++ replicate n space) ++ laid n (as_item (layout (plain_tree t))) → new ++ items_text n ts ≡ all
items_next n out new all t ts = laid_next n out new all (as_item (layout (plain_tree t))) (items_layout (items_of (plain_items ts))) (item_lines t)

pub items_step : (n i : ℕ) (out spaced new all : List ℕ) (ts : List Tree) (t : Tree) → drop i ts ≡ t ∷ drop (i + 1) ts → out ++ items_text n (drop i ts) ≡ all → spaced ≡ out ++ replicate n space → new ≡ spaced ++ laid n (as_item (layout (plain_tree t))) → new ++ items_text n (drop (i + 1) ts) ≡ all
items_step n i out spaced new all ts t is before s e =
    items_next n out new all t (drop (i + 1) ts) (ap (λ r. out ++ items_text n r) (sym is) ∙ before) (e ∙ ap (λ r. r ++ laid n (as_item (layout (plain_tree t)))) s)

-- ---- pairs

abbrev pub pairs_text : ℕ → List Entry → List ℕ
pairs_text n ps = indented n (pairs_layout (pairs_of (plain_pairs ps)))

abbrev pub pairs_deep : List Entry → ℕ
pairs_deep ps = pairs_depth (pairs_of (plain_pairs ps))

pub pair_deep : (ps : List Entry) (i : ℕ) (p : Entry) → i < length ps → p ≡ get_or ps i p → depth (plain_tree p.1) ≤ pairs_deep ps
pair_deep [] i p h e = absurd (omega (arith, h))
pair_deep (q ∷ ps) zero p h e = omega (arith, ap (λ (r : Entry). depth (plain_tree r.1)) e)
pair_deep (q ∷ ps) (suc i) p h e = omega (arith, pair_deep ps i p (omega (arith, h)) e)

pub map_deep : (t : Tree) (ds : List (List ℕ × trees.Tree)) (ps : List Entry) → t ≡ tree.Map ds → plain_pairs ps ≡ ds → depth (plain_tree t) ≡ pairs_deep ps + 1
map_deep t ds ps is seen = omega (arith, ap (λ l. pairs_depth (pairs_of l)) seen, ap (λ u. depth (plain_tree u)) is)

pub pairs_start : (n : ℕ) (out first new : List ℕ) (p : Entry) (ps : List Entry) → first ≡ out ++ laid n (pair_lines p) → new ≡ first ++ pairs_text n ps → new ≡ out ++ laid n (layout (map (pairs_of (plain_pairs (p ∷ ps)))))
pairs_start n out first new p ps f e = e ∙ laid_start n out first (pair_lines p) (pairs_layout (pairs_of (plain_pairs ps))) (pair_has p) f

pub pairs_next : (n : ℕ) (out new all : List ℕ) (p : Entry) (ps : List Entry) → out ++ pairs_text n (p ∷ ps) ≡ all → new ≡ (out ++ replicate n space) ++ laid n (pair_lines p) → new ++ pairs_text n ps ≡ all
pairs_next n out new all p ps = laid_next n out new all (pair_lines p) (pairs_layout (pairs_of (plain_pairs ps))) (pair_has p)

pub pairs_step : (n i : ℕ) (out spaced new all : List ℕ) (ps : List Entry) (p : Entry) → drop i ps ≡ p ∷ drop (i + 1) ps → out ++ pairs_text n (drop i ps) ≡ all → spaced ≡ out ++ replicate n space → new ≡ spaced ++ laid n (pair_lines p) → new ++ pairs_text n (drop (i + 1) ps) ≡ all
pairs_step n i out spaced new all ps p is before s e =
    pairs_next n out new all p (drop (i + 1) ps) (ap (λ r. out ++ pairs_text n r) (sym is) ∙ before) (e ∙ ap (λ r. r ++ laid n (pair_lines p)) s)

-- ---- what takes lines of its own

suc_is_some : (n : ℕ) → (suc n == 0) ≡ false
suc_is_some n = ne_eqb (suc n) 0 (λ e. omega arith)

pub some_items : (ts : List Tree) → not (length ts == 0) ≡ is_block (list (items_of (plain_items ts)))
some_items [] = refl
some_items (t ∷ ts) = ap not (suc_is_some (length ts))

pub some_pairs : (ps : List Entry) → not (length ps == 0) ≡ is_block (map (pairs_of (plain_pairs ps)))
some_pairs [] = refl
some_pairs (p ∷ ps) = ap not (suc_is_some (length ps))
