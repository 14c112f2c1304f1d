-- Literals: what each kind of tree gives, and the loops over lists and maps.
use Rattle.std.proofs.Common.{◌≡◌, ℕ, suc, ◌+◌, ◌<◌, ℤ, Bool, false, not, List, [], ◌∷◌, ◌++◌, take, length, get_or, refl, ap, sym, ◌∙◌, subst, arith}
use Rattle.std.specs.Map.{keys_of}
use Rattle.wf_syntax_rules.proofs.Sound.{node_is_sound}
use Rattle.wf_syntax_rules.specs.Faults.{AreSound}
use Rattle.wf_syntax_rules.specs.Meaning.{AreLiterals, AreNamedLiterals, IsLiteral}
use Rattle.wf_syntax_rules.specs.Rules.{Literal, demand, each, every}
use Rattle.wf_syntax_rules.specs.declared.fault.SyntaxKind.TheVariants.{WrongKind}
use Rattle.wf_syntax.proofs.Lists.{each_fails, each_next, every_fails, every_next, take_next}
use Rattle.wf_syntax.proofs.Ordered.{AllBelow, keys_below, put_last}
use Rattle.wf_syntax.proofs.Valued.{Entry, item_plain, length_plain, plain_pair}
use Rattle.wf_syntax.specs.Answers.{Fails, FailsAmong, IsSoundAnd, AreSoundAnd}
use Rattle.wf_value.specs.Stops.{IsOutside}
use Rattle.wf_syntax_rules.specs.declared.fault.SyntaxKind.{SyntaxKind}
use Rattle.wf_value.specs.declared.stop.Stop.{Stop}
use Rattle.wf_expr.specs.Texts.{has_expressions}
use Rattle.wf_tree.specs.Plain.{plain_tree, plain_items, plain_pairs}
use Rattle.wf_tree.specs.Trees as trees
use Rattle.wf_tree.specs.Trees.{list, map, text, items_of, pairs_of}
use Rattle.wf_tree.specs.declared.tree.Tree.{Tree}
use Rattle.wf_tree.specs.declared.tree.Tree.TheVariants as tree
use Rattle.wf_tree.proofs.PairTrees.{plain_keys}
use Rattle.std.specs.List.Sorted.{IsStrictlySortedBy}
use Rattle.wf_value.specs.Data as values
use Rattle.wf_value.specs.Maps.{IsInOrder, key_cmp, with_value}
use Rattle.wf_value.specs.declared.path.PathPart.TheVariants.{Index, Key}

-- ---- nodes
-- a literal is this
abbrev pub GivesLiteral : values.Data → trees.Tree → Type 0
GivesLiteral d x = IsSoundAnd Literal x (IsLiteral d x)

pub null_gives : (u : Tree) → u ≡ tree.Null → GivesLiteral values.null (plain_tree u)
null_gives u is = subst (λ (w : Tree). GivesLiteral values.null (plain_tree w)) (sym is) (node_is_sound Literal trees.null refl (λ f h. h) tt, tt)

pub bool_gives : (u : Tree) (b : Bool) → u ≡ tree.Bool b → GivesLiteral (values.boolean b) (plain_tree u)
bool_gives u b is = subst (λ (w : Tree). GivesLiteral (values.boolean b) (plain_tree w)) (sym is) (node_is_sound Literal (trees.boolean b) refl (λ f h. h) tt, refl)

pub int_gives : (u : Tree) (n m : ℤ) → u ≡ tree.Int n → m ≡ n → GivesLiteral (values.integer m) (plain_tree u)
int_gives u n m is e = subst (λ (w : Tree). GivesLiteral (values.integer m) (plain_tree w)) (sym is) (node_is_sound Literal (trees.integer n) refl (λ f h. h) tt, e)

pub text_gives : (u : Tree) (s r : List ℕ) → u ≡ tree.Text s → r ≡ s → has_expressions s ≡ false → GivesLiteral (values.text r) (plain_tree u)
text_gives u s r is e none =
    subst (λ (w : Tree). GivesLiteral (values.text r) (plain_tree w)) (sym is)
    (node_is_sound Literal (text s) (ap (λ b. demand (not b) WrongKind) none) (λ f h. h) tt, e)

pub list_gives : (u : Tree) (xs : List trees.Tree) (ts : List Tree) (ds : List values.Data) → u ≡ tree.List xs → plain_items ts ≡ xs
    → AreSoundAnd (each Literal 0 (items_of (plain_items ts))) (AreLiterals (values.items_of ds) (items_of (plain_items ts))) → GivesLiteral (values.list (values.items_of ds)) (plain_tree u)
list_gives u xs ts ds is seen h =
    subst (λ (w : trees.Tree). GivesLiteral (values.list (values.items_of ds)) w) (sym (ap plain_tree is ∙ ap (λ l. list (items_of l)) (sym seen)))
    (node_is_sound Literal (list (items_of (plain_items ts))) refl (λ f k. k) h.0, h.1)

pub map_gives : (u : Tree) (xs : List (List ℕ × trees.Tree)) (ps : List Entry) (ds : List (List ℕ × values.Data)) → u ≡ tree.Map xs → plain_pairs ps ≡ xs
    → AreSoundAnd (every (λ x. Literal) (pairs_of (plain_pairs ps))) (AreNamedLiterals (values.pairs_of ds) (pairs_of (plain_pairs ps))) → GivesLiteral (values.map (values.pairs_of ds)) (plain_tree u)
map_gives u xs ps ds is seen h =
    subst (λ (w : trees.Tree). GivesLiteral (values.map (values.pairs_of ds)) w) (sym (ap plain_tree is ∙ ap (λ l. map (pairs_of l)) (sym seen)))
    (node_is_sound Literal (map (pairs_of (plain_pairs ps))) refl (λ f k. k) h.0, h.1)

-- ---- the loops
literals_next : (ds : List values.Data) (ts : List trees.Tree) (d : values.Data) (x : trees.Tree) → AreLiterals (values.items_of ds) (items_of ts) → IsLiteral d x → AreLiterals (values.items_of (ds ++ d ∷ [])) (items_of (ts ++ x ∷ []))
literals_next [] [] d x h here = (here, tt)
literals_next [] (y ∷ ts) d x h here = absurd h
literals_next (w ∷ ds) [] d x h here = absurd h
literals_next (w ∷ ds) (y ∷ ts) d x h here = (h.0, literals_next ds ts d x h.1 here)

named_next : (ds : List (List ℕ × values.Data)) (ts : List (List ℕ × trees.Tree)) (d : List ℕ × values.Data) (x : List ℕ × trees.Tree) → AreNamedLiterals (values.pairs_of ds) (pairs_of ts) → d.0 ≡ x.0 → IsLiteral d.1 x.1
    → AreNamedLiterals (values.pairs_of (ds ++ d ∷ [])) (pairs_of (ts ++ x ∷ []))
named_next [] [] d x h e here = (e, here, tt)
named_next [] (y ∷ ts) d x h e here = absurd h
named_next (w ∷ ds) [] d x h e here = absurd h
named_next (w ∷ ds) (y ∷ ts) d x h e here = (h.0, h.1, named_next ds ts d x h.2 e here)

same_keys : (ds : List (List ℕ × values.Data)) (ts : List (List ℕ × trees.Tree)) → AreNamedLiterals (values.pairs_of ds) (pairs_of ts) → keys_of ds ≡ keys_of ts
same_keys [] [] h = refl
same_keys [] (y ∷ ts) h = absurd h
same_keys (w ∷ ds) [] h = absurd h
same_keys (w ∷ ds) (y ∷ ts) h = ap (λ k. k ∷ keys_of ds) h.0 ∙ ap (λ l. y.0 ∷ l) (same_keys ds ts h.2)

pub plain_order : (ps : List Entry) → IsInOrder ps → IsInOrder (plain_pairs ps)
plain_order ps h = subst (λ ks. IsStrictlySortedBy key_cmp ks) (sym (plain_keys ps)) h

pub literals_step : (ts : List Tree) (i : ℕ) (x : Tree) (old new : List values.Data) (d : values.Data) → i < length ts → x ≡ get_or ts i x
    → AreSound (each Literal 0 (items_of (take i (plain_items ts)))) × AreLiterals (values.items_of old) (items_of (take i (plain_items ts)))
    → GivesLiteral d (plain_tree x) → new ≡ old ++ d ∷ []
    → AreSound (each Literal 0 (items_of (take (i + 1) (plain_items ts)))) × AreLiterals (values.items_of new) (items_of (take (i + 1) (plain_items ts)))
literals_step ts i x old new d h e all here made =
    let below : i < length (plain_items ts) = omega (arith, h, length_plain plain_tree ts) in
    let is = item_plain plain_tree ts i x h e in
    let next : suc i ≡ i + 1 = omega arith in
    subst (λ n. AreSound (each Literal 0 (items_of (take n (plain_items ts)))) × AreLiterals (values.items_of new) (items_of (take n (plain_items ts)))) next (
      each_next Literal (plain_items ts) i (plain_tree x) below is all.0 here.0,
      subst (λ (l : List trees.Tree). AreLiterals (values.items_of new) (items_of l)) (sym (take_next (plain_items ts) i (plain_tree x) below is))
          (subst (λ (l : List values.Data). AreLiterals (values.items_of l) (items_of (take i (plain_items ts) ++ plain_tree x ∷ []))) (sym made)
          (literals_next old (take i (plain_items ts)) d (plain_tree x) all.1 here.1)),
    )

pub literals_fails : (ts : List Tree) (i : ℕ) (x : Tree) (s o : Stop SyntaxKind) → i < length ts → x ≡ get_or ts i x → AreSound (each Literal 0 (items_of (take i (plain_items ts)))) → Fails Literal (plain_tree x) s → IsOutside (Index i) s o
    → FailsAmong (each Literal 0 (items_of (plain_items ts))) o
literals_fails ts i x s o h e all fails out =
    each_fails Literal (plain_items ts) i (plain_tree x) s o (omega (arith, h, length_plain plain_tree ts)) (item_plain plain_tree ts i x h e) all fails out

pub named_step : (ps : List Entry) (i : ℕ) (p : Entry) (old new : List (List ℕ × values.Data)) (k : List ℕ) (d : values.Data) → i < length ps → p ≡ get_or ps i p → IsInOrder ps
    → AreSound (every (λ x. Literal) (pairs_of (take i (plain_pairs ps)))) × AreNamedLiterals (values.pairs_of old) (pairs_of (take i (plain_pairs ps)))
    → k ≡ p.0 → GivesLiteral d (plain_tree p.1) → new ≡ with_value k d old
    → AreSound (every (λ x. Literal) (pairs_of (take (i + 1) (plain_pairs ps)))) × AreNamedLiterals (values.pairs_of new) (pairs_of (take (i + 1) (plain_pairs ps)))
named_step ps i p old new k d h e order all key here made =
    let below : i < length (plain_pairs ps) = omega (arith, h, length_plain plain_pair ps) in
    let is = item_plain plain_pair ps i p h e in
    let next : suc i ≡ i + 1 = omega arith in
    let before : AllBelow p.0 (keys_of (take i (plain_pairs ps))) = keys_below (plain_pairs ps) i (plain_pair p) below is (plain_order ps order) in
    let last : new ≡ old ++ (k, d) ∷ [] =
    made ∙ put_last k d old (subst (λ j. AllBelow j (keys_of old)) (sym key) (subst (λ ks. AllBelow p.0 ks) (sym (same_keys old (take i (plain_pairs ps)) all.1)) before)) in
    subst (λ n. AreSound (every (λ x. Literal) (pairs_of (take n (plain_pairs ps)))) × AreNamedLiterals (values.pairs_of new) (pairs_of (take n (plain_pairs ps)))) next (
      every_next (λ x. Literal) (plain_pairs ps) i (plain_pair p) below is all.0 here.0,
      subst (λ (l : List (List ℕ × trees.Tree)). AreNamedLiterals (values.pairs_of new) (pairs_of l)) (sym (take_next (plain_pairs ps) i (plain_pair p) below is))
          (subst (λ (l : List (List ℕ × values.Data)). AreNamedLiterals (values.pairs_of l) (pairs_of (take i (plain_pairs ps) ++ plain_pair p ∷ []))) (sym last)
          (named_next old (take i (plain_pairs ps)) (k, d) (plain_pair p) all.1 key here.1)),
    )

pub named_fails : (ps : List Entry) (i : ℕ) (p : Entry) (s o : Stop SyntaxKind) → i < length ps → p ≡ get_or ps i p → AreSound (every (λ x. Literal) (pairs_of (take i (plain_pairs ps)))) → Fails Literal (plain_tree p.1) s → IsOutside (Key p.0) s o
    → FailsAmong (every (λ x. Literal) (pairs_of (plain_pairs ps))) o
named_fails ps i p s o h e all fails out =
    every_fails (λ x. Literal) (plain_pairs ps) i (plain_pair p) s o (omega (arith, h, length_plain plain_pair ps)) (item_plain plain_pair ps i p h e) all fails out
