-- Pairs that are put into a map one after another, whatever their order.
use Rattle.std.proofs.Common.{◌≡◌, ℕ, List, [], ◌∷◌, ◌++◌, true, false, ◌||◌, Ordering, Less, Equal, Greater, refl, sym, ap, ◌∙◌, true≢false, is_eq}
use Rattle.std.proofs.lemmas.Cmp.{nat_list_cmp_total, tied_itself}
use Rattle.std.proofs.lemmas.Map.Text.{is_eq-slice_cmp}
use Rattle.std.proofs.lemmas.Map.Lookups.{exact_bytes}
use Rattle.std.specs.List.{AllByRecursion}
use Rattle.std.specs.List.Sorted.{IsStrictlySortedBy}
use Rattle.std.specs.Map.{keys_of}
use Rattle.std.specs.Ordering.{match_ordering, ordering_reverse}
use Rattle.wf_lemmas.proofs.Bools.{or_swapped, or_twice}
use Rattle.wf_tree.specs.Trees.{Tree}
use Rattle.wf_value.specs.Maps.{IsInOrder, key_cmp, with_value}
use Rattle.wf_yaml_line.specs.Marks.{is_same, is_one_of}
use Rattle.wf_yaml_line.proofs.Sets.{bytes_same, turned}

abbrev pub Named : Type 0
Named = List ℕ × Tree

-- no pair has this key
abbrev pub HasNot : List ℕ → List Named → Type 0
HasNot k ps = AllByRecursion (λ q. is_same k q.0 ≡ false) ps

-- no key stands twice
abbrev pub AreDistinct : List Named → Type 0
AreDistinct [] = Unit {0}
AreDistinct (p ∷ ps) = HasNot p.0 ps × AreDistinct ps

-- these pairs, one after another put into those
abbrev pub added : List Named → List Named → List Named
added done [] = done
added done (p ∷ ps) = added (with_value p.0 p.1 done) ps

-- ---- keys

pub same_turned : (s t : List ℕ) → is_same s t ≡ is_same t s
same_turned s t = sym (bytes_same s t) ∙ turned s t

cmp_same : (s t : List ℕ) → is_same s t ≡ is_eq (key_cmp s t)
cmp_same s t = sym (bytes_same s t) ∙ sym (is_eq-slice_cmp s t)

pub same_itself : (s : List ℕ) → is_same s s ≡ true
same_itself s = cmp_same s s ∙ ap is_eq (tied_itself nat_list_cmp_total s)

below_differs : (s t : List ℕ) → key_cmp s t ≡ Less → is_same s t ≡ false
below_differs s t h = cmp_same s t ∙ ap is_eq h

no_tie : {G : Type 0} (s t : List ℕ) → key_cmp s t ≡ Equal → is_same s t ≡ false → G
no_tie s t h n = absurd (true≢false (sym (cmp_same s t ∙ ap is_eq h) ∙ n))

turn : (s t : List ℕ) (o : Ordering) → key_cmp s t ≡ o → key_cmp t s ≡ ordering_reverse o
turn s t o h = nat_list_cmp_total.antisymm t s ∙ ap ordering_reverse h

-- ---- the keys of pairs

put_first : (k l : List ℕ) (v : Tree) (p : Named) (ps more : List Named) (o : Ordering) → key_cmp l p.0 ≡ o
    → is_one_of (keys_of more) k ≡ (is_same l k || is_one_of (keys_of ps) k)
    → is_one_of (keys_of (match_ordering o ((l, v) ∷ p ∷ ps) ((p.0, v) ∷ ps) (p ∷ more))) k ≡ (is_same l k || is_one_of (keys_of (p ∷ ps)) k)
put_first k l v p ps more Less e h = refl
put_first k l v p ps more Equal e h = or_twice (is_same p.0 k) (is_one_of (keys_of ps) k) ∙ ap (λ m. is_same m k || is_one_of (keys_of (p ∷ ps)) k) (sym (exact_bytes l p.0 e))
put_first k l v p ps more Greater e h = ap (λ b. is_same p.0 k || b) h ∙ or_swapped (is_same p.0 k) (is_same l k) (is_one_of (keys_of ps) k)

-- a key stands among those of the pairs, with one put in
pub key_put : (k l : List ℕ) (v : Tree) (ps : List Named) → is_one_of (keys_of (with_value l v ps)) k ≡ (is_same l k || is_one_of (keys_of ps) k)
key_put k l v [] = refl
key_put k l v (p ∷ ps) = put_first k l v p ps (with_value l v ps) (key_cmp l p.0) refl (key_put k l v ps)

-- ---- one pair

module _ (k : List ℕ) (v : Tree) (p : Named) (ps : List Named) where
  pub under : key_cmp k p.0 ≡ Less → with_value k v (p ∷ ps) ≡ (k, v) ∷ p ∷ ps
  under h = ap (λ o. match_ordering o ((k, v) ∷ p ∷ ps) ((p.0, v) ∷ ps) (p ∷ with_value k v ps)) h

  over : key_cmp k p.0 ≡ Equal → with_value k v (p ∷ ps) ≡ (p.0, v) ∷ ps
  over h = ap (λ o. match_ordering o ((k, v) ∷ p ∷ ps) ((p.0, v) ∷ ps) (p ∷ with_value k v ps)) h

  pub past : key_cmp k p.0 ≡ Greater → with_value k v (p ∷ ps) ≡ p ∷ with_value k v ps
  past h = ap (λ o. match_ordering o ((k, v) ∷ p ∷ ps) ((p.0, v) ∷ ps) (p ∷ with_value k v ps)) h

-- ---- two pairs

-- both go in front of what is there
front : (p q : Named) (ps : List Named) (o : Ordering) → key_cmp p.0 q.0 ≡ o → is_same p.0 q.0 ≡ false → with_value p.0 p.1 ps ≡ p ∷ ps → with_value q.0 q.1 ps ≡ q ∷ ps
    → with_value p.0 p.1 (q ∷ ps) ≡ with_value q.0 q.1 (p ∷ ps)
front p q ps Less h n at_p at_q = under p.0 p.1 q ps h ∙ sym (past q.0 q.1 p ps (turn p.0 q.0 Less h) ∙ ap (λ l. p ∷ l) at_q)
front p q ps Equal h n at_p at_q = no_tie p.0 q.0 h n
front p q ps Greater h n at_p at_q = past p.0 p.1 q ps h ∙ ap (λ l. q ∷ l) at_p ∙ sym (under q.0 q.1 p ps (turn p.0 q.0 Greater h))

module _ (p q r : Named) (ps : List Named) where
  abbrev Swaps : Type 0
  Swaps = with_value p.0 p.1 (with_value q.0 q.1 (r ∷ ps)) ≡ with_value q.0 q.1 (with_value p.0 p.1 (r ∷ ps))

  both_under : is_same p.0 q.0 ≡ false → key_cmp p.0 r.0 ≡ Less → key_cmp q.0 r.0 ≡ Less → Swaps
  both_under n h k =
      let at_p = under p.0 p.1 r ps h in
      let at_q = under q.0 q.1 r ps k in
      ap (with_value p.0 p.1) at_q ∙ front p q (r ∷ ps) _ refl n at_p at_q ∙ sym (ap (with_value q.0 q.1) at_p)

  under_over : key_cmp p.0 r.0 ≡ Less → key_cmp q.0 r.0 ≡ Equal → Swaps
  under_over h k =
      let q_p : key_cmp q.0 p.0 ≡ Greater = nat_list_cmp_total.congr q.0 r.0 p.0 k ∙ turn p.0 r.0 Less h in
      ap (with_value p.0 p.1) (over q.0 q.1 r ps k) ∙ under p.0 p.1 (r.0, q.1) ps h
      ∙ sym (ap (with_value q.0 q.1) (under p.0 p.1 r ps h) ∙ past q.0 q.1 p (r ∷ ps) q_p ∙ ap (λ l. p ∷ l) (over q.0 q.1 r ps k))

  under_past : key_cmp p.0 r.0 ≡ Less → key_cmp q.0 r.0 ≡ Greater → Swaps
  under_past h k =
      let q_p : key_cmp q.0 p.0 ≡ Greater = turn p.0 q.0 Less (nat_list_cmp_total.trans p.0 r.0 q.0 h (turn q.0 r.0 Greater k)) in
      ap (with_value p.0 p.1) (past q.0 q.1 r ps k) ∙ under p.0 p.1 r (with_value q.0 q.1 ps) h
      ∙ sym (ap (with_value q.0 q.1) (under p.0 p.1 r ps h) ∙ past q.0 q.1 p (r ∷ ps) q_p ∙ ap (λ l. p ∷ l) (past q.0 q.1 r ps k))

  over_past : key_cmp p.0 r.0 ≡ Equal → key_cmp q.0 r.0 ≡ Greater → Swaps
  over_past h k =
      ap (with_value p.0 p.1) (past q.0 q.1 r ps k) ∙ over p.0 p.1 r (with_value q.0 q.1 ps) h
      ∙ sym (ap (with_value q.0 q.1) (over p.0 p.1 r ps h) ∙ past q.0 q.1 (r.0, p.1) ps k)

  both_past : key_cmp p.0 r.0 ≡ Greater → key_cmp q.0 r.0 ≡ Greater → with_value p.0 p.1 (with_value q.0 q.1 ps) ≡ with_value q.0 q.1 (with_value p.0 p.1 ps) → Swaps
  both_past h k more =
      ap (with_value p.0 p.1) (past q.0 q.1 r ps k) ∙ past p.0 p.1 r (with_value q.0 q.1 ps) h ∙ ap (λ l. r ∷ l) more
      ∙ sym (ap (with_value q.0 q.1) (past p.0 p.1 r ps h) ∙ past q.0 q.1 r (with_value p.0 p.1 ps) k)

swap_at : (p q r : Named) (ps : List Named) (o u : Ordering) → key_cmp p.0 r.0 ≡ o → key_cmp q.0 r.0 ≡ u → is_same p.0 q.0 ≡ false
    → with_value p.0 p.1 (with_value q.0 q.1 ps) ≡ with_value q.0 q.1 (with_value p.0 p.1 ps) → Swaps p q r ps
swap_at p q r ps Less Less h k n more = both_under p q r ps n h k
swap_at p q r ps Less Equal h k n more = under_over p q r ps h k
swap_at p q r ps Less Greater h k n more = under_past p q r ps h k
swap_at p q r ps Equal Less h k n more = sym (under_over q p r ps k h)
swap_at p q r ps Equal Equal h k n more = no_tie p.0 q.0 (ap (key_cmp p.0) (exact_bytes q.0 r.0 k) ∙ h) n
swap_at p q r ps Equal Greater h k n more = over_past p q r ps h k
swap_at p q r ps Greater Less h k n more = sym (under_past q p r ps k h)
swap_at p q r ps Greater Equal h k n more = sym (over_past q p r ps k h)
swap_at p q r ps Greater Greater h k n more = both_past p q r ps h k more

-- two pairs with other keys may be put in either order
pub swapped : (p q : Named) (ps : List Named) → is_same p.0 q.0 ≡ false → with_value p.0 p.1 (with_value q.0 q.1 ps) ≡ with_value q.0 q.1 (with_value p.0 p.1 ps)
swapped p q [] n = front p q [] _ refl n refl refl
swapped p q (r ∷ ps) n = swap_at p q r ps _ _ refl refl n (swapped p q ps n)

-- ---- many pairs

-- one of them may be put first
pub first_put : (done xs : List Named) (p : Named) (ys : List Named) → HasNot p.0 (xs ++ ys) → added done (xs ++ p ∷ ys) ≡ added (with_value p.0 p.1 done) (xs ++ ys)
first_put done [] p ys n = refl
first_put done (q ∷ xs) p ys n = first_put (with_value q.0 q.1 done) xs p ys n.1 ∙ ap (λ l. added l (xs ++ ys)) (swapped p q done n.0)

-- or last
last_put : (done ps : List Named) (p : Named) → HasNot p.0 ps → added (with_value p.0 p.1 done) ps ≡ with_value p.0 p.1 (added done ps)
last_put done [] p n = refl
last_put done (q ∷ ps) p n = ap (λ l. added l ps) (sym (swapped p q done n.0)) ∙ last_put (with_value q.0 q.1 done) ps p n.1

lowest : (p : Named) (ps : List Named) → AllByRecursion (λ k. key_cmp p.0 k ≡ Less) (keys_of ps) → with_value p.0 p.1 ps ≡ p ∷ ps
lowest p [] low = refl
lowest p (q ∷ ps) low = under p.0 p.1 q ps low.0

not_there : (k : List ℕ) (ps : List Named) → AllByRecursion (λ l. key_cmp k l ≡ Less) (keys_of ps) → HasNot k ps
not_there k [] low = tt
not_there k (q ∷ ps) low = (below_differs k q.0 low.0, not_there k ps low.1)

pub in_order_distinct : (ps : List Named) → IsInOrder ps → AreDistinct ps
unfolding IsStrictlySortedBy
in_order_distinct [] s = tt
in_order_distinct (p ∷ ps) s = (not_there p.0 ps s.0, in_order_distinct ps s.1)

-- pairs in order make themselves
pub in_order_added : (ps : List Named) → IsInOrder ps → added [] ps ≡ ps
unfolding IsStrictlySortedBy
in_order_added [] s = refl
in_order_added (p ∷ ps) s = last_put [] ps p (not_there p.0 ps s.0) ∙ ap (with_value p.0 p.1) (in_order_added ps s.1) ∙ lowest p ps s.0

-- without one of them the others are distinct from it, and among themselves
all_but : (P : Named → Type 0) (xs : List Named) (p : Named) (ys : List Named) → AllByRecursion P (xs ++ p ∷ ys) → P p × AllByRecursion P (xs ++ ys)
all_but P [] p ys all = (all.0, all.1)
all_but P (q ∷ xs) p ys all = let r = all_but P xs p ys all.1 in (r.0, (all.0, r.1))

pub others_distinct : (xs : List Named) (p : Named) (ys : List Named) → AreDistinct (xs ++ p ∷ ys) → HasNot p.0 (xs ++ ys) × AreDistinct (xs ++ ys)
others_distinct [] p ys d = (d.0, d.1)
others_distinct (q ∷ xs) p ys d =
    let n = all_but (λ r. is_same q.0 r.0 ≡ false) xs p ys d.0 in
    let m = others_distinct xs p ys d.1 in
    ((same_turned p.0 q.0 ∙ n.0, m.0), (n.1, m.1))

pub others_all : (P : Named → Type 0) (xs : List Named) (p : Named) (ys : List Named) → AllByRecursion P (xs ++ p ∷ ys) → P p × AllByRecursion P (xs ++ ys)
others_all = all_but
