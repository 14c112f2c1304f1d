-- A binary search among keys that rise ends where `seek` does.
use Rattle.std.proofs.Common.{◌≡◌, ℕ, zero, suc, ◌+◌, ◌<◌, ◌≤◌, List, [], ◌∷◌, length, slice_index_or, HoldsAt, Ordering, Less, Equal, Greater, Result, Ok, Err, refl, sym, ap, subst, ◌∙◌, arith}
use Rattle.std.proofs.lemmas.Cmp.{nat_list_cmp_total, tied_back}
use Rattle.std.specs.List.{AllByRecursion, AllWithin}
use Rattle.std.specs.List.Sorted.{IsStrictlySortedBy, IsNonDecreasingBy, IsBinarySearchResult, IsSearchInRange}
use Rattle.std.specs.Map.{keys_of}
use Rattle.std.specs.Ordering.{ordering_index, ordering_reverse}
use Rattle.std_collections.specs.Layout.BTreeMap.{seek, one_further}
use Rattle.wf_value.specs.Maps.{IsInOrder, key_cmp}

-- the two orders of a comparison
turned : (a b : List ℕ) (o : Ordering) → key_cmp b a ≡ o → key_cmp a b ≡ ordering_reverse o
turned a b o h = nat_list_cmp_total.antisymm a b ∙ ap ordering_reverse h

least : (o : Ordering) → ordering_index o ≤ 0 → o ≡ Less
least Less h = refl
least Equal h = absurd (omega arith)
least Greater h = absurd (omega arith)

greatest : (o : Ordering) → 2 ≤ ordering_index o → o ≡ Greater
greatest Less h = absurd (omega arith)
greatest Equal h = absurd (omega arith)
greatest Greater h = refl

module _ (k : List ℕ) where
  by_lower : (a b : List ℕ) (o : Ordering) → key_cmp a b ≡ Less → key_cmp a k ≡ o → ordering_index o ≤ ordering_index (key_cmp b k)
  by_lower a b Less less h = omega arith
  by_lower a b Equal less h = rw (turned b k Less (sym (nat_list_cmp_total.congr a k b h) ∙ less)) (omega arith)
  by_lower a b Greater less h = rw (turned b k Less (nat_list_cmp_total.trans k a b (turned k a Greater h) less)) (omega arith)

  -- what comparing answers rises with the keys
  lower : (a b : List ℕ) → key_cmp a b ≡ Less → ordering_index (key_cmp a k) ≤ ordering_index (key_cmp b k)
  lower a b less = by_lower a b _ less refl

  module _ {X : Type 0} where
    each : (P : List ℕ → Type 0) (ps : List (List ℕ × X)) (i : ℕ) (d : List ℕ × X) → i < length ps → AllByRecursion P (keys_of ps) → P (slice_index_or ps i d).0
    each P [] i d h all = absurd (omega arith)
    each P (p ∷ ps) zero d h all = all.0
    each P (p ∷ ps) (suc i) d h all = each P ps i d (omega arith) all.1

    rises : (ps : List (List ℕ × X)) → IsInOrder ps → IsNonDecreasingBy (λ p. ordering_index (key_cmp p.0 k)) ps
    unfolding IsStrictlySortedBy
    rises [] s i j d le within = absurd (omega arith)
    rises (p ∷ ps) s zero zero d le within = omega arith
    rises (p ∷ ps) s zero (suc j) d le within =
        lower p.0 (slice_index_or ps j d).0 (each (λ y. key_cmp p.0 y ≡ Less) ps j d (omega arith) s.0)
    rises (p ∷ ps) s (suc i) zero d le within = absurd (omega arith)
    rises (p ∷ ps) s (suc i) (suc j) d le within = rises ps s.1 i j d (omega arith) (omega arith)

    pub found : (ps : List (List ℕ × X)) (i : ℕ) → IsInOrder ps → i < length ps → HoldsAt (λ p. key_cmp p.0 k ≡ Equal) ps i → seek (key_cmp k) ps ≡ Ok i
    unfolding IsStrictlySortedBy
    found [] i s within at = absurd (omega arith)
    found (p ∷ ps) zero s within at = rw (tied_back nat_list_cmp_total p.0 k (at p)) refl
    found (p ∷ ps) (suc i) s within at =
        let q = slice_index_or ps i p in
        let above : key_cmp p.0 q.0 ≡ Less = each (λ y. key_cmp p.0 y ≡ Less) ps i p (omega arith) s.0 in
        let past : key_cmp k p.0 ≡ Greater = sym (nat_list_cmp_total.congr q.0 k p.0 (at p)) ∙ turned q.0 p.0 Less above in
        rw past (ap one_further (found ps i s.1 (omega arith) at))

    pub missing : (ps : List (List ℕ × X)) (i : ℕ) → i ≤ length ps → AllWithin (λ p. key_cmp p.0 k ≡ Less) ps 0 i → AllWithin (λ p. key_cmp p.0 k ≡ Greater) ps i (length ps) → seek (key_cmp k) ps ≡ Err i
    missing [] zero within before behind = refl
    missing [] (suc i) within before behind = absurd (omega arith)
    missing (p ∷ ps) zero within before behind =
        rw (turned k p.0 Greater (behind 0 p (omega arith) (omega arith))) refl
    missing (p ∷ ps) (suc i) within before behind =
        let past : key_cmp k p.0 ≡ Greater = turned k p.0 Less (before 0 p (omega arith) (omega arith)) in
        rw past (ap one_further (missing ps i (omega arith) (λ j d low high. before (suc j) d (omega arith) (omega arith)) (λ j d low high. behind (suc j) d (omega arith) (omega arith))))

    -- what std's search of a slice finds, for the crates above
    pub search_is_seek : (ps : List (List ℕ × X)) (r : Result ℕ ℕ) → IsInOrder ps → IsSearchInRange r (length ps) → IsBinarySearchResult (λ p. key_cmp p.0 k) ps r → r ≡ seek (key_cmp k) ps
    search_is_seek ps (Ok i) s within at = sym (found ps i s within at)
    search_is_seek ps (Err i) s within parted =
        let parts = parted (rises ps s) in
        sym (missing ps i within parts.0 parts.1)

    anywhere : (ps : List (List ℕ × X)) (i : ℕ) (d e : List ℕ × X) → i < length ps → slice_index_or ps i d ≡ slice_index_or ps i e
    anywhere [] i d e lt = absurd (omega arith)
    anywhere (p ∷ ps) zero d e lt = refl
    anywhere (p ∷ ps) (suc i) d e lt = anywhere ps i d e (omega arith)

    -- what holds of the element at a place
    pub holds_at : (P : List ℕ × X → Type 0) (ps : List (List ℕ × X)) (i : ℕ) (p : List ℕ × X) → i < length ps → P (slice_index_or ps i p) → HoldsAt P ps i
    holds_at P ps i p lt h d = subst P (anywhere ps i p d lt) h

    -- the key is above one of them, and so above those before it
    pub all_before : (ps : List (List ℕ × X)) (i : ℕ) → IsInOrder ps → i < length ps → HoldsAt (λ p. key_cmp p.0 k ≡ Less) ps i → AllWithin (λ p. key_cmp p.0 k ≡ Less) ps 0 (i + 1)
    all_before ps i s lt at j d low high =
        let e = ap ordering_index (at d) in
        least (key_cmp (slice_index_or ps j d).0 k) (omega (arith, rises ps s j i d (omega arith) lt, e))

    -- the key is below one of them, and so below those behind it
    pub all_behind : (ps : List (List ℕ × X)) (i : ℕ) → IsInOrder ps → i < length ps → HoldsAt (λ p. key_cmp p.0 k ≡ Greater) ps i → AllWithin (λ p. key_cmp p.0 k ≡ Greater) ps i (length ps)
    all_behind ps i s lt at j d low high =
        let e = ap ordering_index (at d) in
        greatest (key_cmp (slice_index_or ps j d).0 k) (omega (arith, rises ps s i j d low high, e))
