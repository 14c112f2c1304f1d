-- Pairs in the order of their keys: one more is put at their end.
use Rattle.std.proofs.Common.{◌≡◌, ℕ, zero, suc, ◌<◌, List, [], ◌∷◌, ◌++◌, take, length, get_or, Less, Greater, refl, sym, ap, ◌∙◌, subst, arith}
use Rattle.std.proofs.lemmas.Cmp.{nat_list_cmp_total}
use Rattle.std.specs.List.{AllByRecursion}
use Rattle.std.specs.List.Sorted.{IsStrictlySortedBy}
use Rattle.std.specs.Map.{keys_of}
use Rattle.std.specs.Ordering.{match_ordering, ordering_reverse}
use Rattle.wf_value.specs.Maps.{IsInOrder, key_cmp, with_value}

-- all these keys are below one
abbrev pub AllBelow : List ℕ → List (List ℕ) → Type 0
AllBelow k ks = AllByRecursion (λ j. key_cmp j k ≡ Less) ks

pub above : (j k : List ℕ) → key_cmp j k ≡ Less → key_cmp k j ≡ Greater
above j k h = nat_list_cmp_total.antisymm k j ∙ ap ordering_reverse h

module _ {X : Type 0} where
  pub put_last : (k : List ℕ) (v : X) (ps : List (List ℕ × X)) → AllBelow k (keys_of ps) → with_value k v ps ≡ ps ++ (k, v) ∷ []
  put_last k v [] h = refl
  put_last k v (p ∷ ps) h =
      ap (λ o. match_ordering o ((k, v) ∷ p ∷ ps) ((p.0, v) ∷ ps) (p ∷ with_value k v ps)) (above p.0 k h.0) ∙ ap (λ l. p ∷ l) (put_last k v ps h.1)

  below_at : (P : List ℕ → Type 0) (ps : List (List ℕ × X)) (i : ℕ) (p : List ℕ × X) → i < length ps → p ≡ get_or ps i p → AllByRecursion P (keys_of ps) → P p.0
  below_at P [] i p lt e h = absurd (omega (arith, lt))
  below_at P (q ∷ ps) zero p lt e h = subst P (ap (λ r. r.0) (sym e)) h.0
  below_at P (q ∷ ps) (suc i) p lt e h = below_at P ps i p (omega (arith, lt)) e h.1

  -- the keys before one are below it
  pub keys_below : (ps : List (List ℕ × X)) (i : ℕ) (p : List ℕ × X) → i < length ps → p ≡ get_or ps i p → IsInOrder ps → AllBelow p.0 (keys_of (take i ps))
  unfolding IsStrictlySortedBy
  keys_below [] i p lt e h = absurd (omega (arith, lt))
  keys_below (q ∷ ps) zero p lt e h = tt
  keys_below (q ∷ ps) (suc i) p lt e h =
      (below_at (λ j. key_cmp q.0 j ≡ Less) ps i p (omega (arith, lt)) e h.0, keys_below ps i p (omega (arith, lt)) e h.1)
