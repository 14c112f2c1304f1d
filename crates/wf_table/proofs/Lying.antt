-- Parts that lie in a row among the parts of a program.
use Rattle.std.proofs.Common.{◌≡◌, ℕ, zero, suc, ◌+◌, ◌<◌, List, [], ◌∷◌, ◌++◌, length, drop, slice_get, Some, sym, ap, ◌∙◌, append_assoc, arith}
use Rattle.wf_lemmas.proofs.Numbers.{plus_zero, suc_moved}
use Rattle.wf_model.specs.Spots.{Part, Spot, owners_at, part_at, spot, spot_owners, spot_part}

-- from number n on these parts lie
pub record Lies (ns : List Spot) (n : ℕ) (xs : List Spot) : Type 0 where
  pub after : List Spot
  pub from : drop n ns ≡ xs ++ after

at_front : (ns : List Spot) (n : ℕ) (s : Spot) (l : List Spot) → drop n ns ≡ s ∷ l → slice_get ns n ≡ Some s
at_front [] zero s l h = absurd (cc)
at_front [] (suc n) s l h = absurd (cc)
at_front (x ∷ ns) zero s l h = let e : x ≡ s = cc in ap Some e
at_front (x ∷ ns) (suc n) s l h = at_front ns n s l h

next_on : (ns : List Spot) (n : ℕ) (s : Spot) (l : List Spot) → drop n ns ≡ s ∷ l → drop (suc n) ns ≡ l
next_on [] zero s l h = absurd (cc)
next_on [] (suc n) s l h = absurd (cc)
next_on (x ∷ ns) zero s l h = cc
next_on (x ∷ ns) (suc n) s l h = next_on ns n s l h

is_below : (ns : List Spot) (n : ℕ) (s : Spot) (l : List Spot) → drop n ns ≡ s ∷ l → n < length ns
is_below [] zero s l h = absurd (cc)
is_below [] (suc n) s l h = absurd (cc)
is_below (x ∷ ns) zero s l h = omega arith
is_below (x ∷ ns) (suc n) s l h = let k : n < length ns = is_below ns n s l h in omega arith

pub first : (ns : List Spot) (n : ℕ) (s : Spot) (xs : List Spot) → Lies ns n (s ∷ xs) → slice_get ns n ≡ Some s
first ns n s xs h = at_front ns n s (xs ++ h.after) h.from

pub within : (ns : List Spot) (n : ℕ) (s : Spot) (xs : List Spot) → Lies ns n (s ∷ xs) → n < length ns
within ns n s xs h = is_below ns n s (xs ++ h.after) h.from

pub part_is : (ns : List Spot) (n : ℕ) (p : Part) (os : List ℕ) (xs : List Spot) → Lies ns n (spot p os ∷ xs) → part_at ns n ≡ p
part_is ns n p os xs h = ap spot_part (first ns n (spot p os) xs h)

pub owners_are : (ns : List Spot) (n : ℕ) (p : Part) (os : List ℕ) (xs : List Spot) → Lies ns n (spot p os ∷ xs) → owners_at ns n ≡ os
owners_are ns n p os xs h = ap spot_owners (first ns n (spot p os) xs h)

pub others : (ns : List Spot) (n : ℕ) (s : Spot) (xs : List Spot) → Lies ns n (s ∷ xs) → Lies ns (suc n) xs
others ns n s xs h = record { after = h.after; from = next_on ns n s (xs ++ h.after) h.from }

pub left : (ns : List Spot) (n : ℕ) (xs ys : List Spot) → Lies ns n (xs ++ ys) → Lies ns n xs
left ns n xs ys h = record { after = ys ++ h.after; from = h.from ∙ append_assoc xs ys h.after }

-- behind some parts
pub behind : (ns : List Spot) (xs ys : List Spot) (n m : ℕ) → m ≡ n + length xs → Lies ns n (xs ++ ys) → Lies ns m ys
behind ns [] ys n m is h = record { after = h.after; from = ap (λ k. drop k ns) (is ∙ sym (plus_zero n)) ∙ h.from }
behind ns (x ∷ xs) ys n m is h = behind ns xs ys (suc n) m (is ∙ sym (suc_moved n (length xs))) (others ns n x (xs ++ ys) h)
