-- Layers by their numbers: what is found, and where a number stands among numbers that rise.
use Rattle.std.proofs.Common.{◌≡◌, ◌⊎◌, inl, inr, ℕ, zero, suc, ◌-◌, ◌+◌, ◌<◌, ◌≤◌, max, Bool, true, false, List, [], ◌∷◌, length, get_or, HoldsAt, Less, Equal, Greater, Result, Ok, Err, Option, Some, None, is_some, slice_get, refl, sym, ap, subst, ◌∙◌, arith}
use Rattle.std.specs.Prelude.{nat_eq, nat_lt, if◌then◌else◌}
use Rattle.std.specs.List.Sorted.{IsBinarySearchResult, IsNonDecreasingBy, IsSearchInRange}
use Rattle.std.specs.Ordering.{nat_cmp, ordering_index}
use Rattle.std.proofs.lemmas.Bool.{and_parts, cases_lt, eq-eqb, eqb-true, false≢true, ltb-true, ne_eqb}
use Rattle.std.proofs.lemmas.Bool.Decides.{nat_tests}
use Rattle.std.proofs.lemmas.Cmp.{ranked}
use Rattle.std.proofs.lemmas.Option.{get_or_from_slice_get, slice_get_read, slice_get_within}
use Rattle.wf_scope.specs.Layers.{IsLive, Layer, all_above, find, fresh, rises}

-- ## What is found
pub find_head : (n : ℕ) (x : Layer) (ls : List Layer) → nat_eq x.number n ≡ true → find n (x ∷ ls) ≡ Some x
find_head n x ls t = ap (λ (b : Bool). if b then Some x else find n ls) t

pub find_tail : (n : ℕ) (x : Layer) (ls : List Layer) → nat_eq x.number n ≡ false → find n (x ∷ ls) ≡ find n ls
find_tail n x ls t = ap (λ (b : Bool). if b then Some x else find n ls) t

-- the first layer is found, or one behind it
pub found_cases : (n : ℕ) (x : Layer) (ls : List Layer) (l : Layer) → find n (x ∷ ls) ≡ Some l → ((nat_eq x.number n ≡ true) × (x ≡ l)) ⊎ ((nat_eq x.number n ≡ false) × (find n ls ≡ Some l))
found_cases n x ls l e = by (nat_eq x.number n) refl e
  where
    by : (b : Bool) → nat_eq x.number n ≡ b → (if b then Some x else find n ls) ≡ Some l → ((nat_eq x.number n ≡ true) × (x ≡ l)) ⊎ ((nat_eq x.number n ≡ false) × (find n ls ≡ Some l))
    by true t h = let same : x ≡ l = cc h in inl (t, same)
    by false t h = inr (t, h)

pub number_found : (n : ℕ) (ls : List Layer) (l : Layer) → find n ls ≡ Some l → l.number ≡ n
number_found n [] l e = cc
number_found n (x ∷ ls) l e = elim (found_cases n x ls l e) [
  | inl h ↦ ap (λ (y : Layer). y.number) (sym h.1) ∙ eqb-true x.number n h.0
  | inr h ↦ number_found n ls l h.1
]

pub live_found : (n : ℕ) (ls : List Layer) → IsLive n ls → (l : Layer) × (find n ls ≡ Some l)
live_found n ls h = by (find n ls) refl h
  where
    by : (o : Option Layer) → find n ls ≡ o → is_some o ≡ true → (l : Layer) × (find n ls ≡ Some l)
    by None e t = absurd (false≢true t)
    by (Some l) e t = (l, e)

-- ## Rising numbers
pub above_at : (m : ℕ) (ls : List Layer) (i : ℕ) (d : Layer) → all_above m ls ≡ true → i < length ls → m < (get_or ls i d).number
above_at m [] i d h w = absurd (omega (arith, w))
above_at m (x ∷ ls) zero d h w = ltb-true m x.number (and_parts (nat_lt m x.number) (all_above m ls) h).0
above_at m (x ∷ ls) (suc i) d h w = above_at m ls i d (and_parts (nat_lt m x.number) (all_above m ls) h).1 (omega (arith, w))

numbers_rise : (ls : List Layer) (i j : ℕ) (d : Layer) → rises ls ≡ true → i ≤ j → j < length ls → (get_or ls i d).number ≤ (get_or ls j d).number
numbers_rise [] i j d h le w = absurd (omega (arith, w))
numbers_rise (x ∷ ls) zero zero d h le w = omega arith
numbers_rise (x ∷ ls) zero (suc j) d h le w =
    let above = above_at x.number ls j d (and_parts (all_above x.number ls) (rises ls) h).0 (omega (arith, w)) in
    omega (arith, above)
numbers_rise (x ∷ ls) (suc i) zero d h le w = absurd (omega (arith, le))
numbers_rise (x ∷ ls) (suc i) (suc j) d h le w = numbers_rise ls i j d (and_parts (all_above x.number ls) (rises ls) h).1 (omega (arith, le)) (omega (arith, w))

rank_rises : (a b n : ℕ) → a ≤ b → ordering_index (nat_cmp a n) ≤ ordering_index (nat_cmp b n)
rank_rises a b n h = grind (arith, nat_tests)

rising : (n : ℕ) (ls : List Layer) → rises ls ≡ true → IsNonDecreasingBy (λ l. ordering_index (nat_cmp l.number n)) ls
rising n ls h i j d le w = rank_rises (get_or ls i d).number (get_or ls j d).number n (numbers_rise ls i j d h le w)

-- ## A search by number
search_hits : (n : ℕ) (ls : List Layer) (i : ℕ) → rises ls ≡ true → i < length ls → HoldsAt (λ l. nat_cmp l.number n ≡ Equal) ls i → slice_get ls i ≡ find n ls
search_hits n [] i h w at = absurd (omega (arith, w))
search_hits n (x ∷ ls) zero h w at = sym (find_head n x ls (eq-eqb x.number n (ranked x.number n Equal (sym (at x)))))
search_hits n (x ∷ ls) (suc i) h w at =
    let two = and_parts (all_above x.number ls) (rises ls) h in
    let above = above_at x.number ls i x two.0 (omega (arith, w)) in
    let same : (get_or ls i x).number ≡ n = ranked (get_or ls i x).number n Equal (sym (at x)) in
    search_hits n ls i two.1 (omega (arith, w)) at ∙ sym (find_tail n x ls (ne_eqb x.number n (λ s. omega (arith, above, same, s))))

place_found : (n : ℕ) (ls : List Layer) (l : Layer) → find n ls ≡ Some l → (i : ℕ) × (slice_get ls i ≡ Some l)
place_found n [] l e = cc
place_found n (x ∷ ls) l e = elim (found_cases n x ls l e) [
  | inl h ↦ (0, ap Some h.1)
  | inr h ↦ let p = place_found n ls l h.1 in (suc p.0, p.1)
]

search_misses : (n : ℕ) (ls : List Layer) (i : ℕ) → rises ls ≡ true → IsLive n ls → IsBinarySearchResult (λ l. nat_cmp l.number n) ls (Err i) → ⊥
search_misses n ls i h live parted =
    let found = live_found n ls live in
    let l = found.0 in
    let place = place_found n ls l found.1 in
    let j = place.0 in
    let within = slice_get_within ls j l place.1 in
    let number : (get_or ls j l).number ≡ n = ap (λ (y : Layer). y.number) (get_or_from_slice_get ls j l l place.1) ∙ number_found n ls l found.1 in
    let parts = parted (rising n ls h) in
    elim (cases_lt j i) [
      | inl before ↦ let less = ranked (get_or ls j l).number n Less (sym (parts.0 j l (omega arith) before)) in omega (arith, less, number)
      | inr behind ↦ let more = ranked (get_or ls j l).number n Greater (sym (parts.1 j l behind within)) in omega (arith, more, number)
    ]

-- a layer that was read at its place
pub placed : (n : ℕ) (ls : List Layer) (i : ℕ) (l : Layer) → rises ls ≡ true → slice_get ls i ≡ Some l → l.number ≡ n → slice_get ls i ≡ find n ls
placed n [] i l h e m = cc
placed n (x ∷ ls) zero l h e m =
    let same : x ≡ l = cc in
    sym (find_head n x ls (eq-eqb x.number n (ap (λ (y : Layer). y.number) same ∙ m)))
placed n (x ∷ ls) (suc i) l h e m =
    let two = and_parts (all_above x.number ls) (rises ls) h in
    let above = above_at x.number ls i l two.0 (slice_get_within ls i l e) in
    let number = ap (λ (y : Layer). y.number) (get_or_from_slice_get ls i l l e) in
    placed n ls i l two.1 e m ∙ sym (find_tail n x ls (ne_eqb x.number n (λ s. omega (arith, above, number, m, s))))

-- what a search of some layers answers
pub searched : (n : ℕ) (ls xs : List Layer) (i : ℕ) (r : Result ℕ ℕ) → xs ≡ ls → r ≡ Ok i → rises ls ≡ true → IsSearchInRange r (length xs) → IsBinarySearchResult (λ l. nat_cmp l.number n) xs r → slice_get ls i ≡ find n ls
searched n ls xs i r e f h bound at =
    let w : i < length xs = subst (λ (q : Result ℕ ℕ). IsSearchInRange q (length xs)) f bound in
    let here : HoldsAt (λ (l : Layer). nat_cmp l.number n ≡ Equal) xs i = subst (λ (q : Result ℕ ℕ). IsBinarySearchResult (λ (l : Layer). nat_cmp l.number n) xs q) f at in
    search_hits n ls i h (subst (λ (ys : List Layer). i < length ys) e w) (subst (λ (ys : List Layer). HoldsAt (λ (l : Layer). nat_cmp l.number n ≡ Equal) ys i) e here)

pub missed : (n : ℕ) (ls xs : List Layer) (i : ℕ) (r : Result ℕ ℕ) → xs ≡ ls → r ≡ Err i → rises ls ≡ true → IsLive n ls → IsBinarySearchResult (λ l. nat_cmp l.number n) xs r → ⊥
missed n ls xs i r e f h live at =
    let parted : IsBinarySearchResult (λ (l : Layer). nat_cmp l.number n) xs (Err i) = subst (λ (q : Result ℕ ℕ). IsBinarySearchResult (λ (l : Layer). nat_cmp l.number n) xs q) f at in
    search_misses n ls i h live (subst (λ (ys : List Layer). IsBinarySearchResult (λ (l : Layer). nat_cmp l.number n) ys (Err i)) e parted)

-- ## The greatest number
last_fresh : (ls : List Layer) (i : ℕ) (l : Layer) → rises ls ≡ true → suc i ≡ length ls → slice_get ls i ≡ Some l → fresh ls ≡ suc l.number
last_fresh [] i l h n e = cc
last_fresh (x ∷ []) zero l h n e = let same : x ≡ l = cc in ap (λ (y : Layer). max (suc y.number) 0) same ∙ (let m : max (suc l.number) 0 ≡ suc l.number = omega arith in m)
last_fresh (x ∷ []) (suc i) l h n e = absurd (omega (arith, n))
last_fresh (x ∷ y ∷ ls) zero l h n e = absurd (omega (arith, n))
last_fresh (x ∷ y ∷ ls) (suc i) l h n e =
    let two = and_parts (all_above x.number (y ∷ ls)) (rises (y ∷ ls)) h in
    let last = last_fresh (y ∷ ls) i l two.1 (omega (arith, n)) e in
    let above = above_at x.number (y ∷ ls) i l two.0 (slice_get_within (y ∷ ls) i l e) in
    let number = ap (λ (z : Layer). z.number) (get_or_from_slice_get (y ∷ ls) i l l e) in
    let m : max (suc x.number) (suc l.number) ≡ suc l.number = omega (arith, above, number) in
    ap (λ (k : ℕ). max (suc x.number) k) last ∙ m

pub fresh_last : (ls : List Layer) (l : Layer) → rises ls ≡ true → slice_get ls (length ls - 1) ≡ Some l → l.number + 1 ≡ fresh ls
fresh_last ls l h e =
    let within = slice_get_within ls (length ls - 1) l e in
    let last = last_fresh ls (length ls - 1) l h (omega (arith, within)) e in
    omega (arith, last)

-- the layer that was read at a place
pub layer_at : (n : ℕ) (ls : List Layer) (i : ℕ) (l : Layer) → i < length ls → l ≡ get_or ls i l → slice_get ls i ≡ find n ls → find n ls ≡ Some l
layer_at n ls i l w e f = sym f ∙ slice_get_read ls (length ls) i l refl w e
