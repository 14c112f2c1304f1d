-- Reading keyed items one after the other into a map, as a loop does.
use Rattle.std.proofs.Common.{◌≡◌, ℕ, suc, ◌-◌, ◌+◌, ◌<◌, ◌≤◌, Bool, true, false, List, [], ◌∷◌, ◌++◌, length, Option, Some, None, Ok, Err, Ordering, Less, Equal, Greater, refl, sym, ap, ◌∙◌, append_assoc, arith}
use Rattle.std.specs.List.{AllByRecursion}
use Rattle.std.specs.Ordering.{ordering_reverse, is_lt}
use Rattle.std.proofs.lemmas.Cmp.{nat_list_cmp_total}
use Rattle.std.proofs.lemmas.List.{append-nil}
use Rattle.wf_record_parts.proofs.Loop.{with_front}
use Rattle.wf_record_parts.specs.Faults.{Fails}
use Rattle.wf_record_parts.specs.Reading.{Read, ◌>>=◌}
use Rattle.wf_record_parts.specs.Spelling.{Bytes}
use Rattle.wf_record_parts.specs.declared.fault.ReadFault.{ReadFault}
use Rattle.wf_record_parts.specs.declared.fault.ReadFault.TheVariants as part
use Rattle.wf_states.specs.Rising.{follows, keyed_at}
use Rattle.wf_states.specs.Spelling.{less_key}
use Rattle.wf_value.specs.Maps.{key_cmp, with_value}
use Rattle.wf_lemmas.proofs.Lists.{all_push}

regroup : {A : Type 0} (front : List A) (x : A) (read : Read (List A)) → with_front front (read >>= λ xs. Ok (x ∷ xs.0, xs.1)) ≡ with_front (front ++ x ∷ []) read
regroup {A = A} front x (Ok xs) = ap (λ (l : List A). Ok (l, xs.1)) (simp append_assoc)
regroup front x (Err left) = refl

module _ {K V : Type 0} (less : K → K → Bool) (key_at : Bytes → Read K) (at : Bytes → Read V) (front : List (K × V)) (before : Option K) (count i : ℕ) (bytes : Bytes) (total : Read (List (K × V)))
    (so_far : with_front front (keyed_at less key_at at before (count - i) bytes) ≡ total) where
  one_more : i < count → count - i ≡ suc (count - (i + 1))
  one_more lt = omega arith

  pub key_goes_on : (k : K) (v : V) (behind after : Bytes) → i < count → key_at bytes ≡ Ok (k, behind) → follows less before k ≡ true → at behind ≡ Ok (v, after)
      → with_front (front ++ (k, v) ∷ []) (keyed_at less key_at at (Some k) (count - (i + 1)) after) ≡ total
  unfolding keyed_at
  key_goes_on k v behind after lt key low value =
      let one : with_front front (keyed_at less key_at at before (count - i) bytes) ≡ with_front (front ++ (k, v) ∷ []) (keyed_at less key_at at (Some k) (count - (i + 1)) after) =
      rw (one_more lt, key, low, value) (regroup front (k, v) (keyed_at less key_at at (Some k) (count - (i + 1)) after)) in
      sym one ∙ so_far

  pub key_fails : (e : ReadFault) → i < count → Fails e (key_at bytes) → Fails e total
  unfolding keyed_at
  key_fails part.OutOfMemory lt h = tt
  key_fails (part.NoPart left) lt h = let one : with_front front (keyed_at less key_at at before (count - i) bytes) ≡ Err left = rw (one_more lt, h) refl in sym so_far ∙ one

  pub key_is_low : (k : K) (behind : Bytes) → i < count → key_at bytes ≡ Ok (k, behind) → follows less before k ≡ false → total ≡ Err (length bytes)
  unfolding keyed_at
  key_is_low k behind lt key low = let one : with_front front (keyed_at less key_at at before (count - i) bytes) ≡ Err (length bytes) = rw (one_more lt, key, low) refl in sym so_far ∙ one

  pub value_fails : (k : K) (behind : Bytes) (e : ReadFault) → i < count → key_at bytes ≡ Ok (k, behind) → follows less before k ≡ true → Fails e (at behind) → Fails e total
  unfolding keyed_at
  value_fails k behind part.OutOfMemory lt key low h = tt
  value_fails k behind (part.NoPart left) lt key low h = let one : with_front front (keyed_at less key_at at before (count - i) bytes) ≡ Err left = rw (one_more lt, key, low, h) refl in sym so_far ∙ one

  pub keys_done : count ≤ i → total ≡ Ok (front, bytes)
  unfolding keyed_at
  keys_done le =
      let k : count - i ≡ 0 = omega arith in
      let one : with_front front (keyed_at less key_at at before (count - i) bytes) ≡ Ok (front, bytes) = rw k (ap (λ (l : List (K × V)). Ok (l, bytes)) (append-nil front)) in
      sym so_far ∙ one

-- ## Into a map
-- a key that follows is above all keys of the map
abbrev pub AreBelow : {X : Type 0} → Option (List ℕ) → List (List ℕ × X) → Type 0
AreBelow before ps = (k : List ℕ) → follows less_key before k ≡ true → AllByRecursion (λ p. key_cmp k p.0 ≡ Greater) ps

turned : (a b : List ℕ) → key_cmp b a ≡ Less → key_cmp a b ≡ Greater
turned a b h = nat_list_cmp_total.antisymm a b ∙ ap ordering_reverse h

less_is : (o : Ordering) → is_lt o ≡ true → o ≡ Less
less_is Less h = refl
less_is Equal h = absurd cc
less_is Greater h = absurd cc

goes_up : (before : Option (List ℕ)) (k l : List ℕ) → follows less_key before k ≡ true → less_key k l ≡ true → follows less_key before l ≡ true
goes_up None k l first second = refl
goes_up (Some b) k l first second = ap is_lt (nat_list_cmp_total.trans b k l (less_is (key_cmp b k) first) (less_is (key_cmp k l) second))

pub still_below : {X : Type 0} (before : Option (List ℕ)) (ps : List (List ℕ × X)) (k : List ℕ) (v : X) → AreBelow before ps → follows less_key before k ≡ true → AreBelow (Some k) (ps ++ (k, v) ∷ [])
still_below {X = X} before ps k v below low = λ l above. all_push (λ (p : List ℕ × X). key_cmp l p.0 ≡ Greater) ps (k, v) (below l (goes_up before k l low above)) (turned l k (less_is (key_cmp k l) above))

-- such a key is put behind all others
pub put_behind : {X : Type 0} (ps : List (List ℕ × X)) (k : List ℕ) (v : X) → AllByRecursion (λ p. key_cmp k p.0 ≡ Greater) ps → with_value k v ps ≡ ps ++ (k, v) ∷ []
put_behind [] k v all = refl
put_behind {X = X} (p ∷ ps) k v all = rw (all.0) (ap (λ (l : List (List ℕ × X)). p ∷ l) (put_behind ps k v all.1))
