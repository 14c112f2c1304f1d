-- Two maps merged in the order of their keys: what is merged so far, and what is left of each.
use Rattle.std.proofs.Common.{◌≡◌, ℕ, List, [], ◌∷◌, ◌++◌, suc, drop, slice_get, Some, None, Ordering, Less, Equal, Greater, is_eq, refl, sym, ap, ◌∙◌, subst, append_assoc, append-nil}
use Rattle.std.proofs.lemmas.Cmp.{nat_list_cmp_total, tied_itself}
use Rattle.std.proofs.lemmas.Map.Text.{is_eq-slice_cmp}
use Rattle.std.proofs.lemmas.Slice.Eq.{bytes_eq-Decides}
use Rattle.std.specs.List.{AllByRecursion}
use Rattle.std.specs.List.Sorted.{IsStrictlySortedBy}
use Rattle.std.specs.Map.{keys_of}
use Rattle.std.specs.Ordering.{ordering_reverse}
use Rattle.wf_lemmas.proofs.Lists.{read_at, read_past}
use Rattle.wf_value.specs.LibData.{merged}
use Rattle.wf_value.specs.Data.{Data, pairs_of}
use Rattle.wf_value.specs.Maps.{IsInOrder, key_cmp, with_value}
use Rattle.wf_value.specs.Pairs.{Text, put}
use Rattle.wf_lib_data.proofs.Places.{pairs_listed}

abbrev pub Rows : Type 0
Rows = List (Text × Data)

-- each key is above this one, or below it
abbrev AreAbove : Text → Rows → Type 0
AreAbove k ps = AllByRecursion (λ y. key_cmp k y ≡ Less) (keys_of ps)

abbrev AreBelow : Text → Rows → Type 0
AreBelow k ps = AllByRecursion (λ y. key_cmp k y ≡ Greater) (keys_of ps)

-- ## Keys in order
turned : (a b : Text) (o : Ordering) → key_cmp b a ≡ o → key_cmp a b ≡ ordering_reverse o
turned a b o h = nat_list_cmp_total.antisymm a b ∙ ap ordering_reverse h

all_middle : (P : Text → Type 0) (out : Rows) (p : Text × Data) (rest : Rows) → AllByRecursion P (keys_of (out ++ p ∷ rest)) → P p.0
all_middle P [] p rest a = a.0
all_middle P (e ∷ out) p rest a = all_middle P out p rest a.1

all_with : (P : Text → Type 0) (out : Rows) (p : Text × Data) (rest more : Rows) → AllByRecursion P (keys_of (out ++ p ∷ rest)) → AllByRecursion P (keys_of (out ++ more)) → AllByRecursion P (keys_of (out ++ p ∷ more))
all_with P [] p rest more a b = (a.0, b)
all_with P (e ∷ out) p rest more a b = (a.0, all_with P out p rest more a.1 b.1)

all_further : (k l : Text) (ks : List Text) → key_cmp k l ≡ Less → AllByRecursion (λ y. key_cmp l y ≡ Less) ks → AllByRecursion (λ y. key_cmp k y ≡ Less) ks
all_further k l [] h a = tt
all_further k l (y ∷ ks) h a = (nat_list_cmp_total.trans k l y h a.0, all_further k l ks h a.1)

one_key : (k l : Text) → key_cmp k l ≡ Equal → k ≡ l
one_key k l e = (bytes_eq-Decides k l).0 (sym (is_eq-slice_cmp k l) ∙ ap is_eq e)

-- the keys so far are below the next
below : (out : Rows) (p : Text × Data) (rest : Rows) → IsInOrder (out ++ p ∷ rest) → AreBelow p.0 out
unfolding IsStrictlySortedBy
below [] p rest s = tt
below (e ∷ out) p rest s = (turned p.0 e.0 Less (all_middle (λ y. key_cmp e.0 y ≡ Less) out p rest s.0), below out p rest s.1)

-- a pair from one list goes between the pairs so far and another list
between : (out : Rows) (p : Text × Data) (rest more : Rows) → IsInOrder (out ++ p ∷ rest) → IsInOrder (out ++ more) → AreAbove p.0 more → IsInOrder (out ++ p ∷ more)
unfolding IsStrictlySortedBy
between [] p rest more s t a = (a, t)
between (e ∷ out) p rest more s t a = (all_with (λ y. key_cmp e.0 y ≡ Less) out p rest more s.0 t.0, between out p rest more s.1 t.1 a)

pub above_head : (out : Rows) (k : Text) (p : Text × Data) (rest : Rows) → IsInOrder (out ++ p ∷ rest) → key_cmp k p.0 ≡ Less → AreAbove k (p ∷ rest)
unfolding IsStrictlySortedBy
above_head [] k p rest s h = (h, all_further k p.0 (keys_of rest) h s.0)
above_head (e ∷ out) k p rest s h = above_head out k p rest s.1 h

keys_same : (out : Rows) (k : Text) (d e : Data) (rest : Rows) → keys_of (out ++ (k, d) ∷ rest) ≡ keys_of (out ++ (k, e) ∷ rest)
keys_same [] k d e rest = refl
keys_same (p ∷ out) k d e rest = ap (λ ks. p.0 ∷ ks) (keys_same out k d e rest)

-- ## What is put
passed : (out : Rows) (k : Text) (d : Data) (rest : Rows) → AreBelow k out → with_value k d (out ++ rest) ≡ out ++ with_value k d rest
passed [] k d rest a = refl
passed (e ∷ out) k d rest a = rw a.0 (ap (λ l. e ∷ l) (passed out k d rest a.1))

at_end : (out : Rows) (k : Text) (d : Data) → AreBelow k out → with_value k d out ≡ out ++ (k, d) ∷ []
at_end out k d a = ap (with_value k d) (sym (append-nil out)) ∙ passed out k d [] a

at_front : (k : Text) (d : Data) (rest : Rows) → AreAbove k rest → with_value k d rest ≡ (k, d) ∷ rest
at_front k d [] a = refl
at_front k d (p ∷ rest) a = rw a.0 refl

over : (k : Text) (d e : Data) (rest : Rows) → with_value k d ((k, e) ∷ rest) ≡ (k, d) ∷ rest
over k d e rest = rw (tied_itself nat_list_cmp_total k) refl

put_is : (k : Text) (d : Data) (ps : Rows) → put k d (pairs_of ps) ≡ pairs_of (with_value k d ps)
put_is k d ps = ap (λ l. pairs_of (with_value k d l)) (pairs_listed ps)

-- ## Merging
-- what is merged so far, and the pairs that are left of each
pub record Merges (out left right first second : Rows) : Type 0 where
  pub value : merged (pairs_of (out ++ left)) (pairs_of right) ≡ merged (pairs_of first) (pairs_of second)
  pub lefts : IsInOrder (out ++ left)
  pub rights : IsInOrder (out ++ right)

module _ (out : Rows) (k : Text) (d : Data) where
  one_more : (rest : Rows) → AreBelow k out → with_value k d out ++ rest ≡ out ++ (k, d) ∷ rest
  one_more rest a = ap (λ l. l ++ rest) (at_end out k d a) ∙ append_assoc out ((k, d) ∷ []) rest

  in_order_more : (rest : Rows) → AreBelow k out → IsInOrder (out ++ (k, d) ∷ rest) → IsInOrder (with_value k d out ++ rest)
  in_order_more rest a s = subst (λ (l : Rows). IsInOrder l) (sym (one_more rest a)) s

  module _ (left right first second : Rows) where
    pub takes_left : Merges out ((k, d) ∷ left) right first second → AreAbove k right → Merges (with_value k d out) left right first second
    takes_left m a =
        let b = below out (k, d) left m.lefts in
        record {
          value = ap (λ l. merged (pairs_of l) (pairs_of right)) (one_more left b) ∙ m.value;
          lefts = in_order_more left b m.lefts;
          rights = in_order_more right b (between out (k, d) left right m.lefts m.rights a);
        }

    pub takes_right : Merges out left ((k, d) ∷ right) first second → AreAbove k left → Merges (with_value k d out) left right first second
    takes_right m a =
        let b = below out (k, d) right m.rights in
        record {
          value = ap (λ l. merged (pairs_of l) (pairs_of right)) (one_more left b ∙ ap (λ l. out ++ l) (sym (at_front k d left a)) ∙ sym (passed out k d left b))
              ∙ ap (λ l. merged l (pairs_of right)) (sym (put_is k d (out ++ left)))
              ∙ m.value;
          lefts = in_order_more left b (between out (k, d) right left m.rights m.lefts a);
          rights = in_order_more right b m.rights;
        }

    pub takes_both : (e : Data) → Merges out ((k, e) ∷ left) ((k, d) ∷ right) first second → Merges (with_value k d out) left right first second
    takes_both e m =
        let b = below out (k, d) right m.rights in
        record {
          value = ap (λ l. merged (pairs_of l) (pairs_of right)) (one_more left b ∙ ap (λ l. out ++ l) (sym (over k d e left)) ∙ sym (passed out k d ((k, e) ∷ left) b))
              ∙ ap (λ l. merged l (pairs_of right)) (sym (put_is k d (out ++ (k, e) ∷ left)))
              ∙ m.value;
          lefts = in_order_more left b (subst (λ ks. IsStrictlySortedBy key_cmp ks) (keys_same out k e d left) m.lefts);
          rights = in_order_more right b m.rights;
        }

-- ## A turn of the loop
-- what is left behind the last pair
none_above : (k : Text) (ps : Rows) (i : ℕ) → None ≡ slice_get ps i → AreAbove k (drop i ps)
none_above k ps i h = subst (λ (l : Rows). AreAbove k l) (sym (read_past ps i h)) tt

-- what is left from a pair on whose key is above
some_above : (out : Rows) (k l : Text) (e : Data) (ps : Rows) (i : ℕ) → Some (l, e) ≡ slice_get ps i → IsInOrder (out ++ drop i ps) → key_cmp k l ≡ Less → AreAbove k (drop i ps)
some_above out k l e ps i h s less =
    let at = read_at ps i (l, e) h in
    subst (λ (r : Rows). AreAbove k r) (sym at) (above_head out k (l, e) (drop (suc i) ps) (subst (λ (r : Rows). IsInOrder (out ++ r)) at s) less)

module _ (first second out more : Rows) (i j n : ℕ) (m : Merges out (drop i first) (drop j second) first second) where
  left_on : (k : Text) (d : Data) → Some (k, d) ≡ slice_get first i → more ≡ with_value k d out → n ≡ suc i → AreAbove k (drop j second) → Merges more (drop n first) (drop j second) first second
  left_on k d h put next above =
      rw (put, next) (takes_left out k d (drop (suc i) first) (drop j second) first second (subst (λ (l : Rows). Merges out l (drop j second) first second) (read_at first i (k, d) h) m) above)

  right_on : (k : Text) (d : Data) → Some (k, d) ≡ slice_get second j → more ≡ with_value k d out → n ≡ suc j → AreAbove k (drop i first) → Merges more (drop i first) (drop n second) first second
  right_on k d h put next above =
      rw (put, next) (takes_right out k d (drop i first) (drop (suc j) second) first second (subst (λ (l : Rows). Merges out (drop i first) l first second) (read_at second j (k, d) h) m) above)

  pub left_alone : (k : Text) (d : Data) → Some (k, d) ≡ slice_get first i → None ≡ slice_get second j → more ≡ with_value k d out → n ≡ suc i → Merges more (drop n first) (drop j second) first second
  left_alone k d h none put next = left_on k d h put next (none_above k second j none)

  pub right_alone : (k : Text) (d : Data) → None ≡ slice_get first i → Some (k, d) ≡ slice_get second j → more ≡ with_value k d out → n ≡ suc j → Merges more (drop i first) (drop n second) first second
  right_alone k d none h put next = right_on k d h put next (none_above k first i none)

  pub left_lower : (k l : Text) (d e : Data) → Some (k, d) ≡ slice_get first i → Some (l, e) ≡ slice_get second j → Less ≡ key_cmp k l → more ≡ with_value k d out → n ≡ suc i → Merges more (drop n first) (drop j second) first second
  left_lower k l d e h g less put next = left_on k d h put next (some_above out k l e second j g m.rights (sym less))

  pub right_lower : (k l : Text) (d e : Data) → Some (k, d) ≡ slice_get first i → Some (l, e) ≡ slice_get second j → Greater ≡ key_cmp k l → more ≡ with_value l e out → n ≡ suc j → Merges more (drop i first) (drop n second) first second
  right_lower k l d e h g greater put next = right_on l e g put next (some_above out l k d first i h m.lefts (turned l k Greater (sym greater)))

  pub same_keys : (o : ℕ) (k l : Text) (d e : Data) → Some (k, d) ≡ slice_get first i → Some (l, e) ≡ slice_get second j → Equal ≡ key_cmp k l → more ≡ with_value k e out → n ≡ suc i → o ≡ suc j → Merges more (drop n first) (drop o second) first second
  same_keys o k l d e h g equal put next next' =
      let same : l ≡ k = sym (one_key k l (sym equal)) in
      let right : drop j second ≡ (k, e) ∷ drop (suc j) second = read_at second j (l, e) g ∙ ap (λ x. (x, e) ∷ drop (suc j) second) same in
      let left : Merges out ((k, d) ∷ drop (suc i) first) (drop j second) first second = subst (λ (r : Rows). Merges out r (drop j second) first second) (read_at first i (k, d) h) m in
      rw (put, next, next') (takes_both out k e (drop (suc i) first) (drop (suc j) second) first second d (subst (λ (r : Rows). Merges out ((k, d) ∷ drop (suc i) first) r first second) right left))

  pub both_end : None ≡ slice_get first i → None ≡ slice_get second j → pairs_of out ≡ merged (pairs_of first) (pairs_of second)
  both_end h g =
      ap pairs_of (sym (append-nil out) ∙ ap (λ l. out ++ l) (sym (read_past first i h)))
      ∙ ap (λ l. merged (pairs_of (out ++ drop i first)) (pairs_of l)) (sym (read_past second j g))
      ∙ m.value
