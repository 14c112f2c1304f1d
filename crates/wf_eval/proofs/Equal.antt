-- The test of equality on plain values tells whether they are equal.
use Rattle.std.proofs.Common.{◌≡◌, ℕ, Bool, true, false, List, ℤ, pos, negsuc, refl, sym, ap, ◌∙◌, bytes_eq}
use Rattle.std.specs.Bool.{Decides}
use Rattle.std.proofs.lemmas.Bool.{eq-eqb, eqb-true, and_from}
use Rattle.std.proofs.lemmas.Slice.Eq.{bytes_eq-Decides}
use Rattle.wf_lemmas.proofs.Bools.{and_left, and_right, same_answer}
use Rattle.wf_value.specs.Data.{Data, null, boolean, integer, text, bytes, list, map, Items, no_items, item, Pairs, no_pairs, pair}
use Rattle.wf_value.specs.Pairs.{bool_eq, int_eq, same, same_items, same_pairs}
use Rattle.wf_value.specs.Plain.{plain}
use Rattle.wf_value.specs.declared.value.Value.{Value}
use Rattle.wf_value.proofs.Unplain.{plain-one}

-- ## A value is the same as itself
bytes_refl : (a : List ℕ) → bytes_eq a a ≡ true
bytes_refl a = (bytes_eq-Decides a a).1 refl

bool_refl : (a : Bool) → bool_eq a a ≡ true
bool_refl true = refl
bool_refl false = refl

int_refl : (a : ℤ) → int_eq a a ≡ true
int_refl (pos a) = eq-eqb a a refl
int_refl (negsuc a) = eq-eqb a a refl

mutual
  refl_value : (v : Data) → same v v ≡ true
  refl_value null = refl
  refl_value (boolean a) = bool_refl a
  refl_value (integer a) = int_refl a
  refl_value (text a) = bytes_refl a
  refl_value (bytes a) = bytes_refl a
  refl_value (list vs) = refl_items vs
  refl_value (map ps) = refl_pairs ps

  refl_items : (vs : Items) → same_items vs vs ≡ true
  refl_items no_items = refl
  refl_items (item v vs) = and_from _ _ (refl_value v) (refl_items vs)

  refl_pairs : (ps : Pairs) → same_pairs ps ps ≡ true
  refl_pairs no_pairs = refl
  refl_pairs (pair k v ps) = and_from _ _ (and_from _ _ (bytes_refl k) (refl_value v)) (refl_pairs ps)

-- ## Values that are the same are equal
bytes_are : (a b : List ℕ) → bytes_eq a b ≡ true → a ≡ b
bytes_are a b h = (bytes_eq-Decides a b).0 h

bools_are : (a b : Bool) → bool_eq a b ≡ true → a ≡ b
bools_are true true h = refl
bools_are false false h = refl
bools_are true false h = sym h
bools_are false true h = h

ints_are : (a b : ℤ) → int_eq a b ≡ true → a ≡ b
ints_are (pos a) (pos b) h = ap pos (eqb-true a b h)
ints_are (negsuc a) (negsuc b) h = ap negsuc (eqb-true a b h)
ints_are a b h = absurd (let p : ⊥ = cc in p)

mutual
  values_are : (v w : Data) → same v w ≡ true → v ≡ w
  values_are null null h = refl
  values_are (boolean a) (boolean b) h = ap boolean (bools_are a b h)
  values_are (integer a) (integer b) h = ap integer (ints_are a b h)
  values_are (text a) (text b) h = ap text (bytes_are a b h)
  values_are (bytes a) (bytes b) h = ap bytes (bytes_are a b h)
  values_are (list a) (list b) h = ap list (items_are a b h)
  values_are (map a) (map b) h = ap map (pairs_are a b h)
  values_are v w h = absurd (let p : ⊥ = cc in p)

  items_are : (vs ws : Items) → same_items vs ws ≡ true → vs ≡ ws
  items_are no_items no_items h = refl
  items_are (item v vs) (item w ws) h = λ i. item (values_are v w (and_left _ _ h) i) (items_are vs ws (and_right _ _ h) i)
  items_are vs ws h = absurd (let p : ⊥ = cc in p)

  pairs_are : (ps qs : Pairs) → same_pairs ps qs ≡ true → ps ≡ qs
  pairs_are no_pairs no_pairs h = refl
  pairs_are (pair k v ps) (pair l w qs) h =
      λ i. pair (bytes_are k l (and_left _ _ (and_left _ _ h)) i) (values_are v w (and_right _ _ (and_left _ _ h)) i) (pairs_are ps qs (and_right _ _ h) i)
  pairs_are ps qs h = absurd (let p : ⊥ = cc in p)

-- ## The test on values

pub same_decided : (r : Bool) (v w : Value) → Decides r (v ≡ w) → r ≡ same (plain v) (plain w)
same_decided r v w h =
    same_answer r (same (plain v) (plain w)) (λ yes. ap (λ x. same (plain v) (plain x)) (sym (h.0 yes)) ∙ refl_value (plain v)) (λ yes. h.1 (plain-one v w (values_are (plain v) (plain w) yes)))
