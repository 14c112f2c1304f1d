-- Names that are bound, among all names of a layer.
use Rattle.std.proofs.Common.{◌≡◌, Bor, ℕ, List, [], ◌∷◌, get_or, Ok, Err, Option, Some, None, Ordering, Less, Equal, Greater, refl, sym, ap, subst, ◌∙◌, cond, option_map, arith, map}
use Rattle.std.specs.Prelude.{slice_index}
use Rattle.std.proofs.lemmas.Cmp.{nat_list_cmp_total}
use Rattle.std.specs.FinMap.{slice_cmp-IsAntisymmetric, nat_cmp-IsAntisymmetric}
use Rattle.std.specs.List.{AllByRecursion}
use Rattle.std.specs.List.Sorted.{IsStrictlySortedBy}
use Rattle.std.specs.Map.{keys_of}
use Rattle.std.specs.Option.{option_copied}
use Rattle.std.specs.Ordering.{match_ordering, is_eq}
use Rattle.wf_value.proofs.Seeks.{found_value, missing_value}
use Rattle.wf_value.specs.Data.{Data, pairs_of, pairs_size}
use Rattle.wf_value.specs.Maps.{IsInOrder, key_cmp, place_of, value_at, with_value}
use Rattle.wf_value.specs.Pairs.{Text}
use Rattle.wf_value.specs.Plain.{plain}
use Rattle.wf_value.specs.declared.Value.{Value}
use Rattle.wf_scope.specs.Firsts.{Covers, HasNone, class_of}
use Rattle.wf_scope.specs.Names.{bound_of, unbound, value_of, with_bound}

same_key : (k m : Text) → key_cmp k m ≡ Equal → k ≡ m
same_key k m h = slice_cmp-IsAntisymmetric nat_cmp-IsAntisymmetric k m h

-- ## Below all names
lower_all : (k m : Text) (ks : List Text) → key_cmp k m ≡ Less → AllByRecursion (λ y. key_cmp m y ≡ Less) ks → AllByRecursion (λ y. key_cmp k y ≡ Less) ks
lower_all k m [] h all = tt
lower_all k m (y ∷ ks) h all = (nat_list_cmp_total.trans k m y h all.0, lower_all k m ks h all.1)

below_all : (k : Text) (v : Data) (es : List (Text × Option Value)) → AllByRecursion (λ y. key_cmp k y ≡ Less) (keys_of es) → with_value k v (bound_of es) ≡ (k, v) ∷ bound_of es
below_all k v [] all = refl
below_all k v (e ∷ es) all = by e.1 (below_all k v es all.1)
  where
    by : (o : Option Value) → with_value k v (bound_of es) ≡ (k, v) ∷ bound_of es → with_value k v (with_bound e.0 o (bound_of es)) ≡ (k, v) ∷ with_bound e.0 o (bound_of es)
    by None later = later
    by (Some w) later =
        ap (λ (r : Ordering). match_ordering r ((k, v) ∷ (e.0, plain w) ∷ bound_of es) ((e.0, v) ∷ bound_of es) ((e.0, plain w) ∷ with_value k v (bound_of es))) all.0

below_value : (k : Text) (es : List (Text × Option Value)) → AllByRecursion (λ y. key_cmp k y ≡ Less) (keys_of es) → value_at k (bound_of es) ≡ None
below_value k [] all = refl
below_value k (e ∷ es) all = by e.1 (below_value k es all.1)
  where
    by : (o : Option Value) → value_at k (bound_of es) ≡ None → value_at k (with_bound e.0 o (bound_of es)) ≡ None
    by None later = later
    by (Some w) later = ap (λ (r : Ordering). cond (is_eq r) (Some (plain w)) (value_at k (bound_of es))) all.0 ∙ later

-- ## What is found
with_some : (r : Ordering) (w : Value) (a : Option Data) (b : Option (Option Value)) → a ≡ value_of b → cond (is_eq r) (Some (plain w)) a ≡ value_of (cond (is_eq r) (Some (Some w)) b)
with_some Less w a b h = h
with_some Equal w a b h = refl
with_some Greater w a b h = h

with_none : (r : Ordering) (a : Option Data) (b : Option (Option Value)) → (r ≡ Equal → a ≡ None) → a ≡ value_of b → a ≡ value_of (cond (is_eq r) (Some None) b)
with_none Less a b none h = h
with_none Equal a b none h = none refl
with_none Greater a b none h = h

pub value_bound : (k : Text) (es : List (Text × Option Value)) → IsInOrder es → value_at k (bound_of es) ≡ value_of (value_at k es)
unfolding IsStrictlySortedBy
value_bound k [] s = refl
value_bound k (e ∷ es) s = by e.1 (value_bound k es s.1)
  where
    by : (o : Option Value) → value_at k (bound_of es) ≡ value_of (value_at k es) → value_at k (with_bound e.0 o (bound_of es)) ≡ value_of (cond (is_eq (key_cmp k e.0)) (Some o) (value_at k es))
    by None later =
        with_none (key_cmp k e.0) (value_at k (bound_of es)) (value_at k es) (λ same. below_value k es (subst (λ (x : Text). AllByRecursion (λ y. key_cmp x y ≡ Less) (keys_of es)) (sym (same_key k e.0 same)) s.0)) later
    by (Some w) later = with_some (key_cmp k e.0) w (value_at k (bound_of es)) (value_at k es) later

-- ## A value put
pub bound_with : (k : Text) (v : Value) (es : List (Text × Option Value)) → IsInOrder es → bound_of (with_value k (Some v) es) ≡ with_value k (plain v) (bound_of es)
unfolding IsStrictlySortedBy
bound_with k v [] s = refl
bound_with k v (e ∷ es) s = by (key_cmp k e.0) refl e.1 (bound_with k v es s.1)
  where
    head : (w : Value) → Ordering → List (Text × Data)
    head w r = match_ordering r ((k, plain v) ∷ (e.0, plain w) ∷ bound_of es) ((e.0, plain v) ∷ bound_of es) ((e.0, plain w) ∷ with_value k (plain v) (bound_of es))

    by : (r : Ordering) → key_cmp k e.0 ≡ r → (o : Option Value) → bound_of (with_value k (Some v) es) ≡ with_value k (plain v) (bound_of es) → bound_of (match_ordering r ((k, Some v) ∷ (e.0, o) ∷ es) ((e.0, Some v) ∷ es) ((e.0, o) ∷ with_value k (Some v) es)) ≡ with_value k (plain v) (with_bound e.0 o (bound_of es))
    by Less h None later = sym (below_all k (plain v) es (lower_all k e.0 (keys_of es) h s.0))
    by Less h (Some w) later = sym (ap (head w) h)
    by Equal h None later =
        let same = same_key k e.0 h in
        ap (λ (x : Text). (x, plain v) ∷ bound_of es) (sym same) ∙ sym (below_all k (plain v) es (subst (λ (x : Text). AllByRecursion (λ y. key_cmp x y ≡ Less) (keys_of es)) (sym same) s.0))
    by Equal h (Some w) later = sym (ap (head w) h)
    by Greater h None later = later
    by Greater h (Some w) later = ap (λ (ps : List (Text × Data)). (e.0, plain w) ∷ ps) later ∙ sym (ap (head w) h)

-- ## Order
all_bound : (P : Text → Type 0) (es : List (Text × Option Value)) → AllByRecursion P (keys_of es) → AllByRecursion P (keys_of (bound_of es))
all_bound P [] all = tt
all_bound P (e ∷ es) all = by e.1 (all_bound P es all.1)
  where
    by : (o : Option Value) → AllByRecursion P (keys_of (bound_of es)) → AllByRecursion P (keys_of (with_bound e.0 o (bound_of es)))
    by None later = later
    by (Some w) later = (all.0, later)

pub in_order_bound : (es : List (Text × Option Value)) → IsInOrder es → IsInOrder (bound_of es)
unfolding IsStrictlySortedBy
in_order_bound [] s = tt
in_order_bound (e ∷ es) s = by e.1 (in_order_bound es s.1)
  where
    by : (o : Option Value) → IsInOrder (bound_of es) → IsInOrder (with_bound e.0 o (bound_of es))
    by None later = later
    by (Some w) later = (all_bound (λ y. key_cmp e.0 y ≡ Less) es s.0, later)

-- ## What a search found
module _ (k : Text) (es : List (Text × Option Value)) (order : IsInOrder es) (i : ℕ) where
  pub found_bound : (e : Text × Option Value) → e ≡ get_or es i e → Ok i ≡ place_of k es → option_map plain e.1 ≡ value_at k (bound_of es)
  found_bound e is h =
      ap (λ (p : Text × Option Value). option_map plain p.1) is ∙ sym (value_bound k es order ∙ ap value_of (found_value es k i e h))

  pub missing_bound : Err i ≡ place_of k es → None ≡ value_at k (bound_of es)
  missing_bound h = sym (value_bound k es order ∙ ap value_of (missing_value es k i order h))

-- ## Hints
-- a hint that is 0
pub none_has : (hints : List ℕ) (es : List (Text × Option Value)) (c : ℕ) → Covers hints es → slice_index hints c ≡ 0 → HasNone c (bound_of es)
none_has hints [] c cover zero_at x same = refl
none_has hints (e ∷ es) c cover zero_at x same = by e.1 (none_has hints es c cover.1 zero_at x same)
  where
    at : (r : Ordering) → key_cmp x e.0 ≡ r → (w : Value) → value_at x (bound_of es) ≡ None → cond (is_eq r) (Some (plain w)) (value_at x (bound_of es)) ≡ None
    at Less h w later = later
    at Equal h w later = absurd (omega (arith, cover.0, zero_at, ap (λ n. slice_index hints n) (same ∙ ap class_of (same_key x e.0 h))))
    at Greater h w later = later

    by : (o : Option Value) → value_at x (bound_of es) ≡ None → value_at x (with_bound e.0 o (bound_of es)) ≡ None
    by None later = later
    by (Some w) later = at (key_cmp x e.0) refl w later

-- ## What is read
pub read_value : (o : Option (Bor Value)) (e : Option Value) → option_copied o ≡ e → option_map (λ v. plain v.now) o ≡ option_map plain e
read_value None e h = ap (option_map plain) h
read_value (Some v) e h = ap (option_map plain) h

-- ## Values taken away
pub keys_unbound : (es : List (Text × Option Value)) → keys_of (map unbound es) ≡ keys_of es
keys_unbound [] = refl
keys_unbound (e ∷ es) = ap (λ (ks : List Text). e.0 ∷ ks) (keys_unbound es)

pub none_bound : (es : List (Text × Option Value)) → bound_of (map unbound es) ≡ []
none_bound [] = refl
none_bound (e ∷ es) = none_bound es

pub cover_unbound : (hints : List ℕ) (es : List (Text × Option Value)) → Covers hints es → Covers hints (map unbound es)
cover_unbound hints [] cover = tt
cover_unbound hints (e ∷ es) cover = (cover.0, cover_unbound hints es cover.1)

-- variables that count nothing are none
pub none_counted : (ps : List (Text × Data)) → pairs_size (pairs_of ps) ≡ 0 → ps ≡ []
none_counted [] h = refl
none_counted (p ∷ ps) h = absurd (omega (arith, h))
