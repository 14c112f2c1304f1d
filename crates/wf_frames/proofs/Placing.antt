-- Places of which one is no key.
use Rattle.std.proofs.Common.{◌≡◌, ◌<◌, ◌≤◌, ◌+◌, ℕ, suc, Bool, true, false, ◌&&◌, List, [], ◌∷◌, ◌++◌, length, drop, get_or, Ok, Err, refl, sym, ap, ◌∙◌, add-one, drop-cons, arith}
use Rattle.std.proofs.lemmas.List.{append-nil, drop_all}
use Rattle.std.proofs.lemmas.Slice.{first_rest}
use Rattle.std.specs.List.{between}
use Rattle.std.specs.Prelude.{map as each, Option, ℤ}
use Rattle.wf_frames.specs.Keys.{all_keys, is_key}
use Rattle.wf_model.specs.Layers.{written}
use Rattle.wf_scope.proofs.Writing.{items_listed, pairs_listed, written_more}
use Rattle.wf_scope.specs.Places.{item_at, key_data, member, with_member}
use Rattle.wf_scope.specs.declared.key.Key.{Key}
use Rattle.wf_value.specs.Data.{Data, null, boolean, integer, text, bytes, list, map}
use Rattle.wf_value.specs.Errors.{◌>>=◌, or_error}
use Rattle.wf_value.specs.Maps.{value_at}
use Rattle.wf_value.specs.Plain.{plain, plain_items}
use Rattle.wf_value.specs.declared.Tag.{Tag}
use Rattle.wf_value.specs.declared.Tag.TheVariants.{IndexError, KeyError, TypeError}
use Rattle.wf_value.specs.declared.Value.{Value}
use Rattle.wf_value.specs.declared.Value.TheVariants as value

no_member : (k v : Data) → is_key k ≡ false → member k v ≡ Err TypeError
no_member null v h = refl
no_member (boolean b) v h = refl
no_member (integer i) v h = absurd (cc h)
no_member (text t) v h = absurd (cc h)
no_member (bytes b) v h = refl
no_member (list vs) v h = refl
no_member (map ps) v h = refl

no_write : (k v new : Data) → is_key k ≡ false → written (k ∷ []) v new ≡ Err TypeError
no_write null v new h = refl
no_write (boolean b) v new h = refl
no_write (integer i) v new h = absurd (cc h)
no_write (text t) v new h = absurd (cc h)
no_write (bytes b) v new h = refl
no_write (list vs) v new h = refl
no_write (map ps) v new h = refl

alone : (k : Data) → all_keys (k ∷ []) ≡ false → is_key k ≡ false
alone k h = by (is_key k) refl h
  where
    by : (b : Bool) → is_key k ≡ b → b && true ≡ false → b ≡ false
    by true e q = absurd (cc q)
    by false e q = refl

-- what stands at the first place is missing
pub fault_here : (k v new : Data) (ks : List Data) (t : Tag) → all_keys (k ∷ ks) ≡ false → member k v ≡ Err t → written (k ∷ ks) v new ≡ Err t
fault_here k v new [] t h e = no_write k v new (alone k h) ∙ sym (no_member k v (alone k h)) ∙ e
fault_here k v new (j ∷ js) t h e = written_more k j js v new ∙ ap (λ r. r >>= λ w. written (j ∷ js) w new >>= λ u. with_member k u v) e

-- it is there, and the error comes further in
pub fault_there : (k v w new : Data) (ks : List Data) (t : Tag) → all_keys (k ∷ ks) ≡ false → member k v ≡ Ok w → written ks w new ≡ Err t → written (k ∷ ks) v new ≡ Err t
fault_there k v w new [] t h e f = absurd (cc (sym (no_member k v (alone k h)) ∙ e))
fault_there k v w new (j ∷ js) t h e f =
    written_more k j js v new ∙ ap (λ r. r >>= λ x. written (j ∷ js) x new >>= λ u. with_member k u v) e ∙ ap (λ r. r >>= λ u. with_member k u v) f

key_there : (k v w : Data) → member k v ≡ Ok w → is_key k ≡ true
key_there (integer i) v w e = refl
key_there (text t) v w e = refl
key_there null v w e = absurd (cc e)
key_there (boolean b) v w e = absurd (cc e)
key_there (bytes b) v w e = absurd (cc e)
key_there (list vs) v w e = absurd (cc e)
key_there (map ps) v w e = absurd (cc e)

pub keys_rest : (k v w : Data) (ks : List Data) → all_keys (k ∷ ks) ≡ false → member k v ≡ Ok w → all_keys ks ≡ false
keys_rest k v w ks h e = sym (ap (λ (b : Bool). b && all_keys ks) (key_there k v w e)) ∙ h

-- ## Some keys
pub keys_joined : (ds es : List Data) → all_keys (ds ++ es) ≡ all_keys ds && all_keys es
keys_joined [] es = refl
keys_joined (d ∷ ds) es = by (is_key d) (keys_joined ds es)
  where
    by : (b : Bool) → all_keys (ds ++ es) ≡ all_keys ds && all_keys es → b && all_keys (ds ++ es) ≡ (b && all_keys ds) && all_keys es
    by true later = later
    by false later = refl

module _ (xs : List Value) (i : ℕ) (x : Value) (lt : i < length xs) (is : x ≡ get_or xs i x) (ks : List Key) (so_far : each key_data ks ++ plain_items (drop i xs) ≡ plain_items xs) where
  opens : each key_data ks ++ plain x ∷ plain_items (drop (i + 1) xs) ≡ plain_items xs
  opens =
      ap (λ ys. each key_data ks ++ plain_items ys) (sym (drop-cons xs i x lt ∙ ap (λ y. y ∷ drop (suc i) xs) (sym is) ∙ ap (λ (j : ℕ). x ∷ drop j xs) (sym (add-one i)))) ∙ so_far

  -- the value is no key
  pub keys_fail : is_key (plain x) ≡ false → all_keys (plain_items xs) ≡ false
  keys_fail h =
      sym (ap all_keys opens) ∙ keys_joined (each key_data ks) (plain x ∷ plain_items (drop (i + 1) xs))
      ∙ ap (λ (b : Bool). all_keys (each key_data ks) && (b && all_keys (plain_items (drop (i + 1) xs)))) h ∙ and_none (all_keys (each key_data ks))
    where
      and_none : (b : Bool) → b && false ≡ false
      and_none true = refl
      and_none false = refl

  -- or one key more
  pub keys_step : (k : Key) (new : List Key) → key_data k ≡ plain x → new ≡ ks ++ k ∷ [] → each key_data new ++ plain_items (drop (i + 1) xs) ≡ plain_items xs
  keys_step k new h e =
      ap (λ ys. each key_data ys ++ plain_items (drop (i + 1) xs)) e ∙ joined ks (plain_items (drop (i + 1) xs)) ∙ ap (λ (d : Data). each key_data ks ++ d ∷ plain_items (drop (i + 1) xs)) h ∙ opens
    where
      joined : (ys : List Key) (ds : List Data) → each key_data (ys ++ k ∷ []) ++ ds ≡ each key_data ys ++ key_data k ∷ ds
      joined [] ds = refl
      joined (y ∷ ys) ds = ap (λ zs. key_data y ∷ zs) (joined ys ds)

pub keys_done : (xs : List Value) (i : ℕ) (ks : List Key) → length xs ≤ i → each key_data ks ++ plain_items (drop i xs) ≡ plain_items xs → each key_data ks ≡ plain_items xs
keys_done xs i ks past h = sym (append-nil (each key_data ks)) ∙ ap (λ ys. each key_data ks ++ plain_items ys) (sym (drop_all i xs past)) ∙ h

-- ## What stands at a place
pub at_name : (p v : Value) (k s : List ℕ) (ps : List (List ℕ × Data)) (o : Option Data) → p ≡ value.Text k → v ≡ value.Map ps → s ≡ k → o ≡ value_at s ps → member (plain p) (plain v) ≡ or_error KeyError o
at_name p v k s ps o e f g h =
    ap (λ (x : Value). member (plain x) (plain v)) e ∙ ap (λ (x : Value). member (text k) (plain x)) f ∙ ap (λ qs. or_error KeyError (value_at k qs)) (pairs_listed ps)
    ∙ ap (λ (t : List ℕ). or_error KeyError (value_at t ps)) (sym g) ∙ ap (or_error KeyError) (sym h)

pub at_index : (p v : Value) (i j : ℤ) (ds : List Data) (xs : List Value) (o : Option Data) → p ≡ value.Int i → j ≡ i → v ≡ value.List ds → plain_items xs ≡ ds → o ≡ item_at j (plain_items xs) → member (plain p) (plain v) ≡ or_error IndexError o
at_index p v i j ds xs o e same f g h =
    ap (λ (x : Value). member (plain x) (plain v)) e ∙ ap (λ (x : Value). member (integer i) (plain x)) f ∙ ap (λ ys. or_error IndexError (item_at i ys)) (items_listed ds ∙ sym g)
    ∙ ap (λ n. or_error IndexError (item_at n (plain_items xs))) (sym same) ∙ ap (or_error IndexError) (sym h)

-- ## A walk
-- the first place, and the others behind it
split : (xs : List Value) (x : Value) → 1 ≤ length xs → x ≡ get_or xs 0 x → xs ≡ x ∷ between 1 (length xs) xs
split xs x h e = first_rest xs x (omega (arith, h)) ∙ ap (λ y. y ∷ between 1 (length xs) xs) (sym e)

pub shorter : (xs : List Value) (x : Value) → 1 ≤ length xs → x ≡ get_or xs 0 x → length (between 1 (length xs) xs) < length xs
shorter xs x h e = omega (arith, ap (λ (ys : List Value). length ys) (split xs x h e))

module _ (xs : List Value) (x : Value) (v : Data) (h : 1 ≤ length xs) (e : x ≡ get_or xs 0 x) (some : all_keys (plain_items xs) ≡ false) where
  here : all_keys (plain x ∷ plain_items (between 1 (length xs) xs)) ≡ false
  here = sym (ap (λ ys. all_keys (plain_items ys)) (split xs x h e)) ∙ some

  pub walk_stops : (t : Tag) → member (plain x) v ≡ Err t → (new : Data) → written (plain_items xs) v new ≡ Err t
  walk_stops t m new = ap (λ ys. written (plain_items ys) v new) (split xs x h e) ∙ fault_here (plain x) v new (plain_items (between 1 (length xs) xs)) t here m

  pub walk_on : (w : Data) (t : Tag) → member (plain x) v ≡ Ok w → ((new : Data) → written (plain_items (between 1 (length xs) xs)) w new ≡ Err t) → (new : Data) → written (plain_items xs) v new ≡ Err t
  walk_on w t m further new = ap (λ ys. written (plain_items ys) v new) (split xs x h e) ∙ fault_there (plain x) v w new (plain_items (between 1 (length xs) xs)) t here m (further new)

  pub walk_rest : (w : Data) → member (plain x) v ≡ Ok w → all_keys (plain_items (between 1 (length xs) xs)) ≡ false
  walk_rest w m = keys_rest (plain x) v w (plain_items (between 1 (length xs) xs)) here m
