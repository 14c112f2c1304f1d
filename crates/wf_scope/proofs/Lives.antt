-- The live layers among all that a store has.
use Rattle.std.proofs.Common.{Some, add-one, ◌≡◌, ◌<◌, ◌≤◌, ◌+◌, ◌-◌, Bool, true, false, ℕ, zero, suc, List, [], ◌∷◌, ◌++◌, length, length-append, get_or, take, drop, length-take, refl, sym, ap, ◌∙◌, arith}
use Rattle.std.specs.Prelude.{◌&&◌, if◌then◌else◌, nat_eq, slice_get, slice_set}
use Rattle.std.proofs.lemmas.Bool.{and_from, and_parts, eq-eqb, eqb-true}
use Rattle.std.specs.List.{remove}
use Rattle.std.proofs.lemmas.List.{drop-append-le, drop-set, drop-set-lt, get_or-take}
use Rattle.wf_value.specs.Data.{Data}
use Rattle.wf_value.specs.Pairs.{Text}
use Rattle.wf_scope.specs.Layers.{Layer, with_variable}
use Rattle.wf_scope.specs.Views.{are_straight, counted_in, layer_view, views}
use Rattle.wf_scope.specs.declared.layer.Layer as declared
use Rattle.wf_scope.proofs.Viewed.{view_length, view_read, view_set}

module _ {X : Type 0} where
  -- ## A change of one
  pub take_set : (n i : ℕ) (xs : List X) (x : X) → i < n → take n (slice_set xs i x) ≡ slice_set (take n xs) i x
  take_set zero i xs x h = absurd (omega (arith, h))
  take_set (suc n) i [] x h = refl
  take_set (suc n) zero (y ∷ xs) x h = refl
  take_set (suc n) (suc i) (y ∷ xs) x h = ap (λ (ys : List X). y ∷ ys) (take_set n i xs x (omega (arith, h)))

  -- ## One less
  take_less : (m i : ℕ) (xs : List X) → i ≤ m → m < length xs → take m (remove xs i) ≡ remove (take (suc m) xs) i
  take_less m i [] h w = absurd (omega (arith, w))
  take_less m zero (x ∷ xs) h w = refl
  take_less zero (suc i) (x ∷ xs) h w = absurd (omega (arith, h))
  take_less (suc m) (suc i) (x ∷ xs) h w = ap (λ (ys : List X). x ∷ ys) (take_less m i xs (omega (arith, h)) (omega (arith, w)))

  drop_less : (m i : ℕ) (xs : List X) → i ≤ m → m < length xs → drop m (remove xs i) ≡ drop (suc m) xs
  drop_less m i [] h w = absurd (omega (arith, w))
  drop_less m zero (x ∷ xs) h w = refl
  drop_less zero (suc i) (x ∷ xs) h w = absurd (omega (arith, h))
  drop_less (suc m) (suc i) (x ∷ xs) h w = drop_less m i xs (omega (arith, h)) (omega (arith, w))

  pub take_removed : (n i : ℕ) (xs : List X) → i < n → n ≤ length xs → take (n - 1) (remove xs i) ≡ remove (take n xs) i
  take_removed n i xs h w =
      let same : suc (n - 1) ≡ n = omega (arith, h) in
      take_less (n - 1) i xs (omega (arith, h)) (omega (arith, h, w)) ∙ ap (λ (k : ℕ). remove (take k xs) i) same

  pub drop_removed : (n i : ℕ) (xs : List X) → i < n → n ≤ length xs → drop (n - 1) (remove xs i) ≡ drop n xs
  drop_removed n i xs h w =
      let same : suc (n - 1) ≡ n = omega (arith, h) in
      drop_less (n - 1) i xs (omega (arith, h)) (omega (arith, h, w)) ∙ ap (λ (k : ℕ). drop k xs) same

-- ## One more that has ended
counted_last : (ys : List declared.Layer) (l : declared.Layer) → counted_in (ys ++ l ∷ []) ≡ l.counted + counted_in ys
counted_last [] l = refl
counted_last (y ∷ ys) l = omega (arith, counted_last ys l)

pub spared_more : (ok : Bool) (n : ℕ) (xs ys : List declared.Layer) (l : declared.Layer) → n ≤ length xs → ys ≡ (if ok then xs ++ l ∷ [] else xs) → counted_in (drop n xs) ≡ 0 → l.counted ≡ 0 → (n ≤ length ys) × (counted_in (drop n ys) ≡ 0)
spared_more true n xs ys l h e none free = (
  omega (arith, h, ap length e, length-append xs (l ∷ [])),
  ap (λ zs. counted_in (drop n zs)) e ∙ ap counted_in (drop-append-le n xs (l ∷ []) h) ∙ omega (arith, counted_last (drop n xs) l, none, free),
)
spared_more false n xs ys l h e none free = (omega (arith, h, ap length e), ap (λ zs. counted_in (drop n zs)) e ∙ none)

spared_less : (n : ℕ) (xs : List declared.Layer) → counted_in (drop n xs) ≡ 0 → counted_in (drop (suc n) xs) ≡ 0
spared_less zero [] h = refl
spared_less zero (x ∷ xs) h = omega (arith, h)
spared_less (suc n) [] h = refl
spared_less (suc n) (x ∷ xs) h = spared_less n xs h

-- a change of a live one, of the first one that has ended, and of one that ends
module _ (n i : ℕ) (xs : List declared.Layer) (m : declared.Layer) (spared : counted_in (drop n xs) ≡ 0) where
  pub spared_set : i < n → counted_in (drop n (slice_set xs i m)) ≡ 0
  spared_set h = ap counted_in (drop-set-lt n xs i m h) ∙ spared

  pub spared_open : i ≡ n → counted_in (drop (n + 1) (slice_set xs i m)) ≡ 0
  spared_open e = ap counted_in (drop-set-lt (n + 1) xs i m (omega (arith, e))) ∙ ap (λ (k : ℕ). counted_in (drop k xs)) (add-one n) ∙ spared_less n xs spared

  pub spared_end : n ≡ i + 1 → i < length xs → m.counted ≡ 0 → counted_in (drop i (slice_set xs i m)) ≡ 0
  spared_end e w free = ap counted_in (drop-set xs i m w) ∙ (let none : m.counted + counted_in (drop (i + 1) xs) ≡ 0 = omega (arith, free, ap (λ (k : ℕ). counted_in (drop k xs)) e, spared) in none)

-- ## Those that stand at their numbers
pub straight_at : (s n k i : ℕ) (xs : List declared.Layer) (l : Layer) → are_straight s k xs ≡ true → i < s → s ≤ n → slice_get (views (take n xs)) i ≡ Some l → l.number ≡ k + i
straight_at zero n k i xs l t lt le at = absurd (omega (arith, lt))
straight_at (suc s) zero k i xs l t lt le at = absurd (omega (arith, le))
straight_at (suc s) (suc n) k i [] l t lt le at = cc
straight_at (suc s) (suc n) k zero (x ∷ xs) l t lt le at =
    let same : layer_view x ≡ l = cc in
    omega (arith, ap (λ (y : Layer). y.number) same, eqb-true x.number k (and_parts (nat_eq x.number k) (are_straight s (suc k) xs) t).0)
straight_at (suc s) (suc n) k (suc i) (x ∷ xs) l t lt le at = omega (arith, straight_at s n (suc k) i xs l (and_parts (nat_eq x.number k) (are_straight s (suc k) xs) t).1 (omega (arith, lt)) (omega (arith, le)) at)

pub straight_set : (n k i : ℕ) (xs : List declared.Layer) (l m : declared.Layer) → l ≡ get_or xs i l → m.number ≡ l.number → are_straight n k (slice_set xs i m) ≡ are_straight n k xs
straight_set zero k i xs l m e same = refl
straight_set (suc n) k i [] l m e same = refl
straight_set (suc n) k zero (x ∷ xs) l m e same = ap (λ (j : ℕ). nat_eq j k && are_straight n (suc k) xs) (same ∙ ap (λ (y : declared.Layer). y.number) e)
straight_set (suc n) k (suc i) (x ∷ xs) l m e same = ap (λ (b : Bool). nat_eq x.number k && b) (straight_set n (suc k) i xs l m e same)

pub straight_behind : (n k i : ℕ) (xs : List declared.Layer) (m : declared.Layer) → n ≤ i → are_straight n k (slice_set xs i m) ≡ are_straight n k xs
straight_behind zero k i xs m h = refl
straight_behind (suc n) k i [] m h = refl
straight_behind (suc n) k zero (x ∷ xs) m h = absurd (omega (arith, h))
straight_behind (suc n) k (suc i) (x ∷ xs) m h = ap (λ (b : Bool). nat_eq x.number k && b) (straight_behind n (suc k) i xs m (omega (arith, h)))

pub straight_removed : (n k i : ℕ) (xs : List declared.Layer) → n ≤ i → i < length xs → are_straight n k (remove xs i) ≡ are_straight n k xs
straight_removed zero k i xs h w = refl
straight_removed (suc n) k i [] h w = absurd (omega (arith, w))
straight_removed (suc n) k zero (x ∷ xs) h w = absurd (omega (arith, h))
straight_removed (suc n) k (suc i) (x ∷ xs) h w = ap (λ (b : Bool). nat_eq x.number k && b) (straight_removed n (suc k) i xs (omega (arith, h)) (omega (arith, w)))

straight_push : (n k : ℕ) (xs : List declared.Layer) (l : declared.Layer) → n ≤ length xs → are_straight n k (xs ++ l ∷ []) ≡ are_straight n k xs
straight_push zero k xs l h = refl
straight_push (suc n) k [] l h = absurd (omega (arith, h))
straight_push (suc n) k (x ∷ xs) l h = ap (λ (b : Bool). nat_eq x.number k && b) (straight_push n (suc k) xs l (omega (arith, h)))

pub straight_pushed : (ok : Bool) (n : ℕ) (xs ys : List declared.Layer) (l : declared.Layer) → n ≤ length xs → ys ≡ (if ok then xs ++ l ∷ [] else xs) → are_straight n 0 ys ≡ are_straight n 0 xs
straight_pushed true n xs ys l h e = ap (are_straight n 0) e ∙ straight_push n 0 xs l h
straight_pushed false n xs ys l h e = ap (are_straight n 0) e

pub straight_fewer : (m n k : ℕ) (xs : List declared.Layer) → m ≤ n → are_straight n k xs ≡ true → are_straight m k xs ≡ true
straight_fewer zero n k xs h t = refl
straight_fewer (suc m) zero k xs h t = absurd (omega (arith, h))
straight_fewer (suc m) (suc n) k [] h t = refl
straight_fewer (suc m) (suc n) k (x ∷ xs) h t =
    let two = and_parts (nat_eq x.number k) (are_straight n (suc k) xs) t in
    and_from (nat_eq x.number k) (are_straight m (suc k) xs) two.0 (straight_fewer m n (suc k) xs (omega (arith, h)) two.1)

straight_more : (n k : ℕ) (xs : List declared.Layer) (m : declared.Layer) → n < length xs → m.number ≡ k + n → are_straight n k xs ≡ true → are_straight (suc n) k (slice_set xs n m) ≡ true
straight_more n k [] m w e t = absurd (omega (arith, w))
straight_more zero k (x ∷ xs) m w e t = and_from (nat_eq m.number k) true (eq-eqb m.number k (omega (arith, e))) refl
straight_more (suc n) k (x ∷ xs) m w e t =
    let two = and_parts (nat_eq x.number k) (are_straight n (suc k) xs) t in
    and_from (nat_eq x.number k) (are_straight (suc n) (suc k) (slice_set xs n m)) two.0 (straight_more n (suc k) xs m (omega (arith, w)) (omega (arith, e)) two.1)

pub straight_grown : (s n number r : ℕ) (xs : List declared.Layer) (m : declared.Layer) → s ≤ n → n < length xs → m.number ≡ number → are_straight s 0 xs ≡ true → r ≡ (if nat_eq s n && nat_eq number n then s + 1 else s)
    → (r ≤ n + 1) × (are_straight r 0 (slice_set xs n m) ≡ true)
straight_grown s n number r xs m h w e t is = by (nat_eq s n) refl (nat_eq number n) refl is
  where
    by : (a : Bool) → nat_eq s n ≡ a → (b : Bool) → nat_eq number n ≡ b → r ≡ (if a && b then s + 1 else s) → (r ≤ n + 1) × (are_straight r 0 (slice_set xs n m) ≡ true)
    by false p b q is = (omega (arith, is, h), ap (λ (k : ℕ). are_straight k 0 (slice_set xs n m)) is ∙ straight_behind s 0 n xs m h ∙ t)
    by true p false q is = (omega (arith, is, h), ap (λ (k : ℕ). are_straight k 0 (slice_set xs n m)) is ∙ straight_behind s 0 n xs m h ∙ t)
    by true p true q is =
        let same = eqb-true s n p in
        let one : r ≡ suc n = omega (arith, is, same) in
        (omega (arith, one), ap (λ (k : ℕ). are_straight k 0 (slice_set xs n m)) one ∙ straight_more n 0 xs m w (omega (arith, e, eqb-true number n q)) (ap (λ (k : ℕ). are_straight k 0 xs) (sym same) ∙ t))

pub number_kept : (ok : Bool) (x : Text) (v : Data) (l m : Layer) → m ≡ (if ok then with_variable x v l else l) → m.number ≡ l.number
number_kept true x v l m e = ap (λ (y : Layer). y.number) e
number_kept false x v l m e = ap (λ (y : Layer). y.number) e

-- ## Where one stands
module _ (n i : ℕ) (xs : List declared.Layer) (within : i < length (views (take n xs))) (all : n ≤ length xs) where
  pub live_below : i < n
  live_below = omega (arith, within, view_length (take n xs), length-take n xs)

  pub live_read : (l : declared.Layer) → l ≡ get_or xs i l → layer_view l ≡ get_or (views (take n xs)) i (layer_view l)
  live_read l is = view_read (take n xs) i l (is ∙ sym (get_or-take n xs i l live_below))

  pub live_set : (l : declared.Layer) → views (take n (slice_set xs i l)) ≡ slice_set (views (take n xs)) i (layer_view l)
  live_set l = ap views (take_set n i xs l live_below) ∙ view_set (take n xs) i l
