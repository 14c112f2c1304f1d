-- Lists: heads and tails, places, ends, and what holds of all of one.
use Rattle.std.proofs.Common.{◌≡◌, ℕ, zero, suc, ◌+◌, ◌-◌, ◌<◌, ◌≤◌, Bool, true, false, if◌then◌else◌, List, [], ◌∷◌, ◌++◌, length, take, drop, get_or, drop-cons, add-one, append_assoc, length-append, take-append-drop, reverse, refl, sym, ap, ◌∙◌, arith}
use Rattle.std.proofs.lemmas.List.{drop-drop, drop_all, drop_at, reverse-append}
use Rattle.std.specs.List.{AllByRecursion}
use Rattle.std.specs.Prelude.{None, Some, slice_get}

-- ## Heads and tails
pub same_head : {A : Type 0} (x y : A) (xs ys : List A) → x ∷ xs ≡ y ∷ ys → x ≡ y
same_head x y xs ys h = cc h

pub same_tail : {A : Type 0} (x y : A) (xs ys : List A) → x ∷ xs ≡ y ∷ ys → xs ≡ ys
same_tail x y xs ys h = cc h

pub not_nil : {A : Type 0} (xs ys : List A) (y : A) → [] ≡ xs ++ y ∷ ys → ⊥
not_nil [] ys y h = cc h
not_nil (x ∷ xs) ys y h = cc h

-- ## Places
-- what stands at an index, and what is left behind it
pub item_at : {A : Type 0} (xs : List A) (i : ℕ) (x : A) → i < length xs → x ≡ get_or xs i x → drop i xs ≡ x ∷ drop (i + 1) xs
item_at xs i x lt is = drop-cons xs i x lt ∙ ap (λ y. y ∷ drop (suc i) xs) (sym is) ∙ ap (λ j. x ∷ drop j xs) (sym (add-one i))

-- the same by what is read there
pub read_at : {A : Type 0} (xs : List A) (i : ℕ) (x : A) → Some x ≡ slice_get xs i → drop i xs ≡ x ∷ drop (suc i) xs
read_at [] i x h = cc h
read_at (y ∷ xs) zero x h = let e : y ≡ x = cc h in ap (λ z. z ∷ xs) e
read_at (y ∷ xs) (suc i) x h = read_at xs i x h

pub read_past : {A : Type 0} (xs : List A) (i : ℕ) → None ≡ slice_get xs i → drop i xs ≡ []
read_past [] zero h = refl
read_past [] (suc i) h = refl
read_past (x ∷ xs) zero h = cc h
read_past (x ∷ xs) (suc i) h = read_past xs i h

-- no item stands at the end or behind it
pub none_past : {A : Type 0} (xs : List A) (i : ℕ) → slice_get xs i ≡ None → length xs ≤ i
none_past [] i h = omega arith
none_past (x ∷ xs) zero h = absurd (cc h)
none_past (x ∷ xs) (suc i) h = omega (arith, none_past xs i h)

-- one item more is taken
pub take_push : {A : Type 0} (xs : List A) (i : ℕ) (x : A) → slice_get xs i ≡ Some x → take (suc i) xs ≡ take i xs ++ x ∷ []
take_push [] i x h = absurd (cc h)
take_push (y ∷ xs) zero x h = let same : y ≡ x = cc h in ap (λ y. y ∷ []) same
take_push (y ∷ xs) (suc i) x h = ap (λ ys. y ∷ ys) (take_push xs i x h)

-- nothing is left at the end or behind it
pub drop_end : {A : Type 0} (xs : List A) (i : ℕ) → length xs ≤ i → drop i xs ≡ []
drop_end xs i le = drop_all i xs le

-- ## Parts and lengths
pub reverse_push : {A : Type 0} (xs : List A) (x : A) → reverse (xs ++ x ∷ []) ≡ x ∷ reverse xs
reverse_push xs x = reverse-append xs (x ∷ [])

pub end_length : (a s : List ℕ) → length s ≤ length (a ++ s)
end_length a s = rw (length-append a s) (omega arith)

pub piece_joined : (a b : List ℕ) (n : ℕ) → (a ++ take n b) ++ drop n b ≡ a ++ b
piece_joined a b n = append_assoc a (take n b) (drop n b) ∙ ap (λ (s : List ℕ). a ++ s) (take-append-drop n b)

-- what is left where the first list is passed
pub drop_past : (n : ℕ) (xs ys : List ℕ) → length xs ≤ n → drop n (xs ++ ys) ≡ drop (n - length xs) ys
drop_past n xs ys le =
    let e : length xs + (n - length xs) ≡ n = omega arith in
    sym (ap (λ (k : ℕ). drop k (xs ++ ys)) e) ∙ sym (drop-drop (n - length xs) (length xs) (xs ++ ys)) ∙ ap (drop (n - length xs)) (drop_at xs ys (length xs) refl)

-- a list that is there or not has one item more at most
pub few_if : (there : Bool) (n : ℕ) (first : List ℕ) (more : List (List ℕ)) → length more ≤ n → length (if there then first ∷ more else []) ≤ suc n
few_if true n first more le = omega (arith, le)
few_if false n first more le = omega arith

-- ## What holds of all
pub all_push : {A : Type 0} (P : A → Type 0) (xs : List A) (x : A) → AllByRecursion P xs → P x → AllByRecursion P (xs ++ x ∷ [])
all_push P [] x all is = (is, tt)
all_push P (y ∷ xs) x all is = (all.0, all_push P xs x all.1 is)

pub all_both : {A : Type 0} (P : A → Type 0) (xs ys : List A) → AllByRecursion P xs → AllByRecursion P ys → AllByRecursion P (xs ++ ys)
all_both P [] ys all more = more
all_both P (x ∷ xs) ys all more = (all.0, all_both P xs ys all.1 more)

-- what holds of all holds of the one between
pub all_at : {A : Type 0} (P : A → Type 0) (before : List A) (x : A) (behind : List A) → AllByRecursion P (before ++ x ∷ behind) → P x
all_at P [] x behind all = all.0
all_at P (y ∷ before) x behind all = all_at P before x behind all.1
