-- Numbers of decimal digits.
use Rattle.std.proofs.Common.{◌≡◌, ℕ, zero, suc, ◌+◌, ◌-◌, ◌*◌, ◌<◌, ◌≤◌, ◌==◌, min, Bool, true, false, List, [], ◌∷◌, ◌++◌, length, take, drop, get_or, take_all, refl, sym, ap, ◌∙◌, arith}
use Rattle.std.specs.Char.{digit_value, is_ascii_digit}
use Rattle.std.specs.List.{list_all}
use Rattle.std.specs.Str.Parse.{digits_value, digits_value_after}
use Rattle.std.proofs.lemmas.Bool.{and_parts, ne_eqb}
use Rattle.std.proofs.lemmas.Bool.Decides.{nat_tests}
use Rattle.std.proofs.lemmas.List.{drop_more, take_more}
use Rattle.httparse.proofs.ChunkLemmas.{digits_value_after_push}

pub digit_is : (c : ℕ) → is_ascii_digit c ≡ true → (digit_value c ≡ c - 48) × (48 ≤ c) × (c ≤ 57)
digit_is c d = grind (arith, nat_tests)

pub value_push : (ds : List ℕ) (d : ℕ) → digits_value 10 (ds ++ d ∷ []) ≡ digits_value 10 ds * 10 + digit_value d
value_push ds d = digits_value_after_push 10 0 ds d

-- the last digits are the same
pub same_last : (a b d : ℕ) → (a * 10 + d == b * 10 + d) ≡ (a == b)
same_last a b d = grind (arith, nat_tests)

pub after_some : (n : ℕ) (ds : List ℕ) → 0 < n → 0 < digits_value_after 10 n ds
after_some n [] some = some
after_some n (d ∷ ds) some = after_some (n * 10 + digit_value d) ds (omega arith)

pub all_at : (p : ℕ → Bool) (xs : List ℕ) (i : ℕ) → list_all p xs ≡ true → i < length xs → p (get_or xs i 0) ≡ true
all_at p [] i all lt = absurd (omega arith)
all_at p (x ∷ xs) zero all lt = (and_parts (p x) (list_all p xs) all).0
all_at p (x ∷ xs) (suc i) all lt = all_at p xs i (and_parts (p x) (list_all p xs) all).1 (omega arith)

-- a digit that is no zero makes a number that is none
pub not_zero : (ds : List ℕ) (i : ℕ) → i < length ds → list_all is_ascii_digit (drop i ds) ≡ true → digits_value 10 (drop i ds) ≡ digits_value 10 ds
    → (get_or ds i 0 ≡ 48 → ⊥) → false ≡ (digits_value 10 ds == 0)
not_zero ds i lt all same ne =
    let e = drop_more ds i 0 lt in
    let digit = (and_parts (is_ascii_digit (get_or ds i 0)) (list_all is_ascii_digit (drop (i + 1) ds)) (rw e at all)).0 in
    let is = digit_is (get_or ds i 0) digit in
    let some : 0 < digits_value_after 10 (0 * 10 + digit_value (get_or ds i 0)) (drop (i + 1) ds) = after_some _ (drop (i + 1) ds) (omega (arith, ne)) in
    let value : 0 < digits_value 10 (drop i ds) = rw e some in
    sym (ne_eqb (digits_value 10 ds) 0 (omega arith))

-- one digit more
pub told_more : (limit : ℕ) (ds : List ℕ) (i n : ℕ) → i < length ds → list_all is_ascii_digit ds ≡ true → n ≡ min (digits_value 10 (take i ds)) (limit + 1)
    → min (n * 10 + (get_or ds i 0 - 48)) (limit + 1) ≡ min (digits_value 10 (take (i + 1) ds)) (limit + 1)
told_more limit ds i n lt all is =
    let digit = digit_is (get_or ds i 0) (all_at is_ascii_digit ds i all lt) in
    let value : digits_value 10 (take (i + 1) ds) ≡ digits_value 10 (take i ds) * 10 + digit_value (get_or ds i 0) =
    ap (digits_value 10) (take_more ds i 0 lt) ∙ value_push (take i ds) (get_or ds i 0) in
    omega (arith, digit, value)

-- ## The last digit
pub all_take : (p : ℕ → Bool) (xs : List ℕ) (n : ℕ) → list_all p xs ≡ true → list_all p (take n xs) ≡ true
all_take p [] zero all = refl
all_take p [] (suc n) all = refl
all_take p (x ∷ xs) zero all = refl
all_take p (x ∷ xs) (suc n) all =
    let parts = and_parts (p x) (list_all p xs) all in
    rw parts.0 (all_take p xs n parts.1)

value_of : (xs : List ℕ) → 1 ≤ length xs → digits_value 10 xs ≡ digits_value 10 (take (length xs - 1) xs) * 10 + digit_value (get_or xs (length xs - 1) 0)
value_of xs some =
    let e : length xs - 1 + 1 ≡ length xs = omega arith in
    let all : xs ≡ take (length xs - 1 + 1) xs = sym (ap (λ (n : ℕ). take n xs) e ∙ take_all (length xs) xs (omega arith)) in
    ap (digits_value 10) (all ∙ take_more xs (length xs - 1) 0 (omega arith)) ∙ value_push (take (length xs - 1) xs) (get_or xs (length xs - 1) 0)

-- the last digits are the same
pub same_step : (a b : List ℕ) → 1 ≤ length a → 1 ≤ length b → get_or a (length a - 1) 0 ≡ get_or b (length b - 1) 0
    → (digits_value 10 (take (length b - 1) b) == digits_value 10 (take (length a - 1) a)) ≡ (digits_value 10 b == digits_value 10 a)
same_step a b x y same =
    let va = value_of a x in
    let vb = value_of b y in
    let d = ap digit_value same in
    sym (ap (λ (n : ℕ). n == digits_value 10 a) vb ∙ ap (λ (n : ℕ). digits_value 10 (take (length b - 1) b) * 10 + digit_value (get_or b (length b - 1) 0) == n) (va ∙ ap (λ (n : ℕ). digits_value 10 (take (length a - 1) a) * 10 + n) d)
    ∙ same_last (digits_value 10 (take (length b - 1) b)) (digits_value 10 (take (length a - 1) a)) (digit_value (get_or b (length b - 1) 0)))

-- they differ
pub other_step : (a b : List ℕ) → 1 ≤ length a → 1 ≤ length b → list_all is_ascii_digit a ≡ true → list_all is_ascii_digit b ≡ true
    → (get_or a (length a - 1) 0 ≡ get_or b (length b - 1) 0 → ⊥) → false ≡ (digits_value 10 b == digits_value 10 a)
other_step a b x y alls alsb ne =
    let va = value_of a x in
    let vb = value_of b y in
    let da = digit_is (get_or a (length a - 1) 0) (all_at is_ascii_digit a (length a - 1) alls (omega arith)) in
    let db = digit_is (get_or b (length b - 1) 0) (all_at is_ascii_digit b (length b - 1) alsb (omega arith)) in
    sym (ne_eqb (digits_value 10 b) (digits_value 10 a) (omega (arith, va, vb, da, db, ne)))
