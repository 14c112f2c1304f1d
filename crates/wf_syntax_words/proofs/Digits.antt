-- Digits that are read as numbers.
use Rattle.std.proofs.Common.{◌≡◌, ◌*◌, ◌-◌, ◌<◌, ◌≤◌, ◌^◌, ℕ, true, false, ◌&&◌, [], ◌∷◌, length, if◌then◌else◌, nat_le, nat_lt, Option, Some, None, Result, Ok, Err, ⊎_elim, sym, ap, ◌∙◌, subst, arith}
use Rattle.std.proofs.lemmas.Bool.{cases_lt, and_parts, leb-true}
use Rattle.std.proofs.lemmas.Bool.Decides.{nat_tests}
use Rattle.std.proofs.lemmas.Str.{digit_value_digit}
use Rattle.std.proofs.lemmas.Str.Parse.{numerals_by_value, tells_digits, parse_digits, digits_value_short}
use Rattle.std.proofs.Math.Nat.{mul-le-mul_right, pow-le-pow_right}
use Rattle.std.specs.Char.{digit_value}
use Rattle.std.specs.Int.{IsInRange}
use Rattle.std.specs.List.{list_all}
use Rattle.std.specs.Result.{result_ok}
use Rattle.std.specs.Str.Parse.{AllDigits, ParsesUnsigned, digits_value}
use Rattle.wf_syntax_words.specs.Numbers.{is_digits, at_most}
use Rattle.wf_span.specs.Tokens.{is_digit}
use Rattle.wf_value.specs.Pairs.{Text}

in_range : (b : ℕ) → is_digit b ≡ true → IsInRange 48 57 b
in_range b h = let p = and_parts (nat_le 48 b) (nat_le b 57) h in (leb-true 48 b p.0, leb-true b 57 p.1)

below_ten : (b : ℕ) → is_digit b ≡ true → digit_value b < 10
below_ten b h = let k = in_range b h in omega (arith, digit_value_digit b k, k.0, k.1)

all_digits : (l : Text) → list_all is_digit l ≡ true → AllDigits 10 l
all_digits [] h = tt
all_digits (b ∷ l) h = let p = and_parts (is_digit b) (list_all is_digit l) h in (below_ten b p.0, all_digits l p.1)

-- what the test of digits says
parts_of : (most : ℕ) (s : Text) → is_digits most s ≡ true → (nat_lt 0 (length s) ≡ true) × (nat_le (length s) most ≡ true) × (list_all is_digit s ≡ true)
parts_of most s h =
    let p = and_parts (nat_lt 0 (length s) && nat_le (length s) most) (list_all is_digit s) h in
    let q = and_parts (nat_lt 0 (length s)) (nat_le (length s) most) p.0 in
    (q.0, q.1, p.1)

some_are : (n : ℕ) → nat_lt 0 n ≡ true → 0 < n
some_are n h = grind (arith, nat_tests)

-- ## Numbers of 64 bits
kept : (n : ℕ) → n < 2 ^ 64 → Some n ≡ at_most (2 ^ 64 - 1) (Some n)
kept n lt = let is : nat_le n (2 ^ 64 - 1) ≡ true = grind (arith, nat_tests) in ap (λ b. if b then Some n else None) (sym is)

lost : (n : ℕ) → 2 ^ 64 ≤ n → None ≡ at_most (2 ^ 64 - 1) (Some n)
lost n le = let is : nat_le n (2 ^ 64 - 1) ≡ false = grind (arith, nat_tests) in ap (λ b. if b then Some n else None) (sym is)

pub parsed_is : {E : Type 0} (s : Text) (r : Result ℕ E) → is_digits (length s) s ≡ true → ParsesUnsigned 64 10 s r → result_ok r ≡ at_most (2 ^ 64 - 1) (Some (digits_value 10 s))
parsed_is {E} s (Ok x) h p =
    let d = parts_of (length s) s h in
    let o = parse_digits (numerals_by_value (AllDigits 10) tells_digits) {E = E} 64 s (Ok x) p (all_digits s d.2) in
    ap Some o.1 ∙ kept (digits_value 10 s) o.0.1
parsed_is {E} s (Err e) h p =
    let d = parts_of (length s) s h in
    let o = parse_digits (numerals_by_value (AllDigits 10) tells_digits) {E = E} 64 s (Err e) p (all_digits s d.2) in
    ⊎_elim (λ lt. absurd (o (some_are (length s) d.0, lt))) (λ le. lost (digits_value 10 s) le) (cases_lt (digits_value 10 s) (2 ^ 64))

-- ## Few digits
short_value : (k : ℕ) (s : Text) → is_digits k s ≡ true → digits_value 10 s < 10 ^ k
short_value k s h =
    let d = parts_of k s h in
    digits_value_short (numerals_by_value (AllDigits 10) tells_digits) s k (all_digits s d.2) (leb-true (length s) k d.1)

pub few_read : (k : ℕ) (s : Text) (r : Option ℕ) → is_digits k s ≡ true → 10 ^ k ≤ 2 ^ 64 → r ≡ at_most (2 ^ 64 - 1) (Some (digits_value 10 s)) → r ≡ Some (digits_value 10 s)
few_read k s r h le is = is ∙ sym (kept (digits_value 10 s) (omega (arith, short_value k s h, le)))

pub few_bound : (k n : ℕ) (s : Text) (r : Option ℕ) → is_digits k s ≡ true → 10 ^ k ≤ 2 ^ 64 → r ≡ at_most (2 ^ 64 - 1) (Some (digits_value 10 s)) → r ≡ Some n → n < 10 ^ k
few_bound k n s r h le is some =
    let same : n ≡ digits_value 10 s = cc (few_read k s r h le is, some) in
    subst (λ m. m < 10 ^ k) (sym same) (short_value k s h)

pub never_none : {P : Type 0} (k : ℕ) (s : Text) (r : Option ℕ) → is_digits k s ≡ true → 10 ^ k ≤ 2 ^ 64 → r ≡ at_most (2 ^ 64 - 1) (Some (digits_value 10 s)) → r ≡ None → P
never_none k s r h le is none = absurd (cc (few_read k s r h le is, none))

-- the thousandths behind a point
pub part_bound : (n k scale : ℕ) → n < 1000 → scale ≡ 10 ^ (3 - k) → n * scale ≤ 1000000
part_bound n k scale lt is =
    let most : 10 ^ (3 - k) ≤ 1000 = pow-le-pow_right {n = 10} (omega arith) {i = 3 - k} {j = 3} (omega arith) in
    let left : n * scale ≤ 1000 * scale = mul-le-mul_right scale (omega (arith, lt)) in
    omega (arith, left, most, is)
