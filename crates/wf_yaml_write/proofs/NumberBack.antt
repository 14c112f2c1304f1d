-- Printed whole numbers are read back.
use Rattle.std.proofs.Common.{◌≡◌, ℕ, suc, ◌+◌, ◌-◌, ◌*◌, ◌^◌, ◌<◌, List, [], ◌∷◌, Bool, true, false, cond, not, ◌&&◌, ◌||◌, ◌==◌, nat_le, nat_lt, codes, ℤ, pos, negsuc, Some, None, Ok, refl, ap, sym, ◌∙◌, arith}
use Rattle.std.specs.Char.{digit_value}
use Rattle.std.specs.Fmt.{signed_decimal, decimal}
use Rattle.std.specs.Int.{IsInRange}
use Rattle.std.specs.Str.Parse.{AllDigits, IsNumeral, digits_value, digits_value_after}
use Rattle.std.proofs.lemmas.Bool.{and_parts, and_from, and_left, not-true, lt-ltb, le-leb, ne_eqb, true≢false}
use Rattle.std.proofs.lemmas.Fmt.{decimal_is_IsNumeral}
use Rattle.std.proofs.lemmas.Str.{digit_value_digit}
use Rattle.std.proofs.lemmas.Str.Parse.{digit_from_value}
use Rattle.wf_tree.specs.Trees.{integer}
use Rattle.wf_yaml_line.specs.Marks.{hash, colon, is_digit, is_same, is_one_of, starts, ends_word}
use Rattle.wf_yaml_line.specs.Fault.{both, kept}
use Rattle.wf_yaml_flow.specs.Line.{one_line}
use Rattle.wf_yaml_line.specs.Scalars.{plain_tree_by}
use Rattle.wf_yaml_line.specs.Words.{digit_of, all_digits, is_number, number_from, is_sign, unsigned, is_negative, negative_of, whole_of, whole_or_decimal, null_words, true_words, false_words, is_decimal_whole, plain_kind}
use Rattle.wf_yaml_line.specs.declared.scalars.Plain.TheVariants as kind
use Rattle.wf_yaml_write.specs.Back.{Is64}
use Rattle.wf_yaml_write.proofs.Calm.{IsQuiet, AllQuiet, quiet_calm}
use Rattle.wf_yaml_write.proofs.PlainBack.{Opens, opens_by, not_among, scalar_line, fourth}

-- ---- words that begin otherwise

abbrev pub no_word : (ℕ → Bool) → List (List ℕ) → Bool
no_word p [] = true
no_word p (w ∷ ws) = not (starts p w) && no_word p ws

not_same : (p : ℕ → Bool) (w : List ℕ) (b : ℕ) (r : List ℕ) → p b ≡ true → starts p w ≡ false → is_same w (b ∷ r) ≡ false
not_same p [] b r h k = refl
not_same p (x ∷ w) b r h k = and_left (x == b) (is_same w r) (ne_eqb x b (λ e. true≢false (sym h ∙ ap p (sym e) ∙ k)))

-- no word begins with a character that passes, so a text that does is none of them
pub other_word : (p : ℕ → Bool) (ws : List (List ℕ)) (b : ℕ) (r : List ℕ) → p b ≡ true → no_word p ws ≡ true → is_one_of ws (b ∷ r) ≡ false
other_word p [] b r h k = refl
other_word p (w ∷ ws) b r h k =
    let parts = and_parts (not (starts p w)) (no_word p ws) k in
    ap (λ t. t || is_one_of ws (b ∷ r)) (not_same p w b r h (not-true (starts p w) parts.0)) ∙ other_word p ws b r h parts.1

-- ---- digits

pub digit_test : (c : ℕ) → IsInRange 48 57 c → is_digit c ≡ true
digit_test c k = (λ i. le-leb 48 c k.0 i && le-leb c 57 k.1 i)

digit_same : (c : ℕ) → digit_value c < 10 → digit_of c ≡ digit_value c
digit_same c h =
    let k = digit_from_value c h in
    ap (λ t. cond t (c - 48) (cond (nat_le 97 c && nat_le c 102) (c - 87) (cond (nat_le 65 c && nat_le c 70) (c - 55) 16))) (digit_test c k) ∙ omega (arith, digit_value_digit c k)

digits_test : (ds : List ℕ) → AllDigits 10 ds → all_digits 10 ds ≡ true
digits_test [] d = refl
digits_test (c ∷ cs) d = and_from (nat_lt (digit_of c) 10) (all_digits 10 cs) (lt-ltb (digit_of c) 10 (omega (arith, digit_same c d.0, d.0))) (digits_test cs d.1)

number_same : (n : ℕ) (ds : List ℕ) → AllDigits 10 ds → number_from 10 n ds ≡ digits_value_after 10 n ds
number_same n [] d = refl
number_same n (c ∷ cs) d =
    let step : 10 * n + digit_of c ≡ n * 10 + digit_value c = omega (arith, digit_same c d.0) in
    ap (λ m. number_from 10 m cs) step ∙ number_same (n * 10 + digit_value c) cs d.1

numeral_test : (ds : List ℕ) → IsNumeral 10 ds → is_number 10 ds ≡ true
numeral_test [] h = absurd (omega (arith, h.0))
numeral_test (c ∷ cs) h = digits_test (c ∷ cs) h.1

pub quiet_digit : (c : ℕ) → IsInRange 48 57 c → IsQuiet c
quiet_digit c k = record {
  blank = (λ i. ne_eqb c 32 (λ e. omega (arith, k.0)) i || ne_eqb c 9 (λ e. omega (arith, k.0)) i);
  hash = ne_eqb c hash (λ e. omega (arith, k.0));
  colon = ne_eqb c colon (λ e. omega (arith, k.1));
}

quiet_digits : (ds : List ℕ) → AllDigits 10 ds → AllQuiet ds
quiet_digits [] d = tt
quiet_digits (c ∷ cs) d = (quiet_digit c (digit_from_value c d.0), quiet_digits cs d.1)

-- ---- numbers

-- a digit or `-`
abbrev pub begins_number : ℕ → Bool
begins_number b = is_digit b || b == 45

number_kind : (b : ℕ) (r ds : List ℕ) (minus : Bool) (z : ℤ) → begins_number b ≡ true → unsigned (b ∷ r) ≡ ds → is_negative (b ∷ r) ≡ minus → IsNumeral 10 ds → whole_of minus (digits_value 10 ds) ≡ Some z → plain_kind (b ∷ r) ≡ kind.Whole z
number_kind b r ds minus z h u m d w =
    let s = b ∷ r in
    fourth (is_one_of null_words s) (is_one_of true_words s) (is_one_of false_words s) (is_decimal_whole s) _ _ _ (whole_or_decimal (whole_of (is_negative s) (number_from 10 0 (unsigned s)))) _
    (other_word begins_number null_words b r h refl) (other_word begins_number true_words b r h refl) (other_word begins_number false_words b r h refl) (ap (is_number 10) u ∙ numeral_test ds d)
    ∙ (λ i. whole_or_decimal (whole_of (m i) (number_from 10 0 (u i))))
    ∙ ap (λ n. whole_or_decimal (whole_of minus n)) (number_same 0 ds d.1)
    ∙ ap whole_or_decimal w

pub digit_no_sign : (b : ℕ) → IsInRange 48 57 b → is_sign b ≡ false
digit_no_sign b k = (λ i. ne_eqb b 43 (λ e. omega (arith, k.0)) i || ne_eqb b 45 (λ e. omega (arith, k.0)) i)

pub begins_digit : (b : ℕ) → IsInRange 48 57 b → begins_number b ≡ true
begins_digit b k = ap (λ t. t || b == 45) (digit_test b k)

positive_kind : (n : ℕ) (ds : List ℕ) → n < 2 ^ 63 → IsNumeral 10 ds → digits_value 10 ds ≡ n → plain_kind ds ≡ kind.Whole (pos n)
positive_kind n [] small h v = absurd (omega (arith, h.0))
positive_kind n (b ∷ r) small h v =
    let k = digit_from_value b h.1.0 in
    number_kind b r (b ∷ r) false (pos n) (begins_digit b k) (ap (λ t. cond t r (b ∷ r)) (digit_no_sign b k)) (ne_eqb b 45 (λ e. omega (arith, k.0))) h
    (ap (whole_of false) v ∙ ap (λ t. cond t (Some (pos n)) None) (lt-ltb n (2 ^ 63) small))

negative_kind : (n : ℕ) (ds : List ℕ) → n < 2 ^ 63 → IsNumeral 10 ds → digits_value 10 ds ≡ suc n → plain_kind (45 ∷ ds) ≡ kind.Whole (negsuc n)
negative_kind n ds small h v =
    number_kind 45 ds ds true (negsuc n) refl refl refl h
    (ap (whole_of true) v ∙ ap (λ t. cond t (Some (negative_of (suc n))) None) (le-leb (suc n) (2 ^ 63) (omega arith)))

pub whole_kind : (z : ℤ) → Is64 z → plain_kind (signed_decimal z) ≡ kind.Whole z
whole_kind (pos n) h = let k = decimal_is_IsNumeral n (omega arith) in positive_kind n (decimal n) h k.0 k.1
whole_kind (negsuc n) h = let k = decimal_is_IsNumeral (suc n) (omega arith) in negative_kind n (decimal (suc n)) h k.0 k.1

-- ---- on a line

pub digit_opens : (b : ℕ) (r : List ℕ) → IsInRange 48 57 b → Opens (b ∷ r)
digit_opens b r k = opens_by is_digit b r (digit_test b k) (ap (λ t. t && ends_word r) (not_among is_digit (codes "-?:") b (digit_test b k) refl)) refl refl refl refl

pub numeral_opens : (ds : List ℕ) → IsNumeral 10 ds → Opens ds
numeral_opens [] h = absurd (omega (arith, h.0))
numeral_opens (b ∷ r) h = digit_opens b r (digit_from_value b h.1.0)

minus_opens : (ds : List ℕ) → IsNumeral 10 ds → Opens (45 ∷ ds)
minus_opens [] h = absurd (omega (arith, h.0))
minus_opens (b ∷ r) h = opens_by (λ x. x == 45) 45 (b ∷ r) refl ((quiet_digit b (digit_from_value b h.1.0)).blank) refl refl refl refl

number_line : (delay : Bool) (n d : ℕ) (s : List ℕ) (z : ℤ) → Opens s → AllQuiet s → plain_kind s ≡ kind.Whole z → one_line delay n d s ≡ Ok (integer z)
number_line delay n d s z o q k = scalar_line delay n d s o (quiet_calm s q) ∙ ap (λ k. both kept (plain_tree_by k delay n s) (Ok (tt {0}))) k

pub number_opens : (z : ℤ) → Is64 z → Opens (signed_decimal z)
number_opens (pos m) h = numeral_opens (decimal m) (decimal_is_IsNumeral m (omega arith)).0
number_opens (negsuc m) h = minus_opens (decimal (suc m)) (decimal_is_IsNumeral (suc m) (omega arith)).0

pub number_quiet : (z : ℤ) → Is64 z → AllQuiet (signed_decimal z)
number_quiet (pos m) h = quiet_digits (decimal m) (decimal_is_IsNumeral m (omega arith)).0.1
number_quiet (negsuc m) h = (record { blank = refl; hash = refl; colon = refl }, quiet_digits (decimal (suc m)) (decimal_is_IsNumeral (suc m) (omega arith)).0.1)

-- a whole number of 64 bits is read as that number
pub number_back : (delay : Bool) (n d : ℕ) (z : ℤ) → Is64 z → one_line delay n d (signed_decimal z) ≡ Ok (integer z)
number_back delay n d z h = number_line delay n d (signed_decimal z) z (number_opens z h) (number_quiet z h) (whole_kind z h)
