-- The whole numbers that texts of digits write.
use Rattle.std.proofs.Common.{◌≡◌, ◌≢◌, ℕ, Bool, true, false, cond, List, [], ◌∷◌, length, drop, ℤ, pos, negsuc, neg_ℤ, Ok, Err, refl, sym, ap, ◌∙◌, subst, slice_index, nat_lt, nat_eq, w64, FitsSigned, arith}
use Rattle.std.proofs.lemmas.Bool.Decides.{nat_tests}
use Rattle.std.specs.Char.{is_ascii_digit}
use Rattle.std.specs.List.{list_all}
use Rattle.std.specs.Str.Parse.{AllDigits, IsNumeral, digits_value, starts_with_minus, without_leading_sign, without_leading_plus, signed_digits_value}
use Rattle.std.proofs.lemmas.Bool.{and_from}
use Rattle.wf_lemmas.proofs.Texts.{digit_small, digit_told}
use Rattle.wf_lemmas.proofs.Bools.{and_left, and_right, and_none}
use Rattle.wf_ast.specs.Apply.{is_digits, has_minus, digits_in, read_whole, as_int}
use Rattle.wf_value.specs.Data.{Data, integer, text}
use Rattle.wf_value.specs.Errors.{Answer}
use Rattle.wf_value.specs.Numbers.{in_64_bits, as_answer}
use Rattle.wf_value.specs.declared.numbers.NumFault.TheVariants.{Range}
use Rattle.wf_value.specs.declared.errors.Raise.TheVariants.{Error}
use Rattle.wf_value.specs.declared.errors.Tag.TheVariants.{ValueError}
use Rattle.wf_value.specs.declared.value.Value.TheVariants as value
use Rattle.wf_eval.specs.Answers.{Gives}

-- ## Digits

all_low : (ds : List ℕ) → AllDigits 10 ds → list_all is_ascii_digit ds ≡ true
all_low [] h = refl
all_low (c ∷ cs) h = and_from _ _ (digit_told c h.0) (all_low cs h.1)

low_all : (ds : List ℕ) → list_all is_ascii_digit ds ≡ true → AllDigits 10 ds
low_all [] h = tt
low_all (c ∷ cs) h = (digit_small c (and_left _ _ h), low_all cs (and_right _ _ h))

numeral_is : (ds : List ℕ) → IsNumeral 10 ds → is_digits ds ≡ true
numeral_is ds h = and_from _ _ (grind (arith, nat_tests, h.0)) (all_low ds h.1)

is_numeral : (ds : List ℕ) → is_digits ds ≡ true → IsNumeral 10 ds
is_numeral ds h = (let e : nat_lt 0 (length ds) ≡ true = and_left _ _ h in grind (arith, nat_tests, e), low_all ds (and_right _ _ h))

-- ## Signs
minus : (s : List ℕ) → has_minus s ≡ starts_with_minus s
minus [] = refl
minus (b ∷ bs) = and_none (nat_eq b 45)

no_plus : (s : List ℕ) → slice_index s 0 ≢ 43 → without_leading_plus s ≡ s
no_plus s h = let e : nat_eq (slice_index s 0) 43 ≡ false = grind (arith, nat_tests, h) in ap (λ (b : Bool). drop (cond b 1 0) s) e

no_sign : (s : List ℕ) → slice_index s 0 ≢ 43 → without_leading_sign s ≡ digits_in s
no_sign s h = ap (λ b. cond b (drop 1 s) (without_leading_plus s)) (sym (minus s)) ∙ ap (λ t. cond (has_minus s) (drop 1 s) t) (no_plus s h)

whole_is : (s : List ℕ) → slice_index s 0 ≢ 43 → signed_digits_value 10 s ≡ read_whole s
whole_is s h =
    ap (λ t. cond (starts_with_minus s) (neg_ℤ (pos (digits_value 10 t))) (pos (digits_value 10 t))) (no_sign s h)
    ∙ ap (λ b. cond b (neg_ℤ (pos (digits_value 10 (digits_in s)))) (pos (digits_value 10 (digits_in s)))) (sym (minus s))
    ∙ by_sign (has_minus s) refl
  where
    by_sign : (b : Bool) → has_minus s ≡ b → cond b (neg_ℤ (pos (digits_value 10 (digits_in s)))) (pos (digits_value 10 (digits_in s))) ≡ cond b (neg_ℤ (pos (digits_value 10 (digits_in s)))) (pos (digits_value 10 s))
    by_sign true e = refl
    by_sign false e = ap (λ b. pos (digits_value 10 (cond b (drop 1 s) s))) e

-- ## The range
in_range : (n : ℤ) → FitsSigned w64 n → in_64_bits n ≡ Ok n
in_range (pos k) h = grind (arith, nat_tests, h)
in_range (negsuc k) h = grind (arith, nat_tests, h)

out_of_range : (n : ℤ) → (FitsSigned w64 n → ⊥) → in_64_bits n ≡ Err Range
out_of_range (pos k) h = grind (arith, nat_tests, h)
out_of_range (negsuc k) h = grind (arith, nat_tests, h)

-- ## `int` of a text
abbrev answer : Bool → ℤ → Answer Data
answer b n = elim b [ false ↦ Err ValueError | true ↦ as_answer (in_64_bits n) ]

pub reads : (s : List ℕ) (n : ℤ) → slice_index s 0 ≢ 43 → IsNumeral 10 (without_leading_sign s) × FitsSigned w64 (signed_digits_value 10 s) → n ≡ signed_digits_value 10 s → Gives (Ok (value.Int n)) (as_int (text s))
reads s n plus h e =
    let digits : is_digits (digits_in s) ≡ true = numeral_is (digits_in s) (subst (λ (t : List ℕ). IsNumeral 10 t) (no_sign s plus) h.0) in
    let fits : FitsSigned w64 (read_whole s) = subst (λ (k : ℤ). FitsSigned w64 k) (whole_is s plus) h.1 in
    subst (λ (d : Answer Data). Gives (Ok (value.Int n)) d)
    (sym (ap (λ b. answer b (read_whole s)) digits ∙ ap as_answer (in_range (read_whole s) fits))) (ap integer (e ∙ whole_is s plus))

refused : (s : List ℕ) (b : Bool) → is_digits (digits_in s) ≡ b → (b ≡ true → FitsSigned w64 (read_whole s) → ⊥) → answer b (read_whole s) ≡ Err ValueError
refused s false e h = refl
refused s true e h = ap as_answer (out_of_range (read_whole s) (h refl))

pub reads_none : (s : List ℕ) → slice_index s 0 ≢ 43 → (IsNumeral 10 (without_leading_sign s) × FitsSigned w64 (signed_digits_value 10 s) → ⊥) → Gives (Err (Error ValueError)) (as_int (text s))
reads_none s plus h =
    subst (λ (d : Answer Data). Gives (Err (Error ValueError)) d)
    (sym (refused s (is_digits (digits_in s)) refl (λ digits fits. h (subst (λ (t : List ℕ). IsNumeral 10 t) (sym (no_sign s plus)) (is_numeral (digits_in s) digits), subst (λ (k : ℤ). FitsSigned w64 k) (sym (whole_is s plus)) fits)))) refl
