-- Digits that are read as a whole number of 64 bits.
use Rattle.std.proofs.Common.{◌≡◌, ◌<◌, ◌^◌, ℕ, ℤ, pos, neg_ℤ, true, cond, List, [], ◌∷◌, drop, if◌then◌else◌, nat_le, ⊎_elim, sym, ap, ◌∙◌, subst, arith, w64}
use Rattle.std.proofs.lemmas.Bool.{cases_lt, ne_eqb, and_parts, true≢false, leb-true, le-ltb}
use Rattle.std.proofs.lemmas.Str.{digit_value_digit}
use Rattle.std.specs.Char.{digit_value}
use Rattle.std.specs.Int.{IsInRange}
use Rattle.std.specs.List.{list_all}
use Rattle.std.specs.Str.Parse.{AllDigits, IsNumeral, digits_value, without_leading_sign, without_leading_plus, signed_digits_value}
use Rattle.wf_expr.specs.Symbols.{digits}
use Rattle.wf_expr.specs.Symbols as s
use Rattle.wf_span.specs.Tokens.{is_token, is_digit}
use Rattle.wf_span.specs.declared.token.TokenKind.TheVariants as token
use mir.Val.{SFits}

in_range : (b : ℕ) → is_digit b ≡ true → IsInRange 48 57 b
in_range b h = let p = and_parts (nat_le 48 b) (nat_le b 57) h in (leb-true 48 b p.0, leb-true b 57 p.1)

below_ten : (b : ℕ) → is_digit b ≡ true → digit_value b < 10
below_ten b h = let k = in_range b h in omega (arith, digit_value_digit b k, k.0, k.1)

all_digits : (l : List ℕ) → list_all is_digit l ≡ true → AllDigits 10 l
all_digits [] h = tt
all_digits (b ∷ l) h = let p = and_parts (is_digit b) (list_all is_digit l) h in (below_ten b p.0, all_digits l p.1)

no_sign : (b : ℕ) (r : List ℕ) → is_digit b ≡ true → without_leading_sign (b ∷ r) ≡ b ∷ r
no_sign b r h =
    let k = in_range b h in
    ap (λ x. cond x (drop 1 (b ∷ r)) (without_leading_plus (b ∷ r))) (ne_eqb b 45 (λ e. omega (arith, k.0)))
    ∙ ap (λ x. drop (cond x 1 0) (b ∷ r)) (ne_eqb b 43 (λ e. omega (arith, k.0)))

no_minus : (b : ℕ) (r : List ℕ) → is_digit b ≡ true → signed_digits_value 10 (b ∷ r) ≡ pos (digits_value 10 (b ∷ r))
no_minus b r h =
    let k = in_range b h in
    ap (λ x. cond x (neg_ℤ (pos (digits_value 10 (without_leading_sign (b ∷ r))))) (pos (digits_value 10 (without_leading_sign (b ∷ r))))) (ne_eqb b 45 (λ e. omega (arith, k.0)))
    ∙ ap (λ l. pos (digits_value 10 l)) (no_sign b r h)

pub number_refused : (text : List ℕ) → is_token token.Number text ≡ true → (IsNumeral 10 (without_leading_sign text) × SFits w64 (signed_digits_value 10 text) → ⊥) → s.decimal ≡ digits text
number_refused [] h never = absurd (true≢false (sym h))
number_refused (b ∷ r) h never =
    let d = (and_parts (is_digit b) (list_all is_digit r) h).0 in
    let n = digits_value 10 (b ∷ r) in
    let numeral : IsNumeral 10 (without_leading_sign (b ∷ r)) = subst (λ (l : List ℕ). IsNumeral 10 l) (sym (no_sign b r d)) (omega arith, all_digits (b ∷ r) h) in
    ⊎_elim
    (λ m. let fits : SFits w64 (pos n) = record { sfits = m } in absurd (never (numeral, subst (λ (x : ℤ). SFits w64 x) (sym (no_minus b r d)) fits)))
    (λ m. sym (ap (λ x. if x then s.number (pos n) else s.decimal) (le-ltb n (2 ^ 63) m)))
    (cases_lt n (2 ^ 63))
