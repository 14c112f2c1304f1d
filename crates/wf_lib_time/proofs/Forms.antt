-- Texts of a fixed form, and the numbers in them.
use Rattle.std.proofs.Common.{◌≡◌, ℕ, zero, suc, ◌+◌, ◌-◌, ◌*◌, ◌<◌, ◌≤◌, true, false, ◌&&◌, [], ◌∷◌, length, get_or, take, drop, refl, ap, subst, ◌∙◌, arith}
use Rattle.std.specs.Prelude.{nat_le}
use Rattle.std.specs.Char.{digit_value, is_ascii_digit}
use Rattle.std.specs.Str.Parse.{digits_value}
use Rattle.std.proofs.lemmas.Bool.{and_parts, and_right, false≢true, leb-true}
use Rattle.std.proofs.lemmas.Str.{digit_value_digit}
use Rattle.wf_value.specs.LibTime.{has_form, number_at}
use Rattle.wf_value.specs.Pairs.{Text}
use Rattle.wf_lib_time.specs.Moments.{HasTwoDigits, fits}

-- ## Forms
pub form_length : (f s : Text) → has_form f s ≡ true → length f ≡ length s
form_length [] [] h = refl
form_length [] (b ∷ s) h = absurd (false≢true h)
form_length (x ∷ f) [] h = absurd (false≢true h)
form_length (x ∷ f) (b ∷ s) h = omega (arith, form_length f s (and_parts (fits x b) (has_form f s) h).1)

digit_if : (x b : ℕ) → fits x b ≡ true → x ≡ 100 → is_ascii_digit b ≡ true
digit_if x b h e = subst (λ (y : ℕ). fits y b ≡ true) e h

form_digit : (f s : Text) (k : ℕ) → has_form f s ≡ true → get_or f k 0 ≡ 100 → is_ascii_digit (get_or s k 0) ≡ true
form_digit [] s k h e = cc
form_digit (x ∷ f) [] k h e = absurd (false≢true h)
form_digit (x ∷ f) (b ∷ s) zero h e = digit_if x b (and_parts (fits x b) (has_form f s) h).0 e
form_digit (x ∷ f) (b ∷ s) (suc k) h e = form_digit f s k (and_parts (fits x b) (has_form f s) h).1 e

pub two_of : (f s : Text) (at : ℕ) → has_form f s ≡ true → at + 1 < length f → get_or f at 0 ≡ 100 → get_or f (at + 1) 0 ≡ 100 → HasTwoDigits s at
two_of f s at h within tens ones =
    (omega (arith, within, form_length f s h), form_digit f s at h tens, form_digit f s (at + 1) h ones)

-- a text too short for a form
pub too_short : (f s : Text) → length s < length f → has_form f s ≡ false
too_short [] s h = absurd (omega (arith, h))
too_short (x ∷ f) [] h = refl
too_short (x ∷ f) (b ∷ s) h = ap (λ t. fits x b && t) (too_short f s (omega (arith, h))) ∙ and_right (fits x b) false refl

-- ## Numbers
front_two : (s : Text) (at : ℕ) → suc at < length s → take 2 (drop at s) ≡ get_or s at 0 ∷ get_or s (suc at) 0 ∷ []
front_two [] at h = absurd (omega (arith, h))
front_two (a ∷ []) zero h = absurd (omega (arith, h))
front_two (a ∷ b ∷ s) zero h = refl
front_two (a ∷ s) (suc at) h = front_two s at (omega (arith, h))

digit_is : (c : ℕ) → is_ascii_digit c ≡ true → (digit_value c + 48 ≡ c) × (48 ≤ c) × (c ≤ 57)
digit_is c h =
    let parts = and_parts (nat_le 48 c) (nat_le c 57) h in
    let low = leb-true 48 c parts.0 in
    let high = leb-true c 57 parts.1 in
    (digit_value_digit c (low, high), low, high)

-- the bytes of two digits, and their number
pub two_value : (s : Text) (at : ℕ) → HasTwoDigits s at → (48 ≤ get_or s at 0) × (get_or s at 0 ≤ 57) × (48 ≤ get_or s (at + 1) 0) × (get_or s (at + 1) 0 ≤ 57) × ((get_or s at 0 - 48) * 10 + (get_or s (at + 1) 0 - 48) ≡ number_at at (at + 2) s)
two_value s at h =
    let tens = digit_is (get_or s at 0) h.1 in
    let ones = digit_is (get_or s (at + 1) 0) h.2 in
    let two : at + 2 - at ≡ 2 = omega arith in
    let next : suc at ≡ at + 1 = omega arith in
    let same : number_at at (at + 2) s ≡ digits_value 10 (get_or s at 0 ∷ get_or s (at + 1) 0 ∷ []) =
    ap (λ n. digits_value 10 (take n (drop at s))) two ∙ ap (λ l. digits_value 10 l) (front_two s at (omega (arith, h.0)) ∙ ap (λ k. get_or s at 0 ∷ get_or s k 0 ∷ []) next) in
    (tens.1, tens.2, ones.1, ones.2, omega (arith, same, tens, ones))

pub year_number : (s : Text) → 3 < length s → number_at 0 2 s * 100 + number_at 2 4 s ≡ number_at 0 4 s
year_number [] h = absurd (omega (arith, h))
year_number (a ∷ []) h = absurd (omega (arith, h))
year_number (a ∷ b ∷ []) h = absurd (omega (arith, h))
year_number (a ∷ b ∷ c ∷ []) h = absurd (omega (arith, h))
year_number (a ∷ b ∷ c ∷ d ∷ s) h = omega arith
