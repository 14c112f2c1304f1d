-- The characters that tokens begin with.
use Rattle.std.proofs.Common.{◌≡◌, ℕ, ◌<◌, List, [], ◌∷◌, Bool, true, false, ◌||◌, ◌==◌, refl, sym, ap, ◌∙◌, arith, codes}
use Rattle.std.specs.List.{list_any}
use Rattle.std.proofs.lemmas.Bool.{eqb-true}
use Rattle.wf_lemmas.proofs.Bools.{clash, or_left, or_right}
use Rattle.wf_span.specs.Tokens.{is_blank, is_digit, is_letter, is_name_byte, is_quote, is_mark_byte, is_mark_pair}

-- ## Small facts

abbrev pub first : List ℕ → ℕ
first [] = 0
first (x ∷ r) = x

-- what passes stands in no list of which none passes
pub not_in : (p : ℕ → Bool) (c : ℕ) (ms : List ℕ) → p c ≡ true → list_any p ms ≡ false → list_any (λ m. c == m) ms ≡ false
not_in p c [] h none = refl
not_in p c (m ∷ ms) h none = go (c == m) refl (not_in p c ms h (or_right (p m) (list_any p ms) none))
  where
    go : (t : Bool) → (c == m) ≡ t → list_any (λ m. c == m) ms ≡ false → (t || list_any (λ m. c == m) ms) ≡ false
    go true e k = absurd (clash (p m) (or_left (p m) (list_any p ms) none) (ap p (sym (eqb-true c m e)) ∙ h))
    go false e k = k

-- ## The classes of first characters

pub quote_no_digit : (c : ℕ) → is_quote c ≡ true → is_digit c ≡ false
quote_no_digit c h = grind arith

pub quote_no_letter : (c : ℕ) → is_quote c ≡ true → is_letter c ≡ false
quote_no_letter c h = grind arith

pub digit_no_letter : (c : ℕ) → is_digit c ≡ true → is_letter c ≡ false
digit_no_letter c h = grind arith

abbrev pub marks : List ℕ
marks = codes "+-*/%<>.[](),"

pub quote_no_mark : (c : ℕ) → is_quote c ≡ true → is_mark_byte c ≡ false
quote_no_mark c h = not_in is_quote c marks h refl

pub digit_no_mark : (c : ℕ) → is_digit c ≡ true → is_mark_byte c ≡ false
digit_no_mark c h = not_in is_digit c marks h refl

pub letter_no_mark : (c : ℕ) → is_letter c ≡ true → is_mark_byte c ≡ false
letter_no_mark c h = not_in is_letter c marks h refl

pub quote_no_pair : (c d : ℕ) → is_quote c ≡ true → is_mark_pair c d ≡ false
quote_no_pair c d h = grind arith

pub digit_no_pair : (c d : ℕ) → is_digit c ≡ true → is_mark_pair c d ≡ false
digit_no_pair c d h = grind arith

pub letter_no_pair : (c d : ℕ) → is_letter c ≡ true → is_mark_pair c d ≡ false
letter_no_pair c d h = grind arith

pub quote_no_slash : (c : ℕ) → is_quote c ≡ true → (c == 92) ≡ false
quote_no_slash c h = grind arith

pub quote_ascii : (c : ℕ) → is_quote c ≡ true → c < 128
quote_ascii c h = grind arith

pub blank_ascii : (c : ℕ) → is_blank c ≡ true → c < 128
blank_ascii c h = grind arith

pub digit_ascii : (c : ℕ) → is_digit c ≡ true → c < 128
digit_ascii c h = grind arith

pub letter_ascii : (c : ℕ) → is_letter c ≡ true → c < 128
letter_ascii c h = grind arith

pub name_ascii : (c : ℕ) → is_name_byte c ≡ true → c < 128
name_ascii c h = grind arith

pub mark_ascii : (c : ℕ) → is_mark_byte c ≡ true → c < 128
mark_ascii c h = grind arith

pub pair_ascii : (c d : ℕ) → is_mark_pair c d ≡ true → d < 128
pair_ascii c d h = grind arith

pub same_self : (c : ℕ) → (c == c) ≡ true
same_self c = grind arith
