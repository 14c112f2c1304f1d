-- The proper name of a text is a text.
use Rattle.std.proofs.Common.{◌≡◌, ℕ, suc, ◌<◌, ◌≤◌, Bool, true, false, ◌==◌, List, [], ◌∷◌, ◌++◌, length, get_or, IsUtf8, inl, inr, sym, ap, ap₂, ◌∙◌, subst, arith, append-nil}
use Rattle.std.proofs.lemmas.Bool.{and_parts, cases_lt, ne_eqb}
use Rattle.std.proofs.lemmas.Str.{IsUtf8-append, IsUtf8-nil, IsUtf8-encode, encode_ascii, inside_one, length-encode, len_utf8_bounds}
use Rattle.std.proofs.lemmas.Str.Ascii.{lowercase_ascii, lowercase_is, uppercase_ascii, uppercase_is}
use lib.Utf8.{scalar, scalars, encode, encodes, low_scalar}
use Rattle.wf_value.specs.HttpText.{dash_byte, proper_name}

-- ## Characters past ASCII stay, and none of their bytes is a dash
no_dash : (b : ℕ) → 128 ≤ b → (b == dash_byte) ≡ false
no_dash b high = ne_eqb b dash_byte (λ e. omega arith)

high_byte : (first : Bool) (b : ℕ) (s : List ℕ) → 128 ≤ b → proper_name first (b ∷ s) ≡ b ∷ proper_name false s
high_byte true b s high = ap₂ (λ (x : ℕ) (t : Bool). x ∷ proper_name t s) ((uppercase_is b).2 (omega arith)) (no_dash b high)
high_byte false b s high = ap₂ (λ (x : ℕ) (t : Bool). x ∷ proper_name t s) ((lowercase_is b).2 (omega arith)) (no_dash b high)

abbrev AreHigh : List ℕ → Type 0
AreHigh xs = (k : ℕ) → k < length xs → 128 ≤ get_or xs k 0

high_bytes : (first : Bool) (x : ℕ) (xs s : List ℕ) → AreHigh (x ∷ xs) → proper_name first (x ∷ xs ++ s) ≡ x ∷ xs ++ proper_name false s
high_bytes first x [] s high = high_byte first x s (high 0 (omega arith))
high_bytes first x (y ∷ ys) s high =
    high_byte first x (y ∷ ys ++ s) (high 0 (omega arith))
    ∙ ap (λ l. x ∷ l) (high_bytes false y ys s (λ k below. high (suc k) (omega arith)))

-- ## Each character gives one
abbrev RestIsText : List ℕ → Type 0
RestIsText s = (t : Bool) → IsUtf8 (proper_name t s)

ascii_then : (x : ℕ) (xs : List ℕ) → x < 128 → IsUtf8 xs → IsUtf8 (x ∷ xs)
ascii_then x xs small u = IsUtf8-append (x ∷ []) xs (subst IsUtf8 (encode_ascii x small) (IsUtf8-encode x (low_scalar x (omega arith)))) u

low_char : (first : Bool) (c : ℕ) (s : List ℕ) → c < 128 → RestIsText s → IsUtf8 (proper_name first (c ∷ s))
low_char true c s small rest = ascii_then _ _ (uppercase_ascii c small) (rest (c == dash_byte))
low_char false c s small rest = ascii_then _ _ (lowercase_ascii c small) (rest (c == dash_byte))

high_char : (first : Bool) (xs s : List ℕ) → IsUtf8 xs → AreHigh xs → 0 < length xs → RestIsText s → IsUtf8 (proper_name first (xs ++ s))
high_char first [] s u high some rest = absurd (omega (arith, some))
high_char first (x ∷ xs) s u high some rest = subst IsUtf8 (sym (high_bytes first x xs s high)) (IsUtf8-append (x ∷ xs) _ u (rest false))

are_high : (c : ℕ) → 128 ≤ c → (k : ℕ) → k < length (encode c) → 128 ≤ get_or (encode c) k 0
are_high c big k below = elim (cases_lt (get_or (encode c) k 0) 128) [
  | inl low ↦ absurd (omega (arith, inside_one c [] (encode c) k (sym (append-nil _)) below low))
  | inr h ↦ h
]

one_char : (first : Bool) (c : ℕ) (s : List ℕ) → scalar c ≡ true → RestIsText s → IsUtf8 (proper_name first (encode c ++ s))
one_char first c s ok rest = elim (cases_lt c 128) [
  | inl small ↦ subst (λ (l : List ℕ). IsUtf8 (proper_name first (l ++ s))) (sym (encode_ascii c small)) (low_char first c s small rest)
  | inr big ↦ high_char first (encode c) s (IsUtf8-encode c ok) (are_high c big) (omega (arith, length-encode c, (len_utf8_bounds c).0)) rest
]

all_chars : (cs : List ℕ) → scalars cs ≡ true → (t : Bool) → IsUtf8 (proper_name t (encodes cs))
all_chars [] e true = IsUtf8-nil
all_chars [] e false = IsUtf8-nil
all_chars (c ∷ cs) e t =
    let p = and_parts _ _ e in
    one_char t c (encodes cs) p.0 (all_chars cs p.1)

pub proper_is_text : (s : List ℕ) → IsUtf8 s → IsUtf8 (proper_name true s)
proper_is_text s u = subst (λ (l : List ℕ). IsUtf8 (proper_name true l)) u.1.1 (all_chars u.0 u.1.0 true)
