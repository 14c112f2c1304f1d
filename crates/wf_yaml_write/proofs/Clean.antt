-- What is written holds no control character, so neither a line end nor a tab.
use Rattle.std.proofs.Common.{◌≡◌, ⊎_elim, ℕ, suc, ◌<◌, ◌≤◌, ◌/◌, ◌%◌, List, [], ◌∷◌, ◌++◌, length, get_or, Bool, true, false, ◌&&◌, ◌==◌, nat_le, nat_lt, codes, refl, ap, sym, subst, ◌∙◌, arith}
use Rattle.std.specs.Fmt.{digit_glyph}
use Rattle.std.specs.Char.{encode_utf8}
use Rattle.std.specs.Str.{encode_utf8_all, all_scalars}
use Rattle.std.proofs.lemmas.Bool.{cases_lt, cases_Bool, and_parts, and_from, or_from, ltb-true, leb-true, le-leb, ne_eqb}
use Rattle.std.proofs.lemmas.Bool.Decides.{nat_tests}
use Rattle.std.proofs.lemmas.Str.{encode_ascii}
use Rattle.wf_lemmas.proofs.Texts.{high_bytes}
use Rattle.wf_yaml_line.specs.Marks.{among, return_mark}
use Rattle.wf_yaml_write.specs.Layout.{is_plain, is_printable, escaped, all_escaped, hex_digits, in_quotes, written_text}
use Rattle.wf_yaml_write.proofs.EscapeCases.{by_escape}
use Rattle.wf_yaml_write.proofs.PlainBack.{plain_facts}
use Rattle.wf_yaml_write.proofs.TextBack.{written_plain, written_quoted, all_low, low_hex, printable_all_low}

-- no control character of ASCII below the space
abbrev pub no_control : List ℕ → Bool
no_control [] = true
no_control (b ∷ s) = nat_le 32 b && no_control s

-- characters, and no such one among them
pub record IsClean (s : List ℕ) : Type 0 where
  pub scalars : all_scalars s ≡ true
  pub calm : no_control s ≡ true

-- ---- parts

pub calm_append : (s t : List ℕ) → no_control s ≡ true → no_control t ≡ true → no_control (s ++ t) ≡ true
calm_append [] t h k = k
calm_append (b ∷ s) t h k = let p = and_parts (nat_le 32 b) (no_control s) h in and_from (nat_le 32 b) (no_control (s ++ t)) p.0 (calm_append s t p.1 k)

scalars_append : (s t : List ℕ) → all_scalars s ≡ true → all_scalars t ≡ true → all_scalars (s ++ t) ≡ true
scalars_append [] t h k = k
scalars_append (c ∷ s) t h k = let p = and_parts _ (all_scalars s) h in and_from _ (all_scalars (s ++ t)) p.0 (scalars_append s t p.1 k)

pub clean_append : (s t : List ℕ) → IsClean s → IsClean t → IsClean (s ++ t)
clean_append s t h k = record { scalars = scalars_append s t h.scalars k.scalars; calm = calm_append s t h.calm k.calm }

low_scalar : (b : ℕ) → b < 128 → all_scalars (b ∷ []) ≡ true
low_scalar b h = grind (arith, nat_tests)

low_scalars : (s : List ℕ) → all_low s ≡ true → all_scalars s ≡ true
low_scalars [] h = refl
low_scalars (b ∷ s) h = let k = and_parts (nat_lt b 128) (all_low s) h in scalars_append (b ∷ []) s (low_scalar b (ltb-true b 128 k.0)) (low_scalars s k.1)

-- ASCII
pub low_clean : (s : List ℕ) → all_low s ≡ true → no_control s ≡ true → IsClean s
low_clean s h k = record { scalars = low_scalars s h; calm = k }

-- ---- texts

glyph_calm : (d : ℕ) → d < 16 → 32 ≤ digit_glyph false d
glyph_calm d h = grind (arith, nat_tests)

hex_calm : (c : ℕ) → c < 128 → no_control (codes "\\x" ++ hex_digits c) ≡ true
hex_calm c h = (λ i. le-leb 32 (digit_glyph false (c / 16)) (glyph_calm (c / 16) (omega arith)) i && (le-leb 32 (digit_glyph false (c % 16)) (glyph_calm (c % 16) (omega arith)) i && true))

short : (s : List ℕ) → all_scalars s ≡ true → no_control s ≡ true → IsClean s
short s h k = record { scalars = h; calm = k }

escape_clean : (c : ℕ) → all_scalars (c ∷ []) ≡ true → IsClean (escaped c)
escape_clean =
    by_escape (λ c e. all_scalars (c ∷ []) ≡ true → IsClean e) (λ h. short (codes "\\\"") refl refl) (λ h. short (codes "\\\\") refl refl) (λ h. short (codes "\\n") refl refl) (λ h. short (codes "\\r") refl refl) (λ h. short (codes "\\t") refl refl)
    (λ c l h. low_clean (codes "\\x" ++ hex_digits c) (low_hex c l) (hex_calm c l)) (λ c o h. short (c ∷ []) h (and_from (nat_le 32 c) true (le-leb 32 c o.control) refl))

escapes_clean : (s : List ℕ) → all_scalars s ≡ true → IsClean (all_escaped s)
escapes_clean [] h = short [] refl refl
escapes_clean (c ∷ s) h =
    let p = and_parts _ (all_scalars s) h in
    clean_append (escaped c) (all_escaped s) (escape_clean c (and_from _ true p.0 refl)) (escapes_clean s p.1)

quotes_clean : (s : List ℕ) → all_scalars s ≡ true → IsClean (in_quotes s)
quotes_clean s h = clean_append (codes "\"") (all_escaped s ++ codes "\"") (short (codes "\"") refl refl) (clean_append (all_escaped s) (codes "\"") (escapes_clean s h) (short (codes "\"") refl refl))

printable_calm : (s : List ℕ) → is_printable s ≡ true → no_control s ≡ true
printable_calm [] h = refl
printable_calm (b ∷ s) h =
    let k = and_parts (nat_le 0x20 b && nat_le b 0x7E) (is_printable s) h in
    and_from (nat_le 32 b) (no_control s) (and_parts (nat_le 0x20 b) (nat_le b 0x7E) k.0).0 (printable_calm s k.1)

-- a written text
pub written_clean : (s : List ℕ) → all_scalars s ≡ true → IsClean (written_text s)
written_clean s h = ⊎_elim
    (λ e. let p = (plain_facts s e).printable in subst IsClean (sym (written_plain s e)) (low_clean s (printable_all_low s p) (printable_calm s p)))
    (λ e. subst IsClean (sym (written_quoted s e)) (quotes_clean s h))
    (cases_Bool (is_plain s))

-- ---- bytes

high_calm : (l : List ℕ) → ((k : ℕ) → k < length l → 128 ≤ get_or l k 0) → no_control l ≡ true
high_calm [] h = refl
high_calm (b ∷ l) h =
    let first : 128 ≤ b = h 0 (omega arith) in
    and_from (nat_le 32 b) (no_control l) (le-leb 32 b (omega arith)) (high_calm l (λ k a. h (suc k) (omega arith)))

char_calm : (c : ℕ) → nat_le 32 c ≡ true → no_control (encode_utf8 c) ≡ true
char_calm c h = ⊎_elim
    (λ low. ap no_control (encode_ascii c low) ∙ and_from (nat_le 32 c) true h refl)
    (λ m. high_calm (encode_utf8 c) (λ k l. high_bytes c m k l (cases_lt (get_or (encode_utf8 c) k 0) 128)))
    (cases_lt c 128)

-- the bytes of such characters
pub bytes_calm : (s : List ℕ) → no_control s ≡ true → no_control (encode_utf8_all s) ≡ true
bytes_calm [] h = refl
bytes_calm (c ∷ s) h = let p = and_parts (nat_le 32 c) (no_control s) h in calm_append (encode_utf8 c) (encode_utf8_all s) (char_calm c p.0) (bytes_calm s p.1)

-- ---- no CR

pub no_return : (s : List ℕ) → no_control s ≡ true → among s return_mark ≡ false
no_return [] h = refl
no_return (b ∷ s) h =
    let p = and_parts (nat_le 32 b) (no_control s) h in
    or_from (return_mark == b) (among s return_mark) (ne_eqb return_mark b (λ e. omega (arith, e, leb-true 32 b p.0))) (no_return s p.1)
