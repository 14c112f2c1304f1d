-- A written text is read back, plain or quoted.
use Rattle.std.proofs.Common.{◌≡◌, ⊎_elim, ℕ, ◌<◌, ◌≤◌, ◌/◌, ◌%◌, List, [], ◌∷◌, ◌++◌, get_or, append_assoc, append-nil, Bool, true, false, ◌&&◌, nat_le, nat_lt, codes, Some, None, Ok, refl, ap, sym, ◌∙◌, arith}
use Rattle.std.specs.Prelude.{if◌then◌else◌}
use Rattle.std.specs.Fmt.{digit_glyph}
use Rattle.std.specs.Char.{encode_utf8}
use Rattle.std.specs.Str.{encode_utf8_all}
use Rattle.std.proofs.lemmas.Bool.{cases_lt, cases_Bool, and_parts, and_from, ltb-true, lt-ltb, leb-true, both_ways}
use Rattle.std.proofs.lemmas.Bool.Decides.{nat_tests}
use Rattle.std.proofs.lemmas.Str.{inside_one, encode_ascii, encodes-append, length-encode, len_utf8_bounds}
use Rattle.wf_tree.specs.Trees.{text}
use Rattle.wf_yaml_line.specs.Marks.{colon, double_quote, ends_word}
use Rattle.wf_yaml_line.specs.Keys.{key_of}
use Rattle.wf_yaml_flow.specs.Line.{one_line}
use Rattle.wf_yaml_write.specs.Layout.{is_plain, is_printable, escaped, all_escaped, hex_digits, in_quotes, written_text}
use Rattle.wf_yaml_write.proofs.Escapes.{IsOwn, own, own_escape, escaped_append}
use Rattle.wf_yaml_write.proofs.EscapeCases.{by_escape}
use Rattle.wf_yaml_write.proofs.PlainBack.{plain_facts, plain_back, plain_key_back}
use Rattle.wf_yaml_write.proofs.QuotedBack.{quoted_line_back, quoted_key_back}

pub written_plain : (s : List ℕ) → is_plain s ≡ true → written_text s ≡ s
written_plain s e = ap (λ t. if t then s else in_quotes s) e

pub written_quoted : (s : List ℕ) → is_plain s ≡ false → written_text s ≡ in_quotes s
written_quoted s e = ap (λ t. if t then s else in_quotes s) e

pub text_back : (delay : Bool) (n d : ℕ) (s : List ℕ) → one_line delay n d (written_text s) ≡ Ok (text (encode_utf8_all s))
text_back delay n d s = ⊎_elim
    (λ e. ap (one_line delay n d) (written_plain s e) ∙ plain_back delay n d s e)
    (λ e. ap (one_line delay n d) (written_quoted s e) ∙ quoted_line_back delay n d s)
    (cases_Bool (is_plain s))

pub key_back : (s rest : List ℕ) → ends_word rest ≡ true → key_of (written_text s ++ codes ":" ++ rest) ≡ Some (record { text = encode_utf8_all s; fault = None; rest = rest })
key_back s rest w = ap key_of (append_assoc (written_text s) (codes ":") rest) ∙ ⊎_elim
    (λ e. ap (λ t. key_of (t ++ colon ∷ rest)) (written_plain s e) ∙ plain_key_back s rest e w)
    (λ e. ap (λ t. key_of (t ++ colon ∷ rest)) (written_quoted s e) ∙ quoted_key_back s rest w)
    (cases_Bool (is_plain s))

-- ---- the characters of what is written

abbrev pub all_low : List ℕ → Bool
all_low [] = true
all_low (b ∷ s) = nat_lt b 128 && all_low s

pub low_same : (s : List ℕ) → all_low s ≡ true → encode_utf8_all s ≡ s
low_same [] h = refl
low_same (b ∷ s) h = let k = and_parts (nat_lt b 128) (all_low s) h in (λ i. encode_ascii b (ltb-true b 128 k.0) i ++ low_same s k.1 i)

printable_low : (b : ℕ) (s : List ℕ) → is_printable (b ∷ s) ≡ true → (b < 128) × (is_printable s ≡ true)
printable_low b s h =
    let k = and_parts (nat_le 0x20 b && nat_le b 0x7E) (is_printable s) h in
    let l = and_parts (nat_le 0x20 b) (nat_le b 0x7E) k.0 in
    (omega (arith, leb-true b 0x7E l.1), k.1)

pub printable_all_low : (s : List ℕ) → is_printable s ≡ true → all_low s ≡ true
printable_all_low [] h = refl
printable_all_low (b ∷ s) h = let k = printable_low b s h in and_from (nat_lt b 128) (all_low s) (lt-ltb b 128 k.0) (printable_all_low s k.1)

first_low : (s : List ℕ) → is_printable s ≡ true → get_or s 0 0 < 128
first_low [] h = omega arith
first_low (b ∷ s) h = (printable_low b s h).0

-- printable bytes are those of as many characters
printable_characters : (s : List ℕ) → is_printable (encode_utf8_all s) ≡ true → all_low s ≡ true
printable_characters [] h = refl
printable_characters (c ∷ s) h = ⊎_elim
    (λ low. let k = printable_low c (encode_utf8_all s) (sym (ap (λ e. is_printable (e ++ encode_utf8_all s)) (encode_ascii c low)) ∙ h) in and_from (nat_lt c 128) (all_low s) (lt-ltb c 128 low) (printable_characters s k.1))
    (λ high. let e : c ≡ get_or (encode_utf8 c ++ encode_utf8_all s) 0 0 = inside_one c (encode_utf8_all s) (encode_utf8 c ++ encode_utf8_all s) 0 refl (omega (arith, length-encode c, (len_utf8_bounds c).0)) (first_low (encode_utf8 c ++ encode_utf8_all s) h) in absurd (omega (arith, e, first_low (encode_utf8 c ++ encode_utf8_all s) h)))
    (cases_lt c 128)

glyph_low : (d : ℕ) → d < 16 → digit_glyph false d < 128
glyph_low d h = grind (arith, nat_tests)

pub low_hex : (c : ℕ) → c < 128 → all_low (codes "\\x" ++ hex_digits c) ≡ true
low_hex c h = (λ i. lt-ltb (digit_glyph false (c / 16)) 128 (glyph_low (c / 16) (omega arith)) i && (lt-ltb (digit_glyph false (c % 16)) 128 (glyph_low (c % 16) (omega arith)) i && true))

low_escape : (c : ℕ) → c < 128 → all_low (escaped c) ≡ true
low_escape = by_escape (λ c e. c < 128 → all_low e ≡ true) (λ h. refl) (λ h. refl) (λ h. refl) (λ h. refl) (λ h. refl) (λ c l h. low_hex c h) (λ c o h. and_from (nat_lt c 128) true (lt-ltb c 128 h) refl)

is_own : (c : ℕ) → 128 ≤ c → IsOwn c
is_own c h = record { quote = λ e. omega arith; backslash = λ e. omega arith; control = omega arith; delete = λ e. omega arith }

utf8_escape : (c : ℕ) → all_escaped (encode_utf8 c) ≡ encode_utf8_all (escaped c)
utf8_escape c = ⊎_elim
    (λ low. ap all_escaped (encode_ascii c low) ∙ append-nil (escaped c) ∙ sym (low_same (escaped c) (low_escape c low)))
    (λ high. own_escape c (is_own c high) ∙ sym (append-nil (encode_utf8 c)) ∙ ap encode_utf8_all (sym (own c (is_own c high))))
    (cases_lt c 128)

utf8_escapes : (s : List ℕ) → all_escaped (encode_utf8_all s) ≡ encode_utf8_all (all_escaped s)
utf8_escapes [] = refl
utf8_escapes (c ∷ s) =
    escaped_append (encode_utf8 c) (encode_utf8_all s) ∙ (λ i. utf8_escape c i ++ utf8_escapes s i) ∙ sym (encodes-append (escaped c) (all_escaped s))

utf8_quotes : (s : List ℕ) → in_quotes (encode_utf8_all s) ≡ encode_utf8_all (in_quotes s)
utf8_quotes s =
    ap (λ r. double_quote ∷ (r ++ double_quote ∷ [])) (utf8_escapes s)
    ∙ (λ i. sym (encode_ascii double_quote (omega arith)) i ++ (encode_utf8_all (all_escaped s) ++ sym (low_same (double_quote ∷ []) refl) i))
    ∙ ap (λ r. encode_utf8 double_quote ++ r) (sym (encodes-append (all_escaped s) (double_quote ∷ [])))

pub utf8_kept : (s : List ℕ) → written_text (encode_utf8_all s) ≡ encode_utf8_all (written_text s)
utf8_kept s = ⊎_elim
    (λ e. let same = low_same s (printable_all_low s (plain_facts s e).printable) in
    ap written_text same ∙ written_plain s e ∙ sym same ∙ ap encode_utf8_all (sym (written_plain s e)))
    (λ e. ⊎_elim
    (λ p. absurd (both_ways (is_plain s) e (ap is_plain (sym (low_same s (printable_characters s (plain_facts (encode_utf8_all s) p).printable))) ∙ p)))
    (λ p. written_quoted (encode_utf8_all s) p ∙ utf8_quotes s ∙ ap encode_utf8_all (sym (written_quoted s e)))
    (cases_Bool (is_plain (encode_utf8_all s))))
    (cases_Bool (is_plain s))
