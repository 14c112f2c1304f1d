-- Texts in double quotes are read back.
use Rattle.std.proofs.Common.{◌≡◌, ℕ, ◌/◌, ◌%◌, ◌<◌, List, [], ◌∷◌, ◌++◌, length, append_assoc, Bool, true, false, cond, ◌&&◌, ◌||◌, ◌==◌, nat_lt, nat_le, codes, Some, None, Ok, refl, ap, ◌∙◌, arith}
use Rattle.std.specs.Fmt.{digit_glyph}
use Rattle.std.specs.Str.{encode_utf8_all}
use Rattle.std.proofs.lemmas.Bool.{lt-ltb, ne_eqb}
use Rattle.std.proofs.lemmas.Bool.Decides.{nat_tests}
use Rattle.wf_tree.specs.Trees.{text}
use Rattle.wf_yaml_line.specs.Marks.{double_quote, backslash, colon, ends_word}
use Rattle.wf_yaml_line.specs.Keys.{key_of, quoted_key, key_with}
use Rattle.wf_yaml_flow.specs.Line.{one_line, quoted_tree}
use Rattle.wf_yaml_line.specs.Words.{digit_of, all_digits, number_from}
use Rattle.wf_yaml_line.specs.Quoted.{Quoted, quoted, double, closed, with_char, with_escape, escape, escape_tail, is_character}
use Rattle.wf_yaml_write.proofs.EscapeCases.{by_escape}
use Rattle.wf_yaml_write.specs.Layout.{escaped, all_escaped, hex_digits, in_quotes}

-- ---- hex digits

pub glyph_back : (d : ℕ) → d < 16 → digit_of (digit_glyph false d) ≡ d
glyph_back d h = grind (arith, nat_tests)

hex_number : (c : ℕ) → c < 128 → number_from 16 0 (hex_digits c) ≡ c
hex_number c h =
    let high = glyph_back (c / 16) (omega arith) in
    let low = glyph_back (c % 16) (omega arith) in
    omega (arith, high, low)

hex_tests : (c : ℕ) → c < 128 → (length (hex_digits c) == 2 && all_digits 16 (hex_digits c) && is_character (number_from 16 0 (hex_digits c))) ≡ true
hex_tests c h =
    let high = glyph_back (c / 16) (omega arith) in
    let low = glyph_back (c % 16) (omega arith) in
    let first : nat_lt (digit_of (digit_glyph false (c / 16))) 16 ≡ true = lt-ltb _ 16 (omega (arith, high)) in
    let second : nat_lt (digit_of (digit_glyph false (c % 16))) 16 ≡ true = lt-ltb _ 16 (omega (arith, low)) in
    let character : is_character (number_from 16 0 (hex_digits c)) ≡ true = ap is_character (hex_number c h) ∙ ap (λ t. t || (nat_le 0xE000 c && nat_lt c 0x11_0000)) (lt-ltb c 0xD800 (omega arith)) in
    (λ i. true && (first i && (second i && true)) && character i)

hex_back : (c : ℕ) (r : List ℕ) → c < 128 → escape 120 (hex_digits c ++ r) ≡ Some c
hex_back c r h =
    ap (λ t. cond t (Some (number_from 16 0 (hex_digits c))) None) (hex_tests c h) ∙ ap Some (hex_number c h)

-- ---- one character

own_back : (c : ℕ) (r : List ℕ) → (c == double_quote) ≡ false → (c == backslash) ≡ false → double false 0 (c ∷ r) ≡ with_char c (double false 0 r)
own_back c r q b =
    ap (λ t. cond t (closed r) (cond (c == backslash) (double true 0 r) (with_char c (double false 0 r)))) q
    ∙ ap (λ t. cond t (double true 0 r) (with_char c (double false 0 r))) b

control_back : (c : ℕ) (r : List ℕ) → c < 128 → double false 0 (codes "\\x" ++ hex_digits c ++ r) ≡ with_char c (double false 0 r)
control_back c r h = ap (λ o. with_escape o (double false (escape_tail 120 o) (hex_digits c ++ r))) (hex_back c r h)

-- what a character is read as, behind what stands for it
abbrev IsBack : List ℕ → ℕ → List ℕ → Type 0
IsBack r c escape = double false 0 (escape ++ r) ≡ with_char c (double false 0 r)

char_back : (c : ℕ) (r : List ℕ) → double false 0 (escaped c ++ r) ≡ with_char c (double false 0 r)
char_back c r =
    by_escape (IsBack r) refl refl refl refl refl (λ c h. control_back c r h) (λ c h. own_back c r (ne_eqb c double_quote h.quote) (ne_eqb c backslash h.backslash)) c

-- ---- a text

pub all_back : (s rest : List ℕ) → double false 0 (all_escaped s ++ double_quote ∷ rest) ≡ record { chars = s; rest = Some rest; good = true }
all_back [] rest = refl
all_back (c ∷ s) rest =
    ap (λ t. double false 0 t) (append_assoc (escaped c) (all_escaped s) (double_quote ∷ rest)) ∙ char_back c (all_escaped s ++ double_quote ∷ rest) ∙ ap (with_char c) (all_back s rest)

-- the text in double quotes at the start of another
pub quoted_back : (s rest : List ℕ) → quoted (in_quotes s ++ rest) ≡ record { chars = s; rest = Some rest; good = true }
quoted_back s rest = ap (λ t. double false 0 t) (append_assoc (all_escaped s) (double_quote ∷ []) rest) ∙ all_back s rest

-- by itself on a line
pub quoted_line_back : (delay : Bool) (n d : ℕ) (s : List ℕ) → one_line delay n d (in_quotes s) ≡ Ok (text (encode_utf8_all s))
quoted_line_back delay n d s = ap (λ (q : Quoted). quoted_tree n q q.rest) (all_back s [])

-- as a key
pub quoted_key_back : (s rest : List ℕ) → ends_word rest ≡ true → key_of (in_quotes s ++ colon ∷ rest) ≡ Some (record { text = encode_utf8_all s; fault = None; rest = rest })
quoted_key_back s rest w =
    ap (λ (q : Quoted). quoted_key q q.rest) (quoted_back s (colon ∷ rest))
    ∙ ap (λ t. key_with (record { chars = s; rest = Some (colon ∷ rest); good = true }) (cond t (Some rest) None)) w
