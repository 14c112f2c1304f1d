-- What is laid out as one line is read back.
use Rattle.std.proofs.Common.{◌≡◌, ⊎_elim, ℕ, suc, ◌+◌, ◌≤◌, ◌<◌, List, [], ◌∷◌, Bool, true, false, cond, nat_lt, nat_le, codes, ℤ, pos, negsuc, None, Ok, append-nil, subst, refl, ap, sym, ◌∙◌, arith}
use Rattle.std.specs.Fmt.{signed_decimal, decimal as digits}
use Rattle.std.specs.Str.{encode_utf8_all}
use Rattle.std.specs.Str.Parse.{AllDigits}
use Rattle.std.proofs.lemmas.Bool.{cases_Bool, and_parts, and_from, lt-ltb, le-leb, true≢false}
use Rattle.std.proofs.lemmas.Fmt.{decimal_is_IsNumeral}
use Rattle.std.proofs.lemmas.Str.Parse.{digit_from_value}
use Rattle.wf_tree.specs.Trees.{Tree, null, boolean, integer, decimal, text, list, map, no_items, item, no_pairs, pair, depth}
use Rattle.wf_yaml_line.specs.Marks.{among, is_digit, around_colon}
use Rattle.wf_yaml_line.specs.Keys.{key_of, plain_key, quoted_key}
use Rattle.wf_yaml_flow.specs.Line.{one_line}
use Rattle.wf_yaml_line.specs.Quoted.{Quoted, quoted}
use Rattle.wf_yaml_line.specs.Scalars.{is_delay, may_start_plain}
use Rattle.wf_yaml_line.specs.Words.{digit_of, all_digits}
use Rattle.wf_yaml_write.specs.Layout.{layout, is_plain, in_quotes, written_text}
use Rattle.wf_yaml_write.specs.Back.{Is64, IsOnOneLine, ComesBack}
use Rattle.wf_yaml_write.proofs.Clean.{IsClean, no_control, low_clean, written_clean}
use Rattle.wf_yaml_write.proofs.Fresh.{IsScalarLine, no_opening, opening, opening_line, digit_opening, numeral_start, minus_start, written_start}
use Rattle.wf_yaml_write.proofs.Calm.{IsCalm, no_key_calm, quiet_calm}
use Rattle.wf_yaml_write.proofs.PlainBack.{Opens, plain_facts, plain_opens, plain_calm}
use Rattle.wf_yaml_write.proofs.QuotedBack.{all_back}
use Rattle.wf_yaml_write.proofs.TextBack.{written_plain, written_quoted, text_back, utf8_kept, all_low, low_same}
use Rattle.wf_yaml_write.proofs.NumberBack.{number_back, number_opens, number_quiet, digit_opens}
use Rattle.wf_yaml_write.proofs.DecimalBack.{IsPointed, delay_facts, decimal_back, digit_range, pointed_rest, point_here, fraction_here, low_digit, quiet_pointed, no_length}
use Rattle.wf_yaml_write.proofs.WordsBack.{words_back}

-- ---- no pair

scalar_no_pair : (s : List ℕ) → Opens s → IsCalm false s → key_of s ≡ None
scalar_no_pair s o c =
    ap (λ t. cond t (quoted_key (quoted s) (quoted s).rest) (cond (may_start_plain s) (plain_key (around_colon false s)) None)) o.quote
    ∙ ap (λ t. cond t (plain_key (around_colon false s)) None) o.start
    ∙ ap plain_key (no_key_calm false s c)

plain_no_pair : (s : List ℕ) → is_plain s ≡ true → key_of s ≡ None
plain_no_pair [] e = absurd (true≢false (sym (plain_facts [] e).start))
plain_no_pair (b ∷ r) e = let h = plain_facts (b ∷ r) e in scalar_no_pair (b ∷ r) (plain_opens b r h.start) (plain_calm (b ∷ r) h)

quoted_no_pair : (s : List ℕ) → key_of (in_quotes s) ≡ None
quoted_no_pair s = ap (λ (q : Quoted). quoted_key q q.rest) (all_back s [])

text_no_pair : (s : List ℕ) → key_of (written_text s) ≡ None
text_no_pair s = ⊎_elim (λ e. ap key_of (written_plain s e) ∙ plain_no_pair s e) (λ e. ap key_of (written_quoted s e) ∙ quoted_no_pair s) (cases_Bool (is_plain s))

number_no_pair : (z : ℤ) → Is64 z → key_of (signed_decimal z) ≡ None
number_no_pair z h = scalar_no_pair (signed_decimal z) (number_opens z h) (quiet_calm (signed_decimal z) (number_quiet z h))

decimal_no_pair : (s : List ℕ) → is_delay s ≡ true → key_of s ≡ None
decimal_no_pair [] e = absurd (true≢false (sym e))
decimal_no_pair (b ∷ r) e = by (is_digit b) refl
  where
    by : (t : Bool) → is_digit b ≡ t → key_of (b ∷ r) ≡ None
    by true t = scalar_no_pair (b ∷ r) (digit_opens b r (digit_range b t)) (quiet_calm (b ∷ r) (quiet_pointed (b ∷ r) (delay_facts (b ∷ r) e).pointed))
    by false t = absurd (no_length b r t (delay_facts (b ∷ r) e).some)

-- ---- ASCII

low_digits : (ds : List ℕ) → AllDigits 10 ds → all_low ds ≡ true
low_digits [] d = refl
low_digits (c ∷ cs) d = let k = digit_from_value c d.0 in and_from (nat_lt c 128) (all_low cs) (lt-ltb c 128 (omega (arith, k.1))) (low_digits cs d.1)

low_number : (z : ℤ) → Is64 z → all_low (signed_decimal z) ≡ true
low_number (pos n) h = low_digits (digits n) (decimal_is_IsNumeral n (omega arith)).0.1
low_number (negsuc n) h = low_digits (digits (suc n)) (decimal_is_IsNumeral (suc n) (omega arith)).0.1

low_fraction : (s : List ℕ) → all_digits 10 s ≡ true → all_low s ≡ true
low_fraction [] h = refl
low_fraction (b ∷ r) h =
    let k = and_parts (nat_lt (digit_of b) 10) (all_digits 10 r) h in
    and_from (nat_lt b 128) (all_low r) (lt-ltb b 128 (omega (arith, (digit_range b (low_digit b k.0)).1))) (low_fraction r k.1)

low_pointed : (s : List ℕ) → IsPointed s → all_low s ≡ true
low_pointed [] h = refl
low_pointed (b ∷ r) h = ⊎_elim
    (λ t. and_from (nat_lt b 128) (all_low r) (lt-ltb b 128 (omega (arith, (digit_range b t).1))) (low_pointed r (pointed_rest b r t h)))
    (λ t. and_from (nat_lt b 128) (all_low r) (lt-ltb b 128 (omega (arith, point_here b r t h))) (low_fraction r (fraction_here b r t h)))
    (cases_Bool (is_digit b))

-- ---- no control character, and how they begin

calm_digits : (ds : List ℕ) → AllDigits 10 ds → no_control ds ≡ true
calm_digits [] d = refl
calm_digits (c ∷ cs) d = let k = digit_from_value c d.0 in and_from (nat_le 32 c) (no_control cs) (le-leb 32 c (omega (arith, k.0))) (calm_digits cs d.1)

number_clean : (z : ℤ) → Is64 z → IsClean (signed_decimal z)
number_clean (pos n) h = low_clean (digits n) (low_number (pos n) h) (calm_digits (digits n) (decimal_is_IsNumeral n (omega arith)).0.1)
number_clean (negsuc n) h = low_clean (45 ∷ digits (suc n)) (low_number (negsuc n) h) (calm_digits (digits (suc n)) (decimal_is_IsNumeral (suc n) (omega arith)).0.1)

number_begins : (z : ℤ) → Is64 z → IsScalarLine (signed_decimal z)
number_begins (pos n) h = numeral_start (digits n) (decimal_is_IsNumeral n (omega arith)).0
number_begins (negsuc n) h = minus_start (digits (suc n)) (decimal_is_IsNumeral (suc n) (omega arith)).0

calm_fraction : (s : List ℕ) → all_digits 10 s ≡ true → no_control s ≡ true
calm_fraction [] h = refl
calm_fraction (b ∷ r) h =
    let k = and_parts (nat_lt (digit_of b) 10) (all_digits 10 r) h in
    and_from (nat_le 32 b) (no_control r) (le-leb 32 b (omega (arith, (digit_range b (low_digit b k.0)).0))) (calm_fraction r k.1)

calm_pointed : (s : List ℕ) → IsPointed s → no_control s ≡ true
calm_pointed [] h = refl
calm_pointed (b ∷ r) h = ⊎_elim
    (λ t. and_from (nat_le 32 b) (no_control r) (le-leb 32 b (omega (arith, (digit_range b t).0))) (calm_pointed r (pointed_rest b r t h)))
    (λ t. and_from (nat_le 32 b) (no_control r) (le-leb 32 b (omega (arith, point_here b r t h))) (calm_fraction r (fraction_here b r t h)))
    (cases_Bool (is_digit b))

decimal_begins : (s : List ℕ) → is_delay s ≡ true → IsScalarLine s
decimal_begins [] e = absurd (true≢false (sym e))
decimal_begins (b ∷ r) e = by (is_digit b) refl
  where
    by : (t : Bool) → is_digit b ≡ t → IsScalarLine (b ∷ r)
    by true t = opening_line b r (digit_opening b (digit_range b t))
    by false t = absurd (no_length b r t (delay_facts (b ∷ r) e).some)

-- ---- each tree of one line

-- the line that a tree is, by the characters that it is the UTF-8 of
pub record IsLine (delay : Bool) (t : Tree) : Type 0 where
  pub line : List ℕ
  pub written : layout t ≡ encode_utf8_all line ∷ []
  pub read : (n d : ℕ) → depth t + d ≤ 101 → one_line delay n d line ≡ Ok t
  pub no_pair : key_of line ≡ None
  pub clean : IsClean line
  pub begins : IsScalarLine line

low_line : (s : List ℕ) → all_low s ≡ true → s ∷ [] ≡ encode_utf8_all s ∷ []
low_line s h = ap (λ l. l ∷ []) (sym (low_same s h))

-- a word, which begins with such a character
word_line : (delay : Bool) (t : Tree) (b : ℕ) (r : List ℕ) → layout t ≡ (b ∷ r) ∷ [] → all_low (b ∷ r) ≡ true → no_control (b ∷ r) ≡ true → ((n d : ℕ) → depth t + d ≤ 101 → one_line delay n d (b ∷ r) ≡ Ok t)
    → key_of (b ∷ r) ≡ None → among no_opening b ≡ false → b < 128 → IsLine delay t
word_line delay t b r same low calm read no_pair e o =
    record { line = b ∷ r; written = same ∙ low_line (b ∷ r) low; read = read; no_pair = no_pair; clean = low_clean (b ∷ r) low calm; begins = opening_line b r (opening b e o) }

pub tree_line : (delay : Bool) (t : Tree) → IsOnOneLine delay t → IsLine delay t
tree_line delay null h = word_line delay null 110 (codes "ull") refl refl refl (λ n d k. words_back.null_word delay n d) refl refl (omega arith)
tree_line delay (boolean true) h = word_line delay (boolean true) 116 (codes "rue") refl refl refl (λ n d k. words_back.true_word delay n d) refl refl (omega arith)
tree_line delay (boolean false) h = word_line delay (boolean false) 102 (codes "alse") refl refl refl (λ n d k. words_back.false_word delay n d) refl refl (omega arith)
tree_line delay (integer z) h = record {
  line = signed_decimal z;
  written = low_line (signed_decimal z) (low_number z h);
  read = λ n d k. number_back delay n d z h;
  no_pair = number_no_pair z h;
  clean = number_clean z h;
  begins = number_begins z h;
}
tree_line true (decimal s) h =
    let low = low_pointed s (delay_facts s h.1).pointed in
    record {
      line = s;
      written = low_line s low;
      read = λ n d k. decimal_back n d s h.1 ∙ ap (λ u. Ok (decimal u)) (low_same s low);
      no_pair = decimal_no_pair s h.1;
      clean = low_clean s low (calm_pointed s (delay_facts s h.1).pointed);
      begins = decimal_begins s h.1;
    }
tree_line false (decimal s) h = absurd (true≢false (sym h.0))
tree_line delay (text s) h = record {
  line = written_text h.0;
  written = ap (λ u. written_text u ∷ []) (sym h.1.1) ∙ ap (λ u. u ∷ []) (utf8_kept h.0);
  read = λ n d k. text_back delay n d h.0 ∙ ap (λ u. Ok (text u)) h.1.1;
  no_pair = text_no_pair h.0;
  clean = written_clean h.0 h.1.0;
  begins = subst IsScalarLine (append-nil (written_text h.0)) (written_start h.0 []);
}
tree_line delay (list no_items) h = word_line delay (list no_items) 91 (codes "]") refl refl refl (λ n d k. words_back.empty_list delay n d (omega (arith, k))) refl refl (omega arith)
tree_line delay (list (item t ts)) h = absurd h
tree_line delay (map no_pairs) h = word_line delay (map no_pairs) 123 (codes "}") refl refl refl (λ n d k. words_back.empty_map delay n d (omega (arith, k))) refl refl (omega arith)
tree_line delay (map (pair key t ps)) h = absurd h

-- such a tree nests one level deep at most
one_level : (delay : Bool) (t : Tree) → IsOnOneLine delay t → depth t ≤ 1
one_level delay null h = omega arith
one_level delay (boolean b) h = omega arith
one_level delay (integer z) h = omega arith
one_level delay (decimal s) h = omega arith
one_level delay (text s) h = omega arith
one_level delay (list no_items) h = omega arith
one_level delay (list (item t ts)) h = absurd h
one_level delay (map no_pairs) h = omega arith
one_level delay (map (pair key t ps)) h = absurd h

pub line_back : (delay : Bool) (n d : ℕ) (t : Tree) → d ≤ 100 → IsOnOneLine delay t → ComesBack delay n d t
line_back delay n d t k h =
    let l = tree_line delay t h in
    record { line = l.line; written = l.written; read = l.read n d (omega (arith, k, one_level delay t h)); no_pair = l.no_pair }
