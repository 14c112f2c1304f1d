-- How lines begin: those of a layout count, and no mark of a document begins with one.
use Rattle.std.proofs.Common.{◌≡◌, ⊎_elim, ℕ, ◌<◌, List, [], ◌∷◌, ◌++◌, take, drop, Bool, true, false, ◌&&◌, ◌||◌, ◌==◌, nat_lt, codes, refl, ap, sym, subst, ◌∙◌, arith}
use Rattle.std.specs.Int.{IsInRange}
use Rattle.std.specs.Str.{encode_utf8_all}
use Rattle.std.specs.Str.Parse.{IsNumeral}
use Rattle.std.proofs.lemmas.Bool.{cases_Bool, and_left, or_from, or_parts, cond-false, ltb-true, ltb-false, true≢false}
use Rattle.std.proofs.lemmas.Bool.Decides.{nat_tests}
use Rattle.std.proofs.lemmas.Str.{encode_ascii}
use Rattle.std.proofs.lemmas.Str.Parse.{digit_from_value}
use Rattle.wf_span.specs.Lines.{spaces}
use Rattle.wf_yaml_line.specs.Marks.{among, is_digit, is_same, starts, is_blank, is_empty, skip_blanks, is_blank_line, ends_word, ends_line, hash, space, tabulator}
use Rattle.wf_yaml.specs.Rows.{starts_tab, is_marked, dashes, dots}
use Rattle.wf_yaml.specs.Starts.{is_item, starts_scalar, has_tab_gap}
use Rattle.wf_yaml_write.specs.Layout.{is_plain, may_start, all_escaped, written_text}
use Rattle.wf_yaml_write.proofs.PlainBack.{none_passes, not_among, plain_facts}
use Rattle.wf_yaml_write.proofs.TextBack.{written_plain, written_quoted}
use Rattle.wf_yaml_write.proofs.NumberBack.{digit_test}

-- a character that begins neither a blank line nor a mark, an item or a block scalar
pub record IsOpening (b : ℕ) : Type 0 where
  pub space : (b == 32) ≡ false
  pub tab : (b == 9) ≡ false
  pub hash : (b == 35) ≡ false
  pub dash : (b == 45) ≡ false
  pub dot : (b == 46) ≡ false
  pub bar : (b == 124) ≡ false
  pub angle : (b == 62) ≡ false
  pub low : b < 128

-- characters that begin a line which counts, without a blank at the front
pub record IsFresh (s : List ℕ) : Type 0 where
  pub counts : is_blank_line s ≡ false
  pub no_tab : starts_tab s ≡ false
  pub no_blank : starts is_blank s ≡ false
  pub no_dashes : is_marked dashes s ≡ false
  pub no_dots : is_marked dots s ≡ false
  pub no_spaces : spaces (encode_utf8_all s) ≡ 0

-- the same, which are neither an item nor a block scalar
pub record IsScalarLine (s : List ℕ) : Type 0 where
  pub fresh : IsFresh s
  pub no_item : is_item s ≡ false
  pub no_block : starts_scalar s ≡ false

-- the characters that don't
abbrev pub no_opening : List ℕ
no_opening = 32 ∷ 9 ∷ 35 ∷ 45 ∷ 46 ∷ 124 ∷ 62 ∷ []

pub opening : (b : ℕ) → among no_opening b ≡ false → b < 128 → IsOpening b
opening b e low =
    let space = or_parts (b == 32) (among (9 ∷ 35 ∷ 45 ∷ 46 ∷ 124 ∷ 62 ∷ []) b) e in
    let tab = or_parts (b == 9) (among (35 ∷ 45 ∷ 46 ∷ 124 ∷ 62 ∷ []) b) space.1 in
    let hash = or_parts (b == 35) (among (45 ∷ 46 ∷ 124 ∷ 62 ∷ []) b) tab.1 in
    let dash = or_parts (b == 45) (among (46 ∷ 124 ∷ 62 ∷ []) b) hash.1 in
    let dot = or_parts (b == 46) (among (124 ∷ 62 ∷ []) b) dash.1 in
    let bar = or_parts (b == 124) (among (62 ∷ []) b) dot.1 in
    let angle = or_parts (b == 62) false bar.1 in
    record { space = space.0; tab = tab.0; hash = hash.0; dash = dash.0; dot = dot.0; bar = bar.0; angle = angle.0; low = low }

-- a character that passes where none of those do
pub opening_by : (p : ℕ → Bool) (b : ℕ) → p b ≡ true → none_passes p no_opening ≡ true → b < 128 → IsOpening b
opening_by p b h k low = opening b (not_among p no_opening b h k) low

-- ---- by the first character

no_spaces_at : (b : ℕ) (r : List ℕ) → b < 128 → (b == 32) ≡ false → spaces (encode_utf8_all (b ∷ r)) ≡ 0
no_spaces_at b r low e = ap (λ l. spaces (l ++ encode_utf8_all r)) (encode_ascii b low) ∙ cond-false (b == 32) _ 0 e

no_blank_line : (b : ℕ) (r : List ℕ) → is_blank b ≡ false → (b == 35) ≡ false → is_blank_line (b ∷ r) ≡ false
no_blank_line b r blank e = ap (λ s. is_empty s || starts (λ c. c == hash) s) (cond-false (is_blank b) (skip_blanks r) (b ∷ r) blank) ∙ e

no_end : (b : ℕ) (r : List ℕ) → is_blank b ≡ false → ends_line (b ∷ r) ≡ false
no_end b r blank =
    or_from (is_empty (skip_blanks (b ∷ r))) (is_blank b && starts (λ c. c == hash) (skip_blanks (b ∷ r))) (ap is_empty (cond-false (is_blank b) (skip_blanks r) (b ∷ r) blank)) (and_left (is_blank b) _ blank)

pub opening_line : (b : ℕ) (r : List ℕ) → IsOpening b → IsScalarLine (b ∷ r)
opening_line b r o =
    let blank : is_blank b ≡ false = or_from (b == space) (b == tabulator) o.space o.tab in
    record {
      fresh = record {
        counts = no_blank_line b r blank o.hash;
        no_tab = o.tab;
        no_blank = blank;
        no_dashes = and_left (is_same (take 3 (b ∷ r)) dashes) (ends_word (drop 3 (b ∷ r))) (and_left (b == 45) (is_same (take 2 r) (codes "--")) o.dash);
        no_dots = and_left (is_same (take 3 (b ∷ r)) dots) (ends_word (drop 3 (b ∷ r))) (and_left (b == 46) (is_same (take 2 r) (codes "..")) o.dot);
        no_spaces = no_spaces_at b r o.low o.space;
      };
      no_item = (λ i. o.dash i && (starts (λ c. c == 32) r || ends_line r));
      no_block = or_from (b == 124) (b == 62) o.bar o.angle;
    }

pub digit_opening : (b : ℕ) → IsInRange 48 57 b → IsOpening b
digit_opening b k = opening_by is_digit b (digit_test b k) refl (omega (arith, k.1))

start_low : (b : ℕ) → may_start b ≡ true → b < 128
start_low b h = ⊎_elim (λ e. ltb-true b 128 e) (λ e. absurd (true≢false (sym h ∙ high b e))) (cases_Bool (nat_lt b 128))
  where
    high : (b : ℕ) → nat_lt b 128 ≡ false → may_start b ≡ false
    high b e = grind (arith, nat_tests, ltb-false b 128 e)

start_opening : (b : ℕ) → may_start b ≡ true → IsOpening b
start_opening b h = opening_by may_start b h refl (start_low b h)

-- ---- each kind of line

plain_start : (s rest : List ℕ) → is_plain s ≡ true → IsScalarLine (s ++ rest)
plain_start [] rest e = absurd (true≢false (sym (plain_facts [] e).start))
plain_start (b ∷ s) rest e = opening_line b (s ++ rest) (start_opening b (plain_facts (b ∷ s) e).start)

-- a written text, behind which more may stand
pub written_start : (s rest : List ℕ) → IsScalarLine (written_text s ++ rest)
written_start s rest = ⊎_elim
    (λ e. subst (λ t. IsScalarLine (t ++ rest)) (sym (written_plain s e)) (plain_start s rest e))
    (λ e. subst (λ t. IsScalarLine (t ++ rest)) (sym (written_quoted s e)) (opening_line 34 ((all_escaped s ++ codes "\"") ++ rest) (opening 34 refl (omega arith))))
    (cases_Bool (is_plain s))

pub numeral_start : (ds : List ℕ) → IsNumeral 10 ds → IsScalarLine ds
numeral_start [] h = absurd (omega (arith, h.0))
numeral_start (b ∷ r) h = opening_line b r (digit_opening b (digit_from_value b h.1.0))

-- `-` before a digit
pub minus_start : (ds : List ℕ) → IsNumeral 10 ds → IsScalarLine (45 ∷ ds)
minus_start [] h = absurd (omega (arith, h.0))
minus_start (b ∷ r) h =
    let o = digit_opening b (digit_from_value b h.1.0) in
    let blank : is_blank b ≡ false = or_from (b == space) (b == tabulator) o.space o.tab in
    record {
      fresh = record {
        counts = refl;
        no_tab = refl;
        no_blank = refl;
        no_dashes = and_left (is_same (take 3 (45 ∷ b ∷ r)) dashes) (ends_word (drop 3 (45 ∷ b ∷ r))) (and_left (b == 45) (is_same (take 1 r) (codes "-")) o.dash);
        no_dots = refl;
        no_spaces = no_spaces_at 45 (b ∷ r) (omega arith) refl;
      };
      no_item = or_from (b == 32) (ends_line (b ∷ r)) o.space (no_end b r blank);
      no_block = refl;
    }

-- an item
pub item_fresh : (s : List ℕ) → IsFresh (codes "- " ++ s)
item_fresh s = record { counts = refl; no_tab = refl; no_blank = refl; no_dashes = refl; no_dots = refl; no_spaces = no_spaces_at 45 (32 ∷ s) (omega arith) refl }

-- ---- blanks before

pub skip_none : (s : List ℕ) → starts is_blank s ≡ false → skip_blanks s ≡ s
skip_none [] h = refl
skip_none (b ∷ r) h = cond-false (is_blank b) (skip_blanks r) (b ∷ r) h

pub gap_none : (s : List ℕ) → starts is_blank s ≡ false → has_tab_gap s ≡ false
gap_none [] h = refl
gap_none (b ∷ r) h =
    let parts = or_parts (b == space) (b == tabulator) h in
    or_from (b == tabulator) (b == space && has_tab_gap r) parts.1 (and_left (b == space) (has_tab_gap r) parts.0)
