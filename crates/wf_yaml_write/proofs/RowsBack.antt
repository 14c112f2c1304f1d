-- The rows that the lines of a layout are read as.
use Rattle.std.proofs.Common.{◌≡◌, ℕ, suc, ◌+◌, List, [], ◌∷◌, ◌++◌, map as each, length, drop, Bool, true, false, ◌&&◌, ◌==◌, nat_le, codes, Ok, refl, ap, sym, subst, ◌∙◌, arith}
use Rattle.std.specs.Prelude.{if◌then◌else◌}
use Rattle.std.specs.List.{AllByRecursion, slice_split, onto_first}
use Rattle.std.specs.Str.{encode_utf8_all, chars}
use Rattle.std.proofs.lemmas.Bool.{and_parts, and_right, or_from, ne_eqb, cond-false, leb-true}
use Rattle.std.proofs.lemmas.Str.{chars-encodes, encodes-append}
use Rattle.wf_span.specs.Lines.{placed, spaces, without_return, lines_of, is_newline}
use Rattle.wf_yaml_line.specs.Marks.{among, newline, return_mark, ends_line, is_blank_line}
use Rattle.wf_yaml_line.specs.Fault.{refuse}
use Rattle.wf_yaml_line.specs.declared.fault.Kind.TheVariants as kinds
use Rattle.wf_yaml.specs.Rows.{Row, row, rows, counting, starts_tab, is_marked, dashes, dots, is_any_mark, is_start, is_blank_row, behind_start, before_mark, no_mark, no_lone_return}
use Rattle.wf_yaml_write.specs.Layout.{further_in, text_of_lines}
use Rattle.wf_yaml_write.proofs.Clean.{IsClean, no_control, clean_append, bytes_calm, no_return}
use Rattle.wf_yaml_write.proofs.Fresh.{IsFresh, item_fresh}
use Rattle.wf_yaml_write.proofs.TextBack.{low_same}

-- the row at a number, a column and a text
abbrev pub at : ℕ → ℕ → List ℕ → Row
at number indent text = record { number = number; indent = indent; text = text }

-- the row of line k, which stands at an indentation
abbrev pub line_row : ℕ → ℕ → List ℕ → Row
line_row k n l = at k (n + spaces l) (chars (drop (spaces l) l))

-- the rows of lines that stand at an indentation, of which the first is line k
abbrev pub rows_at : ℕ → ℕ → List (List ℕ) → List Row
rows_at k n [] = []
rows_at k n (l ∷ ls) = line_row k n l ∷ rows_at (suc k) n ls

pub rows_append : (k n : ℕ) (a b : List (List ℕ)) → rows_at k n (a ++ b) ≡ rows_at k n a ++ rows_at (k + length a) n b
rows_append k n [] b = ap (λ j. rows_at j n b) {x = k} {y = k + 0} (omega arith)
rows_append k n (l ∷ a) b =
    let next : suc k + length a ≡ k + suc (length a) = omega arith in
    ap (λ r. line_row k n l ∷ r) (rows_append (suc k) n a b ∙ ap (λ j. rows_at (suc k) n a ++ rows_at j n b) next)

-- lines two columns further in
pub rows_further : (k n : ℕ) (ls : List (List ℕ)) → rows_at k n (further_in ls) ≡ rows_at k (n + 2) ls
rows_further k n [] = refl
rows_further k n (l ∷ ls) =
    let in_two : n + suc (suc (spaces l)) ≡ n + 2 + spaces l = omega arith in
    (λ i. at k (in_two i) (chars (drop (spaces l) l)) ∷ rows_further (suc k) n ls i)

-- ---- lines

-- what holds of each row of a layout
pub record IsSound (s : List ℕ) : Type 0 where
  pub counts : is_blank_line s ≡ false
  pub no_tab : starts_tab s ≡ false
  pub no_dashes : is_marked dashes s ≡ false
  pub no_dots : is_marked dots s ≡ false
  pub no_return : among s return_mark ≡ false

-- and of each line
pub record IsGood (l : List ℕ) : Type 0 where
  pub calm : no_control l ≡ true
  pub sound : IsSound (chars (drop (spaces l) l))

abbrev pub AllGood : List (List ℕ) → Type 0
AllGood ls = AllByRecursion IsGood ls

-- A line, by its characters, has no blank at the front.
pub record IsHead (l s : List ℕ) : Type 0 where
  pub is : l ≡ encode_utf8_all s
  pub clean : IsClean s
  pub fresh : IsFresh s

head_spaces : (l s : List ℕ) → IsHead l s → spaces l ≡ 0
head_spaces l s h = ap spaces h.is ∙ h.fresh.no_spaces

head_text : (l s : List ℕ) → IsHead l s → chars (drop (spaces l) l) ≡ s
head_text l s h = ap (λ k. chars (drop k l)) (head_spaces l s h) ∙ ap chars h.is ∙ chars-encodes s h.clean.scalars

pub head_row : (k n : ℕ) (l s : List ℕ) → IsHead l s → line_row k n l ≡ at k n s
head_row k n l s h =
    let column : n + spaces l ≡ n = omega (arith, head_spaces l s h) in
    (λ i. at k (column i) (head_text l s h i))

pub head_good : (l s : List ℕ) → IsHead l s → IsGood l
head_good l s h = record {
  calm = ap no_control h.is ∙ bytes_calm s h.clean.calm;
  sound = subst IsSound (sym (head_text l s h)) (record { counts = h.fresh.counts; no_tab = h.fresh.no_tab; no_dashes = h.fresh.no_dashes; no_dots = h.fresh.no_dots; no_return = no_return s h.clean.calm });
}

-- an item's first line
pub item_head : (l s : List ℕ) → IsHead l s → IsHead (codes "- " ++ l) (codes "- " ++ s)
item_head l s h = record {
  is = (λ i. sym (low_same (codes "- ") refl) i ++ h.is i) ∙ sym (encodes-append (codes "- ") s);
  clean = clean_append (codes "- ") s (record { scalars = refl; calm = refl }) h.clean;
  fresh = item_fresh s;
}

pub good_further : (ls : List (List ℕ)) → AllGood ls → AllGood (further_in ls)
good_further [] h = tt
good_further (l ∷ ls) h = (record { calm = h.0.calm; sound = h.0.sound }, good_further ls h.1)

pub good_append : (a b : List (List ℕ)) → AllGood a → AllGood b → AllGood (a ++ b)
good_append [] b h k = k
good_append (l ∷ a) b h k = (h.0, good_append a b h.1 k)

-- ---- the lines of a source

split_line : (l rest : List ℕ) → no_control l ≡ true → slice_split is_newline (l ++ newline ∷ rest) ≡ l ∷ slice_split is_newline rest
split_line [] rest h = refl
split_line (b ∷ l) rest h =
    let p = and_parts (nat_le 32 b) (no_control l) h in
    cond-false (b == 10) ([] ∷ slice_split is_newline (l ++ newline ∷ rest)) _ (ne_eqb b 10 (λ e. omega (arith, e, leb-true 32 b p.0))) ∙ ap (onto_first b) (split_line l rest p.1)

-- the lines, and an empty part behind the last line end
abbrev parts : List (List ℕ) → List (List ℕ)
parts [] = [] ∷ []
parts (l ∷ ls) = l ∷ parts ls

split_lines : (ls : List (List ℕ)) → AllGood ls → slice_split is_newline (text_of_lines ls) ≡ parts ls
split_lines [] h = refl
split_lines (l ∷ ls) h = split_line l (text_of_lines ls) h.0.calm ∙ ap (λ r. l ∷ r) (split_lines ls h.1)

whole_line : (l : List ℕ) → no_control l ≡ true → without_return l ≡ l
whole_line [] h = refl
whole_line (b ∷ []) h =
    let p = and_parts (nat_le 32 b) true h in
    ap (λ t. if t then [] else b ∷ []) (ne_eqb b 13 (λ e. omega (arith, e, leb-true 32 b p.0)))
whole_line (b ∷ c ∷ l) h = ap (λ r. b ∷ r) (whole_line (c ∷ l) (and_parts (nat_le 32 b) (no_control (c ∷ l)) h).1)

placed_row : (k at : ℕ) (l : List ℕ) → no_control l ≡ true → row (placed k at (without_return l)) ≡ line_row k 0 l
placed_row k at l h =
    let column : spaces l ≡ 0 + spaces l = omega arith in
    ap (λ s. row (placed k at s)) (whole_line l h) ∙ (λ i. record { number = k; indent = column i; text = chars (drop (spaces l) l) })

lines_rows : (k at : ℕ) (ls : List (List ℕ)) → AllGood ls → each row (lines_of k at (parts ls)) ≡ rows_at k 0 ls
lines_rows k at [] h = refl
lines_rows k at (l ∷ []) h = ap (λ r. r ∷ []) (placed_row k at l h.0.calm)
lines_rows k at (l ∷ m ∷ ls) h = (λ i. placed_row k at l h.0.calm i ∷ lines_rows (suc k) (at + (length l + 1)) (m ∷ ls) h.1 i)

-- the rows of a text of lines
pub text_rows : (ls : List (List ℕ)) → AllGood ls → rows (text_of_lines ls) ≡ rows_at 1 0 ls
text_rows ls h = ap (λ ps. each row (lines_of 1 0 ps)) (split_lines ls h) ∙ lines_rows 1 0 ls h

-- ---- the document

pub all_count : (k n : ℕ) (ls : List (List ℕ)) → AllGood ls → counting (rows_at k n ls) ≡ rows_at k n ls
all_count k n [] h = refl
all_count k n (l ∷ ls) h = cond-false (is_blank_row (line_row k n l)) (counting (rows_at (suc k) n ls)) (rows_at k n (l ∷ ls)) h.0.sound.counts

no_middle : (a b c : Bool) → b ≡ false → (a && b && c) ≡ false
no_middle true b c e = ap (λ t. t && c) e
no_middle false b c e = refl

pub no_start : (k n : ℕ) (ls : List (List ℕ)) → AllGood ls → behind_start (rows_at k n ls) ≡ rows_at k n ls
no_start k n [] h = refl
no_start k n (l ∷ ls) h =
    let r = line_row k n l in
    cond-false (is_start r) (rows_at (suc k) n ls) (rows_at k n (l ∷ ls)) (no_middle (r.indent == 0) (is_marked dashes r.text) (ends_line (drop 3 r.text)) h.0.sound.no_dashes)

unmarked : (k n : ℕ) (l : List ℕ) → IsGood l → is_any_mark (line_row k n l) ≡ false
unmarked k n l h = and_right ((line_row k n l).indent == 0) _ (or_from _ _ h.sound.no_dashes h.sound.no_dots)

pub all_before : (k n : ℕ) (ls : List (List ℕ)) → AllGood ls → before_mark (rows_at k n ls) ≡ rows_at k n ls
all_before k n [] h = refl
all_before k n (l ∷ ls) h = cond-false (is_any_mark (line_row k n l)) [] _ (unmarked k n l h.0) ∙ ap (λ r. line_row k n l ∷ r) (all_before (suc k) n ls h.1)

pub all_unmarked : (k n : ℕ) (ls : List (List ℕ)) → AllGood ls → no_mark (rows_at k n ls) ≡ Ok tt
all_unmarked k n [] h = refl
all_unmarked k n (l ∷ ls) h = cond-false (is_any_mark (line_row k n l)) (refuse k kinds.Unsupported) _ (unmarked k n l h.0) ∙ all_unmarked (suc k) n ls h.1

pub none_lone : (k n : ℕ) (ls : List (List ℕ)) → AllGood ls → no_lone_return (rows_at k n ls) ≡ Ok tt
none_lone k n [] h = refl
none_lone k n (l ∷ ls) h = cond-false (among (line_row k n l).text return_mark) (refuse k kinds.Unsupported) _ h.0.sound.no_return ∙ none_lone (suc k) n ls h.1
