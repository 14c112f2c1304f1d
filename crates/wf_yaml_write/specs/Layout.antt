-- The layout that a tree is written in: its lines.
use Rattle.std.specs.Prelude.{ℕ, ◌/◌, ◌%◌, List, [], ◌∷◌, ◌++◌, map as each, Bool, true, false, if◌then◌else◌, not, ◌&&◌, ◌||◌, ◌==◌, nat_le, nat_lt, codes}
use Rattle.std.specs.Fmt.{signed_decimal, digit_glyph}
use Rattle.wf_tree.specs.Trees.{Tree, null, boolean, integer, decimal, text, list, map, Items, no_items, item, Pairs, no_pairs, pair}
use Rattle.wf_yaml_line.specs.Marks.{starts, space, hash, colon, dollar, double_quote, backslash, newline, return_mark, tabulator}
use Rattle.wf_yaml_line.specs.Words.{plain_kind}
use Rattle.wf_yaml_line.specs.declared.scalars.Plain.{Plain}
use Rattle.wf_yaml_line.specs.declared.scalars.Plain.TheVariants as kind

-- ---- texts

-- the bytes 0x20 to 0x7E alone
abbrev pub is_printable : List ℕ → Bool
is_printable [] = true
is_printable (b ∷ s) = nat_le 0x20 b && nat_le b 0x7E && is_printable s

-- a letter, `_` or `$`
abbrev pub may_start : ℕ → Bool
may_start b = (nat_le 97 b && nat_le b 122) || (nat_le 65 b && nat_le b 90) || b == 95 || b == dollar

-- ends with a space or `:`, or holds `: ` or ` #`
abbrev pub has_mark : List ℕ → Bool
has_mark [] = false
has_mark (b ∷ []) = b == space || b == colon
has_mark (b ∷ c ∷ s) = (b == colon && c == space) || (b == space && c == hash) || has_mark (c ∷ s)

abbrev pub is_text : Plain → Bool
is_text kind.Null = false
is_text (kind.Truth b) = false
is_text (kind.Whole n) = false
is_text kind.Decimal = false
is_text kind.Text = true

-- A text is plain where it has only such bytes and such a start, no such mark, and is, read as a
-- plain scalar, a text.
abbrev pub is_plain : List ℕ → Bool
is_plain s = is_printable s && starts may_start s && not (has_mark s) && is_text (plain_kind s)

-- two hex digits in lower case
abbrev pub hex_digits : ℕ → List ℕ
hex_digits b = digit_glyph false (b / 16) ∷ digit_glyph false (b % 16) ∷ []

-- a byte in double quotes: `\"`, `\\`, `\n`, `\r`, `\t`, `\xHH` or itself
abbrev pub escaped : ℕ → List ℕ
escaped b =
    if b == double_quote then codes "\\\""
    else if b == backslash then codes "\\\\"
    else if b == newline then codes "\\n"
    else if b == return_mark then codes "\\r"
    else if b == tabulator then codes "\\t"
    else if nat_lt b 0x20 || b == 0x7F then codes "\\x" ++ hex_digits b
    else b ∷ []

abbrev pub all_escaped : List ℕ → List ℕ
all_escaped [] = []
all_escaped (b ∷ s) = escaped b ++ all_escaped s

abbrev pub in_quotes : List ℕ → List ℕ
in_quotes s = codes "\"" ++ all_escaped s ++ codes "\""

-- a text or a key: plain where it may be, else in double quotes
abbrev pub written_text : List ℕ → List ℕ
written_text s = if is_plain s then s else in_quotes s

-- ---- lines

-- a text in front of the first line
abbrev pub in_front : List ℕ → List (List ℕ) → List (List ℕ)
in_front s [] = s ∷ []
in_front s (first ∷ others) = (s ++ first) ∷ others

-- lines that stand two columns further in
abbrev pub further_in : List (List ℕ) → List (List ℕ)
further_in lines = each (λ line. codes "  " ++ line) lines

-- an item: its lines stand two columns further in, the first one behind `- `
abbrev pub as_item : List (List ℕ) → List (List ℕ)
as_item [] = []
as_item (first ∷ others) = (codes "- " ++ first) ∷ further_in others

-- what takes lines of its own: a list or a map that isn't empty
abbrev pub is_block : Tree → Bool
is_block null = false
is_block (boolean b) = false
is_block (integer n) = false
is_block (decimal s) = false
is_block (text s) = false
is_block (list no_items) = false
is_block (list (item t ts)) = true
is_block (map no_pairs) = false
is_block (map (pair k t ps)) = true

-- a pair: a block stands below its key, two columns further in, and anything else behind it
abbrev pub as_pair : List ℕ → Bool → List (List ℕ) → List (List ℕ)
as_pair key block lines =
    if block then (written_text key ++ codes ":") ∷ further_in lines
    else in_front (written_text key ++ codes ": ") lines

-- the lines of a tree, of the items of a list and of the pairs of a map
abbrev mutual
  pub layout : Tree → List (List ℕ)
  layout null = codes "null" ∷ []
  layout (boolean b) = (if b then codes "true" else codes "false") ∷ []
  layout (integer n) = signed_decimal n ∷ []
  layout (decimal s) = s ∷ []
  layout (text s) = written_text s ∷ []
  layout (list no_items) = codes "[]" ∷ []
  layout (list (item t ts)) = as_item (layout t) ++ items_layout ts
  layout (map no_pairs) = codes "{}" ∷ []
  layout (map (pair k t ps)) = as_pair k (is_block t) (layout t) ++ pairs_layout ps

  pub items_layout : Items → List (List ℕ)
  items_layout no_items = []
  items_layout (item t ts) = as_item (layout t) ++ items_layout ts

  pub pairs_layout : Pairs → List (List ℕ)
  pairs_layout no_pairs = []
  pairs_layout (pair k t ps) = as_pair k (is_block t) (layout t) ++ pairs_layout ps

-- lines as a text, each of them ended by a line feed
abbrev pub text_of_lines : List (List ℕ) → List ℕ
text_of_lines [] = []
text_of_lines (line ∷ lines) = line ++ newline ∷ text_of_lines lines

-- the text that a tree is written as
abbrev pub written : Tree → List ℕ
written t = text_of_lines (layout t)
