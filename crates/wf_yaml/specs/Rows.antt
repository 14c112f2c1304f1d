-- The lines of a source, and the marks of a document.
use Rattle.std.specs.Prelude.{ℕ, List, [], ◌∷◌, map, drop, take, Bool, cond, ◌&&◌, ◌||◌, ◌==◌, Result, Ok, Err, codes}
use Rattle.std.specs.Str.{chars}
use Rattle.wf_span.specs.Lines.{Placed, source_lines}
use Rattle.wf_yaml_line.specs.Marks.{is_blank_line, is_same, starts, among, tabulator, return_mark, ends_word, ends_line}
use Rattle.wf_yaml_line.specs.declared.fault.Fault.{Fault}
use Rattle.wf_yaml_line.specs.Fault.{refuse}
use Rattle.wf_yaml_line.specs.declared.fault.Kind.TheVariants as kinds

-- a line: its number, how many spaces it begins with, and the characters behind them
pub record Row : Type 0 where
  pub number : ℕ
  pub indent : ℕ
  pub text : List ℕ

abbrev pub row : Placed → Row
row l = record { number = l.number; indent = l.indent; text = chars l.body }

-- the lines of a source
abbrev pub rows : List ℕ → List Row
rows source = map row (source_lines source)

abbrev pub is_blank_row : Row → Bool
is_blank_row r = is_blank_line r.text

-- without the blank lines at the front
abbrev pub counting : List Row → List Row
counting [] = []
counting (r ∷ rs) = cond (is_blank_row r) (counting rs) (r ∷ rs)

-- a tab stands in the indentation
abbrev pub starts_tab : List ℕ → Bool
starts_tab s = starts (λ b. b == tabulator) s

abbrev pub has_tab : Row → Bool
has_tab r = starts_tab r.text

-- a line that fits no open block
abbrev pub misplaced_at : ℕ → List ℕ → Fault
misplaced_at number text = record { line = number; kind = cond (starts_tab text) kinds.Tab kinds.Indentation }

abbrev pub misplaced : {A : Type 0} → Row → Result A Fault
misplaced r = Err (misplaced_at r.number r.text)

-- no line that counts may be left
abbrev pub none_left : List Row → Result (Unit {0}) Fault
none_left [] = Ok tt
none_left (r ∷ rs) = misplaced r

abbrev pub no_more : List Row → Result (Unit {0}) Fault
no_more rs = none_left (counting rs)

-- `---` or `...` at a line's start, behind which a blank or the end stands
abbrev pub is_marked : List ℕ → List ℕ → Bool
is_marked mark s = is_same (take 3 s) mark && ends_word (drop 3 s)

abbrev pub dashes : List ℕ
dashes = codes "---"

abbrev pub dots : List ℕ
dots = codes "..."

abbrev pub is_any_mark : Row → Bool
is_any_mark r = (r.indent == 0) && (is_marked dashes r.text || is_marked dots r.text)

-- the one `---` that may stand before the content
abbrev pub is_start : Row → Bool
is_start r = (r.indent == 0) && is_marked dashes r.text && ends_line (drop 3 r.text)

abbrev pub behind_start : List Row → List Row
behind_start [] = []
behind_start (r ∷ rs) = cond (is_start r) rs (r ∷ rs)

-- the lines before the first mark
abbrev pub before_mark : List Row → List Row
before_mark [] = []
before_mark (r ∷ rs) = cond (is_any_mark r) [] (r ∷ before_mark rs)

-- no mark may stand in these lines
abbrev pub no_mark : List Row → Result (Unit {0}) Fault
no_mark [] = Ok tt
no_mark (r ∷ rs) = cond (is_any_mark r) (refuse r.number kinds.Unsupported) (no_mark rs)

-- no CR without LF may stand in these lines
abbrev pub no_lone_return : List Row → Result (Unit {0}) Fault
no_lone_return [] = Ok tt
no_lone_return (r ∷ rs) = cond (among r.text return_mark) (refuse r.number kinds.Unsupported) (no_lone_return rs)
