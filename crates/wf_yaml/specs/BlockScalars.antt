-- Block scalars: the lines that are one, and its text.
use Rattle.std.specs.Prelude.{ℕ, zero, suc, ◌-◌, List, [], ◌∷◌, ◌++◌, Bool, true, false, cond, not, ◌&&◌, ◌||◌, ◌==◌, nat_le, nat_lt, Option, Some, None, Result, Ok}
use Rattle.std.specs.Str.{encode_utf8_all}
use Rattle.wf_tree.specs.Trees.{Tree, text}
use Rattle.wf_yaml_line.specs.Marks.{is_empty, starts, space, newline, dash, angle, is_blank, behind_first, ends_line}
use Rattle.wf_yaml_line.specs.declared.fault.Fault.{Fault}
use Rattle.wf_yaml_line.specs.Fault.{both, kept, refuse, refuse_if}
use Rattle.wf_yaml_line.specs.declared.fault.Kind.TheVariants as kinds
use Rattle.wf_yaml.specs.Rows.{Row, no_more}

-- ---- the marks: `|` or `>`, then `-` or nothing, then blanks or a comment

abbrev pub is_folded : List ℕ → Bool
is_folded s = starts (λ b. b == angle) s

abbrev pub is_stripped : List ℕ → Bool
is_stripped s = starts (λ b. b == dash) (behind_first s)

abbrev pub behind_marks : List ℕ → List ℕ
behind_marks s = cond (is_stripped s) (behind_first (behind_first s)) (behind_first s)

abbrev pub header_fault : ℕ → List ℕ → Result (Unit {0}) Fault
header_fault n s = refuse_if (not (ends_line (behind_marks s))) n kinds.Unsupported

-- ---- the lines

-- The indentation is that of the first line that isn't empty. There is none where this line isn't inside the block around.
abbrev pub scalar_indent : ℕ → List Row → Option ℕ
scalar_indent floor [] = None
scalar_indent floor (r ∷ rs) = cond (is_empty r.text) (scalar_indent floor rs) (cond (nat_le floor r.indent) (Some r.indent) None)

-- The scalar goes to the first line that isn't empty and stands before its indentation.
abbrev pub is_outside : ℕ → Row → Bool
is_outside m r = not (is_empty r.text) && nat_lt r.indent m

abbrev pub scalar_rows : ℕ → List Row → List Row
scalar_rows m [] = []
scalar_rows m (r ∷ rs) = cond (is_outside m r) [] (r ∷ scalar_rows m rs)

abbrev pub behind_scalar : ℕ → List Row → List Row
behind_scalar m [] = []
behind_scalar m (r ∷ rs) = cond (is_outside m r) (r ∷ rs) (behind_scalar m rs)

abbrev pub copies : ℕ → ℕ → List ℕ
copies zero b = []
copies (suc n) b = b ∷ copies n b

-- A line is taken as it is from the indentation on. Before the first line that isn't empty, which sets the flag, spaces are
-- nothing.
abbrev pub scalar_line : ℕ → Bool → Row → List ℕ
scalar_line m begun r = cond (begun || not (is_empty r.text)) (copies (r.indent - m) space ++ r.text) []

abbrev pub scalar_lines : ℕ → Bool → List Row → List (List ℕ)
scalar_lines m begun [] = []
scalar_lines m begun (r ∷ rs) = scalar_line m begun r ∷ scalar_lines m (begun || not (is_empty r.text)) rs

-- Under `>` no line starts with a further blank.
abbrev pub no_further_blank : ℕ → Bool → List Row → Result (Unit {0}) Fault
no_further_blank m begun [] = Ok tt
no_further_blank m begun (r ∷ rs) =
    cond (starts is_blank (scalar_line m begun r)) (refuse r.number kinds.Unsupported) (no_further_blank m (begun || not (is_empty r.text)) rs)

-- ---- the text

abbrev pub are_empty : List (List ℕ) → Bool
are_empty [] = true
are_empty (l ∷ ls) = is_empty l && are_empty ls

-- without the empty lines at the end
abbrev pub without_last : List (List ℕ) → List (List ℕ)
without_last [] = []
without_last (l ∷ ls) = cond (are_empty (l ∷ ls)) [] (l ∷ without_last ls)

-- `|` keeps each line end.
abbrev pub literal_text : List (List ℕ) → List ℕ
literal_text [] = []
literal_text (l ∷ []) = l
literal_text (l ∷ k ∷ ls) = l ++ newline ∷ literal_text (k ∷ ls)

-- n line ends, or one space where two lines are joined and there are none
abbrev pub gap : Bool → ℕ → List ℕ
gap is_joined n = cond (is_joined && n == 0) (space ∷ []) (copies n newline)

-- `>` joins two lines with one space, and n empty lines between them give n line ends. The flag says that a line stands before.
abbrev pub folded_text : Bool → ℕ → List (List ℕ) → List ℕ
folded_text begun n [] = []
folded_text begun n ([] ∷ ls) = folded_text begun (suc n) ls
folded_text begun n ((b ∷ l) ∷ ls) = gap begun n ++ ((b ∷ l) ++ folded_text true 0 ls)

abbrev pub joined : Bool → List (List ℕ) → List ℕ
joined true ls = folded_text false 0 (without_last ls)
joined false ls = literal_text (without_last ls)

-- Without `-` the text ends with one line end, if it isn't empty.
abbrev pub ended : Bool → List ℕ → List ℕ
ended stripped s = s ++ cond (stripped || is_empty s) [] (newline ∷ [])

abbrev pub block_text : Bool → Bool → List (List ℕ) → List ℕ
block_text folded stripped ls = ended stripped (joined folded ls)

-- ---- the scalar

abbrev pub lines_fault : Bool → ℕ → List Row → Result (Unit {0}) Fault
lines_fault folded m behind = both kept (cond folded (no_further_blank m false (scalar_rows m behind)) (Ok tt)) (no_more (behind_scalar m behind))

abbrev pub block_lines : Bool → Bool → Option ℕ → List Row → Result Tree Fault
block_lines folded stripped None behind = both (λ _ t. t) (no_more behind) (Ok (text []))
block_lines folded stripped (Some m) behind =
    both (λ _ t. t) (lines_fault folded m behind) (Ok (text (encode_utf8_all (block_text folded stripped (scalar_lines m false (scalar_rows m behind))))))

-- the block scalar with these marks in line n, in a block of which the floor is the least indentation
abbrev pub block_scalar : ℕ → ℕ → List ℕ → List Row → Result Tree Fault
block_scalar floor n s behind = both (λ _ t. t) (header_fault n s) (block_lines (is_folded s) (is_stripped s) (scalar_indent floor behind) behind)
