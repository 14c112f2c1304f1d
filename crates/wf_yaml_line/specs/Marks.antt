-- Characters and tests on them. A text is the list of its characters.
use Rattle.std.specs.Prelude.{ℕ, List, [], ◌∷◌, Bool, true, false, cond, ◌&&◌, ◌||◌, ◌==◌, nat_le, Option, Some, None, option_map, codes}

abbrev pub space : ℕ
space = 32

abbrev pub tabulator : ℕ
tabulator = 9

abbrev pub newline : ℕ
newline = 10

abbrev pub return_mark : ℕ
return_mark = 13

abbrev pub hash : ℕ
hash = 35

abbrev pub dash : ℕ
dash = 45

abbrev pub colon : ℕ
colon = 58

abbrev pub comma : ℕ
comma = 44

abbrev pub single_quote : ℕ
single_quote = 39

abbrev pub double_quote : ℕ
double_quote = 34

abbrev pub backslash : ℕ
backslash = 92

abbrev pub open_list : ℕ
open_list = 91

abbrev pub close_list : ℕ
close_list = 93

abbrev pub open_map : ℕ
open_map = 123

abbrev pub close_map : ℕ
close_map = 125

abbrev pub dollar : ℕ
dollar = 36

abbrev pub bar : ℕ
bar = 124

abbrev pub angle : ℕ
angle = 62

abbrev pub bang : ℕ
bang = 33

-- the lists in which a test looks a character up
abbrev pub among : List ℕ → ℕ → Bool
among [] b = false
among (x ∷ xs) b = b == x || among xs b

abbrev pub is_blank : ℕ → Bool
is_blank b = b == space || b == tabulator

abbrev pub is_digit : ℕ → Bool
is_digit b = nat_le 48 b && nat_le b 57

abbrev pub is_quote : ℕ → Bool
is_quote b = b == single_quote || b == double_quote

abbrev pub is_bracket : ℕ → Bool
is_bracket b = b == open_list || b == open_map

-- `, [ ] { }`
abbrev pub is_flow_mark : ℕ → Bool
is_flow_mark b = among (codes ",[]{}") b

-- `, [ ] { } # & * ! | > ' " % @` and a backquote: no plain scalar starts with one
abbrev pub is_reserved : ℕ → Bool
is_reserved b = among (codes ",[]{}#&*!|>'\"%@`") b

-- `- ? :` start a plain scalar only before another character that isn't a blank
abbrev pub is_guarded : ℕ → Bool
is_guarded b = among (codes "-?:") b

-- two texts are one
abbrev pub is_same : List ℕ → List ℕ → Bool
is_same [] [] = true
is_same [] (b ∷ t) = false
is_same (a ∷ s) [] = false
is_same (a ∷ s) (b ∷ t) = a == b && is_same s t

abbrev pub is_one_of : List (List ℕ) → List ℕ → Bool
is_one_of [] s = false
is_one_of (w ∷ ws) s = is_same w s || is_one_of ws s

-- the first character passes a test
abbrev pub starts : (ℕ → Bool) → List ℕ → Bool
starts p [] = false
starts p (b ∷ r) = p b

abbrev pub is_empty : List ℕ → Bool
is_empty [] = true
is_empty (b ∷ r) = false

abbrev pub behind_first : List ℕ → List ℕ
behind_first [] = []
behind_first (b ∷ r) = r

-- without the characters at the front that pass; and those alone
abbrev pub skip : (ℕ → Bool) → List ℕ → List ℕ
skip p [] = []
skip p (b ∷ r) = cond (p b) (skip p r) (b ∷ r)

abbrev pub skip_blanks : List ℕ → List ℕ
skip_blanks s = skip is_blank s

-- without the blanks at the end
abbrev pub trimmed : List ℕ → List ℕ
trimmed [] = []
trimmed (b ∷ r) = cond (is_blank b && is_empty (trimmed r)) [] (b ∷ trimmed r)

-- the last character is a `:`
abbrev pub ends_with_colon : List ℕ → Bool
ends_with_colon [] = false
ends_with_colon (b ∷ []) = b == colon
ends_with_colon (b ∷ c ∷ r) = ends_with_colon (c ∷ r)

-- a blank or the end of the line follows
abbrev pub ends_word : List ℕ → Bool
ends_word s = is_empty s || starts is_blank s

-- What stands directly behind a token ends the line: blanks alone, or blanks and then a comment.
abbrev pub ends_line : List ℕ → Bool
ends_line s = is_empty (skip_blanks s) || (starts is_blank s && starts (λ b. b == hash) (skip_blanks s))

-- A line is blank when it has blanks alone, or blanks and then a comment.
abbrev pub is_blank_line : List ℕ → Bool
is_blank_line s = is_empty (skip_blanks s) || starts (λ b. b == hash) (skip_blanks s)

-- what stands before a comment, which is a `#` behind a blank; the flag says whether a blank stands before
abbrev pub before_comment : Bool → List ℕ → List ℕ
before_comment after_blank [] = []
before_comment after_blank (b ∷ r) = cond (after_blank && b == hash) [] (b ∷ before_comment (is_blank b) r)

abbrev pub has_comment : Bool → List ℕ → Bool
has_comment after_blank [] = false
has_comment after_blank (b ∷ r) = (after_blank && b == hash) || has_comment (is_blank b) r

-- The parts around the first `:` that a blank or the end follows, and that stands in no comment.
abbrev pub around_colon : Bool → List ℕ → Option (List ℕ × List ℕ)
around_colon after_blank [] = None
around_colon after_blank (b ∷ r) = cond (after_blank && b == hash) None
    (cond (b == colon && ends_word r) (Some ([], r)) (option_map (λ p. (b ∷ p.0, p.1)) (around_colon (is_blank b) r)))
