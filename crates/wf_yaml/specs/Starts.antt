-- What a line's content begins with.
use Rattle.std.specs.Prelude.{ℕ, List, [], ◌∷◌, Bool, false, ◌&&◌, ◌||◌, ◌==◌, is_some}
use Rattle.wf_yaml_line.specs.Marks.{starts, space, tabulator, dash, bar, angle, behind_first, ends_line}
use Rattle.wf_yaml_line.specs.Keys.{key_of}

-- Items start with `- ` or are `-` alone.
abbrev pub is_item : List ℕ → Bool
is_item s = starts (λ b. b == dash) s && (starts (λ b. b == space) (behind_first s) || ends_line (behind_first s))

-- an item or a pair
abbrev pub starts_block : List ℕ → Bool
starts_block s = is_item s || is_some (key_of s)

-- A block scalar begins with `|` or `>`.
abbrev pub is_block_mark : ℕ → Bool
is_block_mark b = b == bar || b == angle

abbrev pub starts_scalar : List ℕ → Bool
starts_scalar s = starts is_block_mark s

-- a tab stands among the blanks at the front
abbrev pub has_tab_gap : List ℕ → Bool
has_tab_gap [] = false
has_tab_gap (b ∷ r) = b == tabulator || (b == space && has_tab_gap r)
