-- The block structure: which tree some lines are, and which fault is the first.
use Rattle.std.specs.Prelude.{ℕ, zero, suc, ◌+◌, ◌-◌, List, [], ◌∷◌, ◌++◌, length, Bool, true, false, cond, not, ◌&&◌, ◌==◌, nat_le, Option, Some, None, is_some, Result, Ok}
use Rattle.wf_tree.specs.Trees.{Tree, null, list, map, items_of, pairs_of}
use Rattle.wf_value.specs.Maps.{with_value}
use Rattle.wf_yaml_line.specs.Marks.{is_one_of, behind_first, skip_blanks, ends_line, has_comment}
use Rattle.wf_yaml_line.specs.declared.fault.Fault.{Fault}
use Rattle.wf_yaml_line.specs.Fault.{both, given, kept, refuse, refuse_if}
use Rattle.wf_yaml_line.specs.declared.fault.Kind.TheVariants as kinds
use Rattle.wf_yaml_line.specs.Scalars.{may_start_plain}
use Rattle.wf_yaml_line.specs.Keys.{Key, key_of, own_fault}
use Rattle.wf_yaml_flow.specs.Flow.{depth_fault}
use Rattle.wf_yaml_line.specs.Scalars.{is_delay_key}
use Rattle.wf_yaml_flow.specs.Line.{one_line}
use Rattle.wf_yaml.specs.Rows.{Row, counting, has_tab, misplaced, no_more}
use Rattle.wf_yaml.specs.Cuts.{entries_of, heads}
use Rattle.wf_yaml.specs.Starts.{is_item, starts_block, starts_scalar, has_tab_gap}
use Rattle.wf_yaml.specs.BlockScalars.{block_scalar, header_fault}

-- ---- scalars, and the lines behind them

-- A plain scalar with no comment behind it goes on in the next line that counts, where that stands inside its block.
abbrev pub goes_on : ℕ → List Row → Bool
goes_on floor [] = false
goes_on floor (r ∷ rs) = nat_le floor r.indent

abbrev pub is_going_on : ℕ → List ℕ → List Row → Bool
is_going_on floor s behind = may_start_plain s && not (has_comment false s) && goes_on floor (counting behind)

abbrev pub behind_fault : ℕ → ℕ → List ℕ → List Row → Result (Unit {0}) Fault
behind_fault floor n s behind = cond (is_going_on floor s behind) (refuse n kinds.Unsupported) (no_more behind)

abbrev pub line_scalar : ℕ → ℕ → Bool → ℕ → List ℕ → List Row → Result Tree Fault
line_scalar floor d delay n s behind = both kept (one_line delay n d s) (behind_fault floor n s behind)

-- A scalar in line n, with the lines behind it. The floor is the least indentation inside the block around.
abbrev pub scalar : ℕ → ℕ → Bool → ℕ → List ℕ → List Row → Result Tree Fault
scalar floor d delay n s behind =
    let block = block_scalar floor n s behind in
    let line = line_scalar floor d delay n s behind in
    cond (starts_scalar s) block line

-- ---- lists and maps

-- The node that some lines are: the least indentation inside the block around, the nesting that a list or a map has here, whether
-- it is the value of a key that may have a decimal, and the lines, of which the first counts.
abbrev pub Reading : Type 0
Reading = ℕ → ℕ → Bool → List Row → Result Tree Fault

-- An item's content on the same line stands at its own column.
abbrev pub compact : ℕ → Row → Row
compact n r = record { number = r.number; indent = n + 1 + (length (behind_first r.text) - length (skip_blanks (behind_first r.text))); text = skip_blanks (behind_first r.text) }

abbrev pub item_content : Reading → ℕ → ℕ → Row → List Row → Result Tree Fault
item_content inner n d r behind =
    let block = inner (n + 1) (d + 1) false (counting behind) in
    let line = inner (n + 1) (d + 1) false (compact n r ∷ behind) in
    cond (ends_line (behind_first r.text)) block
    (cond (has_tab_gap (behind_first r.text) && starts_block (compact n r).text) (refuse r.number kinds.Tab) line)

abbrev pub list_entry : Reading → ℕ → ℕ → Row × List Row → Result Tree Fault
list_entry inner n d e =
    let content = item_content inner n d e.0 e.1 in
    cond (not (has_tab e.0) && (e.0.indent == n) && is_item e.0.text) content (misplaced e.0)

-- One entry after another. Of all their faults the first speaks.
abbrev pub list_entries : Reading → ℕ → ℕ → Result (List Tree) Fault → List (Row × List Row) → Result (List Tree) Fault
list_entries inner n d so_far [] = so_far
list_entries inner n d so_far (e ∷ es) = list_entries inner n d (both (λ ts t. ts ++ t ∷ []) so_far (list_entry inner n d e)) es

abbrev pub pair_value : Reading → ℕ → ℕ → Bool → ℕ → List ℕ → List Row → Result Tree Fault
pair_value inner n d delay number rest behind =
    let block = inner (n + 1) (d + 1) delay (counting behind) in
    let line = scalar (n + 1) (d + 1) delay number (skip_blanks rest) behind in
    cond (ends_line rest) block line

-- a line at a map's indentation that is neither a pair nor an item
abbrev pub stray : ℕ → ℕ → List ℕ → Result (List ℕ × Tree) Fault
stray d number s =
    let line = one_line false number d s in
    let own : Result Tree Fault = cond (starts_scalar s) (Ok null) line in
    both (λ _ p. p) own (refuse number kinds.Unsupported)

-- the faults of a pair's key: its own, and that it stands before
abbrev pub pair_faults : ℕ → List (List ℕ) → Key → Result (Unit {0}) Fault
pair_faults number keys k = both kept (own_fault number k.fault) (refuse_if (is_one_of keys k.text) number kinds.DoubleKey)

abbrev pub pair_entry : Reading → ℕ → ℕ → List (List ℕ) → Row → List Row → Option Key → Result (List ℕ × Tree) Fault
pair_entry inner n d keys r behind (Some k) = both (λ _ t. (k.text, t)) (pair_faults r.number keys k) (pair_value inner n d (is_delay_key k.text) r.number k.rest behind)
pair_entry inner n d keys r behind None = stray d r.number r.text

abbrev pub map_entry : Reading → ℕ → ℕ → List (List ℕ) → Row × List Row → Result (List ℕ × Tree) Fault
map_entry inner n d keys e =
    let entry = pair_entry inner n d keys e.0 e.1 (key_of e.0.text) in
    cond (not (has_tab e.0) && (e.0.indent == n)) entry (misplaced e.0)

-- the keys of the entries before, and that of one more
abbrev pub with_key : Option Key → List (List ℕ) → List (List ℕ)
with_key (Some k) keys = k.text ∷ keys
with_key None keys = keys

abbrev pub map_entries : Reading → ℕ → ℕ → Result (List (List ℕ × Tree)) Fault → List (List ℕ) → List (Row × List Row) → Result (List (List ℕ × Tree)) Fault
map_entries inner n d so_far keys [] = so_far
map_entries inner n d so_far keys (e ∷ es) =
    map_entries inner n d (both (λ ps p. with_value p.0 p.1 ps) so_far (map_entry inner n d keys e)) (with_key (key_of e.0.text) keys) es

abbrev pub list_of_entries : Reading → ℕ → Row → List Row → Result Tree Fault
list_of_entries inner d r behind = given (λ ts. list (items_of ts)) (list_entries inner r.indent d (Ok []) (entries_of (heads false r.indent) r behind))

abbrev pub block_list : Reading → ℕ → Row → List Row → Result Tree Fault
block_list inner d r behind = both (λ _ t. t) (depth_fault r.number d) (list_of_entries inner d r behind)

abbrev pub map_of_entries : Reading → ℕ → Row → List Row → Result Tree Fault
map_of_entries inner d r behind = given (λ ps. map (pairs_of ps)) (map_entries inner r.indent d (Ok []) [] (entries_of (heads true r.indent) r behind))

abbrev pub block_map : Reading → ℕ → Row → List Row → Result Tree Fault
block_map inner d r behind = both (λ _ t. t) (depth_fault r.number d) (map_of_entries inner d r behind)

-- A node is a list or a map where its first line is an item or a pair, and else a scalar.
abbrev pub node_at : Reading → ℕ → ℕ → Bool → List Row → Result Tree Fault
node_at inner floor d delay [] = Ok null
node_at inner floor d delay (r ∷ behind) =
    let a_list = block_list inner d r behind in
    let a_map = block_map inner d r behind in
    let other = scalar floor d delay r.number r.text behind in
    cond (has_tab r) (refuse r.number kinds.Tab)
    (cond (is_item r.text) a_list
    (cond (is_some (key_of r.text)) a_map other))

-- ---- where blocks nest too deep

-- Only the faults of the line itself can still speak there. Of a block scalar these are the marks'.
abbrev pub line_alone : Bool → ℕ → ℕ → List ℕ → Result Tree Fault
line_alone delay n d s =
    let line = one_line delay n d s in
    let header = both (λ _ t. t) (header_fault n s) (Ok null) in
    cond (starts_scalar s) header line

abbrev pub value_line : ℕ → ℕ → Key → Result Tree Fault
value_line n d k =
    let line = line_alone (is_delay_key k.text) n d (skip_blanks k.rest) in
    cond (ends_line k.rest) (Ok null) line

abbrev pub key_line : ℕ → ℕ → Key → Result Tree Fault
key_line n d k = both (λ _ t. t) (own_fault n k.fault) (value_line n d k)

abbrev pub other_line : ℕ → ℕ → List ℕ → Option Key → Result Tree Fault
other_line n d s (Some k) = key_line n d k
other_line n d s None = line_alone false n d s

-- The first number bounds the items that stand in each other, and the length of the text is enough.
abbrev pub deep_line : ℕ → ℕ → ℕ → List ℕ → Result Tree Fault
deep_line zero n d s = Ok null
deep_line (suc m) n d s =
    let inside = deep_line m n d (skip_blanks (behind_first s)) in
    let other = other_line n d s (key_of s) in
    cond (is_item s)
    (cond (ends_line (behind_first s)) (Ok null)
    (cond (has_tab_gap (behind_first s) && starts_block (skip_blanks (behind_first s))) (refuse n kinds.Tab) inside))
    other

abbrev pub deep : Reading
deep floor d delay [] = Ok null
deep floor d delay (r ∷ behind) = deep_line (length r.text) r.number d r.text

-- The number tells how deep lists and maps may still nest.
abbrev pub node : ℕ → Reading
node zero floor d delay rs = node_at deep floor d delay rs
node (suc m) floor d delay rs = node_at (λ f e k ls. node m f e k ls) floor d delay rs

-- what stands inside a list or a map at this depth
abbrev pub inside : ℕ → Reading
inside zero floor d delay rs = deep floor d delay rs
inside (suc m) floor d delay rs = node m floor d delay rs
