-- Which lines are which tree, by recursion on the tree. A leaf is a function of its line and of the lines behind it.
--     Reads floor d delay rs t      these lines are the tree t
--     IsTreeOf source t             this source is the tree t
--     TreesAreRead, NodesAreRead, OneTreeAtMost      what the laws say
-- The floor is the least indentation inside the block around, d is the nesting that a list or a map has here, and the flag says that
-- the lines are the value of a key that may have a decimal.
use Rattle.std.specs.Prelude.{◌≡◌, ◌⊎◌, ◌↔◌, ℕ, ◌+◌, ◌≤◌, List, [], ◌∷◌, ◌++◌, Bool, true, false, ◌&&◌, Some, is_some, Ok}
use Rattle.std.specs.List.{AllByRecursion}
use Rattle.wf_tree.specs.Trees.{Tree, Items, Pairs, null, boolean, integer, decimal, text, list, map, no_items, item, no_pairs, pair}
use Rattle.wf_value.specs.Maps.{IsInOrder}
use Rattle.wf_yaml_line.specs.Marks.{among, return_mark, behind_first, skip_blanks, ends_line}
use Rattle.wf_yaml_line.specs.Keys.{Key, key_of}
use Rattle.wf_yaml_flow.specs.Flow.{max_depth}
use Rattle.wf_yaml_line.specs.Scalars.{is_delay_key}
use Rattle.wf_yaml.specs.Rows.{Row, rows, counting, has_tab, behind_start, is_any_mark}
use Rattle.wf_yaml.specs.Cuts.{entries_of, heads}
use Rattle.wf_yaml.specs.Starts.{is_item, starts_block, has_tab_gap}
use Rattle.wf_yaml.specs.Blocks.{scalar, compact, pair_faults, node}
use Rattle.wf_yaml.specs.Reading.{no_delay, reading}

-- ---- what a line begins

abbrev pub BeginsList : Row → Type 0
BeginsList r = (has_tab r ≡ false) × (is_item r.text ≡ true)

abbrev pub BeginsMap : Row → Type 0
BeginsMap r = (has_tab r ≡ false) × (is_item r.text ≡ false) × (is_some (key_of r.text) ≡ true)

abbrev pub BeginsNoBlock : Row → Type 0
BeginsNoBlock r = (has_tab r ≡ false) × (is_item r.text ≡ false) × (is_some (key_of r.text) ≡ false)

-- ---- the parts of a block

-- No lines are null. A line that begins no block is a scalar or a flow collection, with the lines behind it.
abbrev pub IsLeaf : ℕ → ℕ → Bool → List Row → Tree → Type 0
IsLeaf floor d delay [] t = t ≡ null
IsLeaf floor d delay (r ∷ behind) t = BeginsNoBlock r × (scalar floor d delay r.number r.text behind ≡ Ok t)

-- an entry's first line, and the lines behind it
abbrev pub Entry : Type 0
Entry = Row × List Row

-- The lines are a list, or a map where the flag is set. At its indentation it has entries, of which this holds.
pub record IsBlock (is_map : Bool) (Begins : Row → Type 0) (d : ℕ) (rs : List Row) (Has : ℕ → List Entry → Type 0) : Type 0 where
  pub first : Row
  pub behind : List Row
  pub lines : rs ≡ first ∷ behind
  pub begins : Begins first
  pub shallow : d ≤ max_depth
  pub entries : Has first.indent (entries_of (heads is_map first.indent) first behind)

-- The entry is an item. It holds the lines below its `-`, or those from its own column on, where no tab stands before a block.
pub record IsItem (n : ℕ) (e : Entry) (Holds : List Row → Type 0) : Type 0 where
  pub untabbed : has_tab e.0 ≡ false
  pub column : e.0.indent ≡ n
  pub begins : is_item e.0.text ≡ true
  pub below : ends_line (behind_first e.0.text) ≡ true → Holds (counting e.1)
  pub untabbed_block : ends_line (behind_first e.0.text) ≡ false → (has_tab_gap (behind_first e.0.text) && starts_block (compact n e.0).text) ≡ false
  pub beside : ends_line (behind_first e.0.text) ≡ false → Holds (compact n e.0 ∷ e.1)

-- The key is no fault by itself.
abbrev pub IsGood : ℕ → Key → Type 0
IsGood number key = pair_faults number [] key ≡ Ok tt

-- The entry is a pair with this key. Its value is the lines below the key, or what stands beside it.
pub record IsPair (n d : ℕ) (e : Entry) (name : List ℕ) (t : Tree) (Below : Bool → List Row → Type 0) : Type 0 where
  pub key : Key
  pub untabbed : has_tab e.0 ≡ false
  pub column : e.0.indent ≡ n
  pub begins : key_of e.0.text ≡ Some key
  pub good : IsGood e.0.number key
  pub named : key.text ≡ name
  pub below : ends_line key.rest ≡ true → Below (is_delay_key name) (counting e.1)
  pub beside : ends_line key.rest ≡ false → scalar (n + 1) (d + 1) (is_delay_key name) e.0.number (skip_blanks key.rest) e.1 ≡ Ok t

-- This holds of one of the entries, and that of the others.
pub record OneAndOthers (es : List Entry) (One : Entry → Type 0) (Others : List Entry → Type 0) : Type 0 where
  pub before : List Entry
  pub entry : Entry
  pub after : List Entry
  pub all : es ≡ before ++ entry ∷ after
  pub one : One entry
  pub others : Others (before ++ after)

-- the pairs of a map in their order
abbrev pub listed : Pairs → List (List ℕ × Tree)
listed no_pairs = []
listed (pair k t ps) = (k, t) ∷ listed ps

-- ---- the tree

-- A list's entries are its items, one for one. A map's entries are its pairs in any order, and the keys are in order, each once.
abbrev mutual
  pub Reads : ℕ → ℕ → Bool → List Row → Tree → Type 0
  Reads floor d delay rs null = IsLeaf floor d delay rs null
  Reads floor d delay rs (boolean b) = IsLeaf floor d delay rs (boolean b)
  Reads floor d delay rs (integer z) = IsLeaf floor d delay rs (integer z)
  Reads floor d delay rs (decimal s) = IsLeaf floor d delay rs (decimal s)
  Reads floor d delay rs (text s) = IsLeaf floor d delay rs (text s)
  Reads floor d delay rs (list ts) = IsLeaf floor d delay rs (list ts) ⊎ IsBlock false BeginsList d rs (λ n es. ItemsRead n d es ts)
  Reads floor d delay rs (map ps) = IsLeaf floor d delay rs (map ps) ⊎ (IsBlock true BeginsMap d rs (λ n es. PairsRead n d es ps) × IsInOrder (listed ps))

  pub ItemsRead : ℕ → ℕ → List Entry → Items → Type 0
  ItemsRead n d [] no_items = Unit {0}
  ItemsRead n d (e ∷ es) no_items = ⊥
  ItemsRead n d [] (item t ts) = ⊥
  ItemsRead n d (e ∷ es) (item t ts) = IsItem n e (λ rs. Reads (n + 1) (d + 1) false rs t) × ItemsRead n d es ts

  pub PairsRead : ℕ → ℕ → List Entry → Pairs → Type 0
  PairsRead n d es no_pairs = es ≡ []
  PairsRead n d es (pair k t ps) = OneAndOthers es (λ e. IsPair n d e k t (λ delay rs. Reads (n + 1) (d + 1) delay rs t)) (λ others. PairsRead n d others ps)

-- ---- the source

-- the lines behind the start mark, if one stands before the content
abbrev pub body : List ℕ → List Row
body source = behind_start (counting (rows source))

pub record IsTreeOf (source : List ℕ) (t : Tree) : Type 0 where
  pub content : Reads 0 1 no_delay (counting (body source)) t
  pub one_document : AllByRecursion (λ r. is_any_mark r ≡ false) (body source)
  pub line_ends : AllByRecursion (λ r. among r.text return_mark ≡ false) (rows source)

-- ---- the laws

-- A source reads as a tree exactly where it is that tree.
abbrev pub TreesAreRead : Type 0
TreesAreRead = (source : List ℕ) (t : Tree) → (reading source ≡ Ok t) ↔ IsTreeOf source t

-- So do the lines of a node, where its nesting and those that may still come are 101 together.
abbrev pub NodesAreRead : Type 0
NodesAreRead = (m floor d : ℕ) (delay : Bool) (rs : List Row) (t : Tree) → m + d ≡ 101 → (node m floor d delay rs ≡ Ok t) ↔ Reads floor d delay rs t

abbrev pub OneTreeAtMost : Type 0
OneTreeAtMost = (source : List ℕ) (t u : Tree) → IsTreeOf source t → IsTreeOf source u → t ≡ u
