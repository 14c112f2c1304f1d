-- Lists are read back, where their items are.
use Rattle.std.proofs.Common.{◌≡◌, ℕ, suc, ◌+◌, ◌-◌, ◌≤◌, List, [], ◌∷◌, ◌++◌, length, append-nil, append_assoc, Bool, true, false, codes, Ok, refl, ap, sym, ◌∙◌, arith}
use Rattle.std.proofs.lemmas.Bool.{and_left, le-leb, le-ltb}
use Rattle.wf_tree.specs.Trees.{Tree, list, Items, no_items, item, items_of}
use Rattle.wf_yaml_line.specs.declared.fault.Kind.TheVariants as kinds
use Rattle.wf_yaml_line.specs.Fault.{both, given, refuse_if}
use Rattle.wf_yaml.specs.Rows.{Row}
use Rattle.wf_yaml.specs.Starts.{starts_block}
use Rattle.wf_yaml.specs.Cuts.{cut, heads}
use Rattle.wf_yaml.specs.Blocks.{Reading, list_entries, list_entry, list_of_entries, node_at}
use Rattle.wf_yaml.proofs.Steps.{item_on_line}
use Rattle.wf_yaml_write.specs.Layout.{layout, as_item, items_layout}
use Rattle.wf_yaml_write.proofs.Fresh.{skip_none, gap_none}
use Rattle.wf_yaml_write.proofs.RowsBack.{at, rows_at, AllGood, IsHead, head_row, item_head}
use Rattle.wf_yaml_write.proofs.CutBack.{IsEntry, next_number, entry_rows, entry_lead, entry_cut, entries_cut}

-- lines that are laid out: the first one has no blank at the front
pub record IsLaid (lines : List (List ℕ)) : Type 0 where
  pub first : List ℕ
  pub others : List (List ℕ)
  pub text : List ℕ
  pub is : lines ≡ first ∷ others
  pub head : IsHead first text
  pub good : AllGood lines

-- a tree that the inner reading reads from its rows, two columns further in
pub record IsRead (inner : Reading) (n d : ℕ) (delay : Bool) (t : Tree) : Type 0 where
  pub laid : IsLaid (layout t)
  pub read : (k : ℕ) → inner (n + 1) (d + 1) delay (rows_at k (n + 2) (layout t)) ≡ Ok t

abbrev pub AreRead : Reading → ℕ → ℕ → Items → Type 0
AreRead inner n d no_items = Unit {0}
AreRead inner n d (item t ts) = IsRead inner n d false t × AreRead inner n d ts

-- ---- one item

abbrev mark : List ℕ → List ℕ
mark s = codes "- " ++ s

abbrev pub item_entry : (lines : List (List ℕ)) → IsLaid lines → IsEntry (as_item lines)
item_entry lines h = record { first = codes "- " ++ h.first; text = mark h.text; inside = h.others; is = ap as_item h.is; head = item_head h.first h.text h.head }

-- a list's heads
is_head : (k n : ℕ) (s : List ℕ) → heads false n (at k n (mark s)) ≡ true
is_head k n s = le-leb n n (omega arith)

-- the content of an item stands two columns further in
item_read : (inner : Reading) (k n d : ℕ) (l s : List ℕ) (body : List Row) → IsHead l s → list_entry inner n d (at k n (mark s), body) ≡ inner (n + 1) (d + 1) false (at k (n + 2) s ∷ body)
item_read inner k n d l s body h =
    let column : n + 1 + (suc (length s) - length s) ≡ n + 2 = omega arith in
    let blank = h.fresh.no_blank in
    item_on_line inner n d (at k n (mark s)) (32 ∷ s) s body refl refl refl refl h.fresh.counts (sym (skip_none s blank)) (and_left _ (starts_block s) (gap_none s blank))
    ∙ ap (λ c. inner (n + 1) (d + 1) false (at k c s ∷ body)) column

entry_read : (inner : Reading) (k n d : ℕ) (t : Tree) (h : IsRead inner n d false t) → list_entry inner n d (at k n (mark h.laid.text), rows_at (suc k) (n + 2) h.laid.others) ≡ Ok t
entry_read inner k n d t h =
    item_read inner k n d h.laid.first h.laid.text (rows_at (suc k) (n + 2) h.laid.others) h.laid.head
    ∙ ap (λ r. inner (n + 1) (d + 1) false (r ∷ rows_at (suc k) (n + 2) h.laid.others)) (sym (head_row k (n + 2) h.laid.first h.laid.text h.laid.head))
    ∙ ap (λ ls. inner (n + 1) (d + 1) false (rows_at k (n + 2) ls)) (sym h.laid.is)
    ∙ h.read k

-- ---- the items

-- the items as a list
abbrev trees_in : Items → List Tree
trees_in no_items = []
trees_in (item t ts) = t ∷ trees_in ts

same_items : (ts : Items) → items_of (trees_in ts) ≡ ts
same_items no_items = refl
same_items (item t ts) = ap (item t) (same_items ts)

items_lead : (inner : Reading) (k n d : ℕ) (ts : Items) → AreRead inner n d ts → (cut (heads false n) (rows_at k n (items_layout ts))).lead ≡ []
items_lead inner k n d no_items h = refl
items_lead inner k n d (item t ts) h = entry_lead false k n (as_item (layout t)) (items_layout ts) (item_entry (layout t) h.0.laid) (is_head k n h.0.laid.text)

items_read : (inner : Reading) (k n d : ℕ) (done : List Tree) (ts : Items) → AreRead inner n d ts → list_entries inner n d (Ok done) (cut (heads false n) (rows_at k n (items_layout ts))).entries ≡ Ok (done ++ trees_in ts)
items_read inner k n d done no_items h = ap Ok (sym (append-nil done))
items_read inner k n d done (item t ts) h =
    let e = item_entry (layout t) h.0.laid in
    let next = next_number k h.0.laid.others in
    let others = (cut (heads false n) (rows_at next n (items_layout ts))).entries in
    ap (list_entries inner n d (Ok done)) (entry_cut false k n (as_item (layout t)) (items_layout ts) e (is_head k n h.0.laid.text) (items_lead inner next n d ts h.1))
    ∙ ap (λ r. list_entries inner n d (both (λ us u. us ++ u ∷ []) (Ok done) r) others) (entry_read inner k n d t h.0)
    ∙ items_read inner next n d (done ++ t ∷ []) ts h.1
    ∙ ap Ok (append_assoc done (t ∷ []) (trees_in ts))

-- ---- the list

pub list_read : (inner : Reading) (k n floor d : ℕ) (delay : Bool) (t : Tree) (ts : Items) → AreRead inner n d (item t ts) → d ≤ 100 → node_at inner floor d delay (rows_at k n (layout (list (item t ts)))) ≡ Ok (list (item t ts))
list_read inner k n floor d delay t ts h le =
    let e = item_entry (layout t) h.0.laid in
    let behind = rows_at (suc k) (n + 2) e.inside ++ rows_at (next_number k e.inside) n (items_layout ts) in
    let as_list = λ (r : List Tree). list (items_of r) in
    let entries : list_of_entries inner d (at k n e.text) behind ≡ Ok (list (item t ts)) =
    ap (λ es. given as_list (list_entries inner n d (Ok []) es)) (entries_cut false k n (as_item (layout t)) (items_layout ts) e (is_head k n h.0.laid.text))
    ∙ ap (given as_list) (items_read inner k n d [] (item t ts) h) ∙ ap (λ us. Ok (list us)) (same_items (item t ts)) in
    ap (node_at inner floor d delay) (entry_rows k n (as_item (layout t)) (items_layout ts) e)
    ∙ (λ i. both (λ _ u. u) (refuse_if (le-ltb 100 d le i) k kinds.TooDeep) (entries i))
