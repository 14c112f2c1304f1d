-- Whole trees are read back.
use Rattle.std.proofs.Common.{◌≡◌, ⊎_elim, ℕ, zero, suc, ◌+◌, ◌≤◌, List, [], ◌∷◌, ◌++◌, Bool, false, is_some, Ok, refl, ap, sym, subst, ◌∙◌, arith}
use Rattle.std.specs.Str.{encode_utf8_all, IsUtf8}
use Rattle.std.proofs.lemmas.Bool.{cases_Bool, true≢false}
use Rattle.wf_lemmas.proofs.Bools.{cond_false}
use Rattle.wf_tree.specs.Trees.{Tree, null, boolean, integer, decimal, text, list, map, Items, no_items, item, Pairs, no_pairs, pair, depth, items_depth, pairs_depth}
use Rattle.wf_yaml_line.specs.Fault.{both, kept}
use Rattle.wf_yaml_flow.specs.Flow.{max_depth}
use Rattle.wf_yaml_line.specs.Scalars.{is_delay_key}
use Rattle.wf_yaml_line.specs.Keys.{key_of}
use Rattle.wf_yaml.specs.Rows.{has_tab, counting, behind_start, before_mark}
use Rattle.wf_yaml.specs.Starts.{is_item}
use Rattle.wf_yaml.specs.Blocks.{inside, node}
use Rattle.wf_yaml.specs.Reading.{no_delay, document, reading_of, reading}
use Rattle.wf_yaml.proofs.Steps.{node_is}
use Rattle.wf_yaml_write.specs.Layout.{layout, as_item, further_in, is_block, items_layout, pairs_layout}
use Rattle.wf_yaml_write.specs.Back.{IsOnOneLine}
use Rattle.wf_yaml_write.specs.Whole.{TreesComeBack}
use Rattle.wf_yaml_write.proofs.Fits.{Fits, ItemsFit, PairsFit, fits}
use Rattle.wf_yaml_write.proofs.LineBack.{IsLine, tree_line}
use Rattle.wf_yaml_write.proofs.RowsBack.{at, rows_at, AllGood, IsHead, head_row, head_good, item_head, good_further, good_append, text_rows, all_count, no_start, all_before, all_unmarked, none_lone}
use Rattle.wf_yaml_write.proofs.ListBack.{IsLaid, AreRead, list_read}
use Rattle.wf_yaml_write.proofs.PairBack.{IsPair, IsPairRead, lines_beside, lines_below, pair_beside, pair_below, pair_good, scalar_read}
use Rattle.wf_yaml_write.proofs.MapBack.{ArePairsRead, pair_text, map_read}

-- ---- trees on one line

on_line : (delay : Bool) (t : Tree) → is_block t ≡ false → Fits delay t → IsOnOneLine delay t
on_line delay null b f = f
on_line delay (boolean t) b f = f
on_line delay (integer z) b f = f
on_line delay (decimal s) b f = f
on_line delay (text s) b f = f
on_line delay (list no_items) b f = f
on_line delay (list (item t ts)) b f = absurd (true≢false b)
on_line delay (map no_pairs) b f = f
on_line delay (map (pair k t ps)) b f = absurd (true≢false b)

line_of : (delay : Bool) (t : Tree) → is_block t ≡ false → Fits delay t → IsLine delay t
line_of delay t b f = tree_line delay t (on_line delay t b f)

line_head : (delay : Bool) (t : Tree) (l : IsLine delay t) → IsHead (encode_utf8_all l.line) l.line
line_head delay t l = record { is = refl; clean = l.clean; fresh = l.begins.fresh }

line_laid : (delay : Bool) (t : Tree) → is_block t ≡ false → Fits delay t → IsLaid (layout t)
line_laid delay t b f =
    let l = line_of delay t b f in
    let bytes = encode_utf8_all l.line in
    record { first = bytes; others = []; text = l.line; is = l.written; head = line_head delay t l; good = subst AllGood (sym l.written) (head_good bytes l.line (line_head delay t l), tt) }

-- ---- the lines of each tree

item_good : (lines : List (List ℕ)) → IsLaid lines → AllGood (as_item lines)
item_good lines h =
    let all : AllGood (h.first ∷ h.others) = subst AllGood h.is h.good in
    subst (λ ls. AllGood (as_item ls)) (sym h.is) (head_good _ _ (item_head h.first h.text h.head), good_further h.others all.1)

list_laid : (lines more : List (List ℕ)) → IsLaid lines → AllGood more → IsLaid (as_item lines ++ more)
list_laid lines more h good = record {
  first = _;
  others = further_in h.others ++ more;
  text = _;
  is = ap (λ ls. as_item ls ++ more) h.is;
  head = item_head h.first h.text h.head;
  good = good_append (as_item lines) more (item_good lines h) good;
}

pair_of : (k : List ℕ) (t : Tree) → IsUtf8 k → Fits (is_delay_key k) t → AllGood (layout t) → IsPair k (pair_text k t)
pair_of k t u f good = ⊎_elim
    (λ b. lines_below k t u b good)
    (λ b. let l = line_of (is_delay_key k) t b f in lines_beside k l.line t u l.clean b l.written)
    (cases_Bool (is_block t))

map_laid : (k : List ℕ) (lines more : List (List ℕ)) → IsPair k lines → AllGood more → IsLaid (lines ++ more)
map_laid k lines more p good = record {
  first = p.first;
  others = further_in p.inside ++ more;
  text = p.text;
  is = ap (λ ls. ls ++ more) p.is;
  head = p.head;
  good = good_append lines more (pair_good k lines p) good;
}

mutual
  laid : (t : Tree) (delay : Bool) → Fits delay t → IsLaid (layout t)
  laid null delay f = line_laid delay null refl f
  laid (boolean b) delay f = line_laid delay (boolean b) refl f
  laid (integer z) delay f = line_laid delay (integer z) refl f
  laid (decimal s) delay f = line_laid delay (decimal s) refl f
  laid (text s) delay f = line_laid delay (text s) refl f
  laid (list no_items) delay f = line_laid delay (list no_items) refl f
  laid (list (item t ts)) delay f = list_laid (layout t) (items_layout ts) (laid t false f.0) (items_good ts f.1)
  laid (map no_pairs) delay f = line_laid delay (map no_pairs) refl f
  laid (map (pair k t ps)) delay f = map_laid k (pair_text k t) (pairs_layout ps) (pair_of k t f.0 f.2 (laid t (is_delay_key k) f.2).good) (pairs_good ps f.3)

  items_good : (ts : Items) → ItemsFit ts → AllGood (items_layout ts)
  items_good no_items f = tt
  items_good (item t ts) f = good_append (as_item (layout t)) (items_layout ts) (item_good (layout t) (laid t false f.0)) (items_good ts f.1)

  pairs_good : (ps : Pairs) → PairsFit ps → AllGood (pairs_layout ps)
  pairs_good no_pairs f = tt
  pairs_good (pair k t ps) f = good_append (pair_text k t) (pairs_layout ps) (pair_good k (pair_text k t) (pair_of k t f.0 f.2 (laid t (is_delay_key k) f.2).good)) (pairs_good ps f.3)

-- ---- the nodes

-- a tree is read from its rows, wherever they stand and its nesting is allowed
abbrev IsBack : Tree → Type 0
IsBack t = (m floor n d k : ℕ) (delay : Bool) → m + d ≡ 102 → depth t + d ≤ 101 → Fits delay t → inside m floor d delay (rows_at k n (layout t)) ≡ Ok t

abbrev AreBack : Items → Type 0
AreBack no_items = Unit {0}
AreBack (item t ts) = IsBack t × AreBack ts

abbrev ArePairsBack : Pairs → Type 0
ArePairsBack no_pairs = Unit {0}
ArePairsBack (pair k t ps) = IsBack t × ArePairsBack ps

line_back : (t : Tree) → is_block t ≡ false → IsBack t
line_back t b zero floor n d k delay sum deep f = absurd (omega arith)
line_back t b (suc m) floor n d k delay sum deep f =
    let l = line_of delay t b f in
    let r = at k n l.line in
    ap (λ ls. inside (suc m) floor d delay (rows_at k n ls)) l.written
    ∙ ap (λ q. inside (suc m) floor d delay (q ∷ [])) (head_row k n (encode_utf8_all l.line) l.line (line_head delay t l))
    ∙ node_is m floor d delay (r ∷ [])
    ∙ cond_false (has_tab r) _ _ l.begins.fresh.no_tab
    ∙ cond_false (is_item l.line) _ _ l.begins.no_item
    ∙ cond_false (is_some (key_of l.line)) _ _ (ap is_some l.no_pair)
    ∙ scalar_read floor d delay k l.line t l.begins.no_block (l.read k d deep)

are_read : (m n d : ℕ) (ts : Items) → AreBack ts → ItemsFit ts → m + d ≡ 101 → items_depth ts + d ≤ 100 → AreRead (inside m) n d ts
are_read m n d no_items b f sum deep = tt
are_read m n d (item t ts) b f sum deep = (
  record { laid = laid t false f.0; read = λ k. b.0 m (n + 1) (n + 2) (d + 1) k false (omega arith) (omega arith) f.0 },
  are_read m n d ts b.1 f.1 sum (omega arith),
)

list_back : (t : Tree) (ts : Items) → IsBack t → AreBack ts → IsBack (list (item t ts))
list_back t ts b bs zero floor n d k delay sum deep f = absurd (omega arith)
list_back t ts b bs (suc m) floor n d k delay sum deep f =
    node_is m floor d delay (rows_at k n (layout (list (item t ts))))
    ∙ list_read (inside m) k n floor d delay t ts (are_read m n d (item t ts) (b, bs) f (omega arith) (omega arith)) (omega arith)

is_pair_read : (m n d : ℕ) (k : List ℕ) (t : Tree) → IsBack t → IsUtf8 k → Fits (is_delay_key k) t → m + d ≡ 101 → depth t + d ≤ 100 → IsPairRead (inside m) n d k t
is_pair_read m n d k t b u f sum deep = ⊎_elim
    (λ block. pair_below (inside m) n d k t u (block, (laid t (is_delay_key k) f).good, λ j. b m (n + 1) (n + 2) (d + 1) j (is_delay_key k) (omega arith) (omega arith) f))
    (λ block. pair_beside (inside m) n d k t u (block, line_of (is_delay_key k) t block f, omega arith))
    (cases_Bool (is_block t))

are_pairs_read : (m n d : ℕ) (ps : Pairs) → ArePairsBack ps → PairsFit ps → m + d ≡ 101 → pairs_depth ps + d ≤ 100 → ArePairsRead (inside m) n d ps
are_pairs_read m n d no_pairs b f sum deep = tt
are_pairs_read m n d (pair k t ps) b f sum deep = (is_pair_read m n d k t b.0 f.0 f.2 sum (omega arith), f.1, are_pairs_read m n d ps b.1 f.3 sum (omega arith))

map_back : (k : List ℕ) (t : Tree) (ps : Pairs) → IsBack t → ArePairsBack ps → IsBack (map (pair k t ps))
map_back k t ps b bs zero floor n d number delay sum deep f = absurd (omega arith)
map_back k t ps b bs (suc m) floor n d number delay sum deep f =
    node_is m floor d delay (rows_at number n (layout (map (pair k t ps))))
    ∙ map_read (inside m) number n floor d delay k t ps (are_pairs_read m n d (pair k t ps) (b, bs) f (omega arith) (omega arith)) (omega arith)

mutual
  tree_back : (t : Tree) → IsBack t
  tree_back null = line_back null refl
  tree_back (boolean b) = line_back (boolean b) refl
  tree_back (integer z) = line_back (integer z) refl
  tree_back (decimal s) = line_back (decimal s) refl
  tree_back (text s) = line_back (text s) refl
  tree_back (list no_items) = line_back (list no_items) refl
  tree_back (list (item t ts)) = list_back t ts (tree_back t) (items_back ts)
  tree_back (map no_pairs) = line_back (map no_pairs) refl
  tree_back (map (pair k t ps)) = map_back k t ps (tree_back t) (pairs_back ps)

  items_back : (ts : Items) → AreBack ts
  items_back no_items = tt
  items_back (item t ts) = (tree_back t, items_back ts)

  pairs_back : (ps : Pairs) → ArePairsBack ps
  pairs_back no_pairs = tt
  pairs_back (pair k t ps) = (tree_back t, pairs_back ps)

-- ---- the document

rows_read : (t : Tree) → Fits false t → depth t ≤ 100 → AllGood (layout t) → reading_of (rows_at 1 0 (layout t)) ≡ Ok t
rows_read t f deep good =
    let ls = layout t in
    let node_read : node max_depth 0 1 no_delay (counting (before_mark (rows_at 1 0 ls))) ≡ Ok t =
    ap (λ rs. node max_depth 0 1 no_delay (counting rs)) (all_before 1 0 ls good) ∙ ap (node max_depth 0 1 no_delay) (all_count 1 0 ls good) ∙ tree_back t 101 0 0 1 1 false refl (omega arith) f in
    let document_read : document (behind_start (counting (rows_at 1 0 ls))) ≡ Ok t =
    ap (λ rs. document (behind_start rs)) (all_count 1 0 ls good) ∙ ap document (no_start 1 0 ls good) ∙ (λ i. both kept (node_read i) (all_unmarked 1 0 ls good i)) in
    (λ i. both kept (document_read i) (none_lone 1 0 ls good i))

pub trees_back : TreesComeBack
unfolding reading
trees_back t memory decimals deep =
    let f = fits false t memory decimals in
    let good = (laid t false f).good in
    ap reading_of (text_rows (layout t) good) ∙ rows_read t f deep good
