-- What is read of a source nests at most 100 deep.
use Rattle.std.proofs.Common.{ℕ, zero, suc, ◌+◌, ◌≤◌, List, [], ◌∷◌, ◌++◌, length, Bool, true, false, not, ◌&&◌, ◌==◌, Option, Some, None, is_some, Result, Ok, Err, IfOk, subst, add-one, arith}
use Rattle.std.specs.List.{AllByRecursion}
use Rattle.wf_lemmas.proofs.Lists.{all_push}
use Rattle.wf_tree.specs.Trees.{Tree, list, map, items_of, pairs_of, depth}
use Rattle.wf_value.specs.Maps.{with_value}
use Rattle.wf_yaml_flow.proofs.Shallow.{IsShallow, Any, any, both_is, cond_is, list_is, map_is, within, with_value_all, one_line_is}
use Rattle.wf_yaml_line.specs.Fault.{both, given, kept}
use Rattle.wf_yaml_flow.specs.Flow.{depth_fault}
use Rattle.wf_yaml_line.specs.Scalars.{is_delay_key}
use Rattle.wf_yaml_line.specs.Keys.{Key, key_of}
use Rattle.wf_yaml_flow.specs.Line.{one_line}
use Rattle.wf_yaml_line.specs.Marks.{behind_first, ends_line, skip_blanks}
use Rattle.wf_tree.specs.Plain.{plain_tree}
use Rattle.wf_tree.specs.declared.tree.Tree.{Tree as Node}
use Rattle.wf_yaml_line.specs.Views.{ReadsAs}
use Rattle.wf_yaml_line.specs.declared.fault.Fault.{Fault}
use Rattle.wf_yaml_line.specs.declared.fault.YamlFault.{YamlFault}
use Rattle.wf_yaml.specs.BlockScalars.{block_scalar, block_lines, header_fault, is_folded, is_stripped, scalar_indent}
use Rattle.wf_yaml.specs.Blocks.{behind_fault, scalar, Reading, compact, item_content, list_entry, list_entries, pair_value, stray, pair_faults, pair_entry, map_entry, with_key, map_entries, list_of_entries, block_list, map_of_entries, block_map, node_at, line_alone, value_line, key_line, other_line, deep_line, deep, node}
use Rattle.wf_yaml.specs.Cuts.{entries_of, heads}
use Rattle.wf_yaml.specs.Reading.{no_delay, document, reading_of, reading}
use Rattle.wf_yaml.specs.Rows.{Row, counting, has_tab, behind_start, before_mark, no_mark, no_lone_return}
use Rattle.wf_yaml.specs.Starts.{is_item, starts_block, starts_scalar, has_tab_gap}

given_is : {A B : Type 0} (f : A → B) (P : A → Type 0) (R : B → Type 0) (r : Result A Fault) → ((a : A) → P a → R (f a)) → IfOk r P → IfOk (given f r) R
given_is f P R (Ok a) h p = h a p
given_is f P R (Err g) h p = tt

-- ## Scalars
lines_are : (d : ℕ) (folded stripped : Bool) (m : Option ℕ) (behind : List Row) → IfOk (block_lines folded stripped m behind) (IsShallow d)
lines_are d folded stripped None behind = both_is (λ _ t. t) Any (IsShallow d) (IsShallow d) _ _ (λ a t p q. q) (any _) (omega arith)
lines_are d folded stripped (Some m) behind = both_is (λ _ t. t) Any (IsShallow d) (IsShallow d) _ _ (λ a t p q. q) (any _) (omega arith)

block_scalar_is : (d floor n : ℕ) (s : List ℕ) (behind : List Row) → IfOk (block_scalar floor n s behind) (IsShallow d)
block_scalar_is d floor n s behind = both_is (λ _ t. t) Any (IsShallow d) (IsShallow d) (header_fault n s) _ (λ a t p q. q) (any _) (lines_are d (is_folded s) (is_stripped s) (scalar_indent floor behind) behind)

scalar_is : (floor d : ℕ) (delay : Bool) (n : ℕ) (s : List ℕ) (behind : List Row) → IfOk (scalar floor d delay n s behind) (IsShallow d)
scalar_is floor d delay n s behind =
    cond_is (IsShallow d) (starts_scalar s) _ _ (block_scalar_is d floor n s behind)
    (both_is kept (IsShallow d) Any (IsShallow d) (one_line delay n d s) (behind_fault floor n s behind) (λ t a p q. p) (one_line_is delay n d s) (any _))

-- ## Lists and maps
-- a depth is told as d + 1 or as suc d
next : (d : ℕ) (r : Result Tree Fault) → IfOk r (IsShallow (d + 1)) → IfOk r (IsShallow (suc d))
next d r is = subst (λ e. IfOk r (IsShallow e)) (add-one d) is

module _ (inner : Reading) (H : (floor d : ℕ) (delay : Bool) (rs : List Row) → IfOk (inner floor d delay rs) (IsShallow d)) where
  item_is : (n d : ℕ) (r : Row) (behind : List Row) → IfOk (item_content inner n d r behind) (IsShallow (suc d))
  item_is n d r behind =
      next d _ (cond_is (IsShallow (d + 1)) (ends_line (behind_first r.text)) _ _ (H (n + 1) (d + 1) false (counting behind))
      (cond_is (IsShallow (d + 1)) (has_tab_gap (behind_first r.text) && starts_block (compact n r).text) _ _ tt (H (n + 1) (d + 1) false (compact n r ∷ behind))))

  entry_is : (n d : ℕ) (e : Row × List Row) → IfOk (list_entry inner n d e) (IsShallow (suc d))
  entry_is n d e = cond_is (IsShallow (suc d)) (not (has_tab e.0) && (e.0.indent == n) && is_item e.0.text) _ _ (item_is n d e.0 e.1) tt

  entries_are : (n d : ℕ) (so_far : Result (List Tree) Fault) (es : List (Row × List Row)) → IfOk so_far (AllByRecursion (IsShallow (suc d))) → IfOk (list_entries inner n d so_far es) (AllByRecursion (IsShallow (suc d)))
  entries_are n d so_far [] all = all
  entries_are n d so_far (e ∷ es) all =
      entries_are n d (both (λ ts t. ts ++ t ∷ []) so_far (list_entry inner n d e)) es (both_is (λ ts t. ts ++ t ∷ []) (AllByRecursion (IsShallow (suc d))) (IsShallow (suc d)) (AllByRecursion (IsShallow (suc d))) so_far (list_entry inner n d e) (λ ts t. all_push (IsShallow (suc d)) ts t) all (entry_is n d e))

  block_list_is : (d : ℕ) (r : Row) (behind : List Row) → IfOk (block_list inner d r behind) (IsShallow d)
  block_list_is d r behind =
      both_is (λ _ t. t) (λ _. d ≤ 100) (λ t. d ≤ 100 → IsShallow d t) (IsShallow d) (depth_fault r.number d) (list_of_entries inner d r behind) (λ a t le h. h le) (within r.number d)
      (given_is (λ ts. list (items_of ts)) (AllByRecursion (IsShallow (suc d))) (λ t. d ≤ 100 → IsShallow d t) _ (λ ts all le. list_is d ts le all) (entries_are r.indent d (Ok []) (entries_of (heads false r.indent) r behind) tt))

  value_is : (n d : ℕ) (delay : Bool) (number : ℕ) (rest : List ℕ) (behind : List Row) → IfOk (pair_value inner n d delay number rest behind) (IsShallow (suc d))
  value_is n d delay number rest behind =
      next d _ (cond_is (IsShallow (d + 1)) (ends_line rest) _ _ (H (n + 1) (d + 1) delay (counting behind)) (scalar_is (n + 1) (d + 1) delay number (skip_blanks rest) behind))

  stray_is : (d number : ℕ) (s : List ℕ) → IfOk (stray d number s) (λ p. IsShallow (suc d) p.1)
  stray_is d number s = both_is (λ _ p. p) Any (λ p. IsShallow (suc d) p.1) (λ p. IsShallow (suc d) p.1) _ _ (λ a p x y. y) (any _) tt

  pair_is : (n d : ℕ) (keys : List (List ℕ)) (r : Row) (behind : List Row) (k : Option Key) → IfOk (pair_entry inner n d keys r behind k) (λ p. IsShallow (suc d) p.1)
  pair_is n d keys r behind (Some k) =
      both_is (λ _ t. (k.text, t)) Any (IsShallow (suc d)) (λ p. IsShallow (suc d) p.1) (pair_faults r.number keys k) _ (λ a t p q. q) (any _) (value_is n d (is_delay_key k.text) r.number k.rest behind)
  pair_is n d keys r behind None = stray_is d r.number r.text

  map_entry_is : (n d : ℕ) (keys : List (List ℕ)) (e : Row × List Row) → IfOk (map_entry inner n d keys e) (λ p. IsShallow (suc d) p.1)
  map_entry_is n d keys e = cond_is (λ p. IsShallow (suc d) p.1) (not (has_tab e.0) && (e.0.indent == n)) _ _ (pair_is n d keys e.0 e.1 (key_of e.0.text)) tt

  map_entries_are : (n d : ℕ) (so_far : Result (List (List ℕ × Tree)) Fault) (keys : List (List ℕ)) (es : List (Row × List Row)) → IfOk so_far (AllByRecursion (λ p. IsShallow (suc d) p.1))
      → IfOk (map_entries inner n d so_far keys es) (AllByRecursion (λ p. IsShallow (suc d) p.1))
  map_entries_are n d so_far keys [] all = all
  map_entries_are n d so_far keys (e ∷ es) all =
      map_entries_are n d (both (λ ps p. with_value p.0 p.1 ps) so_far (map_entry inner n d keys e)) (with_key (key_of e.0.text) keys) es
      (both_is (λ ps p. with_value p.0 p.1 ps) (AllByRecursion (λ p. IsShallow (suc d) p.1)) (λ p. IsShallow (suc d) p.1) (AllByRecursion (λ p. IsShallow (suc d) p.1)) so_far (map_entry inner n d keys e)
      (λ ps p all is. with_value_all (IsShallow (suc d)) p.0 p.1 ps is all) all (map_entry_is n d keys e))

  block_map_is : (d : ℕ) (r : Row) (behind : List Row) → IfOk (block_map inner d r behind) (IsShallow d)
  block_map_is d r behind =
      both_is (λ _ t. t) (λ _. d ≤ 100) (λ t. d ≤ 100 → IsShallow d t) (IsShallow d) (depth_fault r.number d) (map_of_entries inner d r behind) (λ a t le h. h le) (within r.number d)
      (given_is (λ ps. map (pairs_of ps)) (AllByRecursion (λ p. IsShallow (suc d) p.1)) (λ t. d ≤ 100 → IsShallow d t) _ (λ ps all le. map_is d ps le all) (map_entries_are r.indent d (Ok []) [] (entries_of (heads true r.indent) r behind) tt))

  node_at_is : (floor d : ℕ) (delay : Bool) (rs : List Row) → IfOk (node_at inner floor d delay rs) (IsShallow d)
  node_at_is floor d delay [] = omega arith
  node_at_is floor d delay (r ∷ behind) =
      cond_is (IsShallow d) (has_tab r) _ _ tt
      (cond_is (IsShallow d) (is_item r.text) _ _ (block_list_is d r behind)
      (cond_is (IsShallow d) (is_some (key_of r.text)) _ _ (block_map_is d r behind) (scalar_is floor d delay r.number r.text behind)))

-- ## Where blocks nest too deep
alone_is : (delay : Bool) (n d : ℕ) (s : List ℕ) → IfOk (line_alone delay n d s) (IsShallow d)
alone_is delay n d s =
    cond_is (IsShallow d) (starts_scalar s) _ _ (both_is (λ _ t. t) Any (IsShallow d) (IsShallow d) (header_fault n s) _ (λ a t p q. q) (any _) (omega arith)) (one_line_is delay n d s)

key_line_is : (n d : ℕ) (k : Key) → IfOk (key_line n d k) (IsShallow d)
key_line_is n d k =
    both_is (λ _ t. t) Any (IsShallow d) (IsShallow d) _ (value_line n d k) (λ a t p q. q) (any _)
    (cond_is (IsShallow d) (ends_line k.rest) _ _ (omega arith) (alone_is (is_delay_key k.text) n d (skip_blanks k.rest)))

other_is : (n d : ℕ) (s : List ℕ) (k : Option Key) → IfOk (other_line n d s k) (IsShallow d)
other_is n d s (Some k) = key_line_is n d k
other_is n d s None = alone_is false n d s

deep_line_is : (m n d : ℕ) (s : List ℕ) → IfOk (deep_line m n d s) (IsShallow d)
deep_line_is zero n d s = omega arith
deep_line_is (suc m) n d s =
    cond_is (IsShallow d) (is_item s) _ _
    (cond_is (IsShallow d) (ends_line (behind_first s)) _ _ (omega arith)
    (cond_is (IsShallow d) (has_tab_gap (behind_first s) && starts_block (skip_blanks (behind_first s))) _ _ tt (deep_line_is m n d (skip_blanks (behind_first s)))))
    (other_is n d s (key_of s))

deep_is : (floor d : ℕ) (delay : Bool) (rs : List Row) → IfOk (deep floor d delay rs) (IsShallow d)
deep_is floor d delay [] = omega arith
deep_is floor d delay (r ∷ behind) = deep_line_is (length r.text) r.number d r.text

node_is : (m floor d : ℕ) (delay : Bool) (rs : List Row) → IfOk (node m floor d delay rs) (IsShallow d)
node_is zero floor d delay rs = node_at_is deep (λ f e k ls. deep_is f e k ls) floor d delay rs
node_is (suc m) floor d delay rs = node_at_is (λ f e k ls. node m f e k ls) (λ f e k ls. node_is m f e k ls) floor d delay rs

-- ## Sources
pub reading_of_is : (rs : List Row) → IfOk (reading_of rs) (λ t. depth t ≤ 100)
reading_of_is rs =
    both_is kept (λ t. depth t ≤ 100) Any (λ t. depth t ≤ 100) (document (behind_start (counting rs))) (no_lone_return rs) (λ t a p q. p)
    (both_is kept (IsShallow 1) Any (λ t. depth t ≤ 100) _ (no_mark (behind_start (counting rs))) (λ t a p q. p) (node_is 100 0 1 no_delay (counting (before_mark (behind_start (counting rs))))) (any _)) (any _)

-- so is a tree that was given
pub depth_given : (r : Result Node YamlFault) (read : Result Tree Fault) → ReadsAs plain_tree r read → IfOk read (λ t. depth t ≤ 100) → IfOk r (λ t. depth (plain_tree t) ≤ 100)
depth_given (Ok t) read is all = subst (λ q. IfOk q (λ u. depth u ≤ 100)) is all
depth_given (Err e) read is all = tt
