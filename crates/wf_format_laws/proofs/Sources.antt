-- What is read of a source has its decimals where they may stand.
use Rattle.std.proofs.Common.{◌≡◌, ◌⊎◌, inl, inr, ℕ, zero, suc, ◌+◌, ◌<◌, ◌≤◌, List, [], ◌∷◌, ◌++◌, Bool, true, false, not, ◌&&◌, ◌==◌, Option, Some, None, is_some, Result, Ok, Err, IfOk, refl, subst, arith}
use Rattle.std.proofs.lemmas.Bool.{cases_lt}
use Rattle.std.specs.List.{AllByRecursion}
use Rattle.wf_lemmas.proofs.Lists.{all_push}
use Rattle.wf_tree.specs.Trees.{Tree, list, map, items_of, pairs_of}
use Rattle.wf_value.specs.Maps.{with_value}
use Rattle.wf_yaml_flow.proofs.Shallow.{Any, any, both_is, cond_is, within}
use Rattle.wf_yaml_line.specs.Fault.{both, given, kept}
use Rattle.wf_yaml_flow.specs.Flow.{depth_fault}
use Rattle.wf_yaml_line.specs.Scalars.{is_delay_key}
use Rattle.wf_yaml_line.specs.Keys.{Key, key_of}
use Rattle.wf_yaml_flow.specs.Line.{one_line}
use Rattle.wf_yaml_line.specs.Marks.{behind_first, ends_line, skip_blanks}
use Rattle.wf_yaml_line.specs.declared.fault.Fault.{Fault}
use Rattle.wf_yaml.specs.BlockScalars.{block_scalar, block_lines, header_fault, is_folded, is_stripped, scalar_indent}
use Rattle.wf_yaml.specs.Blocks.{behind_fault, scalar, Reading, compact, item_content, list_entry, list_entries, pair_value, stray, pair_faults, pair_entry, map_entry, with_key, map_entries, list_of_entries, block_list, map_of_entries, block_map, node_at, deep, node}
use Rattle.wf_yaml.specs.Cuts.{entries_of, heads}
use Rattle.wf_yaml.specs.Reading.{no_delay, document, reading_of, reading}
use Rattle.wf_yaml.specs.Rows.{Row, rows, counting, has_tab, behind_start, before_mark, no_mark, no_lone_return}
use Rattle.wf_yaml.specs.Starts.{is_item, starts_block, starts_scalar, has_tab_gap}
use Rattle.wf_yaml_write.specs.Whole.{DecimalsFit}
use Rattle.wf_format_laws.specs.Fit.{YamlTreesFit}
use Rattle.wf_format_laws.proofs.Lines.{ItemsFit, PairFits, list_is, map_is, with_value_all, one_line_is}

given_is : {A B : Type 0} (f : A → B) (P : A → Type 0) (R : B → Type 0) (r : Result A Fault) → ((a : A) → P a → R (f a)) → IfOk r P → IfOk (given f r) R
given_is f P R (Ok a) h p = h a p
given_is f P R (Err g) h p = tt

-- ## Scalars
lines_are : (delay folded stripped : Bool) (m : Option ℕ) (behind : List Row) → IfOk (block_lines folded stripped m behind) (DecimalsFit delay)
lines_are delay folded stripped None behind = both_is (λ _ t. t) Any (DecimalsFit delay) (DecimalsFit delay) _ _ (λ a t p q. q) (any _) tt
lines_are delay folded stripped (Some m) behind = both_is (λ _ t. t) Any (DecimalsFit delay) (DecimalsFit delay) _ _ (λ a t p q. q) (any _) tt

block_scalar_is : (delay : Bool) (floor n : ℕ) (s : List ℕ) (behind : List Row) → IfOk (block_scalar floor n s behind) (DecimalsFit delay)
block_scalar_is delay floor n s behind =
    both_is (λ _ t. t) Any (DecimalsFit delay) (DecimalsFit delay) (header_fault n s) _ (λ a t p q. q) (any _) (lines_are delay (is_folded s) (is_stripped s) (scalar_indent floor behind) behind)

scalar_is : (floor d : ℕ) (delay : Bool) (n : ℕ) (s : List ℕ) (behind : List Row) → IfOk (scalar floor d delay n s behind) (DecimalsFit delay)
scalar_is floor d delay n s behind =
    cond_is (DecimalsFit delay) (starts_scalar s) _ _ (block_scalar_is delay floor n s behind)
    (both_is kept (DecimalsFit delay) Any (DecimalsFit delay) (one_line delay n d s) (behind_fault floor n s behind) (λ t a p q. p) (one_line_is delay n d s) (any _))

-- ## Lists and maps

-- Past the depth at which lists and maps are refused nothing is asked of what stands inside.
module _ (inner : Reading) (d : ℕ) (H : d ≤ 100 → (floor : ℕ) (delay : Bool) (rs : List Row) → IfOk (inner floor (d + 1) delay rs) (DecimalsFit delay)) where
  item_is : (le : d ≤ 100) (n : ℕ) (r : Row) (behind : List Row) → IfOk (item_content inner n d r behind) (DecimalsFit false)
  item_is le n r behind =
      cond_is (DecimalsFit false) (ends_line (behind_first r.text)) _ _ (H le (n + 1) false (counting behind))
      (cond_is (DecimalsFit false) (has_tab_gap (behind_first r.text) && starts_block (compact n r).text) _ _ tt (H le (n + 1) false (compact n r ∷ behind)))

  entry_is : (le : d ≤ 100) (n : ℕ) (e : Row × List Row) → IfOk (list_entry inner n d e) (DecimalsFit false)
  entry_is le n e = cond_is (DecimalsFit false) (not (has_tab e.0) && (e.0.indent == n) && is_item e.0.text) _ _ (item_is le n e.0 e.1) tt

  entries_are : (le : d ≤ 100) (n : ℕ) (so_far : Result (List Tree) Fault) (es : List (Row × List Row)) → IfOk so_far ItemsFit → IfOk (list_entries inner n d so_far es) ItemsFit
  entries_are le n so_far [] all = all
  entries_are le n so_far (e ∷ es) all =
      entries_are le n (both (λ ts t. ts ++ t ∷ []) so_far (list_entry inner n d e)) es
      (both_is (λ ts t. ts ++ t ∷ []) ItemsFit (DecimalsFit false) ItemsFit so_far (list_entry inner n d e) (λ ts t. all_push (DecimalsFit false) ts t) all (entry_is le n e))

  block_list_is : (delay : Bool) (r : Row) (behind : List Row) → IfOk (block_list inner d r behind) (DecimalsFit delay)
  block_list_is delay r behind = by (cases_lt 100 d)
    where
      by : (100 < d) ⊎ (d ≤ 100) → IfOk (block_list inner d r behind) (DecimalsFit delay)
      by (inl deep) = both_is (λ _ t. t) (λ _. d ≤ 100) Any (DecimalsFit delay) (depth_fault r.number d) (list_of_entries inner d r behind) (λ a t le q. absurd (omega (arith, deep, le))) (within r.number d) (any _)
      by (inr le) =
          both_is (λ _ t. t) Any (DecimalsFit delay) (DecimalsFit delay) (depth_fault r.number d) (list_of_entries inner d r behind) (λ a t p q. q) (any _)
          (given_is (λ ts. list (items_of ts)) ItemsFit (DecimalsFit delay) _ (λ ts all. list_is delay ts all) (entries_are le r.indent (Ok []) (entries_of (heads false r.indent) r behind) tt))

  value_is : (le : d ≤ 100) (n : ℕ) (delay : Bool) (number : ℕ) (rest : List ℕ) (behind : List Row) → IfOk (pair_value inner n d delay number rest behind) (DecimalsFit delay)
  value_is le n delay number rest behind =
      cond_is (DecimalsFit delay) (ends_line rest) _ _ (H le (n + 1) delay (counting behind)) (scalar_is (n + 1) (d + 1) delay number (skip_blanks rest) behind)

  stray_is : (number : ℕ) (s : List ℕ) → IfOk (stray d number s) PairFits
  stray_is number s = both_is (λ _ p. p) Any PairFits PairFits _ _ (λ a p x y. y) (any _) tt

  pair_is : (le : d ≤ 100) (n : ℕ) (keys : List (List ℕ)) (r : Row) (behind : List Row) (k : Option Key) → IfOk (pair_entry inner n d keys r behind k) PairFits
  pair_is le n keys r behind (Some k) =
      both_is (λ _ t. (k.text, t)) Any (DecimalsFit (is_delay_key k.text)) PairFits (pair_faults r.number keys k) _ (λ a t p q. q) (any _) (value_is le n (is_delay_key k.text) r.number k.rest behind)
  pair_is le n keys r behind None = stray_is r.number r.text

  map_entry_is : (le : d ≤ 100) (n : ℕ) (keys : List (List ℕ)) (e : Row × List Row) → IfOk (map_entry inner n d keys e) PairFits
  map_entry_is le n keys e = cond_is PairFits (not (has_tab e.0) && (e.0.indent == n)) _ _ (pair_is le n keys e.0 e.1 (key_of e.0.text)) tt

  map_entries_are : (le : d ≤ 100) (n : ℕ) (so_far : Result (List (List ℕ × Tree)) Fault) (keys : List (List ℕ)) (es : List (Row × List Row)) → IfOk so_far (AllByRecursion PairFits)
      → IfOk (map_entries inner n d so_far keys es) (AllByRecursion PairFits)
  map_entries_are le n so_far keys [] all = all
  map_entries_are le n so_far keys (e ∷ es) all =
      map_entries_are le n (both (λ ps p. with_value p.0 p.1 ps) so_far (map_entry inner n d keys e)) (with_key (key_of e.0.text) keys) es
      (both_is (λ ps p. with_value p.0 p.1 ps) (AllByRecursion PairFits) PairFits (AllByRecursion PairFits) so_far (map_entry inner n d keys e)
      (λ ps p all is. with_value_all p.0 p.1 ps is all) all (map_entry_is le n keys e))

  block_map_is : (delay : Bool) (r : Row) (behind : List Row) → IfOk (block_map inner d r behind) (DecimalsFit delay)
  block_map_is delay r behind = by (cases_lt 100 d)
    where
      by : (100 < d) ⊎ (d ≤ 100) → IfOk (block_map inner d r behind) (DecimalsFit delay)
      by (inl deep) = both_is (λ _ t. t) (λ _. d ≤ 100) Any (DecimalsFit delay) (depth_fault r.number d) (map_of_entries inner d r behind) (λ a t le q. absurd (omega (arith, deep, le))) (within r.number d) (any _)
      by (inr le) =
          both_is (λ _ t. t) Any (DecimalsFit delay) (DecimalsFit delay) (depth_fault r.number d) (map_of_entries inner d r behind) (λ a t p q. q) (any _)
          (given_is (λ ps. map (pairs_of ps)) (AllByRecursion PairFits) (DecimalsFit delay) _ (λ ps all. map_is delay ps all) (map_entries_are le r.indent (Ok []) [] (entries_of (heads true r.indent) r behind) tt))

  node_at_is : (floor : ℕ) (delay : Bool) (rs : List Row) → IfOk (node_at inner floor d delay rs) (DecimalsFit delay)
  node_at_is floor delay [] = tt
  node_at_is floor delay (r ∷ behind) =
      cond_is (DecimalsFit delay) (has_tab r) _ _ tt
      (cond_is (DecimalsFit delay) (is_item r.text) _ _ (block_list_is delay r behind)
      (cond_is (DecimalsFit delay) (is_some (key_of r.text)) _ _ (block_map_is delay r behind) (scalar_is floor d delay r.number r.text behind)))

-- m levels are left of 101
node_is : (m floor d : ℕ) (delay : Bool) (rs : List Row) → d + m ≡ 101 → IfOk (node m floor d delay rs) (DecimalsFit delay)
node_is zero floor d delay rs left = node_at_is deep d (λ le. absurd (omega (arith, le, left))) floor delay rs
node_is (suc m) floor d delay rs left =
    node_at_is (λ f e k ls. node m f e k ls) d (λ le f k ls. node_is m f (d + 1) k ls (omega (arith, left))) floor delay rs

-- ## Sources
reading_of_is : (rs : List Row) → IfOk (reading_of rs) (DecimalsFit false)
reading_of_is rs =
    both_is kept (DecimalsFit false) Any (DecimalsFit false) (document (behind_start (counting rs))) (no_lone_return rs) (λ t a p q. p)
    (both_is kept (DecimalsFit false) Any (DecimalsFit false) _ (no_mark (behind_start (counting rs))) (λ t a p q. p) (node_is 100 0 1 no_delay (counting (before_mark (behind_start (counting rs)))) refl) (any _)) (any _)

pub yaml_trees_fit : YamlTreesFit
unfolding reading
yaml_trees_fit source t is = subst (λ r. IfOk r (DecimalsFit false)) is (reading_of_is (rows source))
