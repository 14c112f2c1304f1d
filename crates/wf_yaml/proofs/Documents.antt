-- A source gives a tree exactly where it is that tree.
use Rattle.std.proofs.Common.{◌≡◌, ℕ, List, [], ◌∷◌, false, Ok, refl, sym, ap, ◌∙◌, subst}
use Rattle.std.specs.List.{AllByRecursion}
use Rattle.wf_lemmas.proofs.Bools.{cond_false}
use Rattle.wf_tree.specs.Trees.{Tree}
use Rattle.wf_yaml_line.specs.declared.fault.Kind.TheVariants as kinds
use Rattle.wf_yaml_line.specs.Fault.{kept}
use Rattle.wf_yaml_flow.specs.Flow.{max_depth}
use Rattle.wf_yaml_line.specs.Marks.{among, return_mark}
use Rattle.wf_yaml.specs.Blocks.{node}
use Rattle.wf_yaml.specs.Reading.{no_delay, document, reading}
use Rattle.wf_yaml.specs.Relation.{Reads, body, IsTreeOf, TreesAreRead, OneTreeAtMost}
use Rattle.wf_yaml.specs.Rows.{Row, rows, counting, before_mark, is_any_mark, no_mark, no_lone_return}
use Rattle.wf_yaml.proofs.Relation.{parts, made, ok_same, cleared, nodes_agree}

-- ---- marks and returns

unmarked : (rs : List Row) (a : Unit {0}) → no_mark rs ≡ Ok a → AllByRecursion (λ r. is_any_mark r ≡ false) rs
unmarked [] a h = tt
unmarked (r ∷ rs) a h =
    let c = cleared (is_any_mark r) (no_mark rs) (record { line = r.number; kind = kinds.Unsupported }) a h in
    (c.0, unmarked rs a c.1)

no_mark_made : (rs : List Row) → AllByRecursion (λ r. is_any_mark r ≡ false) rs → no_mark rs ≡ Ok tt
no_mark_made [] all = refl
no_mark_made (r ∷ rs) all = cond_false (is_any_mark r) _ _ all.0 ∙ no_mark_made rs all.1

all_before : (rs : List Row) → AllByRecursion (λ r. is_any_mark r ≡ false) rs → before_mark rs ≡ rs
all_before [] all = refl
all_before (r ∷ rs) all = cond_false (is_any_mark r) _ _ all.0 ∙ ap (λ l. r ∷ l) (all_before rs all.1)

unreturned : (rs : List Row) (a : Unit {0}) → no_lone_return rs ≡ Ok a → AllByRecursion (λ r. among r.text return_mark ≡ false) rs
unreturned [] a h = tt
unreturned (r ∷ rs) a h =
    let c = cleared (among r.text return_mark) (no_lone_return rs) (record { line = r.number; kind = kinds.Unsupported }) a h in
    (c.0, unreturned rs a c.1)

no_return_made : (rs : List Row) → AllByRecursion (λ r. among r.text return_mark ≡ false) rs → no_lone_return rs ≡ Ok tt
no_return_made [] all = refl
no_return_made (r ∷ rs) all = cond_false (among r.text return_mark) _ _ all.0 ∙ no_return_made rs all.1

-- ---- the source

source_there : (source : List ℕ) (t : Tree) → reading source ≡ Ok t → IsTreeOf source t
unfolding reading
source_there source t h =
    let p = parts kept (document (body source)) (no_lone_return (rows source)) t h in
    let q = parts kept (node max_depth 0 1 no_delay (counting (before_mark (body source)))) (no_mark (body source)) p.first p.is_first in
    let all = unmarked (body source) q.second q.is_second in
    record {
      content = subst (λ u. Reads 0 1 no_delay (counting (body source)) u) (sym (p.is ∙ q.is)) ((nodes_agree max_depth 1 refl 0 no_delay (counting (body source)) q.first).0 (ap (λ l. node max_depth 0 1 no_delay (counting l)) (sym (all_before (body source) all)) ∙ q.is_first));
      one_document = all;
      line_ends = unreturned (rows source) p.second p.is_second;
    }

source_made : (source : List ℕ) (t : Tree) → IsTreeOf source t → reading source ≡ Ok t
unfolding reading
source_made source t is =
    made kept (document (body source)) (no_lone_return (rows source)) t tt
    (made kept (node max_depth 0 1 no_delay (counting (before_mark (body source)))) (no_mark (body source)) t tt
    (ap (λ l. node max_depth 0 1 no_delay (counting l)) (all_before (body source) is.one_document) ∙ (nodes_agree max_depth 1 refl 0 no_delay (counting (body source)) t).1 is.content)
    (no_mark_made (body source) is.one_document))
    (no_return_made (rows source) is.line_ends)

pub trees_are_read : TreesAreRead
trees_are_read source t = (source_there source t, source_made source t)

pub one_tree : OneTreeAtMost
one_tree source t u is also = ok_same t u (reading source) (source_made source t is) (source_made source u also)
