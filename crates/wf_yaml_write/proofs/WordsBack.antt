-- Words, and empty lists and maps, are read back.
use Rattle.std.proofs.Common.{◌≡◌, ℕ, ◌≤◌, [], Bool, codes, Ok, refl, ap}
use Rattle.std.proofs.lemmas.Bool.{le-ltb}
use Rattle.wf_tree.specs.Trees.{list, map, no_items, no_pairs}
use Rattle.wf_yaml_line.specs.Fault.{refuse_if}
use Rattle.wf_yaml_flow.specs.Flow.{goes, joined}
use Rattle.wf_yaml_flow.specs.Line.{one_line, flow_tree}
use Rattle.wf_yaml_line.specs.declared.fault.Kind.TheVariants as kinds
use Rattle.wf_yaml_write.specs.Back.{WordsComeBack}

empty_list : (delay : Bool) (n d : ℕ) → d ≤ 100 → one_line delay n d (codes "[]") ≡ Ok (list no_items)
empty_list delay n d h = ap (λ t. flow_tree n (joined (λ _ u. u) (refuse_if t n kinds.TooDeep) (goes (Ok (list no_items)) []))) (le-ltb 100 d h)

empty_map : (delay : Bool) (n d : ℕ) → d ≤ 100 → one_line delay n d (codes "{}") ≡ Ok (map no_pairs)
empty_map delay n d h = ap (λ t. flow_tree n (joined (λ _ u. u) (refuse_if t n kinds.TooDeep) (goes (Ok (map no_pairs)) []))) (le-ltb 100 d h)

pub words_back : WordsComeBack
words_back = record {
  null_word = λ delay n d. refl;
  true_word = λ delay n d. refl;
  false_word = λ delay n d. refl;
  empty_list = empty_list;
  empty_map = empty_map;
}
