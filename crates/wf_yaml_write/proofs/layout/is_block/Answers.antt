use Rattle.std.proofs.Common.{not, ap, sym, ◌∙◌}
use Rattle.wf_tree.specs.Trees.{list, map, items_of, pairs_of}
use Rattle.wf_tree.specs.Plain.{plain_tree}
use Rattle.wf_yaml_write.specs.Layout.{is_block}
use Rattle.wf_yaml_write.proofs.Parts.{some_items, some_pairs}
use Rattle.wf_yaml_write.proofs.layout.is_block.Goals as goal

pub returns-in-List : goal.returns-in-List
returns-in-List c =
    ap not c.is_empty.ensures ∙ some_items c.items.result.now ∙ ap (λ ts. is_block (list (items_of ts))) c.items.ensures ∙ ap (λ t. is_block (plain_tree t)) (sym c.in-List.is)

pub returns-in-Map : goal.returns-in-Map
returns-in-Map c =
    ap not c.is_empty-in-Map.ensures ∙ some_pairs c.pairs.result.now ∙ ap (λ ps. is_block (map (pairs_of ps))) c.pairs.ensures.pairs ∙ ap (λ t. is_block (plain_tree t)) (sym c.in-Map.is)
