use Rattle.std.proofs.Common.{rules, w64, string_bytes, ◌≡◌, ◌++◌, take, drop, length, ◌-◌, ap, ◌∙◌, sym, arith, codes, replicate, ◌+◌}
use Rattle.std.proofs.lemmas.Result.{on_ok_weaker}
use Rattle.wf_lemmas.proofs.Lists.{item_at}
use mir.Val.{SFits}
use Rattle.wf_tree.specs.Trees.{list, map, items_of, pairs_of}
use Rattle.wf_tree.specs.Plain.{plain_tree, plain_items, plain_pairs}
use Rattle.wf_yaml_line.specs.Marks.{space}
use Rattle.wf_yaml_write.specs.Laid.{laid}
use Rattle.wf_yaml_write.specs.Layout.{layout, written_text}
use Rattle.wf_yaml_write.proofs.Lines.{laid_item, laid_beside, laid_below}
use Rattle.wf_yaml_write.proofs.Memory.{number_in_memory, map_in_memory, items_next, pairs_next}
use Rattle.wf_yaml_write.proofs.Parts.{list_deep, map_deep, item_deep, pair_deep, first_rest, items_deep, pairs_deep, items_start, items_step, pairs_start, pairs_step}
use Rattle.wf_yaml_write.proofs.layout.+write.Goals as goal

pub push_tree-push_items-requires : goal.push_tree-push_items-requires
push_tree-push_items-requires t c = let h = list_deep c.args.tree.now _ c.items.result.now c.in-List.is c.items.ensures in (omega arith, omega arith)

pub push_tree-push_pairs-requires : goal.push_tree-push_pairs-requires
push_tree-push_pairs-requires t c = let h = map_deep c.args.tree.now _ c.pairs.result.now c.in-Map.is c.pairs.ensures.pairs in (omega arith, omega arith)

pub push_tree-returns-in-Int-clause-memory : goal.push_tree-returns-in-Int-clause-memory
push_tree-returns-in-Int-clause-memory t c =
    let fits : SFits w64 c.in-Int.n = search rules in
    on_ok_weaker c.push_number.result (λ e. number_in_memory c.args.tree.now c.in-Int.n c.in-Int.is fits) c.push_number.ensures

pub push_tree-returns-in-Map-clause-memory : goal.push_tree-returns-in-Map-clause-memory
push_tree-returns-in-Map-clause-memory t c =
    on_ok_weaker c.push_pairs.result (map_in_memory c.args.tree.now _ c.pairs.result.now c.in-Map.is c.pairs.ensures.pairs c.pairs.ensures.order) c.push_pairs.ensures.memory

pub push_item-returns-clause-text : goal.push_item-returns-clause-text
push_item-returns-clause-text t c =
    on_ok_weaker c.push_tree.result (λ e. e ∙ ap (λ s. s ++ laid (c.args.indent + 2) (layout (plain_tree c.args.item.now))) c.in_ok-push_str.ensures.bytes ∙ laid_item c.args.indent (plain_tree c.args.item.now) (string_bytes c.args.out.now)) c.push_tree.ensures.text

pub push_items-push_more_items-requires : goal.push_items-push_more_items-requires
push_items-push_more_items-requires t c =
    let e = first_rest c.args.items.now c.first-item.result c.in-len1-up.len_at_least c.first-item.is in
    (omega (arith, ap items_deep e), omega (arith, ap items_deep e))

pub push_items-returns-in_ok-push_item-in-len1-up-clause-text : goal.push_items-returns-in_ok-push_item-in-len1-up-clause-text
push_items-returns-in_ok-push_item-in-len1-up-clause-text t c =
    let ts = c.args.items.now in
    let rest = take (length ts - 1) (drop 1 ts) in
    let e = first_rest ts c.first-item.result c.in-len1-up.len_at_least c.first-item.is in
    on_ok_weaker c.push_more_items.result
    (λ d. items_start c.args.indent (string_bytes c.args.out.now) _ _ c.first-item.result rest c.in_ok-push_item-in-len1-up.ensures.text d
    ∙ ap (λ ts. string_bytes c.args.out.now ++ laid c.args.indent (layout (list (items_of (plain_items ts))))) (sym e))
    c.push_more_items.ensures.text

pub push_more_items-push_item-requires : goal.push_more_items-push_item-requires
push_more_items-push_item-requires t c = let h = item_deep c.args.items.now c.loop-item.item-index c.item-item.result c.loop-item-test.true c.item-item.is in (omega arith, omega arith)

pub push_more_items-loop-item-preserved : goal.push_more_items-loop-item-preserved
push_more_items-loop-item-preserved t c =
    let e = item_at c.args.items.now c.loop-item.item-index c.item-item.result c.loop-item-test.true c.item-item.is in (
      items_step c.args.indent c.loop-item.item-index _ _ _ _ c.args.items.now c.item-item.result e c.loop-item.invariant.0 c.in_ok-push_spaces.ensures c.in_ok-push_item.ensures.text,
      items_next c.loop-item.item-index c.args.items.now c.item-item.result _ e c.loop-item.invariant.1 c.in_ok-push_item.ensures.memory,
    )

pub push_pair-returns-in_ok-push_spaces-clause-text : goal.push_pair-returns-in_ok-push_spaces-clause-text
push_pair-returns-in_ok-push_spaces-clause-text t c =
    let u = plain_tree c.args.item.now in
    let n = c.args.indent in
    let out = string_bytes c.args.out.now in
    let key = written_text c.args.key.now in
    let text : string_bytes c.push_text.new.out ≡ out ++ key = c.in_ok-push_text.ensures ∙ ap (λ s. out ++ written_text s) c.as_str.ensures in
    let colon : string_bytes c.push_str.new.self ≡ (out ++ key) ++ codes ":\n" = c.in_ok-push_str.ensures.bytes ∙ ap (λ s. s ++ codes ":\n") text in
    let spaces : string_bytes c.push_spaces.new.out ≡ ((out ++ key) ++ codes ":\n") ++ replicate (n + 2) space = c.in_ok-push_spaces.ensures ∙ ap (λ s. s ++ replicate (n + 2) space) colon in
    on_ok_weaker c.push_tree.result (λ e. e ∙ ap (λ s. s ++ laid (n + 2) (layout u)) spaces ∙ laid_below n c.args.key.now u out (sym c.is_block.ensures ∙ c.if-is_block.true)) c.push_tree.ensures.text

pub push_pair-returns-in_ok-push_str-2-clause-text : goal.push_pair-returns-in_ok-push_str-2-clause-text
push_pair-returns-in_ok-push_str-2-clause-text t c =
    let u = plain_tree c.args.item.now in
    let n = c.args.indent in
    let out = string_bytes c.args.out.now in
    let key = written_text c.args.key.now in
    let text : string_bytes c.push_text.new.out ≡ out ++ key = c.in_ok-push_text.ensures ∙ ap (λ s. out ++ written_text s) c.as_str.ensures in
    let colon : string_bytes c.push_str-else-is_block.new.self ≡ (out ++ key) ++ codes ": " = c.in_ok-push_str-2.ensures.bytes ∙ ap (λ s. s ++ codes ": ") text in
    on_ok_weaker c.push_tree-else-is_block.result (λ e. e ∙ ap (λ s. s ++ laid n (layout u)) colon ∙ laid_beside n c.args.key.now u out (sym c.is_block.ensures ∙ c.if-is_block.false)) c.push_tree-else-is_block.ensures.text

pub push_pairs-push_more_pairs-requires : goal.push_pairs-push_more_pairs-requires
push_pairs-push_more_pairs-requires t c =
    let e = first_rest c.args.pairs.now c.first-item.result c.in-len1-up.len_at_least c.first-item.is in
    (omega (arith, ap pairs_deep e), omega (arith, ap pairs_deep e))

pub push_pairs-returns-in_ok-push_pair-in-len1-up-clause-text : goal.push_pairs-returns-in_ok-push_pair-in-len1-up-clause-text
push_pairs-returns-in_ok-push_pair-in-len1-up-clause-text t c =
    let ps = c.args.pairs.now in
    let rest = take (length ps - 1) (drop 1 ps) in
    let e = first_rest ps c.first-item.result c.in-len1-up.len_at_least c.first-item.is in
    on_ok_weaker c.push_more_pairs.result
    (λ d. pairs_start c.args.indent (string_bytes c.args.out.now) _ _ c.first-item.result rest c.in_ok-push_pair-in-len1-up.ensures.text d
    ∙ ap (λ ps. string_bytes c.args.out.now ++ laid c.args.indent (layout (map (pairs_of (plain_pairs ps))))) (sym e))
    c.push_more_pairs.ensures.text

pub push_more_pairs-push_pair-requires : goal.push_more_pairs-push_pair-requires
push_more_pairs-push_pair-requires t c = let h = pair_deep c.args.pairs.now c.loop-pair.pair-index c.pair-item.result c.loop-pair-test.true c.pair-item.is in (omega arith, omega arith)

pub push_more_pairs-loop-pair-preserved : goal.push_more_pairs-loop-pair-preserved
push_more_pairs-loop-pair-preserved t c =
    let e = item_at c.args.pairs.now c.loop-pair.pair-index c.pair-item.result c.loop-pair-test.true c.pair-item.is in (
      pairs_step c.args.indent c.loop-pair.pair-index _ _ _ _ c.args.pairs.now c.pair-item.result e c.loop-pair.invariant.0 c.in_ok-push_spaces.ensures c.in_ok-push_pair.ensures.text,
      pairs_next c.loop-pair.pair-index c.args.pairs.now c.pair-item.result _ e c.loop-pair.invariant.1 c.in_ok-push_pair.ensures.memory,
    )
