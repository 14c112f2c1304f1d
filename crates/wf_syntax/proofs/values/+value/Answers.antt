use Rattle.std.proofs.Common.{rules, w64, FitsSigned, ℕ, List, ◌∙◌, subst, arith}
use Rattle.std.proofs.lemmas.Int.{to_z-of_z}
use Rattle.wf_ast.specs.View.{template_view, templates_view}
use Rattle.wf_value.specs.Stops.{IsOutside}
use Rattle.wf_value.specs.declared.path.PathPart.TheVariants.{Key}
use Rattle.wf_syntax.proofs.Valued.{null_gives, bool_gives, list_deep, map_deep, item_deep, pair_deep, list_gives, literals_give, map_gives, int_gives, values_fails, values_step, named_fails, named_step}
use Rattle.wf_syntax.proofs.values.+value.Goals as goal

pub value-values-requires : goal.value-values-requires
value-values-requires t c = let h = list_deep c.args.tree.now _ c.items-items.result.now c.in-List.is c.items-items.ensures in (omega arith, tt)

pub value-named_values-requires : goal.value-named_values-requires
value-named_values-requires t c = let h = map_deep c.args.tree.now _ c.pairs.result.now c.in-Map.is c.pairs.ensures.pairs in (omega arith, tt)

pub value-returns-in-Null : goal.value-returns-in-Null
value-returns-in-Null t c = null_gives c.args.tree.now c.in-Null.is

pub value-returns-in-Bool : goal.value-returns-in-Bool
value-returns-in-Bool t c = bool_gives c.args.tree.now c.in-Bool.b c.in-Bool.is

pub value-returns-in-Some : goal.value-returns-in-Some
value-returns-in-Some t c = literals_give c.args.tree.now _ c.items-items.result.now c.in-Some.list c.in-List.is c.items-items.ensures (rw c.in-Some.is at c.in_ok-list-in-List.ensures)

pub value-returns-in_ok-values-in-None : goal.value-returns-in_ok-values-in-None
value-returns-in_ok-values-in-None t c = list_gives c.args.tree.now _ c.items-items.result.now c.in_ok-values-in-None.field-0 c.in-List.is c.items-items.ensures c.in_ok-values-in-None.ensures

pub value-returns-in_ok-named_values-in-Map : goal.value-returns-in_ok-named_values-in-Map
value-returns-in_ok-named_values-in-Map t c = map_gives c.args.tree.now _ c.pairs.result.now c.in_ok-named_values-in-Map.field-0 c.in-Map.is c.pairs.ensures.pairs c.in_ok-named_values-in-Map.ensures

pub value-returns-in-Int : goal.value-returns-in-Int
value-returns-in-Int t c =
    let fits : FitsSigned w64 c.in-Int.n = search rules in
    int_gives c.args.tree.now c.in-Int.n _ c.in-Int.is (to_z-of_z w64 c.in-Int.n fits)

pub values-value-requires : goal.values-value-requires
values-value-requires t c = let h = item_deep c.args.items.now c.each.index c.index-items-index.result c.each-test.true c.index-items-index.is in (omega arith, tt)

pub values-returns-in-Err : goal.values-returns-in-Err
values-returns-in-Err t c = values_fails c.args.items.now c.each.index c.index-items-index.result c.in-Err.stop c.at_index.result c.each-test.true c.index-items-index.is c.each.invariant.0 c.in-Err.ensures c.at_index.ensures

pub values-each-preserved : goal.values-each-preserved
values-each-preserved t c = values_step c.args.items.now c.each.index c.index-items-index.result (templates_view c.each.made) (templates_view c.push.new.self) (template_view c.in-Ok.value) c.each-test.true c.index-items-index.is c.each.invariant c.in-Ok.ensures c.in_ok-push-in-Ok.ensures

pub named_values-value-requires : goal.named_values-value-requires
named_values-value-requires t c = let h = pair_deep c.args.pairs.now c.each.pair-index c.pair-item.result c.each-test.true c.pair-item.is in (omega arith, tt)

pub named_values-returns-in-Err : goal.named_values-returns-in-Err
named_values-returns-in-Err t c =
    named_fails c.args.pairs.now c.each.pair-index c.pair-item.result c.in-Err.stop c.at_key.result c.each-test.true c.pair-item.is c.each.invariant.0 c.in-Err.ensures
    (subst (λ (k : List ℕ). IsOutside (Key k) c.in-Err.stop c.at_key.result) c.as_str-key.ensures c.at_key.ensures)

pub named_values-each-preserved : goal.named_values-each-preserved
named_values-each-preserved t c =
    named_step c.args.pairs.now c.each.pair-index c.pair-item.result c.each.made c.push.new.self c.in_ok-name.name (template_view c.in-Ok.template) c.each-test.true c.pair-item.is c.each.invariant
    (c.in_ok-name.ensures ∙ c.as_str-key.ensures) c.in-Ok.ensures c.in_ok-push-in-Ok.ensures
