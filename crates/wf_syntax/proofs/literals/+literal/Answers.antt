use Rattle.std.proofs.Common.{rules, w64, FitsSigned, ℕ, List, ◌∙◌, sym, ap, subst, arith}
use Rattle.std.proofs.lemmas.Int.{to_z-of_z}
use Rattle.wf_value.specs.Stops.{IsOutside}
use Rattle.wf_expr.specs.Texts.{has_expressions}
use Rattle.wf_value.specs.declared.path.PathPart.TheVariants.{Key}
use Rattle.wf_value.specs.Plain.{plain}
use Rattle.wf_syntax.proofs.Valued.{list_deep, map_deep, item_deep, pair_deep}
use Rattle.wf_syntax.proofs.Defaults.{null_gives, bool_gives, int_gives, list_gives, map_gives, literals_fails, literals_step, named_fails, named_step, text_gives}
use Rattle.wf_syntax.proofs.literals.+literal.Goals as goal

pub literal-literals-requires : goal.literal-literals-requires
literal-literals-requires t c = let h = list_deep c.args.tree.now _ c.items.result.now c.in-List.is c.items.ensures in (omega arith, tt)

pub literal-named_literals-requires : goal.literal-named_literals-requires
literal-named_literals-requires t c = let h = map_deep c.args.tree.now _ c.pairs.result.now c.in-Map.is c.pairs.ensures.pairs in (omega arith, c.pairs.ensures.order)

pub literal-returns-in-Null : goal.literal-returns-in-Null
literal-returns-in-Null t c = null_gives c.args.tree.now c.in-Null.is

pub literal-returns-in-Bool : goal.literal-returns-in-Bool
literal-returns-in-Bool t c = bool_gives c.args.tree.now c.in-Bool.b c.in-Bool.is

pub literal-returns-in-Int : goal.literal-returns-in-Int
literal-returns-in-Int t c =
    let fits : FitsSigned w64 c.in-Int.n = search rules in
    int_gives c.args.tree.now c.in-Int.n _ c.in-Int.is (to_z-of_z w64 c.in-Int.n fits)

pub literal-returns-in_ok-owned-in-Text : goal.literal-returns-in_ok-owned-in-Text
literal-returns-in_ok-owned-in-Text t c =
    text_gives c.args.tree.now c.in-Text.text c.in_ok-owned-in-Text.field-0 c.in-Text.is (c.in_ok-owned-in-Text.ensures ∙ c.as_str-else-has_expressions.ensures)
    (ap has_expressions (sym c.as_str.ensures) ∙ sym c.has_expressions.ensures ∙ c.if-has_expressions.false)

pub literal-returns-in_ok-literals-in-List : goal.literal-returns-in_ok-literals-in-List
literal-returns-in_ok-literals-in-List t c = list_gives c.args.tree.now _ c.items.result.now c.in_ok-literals-in-List.field-0 c.in-List.is c.items.ensures c.in_ok-literals-in-List.ensures

pub literal-returns-in_ok-named_literals-in-Map : goal.literal-returns-in_ok-named_literals-in-Map
literal-returns-in_ok-named_literals-in-Map t c = map_gives c.args.tree.now _ c.pairs.result.now c.in_ok-named_literals-in-Map.field-0 c.in-Map.is c.pairs.ensures.pairs c.in_ok-named_literals-in-Map.ensures

pub literals-literal-requires : goal.literals-literal-requires
literals-literal-requires t c = let h = item_deep c.args.items.now c.each.index c.index-items-index.result c.each-test.true c.index-items-index.is in (omega arith, tt)

pub literals-returns-in-Err : goal.literals-returns-in-Err
literals-returns-in-Err t c = literals_fails c.args.items.now c.each.index c.index-items-index.result c.in-Err.stop c.at_index.result c.each-test.true c.index-items-index.is c.each.invariant.0 c.in-Err.ensures c.at_index.ensures

pub literals-each-preserved : goal.literals-each-preserved
literals-each-preserved t c = literals_step c.args.items.now c.each.index c.index-items-index.result c.each.made c.push.new.self (plain c.in-Ok.value) c.each-test.true c.index-items-index.is c.each.invariant c.in-Ok.ensures c.in_ok-push-in-Ok.ensures

pub named_literals-literal-requires : goal.named_literals-literal-requires
named_literals-literal-requires t c = let h = pair_deep c.args.pairs.now c.each.pair-index c.pair-item.result c.each-test.true c.pair-item.is in (omega arith, tt)

pub named_literals-returns-in-Err : goal.named_literals-returns-in-Err
named_literals-returns-in-Err t c =
    named_fails c.args.pairs.now c.each.pair-index c.pair-item.result c.in-Err.stop c.at_key.result c.each-test.true c.pair-item.is c.each.invariant.0 c.in-Err.ensures
    (subst (λ (k : List ℕ). IsOutside (Key k) c.in-Err.stop c.at_key.result) c.as_str-key.ensures c.at_key.ensures)

pub named_literals-each-preserved : goal.named_literals-each-preserved
named_literals-each-preserved t c =
    named_step c.args.pairs.now c.each.pair-index c.pair-item.result c.each.made c.insert.new.self c.in_ok-name.name (plain c.in-Ok.value) c.each-test.true c.pair-item.is c.requires c.each.invariant
    (c.in_ok-name.ensures ∙ c.as_str-key.ensures) c.in-Ok.ensures c.in_ok-insert-in-Ok.ensures.after
