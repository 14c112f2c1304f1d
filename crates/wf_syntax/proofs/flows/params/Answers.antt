use Rattle.std.proofs.Common.{is_ok, refl, sym, ap, ◌∙◌, subst}
use Rattle.wf_ast.specs.View.{params_view}
use Rattle.wf_syntax_rules.specs.Faults.{AreSound}
use Rattle.wf_syntax_rules.specs.Meaning.{AreParams, Each, IsParam}
use Rattle.wf_syntax_rules.specs.Rules.{Parameters, Parameter, each}
use Rattle.wf_syntax.proofs.Nodes.{all_items, each_more, item_at, item_fails, items_sound, list_fails, list_sound, within}
use Rattle.wf_syntax.proofs.flows.params.Goals as goal
use Rattle.wf_tree.specs.Plain.{plain_tree, plain_items}
use Rattle.wf_tree.specs.Trees.{list, items_of}

pub returns-in-Err : goal.returns-in-Err
returns-in-Err c =
    let items = c.items-items.result.now in
    let i = c.each.index in
    list_fails Parameters Parameter _ (plain_items items) c.at_index.result (ap plain_tree c.in-List.is ∙ ap (λ l. list (items_of l)) (sym c.items-items.ensures)) refl refl
    (item_fails Parameter i (plain_items items) _ c.in-Err.stop c.at_index.result (within items i c.each-test.true) (item_at items i _ c.each-test.true c.index-items-index.is)
    c.each.invariant.sound c.in-Err.ensures c.at_index.ensures)

pub each-preserved : goal.each-preserved
each-preserved c =
    let items = c.items-items.result.now in
    let i = c.each.index in
    let inside = within items i c.each-test.true in
    let is = item_at items i _ c.each-test.true c.index-items-index.is in
    record {
      sound = items_sound Parameter i (plain_items items) _ inside is c.each.invariant.sound c.in-Ok.ensures.0;
      params = each_more IsParam (params_view c.each.made) _ _ _ i (plain_items items) _ c.push.ensures (ap is_ok c.in_ok-push-in-Ok.was) inside is c.each.invariant.params c.in-Ok.ensures.1;
    }

pub returns : goal.returns
returns c =
    let items = c.items-items.result.now in
    let all = all_items items c.each.index c.each-test.false in
    let is = ap plain_tree c.in-List.is ∙ ap (λ l. list (items_of l)) (sym c.items-items.ensures) in (
      list_sound Parameters Parameter _ (plain_items items) is refl refl (λ f k. k) (subst (λ l. AreSound (each Parameter 0 (items_of l))) all c.each.invariant.sound),
      subst (AreParams (params_view c.each.made)) (sym is) (subst (λ l. Each IsParam (params_view c.each.made) (items_of l)) all c.each.invariant.params),
    )
