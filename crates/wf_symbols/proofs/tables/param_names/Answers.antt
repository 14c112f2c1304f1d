use Rattle.std.proofs.Common.{[], ◌∷◌, map, refl, ap, ◌∙◌}
use Rattle.wf_ast.specs.Nodes.{param_names}
use Rattle.wf_ast.specs.View.{param_view}
use Rattle.wf_symbols.proofs.Added.{adds_one, item_next, items_end, only_those}
use Rattle.wf_symbols.proofs.tables.param_names.Goals as goal
use Rattle.wf_value.specs.HttpRequest.{is_among}

pub loop-param-preserved : goal.loop-param-preserved
loop-param-preserved c =
    item_next (λ l. param_names (map param_view l)) c.items-param-items.result.now c.loop-param.param-index c.param-item.result (c.param-item.result.name ∷ []) _ _ _ _ c.loop-param-test.true c.param-item.is refl c.loop-param.invariant
    (adds_one _ _ _ _ c.as_str.ensures c.in_ok-add.ensures.added)

pub returns : goal.returns
returns c = λ x.
    only_those c.new-names.result c.loop-param.names (param_names (map param_view c.items-param-items.result.now)) c.new-names.ensures
    (items_end (λ l. param_names (map param_view l)) c.items-param-items.result.now c.loop-param.param-index _ _ _ c.loop-param-test.false refl c.loop-param.invariant) x
    ∙ ap (λ l. is_among x (param_names l)) c.items-param-items.ensures.view
