use Rattle.std.proofs.Common.{◌+◌, List, [], ◌∷◌, ◌++◌, append_assoc, append-nil, drop, map, sym, ap, ◌∙◌}
use Rattle.wf_assigned.proofs.names.parameters.Goals as goal
use Rattle.wf_ast.specs.Nodes.{param_names}
use Rattle.wf_ast.specs.View.{param_view}
use Rattle.wf_lemmas.proofs.Lists.{drop_end, item_at}
use Rattle.wf_value.specs.Pairs.{Text}

pub loop-param-preserved : goal.loop-param-preserved
loop-param-preserved c =
    let items = c.items-param-items.result.now in
    let i = c.loop-param.param-index in
    let p = c.param-item.result in
    let rest = param_names (map param_view (drop (i + 1) items)) in
    ap (λ (z : List Text). z ++ rest) c.in_ok-push.ensures ∙ append_assoc c.loop-param.names (p.name ∷ []) rest
    ∙ ap (λ l. c.loop-param.names ++ param_names (map param_view l)) (sym (item_at items i p c.loop-param-test.true c.param-item.is)) ∙ c.loop-param.invariant

pub returns : goal.returns
returns c =
    let items = c.items-param-items.result.now in
    sym (append-nil c.loop-param.names) ∙ ap (λ l. c.loop-param.names ++ param_names (map param_view l)) (sym (drop_end items c.loop-param.param-index c.loop-param-test.false)) ∙ c.loop-param.invariant
    ∙ ap param_names c.items-param-items.ensures.view
