use Rattle.std.proofs.Common.{[], ◌∷◌, refl, ap, ◌∙◌}
use Rattle.wf_symbols.proofs.Added.{adds_one, item_next, items_end, only_those}
use Rattle.wf_symbols.proofs.tables.text_names.Goals as goal
use Rattle.wf_value.specs.HttpRequest.{is_among}

pub loop-text-preserved : goal.loop-text-preserved
loop-text-preserved c =
    item_next (λ l. l) c.items-text-items.result.now c.loop-text.text-index c.text-item.result (c.text-item.result ∷ []) _ _ _ _ c.loop-text-test.true c.text-item.is refl c.loop-text.invariant
    (adds_one _ _ _ _ c.as_str.ensures c.in_ok-add.ensures.added)

pub returns : goal.returns
returns c = λ x.
    only_those c.new-names.result c.loop-text.names c.items-text-items.result.now c.new-names.ensures
    (items_end (λ l. l) c.items-text-items.result.now c.loop-text.text-index _ _ _ c.loop-text-test.false refl c.loop-text.invariant) x
    ∙ ap (is_among x) c.items-text-items.ensures
