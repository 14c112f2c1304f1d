use Rattle.std.proofs.Common.{◌≡◌, ◌||◌, ◌+◌, map, drop, sym, ap, ◌∙◌, subst}
use Rattle.std.proofs.Common as seq
use Rattle.wf_lemmas.proofs.Lists.{item_at, drop_end}
use Rattle.wf_ast.proofs.Views.{steps_level}
use Rattle.wf_ast.specs.Blocks.{has_step}
use Rattle.wf_ast.specs.Tree as t
use Rattle.wf_ast.specs.View.{step_view}
use Rattle.wf_symbols.proofs.Added.{own_next}
use Rattle.wf_symbols.proofs.tables.own_names.Goals as goal
use Rattle.wf_symbols.specs.Names.{names_of}
use Rattle.wf_value.specs.HttpRequest.{is_among}

pub loop-step-preserved : goal.loop-step-preserved
loop-step-preserved c = λ x.
    let items = c.items-step-items.result.now in
    own_next x c.step-item.result.name _ (has_step x (t.steps (map step_view (drop (c.loop-step.step-index + 1) items)))) (is_among x (names_of c.loop-step.names)) _ _ c.as_str.ensures
    (subst (λ l. (has_step x (t.steps (map step_view l)) || is_among x (names_of c.loop-step.names)) ≡ has_step x (t.steps (map step_view items))) (item_at items c.loop-step.step-index c.step-item.result c.loop-step-test.true c.step-item.is) (c.loop-step.invariant x))
    (c.in_ok-add.ensures.added x)

pub returns : goal.returns
returns c = λ x.
    let items = c.items-step-items.result.now in
    subst (λ l. (has_step x (t.steps (map step_view l)) || is_among x (names_of c.loop-step.names)) ≡ has_step x (t.steps (map step_view items))) (drop_end items c.loop-step.step-index c.loop-step-test.false) (c.loop-step.invariant x)
    ∙ ap (λ l. has_step x (t.steps l)) c.items-step-items.ensures.view ∙ ap (has_step x) (sym (steps_level c.args.steps.now))
