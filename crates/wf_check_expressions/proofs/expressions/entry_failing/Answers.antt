use Rattle.std.proofs.Common.{map, not, Err, sym, ap, ◌∙◌}
use Rattle.wf_ast.specs.Blocks.{at_if}
use Rattle.wf_ast.specs.Tree.{exprs}
use Rattle.wf_ast.specs.View.{exprs_view, template_view}
use Rattle.wf_diagnostics.proofs.Told.{part_first, part_later, tells_as}
use Rattle.wf_check_expressions.proofs.expressions.entry_failing.Goals as goal
use Rattle.wf_check_expressions.specs.Expressions.{are_fine, failing}
use Rattle.wf_diagnostics.specs.Said.{as_said}
use Rattle.wf_check_expressions.specs.Tests.{sees}
use Rattle.wf_diagnostics.specs.declared.kind.CheckKind.TheVariants as kinds
use Rattle.wf_symbols.specs.Around.{layer_view}

pub returns-in-Err : goal.returns-in-Err
returns-in-Err c =
    let fine = sees (map layer_view c.args.layers.now) in
    let kind = kinds.UnknownName in
    let e = c.args.entry.now in
    let all = c.all_pass-fine.ensures ∙ ap (λ l. are_fine fine (exprs l)) c.items.ensures.view in
    part_first kind c.in-Err.stop (λ path. at_if (not (are_fine fine (exprs (exprs_view e.target.places)))) path) (λ path. failing fine (template_view e.value) path)
    (tells_as (Err c.in-Err.stop) _ _ (λ path i. as_said kind (at_if (not (all i)) path)) c.in-Err.ensures)

pub returns : goal.returns
returns c =
    let fine = sees (map layer_view c.args.layers.now) in
    let kind = kinds.UnknownName in
    let e = c.args.entry.now in
    let all = c.all_pass-fine.ensures ∙ ap (λ l. are_fine fine (exprs l)) c.items.ensures.view in
    tells_as c.failing.result _ _
    (λ path. ap (as_said kind) (sym (part_later kind (at_if (not (are_fine fine (exprs (exprs_view e.target.places)))) path) (failing fine (template_view e.value) path) ((λ i. as_said kind (at_if (not (sym all i)) path)) ∙ c.in-Ok.ensures path))))
    c.failing.ensures
