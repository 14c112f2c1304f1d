use Rattle.std.proofs.Common.{codes, map, sym, ap, ◌∙◌}
use Rattle.wf_ast.proofs.Views.{loop_level}
use Rattle.wf_ast.specs.Nodes.{Path, below}
use Rattle.wf_ast.specs.Tree as tree
use Rattle.wf_ast.specs.View.{body_view, field_view, over_view, template_view, texts_view, work_view}
use Rattle.wf_ast.specs.declared.body.Body.TheViews.{out-LoopBody}
use Rattle.wf_diagnostics.proofs.Told.{tells_as, tells_keyed}
use Rattle.wf_check_expressions.proofs.expressions.body_failing.Goals as goal
use Rattle.wf_check_expressions.specs.Expressions.{body_failing, failing, fields_failing, loop_failing, over_failing}
use Rattle.wf_diagnostics.specs.Said.{as_said}
use Rattle.wf_check_expressions.specs.Tests.{sees}
use Rattle.wf_diagnostics.specs.declared.kind.CheckKind.TheVariants as kinds
use Rattle.wf_symbols.specs.Around.{layer_view}

pub returns-in-Call : goal.returns-in-Call
returns-in-Call c =
    let fine = sees (map layer_view c.args.layers.now) in
    let kind = kinds.UnknownName in
    tells_as c.keyed.result _ _ (λ path. ap (as_said kind) (ap (λ l. fields_failing fine (tree.fields l) (below path (codes "args"))) c.items.ensures.view ∙ sym (ap (λ y. body_failing fine (body_view y) path) c.in-Call.is)))
    (tells_keyed (codes "args") c.fields_failing-found.result c.keyed.result (λ path. as_said kind (fields_failing fine (tree.fields (map field_view c.items.result.now)) path)) c.keyed.ensures c.fields_failing-found.ensures)

pub returns-in-For : goal.returns-in-For
returns-in-For c =
    let fine = sees (map layer_view c.args.layers.now) in
    let kind = kinds.UnknownName in
    let l = c.in-For.repeated in
    tells_as c.keyed-in-For.result _ _ (λ path. ap (as_said kind) (sym (ap (λ v. loop_failing fine v (below path (codes "for"))) (loop_level l)) ∙ sym (ap (λ y. body_failing fine (body_view y) path) c.in-For.is)))
    (tells_keyed (codes "for") c.over_failing-found.result c.keyed-in-For.result (λ path. as_said kind (over_failing fine (over_view (out-LoopBody l).over) path)) c.keyed-in-For.ensures c.over_failing-found.ensures)

pub returns-in-Loop : goal.returns-in-Loop
returns-in-Loop c =
    let fine = sees (map layer_view c.args.layers.now) in
    let kind = kinds.UnknownName in
    let l = c.in-Loop.repeated in
    let p = c.in-Parallel.parallel in
    let over = λ (path : Path). as_said kind (over_failing fine (over_view (out-LoopBody l).over) path) in
    tells_as c.keyed-in-Loop.result _ _ (λ path. ap (as_said kind) (
    sym (ap (λ v. loop_failing fine v (below (below path (codes "parallel")) (codes "for"))) (loop_level l))
    ∙ sym (ap (λ y. body_failing fine (tree.Body.Parallel (tree.parallel (texts_view p.shared) p.limit (work_view y))) path) c.in-Loop.is)
    ∙ sym (ap (λ y. body_failing fine (body_view y) path) c.in-Parallel.is)))
    (tells_keyed (codes "parallel") c.keyed-found.result c.keyed-in-Loop.result (λ path. over (below path (codes "for"))) c.keyed-in-Loop.ensures
    (tells_keyed (codes "for") c.over_failing-found-in-Loop.result c.keyed-found.result over c.keyed-found.ensures c.over_failing-found-in-Loop.ensures))

pub returns-in-Raise : goal.returns-in-Raise
returns-in-Raise c =
    let fine = sees (map layer_view c.args.layers.now) in
    let kind = kinds.UnknownName in
    tells_as c.keyed-in-Raise.result _ _ (λ path. ap (as_said kind) (sym (ap (λ y. body_failing fine (body_view y) path) c.in-Raise.is)))
    (tells_keyed (codes "raise") c.failing-found.result c.keyed-in-Raise.result (λ path. as_said kind (failing fine (template_view c.in-Raise.value) path)) c.keyed-in-Raise.ensures c.failing-found.ensures)

pub returns-in-Return : goal.returns-in-Return
returns-in-Return c =
    let fine = sees (map layer_view c.args.layers.now) in
    let kind = kinds.UnknownName in
    tells_as c.keyed-in-Return.result _ _ (λ path. ap (as_said kind) (sym (ap (λ y. body_failing fine (body_view y) path) c.in-Return.is)))
    (tells_keyed (codes "return") c.failing-found-in-Return.result c.keyed-in-Return.result (λ path. as_said kind (failing fine (template_view c.in-Return.value) path)) c.keyed-in-Return.ensures c.failing-found-in-Return.ensures)
