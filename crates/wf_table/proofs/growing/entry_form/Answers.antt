use Rattle.std.proofs.Common.{List, map, take, refl, sym, ◌∙◌}
use Rattle.std.proofs.lemmas.List.{length-map}
use Rattle.wf_ast.specs.Tree as tree
use Rattle.wf_ast.specs.View.{expr_view, template_view}
use Rattle.wf_model.proofs.Compiling.{alike, both, reads_first}
use Rattle.wf_table.proofs.growing.entry_form.Goals as goal
use Rattle.wf_model.specs.Shapes.{decoded, shape_by}
use Rattle.wf_value.specs.Pairs.{Text}

made : Text → Text → List tree.Expr → tree.Template → tree.Entry
made x y ps v = record { target = record { name = x; places = tree.exprs ps; written = y }; value = v }

pub returns : goal.returns
unfolding made
returns c = λ empty.
    let e = c.args.entry.now in
    let x = c.of.result in
    let y = c.in_ok-copy-2.field-0 in
    let n = c.in_ok-places.places in
    let s = c.in_ok-value.value in
    let ps = map expr_view c.items.result.now in
    let v = template_view e.value in
    alike _ _ (λ cs. made x y (map decoded (take n cs)) (shape_by cs s)) _ (made x y ps v) _ (λ cs. refl)
    (λ i. made ((c.of.ensures ∙ c.in_ok-copy.ensures) i) (c.in_ok-copy-2.ensures i) (c.items.ensures.view i) v)
    (both (made x y) _ _ _ (λ cs. map decoded (take n cs)) (λ cs. shape_by cs s) ps v
    (reads_first _ _ ps n empty (c.in_ok-places.ensures.count ∙ sym (length-map c.items.result.now expr_view)) c.in_ok-places.ensures.codes) c.in_ok-value.ensures)
