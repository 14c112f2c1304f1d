use Rattle.std.proofs.Common.{map, refl, sym, ap, ◌∙◌}
use Rattle.wf_ast.proofs.Views as ast
use Rattle.wf_ast.specs.Tree as tree
use Rattle.wf_ast.specs.View.{expr_view, field_view, part_view, template_view}
use Rattle.wf_model.proofs.Compiling.{alike, hole, then, turn, whole}
use Rattle.wf_model.proofs.Views.{named_made, view_list, view_map}
use Rattle.wf_model.proofs.shaping.+shaping.Goals as goal
use Rattle.wf_model.specs.Shapes.{hole_by, named_by, named_list, piece_by, piece_list, shape_by, shape_list}

pub shape_of-returns-in_ok-add-in-Expr : goal.shape_of-returns-in_ok-add-in-Expr
shape_of-returns-in_ok-add-in-Expr t c =
    let n = c.in_ok-add-in-Expr.field-0 in
    let e = expr_view c.deref.result.now in
    alike _ _ (λ cs. tree.Whole (hole_by cs n)) _ (tree.Whole e) _ (λ cs. refl) (ap (λ b. tree.Whole (expr_view b)) c.deref.ensures ∙ sym (ap template_view c.in-Expr.is)) (then tree.Whole _ _ (λ cs. hole_by cs n) e (hole _ _ e n c.in_ok-add-in-Expr.ensures.0 c.in_ok-add-in-Expr.ensures.1))

pub shape_of-returns-in_ok-pieces-in-Join : goal.shape_of-returns-in_ok-pieces-in-Join
shape_of-returns-in_ok-pieces-in-Join t c =
    let ps = c.in_ok-pieces-in-Join.field-0 in
    alike _ _ (λ cs. tree.Joined (map (piece_by cs) (piece_list ps))) _ (tree.Joined (map part_view c.items.result.now)) _ (λ cs. refl) (ap tree.Joined c.items.ensures.view ∙ sym (ap template_view c.in-Join.is))
    (then tree.Joined _ _ (λ cs. map (piece_by cs) (piece_list ps)) (map part_view c.items.result.now) c.in_ok-pieces-in-Join.ensures)

pub shape_of-returns-in_ok-shapes-in-List : goal.shape_of-returns-in_ok-shapes-in-List
shape_of-returns-in_ok-shapes-in-List t c =
    let ss = c.in_ok-shapes-in-List.field-0 in
    let xs = map template_view c.items-in-List.result.now in
    alike _ _ (λ cs. tree.Listed (tree.templates (map (shape_by cs) (shape_list ss)))) _ (tree.Listed (tree.templates xs)) _ (λ cs. view_list cs ss) (ap (λ l. tree.Listed (tree.templates l)) c.items-in-List.ensures.view ∙ sym (ap template_view c.in-List.is ∙ ast.view_list c.in-List.ts))
    (then (λ l. tree.Listed (tree.templates l)) _ _ (λ cs. map (shape_by cs) (shape_list ss)) xs c.in_ok-shapes-in-List.ensures)

pub shape_of-returns-in_ok-named_of-in-Map : goal.shape_of-returns-in_ok-named_of-in-Map
shape_of-returns-in_ok-named_of-in-Map t c =
    let ns = c.in_ok-named_of-in-Map.field-0 in
    let xs = map field_view c.items-in-Map.result.now in
    alike _ _ (λ cs. tree.Mapped (tree.fields (map (named_by cs) (named_list ns)))) _ (tree.Mapped (tree.fields xs)) _ (λ cs. view_map cs ns) (ap (λ l. tree.Mapped (tree.fields l)) c.items-in-Map.ensures.view ∙ sym (ap template_view c.in-Map.is ∙ ast.view_map c.in-Map.fs))
    (then (λ l. tree.Mapped (tree.fields l)) _ _ (λ cs. map (named_by cs) (named_list ns)) xs c.in_ok-named_of-in-Map.ensures)

pub shapes-loop-t-preserved : goal.shapes-loop-t-preserved
shapes-loop-t-preserved t c =
    turn template_view shape_by c.args.ts.now c.loop-t.t-index c.t-item.result c.loop-t.items.items _ _ _ _ _ c.loop-t-test.true c.t-item.is c.in_ok-add.ensures c.loop-t.invariant c.in_ok-shape_of.ensures

pub shapes-returns : goal.shapes-returns
shapes-returns t c = whole template_view c.args.ts.now c.loop-t.t-index _ _ _ c.loop-t-test.false c.loop-t.invariant

pub named_of-loop-f-preserved : goal.named_of-loop-f-preserved
named_of-loop-f-preserved t c =
    let name = c.in_ok-name.name in
    let s = c.in_ok-shape.shape in
    let f = c.f-item.result in
    turn field_view named_by c.args.fs.now c.loop-f.f-index f c.loop-f.items.items _ _ _ _ _ c.loop-f-test.true c.f-item.is c.in_ok-add.ensures c.loop-f.invariant
    (alike _ _ (λ cs. (name, shape_by cs s)) _ (name, template_view f.template) _ (λ cs. refl) (ap (λ n. (n, template_view f.template)) c.in_ok-name.ensures) (then (λ x. (name, x)) _ _ (λ cs. shape_by cs s) (template_view f.template) c.in_ok-shape.ensures))

pub named_of-returns : goal.named_of-returns
named_of-returns t c =
    let xs = c.loop-f.items.items in
    alike _ _ (λ cs. map (named_by cs) xs) _ (map field_view c.args.fs.now) _ (λ cs. ap (map (named_by cs)) (named_made _)) refl
    (whole field_view c.args.fs.now c.loop-f.f-index _ _ (λ cs. map (named_by cs) xs) c.loop-f-test.false c.loop-f.invariant)
