use Rattle.std.proofs.Common.{not, suc, ◌+◌, add-one, map, drop, Err, sym, ap, ◌∙◌}
use Rattle.wf_lemmas.proofs.Lists.{item_at}
use Rattle.wf_ast.proofs.Views.{view_list, view_map}
use Rattle.wf_ast.specs.Blocks.{at_if}
use Rattle.wf_ast.specs.Nodes.{Path, below, nth}
use Rattle.wf_ast.specs.Tree as tree
use Rattle.wf_ast.specs.View.{expr_view, field_view, template_view}
use Rattle.wf_diagnostics.proofs.Told.{part_first, part_later, tells_as, tells_outside}
use Rattle.wf_check_expressions.proofs.Failing.{literals_pass}
use Rattle.wf_check_expressions.proofs.expressions.+template.Goals as goal
use Rattle.wf_check_expressions.specs.Expressions.{failing, fields_failing, items_failing}
use Rattle.wf_diagnostics.specs.Said.{as_said}
use Rattle.wf_check_expressions.specs.Tests.{sees}
use Rattle.wf_diagnostics.specs.declared.kind.CheckKind.TheVariants as kinds
use Rattle.wf_symbols.specs.Around.{layer_view}
use Rattle.wf_value.specs.HttpUrl.{first_of_two}
use Rattle.wf_value.specs.declared.path.PathPart.TheVariants as part

pub failing-returns-in-Expr : goal.failing-returns-in-Expr
failing-returns-in-Expr t c =
    let fine = sees (map layer_view c.args.layers.now) in
    tells_as c.speak.result _ _ (λ path. ap (as_said kinds.UnknownName) (ap (λ b. at_if (not b) path) (c.sees_expr.ensures ∙ ap (λ e. fine (expr_view e)) c.deref.ensures)
    ∙ sym (ap (λ y. failing fine (template_view y) path) c.in-Expr.is))) c.speak.ensures

pub failing-returns-in-List : goal.failing-returns-in-List
failing-returns-in-List t c =
    let fine = sees (map layer_view c.args.layers.now) in
    tells_as c.items_failing.result _ _ (λ path. ap (as_said kinds.UnknownName) (ap (λ l. items_failing fine (tree.templates l) path 0) c.items-in-List.ensures.view
    ∙ sym (ap (λ y. failing fine y path) (ap template_view c.in-List.is ∙ view_list c.in-List.members)))) c.items_failing.ensures

pub failing-returns-in-Literals : goal.failing-returns-in-Literals
failing-returns-in-Literals t c = λ path.
    let fine = sees (map layer_view c.args.layers.now) in
    ap (as_said kinds.UnknownName) (ap (λ y. failing fine (template_view y) path) c.in-Literals.is ∙ literals_pass fine c.in-Literals.field-0 path 0)

pub failing-returns-in-Map : goal.failing-returns-in-Map
failing-returns-in-Map t c =
    let fine = sees (map layer_view c.args.layers.now) in
    tells_as c.fields_failing.result _ _ (λ path. ap (as_said kinds.UnknownName) (ap (λ l. fields_failing fine (tree.fields l) path) c.items-in-Map.ensures.view
    ∙ sym (ap (λ y. failing fine y path) (ap template_view c.in-Map.is ∙ view_map c.in-Map.members)))) c.fields_failing.ensures

pub fields_failing-returns-in-Err : goal.fields_failing-returns-in-Err
fields_failing-returns-in-Err t c =
    let fine = sees (map layer_view c.args.layers.now) in
    let kind = kinds.UnknownName in
    let xs = c.args.members.now in
    let i = c.each.member-index in
    let x = c.member-item.result in
    let key = c.as_str.result.now in
    let rest = λ (path : Path). fields_failing fine (tree.fields (map field_view (drop (i + 1) xs))) path in
    tells_as (Err c.at_key.result) _ _
    (λ path. ap (as_said kind) (ap (λ k. first_of_two (failing fine (template_view x.template) (below path k)) (rest path)) c.as_str.ensures
    ∙ sym (c.each.invariant path ∙ ap (λ l. fields_failing fine (tree.fields (map field_view l)) path) (item_at xs i x c.each-test.true c.member-item.is))))
    (part_first kind c.at_key.result (λ path. failing fine (template_view x.template) (below path key)) rest
    (tells_outside (part.Key key) c.in-Err.stop c.at_key.result (λ path. as_said kind (failing fine (template_view x.template) path)) c.at_key.ensures c.in-Err.ensures))

pub fields_failing-each-preserved : goal.fields_failing-each-preserved
fields_failing-each-preserved t c = λ path.
    let fine = sees (map layer_view c.args.layers.now) in
    let xs = c.args.members.now in
    let i = c.each.member-index in
    let x = c.member-item.result in
    c.each.invariant path
    ∙ ap (λ l. fields_failing fine (tree.fields (map field_view l)) path) (item_at xs i x c.each-test.true c.member-item.is)
    ∙ part_later kinds.UnknownName (failing fine (template_view x.template) (below path x.name)) (fields_failing fine (tree.fields (map field_view (drop (i + 1) xs))) path) (c.in-Ok.ensures (below path x.name))

pub items_failing-returns-in-Err : goal.items_failing-returns-in-Err
items_failing-returns-in-Err t c =
    let fine = sees (map layer_view c.args.layers.now) in
    let kind = kinds.UnknownName in
    let xs = c.args.members.now in
    let i = c.each.index in
    let x = c.index-members-index.result in
    let rest = λ (path : Path). items_failing fine (tree.templates (map template_view (drop (i + 1) xs))) path (suc i) in
    tells_as (Err c.at_index.result) _ _
    (λ path. ap (as_said kind)
    (sym (c.each.invariant path ∙ ap (λ l. items_failing fine (tree.templates (map template_view l)) path i) (item_at xs i x c.each-test.true c.index-members-index.is))))
    (part_first kind c.at_index.result (λ path. failing fine (template_view x) (nth path i)) rest
    (tells_outside (part.Index i) c.in-Err.stop c.at_index.result (λ path. as_said kind (failing fine (template_view x) path)) c.at_index.ensures c.in-Err.ensures))

pub items_failing-each-preserved : goal.items_failing-each-preserved
items_failing-each-preserved t c = λ path.
    let fine = sees (map layer_view c.args.layers.now) in
    let xs = c.args.members.now in
    let i = c.each.index in
    let x = c.index-members-index.result in
    c.each.invariant path
    ∙ ap (λ l. items_failing fine (tree.templates (map template_view l)) path i) (item_at xs i x c.each-test.true c.index-members-index.is)
    ∙ part_later kinds.UnknownName (failing fine (template_view x) (nth path i)) (items_failing fine (tree.templates (map template_view (drop (i + 1) xs))) path (suc i)) (c.in-Ok.ensures (nth path i))
    ∙ ap (λ n. items_failing fine (tree.templates (map template_view (drop (i + 1) xs))) path n) (sym (add-one i))
