use Rattle.std.proofs.Common.{refl, sym, ap}
use Rattle.wf_ast.specs.Tree as tree
use Rattle.wf_ast.specs.View.{over_view, template_view}
use Rattle.wf_model.proofs.Compiling.{alike, both, then}
use Rattle.wf_table.proofs.build.over.Goals as goal
use Rattle.wf_model.specs.Shapes.{shape_by}

pub returns-in_ok-shape_of-in-List : goal.returns-in_ok-shape_of-in-List
returns-in_ok-shape_of-in-List c =
    let s = c.in_ok-shape_of-in-List.field-0 in
    let x = template_view c.in-List.items in
    alike _ _ (λ cs. tree.InList (shape_by cs s)) _ (tree.InList x) _ (λ cs. refl) (sym (ap over_view c.in-List.is)) (then tree.InList _ _ (λ cs. shape_by cs s) x c.in_ok-shape_of-in-List.ensures)

pub returns-in_ok-last-in-Range : goal.returns-in_ok-last-in-Range
returns-in_ok-last-in-Range c =
    let s = c.in_ok-first-in-Range.first in
    let u = c.in_ok-last-in-Range.last in
    let x = template_view c.in-Range.low in
    let y = template_view c.in-Range.high in
    alike _ _ (λ cs. tree.InRange (shape_by cs s) (shape_by cs u)) _ (tree.InRange x y) _ (λ cs. refl) (sym (ap over_view c.in-Range.is))
    (both tree.InRange _ _ _ (λ cs. shape_by cs s) (λ cs. shape_by cs u) x y c.in_ok-first-in-Range.ensures c.in_ok-last-in-Range.ensures)
