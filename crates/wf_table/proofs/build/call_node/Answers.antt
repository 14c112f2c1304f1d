use Rattle.std.proofs.Common.{List, Option, map, refl}
use Rattle.wf_ast.specs.Tree as tree
use Rattle.wf_ast.specs.View.{field_view}
use Rattle.wf_model.proofs.Compiling.{alike, then}
use Rattle.wf_table.proofs.build.call_node.Goals as goal
use Rattle.wf_model.specs.Shapes.{named_by, named_list}
use Rattle.wf_value.specs.Pairs.{Text}

made : Text → Option Text → List (Text × tree.Template) → tree.CallBody
made x r ps = record { name = x; args = tree.fields ps; result = r }

pub returns : goal.returns
unfolding made
returns c =
    let x = c.in_ok-copy.field-0 in
    let r = c.in_ok-name.field-0 in
    let ns = c.in_ok-args.args in
    let ps = map field_view c.items.result.now in
    alike _ _ (λ cs. made x r (map (named_by cs) (named_list ns))) _ (made x r ps) _ (λ cs. refl)
    (λ i. made (c.in_ok-copy.ensures i) (c.in_ok-name.ensures i) (c.items.ensures.view i))
    (then (made x r) _ _ (λ cs. map (named_by cs) (named_list ns)) ps c.in_ok-args.ensures)
