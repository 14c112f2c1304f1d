use Rattle.std.proofs.Common.{map, codes, sym, ap}
use Rattle.wf_ast.specs.Nodes.{nth}
use Rattle.wf_ast.specs.View.{over_view, template_view}
use Rattle.wf_diagnostics.proofs.Told.{tells_as, tells_keyed}
use Rattle.wf_check_expressions.proofs.expressions.over_failing.Goals as goal
use Rattle.wf_check_expressions.specs.Expressions.{failing, over_failing}
use Rattle.wf_diagnostics.specs.Said.{as_said}
use Rattle.wf_check_expressions.specs.Tests.{sees}
use Rattle.wf_diagnostics.specs.declared.kind.CheckKind.TheVariants as kinds
use Rattle.wf_symbols.specs.Around.{layer_view}
use Rattle.wf_value.specs.HttpUrl.{first_of_two}

pub returns-in-List : goal.returns-in-List
returns-in-List c =
    let fine = sees (map layer_view c.args.layers.now) in
    let kind = kinds.UnknownName in
    tells_as c.keyed.result _ _ (λ path. ap (as_said kind) (sym (ap (λ y. over_failing fine (over_view y) path) c.in-List.is)))
    (tells_keyed (codes "in") c.failing-found.result c.keyed.result (λ path. as_said kind (failing fine (template_view c.in-List.list) path)) c.keyed.ensures c.failing-found.ensures)

pub returns-in-Range : goal.returns-in-Range
returns-in-Range c =
    let fine = sees (map layer_view c.args.layers.now) in
    let kind = kinds.UnknownName in
    tells_as c.keyed-in-Range.result _ _ (λ path. ap (as_said kind) (sym (ap (λ y. over_failing fine (over_view y) path) c.in-Range.is)))
    (tells_keyed (codes "range") c.ends_failing-found.result c.keyed-in-Range.result
    (λ path. as_said kind (first_of_two (failing fine (template_view c.in-Range.first) (nth path 0)) (failing fine (template_view c.in-Range.last) (nth path 1))))
    c.keyed-in-Range.ensures c.ends_failing-found.ensures)
