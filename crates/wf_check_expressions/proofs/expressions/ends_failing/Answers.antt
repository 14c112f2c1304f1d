use Rattle.std.proofs.Common.{map, Err, sym, ap, ◌∙◌}
use Rattle.wf_ast.specs.Nodes.{nth}
use Rattle.wf_ast.specs.View.{template_view}
use Rattle.wf_diagnostics.proofs.Told.{part_first, part_later, tells_as, tells_outside}
use Rattle.wf_check_expressions.proofs.expressions.ends_failing.Goals as goal
use Rattle.wf_check_expressions.specs.Expressions.{failing}
use Rattle.wf_diagnostics.specs.Said.{as_said}
use Rattle.wf_check_expressions.specs.Tests.{sees}
use Rattle.wf_diagnostics.specs.declared.kind.CheckKind.TheVariants as kinds
use Rattle.wf_symbols.specs.Around.{layer_view}
use Rattle.wf_value.specs.declared.path.PathPart.TheVariants as part

pub returns-in-Err : goal.returns-in-Err
returns-in-Err c =
    let fine = sees (map layer_view c.args.layers.now) in
    let kind = kinds.UnknownName in
    part_first kind c.at_index.result (λ path. failing fine (template_view c.args.first.now) (nth path 0)) (λ path. failing fine (template_view c.args.last.now) (nth path 1))
    (tells_outside (part.Index 0) c.in-Err.stop c.at_index.result (λ path. as_said kind (failing fine (template_view c.args.first.now) path)) c.at_index.ensures c.in-Err.ensures)

pub returns-in-Ok-failing : goal.returns-in-Ok-failing
returns-in-Ok-failing c = λ path.
    let fine = sees (map layer_view c.args.layers.now) in
    let kind = kinds.UnknownName in
    ap (as_said kind) (part_later kind (failing fine (template_view c.args.first.now) (nth path 0)) (failing fine (template_view c.args.last.now) (nth path 1)) (c.in-Ok.ensures (nth path 0)))
    ∙ c.in-Ok-failing.ensures (nth path 1)

pub returns-in-Err-failing : goal.returns-in-Err-failing
returns-in-Err-failing c =
    let fine = sees (map layer_view c.args.layers.now) in
    let kind = kinds.UnknownName in
    tells_as (Err c.at_index-in-Err-failing.result) _ _
    (λ path. ap (as_said kind) (sym (part_later kind (failing fine (template_view c.args.first.now) (nth path 0)) (failing fine (template_view c.args.last.now) (nth path 1)) (c.in-Ok.ensures (nth path 0)))))
    (tells_outside (part.Index 1) c.in-Err-failing.stop c.at_index-in-Err-failing.result (λ path. as_said kind (failing fine (template_view c.args.last.now) path)) c.at_index-in-Err-failing.ensures c.in-Err-failing.ensures)
