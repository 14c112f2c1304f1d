use Rattle.std.proofs.Common.{sym, ap, ◌∙◌}
use Rattle.wf_ast.specs.Tree.{steps}
use Rattle.wf_ast.specs.View.{params_view, steps_view}
use Rattle.wf_syntax_rules.specs.Rules.{Flow}
use Rattle.wf_syntax.proofs.Retries.{passed}
use Rattle.wf_syntax.proofs.Workflows.{flow_given, flow_unnamed, flow_wrong, params_fail, steps_fail, steps_there}
use Rattle.wf_syntax.proofs.flows.flow.Goals as goal
use Rattle.wf_tree.specs.Plain.{plain_tree}
use Rattle.wf_tree.specs.Trees.{pairs_of}

pub returns-in-Some : goal.returns-in-Some
returns-in-Some c = flow_wrong c.args.name.now _ (pairs_of c.in-Map.fields) c.in-Some.kind _ (ap plain_tree c.in-Map.is) c.in-Some.ensures c.here-in-Some.ensures

pub returns-then-not-is_name : goal.returns-then-not-is_name
returns-then-not-is_name c =
    flow_unnamed c.args.name.now _ (pairs_of c.in-Map.fields) _ (ap plain_tree c.in-Map.is) (sym c.in_default-map_fault.ensures) (sym c.is_name.ensures ∙ c.if-not-is_name.true) c.here-then-not-is_name.ensures

pub returns-in_err-params : goal.returns-in_err-params
returns-in_err-params c =
    passed c.from_residual.result _ (Flow c.args.name.now) _ c.in_err-params.field-0.0 c.from_residual.ensures
    (params_fail c.args.name.now _ (pairs_of c.in-Map.fields) c.in_err-params.field-0.0 (ap plain_tree c.in-Map.is) (sym c.in_default-map_fault.ensures) (sym c.is_name.ensures ∙ c.if-not-is_name.false) c.in_err-params.ensures)

pub returns-in_err-steps : goal.returns-in_err-steps
returns-in_err-steps c =
    passed c.from_residual-in_err-steps.result _ (Flow c.args.name.now) _ c.in_err-steps.field-0.0 c.from_residual-in_err-steps.ensures
    (steps_fail c.args.name.now _ (pairs_of c.in-Map.fields) c.in_err-steps.field-0.0 (ap plain_tree c.in-Map.is) (sym c.in_default-map_fault.ensures) (sym c.is_name.ensures ∙ c.if-not-is_name.false) c.in_ok-params.ensures.0 c.in_err-steps.ensures)

pub returns-in_ok-owned-in-Some-2 : goal.returns-in_ok-owned-in-Some-2
returns-in_ok-owned-in-Some-2 c =
    flow_given c.args.name.now _ (pairs_of c.in-Map.fields) (record { name = c.in_ok-owned-in-Some-2.field-0; params = params_view c.in_ok-params.params; steps = steps (steps_view c.in-Some-2.steps) })
    (ap plain_tree c.in-Map.is) (sym c.in_default-map_fault.ensures) (sym c.is_name.ensures ∙ c.if-not-is_name.false) c.in_ok-owned-in-Some-2.ensures c.in_ok-params.ensures
    (steps_there (pairs_of c.in-Map.fields) _ c.in-Some-2.steps c.in-Some-2.is c.in_ok-steps.ensures)
