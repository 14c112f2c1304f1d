use Rattle.std.proofs.Common.{[], ◌∷◌, None, Some, codes, map, option_map, sym, ap, ◌∙◌}
use Rattle.wf_ast.specs.Accept.{no_flow, rule_call, unknown_call}
use Rattle.wf_ast.specs.Blocks.{at_if, first}
use Rattle.wf_ast.specs.Nodes.{BodyPart, below}
use Rattle.wf_ast.specs.View.{body_view, flow_view}
use Rattle.wf_check_expressions.proofs.Fits.{alone_first, alone_last}
use Rattle.wf_diagnostics.proofs.Told.{tells_as}
use Rattle.wf_check_expressions.proofs.calls.unknown_in_body.Goals as goal
use Rattle.wf_diagnostics.specs.Said.{as_said}
use Rattle.wf_diagnostics.specs.declared.kind.CheckKind.TheVariants as kinds

pub returns-in-Call : goal.returns-in-Call
returns-in-Call c =
    let fs = map flow_view c.args.flows.now in
    tells_as c.speak_at.result _ _ (λ path. ap (as_said kinds.UnknownCall) (
    ap (λ b. at_if b (below path (codes "call"))) (c.is_unknown.ensures ∙ ap (unknown_call fs) c.as_str.ensures)
    ∙ sym (alone_first (at_if (unknown_call fs c.in-Call.call.name) (below path (codes "call"))))
    ∙ sym (ap (λ y. rule_call fs (BodyPart (body_view y)) path) c.in-Call.is))) c.speak_at.ensures

pub returns-in-None : goal.returns-in-None
returns-in-None c = λ path.
    let fs = map flow_view c.args.flows.now in
    ap (as_said kinds.UnknownCall) (
    ap (λ y. rule_call fs (BodyPart (body_view y)) path) c.in-Try.is
    ∙ ap (λ o. first (None ∷ at_if (no_flow fs o) (below (below path (codes "retry")) (codes "predicate")) ∷ [])) (sym c.predicate_of.ensures ∙ ap (option_map (λ x. x.now)) c.in-None.is))

pub returns-in-Some : goal.returns-in-Some
returns-in-Some c =
    let fs = map flow_view c.args.flows.now in
    tells_as c.speak_within.result _ _ (λ path. ap (as_said kinds.UnknownCall) (
    ap (λ b. at_if b (below (below path (codes "retry")) (codes "predicate"))) (c.is_no_flow-speaks.ensures ∙ ap (λ x. no_flow fs (Some x)) c.as_str-in-Some.ensures)
    ∙ sym (alone_last (at_if (no_flow fs (Some c.in-Some.name.now)) (below (below path (codes "retry")) (codes "predicate"))))
    ∙ ap (λ o. first (None ∷ at_if (no_flow fs o) (below (below path (codes "retry")) (codes "predicate")) ∷ [])) (sym (sym c.predicate_of.ensures ∙ ap (option_map (λ x. x.now)) c.in-Some.is))
    ∙ sym (ap (λ y. rule_call fs (BodyPart (body_view y)) path) c.in-Try.is))) c.speak_within.ensures
