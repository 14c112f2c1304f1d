use Rattle.std.proofs.Common.{[], ◌∷◌, None, Some, codes, map, not, option_map, sym, ap, ◌∙◌}
use Rattle.wf_ast.specs.Accept.{call_fits, predicate_fits, rule_argument}
use Rattle.wf_ast.specs.Blocks.{at_if, first}
use Rattle.wf_ast.specs.Nodes.{BodyPart, below}
use Rattle.wf_ast.specs.View.{body_view, call_view, flow_view}
use Rattle.wf_check_expressions.proofs.Fits.{alone_first, alone_last}
use Rattle.wf_diagnostics.proofs.Told.{tells_as}
use Rattle.wf_check_expressions.proofs.calls.bad_in_body.Goals as goal
use Rattle.wf_diagnostics.specs.Said.{as_said}
use Rattle.wf_diagnostics.specs.declared.kind.CheckKind.TheVariants as kinds

pub returns-in-Ok : goal.returns-in-Ok
returns-in-Ok c =
    let fs = map flow_view c.args.flows.now in
    tells_as c.speak_at.result _ _ (λ path. ap (as_said kinds.BadArgument) (
    ap (λ b. at_if (not b) (below path (codes "args"))) c.in-Ok.ensures
    ∙ sym (alone_first (at_if (not (call_fits fs (call_view c.in-Call.call))) (below path (codes "args"))))
    ∙ sym (ap (λ y. rule_argument fs (BodyPart (body_view y)) path) c.in-Call.is))) c.speak_at.ensures

pub returns-in-None : goal.returns-in-None
returns-in-None c = λ path.
    let fs = map flow_view c.args.flows.now in
    ap (as_said kinds.BadArgument) (
    ap (λ y. rule_argument fs (BodyPart (body_view y)) path) c.in-Try.is
    ∙ ap (λ o. first (None ∷ at_if (not (predicate_fits fs o)) (below (below path (codes "retry")) (codes "predicate")) ∷ [])) (sym c.predicate_of.ensures ∙ ap (option_map (λ x. x.now)) c.in-None.is))

pub returns-in-Some : goal.returns-in-Some
returns-in-Some c =
    let fs = map flow_view c.args.flows.now in
    tells_as c.speak_within.result _ _ (λ path. ap (as_said kinds.BadArgument) (
    ap (λ b. at_if (not b) (below (below path (codes "retry")) (codes "predicate"))) (c.predicate_fits-speaks.ensures ∙ ap (λ x. predicate_fits fs (Some x)) c.as_str.ensures)
    ∙ sym (alone_last (at_if (not (predicate_fits fs (Some c.in-Some.name.now))) (below (below path (codes "retry")) (codes "predicate"))))
    ∙ ap (λ o. first (None ∷ at_if (not (predicate_fits fs o)) (below (below path (codes "retry")) (codes "predicate")) ∷ [])) (sym (sym c.predicate_of.ensures ∙ ap (option_map (λ x. x.now)) c.in-Some.is))
    ∙ sym (ap (λ y. rule_argument fs (BodyPart (body_view y)) path) c.in-Try.is))) c.speak_within.ensures
