use Rattle.std.proofs.Common.{◌≡◌, ◌+◌, ◌++◌, ◌∷◌, [], Some, rules, bytes_eq, codes, map, take, sym, ap, ◌∙◌, subst}
use Rattle.std.specs.Prelude.{option_map}
use Rattle.wf_ast.specs.View.{flow_view, flows_view}
use Rattle.wf_syntax_rules.specs.Meaning.{IsFlow}
use Rattle.wf_syntax_rules.specs.Rules.{Flow}
use Rattle.wf_syntax.proofs.Mains.{SoFar}
use Rattle.wf_syntax.proofs.Programs.{flow_stops, main_step, mapped_end, other_step, program_is}
use Rattle.wf_syntax.proofs.flows.program.Goals as goal
use Rattle.wf_syntax.proofs.flows.program.Goals.{then-eq, else-eq+in-Ok-push}
use Rattle.wf_syntax.specs.Answers.{Fails, IsSoundAnd}
use Rattle.wf_value.specs.Stops.{IsOutside}
use Rattle.wf_tree.specs.Plain.{plain_tree, plain_pairs}
use Rattle.wf_value.specs.declared.path.PathPart.TheVariants.{Key}

pub returns-in-Err : goal.returns-in-Err
returns-in-Err c =
    let p = c.pair-item.result in
    flow_stops c.args.fields.now c.pairs-pair-items.result.now c.each.pair-index p c.in-Err.stop c.at_key.result c.pairs-pair-items.ensures.pairs c.each-test.true c.pair-item.is
    (sym c.has.ensures ∙ c.if-not-has.false) c.each.invariant.sound (subst (λ k. Fails (Flow k) (plain_tree p.1) c.in-Err.stop) c.as_str-name.ensures c.in-Err.ensures)
    (subst (λ k. IsOutside (Key k) c.in-Err.stop c.at_key.result) c.as_str-name.ensures c.at_key.ensures)

pub each-preserved : goal.each-preserved
each-preserved c =
    let p = c.pair-item.result in
    let ps = c.pairs-pair-items.result.now in
    let i = c.each.pair-index in
    let f = flow_view c.in-Ok.flow in
    let rest = map flow_view c.each.others.items in
    let here : IsSoundAnd (Flow p.0) (plain_tree p.1) (IsFlow f p.0 (plain_tree p.1)) = subst (λ k. IsSoundAnd (Flow k) (plain_tree p.1) (IsFlow f k (plain_tree p.1))) c.as_str-name.ensures c.in-Ok.ensures in
    let named : bytes_eq p.0 (codes "main") ≡ c.eq.result = ap (λ k. bytes_eq k (codes "main")) (sym c.as_str-name.ensures) ∙ sym c.eq.ensures in
    elim c.if-eq.branch [
      | then-eq w ↦
          subst (λ m. SoFar (option_map flow_view m) (map flow_view c.if-eq.others.items) (take (i + 1) (plain_pairs ps))) (sym w.main-is)
          (subst (λ o. SoFar (option_map flow_view (Some c.in-Ok.flow)) (map flow_view o.items) (take (i + 1) (plain_pairs ps))) (sym w.others-is)
          (main_step (option_map flow_view c.each.main) rest f ps i p c.each-test.true c.pair-item.is c.pairs-pair-items.ensures.order c.each.invariant (named ∙ w.if-eq.true) here))
      | else-eq+in-Ok-push w ↦
          let grown : c.if-eq.others.items ≡ c.each.others.items ++ c.in-Ok.flow ∷ [] = search rules in
          subst (λ m. SoFar (option_map flow_view m) (map flow_view c.if-eq.others.items) (take (i + 1) (plain_pairs ps))) (sym w.main-is)
          (subst (λ l. SoFar (option_map flow_view c.each.main) l (take (i + 1) (plain_pairs ps))) (sym (ap (λ l. map flow_view l) grown ∙ mapped_end flow_view c.each.others.items c.in-Ok.flow))
          (other_step (option_map flow_view c.each.main) rest f ps i p c.each-test.true c.pair-item.is c.each.invariant (named ∙ w.if-eq.false) here))
    ]

pub returns-in_ok-in_order-in-Some : goal.returns-in_ok-in_order-in-Some
returns-in_ok-in_order-in-Some c =
    let ps = c.pairs-pair-items.result.now in
    program_is c.args.fields.now ps c.each.pair-index (flow_view c.in-Some.main) (map flow_view c.each.others.items) (record { flows = flows_view c.in_ok-in_order-in-Some.field-0 }) c.pairs-pair-items.ensures.pairs c.each-test.false
    (sym c.has.ensures ∙ c.if-not-has.false) (subst (λ o. SoFar (option_map flow_view o) (map flow_view c.each.others.items) (take c.each.pair-index (plain_pairs ps))) c.in-Some.is c.each.invariant) c.in_ok-in_order-in-Some.ensures
