use Rattle.std.proofs.Common.{ap, ◌∙◌, arith, length, length-append, ◌≡◌, ◌+◌, ◌∷◌, ◌++◌, []}
use Rattle.wf_engine.proofs.Bringing.{Behind, turn_behind}
use Rattle.wf_engine.proofs.turns.choose_behind.Goals as goal
use Rattle.wf_engine.specs.Taken.{taken_event}
use Rattle.wf_engine.specs.Turn.{IsTurn}
use Rattle.std.specs.Prelude.{Some}
use Rattle.wf_lemmas.proofs.Results.{with_ok}
use Rattle.wf_events.specs.View.{event_view, events_view}
use Rattle.wf_machine.specs.Seen.{state_of}

pub choose_rest-requires-clause-room : goal.choose_rest-requires-clause-room
choose_rest-requires-clause-room g c = omega (arith, ap length c.in_ok-push.ensures.ok, ap length c.new-events.ensures, length-append (events_view c.new-events.result) (event_view c.in_ok-event.event ∷ []))

pub returns-clause-turn : goal.returns-clause-turn
returns-clause-turn g c =
    let old = state_of c.args.machine.now in
    let mid = state_of c.bring.new.machine in
    let new = state_of c.choose_rest.new.machine in
    let r = c.args.reading in
    let t = c.args.taken in
    let e = event_view c.in_ok-event.event in
    let first = c.in_ok-push.ensures.ok ∙ ap (λ l. l ++ e ∷ []) c.new-events.ensures in
    with_ok (λ all. Behind mid new r (events_view c.push.new.self) (events_view all)) (λ all. IsTurn old new r (taken_event r (Some t)) (events_view all)) c.choose_rest.result
    (λ all chosen. turn_behind c.laws_of_counts.ensures.taken_weighs_nothing old mid new r t e (events_view c.push.new.self) (events_view all) c.in_ok-event.ensures.brought c.requires.takable.active (c.is_sound.ensures c.requires.takable.active) first chosen)
    c.choose_rest.ensures.chosen

pub returns-clause-steps : goal.returns-clause-steps
returns-clause-steps g c =
    let first = length-append (events_view c.new-events.result) (event_view c.in_ok-event.event ∷ []) in
    with_ok (λ all. c.choose_rest.new.steps + length (events_view c.push.new.self) ≡ c.bring.new.steps + length (events_view all)) (λ all. c.choose_rest.new.steps ≡ c.args.steps.now + length (events_view all)) c.choose_rest.result
    (λ all is. omega (arith, is, ap length c.in_ok-push.ensures.ok, ap length c.new-events.ensures, first, c.in_ok-event.ensures.steps)) c.choose_rest.ensures.steps

pub choose_rest-requires-clause-whole : goal.choose_rest-requires-clause-whole
choose_rest-requires-clause-whole g c = c.in_ok-event.ensures.brought.whole
