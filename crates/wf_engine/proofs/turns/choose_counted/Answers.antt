use Rattle.std.proofs.Common.{subst, sym, ap, arith, length, ◌≡◌, ◌+◌}
use Rattle.std.specs.Prelude.{IfOk}
use Rattle.wf_lemmas.proofs.Results.{with_ok}
use Rattle.wf_engine.proofs.Bringing.{Behind, turn_alone}
use Rattle.wf_engine.proofs.turns.choose_counted.Goals as goal
use Rattle.wf_engine.specs.Taken.{taken_event}
use Rattle.wf_engine.specs.Turn.{IsTurn}
use Rattle.wf_events.specs.View.{events_view}
use Rattle.wf_machine.specs.Seen.{state_of}

pub returns-in-None-clause-turn : goal.returns-in-None-clause-turn
returns-in-None-clause-turn g c =
    let old = state_of c.args.machine.now in
    let new = state_of c.choose_rest.new.machine in
    let r = c.args.reading in
    with_ok (λ all. Behind old new r (events_view c.new.result) (events_view all)) (λ all. IsTurn old new r (taken_event r c.args.taken) (events_view all)) c.choose_rest.result
    (λ all chosen. turn_alone old new r (taken_event r c.args.taken) (events_view c.new.result) (events_view all) c.requires.last (ap (taken_event r) c.in-None.is) c.new.ensures chosen) c.choose_rest.ensures.chosen

pub returns-in-None-clause-steps : goal.returns-in-None-clause-steps
returns-in-None-clause-steps g c =
    with_ok (λ all. c.choose_rest.new.steps + length (events_view c.new.result) ≡ c.args.steps.now + length (events_view all)) (λ all. c.choose_rest.new.steps ≡ c.args.steps.now + length (events_view all)) c.choose_rest.result
    (λ all is. omega (arith, is, ap length c.new.ensures)) c.choose_rest.ensures.steps

pub returns-in-Some-clause-turn : goal.returns-in-Some-clause-turn
returns-in-Some-clause-turn g c =
    let old = state_of c.args.machine.now in
    let new = state_of c.choose_behind.new.machine in
    let r = c.args.reading in
    subst (λ o. IfOk c.choose_behind.result (λ events. IsTurn old new r (taken_event r o) (events_view events))) (sym c.in-Some.is) c.choose_behind.ensures.turn

pub choose_behind-requires-clause-takable : goal.choose_behind-requires-clause-takable
choose_behind-requires-clause-takable g c = c.requires.takable c.in-Some.taken c.in-Some.is

pub choose_rest-requires-clause-room : goal.choose_rest-requires-clause-room
choose_rest-requires-clause-room g c = omega (arith, ap length c.new.ensures)
