use Rattle.std.proofs.Common.{◌≡◌, ◌-◌, Ok, List, refl, sym, ◌∙◌, ap, subst, arith, length, length-append, ◌∷◌, ◌++◌, []}
use Rattle.std.proofs.lemmas.List.{length-replicate}
use Rattle.std.specs.Prelude.{IfNone, IfSome, Option, option_map, replicate}
use Rattle.wf_engine.proofs.Chosen.{whole_after}
use Rattle.wf_engine.specs.Turn.{AreChosen}
use Rattle.wf_engine.proofs.Turning.{Gone, gone_ends, gone_first, gone_full, gone_nowhere, gone_on, gone_together}
use Rattle.wf_engine.proofs.turns.choose_rest.Goals as goal
use Rattle.wf_events.specs.View.{event_view, events_view}
use Rattle.wf_events.specs.declared.data.Event as declared
use Rattle.wf_machine.specs.Promises.{AppliesAnEvent}
use Rattle.wf_machine.specs.Seen.{state_of}
use Rattle.wf_machine.specs.State.{State}
use Rattle.wf_value.specs.Events.{Event, Move}
use Rattle.wf_machine.specs.declared.ApplyFault.TheVariants as fault

pub loop-events-init : goal.loop-events-init
loop-events-init g c = (gone_first (state_of c.args.machine.now) c.args.reading (events_view c.args.events) c.requires.whole c.args.machine.now.most, refl)

pub loop-events-preserved : goal.loop-events-preserved
loop-events-preserved g c =
    let none : c.in_ok-moves.moves ≡ 0 = omega (arith, c.if-moves-gt0.false) in
    let here = gone_nowhere (state_of c.args.machine.now) (state_of c.apply_moves.new.self) c.args.reading (events_view c.args.events) (events_view c.loop-events.events) c.in_ok-moves.moves
    (gone_together c.laws_of_choice.ensures.choice_takes_the_reading c.laws_of_readings.ensures.chosen_is_from_inside (state_of c.args.machine.now) (state_of c.loop-events.machine) (state_of c.apply_moves.new.self) c.args.reading (events_view c.args.events) (events_view c.loop-events.events)
    c.in_ok-moves.moves c.loop-events.steps c.apply_moves.new.steps c.loop-events.invariant.0
    (omega (arith, c.in_ok-moves.ensures.most, c.loop-events-test.true, c.count.ensures, c.count-room.ensures))
    c.in_ok-moves.ensures.moves) none in
    let did = subst (λ (o : Option declared.Event). IfSome o (λ e. AppliesAnEvent (state_of c.apply_moves.new.self) (state_of c.apply_next.new.self) (event_view e) c.apply_moves.new.steps c.apply_next.new.steps (Ok tt))) c.in-Some.is c.in_ok-event.ensures.applied in
    let is = sym c.in_ok-event.ensures.choice ∙ ap (λ o. option_map event_view o) c.in-Some.is in
    let pushed = c.in_ok-push.ensures.ok ∙ ap (λ e. events_view c.loop-events.events ++ e ∷ []) c.spelled.ensures.same in (
      gone_on (state_of c.args.machine.now) (state_of c.apply_moves.new.self) c.args.reading (events_view c.args.events) (events_view c.loop-events.events) here c.laws_of_choice.ensures.choice_takes_the_reading
          c.laws_of_readings.ensures.chosen_is_from_inside (state_of c.apply_next.new.self) (event_view c.in-Some.event) (events_view c.push.new.self)
          (omega (arith, c.loop-events-test.true, c.count.ensures))
          is did.applied
          (whole_after c.apply_next.new.self.broken (Ok tt) tt fault.OutOfMemory refl did.broken.0) did.program c.spelled.ensures.old did.counted did.most did.last pushed,
      omega (arith, none, c.in_ok-moves.ensures.moves.steps, c.loop-events.invariant.1, did.steps, ap length pushed, length-append (events_view c.loop-events.events) (event_view c.in-Some.event ∷ [])),
    )

pub loop-events-preserved-in-Continue-branch-2 : goal.loop-events-preserved-in-Continue-branch-2
loop-events-preserved-in-Continue-branch-2 g c =
    let pushed = c.in_ok-push_moves.ensures.ok in
    let there = gone_together c.laws_of_choice.ensures.choice_takes_the_reading c.laws_of_readings.ensures.chosen_is_from_inside (state_of c.args.machine.now) (state_of c.loop-events.machine) (state_of c.apply_moves.new.self) c.args.reading (events_view c.args.events) (events_view c.loop-events.events)
    c.in_ok-moves.moves c.loop-events.steps c.apply_moves.new.steps c.loop-events.invariant.0
    (omega (arith, c.in_ok-moves.ensures.most, c.loop-events-test.true, c.count.ensures, c.count-room.ensures))
    c.in_ok-moves.ensures.moves in (
      subst (Gone (state_of c.args.machine.now) (state_of c.apply_moves.new.self) c.args.reading (events_view c.args.events)) (sym pushed) there,
      omega (arith, c.in_ok-moves.ensures.moves.steps, c.loop-events.invariant.1, ap length pushed, length-append (events_view c.loop-events.events) (replicate c.in_ok-moves.moves (Move 0)), length-replicate c.in_ok-moves.moves (Move 0)),
    )

pub returns-in_default-clause-chosen : goal.returns-in_default-clause-chosen
returns-in_default-clause-chosen g c =
    let none : c.in_ok-moves.moves ≡ 0 = omega (arith, c.if-moves-gt0.false) in
    let here = gone_nowhere (state_of c.args.machine.now) (state_of c.apply_moves.new.self) c.args.reading (events_view c.args.events) (events_view c.loop-events.events) c.in_ok-moves.moves
    (gone_together c.laws_of_choice.ensures.choice_takes_the_reading c.laws_of_readings.ensures.chosen_is_from_inside (state_of c.args.machine.now) (state_of c.loop-events.machine) (state_of c.apply_moves.new.self) c.args.reading (events_view c.args.events) (events_view c.loop-events.events)
    c.in_ok-moves.moves c.loop-events.steps c.apply_moves.new.steps c.loop-events.invariant.0
    (omega (arith, c.in_ok-moves.ensures.most, c.loop-events-test.true, c.count.ensures, c.count-room.ensures))
    c.in_ok-moves.ensures.moves) none in
    let idle = subst (λ (o : Option declared.Event). IfNone o ((state_of c.apply_next.new.self ≡ state_of c.apply_moves.new.self) × (c.apply_next.new.steps ≡ c.apply_moves.new.steps))) c.in_default.is c.in_ok-event.ensures.idle in
    subst (λ (s : State). (fs : List Event) × (events_view c.loop-events.events ≡ events_view c.args.events ++ fs) × AreChosen (4096 - length (events_view c.args.events)) (state_of c.args.machine.now) s c.args.reading fs) (sym idle.0)
    (gone_ends (state_of c.args.machine.now) (state_of c.apply_moves.new.self) c.args.reading (events_view c.args.events) (events_view c.loop-events.events) here c.laws_of_choice.ensures.nothing_is_chosen_behind_an_outcome
    c.laws_of_choice.ensures.nothing_is_chosen_when_quiet c.laws_of_counts.ensures.events_are_counted c.args.machine.now.most c.is_sound.ensures (sym c.in_ok-event.ensures.choice ∙ ap (λ o. option_map event_view o) c.in_default.is))

pub returns-clause-chosen : goal.returns-clause-chosen
returns-clause-chosen g c =
    gone_full (state_of c.args.machine.now) (state_of c.loop-events.machine) c.args.reading (events_view c.args.events) (events_view c.loop-events.events) c.loop-events.invariant.0 c.laws_of_choice.ensures.nothing_is_chosen_behind_an_outcome
    c.laws_of_counts.ensures.events_are_counted c.args.machine.now.most c.is_sound.ensures (omega (arith, c.loop-events-test.false, c.count.ensures))
