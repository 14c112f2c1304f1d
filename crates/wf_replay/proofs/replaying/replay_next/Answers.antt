use Rattle.std.proofs.Common.{◌≡◌, ℕ, suc, List, [], ◌∷◌, Some, subst, subst₂}
use Rattle.std.specs.Prelude.{MatchOption}
use Rattle.wf_events.specs.Reading.{meaning}
use Rattle.wf_events.specs.View.{record_view}
use Rattle.wf_history.specs.Stands.{ahead, last, last_after, place}
use Rattle.wf_deeds.specs.History.{goes_on}
use Rattle.wf_replay.specs.TheLanguage.{the_language}
use Rattle.wf_replay.proofs.Applied.{passed}
use Rattle.wf_replay.proofs.Faults.{IsToldAt, at_no_record, at_record}
use Rattle.wf_replay.proofs.Steps.{passes_one}
use Rattle.wf_replay.proofs.replaying.replay_next.Goals as goal
use Rattle.wf_replay.specs.Standing.{stands_at}

-- src/replaying.rt:77:24
pub returns-in_err-record-clause-bad_event : goal.returns-in_err-record-clause-bad_event
returns-in_err-record-clause-bad_event g c = λ told.
    at_no_record (place c.args.history.now) (last c.args.history.now) c.args.machine.now (ahead c.args.history.now (g.H.Host.world c.args.host.now).seen) c.from_residual.result c.in_err-record.field-0.0 c.from_residual.ensures (c.in_err-record.ensures.bad_record told)

-- src/replaying.rt:80:5
pub returns-in_err-replay_record-clause-bad_event : goal.returns-in_err-replay_record-clause-bad_event
returns-in_err-replay_record-clause-bad_event g c = λ told.
    let w = g.H.Host.world c.args.host.now in
    let found = subst (λ o. MatchOption o (ahead c.args.history.now w.seen ≡ []) (λ r. (payload : List ℕ) × (ahead c.args.history.now w.seen ≡ payload ∷ ahead c.next.new.self w.seen) × (meaning payload ≡ Some (record_view r)))) c.in-Some.is (c.in_ok-record.ensures.record told) in
    at_record (place c.args.history.now) (last c.args.history.now) c.args.machine.now found.0 (ahead c.next.new.self w.seen) (ahead c.args.history.now w.seen) (record_view c.in-Some.record) c.from_residual-in_err-replay_record.result c.in_err-replay_record.field-0.0
    c.from_residual-in_err-replay_record.ensures found.1 found.2
    (subst₂ (λ p l. IsToldAt c.in_err-replay_record.field-0.0 (record_view c.in-Some.record) c.args.machine.now p l) c.place-number.ensures c.last-last.ensures c.in_err-replay_record.ensures.bad_event)

pub returns-clause-steps : goal.returns-clause-steps
returns-clause-steps g c = λ told.
    let w = g.H.Host.world c.args.host.now in
    let found = subst (λ o. MatchOption o (ahead c.args.history.now w.seen ≡ []) (λ r. (payload : List ℕ) × (ahead c.args.history.now w.seen ≡ payload ∷ ahead c.next.new.self w.seen) × (meaning payload ≡ Some (record_view r)))) c.in-Some.is (c.in_ok-record.ensures.record told) in
    passed (record_view c.in-Some.record) found.0 (ahead c.next.new.self w.seen) (ahead c.args.history.now w.seen) c.args.steps.now c.replay_record.new.steps found.1 found.2 c.in_ok-replay_record.ensures.steps

pub returns-clause-one : goal.returns-clause-one
returns-clause-one g c = λ told _.
    let w = g.H.Host.world c.args.host.now in
    let r = record_view c.in-Some.record in
    let found = subst (λ o. MatchOption o (ahead c.args.history.now w.seen ≡ []) (λ r. (payload : List ℕ) × (ahead c.args.history.now w.seen ≡ payload ∷ ahead c.next.new.self w.seen) × (meaning payload ≡ Some (record_view r)))) c.in-Some.is (c.in_ok-record.ensures.record told) in
    let number = subst (λ o. MatchOption o (place c.next.new.self ≡ place c.args.history.now) (λ _. place c.next.new.self ≡ suc (place c.args.history.now))) c.in-Some.is (c.in_ok-record.ensures.place told) in
    let turn = subst (λ o. MatchOption o (last c.next.new.self ≡ last c.args.history.now) (λ r. last c.next.new.self ≡ last_after (last c.args.history.now) (record_view r))) c.in-Some.is c.in_ok-record.ensures.last in
    passes_one (place c.args.history.now) (place c.next.new.self) (last c.args.history.now) (last c.next.new.self) c.args.machine.now c.replay_record.new.machine found.0 (ahead c.next.new.self w.seen) (ahead c.args.history.now w.seen) r found.1 found.2
    (subst₂ (λ p l. goes_on the_language (stands_at p l c.args.machine.now) (Some r) ≡ Some (stands_at (suc p) (last_after l r) c.replay_record.new.machine)) c.place-number.ensures c.last-last.ensures c.in_ok-replay_record.ensures.goes_on) number turn
