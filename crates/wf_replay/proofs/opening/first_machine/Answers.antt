use Rattle.std.proofs.Common.{rules, ◌≡◌, ◌∙◌, ap, subst, List, ℕ, [], ◌∷◌, Some, None}
use Rattle.std.proofs.lemmas.Result.{IfOk-weaker}
use Rattle.std.specs.Prelude.{IsTrue, MatchOption, suc}
use Rattle.wf_events.specs.Reading.{meaning}
use Rattle.wf_events.specs.View.{record_view}
use Rattle.wf_history.specs.Stands.{ahead, last, last_after, place}
use Rattle.wf_machine.specs.declared.machine.Machine.{Machine}
use Rattle.wf_deeds.specs.History.{first_standing}
use Rattle.wf_replay.proofs.FirstRecords.{at_bad_record, at_no_start, behind_first, on_ok}
use Rattle.wf_replay.proofs.StillOpen.{some_first}
use Rattle.wf_replay.proofs.opening.first_machine.Goals as goal
use Rattle.wf_replay.specs.Standing.{standing, stands_at}
use Rattle.wf_replay.specs.TheLanguage.{the_language}

pub returns-in_err-record : goal.returns-in_err-record
returns-in_err-record g c =
    record {
      leads = search rules;
      some = search rules;
      whole = search rules;
      stands = search rules;
      still_open = search rules;
      new = search rules;
      seen = search rules;
      any_moment = search rules;
      disk_fault = search rules;
      not_started = search rules;
      not_a_history = λ told.
          at_bad_record the_language (ahead c.args.history.now (g.H.Host.world c.args.host.now).seen) (place c.args.history.now) c.from_residual.result c.in_err-record.field-0.0 c.from_residual.ensures c.requires.first (c.in_err-record.ensures.bad_record told);
      only = search rules;
      deeds = search rules;
      tells = search rules;
      counts = search rules;
    }

pub returns : goal.returns
returns g c =
    let w = g.H.Host.world c.args.host.now in
    let found = λ (told : IsTrue w.tells). subst (λ o. MatchOption o (ahead c.args.history.now w.seen ≡ []) (λ r. (payload : List ℕ) × (ahead c.args.history.now w.seen ≡ payload ∷ ahead c.next.new.self w.seen) × (meaning payload ≡ Some (record_view r)))) c.in-Some.is (c.in_ok-record.ensures.record told) in
    record {
      leads = λ told.
          let it = found told in
          let at = subst (λ o. MatchOption o (place c.next.new.self ≡ place c.args.history.now) (λ _. place c.next.new.self ≡ suc (place c.args.history.now))) c.in-Some.is (c.in_ok-record.ensures.place told) in
          let behind = subst (λ o. MatchOption o (last c.next.new.self ≡ last c.args.history.now) (λ r. last c.next.new.self ≡ last_after (last c.args.history.now) (record_view r))) c.in-Some.is c.in_ok-record.ensures.last in
          IfOk-weaker c.machine_of.result
          (λ (m : Machine). first_standing the_language (Some (record_view c.in-Some.record)) ≡ Some (stands_at 1 None m))
          (λ (m : Machine). (payload : List ℕ) × (ahead c.args.history.now w.seen ≡ payload ∷ ahead c.next.new.self w.seen) × (first_standing the_language (meaning payload) ≡ Some (standing c.next.new.self m)))
          (λ m leads. (
            it.0,
            it.1,
            ap (λ o. first_standing the_language o) it.2
                ∙ behind_first the_language (place c.next.new.self) (last c.next.new.self) (record_view c.in-Some.record) m (at ∙ ap suc c.requires.first) (behind ∙ ap (λ l. last_after l (record_view c.in-Some.record)) c.requires.none_read) leads,
          ))
          c.machine_of.ensures.starts;
      some = λ told. on_ok c.machine_of.result (some_first (ahead c.args.history.now w.seen) (ahead c.next.new.self w.seen) (found told).0 (found told).1);
      whole = search rules;
      stands = search rules;
      still_open = search rules;
      new = search rules;
      seen = search rules;
      any_moment = search rules;
      disk_fault = search rules;
      not_started = search rules;
      not_a_history = λ told.
          at_no_start the_language (ahead c.args.history.now w.seen) (ahead c.next.new.self w.seen) (found told).0 (record_view c.in-Some.record) c.machine_of.result (found told).1 (found told).2 c.machine_of.ensures.none c.machine_of.ensures.only;
      only = search rules;
      deeds = search rules;
      tells = search rules;
      counts = search rules;
    }
