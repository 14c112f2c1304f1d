use Rattle.std.proofs.Common.{rules, ◌≡◌, ◌∙◌, Err, ap, inr, refl, sym, subst, [], ◌∷◌, Some}
use Rattle.std.specs.Prelude.{IsTrue}
use Rattle.wf_host.proofs.Printings.{NoneFell-refl}
use Rattle.wf_check.specs.Seen.{program_of}
use Rattle.wf_connections.specs.Calls.{is_dropped, is_started, told}
use Rattle.wf_engine.proofs.Done.{done_first}
use Rattle.wf_engine.proofs.Beginning.{begins_quietly, not_refused, quiet_at_once, then_begins}
use Rattle.wf_engine.proofs.Failing.{begin_failed, is_err}
use Rattle.wf_engine.proofs.FreshEngine.{stands_as_fresh}
use Rattle.wf_engine.proofs.NewSessions.{stands_begun}
use Rattle.wf_engine.proofs.engine.Engine.begin.Goals as goal
use Rattle.wf_deeds.specs.Kept.{Run}
use Rattle.wf_deeds.specs.Memory.{StandsFor}
use Rattle.wf_deeds.specs.Steps.{fresh}
use Rattle.wf_events.specs.Records.{Started}
use Rattle.wf_events.specs.Spelling.{record_bytes}
use Rattle.wf_events.specs.View.{start_view}
use Rattle.wf_journal.specs.Records.{records}
use Rattle.wf_host.specs.declared.data.Deed.TheVariants.{Now}
use Rattle.wf_machine.specs.Seen.{state_of}
use Rattle.wf_model.specs.Config.{To}
use Rattle.wf_model.specs.Run.{initial}
use Rattle.wf_replay.proofs.Language.{of_program}
use Rattle.wf_replay.proofs.StillOpen.{tells_still}
use Rattle.wf_replay.specs.TheLanguage.{the_language}
use Rattle.wf_replay.specs.declared.engine_fault.EngineFault.TheVariants as fault

-- no memory for the machine: nothing was done
pub returns-in_err-machine : goal.returns-in_err-machine
returns-in_err-machine g c =
    let w = g.H.Host.world c.args.host.now in
    let quiet = λ (told : IsTrue w.tells). quiet_at_once w (λ i d left. g.met.H.Host.only_now c.args.host.now i d told left) in
    begin_failed g.H.Host.world g.H.Host.faults (start_view c.args.start.now) c.args.host.now c.args.host.now fault.OutOfMemory c.from_residual.result (is_err c.from_residual.result fault.OutOfMemory c.from_residual.ensures)
    (inr (inr (inr refl))) (λ is. absurd (cc is)) (λ told is. absurd (cc is)) (λ told is. absurd (cc is)) (λ told is. absurd (cc is)) (λ told. begins_quietly w w (record_bytes (Started (start_view c.args.start.now))) (quiet told)) (λ told refused. quiet told)
    (λ told refused. refl) (λ told. refl) refl (NoneFell-refl (g.H.Host.faults c.args.host.now))

-- it was only opened
pub returns-in_err-history : goal.returns-in_err-history
returns-in_err-history g c =
    let w = g.H.Host.world c.args.host.now in
    let file = c.empty_history.ensures in
    let failed = c.in_err-history.ensures in
    let e = c.in_err-history.field-0.0 in
    begin_failed g.H.Host.world g.H.Host.faults (start_view c.args.start.now) c.args.host.now c.empty_history.new.host e c.from_residual-in_err-history.result
    (is_err c.from_residual-in_err-history.result e c.from_residual-in_err-history.ensures) failed.only (λ is. file.disk_fault (c.in_err-history.was ∙ ap Err is)) (λ told is. file.not_a_journal told (c.in_err-history.was ∙ ap Err is))
    (λ told is. file.already_started told (c.in_err-history.was ∙ ap Err is)) (λ told is. file.settled told (c.in_err-history.was ∙ ap Err is))
    (λ told. begins_quietly w (g.H.Host.world c.empty_history.new.host) (record_bytes (Started (start_view c.args.start.now))) (file.any_moment told)) (λ told refused. file.any_moment told) (λ told refused. file.seen told)
    file.deeds file.tells file.counts

-- the start was being written
pub returns-in_err-begin : goal.returns-in_err-begin
returns-in_err-begin g c =
    let w = g.H.Host.world c.args.host.now in
    let mid = g.H.Host.world c.empty_history.new.host in
    let file = c.empty_history.ensures in
    let none = c.in_ok-history.ensures in
    record {
      holds = search rules;
      stands = search rules;
      «open» = search rules;
      session = search rules;
      waits = search rules;
      started = search rules;
      any_moment = λ told.
          then_begins w mid (g.H.Host.world c.begin.new.host) (record_bytes (Started (start_view c.args.start.now))) (file.any_moment told) (c.begin.ensures.any_moment none.«open» (tells_still w mid file.tells told)) (none.none told) (file.deeds told);
      refused_stays = λ told refused. absurd (not_refused w.seen (none.a_journal told) (none.none told) refused);
      refused_reads = λ told refused. absurd (not_refused w.seen (none.a_journal told) (none.none told) refused);
      disk_fault = search rules;
      not_a_journal = search rules;
      a_journal = search rules;
      already_started = search rules;
      settled = search rules;
      fresh = search rules;
      only = search rules;
      deeds = λ told. c.begin.ensures.deeds (tells_still w mid file.tells told) ∙ file.deeds told;
      tells = c.begin.ensures.tells ∙ file.tells;
      counts = search rules;
    }

-- the start stands
pub returns : goal.returns
returns g c =
    let w = g.H.Host.world c.args.host.now in
    let mid = g.H.Host.world c.empty_history.new.host in
    let file = c.empty_history.ensures in
    let none = c.in_ok-history.ensures in
    record {
      holds = λ told. (
        c.begin.ensures.stands c.in_ok-begin.ensures.«open» (tells_still w mid file.tells told),
        λ none. let no : record_bytes (Started (start_view c.args.start.now)) ∷ [] ≡ [] = sym (c.in_ok-begin.ensures.added (tells_still w mid file.tells told)) ∙ none in cc no,
      );
      stands = λ O here handed.
          let s = start_view c.args.start.now in
          let m = c.in_ok-machine.machine in
          let a = c.new-connections.result in
          let fine = c.new-connections.ensures in
          stands_as_fresh (state_of m).program (state_of m).config 1 c.last_reading-reading.result (is_started a) (is_dropped a) (told a) fine.started fine.dropped the_language O Run handed (records (g.H.Host.world c.begin.new.host).seen) (Now c.args.start.now.reading ∷ [])
          (subst (λ J. StandsFor the_language O Run handed (fresh (state_of m).program (state_of m).config 1 c.last_reading-reading.result) J (Now c.args.start.now.reading ∷ [])) (sym (c.in_ok-begin.ensures.added (tells_still w mid file.tells here)))
          (stands_begun the_language O handed c.laws_of_rules.ensures.only_readings c.laws_of_steps.ensures.fresh c.laws_of_histories.ensures.start c.laws_of_runs.ensures.runs_are_bounded (record_bytes (Started s)) s (state_of m).program (state_of m).config
          c.last_reading-reading.result (c.one_spelling.ensures.again (Started s) c.requires.spelled tt) (of_program c.each_source_is_one.ensures s.source (program_of c.args.program) c.requires.accepted ∙ ap (λ p. Some p) (sym c.in_ok-machine.ensures.program))
          (subst (λ p. initial p s ≡ To (state_of m).config) (sym c.in_ok-machine.ensures.program) c.in_ok-machine.ensures.initial) c.last_reading-reading.ensures));
      «open» = refl;
      session = refl;
      waits = refl;
      started = λ told. c.in_ok-begin.ensures.added (tells_still w mid file.tells told);
      any_moment = λ told.
          then_begins w mid (g.H.Host.world c.begin.new.host) (record_bytes (Started (start_view c.args.start.now))) (file.any_moment told) (c.begin.ensures.any_moment none.«open» (tells_still w mid file.tells told)) (none.none told) (file.deeds told);
      refused_stays = λ told refused. absurd (not_refused w.seen (none.a_journal told) (none.none told) refused);
      refused_reads = λ told refused. absurd (not_refused w.seen (none.a_journal told) (none.none told) refused);
      disk_fault = λ is. absurd (cc is);
      not_a_journal = λ told is. absurd (cc is);
      a_journal = none.a_journal;
      already_started = λ told is. absurd (cc is);
      settled = λ told is. absurd (cc is);
      fresh = none.none;
      only = tt;
      deeds = λ told. c.begin.ensures.deeds (tells_still w mid file.tells told) ∙ file.deeds told;
      tells = c.begin.ensures.tells ∙ file.tells;
      counts = search rules;
    }

-- no call is done yet
pub invariant_of-result-clause-through : goal.invariant_of-result-clause-through
invariant_of-result-clause-through g c = λ open_now. done_first (state_of c.in_ok-machine.machine).config c.new-connections.result
