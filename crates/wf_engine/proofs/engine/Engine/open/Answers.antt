use Rattle.std.proofs.Common.{rules, ◌≡◌, ◌∙◌, ◌+◌, ap, inl, inr, refl, sym, subst, ℕ, suc, length, ◌≤◌, Ok, Err}
use Rattle.std.specs.Prelude.{IsTrue, unwrap_or}
use Rattle.wf_connections.specs.Calls as calls
use Rattle.wf_connections.specs.Calls.{is_dropped, is_started}
use Rattle.wf_engine.proofs.Done.{done_first}
use Rattle.wf_engine.proofs.Beginning.{opens_quietly, then_reads}
use Rattle.wf_engine.proofs.Failing.{is_err, open_failed}
use Rattle.wf_engine.proofs.FreshEngine.{opened_as_fresh}
use Rattle.wf_engine.proofs.Reopened.{deeds_on, has_ended, led_on, next_number, no_history_told, opened, still_stands}
use Rattle.wf_engine.proofs.Settling.{none_fell, rose_later}
use Rattle.wf_engine.proofs.engine.Engine.open.Goals as goal
use Rattle.wf_engine.specs.declared.engine.Engine.{Engine}
use Rattle.wf_history.specs.Stands.{ahead}
use Rattle.wf_journal.specs.Records.{records}
use Rattle.wf_journal.specs.Standing.{new_none}
use Rattle.wf_deeds.specs.At.{applied_by}
use Rattle.wf_deeds.specs.History.{history}
use Rattle.wf_machine.specs.Seen.{state_of}
use Rattle.wf_replay.proofs.OnlyReads.{quiet_stays, settled_behind}
use Rattle.wf_replay.proofs.StillOpen.{tells_still}
use Rattle.wf_replay.specs.Standing.{standing}
use Rattle.wf_replay.specs.TheLanguage.{the_language}
use Rattle.wf_replay.specs.declared.engine_fault.EngineFault.TheVariants as fault

-- there is no record
pub returns-then-at_end : goal.returns-then-at_end
returns-then-at_end g c =
    let w = g.H.Host.world c.args.host.now in
    let file = c.open.ensures in
    record {
      holds = λ told. tt;
      opened = λ O told. tt;
      steps = λ told. tt;
      «open» = tt;
      session = λ told. tt;
      waits = tt;
      begins = λ told. tt;
      seen = file.seen;
      any_moment = λ told. opens_quietly w (g.H.Host.world c.open.new.host) (file.any_moment told);
      disk_fault = λ is. absurd (cc is);
      not_a_journal = λ told is. absurd (cc is);
      not_started = λ told is.
          let short : length w.seen ≤ 4 = subst (λ l. length l ≤ 4) (file.seen told) ((c.in_ok-history.ensures.fresh told).0 (sym c.in_ok-history.ensures.fresh_end ∙ sym c.if-at_end.ensures)) in
          (new_none w.seen short, inl short);
      settled = λ told is. (c.in_ok-history.ensures.stands told).journal.settled;
      not_a_history = search rules;
      only = search rules;
      deeds = λ told. inl (file.deeds told);
      finished = λ told s is ended. file.deeds told;
      tells = file.tells;
      counts = file.counts;
    }

-- the records are no history, or couldn't be read
pub returns-in_err-machine : goal.returns-in_err-machine
returns-in_err-machine g c =
    let w = g.H.Host.world c.args.host.now in
    let mid = g.H.Host.world c.open.new.host in
    let late = g.H.Host.world c.last_machine.new.host in
    let file = c.open.ensures in
    let read = c.last_machine.ensures in
    let on : IsTrue w.tells → IsTrue mid.tells = λ told. tells_still w mid file.tells told in
    let failed = c.in_err-machine.ensures in
    let e = c.in_err-machine.field-0.0 in
    let first : IsTrue w.tells → ahead c.in_ok-history.history mid.seen ≡ records w.seen = λ told. c.in_ok-history.ensures.first told ∙ ap records (file.seen told) in
    open_failed g.H.Host.world g.H.Host.faults c.args.steps.now c.last_machine.new.steps c.args.host.now c.last_machine.new.host e c.from_residual-in_err-machine.result
    (is_err c.from_residual-in_err-machine.result e c.from_residual-in_err-machine.ensures) failed.only
    (λ is. rose_later (g.H.Host.faults c.args.host.now).disk (g.H.Host.faults c.open.new.host).disk (g.H.Host.faults c.last_machine.new.host).disk file.counts.disk (read.disk_fault (c.in_err-machine.was ∙ ap Err is)))
    (λ told is. (sym (first told) ∙ read.not_started (on told) (c.in_err-machine.was ∙ ap Err is), c.in_ok-history.ensures.a_journal told))
    (λ told is. settled_behind mid late (read.any_moment (on told)) (λ t i le now. g.met.H.Host.counts_now c.last_machine.new.host t i (tells_still mid late read.tells (on told)) le now) (read.seen (on told)))
    (λ told. no_history_told {T = Engine} the_language w.seen (ahead c.in_ok-history.history mid.seen) (Err e) e (refl, refl) (first told) (c.in_ok-history.ensures.a_journal told) (failed.not_a_history (on told)))
    (λ told. read.seen (on told) ∙ file.seen told)
    (λ told. opens_quietly w late (quiet_stays w mid late (file.any_moment told) (read.any_moment (on told)) (file.seen told) (file.deeds told) (g.met.H.Host.reads_back c.args.host.now told)))
    (λ told. inl (read.deeds (on told) ∙ file.deeds told)) (λ told s is ended. read.deeds (on told) ∙ file.deeds told) (read.tells ∙ file.tells)
    (none_fell (g.H.Host.faults c.args.host.now) (g.H.Host.faults c.open.new.host) (g.H.Host.faults c.last_machine.new.host) file.counts read.counts)

-- the clock couldn't be read
pub returns-in_err-reading : goal.returns-in_err-reading
returns-in_err-reading g c =
    let w = g.H.Host.world c.args.host.now in
    let mid = g.H.Host.world c.open.new.host in
    let late = g.H.Host.world c.last_machine.new.host in
    let new = g.H.Host.world c.session_reading.new.host in
    let file = c.open.ensures in
    let read = c.last_machine.ensures in
    let clock = c.session_reading.ensures in
    let on : IsTrue w.tells → IsTrue mid.tells = λ told. tells_still w mid file.tells told in
    let later : IsTrue w.tells → IsTrue late.tells = λ told. tells_still mid late read.tells (on told) in
    let seen : IsTrue w.tells → late.seen ≡ w.seen = λ told. read.seen (on told) ∙ file.seen told in
    let deeds : IsTrue w.tells → late.deeds ≡ w.deeds = λ told. read.deeds (on told) ∙ file.deeds told in
    open_failed g.H.Host.world g.H.Host.faults c.args.steps.now c.last_machine.new.steps c.args.host.now c.session_reading.new.host fault.OutOfMemory c.from_residual-in_err-reading.result
    (is_err c.from_residual-in_err-reading.result fault.OutOfMemory c.from_residual-in_err-reading.ensures) (inr (inr (inr refl))) (λ is. absurd (cc is)) (λ told is. absurd (cc is)) (λ told is. absurd (cc is)) (λ told n is. absurd (cc is))
    (λ told. clock.seen (later told) ∙ seen told)
    (λ told.
    let quiet = quiet_stays w mid late (file.any_moment told) (read.any_moment (on told)) (file.seen told) (file.deeds told) (g.met.H.Host.reads_back c.args.host.now told) in
    then_reads w late new quiet (clock.any_moment (later told)) (seen told) (deeds told) (c.in_ok-machine.ensures.stands (on told)).journal.settled (g.met.H.Host.reads_back c.args.host.now told))
    (λ told. deeds_on w late new (deeds told) (clock.deeds (later told)))
    (λ told s is ended.
    let h = c.last_machine.new.history in
    let m = c.in_ok-machine.machine in
    let led = led_on the_language w mid (ahead c.in_ok-history.history mid.seen) (standing h m) (file.seen told) (c.in_ok-history.ensures.first told) (c.in_ok-machine.ensures.leads (on told)) in
    ap (λ x. (g.H.Host.world x).deeds) (clock.finished (has_ended the_language (records w.seen) h m s led is ended)) ∙ deeds told)
    (clock.tells ∙ read.tells ∙ file.tells)
    (none_fell (g.H.Host.faults c.args.host.now) (g.H.Host.faults c.open.new.host) (g.H.Host.faults c.session_reading.new.host) file.counts
    (none_fell (g.H.Host.faults c.open.new.host) (g.H.Host.faults c.last_machine.new.host) (g.H.Host.faults c.session_reading.new.host) read.counts clock.counts))

-- it goes on from there
pub returns : goal.returns
returns g c =
    let w = g.H.Host.world c.args.host.now in
    let mid = g.H.Host.world c.open.new.host in
    let late = g.H.Host.world c.last_machine.new.host in
    let new = g.H.Host.world c.session_reading.new.host in
    let file = c.open.ensures in
    let read = c.last_machine.ensures in
    let clock = c.session_reading.ensures in
    let h = c.last_machine.new.history in
    let m = c.in_ok-machine.machine in
    let found = c.in_ok-machine.ensures in
    let laws = c.laws_of_moments.ensures in
    let on : IsTrue w.tells → IsTrue mid.tells = λ told. tells_still w mid file.tells told in
    let later : IsTrue w.tells → IsTrue late.tells = λ told. tells_still mid late read.tells (on told) in
    let seen : IsTrue w.tells → late.seen ≡ w.seen = λ told. read.seen (on told) ∙ file.seen told in
    let deeds : IsTrue w.tells → late.deeds ≡ w.deeds = λ told. read.deeds (on told) ∙ file.deeds told in
    let first : IsTrue w.tells → ahead c.in_ok-history.history mid.seen ≡ records w.seen = λ told. c.in_ok-history.ensures.first told ∙ ap records (file.seen told) in
    let led : IsTrue w.tells → history the_language (records w.seen) ≡ Ok (standing h m) = λ told. led_on the_language w mid (ahead c.in_ok-history.history mid.seen) (standing h m) (file.seen told) (c.in_ok-history.ensures.first told) (found.leads (on told)) in
    let next : IsTrue w.tells → c.saturating_add.result ≡ suc (standing h m).session = λ told.
    next_number the_language laws.number_is_count laws.session_is_numbered w.seen h m c.saturating_add.result c.unwrap_or-last.result.0 (led told) (g.met.H.Host.fits c.args.host.now told)
    (ap (λ (p : ℕ × ℕ). p.0) (c.unwrap_or-last.ensures ∙ ap (λ o. unwrap_or o (0, 0)) c.last.ensures)) c.saturating_add.ensures in
    record {
      holds = λ told.
          let stood = found.stands (on told) in (
            still_stands h late new stood (clock.seen (later told)) (clock.settled (later told) stood.journal.settled),
            λ none. found.some (on told) (first told ∙ ap records (sym (clock.seen (later told) ∙ seen told)) ∙ none),
          );
      opened = λ O told.
          let a = c.new-connections.result in
          let fine = c.new-connections.ensures in
          opened_as_fresh (state_of m).program (state_of m).config c.saturating_add.result c.in_ok-reading.reading (is_started a) (is_dropped a) (calls.told a) fine.started fine.dropped the_language O w new
          (opened the_language O c.laws_of_rules.ensures.only_readings c.laws_of_steps.ensures.fresh laws.stands_before laws.no_turns_behind laws.session_is_numbered w late new h m c.saturating_add.result c.in_ok-reading.reading (led told) (clock.seen (later told) ∙ seen told) (deeds told) (next told)
          (c.in_ok-reading.ensures.clock (later told)));
      steps = λ told. found.steps (on told) ∙ ap (λ J. c.args.steps.now + applied_by J) (first told);
      «open» = refl;
      session = λ told. next told ∙ sym (laws.next_behind_history the_language (records w.seen) (standing h m) (led told));
      waits = refl;
      begins = search rules;
      seen = λ told. clock.seen (later told) ∙ seen told;
      any_moment = λ told.
          let quiet = quiet_stays w mid late (file.any_moment told) (read.any_moment (on told)) (file.seen told) (file.deeds told) (g.met.H.Host.reads_back c.args.host.now told) in
          then_reads w late new quiet (clock.any_moment (later told)) (seen told) (deeds told) (found.stands (on told)).journal.settled (g.met.H.Host.reads_back c.args.host.now told);
      disk_fault = λ is. absurd (cc is);
      not_a_journal = λ told is. absurd (cc is);
      not_started = λ told is. absurd (cc is);
      settled = λ told is. absurd (cc is);
      not_a_history = λ told. tt;
      only = tt;
      deeds = λ told. deeds_on w late new (deeds told) (clock.deeds (later told));
      finished = λ told s is ended. ap (λ x. (g.H.Host.world x).deeds) (clock.finished (has_ended the_language (records w.seen) h m s (led told) is ended)) ∙ deeds told;
      tells = clock.tells ∙ read.tells ∙ file.tells;
      counts = search rules;
    }

-- no call is done yet
pub invariant_of-result-clause-through : goal.invariant_of-result-clause-through
invariant_of-result-clause-through g c = λ open_now. done_first (state_of c.in_ok-machine.machine).config c.new-connections.result
