use Rattle.std.proofs.Common.{rules, ◌∙◌, ◌+◌, ap, sym, Ok}
use Rattle.wf_lemmas.proofs.Results.{still_open}
use Rattle.wf_history.specs.Stands.{ahead, is_closed}
use Rattle.wf_deeds.specs.At.{applied_by}
use Rattle.wf_deeds.specs.History.{goes_to}
use Rattle.wf_replay.proofs.FirstRecords.{applied_in_all, at_first_record, at_later_record, records_lead}
use Rattle.wf_replay.proofs.StillOpen.{tells_still}
use Rattle.wf_replay.proofs.opening.last_machine.Goals as goal
use Rattle.wf_replay.specs.Standing.{standing}
use Rattle.wf_replay.specs.TheLanguage.{the_language}
use Rattle.wf_replay.specs.declared.fault.ReplayFault.TheVariants as fault

pub returns-in_err-machine : goal.returns-in_err-machine
returns-in_err-machine g c =
    record {
      leads = search rules;
      steps = search rules;
      some = search rules;
      whole = search rules;
      ended = search rules;
      stands = search rules;
      still_open = search rules;
      new = search rules;
      seen = search rules;
      any_moment = search rules;
      disk_fault = search rules;
      not_started = search rules;
      not_a_history = λ told.
          at_first_record the_language (ahead c.args.history.now (g.H.Host.world c.args.host.now).seen) c.from_residual.result c.in_err-machine.field-0.0 c.from_residual.ensures (c.in_err-machine.ensures.not_a_history told);
      only = search rules;
      deeds = search rules;
      tells = search rules;
      counts = search rules;
    }

pub returns-in_err-replay : goal.returns-in_err-replay
returns-in_err-replay g c =
    record {
      leads = search rules;
      steps = search rules;
      some = search rules;
      whole = search rules;
      ended = search rules;
      stands = search rules;
      still_open = search rules;
      new = search rules;
      seen = search rules;
      any_moment = search rules;
      disk_fault = search rules;
      not_started = search rules;
      not_a_history = λ told.
          let w = g.H.Host.world c.args.host.now in
          let mid = g.H.Host.world c.first_machine.new.host in
          let h = c.first_machine.new.history in
          let s = standing h c.in_ok-machine.machine in
          let (payload, next, first) = c.in_ok-machine.ensures.leads told in
          at_later_record the_language (ahead c.args.history.now w.seen) (ahead h w.seen) s c.from_residual-in_err-replay.result c.in_err-replay.field-0.0 c.from_residual-in_err-replay.ensures
          (record { payload = payload; next = next; first = first })
          (λ n is. ap (λ l. goes_to the_language s (ahead h l)) (sym (c.first_machine.ensures.seen told)) ∙ c.in_err-replay.ensures.bad_event (tells_still w mid c.first_machine.ensures.tells told) n is);
      only = search rules;
      deeds = search rules;
      tells = search rules;
      counts = search rules;
    }

pub returns : goal.returns
returns g c =
    let w = g.H.Host.world c.args.host.now in
    let mid = g.H.Host.world c.first_machine.new.host in
    let h = c.first_machine.new.history in
    let s = standing h c.in_ok-machine.machine in
    record {
      leads = λ told.
          let (payload, next, first) = c.in_ok-machine.ensures.leads told in
          records_lead the_language (ahead c.args.history.now w.seen) payload (ahead h w.seen) s (Ok (standing c.replay.new.history c.in_ok-replay.field-0)) next first
          (ap (λ l. goes_to the_language s (ahead h l)) (sym (c.first_machine.ensures.seen told)) ∙ c.in_ok-replay.ensures.replayed (tells_still w mid c.first_machine.ensures.tells told));
      steps = λ told.
          let (payload, next, first) = c.in_ok-machine.ensures.leads told in
          applied_in_all the_language (ahead c.args.history.now w.seen) payload (ahead h w.seen) s c.args.steps.now c.replay.new.steps next first
          (c.in_ok-replay.ensures.steps (tells_still w mid c.first_machine.ensures.tells told) ∙ ap (λ l. c.args.steps.now + applied_by (ahead h l)) (c.first_machine.ensures.seen told));
      some = search rules;
      whole = search rules;
      ended = search rules;
      stands = λ told.
          c.replay.ensures.stands (still_open (is_closed h) (is_closed c.replay.new.history) fault.DiskFault c.replay.result c.in_ok-replay.field-0 c.in_ok-replay.was c.in_ok-machine.ensures.still_open c.replay.ensures.closes)
          (tells_still w mid c.first_machine.ensures.tells told);
      still_open = search rules;
      new = search rules;
      seen = search rules;
      any_moment = search rules;
      disk_fault = search rules;
      not_started = search rules;
      not_a_history = search rules;
      only = search rules;
      deeds = search rules;
      tells = search rules;
      counts = search rules;
    }
