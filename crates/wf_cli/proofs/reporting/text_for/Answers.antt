use Rattle.std.proofs.Common.{◌≡◌, ◌∙◌, IfOk, rules, sym, subst}
use Rattle.std.specs.Prelude.{string_bytes}
use Rattle.wf_args.specs.Lines.{turn_of}
use Rattle.wf_args.specs.Plain.{plain_line}
use Rattle.wf_cli.proofs.Readings.{front_read, lacks_read, no_play_read, passed_read, tells_whole, text_read}
use Rattle.wf_cli.proofs.reporting.text_for.Goals as goal
use Rattle.wf_journal.specs.Records.{records}
use Rattle.wf_machine.specs.Seen.{state_of}
use Rattle.wf_replay.specs.TheLanguage.{the_language}
use Rattle.wf_report.specs.Journals.{Shows}

pub returns-in-At-clause-reads : goal.returns-in-At-clause-reads
returns-in-At-clause-reads g c = λ told.
    let old = g.H.Host.world c.args.host.now in
    let new = g.H.Host.world c.state_at.new.host in
    let k = c.state_at.ensures in
    let command = sym c.command.ensures.command ∙ c.in-At.is in
    let turns : c.from.result ≡ turn_of (plain_line c.args.line.now) = search rules in
    front_read (plain_line c.args.line.now) old new c.state_at.result (record {
      begins = k.begins told;
      not_a_journal = k.not_a_journal told;
      not_started = k.not_started told;
      not_a_history = no_play_read old.seen c.state_at.result (k.not_a_history told);
      settled = k.settled told;
      settled_empty = k.settled_empty told;
      seen = k.seen told;
      any_moment = k.any_moment told;
      deeds = k.deeds told;
    }) command (subst (λ n. IfOk c.state_at.result (λ text. Shows the_language (records old.seen) n (string_bytes text))) turns (k.shows told))

pub returns-in_err-machine-in_default-clause-reads : goal.returns-in_err-machine-in_default-clause-reads
returns-in_err-machine-in_default-clause-reads g c = λ told.
    let old = g.H.Host.world c.args.host.now in
    let new = g.H.Host.world c.last_state.new.host in
    let k = c.last_state.ensures in
    passed_read (plain_line c.args.line.now) old new c.last_state.result c.in_err-machine-in_default.field-0.0 c.from_residual.result (record {
      begins = k.begins told;
      not_a_journal = k.not_a_journal told;
      not_started = k.not_started told;
      not_a_history = k.not_a_history told;
      settled = k.settled told;
      settled_empty = k.settled_empty told;
      seen = k.seen told;
      any_moment = k.any_moment told;
      deeds = k.deeds told;
    }) c.in_err-machine-in_default.was c.from_residual.ensures

pub returns-in_ok-text_of_state-in_default-clause-reads : goal.returns-in_ok-text_of_state-in_default-clause-reads
returns-in_ok-text_of_state-in_default-clause-reads g c = λ told.
    let old = g.H.Host.world c.args.host.now in
    let new = g.H.Host.world c.last_state.new.host in
    let k = c.last_state.ensures in
    let l = plain_line c.args.line.now in
    let m = c.in_ok-machine-in_default.machine in
    let leads = c.in_ok-machine-in_default.ensures.leads told in
    text_read l old new c.last_state.result m c.in_ok-text_of_state-in_default.field-0 (record {
      begins = k.begins told;
      not_a_journal = k.not_a_journal told;
      not_started = k.not_started told;
      not_a_history = k.not_a_history told;
      settled = k.settled told;
      settled_empty = k.settled_empty told;
      seen = k.seen told;
      any_moment = k.any_moment told;
      deeds = k.deeds told;
    }) c.in_ok-machine-in_default.was (leads.0, leads.1) (tells_whole l (records old.seen) (state_of m).config _ c.requires.command (λ at. c.in_default.not-At (c.command.ensures.command ∙ at)) leads c.in_ok-text_of_state-in_default.ensures)

pub returns-in_err-text_of_state-in_default-clause-reads : goal.returns-in_err-text_of_state-in_default-clause-reads
returns-in_err-text_of_state-in_default-clause-reads g c = λ told.
    let old = g.H.Host.world c.args.host.now in
    let new = g.H.Host.world c.last_state.new.host in
    let k = c.last_state.ensures in
    lacks_read (plain_line c.args.line.now) old new c.last_state.result c.from_residual-in_err-text_of_state-in_default.result (record {
      begins = k.begins told;
      not_a_journal = k.not_a_journal told;
      not_started = k.not_started told;
      not_a_history = k.not_a_history told;
      settled = k.settled told;
      settled_empty = k.settled_empty told;
      seen = k.seen told;
      any_moment = k.any_moment told;
      deeds = k.deeds told;
    }) c.from_residual-in_err-text_of_state-in_default.ensures
