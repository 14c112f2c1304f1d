use Rattle.std.proofs.Common.{◌∙◌, false, Ok, Err, ap, subst, sym}
use Rattle.wf_cli.proofs.Goes.{going, fault_said, says_outcome, SaysEnd, settled}
use Rattle.wf_cli.proofs.Works.{no_said, still_unwritten}
use Rattle.wf_cli.specs.Said.{Unwritten}
use Rattle.wf_engine.specs.Engine.{memory}
use Rattle.wf_machine.specs.Lent.{outcome_view}
use Rattle.wf_cli.proofs.execution.to_outcome.Goals as goal
use Rattle.wf_replay.specs.TheLanguage.{the_language}

pub returns-in_err-outcome-in-Ok-clause-going : goal.returns-in_err-outcome-in-Ok-clause-going
returns-in_err-outcome-in-Ok-clause-going g c = λ O told command D stands.
    let old = g.H.Host.world c.args.host.now in
    let new = g.H.Host.world c.session.new.host in
    let k = c.session.ensures in
    let m = memory c.args.engine in
    going the_language O command m c.args.waits D old new c.from_residual.result (k.any_moment O c.requires.open told command false D stands)
    (λ t i le now. g.met.H.Host.counts_now c.session.new.host t i (k.tells ∙ told) le now) (g.met.H.Host.reads_back c.session.new.host (k.tells ∙ told))
    (λ over. (
      subst (λ h. Unwritten old (g.H.Host.world h)) (sym (k.finished told over)) (still_unwritten old (λ i d left. g.met.H.Host.only_now c.args.host.now i d told left)),
      ap (λ h. (g.H.Host.world h).deeds) (k.finished told over),
    ))
    (λ silently. no_said c.from_residual.result (SaysEnd the_language O command m c.args.waits D new silently.done) c.from_residual.ensures.0)

pub returns-in-Ok-clause-going : goal.returns-in-Ok-clause-going
returns-in-Ok-clause-going g c = λ O told command D stands.
    let old = g.H.Host.world c.args.host.now in
    let new = g.H.Host.world c.session.new.host in
    let k = c.session.ensures in
    let m = memory c.args.engine in
    going the_language O command m c.args.waits D old new (Ok c.in_ok-outcome-in-Ok.field-0) (k.any_moment O c.requires.open told command false D stands)
    (λ t i le now. g.met.H.Host.counts_now c.session.new.host t i (k.tells ∙ told) le now) (g.met.H.Host.reads_back c.session.new.host (k.tells ∙ told))
    (λ over. (
      subst (λ h. Unwritten old (g.H.Host.world h)) (sym (k.finished told over)) (still_unwritten old (λ i d left. g.met.H.Host.only_now c.args.host.now i d told left)),
      ap (λ h. (g.H.Host.world h).deeds) (k.finished told over),
    ))
    (says_outcome the_language O command m (memory c.session.new.self) c.args.waits D old new c.laws_of_steps.ensures.end (c.in-Ok.ensures.ended O told) k.session (settled c.session.new.self new (k.holds c.in-Ok.ensures.open told)) stands
    (outcome_view c.outcome.result) (c.outcome.ensures.outcome ∙ ap (λ d. d.outcome) c.machine.ensures.config) (Ok c.in_ok-outcome-in-Ok.field-0) c.in_ok-outcome-in-Ok.ensures)

pub returns-clause-going : goal.returns-clause-going
returns-clause-going g c = λ O told command D stands.
    let old = g.H.Host.world c.args.host.now in
    let new = g.H.Host.world c.session.new.host in
    let k = c.session.ensures in
    let m = memory c.args.engine in
    going the_language O command m c.args.waits D old new c.of_fault.result (k.any_moment O c.requires.open told command false D stands)
    (λ t i le now. g.met.H.Host.counts_now c.session.new.host t i (k.tells ∙ told) le now) (g.met.H.Host.reads_back c.session.new.host (k.tells ∙ told))
    (λ over. (
      subst (λ h. Unwritten old (g.H.Host.world h)) (sym (k.finished told over)) (still_unwritten old (λ i d left. g.met.H.Host.only_now c.args.host.now i d told left)),
      ap (λ h. (g.H.Host.world h).deeds) (k.finished told over),
    ))
    (fault_said the_language O command m (memory c.session.new.self) c.args.waits D old new c.in-Err.fault c.of_fault.result c.laws_of_steps.ensures.end c.in-Err.ensures.only c.of_fault.ensures (λ is. k.suspended O told (c.in-Err.is ∙ ap Err is)) k.session
    (λ is. settled c.session.new.self new (k.holds (k.still_open (c.in-Err.is ∙ ap Err is)) told)) stands)
