use Rattle.std.proofs.Common.{◌≡◌, ◌∙◌, ℕ, List, IsTrue, Ok, Err, ap, refl, subst}
use Rattle.wf_cli.proofs.Causes.{resume_executes}
use Rattle.wf_cli.proofs.Finish.{rose_from, none_fell}
use Rattle.wf_cli.proofs.Opens.{not_of_polls, opening_by_resume, resume_uses}
use Rattle.wf_cli.proofs.Works.{end_fault, worked_fault, worked_going, end_going, resume_taken, given_seen, result_not_unread}
use Rattle.wf_cli.proofs.Outsides.{some_outside}
use Rattle.wf_cli.specs.Said.{Going, Opening, Worked}
use Rattle.wf_engine.specs.Engine.{memory}
use Rattle.wf_engine.specs.TheOutside.{InTheOutside}
use Rattle.wf_args.specs.Lines.{line_of}
use Rattle.wf_args.specs.Plain.{plain_line}
use Rattle.wf_host.specs.Source.{Rest}
use Rattle.wf_deeds.specs.Kept as kept
use Rattle.wf_engine.specs.Safe.{scene}
use Rattle.wf_cli.proofs.execution.resume_counted.Goals as goal
use Rattle.wf_replay.specs.TheLanguage.{the_language}

pub returns-in-Ok : goal.returns-in-Ok
returns-in-Ok g c =
    let old = g.H.Host.world c.args.host.now in
    let mid = g.H.Host.world c.open.new.host in
    let new = g.H.Host.world c.to_outcome.new.host in
    let k = c.open.ensures in
    let l = plain_line c.args.line.now in
    let opening : InTheOutside (λ O. (told : IsTrue old.tells) (words : List (List ℕ)) (rest : Rest) (is : line_of words ≡ Ok l) → Opening O kept.Resume (scene words rest old) old mid (Ok c.in-Ok.engine)) = λ O told words rest is. subst (λ r. Opening O kept.Resume (scene words rest old) old mid r) c.in-Ok.is (opening_by_resume O (scene words rest old) old mid (l, is, c.requires.command) refl c.laws_of_rules.ensures.only_readings c.open.result (record {
      opened = k.opened O told;
      session = k.session told;
      begins = k.begins told;
      seen = k.seen told;
      any_moment = k.any_moment told;
      not_a_journal = k.not_a_journal told;
      not_started = k.not_started told;
      settled = k.settled told;
      not_a_history = k.not_a_history told;
      only = k.only;
      deeds = k.deeds told;
      finished = k.finished told;
    })) in
    let work : InTheOutside (λ O. (told : IsTrue old.tells) (words : List (List ℕ)) (rest : Rest) (is : line_of words ≡ Ok l) → Worked O (scene words rest old) old new c.to_outcome.result) = λ O told words rest is.
    worked_going O (scene words rest old) l is kept.Resume old mid new c.in-Ok.engine c.to_outcome.result (resume_executes (scene words rest old) (l, is, c.requires.command)) (resume_taken (scene words rest old) (l, is, c.requires.command)) (λ _. refl) refl
    (λ t i le now. g.met.H.Host.counts_now c.open.new.host t i (k.tells ∙ told) le now)
    (λ t i le now. g.met.H.Host.counts_now c.to_outcome.new.host t i (c.to_outcome.ensures.tells ∙ k.tells ∙ told) le now) (opening O told words rest is)
    (subst (λ n. Going the_language O kept.Resume (memory c.in-Ok.engine) n (opening O told words rest is).silently.done mid new c.to_outcome.result) c.waits.ensures.waits
    (c.to_outcome.ensures.going O (k.tells ∙ told) kept.Resume (opening O told words rest is).silently.done (opening O told words rest is).opened.stands))
    (result_not_unread (g.H.Host.faults c.open.new.host) (g.H.Host.faults c.to_outcome.new.host) c.to_outcome.result c.to_outcome.ensures.says) in
    record {
      end = λ words rest reads reads2 is.
          end_going (scene words rest old) old new reads reads2 (g.H.Host.faults c.args.host.now) (g.H.Host.faults c.open.new.host) (g.H.Host.faults c.to_outcome.new.host) c.to_outcome.result c.to_outcome.ensures.says
          (resume_executes (scene words rest old) (l, is, c.requires.command)) (resume_taken (scene words rest old) (l, is, c.requires.command))
          (λ told. (
            (opening some_outside told words rest is).opened.causes,
            given_seen the_language (scene words rest old) old new c.to_outcome.result (work some_outside told words rest is).silently (work some_outside told words rest is).gives (g.met.H.Host.reads_back c.to_outcome.new.host (c.to_outcome.ensures.tells ∙ k.tells ∙ told)),
          ))
          (λ rose. rose_from (g.H.Host.faults c.args.host.now).disk (g.H.Host.faults c.open.new.host).disk (g.H.Host.faults c.to_outcome.new.host).disk k.counts.disk rose)
          (λ rose. rose_from (g.H.Host.faults c.args.host.now).poll (g.H.Host.faults c.open.new.host).poll (g.H.Host.faults c.to_outcome.new.host).poll k.counts.poll rose);
      worked = work;
      tells = c.to_outcome.ensures.tells ∙ k.tells;
      counts = none_fell (g.H.Host.faults c.args.host.now) (g.H.Host.faults c.open.new.host) (g.H.Host.faults c.to_outcome.new.host) k.counts c.to_outcome.ensures.counts;
    }

pub returns-in-Err : goal.returns-in-Err
returns-in-Err g c =
    let old = g.H.Host.world c.args.host.now in
    let new = g.H.Host.world c.open.new.host in
    let k = c.open.ensures in
    let l = plain_line c.args.line.now in
    let opening : InTheOutside (λ O. (told : IsTrue old.tells) (words : List (List ℕ)) (rest : Rest) (is : line_of words ≡ Ok l) → Opening O kept.Resume (scene words rest old) old new (Err c.in-Err.fault)) = λ O told words rest is. subst (λ r. Opening O kept.Resume (scene words rest old) old new r) c.in-Err.is (opening_by_resume O (scene words rest old) old new (l, is, c.requires.command) refl c.laws_of_rules.ensures.only_readings c.open.result (record {
      opened = k.opened O told;
      session = k.session told;
      begins = k.begins told;
      seen = k.seen told;
      any_moment = k.any_moment told;
      not_a_journal = k.not_a_journal told;
      not_started = k.not_started told;
      settled = k.settled told;
      not_a_history = k.not_a_history told;
      only = k.only;
      deeds = k.deeds told;
      finished = k.finished told;
    })) in
    record {
      end = λ words rest reads reads2 is.
          end_fault (scene words rest old) old new reads reads2 (g.H.Host.faults c.args.host.now) (g.H.Host.faults c.open.new.host) c.in-Err.fault c.of_fault.result c.of_fault.ensures (resume_uses (scene words rest old) (l, is, c.requires.command))
          (resume_taken (scene words rest old) (l, is, c.requires.command)) (λ told. (opening some_outside told words rest is).fault) (λ told. (opening some_outside told words rest is).silently) (λ it. k.disk_fault (c.in-Err.is ∙ ap Err it)) (not_of_polls c.in-Err.fault c.in-Err.ensures.only);
      worked = λ O told words rest is. worked_fault O (scene words rest old) kept.Resume old new c.in-Err.fault c.of_fault.result (opening O told words rest is) c.of_fault.ensures (resume_executes (scene words rest old) (l, is, c.requires.command)) (resume_taken (scene words rest old) (l, is, c.requires.command)) (λ _. refl);
      tells = k.tells;
      counts = k.counts;
    }
