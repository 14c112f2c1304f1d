use Rattle.std.proofs.Common.{◌≡◌, ◌∙◌, ℕ, List, IsTrue, Ok, Err, ap, refl, subst}
use Rattle.wf_check.specs.Seen.{program_of}
use Rattle.wf_cli.proofs.Causes.{run_executes, not_run_and_resume}
use Rattle.wf_cli.proofs.Finish.{rose_from, none_fell}
use Rattle.wf_cli.proofs.Opens.{run_uses}
use Rattle.wf_cli.proofs.Works.{end_fault, worked_fault, worked_going, end_going, is_taken, given_seen, result_not_unread}
use Rattle.wf_cli.proofs.Outsides.{some_outside}
use Rattle.wf_cli.specs.Said.{Going, Opening, Worked}
use Rattle.wf_engine.specs.Engine.{memory}
use Rattle.wf_engine.specs.TheOutside.{InTheOutside}
use Rattle.wf_host.specs.Source.{Rest, IsFirst}
use Rattle.wf_args.specs.Lines.{line_of}
use Rattle.wf_deeds.specs.Kept as kept
use Rattle.wf_engine.specs.Printed.{uses_source}
use Rattle.wf_engine.specs.Safe.{scene}
use Rattle.wf_args.specs.Plain.{plain_line}
use Rattle.wf_cli.proofs.execution.run_program.Goals as goal
use Rattle.wf_replay.specs.TheLanguage.{the_language}

pub returns-in-Ok : goal.returns-in-Ok
returns-in-Ok g c =
    let old = g.H.Host.world c.args.host.now in
    let mid = g.H.Host.world c.begin.new.host in
    let new = g.H.Host.world c.to_outcome.new.host in
    let k = c.begin.ensures in
    let l = plain_line c.args.line.now in
    let opening : InTheOutside (λ O. (told : IsTrue old.tells) (words : List (List ℕ)) (rest : Rest) (is : line_of words ≡ Ok l) (first : IsFirst 131073 rest c.args.source.now) → Opening O kept.Run (scene words rest old) old mid (Ok c.in-Ok.engine)) = λ O told words rest is first. subst (λ r. Opening O kept.Run (scene words rest old) old mid r) c.in-Ok.is (k.opening O told words rest is first) in
    let work : InTheOutside (λ O. (told : IsTrue old.tells) (words : List (List ℕ)) (rest : Rest) (is : line_of words ≡ Ok l) (first : IsFirst 131073 rest c.args.source.now) → Worked O (scene words rest old) old new c.to_outcome.result) = λ O told words rest is first.
    worked_going O (scene words rest old) l is kept.Run old mid new c.in-Ok.engine c.to_outcome.result (run_executes (scene words rest old) (l, is, c.requires.command))
    (is_taken c.laws_of_sources.ensures.not_both (scene words rest old) l c.args.source.now (program_of c.args.program) (is, ap uses_source c.requires.command, first) c.requires.command c.requires.program c.requires.has)
    (λ line. absurd (not_run_and_resume (scene words rest old) (l, is, c.requires.command) line)) refl (λ t i le now. g.met.H.Host.counts_now c.begin.new.host t i (k.tells ∙ told) le now)
    (λ t i le now. g.met.H.Host.counts_now c.to_outcome.new.host t i (c.to_outcome.ensures.tells ∙ k.tells ∙ told) le now) (opening O told words rest is first)
    (subst (λ n. Going the_language O kept.Run (memory c.in-Ok.engine) n (opening O told words rest is first).silently.done mid new c.to_outcome.result) c.waits.ensures.waits
    (c.to_outcome.ensures.going O (k.tells ∙ told) kept.Run (opening O told words rest is first).silently.done (opening O told words rest is first).opened.stands))
    (result_not_unread (g.H.Host.faults c.begin.new.host) (g.H.Host.faults c.to_outcome.new.host) c.to_outcome.result c.to_outcome.ensures.says) in
    record {
      end = λ words rest reads reads2 is first.
          end_going (scene words rest old) old new reads reads2 (g.H.Host.faults c.args.host.now) (g.H.Host.faults c.begin.new.host) (g.H.Host.faults c.to_outcome.new.host) c.to_outcome.result c.to_outcome.ensures.says
          (run_executes (scene words rest old) (l, is, c.requires.command)) (is_taken c.laws_of_sources.ensures.not_both (scene words rest old) l c.args.source.now (program_of c.args.program) (is, ap uses_source c.requires.command, first) c.requires.command c.requires.program c.requires.has)
          (λ told. (
            (opening some_outside told words rest is first).opened.causes,
            given_seen the_language (scene words rest old) old new c.to_outcome.result (work some_outside told words rest is first).silently (work some_outside told words rest is first).gives (g.met.H.Host.reads_back c.to_outcome.new.host (c.to_outcome.ensures.tells ∙ k.tells ∙ told)),
          ))
          (λ rose. rose_from (g.H.Host.faults c.args.host.now).disk (g.H.Host.faults c.begin.new.host).disk (g.H.Host.faults c.to_outcome.new.host).disk k.counts.disk rose)
          (λ rose. rose_from (g.H.Host.faults c.args.host.now).poll (g.H.Host.faults c.begin.new.host).poll (g.H.Host.faults c.to_outcome.new.host).poll k.counts.poll rose);
      worked = work;
      tells = c.to_outcome.ensures.tells ∙ k.tells;
      counts = none_fell (g.H.Host.faults c.args.host.now) (g.H.Host.faults c.begin.new.host) (g.H.Host.faults c.to_outcome.new.host) k.counts c.to_outcome.ensures.counts;
    }

pub returns-in-Err : goal.returns-in-Err
returns-in-Err g c =
    let old = g.H.Host.world c.args.host.now in
    let new = g.H.Host.world c.begin.new.host in
    let k = c.begin.ensures in
    let l = plain_line c.args.line.now in
    let opening : InTheOutside (λ O. (told : IsTrue old.tells) (words : List (List ℕ)) (rest : Rest) (is : line_of words ≡ Ok l) (first : IsFirst 131073 rest c.args.source.now) → Opening O kept.Run (scene words rest old) old new (Err c.in-Err.fault)) = λ O told words rest is first. subst (λ r. Opening O kept.Run (scene words rest old) old new r) c.in-Err.is (k.opening O told words rest is first) in
    record {
      end = λ words rest reads reads2 is first.
          end_fault (scene words rest old) old new reads reads2 (g.H.Host.faults c.args.host.now) (g.H.Host.faults c.begin.new.host) c.in-Err.fault c.of_fault.result c.of_fault.ensures
          (run_uses (scene words rest old) (l, is, c.requires.command)) (is_taken c.laws_of_sources.ensures.not_both (scene words rest old) l c.args.source.now (program_of c.args.program) (is, ap uses_source c.requires.command, first) c.requires.command c.requires.program c.requires.has)
          (λ told. (opening some_outside told words rest is first).fault) (λ told. (opening some_outside told words rest is first).silently) (λ it. k.disk_fault (c.in-Err.is ∙ ap Err it)) (λ it. k.polls (c.in-Err.is ∙ ap Err it));
      worked = λ O told words rest is first.
          worked_fault O (scene words rest old) kept.Run old new c.in-Err.fault c.of_fault.result (opening O told words rest is first) c.of_fault.ensures (run_executes (scene words rest old) (l, is, c.requires.command))
          (is_taken c.laws_of_sources.ensures.not_both (scene words rest old) l c.args.source.now (program_of c.args.program) (is, ap uses_source c.requires.command, first) c.requires.command c.requires.program c.requires.has)
          (λ line. absurd (not_run_and_resume (scene words rest old) (l, is, c.requires.command) line));
      tells = k.tells;
      counts = k.counts;
    }
