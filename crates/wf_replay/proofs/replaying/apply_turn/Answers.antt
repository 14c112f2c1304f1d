use Rattle.std.proofs.Common.{rules, ◌≡◌, ◌+◌, ◌++◌, ◌∙◌, ap, arith, drop, length, length-append, sym}
use Rattle.wf_lemmas.proofs.Results.{passed_on}
use Rattle.wf_events.specs.Runs.{run_view, runs_view}
use Rattle.wf_events.specs.View.{events_view}
use Rattle.wf_machine.specs.declared.ApplyFault.TheVariants as fault
use Rattle.wf_replay.proofs.Events.{all_runs, at_run, ends, leads, never, never_past, past}
use Rattle.wf_replay.proofs.replaying.apply_turn.Goals as goal

pub returns-in_err-apply_run : goal.returns-in_err-apply_run
returns-in_err-apply_run g c =
    let i = c.loop-run.run-index in
    let rs = c.runs-runs.result.now in
    let run = c.run-item.result in
    let m = c.loop-run.machine in
    record {
      applied = search rules;
      whole = search rules;
      program = search rules;
      steps = search rules;
      not_enabled = λ is.
          never c.args.machine.now m (runs_view rs) (runs_view (drop i rs)) (events_view c.args.turn.now.events) c.runs-runs.ensures c.loop-run.invariant.0 (λ d leads_to.
          never_past m (run_view run) (runs_view (drop (i + 1) rs)) (c.in_err-apply_run.ensures.not_enabled (passed_on c.from_residual.result c.in_err-apply_run.field-0.0 fault.NotEnabled c.from_residual.ensures is)) d
          (ap (λ l. leads m l) (sym (at_run rs i run c.loop-run-test.true c.run-item.is)) ∙ leads_to));
    }

pub loop-run-preserved : goal.loop-run-preserved
loop-run-preserved g c =
    let i = c.loop-run.run-index in
    let rs = c.runs-runs.result.now in
    let run = c.run-item.result in
    let m = c.loop-run.machine in
    let next = at_run rs i run c.loop-run-test.true c.run-item.is in
    let did = c.in_ok-apply_run.ensures in (
      c.loop-run.invariant.0 ∙ ap (λ l. leads m l) next ∙ past m c.apply_run.new.machine (run_view run) (runs_view (drop (i + 1) rs)) did.applied did.program,
      did.program ∙ c.loop-run.invariant.1,
      did.whole,
      omega (arith, did.steps, c.loop-run.invariant.3, ap length next, length-append (run_view run) (runs_view (drop (i + 1) rs))),
    )

pub returns : goal.returns
returns g c =
    let i = c.loop-run.run-index in
    let rs = c.runs-runs.result.now in
    let none = all_runs rs i c.loop-run-test.false in
    record {
      applied = ends c.args.machine.now c.loop-run.machine (runs_view rs) (runs_view (drop i rs)) (events_view c.args.turn.now.events) c.runs-runs.ensures none c.loop-run.invariant.0;
      whole = c.loop-run.invariant.2;
      program = c.loop-run.invariant.1;
      steps = omega (arith, c.loop-run.invariant.3, ap length none, ap length c.runs-runs.ensures);
      not_enabled = search rules;
    }
