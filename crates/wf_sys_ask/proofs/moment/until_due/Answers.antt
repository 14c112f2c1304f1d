use Rattle.std.proofs.Common.{Err, subst}
use Rattle.std.specs.Prelude.{Option}
use Rattle.wf_eval.specs.Answers.{Answers}
use Rattle.wf_model.specs.Calls.{until_due}
use Rattle.wf_sys_ask.proofs.Until.{until_failed, until_ok}
use Rattle.wf_value.specs.Data.{Data}
use Rattle.wf_value.specs.Plain.{plain}
use Rattle.wf_sys_ask.proofs.moment.until_due.Goals as goal

pub returns-in-Ok : goal.returns-in-Ok
returns-in-Ok c =
    subst (λ (o : Option Data). Answers (λ n. n) c.moment_in.result (until_due o)) c.in-Some.ensures
    (until_ok (plain c.in-Some.time.now) c.in-Ok.parsed c.moment_in.result c.in-Ok.ensures c.moment_in.ensures)

pub returns-in-Err : goal.returns-in-Err
returns-in-Err c =
    subst (λ (o : Option Data). Answers (λ n. n) (Err c.in-Err.raise) (until_due o)) c.in-Some.ensures (until_failed (plain c.in-Some.time.now) c.in-Err.raise c.in-Err.ensures)
