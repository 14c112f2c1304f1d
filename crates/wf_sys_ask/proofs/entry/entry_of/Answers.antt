use Rattle.std.proofs.Common.{sym, subst}
use Rattle.wf_eval.specs.Answers.{Answers}
use Rattle.wf_model.specs.Calls as calls
use Rattle.wf_sys_ask.proofs.LogEntries.{entry_asked, raised_on, severity_failed, value_failed}
use Rattle.wf_sys_ask.specs.Logs.{entry_within, logged_view, within_log}
use Rattle.wf_value.specs.Data.{pairs_of}
use Rattle.wf_value.specs.Errors.{Answer, ◌>>=◌}
use Rattle.wf_sys_ask.proofs.entry.entry_of.Goals as goal

pub returns-in_err-value : goal.returns-in_err-value
returns-in_err-value c =
    raised_on c.from_residual.result c.in_err-value.field-0.0 (λ r. Answers logged_view r (entry_within c.args.logged (pairs_of c.args.args.now))) c.from_residual.ensures
    (value_failed (pairs_of c.args.args.now) c.args.logged c.in_err-value.field-0.0 c.in_err-value.ensures)

pub returns-in_err-severity : goal.returns-in_err-severity
returns-in_err-severity c =
    raised_on c.from_residual-in_err-severity.result c.in_err-severity.field-0.0 (λ r. Answers logged_view r (entry_within c.args.logged (pairs_of c.args.args.now))) c.from_residual-in_err-severity.ensures
    (severity_failed (pairs_of c.args.args.now) c.args.logged c.in_ok-value.value c.in_err-severity.field-0.0 _ c.in_ok-value.ensures c.in_err-severity.ensures c.argument.ensures)

pub returns : goal.returns
returns c =
    subst (λ (r : Answer calls.Logged). Answers logged_view c.within_log.result (r >>= within_log c.args.logged))
    (sym (entry_asked (pairs_of c.args.args.now) c.args.logged c.in_ok-value.value c.in_ok-severity.severity _ c.in_ok-value.ensures c.in_ok-severity.ensures c.argument.ensures))
    c.within_log.ensures
