use Rattle.std.proofs.Common.{subst}
use Rattle.std.specs.Prelude.{Option}
use Rattle.wf_eval.specs.Answers.{Answers}
use Rattle.wf_sys_ask.proofs.LogEntries.{value_in}
use Rattle.wf_value.specs.Data.{Data, pairs_of}
use Rattle.wf_value.specs.Plain.{plain}
use Rattle.wf_sys_ask.proofs.entry.logged_value.Goals as goal

pub returns-in-Some : goal.returns-in-Some
returns-in-Some c = subst (λ (o : Option Data). Answers plain c.text_of.result (value_in (pairs_of c.args.args.now) o)) c.in-Some.ensures c.text_of.ensures

pub returns-in-None : goal.returns-in-None
returns-in-None c = subst (λ (o : Option Data). Answers plain c.any_logged.result (value_in (pairs_of c.args.args.now) o)) c.in-None.ensures c.any_logged.ensures
