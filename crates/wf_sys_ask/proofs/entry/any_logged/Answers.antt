use Rattle.std.proofs.Common.{Ok, subst}
use Rattle.std.specs.Prelude.{Option, unwrap_or}
use Rattle.wf_eval.specs.Answers.{Answers}
use Rattle.wf_value.specs.Data.{Data, null}
use Rattle.wf_value.specs.Plain.{plain}
use Rattle.wf_sys_ask.proofs.entry.any_logged.Goals as goal

pub returns : goal.returns
returns c = subst (λ (o : Option Data). Answers plain c.copied_or_null.result (Ok (unwrap_or o null))) c.data_in.ensures c.copied_or_null.ensures
