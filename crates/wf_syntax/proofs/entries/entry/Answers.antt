use Rattle.wf_syntax.proofs.Targets.{entry_given, entry_target_fails, entry_value_fails}
use Rattle.wf_syntax.proofs.entries.entry.Goals as goal

pub returns-in-Err : goal.returns-in-Err
returns-in-Err c = entry_target_fails _ _ _ c.in-Err.stop c.at_key.result c.in-Some.ensures c.in-Err.ensures c.at_key.ensures

pub returns-in-Ok-value : goal.returns-in-Ok-value
returns-in-Ok-value c = entry_given _ _ _ _ c.in-Some.ensures c.in-Ok.ensures c.in-Ok-value.ensures

pub returns-in-Err-value : goal.returns-in-Err-value
returns-in-Err-value c =
    entry_value_fails _ _ _ c.in-Err-value.stop c.at_key-in-Err-value.result c.in-Some.ensures c.in-Ok.ensures.0 c.in-Err-value.ensures c.at_key-in-Err-value.ensures
