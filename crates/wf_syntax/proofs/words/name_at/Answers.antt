use Rattle.wf_syntax.proofs.Nodes.{field_fails}
use Rattle.wf_syntax.proofs.words.name_at.Goals as goal

pub returns-in-Err : goal.returns-in-Err
returns-in-Err c = field_fails _ _ _ _ _ _ c.in-Some.ensures c.in-Err.ensures c.at_key.ensures
