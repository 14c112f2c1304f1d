use Rattle.wf_table.proofs.Adding.{ok_then}
use Rattle.wf_table.proofs.growing.hold.Goals as goal

pub returns-clause-grown : goal.returns-clause-grown
returns-clause-grown c = ok_then _ _ c.push.result c.push.ensures.grown (λ n h. (_, h))
