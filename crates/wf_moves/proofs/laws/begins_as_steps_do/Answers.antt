use Rattle.wf_moves.proofs.Agreeing.{begins_so}
use Rattle.wf_moves.proofs.laws.begins_as_steps_do.Goals as goal

pub returns : goal.returns
returns c = begins_so
