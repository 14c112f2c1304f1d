use Rattle.wf_moves.proofs.Agreeing.{joins_so}
use Rattle.wf_moves.proofs.laws.joins_as_steps_do.Goals as goal

pub returns : goal.returns
returns c = joins_so
