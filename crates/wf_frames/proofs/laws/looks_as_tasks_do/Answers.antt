use Rattle.wf_frames.proofs.Looks.{looks}
use Rattle.wf_frames.proofs.laws.looks_as_tasks_do.Goals as goal

pub returns : goal.returns
returns c = looks
