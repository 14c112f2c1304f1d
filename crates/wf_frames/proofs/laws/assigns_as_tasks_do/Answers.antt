use Rattle.wf_frames.proofs.Assigns.{assigns, one_holds}
use Rattle.wf_frames.proofs.laws.assigns_as_tasks_do.Goals as goal

pub returns : goal.returns
returns c = record { law = assigns; worked = one_holds }
