use Rattle.wf_several.proofs.Begins.{branch_adds, branch_refused, branches_join}
use Rattle.wf_several.proofs.Ends.{branch_gone}
use Rattle.wf_several.proofs.laws_of_branches.Goals as goal

pub returns : goal.returns
returns c = record { adds = branch_adds; refused = branch_refused; gone = branch_gone; joined = branches_join }
