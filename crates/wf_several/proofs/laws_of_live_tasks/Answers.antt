use Rattle.wf_several.proofs.After.{task_leaves}
use Rattle.wf_several.proofs.Here.{entry_is_here}
use Rattle.wf_several.proofs.Sees.{new_is_alike, none_is_alike, task_reads}
use Rattle.wf_several.proofs.laws_of_live_tasks.Goals as goal

pub returns : goal.returns
returns c = record { here = entry_is_here; reads = task_reads; leaves = task_leaves; joins_none = none_is_alike; joins_new = new_is_alike }
