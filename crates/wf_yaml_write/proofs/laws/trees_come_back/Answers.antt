use Rattle.wf_yaml_write.proofs.TreeBack.{trees_back}
use Rattle.wf_yaml_write.proofs.laws.trees_come_back.Goals as goal

pub returns : goal.returns
returns c = trees_back
