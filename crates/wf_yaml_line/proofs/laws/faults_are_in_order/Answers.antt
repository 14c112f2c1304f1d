use Rattle.wf_yaml_line.proofs.Faults.{order}
use Rattle.wf_yaml_line.proofs.laws.faults_are_in_order.Goals as goal

pub returns : goal.returns
returns c = order
