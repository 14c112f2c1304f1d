use Rattle.wf_yaml_line.proofs.Faults.{least_speaks}
use Rattle.wf_yaml_line.proofs.laws.faults_are_least.Goals as goal

pub returns : goal.returns
returns g c = least_speaks _ _ _
