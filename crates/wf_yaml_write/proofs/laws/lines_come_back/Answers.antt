use Rattle.wf_yaml_write.proofs.LineBack.{line_back}
use Rattle.wf_yaml_write.proofs.laws.lines_come_back.Goals as goal

pub returns : goal.returns
returns c = line_back
