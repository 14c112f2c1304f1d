use Rattle.wf_yaml.specs.Rows.{rows}
use Rattle.wf_yaml.proofs.Shallow.{depth_given, reading_of_is}
use Rattle.wf_yaml.proofs.read_yaml.Goals as goal

pub returns-clause-depth : goal.returns-clause-depth
returns-clause-depth c = depth_given c.read_source.result _ c.read_source.ensures (reading_of_is (rows c.args.src.now))
