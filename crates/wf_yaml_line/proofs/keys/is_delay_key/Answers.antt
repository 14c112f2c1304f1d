use Rattle.wf_yaml_line.proofs.Sets.{none_of_three}
use Rattle.wf_yaml_line.proofs.keys.is_delay_key.Goals as goal

pub returns-in_default : goal.returns-in_default
returns-in_default c = none_of_three _ _ _ c.args.key.now c.in_default.not-initial_delay c.in_default.not-max_delay c.in_default.not-multiplier
