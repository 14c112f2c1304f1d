use Rattle.std.proofs.Common.{◌∙◌}
use Rattle.wf_yaml_line.proofs.Sets.{has_key}
use Rattle.wf_yaml_line.proofs.key_set.KeySet.holds.Goals as goal

pub returns : goal.returns
returns c = c.contains.ensures ∙ has_key c.args.key.now c.args.self.now.keys.keys
