use Rattle.std.proofs.Common.{◌∙◌}
use Rattle.wf_symbols.proofs.Sets.{has_key}
use Rattle.wf_symbols.proofs.names.Names.has.Goals as goal

pub returns : goal.returns
returns c = c.contains.ensures ∙ has_key c.args.name.now c.args.self.now.names.keys
