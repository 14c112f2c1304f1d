use Rattle.wf_syntax.proofs.Valued.{arguments_are}
use Rattle.wf_syntax.proofs.values.arguments.Goals as goal

pub returns-in-Map : goal.returns-in-Map
returns-in-Map c = arguments_are c.args.tree.now _ c.pairs.result.now c.named_values.result c.in-Map.is c.pairs.ensures.pairs c.named_values.ensures
