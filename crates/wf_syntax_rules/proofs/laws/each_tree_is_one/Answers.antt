use Rattle.wf_syntax_rules.proofs.BuiltTrees.{built_is_it}
use Rattle.wf_syntax_rules.proofs.laws.each_tree_is_one.Goals as goal

pub returns : goal.returns
returns c = built_is_it
