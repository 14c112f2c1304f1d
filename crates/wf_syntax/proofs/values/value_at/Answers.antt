use Rattle.wf_syntax_rules.specs.Rules.{Value}
use Rattle.wf_syntax.proofs.Lists.{at_fails}
use Rattle.wf_tree.specs.Plain.{plain_tree}
use Rattle.wf_tree.specs.Trees.{pairs_of}
use Rattle.wf_syntax.proofs.values.value_at.Goals as goal

pub returns-in-Err : goal.returns-in-Err
returns-in-Err c = at_fails c.args.key.now Value (pairs_of c.args.fields.now) (plain_tree c.in-Some.tree.now) c.in-Err.stop c.at_key.result c.in-Some.ensures c.in-Err.ensures c.at_key.ensures
