use Rattle.wf_syntax.proofs.Amounts.{attempts_given, attempts_wrong}
use Rattle.wf_syntax.proofs.policies.attempts_at.Goals as goal
use Rattle.wf_tree.specs.Plain.{plain_tree}
use Rattle.wf_tree.specs.Trees.{pairs_of}

pub returns-in-Some-whole_within : goal.returns-in-Some-whole_within
returns-in-Some-whole_within c = attempts_given c.args.key.now (pairs_of c.args.fields.now) (plain_tree c.in-Some.tree.now) c.in-Some-whole_within.count 5 c.in-Some.ensures c.in-Some-whole_within.ensures

pub returns-in-None-whole_within : goal.returns-in-None-whole_within
returns-in-None-whole_within c = attempts_wrong _ _ _ c.here.result c.at_key.result c.in-Some.ensures c.in-None-whole_within.ensures c.here.ensures c.at_key.ensures
