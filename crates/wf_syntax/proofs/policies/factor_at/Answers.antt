use Rattle.wf_syntax.proofs.Amounts.{factor_given, factor_wrong}
use Rattle.wf_syntax.proofs.policies.factor_at.Goals as goal
use Rattle.wf_tree.specs.Plain.{plain_tree}
use Rattle.wf_tree.specs.Trees.{pairs_of}

pub returns-in-Some-thousandths_to : goal.returns-in-Some-thousandths_to
returns-in-Some-thousandths_to c = factor_given c.args.key.now (pairs_of c.args.fields.now) (plain_tree c.in-Some.tree.now) c.in-Some-thousandths_to.factor c.args.default c.in-Some.ensures c.in-Some-thousandths_to.ensures

pub returns-in-None-thousandths_to : goal.returns-in-None-thousandths_to
returns-in-None-thousandths_to c = factor_wrong _ _ _ c.here.result c.at_key.result c.in-Some.ensures c.in-None-thousandths_to.ensures c.here.ensures c.at_key.ensures
