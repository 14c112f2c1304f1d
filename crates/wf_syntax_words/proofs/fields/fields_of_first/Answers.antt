use Rattle.wf_syntax_words.proofs.Pairs.{row_more, row_there}
use Rattle.wf_syntax_words.proofs.fields.fields_of_first.Goals as goal
use Rattle.wf_tree.specs.Trees.{pairs_of}

pub returns-then-has : goal.returns-then-has
returns-then-has c = row_there (pairs_of c.args.fields.now) _ c.loop-form.form-index _ c.has.result _ c.loop-form.invariant c.loop-form-test.true c.has.ensures c.if-has.true

pub loop-form-preserved : goal.loop-form-preserved
loop-form-preserved c = row_more (pairs_of c.args.fields.now) _ c.loop-form.form-index _ c.has.result _ c.loop-form.invariant c.loop-form-test.true c.has.ensures c.if-has.false
