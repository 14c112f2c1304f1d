use Rattle.wf_tree.specs.Trees.{pairs_of}
use Rattle.wf_syntax_words.proofs.Pairs.{lacks_one, has_more}
use Rattle.wf_syntax_words.proofs.fields.has_all.Goals as goal

pub returns-then-not-has : goal.returns-then-not-has
returns-then-not-has c = lacks_one (pairs_of c.args.fields.now) c.args.keys.now c.loop-key.key-index _ c.has.result c.loop-key.invariant c.loop-key-test.true c.has.ensures c.if-not-has.true

pub loop-key-preserved : goal.loop-key-preserved
loop-key-preserved c = has_more (pairs_of c.args.fields.now) c.args.keys.now c.loop-key.key-index _ c.has.result c.loop-key.invariant c.loop-key-test.true c.has.ensures c.if-not-has.false
