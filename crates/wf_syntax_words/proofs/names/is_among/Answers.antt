use Rattle.wf_syntax_words.proofs.Marks.{among_here, among_later}
use Rattle.wf_syntax_words.proofs.names.is_among.Goals as goal

pub returns-then-eq : goal.returns-then-eq
returns-then-eq c = among_here c.args.text.now c.args.words.now c.loop-word.word-index _ c.eq.result c.loop-word.invariant c.loop-word-test.true c.eq.ensures c.if-eq.true

pub loop-word-preserved : goal.loop-word-preserved
loop-word-preserved c = among_later c.args.text.now c.args.words.now c.loop-word.word-index _ c.eq.result c.loop-word.invariant c.loop-word-test.true c.eq.ensures c.if-eq.false
