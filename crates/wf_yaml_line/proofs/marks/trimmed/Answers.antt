use Rattle.std.proofs.Common.{arith}
use Rattle.wf_yaml_line.proofs.Ends.{dropped_at, kept_at}
use Rattle.wf_yaml_line.proofs.marks.trimmed.Goals as goal

pub returns-then-not-is_blank : goal.returns-then-not-is_blank
returns-then-not-is_blank c = kept_at c.args.s.now c.loop-n.n c.index-s-m.result c.is_blank.result (omega arith) c.loop-n.invariant.0 c.index-s-m.is c.is_blank.ensures c.if-not-is_blank.true c.loop-n.invariant.1

pub loop-n-preserved : goal.loop-n-preserved
loop-n-preserved c = (omega arith, dropped_at c.args.s.now c.loop-n.n c.index-s-m.result c.is_blank.result (omega arith) c.loop-n.invariant.0 c.index-s-m.is c.is_blank.ensures c.if-not-is_blank.false c.loop-n.invariant.1)
