use Rattle.wf_yaml_line.specs.Marks.{around_colon}
use Rattle.wf_yaml_line.proofs.Ends.{colon_next}
use Rattle.wf_yaml_line.proofs.marks.around_colon.Goals as goal

pub loop-i-preserved : goal.loop-i-preserved
loop-i-preserved c = colon_next c.args.s.now c.loop-i.i c.index-s-i.result c.loop-i.after_blank c.is_comment.result c.ends_key.result c.is_blank-after_blank.result (around_colon _ c.args.s.now) c.loop-i-test.true c.index-s-i.is c.is_comment.ensures c.if-is_comment.false c.ends_key.ensures c.if-ends_key.false c.is_blank-after_blank.ensures c.loop-i.invariant
