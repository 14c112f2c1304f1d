use Rattle.std.proofs.Common.{◌∙◌}
use Rattle.wf_yaml.proofs.Weaving.{one_copy}
use Rattle.wf_yaml.proofs.block_scalars.push_copies.Goals as goal

pub loop-left-preserved : goal.loop-left-preserved
loop-left-preserved c = one_copy c.loop-left.text.items c.loop-left.left c.args.c c.push.new.self.items c.loop-left-test.true c.in_ok-push.ensures.items ∙ c.loop-left.invariant
