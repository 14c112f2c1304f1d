use Rattle.std.proofs.Common.{length, arith}
use Rattle.wf_frames.proofs.Evaluated.{arm_stands}
use Rattle.wf_wants.proofs.wants.are_arms.Goals as goal

pub is_condition-requires : goal.is_condition-requires
is_condition-requires g c =
    let w = arm_stands g.ns (length c.args.nodes.now) c.requires.1.0 c.args.arms.now c.loop-arm.arm-index 0 c.requires.1.1 c.loop-arm-test.true in
    (c.requires.0, omega (arith, w.1))
