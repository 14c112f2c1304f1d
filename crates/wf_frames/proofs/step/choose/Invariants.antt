use Rattle.std.proofs.Common.{◌≡◌, drop}
use Rattle.wf_eval.specs.Sight.{seen}
use Rattle.wf_model.specs.Move.{chosen}
use Rattle.wf_model.specs.Spots.{arms_by}
use Rattle.wf_frames.proofs.step.choose.Given as goal

abbrev pub invariant-loop-arm : goal.invariant-loop-arm
invariant-loop-arm g l =
    chosen (seen (g.K.Look.sight l.look) l.now) (arms_by g.at.spots l.arms) ≡ chosen (seen (g.K.Look.sight l.look) l.now) (arms_by g.at.spots (drop l.arm-index l.arms))

abbrev pub ghost-holds : goal.ghost-holds
ghost-holds g a = g.at.spots
