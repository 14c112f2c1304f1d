use Rattle.std.proofs.Common.{◌≡◌, drop}
use Rattle.wf_model.specs.Kinds.{arms_now}
use Rattle.wf_model.specs.Spots.{arms_by}
use Rattle.wf_wants.proofs.wants.are_arms.Given as goal

-- what is left tells
abbrev pub invariant-loop-arm : goal.invariant-loop-arm
invariant-loop-arm g l = arms_now (arms_by g.ns l.arms) ≡ arms_now (arms_by g.ns (drop l.arm-index l.arms))

abbrev pub ghost-is_condition : goal.ghost-is_condition
ghost-is_condition g a = g.ns
