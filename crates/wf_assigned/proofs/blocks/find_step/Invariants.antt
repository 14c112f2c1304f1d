use Rattle.std.proofs.Common.{◌≡◌, drop}
use Rattle.wf_assigned.proofs.blocks.find_step.Given as goal
use Rattle.wf_assigned.specs.Laid.{found_in}

-- those that are left tell
abbrev pub invariant-loop-block : goal.invariant-loop-block
invariant-loop-block l = found_in l.name (drop l.block-index l.blocks) ≡ found_in l.name l.blocks
