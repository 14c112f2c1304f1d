use Rattle.std.proofs.Common.{◌≡◌, drop}
use Rattle.std.specs.List.{list_all}
use Rattle.wf_frames.specs.Built.{has_steps}
use Rattle.wf_frames.proofs.nodes.have_steps.Given as goal

-- what is left decides
abbrev pub invariant-loop-branch : goal.invariant-loop-branch
invariant-loop-branch l = list_all (has_steps l.nodes) (drop l.branch-index l.branches) ≡ list_all (has_steps l.nodes) l.branches
