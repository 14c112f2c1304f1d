use Rattle.std.proofs.Common.{◌≡◌, ◌≤◌, length, reverse, take}
use Rattle.wf_frames.specs.Innermost.{innermost}
use Rattle.wf_frames.proofs.frames.innermost.Given as goal

-- no frame behind this place has a layer
abbrev pub invariant-loop-at : goal.invariant-loop-at
invariant-loop-at l = record {
  none : innermost l.first (reverse l.items) ≡ innermost l.first (reverse (take l.at l.items));
  within : l.at ≤ length l.items;
}

abbrev pub decreases-loop-at : goal.decreases-loop-at
decreases-loop-at l = l.at
