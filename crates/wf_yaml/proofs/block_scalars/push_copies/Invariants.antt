use Rattle.std.proofs.Common.{◌≡◌, ◌++◌}
use Rattle.wf_yaml.specs.BlockScalars as scalars
use Rattle.wf_yaml.proofs.block_scalars.push_copies.Given as goal

abbrev pub invariant-loop-left : goal.invariant-loop-left
invariant-loop-left l = l.text.items ++ scalars.copies l.left l.c ≡ l.fn.text.items ++ scalars.copies l.count l.c

abbrev pub decreases-loop-left : goal.decreases-loop-left
decreases-loop-left l = l.left
