use Rattle.std.proofs.Common.{◌≡◌, length}
use Rattle.wf_yaml.specs.Blocks as blocks
use Rattle.wf_yaml.proofs.deep.deep.Given as goal

abbrev pub invariant-items : goal.invariant-items
invariant-items l = blocks.deep_line l.left l.number l.depth l.content ≡ blocks.deep_line (length l.text) l.number l.depth l.text

abbrev pub decreases-items : goal.decreases-items
decreases-items l = l.left
