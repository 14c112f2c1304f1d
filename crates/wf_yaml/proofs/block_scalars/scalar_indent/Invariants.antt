use Rattle.std.proofs.Common.{◌≡◌, drop}
use Rattle.wf_yaml.specs.BlockScalars as scalars
use Rattle.wf_yaml.specs.Views.{see_all}
use Rattle.wf_yaml.proofs.block_scalars.scalar_indent.Given as goal

abbrev pub invariant-loop-row : goal.invariant-loop-row
invariant-loop-row l = scalars.scalar_indent l.floor (see_all (drop l.row-index l.behind)) ≡ scalars.scalar_indent l.floor (see_all l.behind)
