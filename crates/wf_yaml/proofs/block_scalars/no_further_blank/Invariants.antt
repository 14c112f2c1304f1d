use Rattle.std.proofs.Common.{◌≡◌, false, drop}
use Rattle.wf_yaml.specs.BlockScalars as scalars
use Rattle.wf_yaml.specs.Views.{see_all}
use Rattle.wf_yaml.proofs.block_scalars.no_further_blank.Given as goal

abbrev pub invariant-loop-row : goal.invariant-loop-row
invariant-loop-row l = scalars.no_further_blank l.indent l.begun (see_all (drop l.row-index l.rows)) ≡ scalars.no_further_blank l.indent false (see_all l.rows)
