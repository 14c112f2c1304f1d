use Rattle.std.proofs.Common.{◌≡◌, ◌++◌, take, drop}
use Rattle.wf_yaml.specs.BlockScalars as scalars
use Rattle.wf_yaml.specs.Views.{see_all}
use Rattle.wf_yaml.proofs.block_scalars.inside_len.Given as goal

abbrev pub invariant-loop-i : goal.invariant-loop-i
invariant-loop-i l = (see_all (take l.i l.rows) ++ scalars.scalar_rows l.indent (see_all (drop l.i l.rows)) ≡ scalars.scalar_rows l.indent (see_all l.rows))
    × (scalars.behind_scalar l.indent (see_all (drop l.i l.rows)) ≡ scalars.behind_scalar l.indent (see_all l.rows))
