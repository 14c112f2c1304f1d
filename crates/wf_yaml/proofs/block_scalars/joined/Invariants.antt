use Rattle.std.proofs.Common.{◌≡◌, ◌++◌, ◌≤◌, false, drop}
use Rattle.wf_yaml.specs.Views.{see_all}
use Rattle.wf_yaml.proofs.Weaving.{woven}
use Rattle.wf_yaml.proofs.block_scalars.joined.Given as goal

abbrev pub invariant-loop-row : goal.invariant-loop-row
invariant-loop-row l = (l.text.items ++ woven l.folded l.indent l.begun l.ends (see_all (drop l.row-index l.rows)) ≡ woven l.folded l.indent false 0 (see_all l.rows))
    × (l.ends ≤ l.row-index)
