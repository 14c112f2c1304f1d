use Rattle.std.proofs.Common.{◌≡◌, length}
use Rattle.wf_yaml.specs.Rows as lines
use Rattle.wf_yaml.specs.Views.{see_all}
use Rattle.wf_yaml.proofs.cuts.counting.Given as goal

abbrev pub invariant-skip : goal.invariant-skip
invariant-skip l = lines.counting (see_all l.rest) ≡ lines.counting (see_all l.rows)

abbrev pub decreases-skip : goal.decreases-skip
decreases-skip l = length l.rest
