use Rattle.std.proofs.Common.{◌≡◌, drop}
use Rattle.wf_yaml.specs.Rows as lines
use Rattle.wf_yaml.specs.Views.{see_all}
use Rattle.wf_yaml.proofs.source.no_mark.Given as goal

abbrev pub invariant-loop-row : goal.invariant-loop-row
invariant-loop-row l = lines.no_mark (see_all (drop l.row-index l.rows)) ≡ lines.no_mark (see_all l.rows)
