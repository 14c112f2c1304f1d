use Rattle.std.proofs.Common.{◌≡◌, ◌++◌, take, drop}
use Rattle.wf_yaml.specs.Rows as lines
use Rattle.wf_yaml.specs.Views.{see_all}
use Rattle.wf_yaml.proofs.source.mark_at.Given as goal

abbrev pub invariant-loop-i : goal.invariant-loop-i
invariant-loop-i l = see_all (take l.i l.rows) ++ lines.before_mark (see_all (drop l.i l.rows)) ≡ lines.before_mark (see_all l.rows)
