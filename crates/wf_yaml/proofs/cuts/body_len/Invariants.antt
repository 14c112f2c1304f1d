use Rattle.std.proofs.Common.{◌≡◌, ◌++◌, take, drop}
use Rattle.wf_yaml.specs.Cuts.{cut, heads}
use Rattle.wf_yaml.specs.Views.{see_all}
use Rattle.wf_yaml.proofs.cuts.body_len.Given as goal

abbrev pub invariant-loop-i : goal.invariant-loop-i
invariant-loop-i l = ((cut (heads l.in_map l.indent) (see_all l.rows)).lead ≡ see_all (take l.i l.rows) ++ (cut (heads l.in_map l.indent) (see_all (drop l.i l.rows))).lead)
    × ((cut (heads l.in_map l.indent) (see_all l.rows)).entries ≡ (cut (heads l.in_map l.indent) (see_all (drop l.i l.rows))).entries)
