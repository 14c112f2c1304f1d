use Rattle.std.proofs.Common.{◌≡◌, drop}
use Rattle.wf_yaml.specs.Starts as starts
use Rattle.wf_yaml.proofs.starts.has_tab_gap.Given as goal

abbrev pub invariant-loop-c : goal.invariant-loop-c
invariant-loop-c l = starts.has_tab_gap (drop l.c-index l.s) ≡ starts.has_tab_gap l.s
