use Rattle.std.proofs.Common.{◌≡◌, ◌++◌, ◌≤◌, ◌-◌, length, drop}
use Rattle.wf_eval.proofs.Entries.{left_keys}
use Rattle.wf_eval.proofs.functions.key_list.Given as goal

-- the keys so far, and those that are left
abbrev pub invariant-loop-key : goal.invariant-loop-key
invariant-loop-key l = record {
  within : l.i ≤ length l.m;
  keys : l.list ++ left_keys (drop l.i l.m) ≡ left_keys l.m;
}

abbrev pub decreases-loop-key : goal.decreases-loop-key
decreases-loop-key l = length l.m - l.i
