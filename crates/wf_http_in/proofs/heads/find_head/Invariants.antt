use Rattle.std.proofs.Common.{◌≡◌, ◌++◌, ◌-◌, ◌≤◌, length, take}
use Rattle.wf_http_in.specs.Heads.{IsPassed}
use Rattle.wf_http_in.proofs.heads.find_head.Given as goal

abbrev pub invariant-loop-used : goal.invariant-loop-used
invariant-loop-used l = record {
  piece : l.used ≤ length l.piece;
  heard_is : l.heard.items ≡ l.fn.heard.items ++ take l.used l.piece;
  within : l.passed ≤ length l.heard.items;
  passed : IsPassed l.heard.items l.passed;
}

abbrev pub decreases-loop-used : goal.decreases-loop-used
decreases-loop-used l = length l.piece - l.used
