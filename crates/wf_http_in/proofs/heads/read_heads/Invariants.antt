use Rattle.std.proofs.Common.{◌≤◌, ◌-◌, length}
use Rattle.wf_http_in.specs.Heads.{IsPassed}
use Rattle.wf_http_in.proofs.heads.read_heads.Given as goal

abbrev pub invariant-loop-heading : goal.invariant-loop-heading
invariant-loop-heading l = record {
  within : l.passed ≤ length l.heard;
  passed : IsPassed l.heard l.passed;
}

abbrev pub decreases-loop-heading : goal.decreases-loop-heading
decreases-loop-heading l = length l.heard - l.passed
