use Rattle.std.proofs.Common.{◌≡◌, ◌≤◌, ◌+◌, length}
use Rattle.wf_host.specs.Ahead.{starts_to}
use Rattle.wf_host.proofs.outlook.starts_to.Given as goal

-- those so far and those in the rest
abbrev pub invariant-loop-rest : goal.invariant-loop-rest
invariant-loop-rest l = record {
  so_far : l.count + starts_to l.to l.rest ≡ starts_to l.to l.deeds;
  within : l.count + length l.rest ≤ length l.deeds;
}

abbrev pub decreases-loop-rest : goal.decreases-loop-rest
decreases-loop-rest l = length l.rest
