use Rattle.std.proofs.Common.{◌≡◌, false, length, map}
use Rattle.wf_expr.specs.Calls.{faults_in}
use Rattle.wf_expr.specs.Kinds.{placed_of}
use Rattle.wf_expr.specs.Scanning.{first_of}
use Rattle.wf_expr.proofs.scan.first_fault.Given as goal

abbrev pub invariant-scan : goal.invariant-scan
invariant-scan l = first_of (faults_in l.after_point (map placed_of l.rest)) ≡ first_of (faults_in false (map placed_of l.symbols))

abbrev pub decreases-scan : goal.decreases-scan
decreases-scan l = length (map placed_of l.rest)
