use Rattle.std.proofs.Common.{◌≡◌, length, string_bytes}
use Rattle.wf_expr.specs.Calls.{name_faults}
use Rattle.wf_expr.specs.Kinds.{syms_of}
use Rattle.wf_expr.proofs.scan.name_fault.Given as goal

abbrev pub invariant-join : goal.invariant-join
invariant-join l = name_faults l.at (string_bytes l.joined) (syms_of l.rest) ≡ name_faults l.at l.name (syms_of l.symbols)

abbrev pub decreases-join : goal.decreases-join
decreases-join l = length (syms_of l.rest)
