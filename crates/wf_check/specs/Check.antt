-- What the checker answers of a program.
use Rattle.std.specs.Prelude.{◌≡◌, reverse, Some}
use Rattle.wf_ast.specs.Tree.{Program}
use Rattle.wf_check.specs.Said.{first_said}
use Rattle.wf_check.specs.declared.top.CheckFault.{CheckFault}
use Rattle.wf_check.specs.declared.top.CheckFault.TheVariants as fault
use Rattle.wf_diagnostics.specs.declared.kind.CheckKind.{CheckKind}
use Rattle.wf_value.specs.declared.stop.Stop.{Stop}
use Rattle.wf_value.specs.declared.stop.Stop.TheVariants as stop

-- this is said first of the program
abbrev pub IsCheckFault : Program → CheckFault → Type 0
IsCheckFault p (fault.Refused k path) = first_said p ≡ Some (record { kind = k; place = path })
IsCheckFault p fault.OutOfMemory = Unit {0}

-- the fault of a stop, its path from the first step on
abbrev pub IsToldOf : Stop CheckKind → CheckFault → Type 0
IsToldOf (stop.Refused k ps) (fault.Refused j p) = (j ≡ k) × (p ≡ reverse ps.items)
IsToldOf s (fault.Refused j p) = ⊥
IsToldOf s fault.OutOfMemory = Unit {0}
