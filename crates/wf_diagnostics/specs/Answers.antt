-- What the checker's calls answer.
use Rattle.std.specs.Prelude.{◌≡◌, List, ◌++◌, reverse, Option, Some, None, Result, Ok, Err}
use Rattle.wf_ast.specs.Nodes.{Path}
use Rattle.wf_diagnostics.specs.declared.kind.CheckKind.{CheckKind}
use Rattle.wf_value.specs.declared.stop.Stop.{Stop}
use Rattle.wf_value.specs.declared.stop.Stop.TheVariants as stop
use Rattle.wf_value.specs.Pairs.{Text}
use Rattle.wf_value.specs.Stops.{IsOutside}
use Rattle.wf_value.specs.declared.path.PathPart.{PathPart}
use Rattle.wf_value.specs.declared.path.PathPart.TheVariants as part
use Rattle.wf_diagnostics.specs.Said.{Said}

-- the path at the end of a way that was noted from its end
abbrev pub along : Path → List PathPart → Path
along path way = path ++ reverse way

-- this is said, at each path of the part; want of memory tells nothing
abbrev pub IsFault : Stop CheckKind → (Path → Option Said) → Type 0
IsFault (stop.Refused k way) f = (path : Path) → f path ≡ Some (record { kind = k; place = along path way.items })
IsFault stop.OutOfMemory f = Unit {0}

-- this is said first, or nothing is
abbrev pub IsRuleFault : Result (Unit {0}) (Stop CheckKind) → (Path → Option Said) → Type 0
IsRuleFault (Ok u) f = (path : Path) → f path ≡ None
IsRuleFault (Err s) f = IsFault s f

-- the same, found at a key
abbrev pub IsKeyed : Text → Result (Unit {0}) (Stop CheckKind) → Result (Unit {0}) (Stop CheckKind) → Type 0
IsKeyed k (Ok u) (Ok v) = Unit {0}
IsKeyed k (Err s) (Err outer) = IsOutside (part.Key k) s outer
IsKeyed k found result = ⊥
