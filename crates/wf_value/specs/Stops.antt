-- Where the walk through a document stops.
use Rattle.std.specs.Prelude.{◌≡◌, [], ◌∷◌, ◌++◌}
use Rattle.wf_value.specs.declared.path.PathPart.{PathPart}
use Rattle.wf_value.specs.declared.stop.Stop.{Stop}
use Rattle.wf_value.specs.declared.stop.Stop.TheVariants as stop

-- a fault of the part in hand itself
abbrev pub IsHere : {K : Type 0} → K → Stop K → Type 0
IsHere k (stop.Refused j way) = (j ≡ k) × (way.items ≡ [])
IsHere k stop.OutOfMemory = ⊥

-- the same fault seen from further out, unless there was no memory to tell it
abbrev pub IsOutside : {K : Type 0} → PathPart → Stop K → Stop K → Type 0
IsOutside p s stop.OutOfMemory = Unit {0}
IsOutside p (stop.Refused k way) (stop.Refused j longer) = (j ≡ k) × (longer.items ≡ way.items ++ p ∷ [])
IsOutside p stop.OutOfMemory s = ⊥
