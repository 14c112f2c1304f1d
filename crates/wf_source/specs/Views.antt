-- What the code answers of a source, beside what it is.
use Rattle.std.specs.Prelude.{◌≡◌, Result, Err}
use Rattle.wf_source.specs.declared.fault.SourceFault.{SourceFault}
use Rattle.wf_source.specs.declared.fault.SourceFault.TheVariants.{Refused, OutOfMemory}
use Rattle.wf_status.specs.declared.Refusal.{Refusal}

-- the refusal that speaks first, or want of memory
abbrev pub IsErrorOf : {A : Type 0} → Result A Refusal → SourceFault → Type 0
IsErrorOf is (Refused r) = is ≡ Err r
IsErrorOf is OutOfMemory = Unit {0}

-- the same where the refusal is told by a relation
abbrev pub TellsOf : (Refusal → Type 0) → SourceFault → Type 0
TellsOf Is (Refused r) = Is r
TellsOf Is OutOfMemory = Unit {0}
