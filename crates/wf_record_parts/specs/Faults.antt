-- What a reader answers, against the reading of the definitions.
use Rattle.std.specs.Prelude.{◌≡◌, ℕ, Result, Ok, Err}
use Rattle.wf_record_parts.specs.Reading.{Read}
use Rattle.wf_record_parts.specs.Spelling.{Bytes}
use Rattle.wf_record_parts.specs.declared.fault.ReadFault.{ReadFault}
use Rattle.wf_record_parts.specs.declared.fault.ReadFault.TheVariants as fault

-- reading goes no further where so many bytes are left, unless it was memory that ran out
abbrev pub Fails : {A : Type 0} → ReadFault → Result A ℕ → Type 0
Fails fault.OutOfMemory read = Unit {0}
Fails (fault.NoPart left) read = read ≡ Err left

-- what was returned, seen by view, and the bytes behind it are what reading gives
abbrev pub ReadsOff : {X A : Type 0} → (X → A) → Result X ReadFault → Bytes → Read A → Type 0
ReadsOff view (Ok x) rest read = read ≡ Ok (view x, rest)
ReadsOff view (Err e) rest read = Fails e read
