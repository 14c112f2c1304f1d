-- Faults of assignments, and what calls answer. Want of memory may be answered in place of anything.
--     fault_of, raised      the fault of a tag, and the error that a fault raises
--     faulted               an answer with the fault in place of the tag
--     Makes, Lends          what calls that give or lend a value answer
use Rattle.std.specs.Prelude.{◌≡◌, Result, Ok, Err}
use Rattle.std.specs.Borrow.{Bor}
use Rattle.wf_value.specs.Data.{Data}
use Rattle.wf_value.specs.Errors.{Answer}
use Rattle.wf_value.specs.Plain.{plain}
use Rattle.wf_value.specs.declared.Raise.{Raise}
use Rattle.wf_value.specs.declared.Raise.TheVariants as raise
use Rattle.wf_value.specs.declared.Tag.{Tag}
use Rattle.wf_value.specs.declared.Tag.TheVariants.{IndexError, KeyError, ResourceLimitError, TypeError}
use Rattle.wf_value.specs.declared.Value.{Value}
use Rattle.wf_scope.specs.declared.fault.AssignFault.{AssignFault}
use Rattle.wf_scope.specs.declared.fault.AssignFault.TheVariants as fault

-- the fault of a tag that a place raises
abbrev pub fault_of : Tag → AssignFault
fault_of KeyError = fault.MissingKey
fault_of IndexError = fault.BadIndex
fault_of t = fault.NotAContainer

-- the error that a fault raises
abbrev pub raised : AssignFault → Raise
raised fault.MissingKey = raise.Error KeyError
raised fault.BadIndex = raise.Error IndexError
raised fault.NotAContainer = raise.Error TypeError
raised fault.TooLarge = raise.Error ResourceLimitError
raised fault.TooDeep = raise.Error ResourceLimitError
raised fault.OutOfMemory = raise.OutOfMemory

-- an answer with the fault in place of the tag
abbrev pub faulted : Answer Data → Result Data AssignFault
faulted (Ok d) = Ok d
faulted (Err t) = Err (fault_of t)

-- a call gives the value, or tells the fault
abbrev pub Makes : Result Value AssignFault → Result Data AssignFault → Type 0
Makes (Ok v) r = r ≡ Ok (plain v)
Makes (Err fault.OutOfMemory) r = Unit {0}
Makes (Err f) r = r ≡ Err f

-- a call lends the value, or tells the fault
abbrev pub Lends : Result (Bor Value) AssignFault → Result Data AssignFault → Type 0
Lends (Ok v) r = r ≡ Ok (plain v.now)
Lends (Err fault.OutOfMemory) r = Unit {0}
Lends (Err f) r = r ≡ Err f
