-- Values that are lent, and what faults of JSON raise.
use Rattle.std.specs.Prelude.{Some, None, Option}
use Rattle.std.specs.Borrow.{Bor}
use Rattle.wf_value.specs.Data.{Data, null}
use Rattle.wf_value.specs.Plain.{plain}
use Rattle.wf_value.specs.declared.errors.Raise.{Raise}
use Rattle.wf_value.specs.declared.errors.Raise.TheVariants.{Error, OutOfMemory}
use Rattle.wf_value.specs.declared.errors.Tag.TheVariants.{ValueError}
use Rattle.wf_value.specs.declared.json_text.JsonFault.{JsonFault}
use Rattle.wf_value.specs.declared.json_text.JsonFault.TheVariants.{NotJson, Decimal, TooDeep, OutOfMemory as NoMemory}
use Rattle.wf_value.specs.declared.value.Value.{Value}

-- a value that is lent, and null for none
abbrev pub or_null : Option (Bor Value) → Data
or_null (Some v) = plain v.now
or_null None = null

-- what a fault of reading JSON raises
abbrev pub raised : JsonFault → Raise
raised NotJson = Error ValueError
raised Decimal = Error ValueError
raised TooDeep = Error ValueError
raised NoMemory = OutOfMemory
