-- What the calls give.
use Rattle.std.specs.Prelude.{◌≡◌, Ok, Err, Result}
use Rattle.wf_value.specs.Data.{Data}
use Rattle.wf_value.specs.Errors.{Answer}
use Rattle.wf_value.specs.Plain.{plain}
use Rattle.wf_value.specs.declared.Tag.TheVariants.{ResponseTypeError}
use Rattle.wf_value.specs.declared.value.Value.{Value}
use Rattle.wf_http_value.specs.declared.fault.BodyFault.{BodyFault}
use Rattle.wf_http_value.specs.declared.fault.BodyFault.TheVariants as body
use Rattle.wf_http_value.specs.declared.fault.ReplyFault.{ReplyFault}
use Rattle.wf_http_value.specs.declared.fault.ReplyFault.TheVariants as fault

-- this result: its value, or the error that is raised. Where there is no memory nothing is said
abbrev pub GivesOrRaises : Result Value ReplyFault → Result Data Data → Type 0
GivesOrRaises (Ok v) r = r ≡ Ok (plain v)
GivesOrRaises (Err (fault.Raised e)) r = r ≡ Err (plain e)
GivesOrRaises (Err fault.OutOfMemory) r = Unit {0}

-- the same of a body's value
abbrev pub GivesBody : Result Value BodyFault → Answer Data → Type 0
GivesBody (Ok v) a = a ≡ Ok (plain v)
GivesBody (Err body.NoJson) a = a ≡ Err ResponseTypeError
GivesBody (Err body.OutOfMemory) a = Unit {0}
