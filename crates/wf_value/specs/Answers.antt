-- What a call that gives a value answers.
use Rattle.std.specs.Prelude.{◌≡◌, Ok, Err, Result}
use Rattle.wf_value.specs.Data.{Data}
use Rattle.wf_value.specs.Errors.{Answer}
use Rattle.wf_value.specs.Plain.{plain}
use Rattle.wf_value.specs.declared.errors.Raise.{Raise}
use Rattle.wf_value.specs.declared.errors.Raise.TheVariants.{Error, OutOfMemory}
use Rattle.wf_value.specs.declared.value.Value.{Value}

-- this answer: its value, or an error with its tag. Where there is no memory nothing is said
abbrev pub IsAnswerOf : Result Value Raise → Answer Data → Type 0
IsAnswerOf (Ok v) a = a ≡ Ok (plain v)
IsAnswerOf (Err (Error t)) a = a ≡ Err t
IsAnswerOf (Err OutOfMemory) a = Unit {0}
