-- What a call answers.
use Rattle.std.specs.Prelude.{◌≡◌, Ok, Err, Result}
use Rattle.wf_value.specs.Errors.{Answer}
use Rattle.wf_value.specs.declared.errors.Raise.{Raise}
use Rattle.wf_value.specs.declared.errors.Raise.TheVariants.{Error, OutOfMemory}

-- this answer, by this reading of its value: the value, or an error with its tag. Where there is no
-- memory nothing is said
abbrev pub Answers : {A B : Type 0} → (A → B) → Result A Raise → Answer B → Type 0
Answers f (Ok v) a = a ≡ Ok (f v)
Answers f (Err (Error t)) a = a ≡ Err t
Answers f (Err OutOfMemory) a = Unit {0}
