-- Answers of functions, kept within the limits.
use Rattle.std.proofs.Common.{Ok, Err, subst}
use Rattle.std.specs.Prelude.{Result}
use Rattle.wf_eval.specs.Answers.{Gives}
use Rattle.wf_value.specs.Data.{Data}
use Rattle.wf_value.specs.Errors.{Answer, ◌>>=◌, kept}
use Rattle.wf_value.specs.Plain.{plain}
use Rattle.wf_value.specs.declared.Raise.{Raise}
use Rattle.wf_value.specs.declared.Raise.TheVariants.{Error, OutOfMemory}
use Rattle.wf_value.specs.declared.Value.{Value}

-- of a value
pub gave_kept : (r : Result Value Raise) (v : Value) (a : Answer Data) → Gives (Ok v) a → Gives r (kept (plain v)) → Gives r (a >>= kept)
gave_kept r v (Ok d) e h = subst (λ (x : Data). Gives r (kept x)) e h
gave_kept r v (Err t) e h = absurd e

-- of an error
pub failed_kept : (r : Raise) (a : Answer Data) → Gives (Err r) a → Gives (Err r) (a >>= kept)
failed_kept OutOfMemory a e = tt
failed_kept (Error t) (Ok d) e = absurd e
failed_kept (Error t) (Err u) e = e
