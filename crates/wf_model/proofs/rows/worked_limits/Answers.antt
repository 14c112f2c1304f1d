-- The examples in which the kit's libraries read or write a number as a text; the check carries out the others by itself.
use Rattle.std.specs.Prelude.{refl}
use Rattle.wf_value.proofs.OnLiterals.{on_literals}
use Rattle.wf_model.proofs.rows.worked_limits.Goals as goal

pub returns-clause-begin_past_the_limit_keeps_its_error : goal.returns-clause-begin_past_the_limit_keeps_its_error
unfolding on_literals
returns-clause-begin_past_the_limit_keeps_its_error c = refl
