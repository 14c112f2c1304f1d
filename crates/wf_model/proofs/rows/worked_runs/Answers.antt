-- The examples in which the kit's libraries read or write the argument; the check carries out the others by itself.
use Rattle.std.specs.Prelude.{refl}
use Rattle.wf_value.proofs.OnLiterals.{on_literals}
use Rattle.wf_model.proofs.rows.worked_runs.Goals as goal

pub returns-clause-argument_is_bound : goal.returns-clause-argument_is_bound
unfolding on_literals
returns-clause-argument_is_bound c = refl
