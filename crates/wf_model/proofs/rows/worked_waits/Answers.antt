-- The examples in which the kit's libraries read or write times and addresses; the check carries out the others by itself.
use Rattle.std.specs.Prelude.{refl}
use Rattle.wf_value.proofs.OnLiterals.{on_literals}
use Rattle.wf_model.proofs.rows.worked_waits.Goals as goal

pub returns-clause-passed_time_is_due_at_once : goal.returns-clause-passed_time_is_due_at_once
unfolding on_literals
returns-clause-passed_time_is_due_at_once c = refl

pub returns-clause-endpoint_has_a_url : goal.returns-clause-endpoint_has_a_url
unfolding on_literals
returns-clause-endpoint_has_a_url c = refl

pub returns-clause-early_callback_is_taken_at_once : goal.returns-clause-early_callback_is_taken_at_once
unfolding on_literals
returns-clause-early_callback_is_taken_at_once c = refl

pub returns-clause-late_callback_ends_the_wait : goal.returns-clause-late_callback_ends_the_wait
unfolding on_literals
returns-clause-late_callback_ends_the_wait c = refl

pub returns-clause-hundred_callbacks_wait : goal.returns-clause-hundred_callbacks_wait
unfolding on_literals
returns-clause-hundred_callbacks_wait c = refl

pub returns-clause-await_times_out : goal.returns-clause-await_times_out
unfolding on_literals
returns-clause-await_times_out c = refl
