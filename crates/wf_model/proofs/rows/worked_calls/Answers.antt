-- The examples in which the kit's libraries read or write requests and answers; the check carries out the others by itself.
use Rattle.std.specs.Prelude.{refl}
use Rattle.wf_value.proofs.OnLiterals.{on_literals}
use Rattle.wf_model.proofs.rows.worked_calls.Goals as goal

pub returns-clause-request_of_the_first_call : goal.returns-clause-request_of_the_first_call
unfolding on_literals
returns-clause-request_of_the_first_call c = refl

pub returns-clause-answer_goes_into_the_result : goal.returns-clause-answer_goes_into_the_result
unfolding on_literals
returns-clause-answer_goes_into_the_result c = refl

pub returns-clause-request_of_a_post : goal.returns-clause-request_of_a_post
unfolding on_literals
returns-clause-request_of_a_post c = refl

pub returns-clause-two_names_are_collected : goal.returns-clause-two_names_are_collected
unfolding on_literals
returns-clause-two_names_are_collected c = refl
