-- Each law by its lemma.
use Rattle.wf_model.proofs.Bounds as bounds
use Rattle.wf_model.proofs.Calls as calls
use Rattle.wf_model.proofs.Counts as counts
use Rattle.wf_model.proofs.Numbers as numbers
use Rattle.wf_model.proofs.Runs as runs
use Rattle.wf_model.proofs.laws.laws_of_runs.Goals as goal

pub returns-clause-runs_join : goal.returns-clause-runs_join
returns-clause-runs_join c = runs.runs_join

pub returns-clause-front_is_a_run : goal.returns-clause-front_is_a_run
returns-clause-front_is_a_run c = runs.front_is_a_run

pub returns-clause-step_goes_on : goal.returns-clause-step_goes_on
returns-clause-step_goes_on c = runs.step_goes_on

pub returns-clause-runs_agree : goal.returns-clause-runs_agree
returns-clause-runs_agree c = runs.runs_agree

pub returns-clause-step_is_one : goal.returns-clause-step_is_one
returns-clause-step_is_one c = runs.step_is_one

pub returns-clause-nothing_follows_an_outcome : goal.returns-clause-nothing_follows_an_outcome
returns-clause-nothing_follows_an_outcome c = counts.nothing_follows_an_outcome

pub returns-clause-steps_count : goal.returns-clause-steps_count
returns-clause-steps_count c = counts.steps_count

pub returns-clause-steps_only_close_calls : goal.returns-clause-steps_only_close_calls
returns-clause-steps_only_close_calls c = calls.steps_only_close_calls

pub returns-clause-requests_stay : goal.returns-clause-requests_stay
returns-clause-requests_stay c = calls.requests_stay

pub returns-clause-runs_are_bounded : goal.returns-clause-runs_are_bounded
returns-clause-runs_are_bounded c = bounds.runs_are_bounded

pub returns-clause-tasks_are_numbered : goal.returns-clause-tasks_are_numbered
returns-clause-tasks_are_numbered c = numbers.tasks_are_numbered
