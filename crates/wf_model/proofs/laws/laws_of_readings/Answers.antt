-- Each law by its lemma.
use Rattle.wf_model.proofs.Read as read
use Rattle.wf_model.proofs.laws.laws_of_readings.Goals as goal

pub returns-clause-steps_read : goal.returns-clause-steps_read
returns-clause-steps_read c = read.steps_read

pub returns-clause-chosen_is_from_inside : goal.returns-clause-chosen_is_from_inside
returns-clause-chosen_is_from_inside c = read.chosen_is_from_inside
