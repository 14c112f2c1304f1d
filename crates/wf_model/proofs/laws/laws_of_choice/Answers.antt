-- Each law by its lemma.
use Rattle.wf_model.proofs.Choice as choice
use Rattle.wf_model.proofs.laws.laws_of_choice.Goals as goal

pub returns-clause-nothing_is_chosen_when_quiet : goal.returns-clause-nothing_is_chosen_when_quiet
returns-clause-nothing_is_chosen_when_quiet c = choice.nothing_is_chosen_when_quiet

pub returns-clause-nothing_is_chosen_behind_an_outcome : goal.returns-clause-nothing_is_chosen_behind_an_outcome
returns-clause-nothing_is_chosen_behind_an_outcome c = choice.nothing_is_chosen_behind_an_outcome

pub returns-clause-choice_takes_the_reading : goal.returns-clause-choice_takes_the_reading
returns-clause-choice_takes_the_reading c = choice.choice_takes_the_reading
