-- Each law by its lemma.
use Rattle.wf_model.proofs.Turns as turns
use Rattle.wf_model.proofs.laws.laws_of_turns.Goals as goal

pub returns-clause-next_turn_goes_on : goal.returns-clause-next_turn_goes_on
returns-clause-next_turn_goes_on c = turns.next_turn_goes_on

pub returns-clause-later_turn_does_not_count : goal.returns-clause-later_turn_does_not_count
returns-clause-later_turn_does_not_count c = turns.later_turn_does_not_count

pub returns-clause-all_turns_are_the_run : goal.returns-clause-all_turns_are_the_run
returns-clause-all_turns_are_the_run c = turns.all_turns_are_the_run
