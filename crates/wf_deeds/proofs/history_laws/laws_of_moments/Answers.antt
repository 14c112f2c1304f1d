use Rattle.wf_deeds.proofs.HistoryMoments as moments
use Rattle.wf_deeds.proofs.history_laws.laws_of_moments.Goals as goal

pub returns-clause-turn_is_added : goal.returns-clause-turn_is_added
returns-clause-turn_is_added c = moments.turn_is_added

pub returns-clause-session_before_stays : goal.returns-clause-session_before_stays
returns-clause-session_before_stays c = moments.session_before_stays

pub returns-clause-moment_before_stays : goal.returns-clause-moment_before_stays
returns-clause-moment_before_stays c = moments.moment_before_stays c.laws_of_turns.ensures.later_turn_does_not_count

pub returns-clause-turn_is_of_its_session : goal.returns-clause-turn_is_of_its_session
returns-clause-turn_is_of_its_session c = moments.turn_is_of_its_session

pub returns-clause-next_behind_turn : goal.returns-clause-next_behind_turn
returns-clause-next_behind_turn c = moments.next_behind_turn

pub returns-clause-history_stands_there : goal.returns-clause-history_stands_there
returns-clause-history_stands_there c = moments.history_stands_there c.laws_of_histories.ensures.computed c.laws_of_turns.ensures.all_turns_are_the_run

pub returns-clause-next_behind_history : goal.returns-clause-next_behind_history
returns-clause-next_behind_history c = moments.next_behind_history c.laws_of_histories.ensures.computed

pub returns-clause-stands_before : goal.returns-clause-stands_before
returns-clause-stands_before c = moments.history_stands_before c.laws_of_histories.ensures.computed

pub returns-clause-no_turns_behind : goal.returns-clause-no_turns_behind
returns-clause-no_turns_behind c = moments.no_turns_behind c.laws_of_histories.ensures.computed

pub returns-clause-number_is_count : goal.returns-clause-number_is_count
returns-clause-number_is_count c = moments.number_is_count

pub returns-clause-session_is_numbered : goal.returns-clause-session_is_numbered
returns-clause-session_is_numbered c = moments.session_is_numbered
