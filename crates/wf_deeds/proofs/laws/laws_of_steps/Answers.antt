-- Each law by its lemma.
use Rattle.wf_deeds.proofs.Answered.{none_answered, one_answered}
use Rattle.wf_deeds.proofs.Choosing as choosing
use Rattle.wf_deeds.proofs.Ends as ends
use Rattle.wf_deeds.proofs.Hearing as hearing
use Rattle.wf_deeds.proofs.Moments as moments
use Rattle.wf_deeds.proofs.Sending as sending
use Rattle.wf_deeds.proofs.Turned as turned
use Rattle.wf_deeds.proofs.Handed as handed
use Rattle.wf_deeds.proofs.laws.laws_of_steps.Goals as goal

pub returns-clause-fresh : goal.returns-clause-fresh
returns-clause-fresh c = ends.fresh_stands

pub returns-clause-start : goal.returns-clause-start
returns-clause-start c = sending.start_goes_on (none_answered c.none_at_first.ensures) c.laws_of_moments.ensures.history_stands_there c.laws_of_deeds.ensures.deed

pub returns-clause-drop : goal.returns-clause-drop
returns-clause-drop c = sending.drop_goes_on c.laws_of_moments.ensures.history_stands_there c.laws_of_deeds.ensures.deed

pub returns-clause-hearing : goal.returns-clause-hearing
returns-clause-hearing c = hearing.hearing_goes_on (one_answered c.one_answer.ensures) c.laws_of_moments.ensures.history_stands_there c.laws_of_deeds.ensures.deed

pub returns-clause-turn : goal.returns-clause-turn
returns-clause-turn c = turned.turn_goes_on (record {
  one = one_answered c.one_answer.ensures;
  journals = record {
    added = c.laws_of_moments.ensures.turn_is_added;
    before = c.laws_of_moments.ensures.session_before_stays;
    of_its = c.laws_of_moments.ensures.turn_is_of_its_session;
    moment = c.laws_of_moments.ensures.moment_before_stays;
  };
  there = c.laws_of_moments.ensures.history_stands_there;
  goes_on = c.laws_of_histories.ensures.record_goes_on;
  rules = c.laws_of_deeds.ensures.turn;
  calls = c.laws_of_calls.ensures.calls_go_on;
  answers = c.laws_of_calls.ensures.answers_close;
  nothing = c.laws_of_runs.ensures.nothing_follows_an_outcome;
})

pub returns-clause-chosen : goal.returns-clause-chosen
returns-clause-chosen c = choosing.turn_is_chosen (record {
  takes = c.laws_of_choice.ensures.choice_takes_the_reading;
  ended = c.laws_of_choice.ensures.nothing_is_chosen_behind_an_outcome;
  quiet = c.laws_of_choice.ensures.nothing_is_chosen_when_quiet;
  read = c.laws_of_readings.ensures.steps_read;
  inside = c.laws_of_readings.ensures.chosen_is_from_inside;
})

pub returns-clause-reply : goal.returns-clause-reply
returns-clause-reply c = sending.reply_goes_on c.laws_of_moments.ensures.history_stands_there c.laws_of_deeds.ensures.deed

pub returns-clause-print : goal.returns-clause-print
returns-clause-print c = sending.print_goes_on c.laws_of_deeds.ensures.deed

pub returns-clause-end : goal.returns-clause-end
returns-clause-end c = ends.end_is_kept c.laws_of_moments.ensures.history_stands_there c.laws_of_deeds.ensures.end

pub returns-clause-moment : goal.returns-clause-moment
returns-clause-moment c = moments.stands_is_kept

pub returns-clause-poll : goal.returns-clause-poll
returns-clause-poll c = hearing.poll_is_kept c.laws_of_moments.ensures.history_stands_there c.laws_of_deeds.ensures.deed

pub returns-clause-handed : goal.returns-clause-handed
returns-clause-handed c = handed.handed_stands c.laws_of_deeds.ensures.handed

pub returns-clause-turn_leads : goal.returns-clause-turn_leads
returns-clause-turn_leads c = turned.turn_leads_on c.laws_of_histories.ensures.record_goes_on

pub returns-clause-hearing_leads : goal.returns-clause-hearing_leads
returns-clause-hearing_leads c = hearing.hearing_leads_on
