-- Each law by its lemma.
use Rattle.wf_deeds.proofs.DeedMore as deeds
use Rattle.wf_deeds.proofs.TurnMore as turns
use Rattle.wf_deeds.proofs.Handed as handed
use Rattle.wf_deeds.proofs.laws.laws_of_deeds.Goals as goal

pub returns-clause-deed : goal.returns-clause-deed
returns-clause-deed c = deeds.deed_keeps_rules

pub returns-clause-turn : goal.returns-clause-turn
returns-clause-turn c = turns.turn_keeps_rules (record {
  added = c.laws_of_moments.ensures.turn_is_added;
  before = c.laws_of_moments.ensures.session_before_stays;
  of_its = c.laws_of_moments.ensures.turn_is_of_its_session;
  moment = c.laws_of_moments.ensures.moment_before_stays;
})

pub returns-clause-end : goal.returns-clause-end
returns-clause-end c = deeds.end_keeps_rules

pub returns-clause-handed : goal.returns-clause-handed
returns-clause-handed c = handed.handed_keeps_rules
