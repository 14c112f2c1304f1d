use Rattle.wf_deeds.proofs.Taking as taking
use Rattle.wf_deeds.proofs.outside_laws.laws_of_visits.Goals as goal

pub returns-clause-heard : goal.returns-clause-heard
returns-clause-heard c = taking.judged_is_heard

pub returns-clause-visit : goal.returns-clause-visit
returns-clause-visit c = taking.visit_goes_on c.laws_of_steps.ensures.hearing

pub returns-clause-reply : goal.returns-clause-reply
returns-clause-reply c = taking.turn_replies c.laws_of_steps.ensures.turn c.laws_of_steps.ensures.reply
