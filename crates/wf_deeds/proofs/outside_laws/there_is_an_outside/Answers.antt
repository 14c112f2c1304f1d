use Rattle.wf_deeds.proofs.TheOutside as outside
use Rattle.wf_deeds.proofs.outside_laws.there_is_an_outside.Goals as goal

pub returns : goal.returns
returns c = outside.there_is_an_outside c.visits_have_one_state.ensures c.each_visit_has_a_state.ensures
