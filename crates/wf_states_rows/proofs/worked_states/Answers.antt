use Rattle.wf_states_rows.proofs.Rows.{agree_on_spelling, agree_on_places}
use Rattle.wf_states_rows.proofs.worked_states.Goals as goal

pub returns-clause-spelling : goal.returns-clause-spelling
returns-clause-spelling c = agree_on_spelling

pub returns-clause-places : goal.returns-clause-places
returns-clause-places c = agree_on_places
