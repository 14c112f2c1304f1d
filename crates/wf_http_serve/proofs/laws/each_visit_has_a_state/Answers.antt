use Rattle.wf_http_serve.proofs.ReadVisits as visits
use Rattle.wf_http_serve.proofs.laws.each_visit_has_a_state.Goals as goal

pub returns : goal.returns
returns c = visits.each_visit_has_a_state
