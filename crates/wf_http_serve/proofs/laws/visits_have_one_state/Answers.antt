use Rattle.wf_http_serve.proofs.OneVisit.{one_state}
use Rattle.wf_http_serve.proofs.laws.visits_have_one_state.Goals as goal

pub returns : goal.returns
returns c = one_state
