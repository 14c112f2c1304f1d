use Rattle.wf_http_body.proofs.OneBody.{one_body}
use Rattle.wf_http_body.proofs.laws.bodies_have_one_state.Goals as goal

pub returns : goal.returns
returns c = one_body
