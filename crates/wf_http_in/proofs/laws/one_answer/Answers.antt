use Rattle.wf_http_in.proofs.OneAnswer.{one_answer}
use Rattle.wf_http_in.proofs.laws.one_answer.Goals as goal

pub returns : goal.returns
returns c = one_answer
