use Rattle.wf_http_in.proofs.Small.{answers_are_small}
use Rattle.wf_http_in.proofs.laws.answers_are_small.Goals as goal

pub returns : goal.returns
returns c = answers_are_small
