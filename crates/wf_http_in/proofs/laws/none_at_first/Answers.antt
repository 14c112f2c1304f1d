use Rattle.wf_http_in.proofs.Coming.{none_yet}
use Rattle.wf_http_in.proofs.laws.none_at_first.Goals as goal

pub returns : goal.returns
returns c = none_yet
