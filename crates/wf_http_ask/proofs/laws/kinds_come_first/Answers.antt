use Rattle.wf_http_ask.proofs.KindsFirst.{kinds_come_first}
use Rattle.wf_http_ask.proofs.laws.kinds_come_first.Goals as goal

pub returns : goal.returns
returns c = kinds_come_first
