use Rattle.wf_span.proofs.Unique.{tokens_are_one}
use Rattle.wf_span.proofs.laws.tokens_are_one.Goals as goal

pub returns : goal.returns
returns c = tokens_are_one
