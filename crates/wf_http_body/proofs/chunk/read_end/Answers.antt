use Rattle.wf_http_body.proofs.Steps.{whole_chunk, bad_end}
use Rattle.wf_http_body.proofs.chunk.read_end.Goals as goal

pub returns-in-Whole-clause-step : goal.returns-in-Whole-clause-step
returns-in-Whole-clause-step c = λ room limit all content sum at. whole_chunk limit all c.args.heard.now content at c.in-Whole.ensures.0

pub returns-in-Wrong-clause-step : goal.returns-in-Wrong-clause-step
returns-in-Wrong-clause-step c = λ room limit all content sum at. bad_end limit all c.args.heard.now content at c.in-Wrong.ensures
