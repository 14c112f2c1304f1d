use Rattle.std.proofs.Common.{subst}
use Rattle.wf_http_body.specs.Found.{IsSection}
use Rattle.wf_http_body.proofs.Steps.{last_chunk, bad_trailer}
use Rattle.wf_http_body.proofs.chunk.read_last.Goals as goal

pub returns-in-Whole-clause-step : goal.returns-in-Whole-clause-step
returns-in-Whole-clause-step c = λ room limit all content sum at.
    last_chunk limit all c.args.heard.now content at (subst (IsSection c.args.heard.now) c.in-Whole.is c.in_ok-read_trailer.ensures)

pub returns-in-Bad-clause-step : goal.returns-in-Bad-clause-step
returns-in-Bad-clause-step c = λ room limit all content sum at.
    bad_trailer limit all c.args.heard.now content at (subst (IsSection c.args.heard.now) c.in-Bad.is c.in_ok-read_trailer.ensures)
