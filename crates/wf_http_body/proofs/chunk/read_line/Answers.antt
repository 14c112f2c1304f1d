use Rattle.std.proofs.Common.{inl, inr}
use Rattle.wf_http_body.proofs.Chunking.{line_takes, long_line, long_without}
use Rattle.wf_http_body.proofs.Steps.{bad_line}
use Rattle.wf_http_body.proofs.chunk.read_line.Goals as goal

pub returns-in-Ok-Complete-clause-step : goal.returns-in-Ok-Complete-clause-step
returns-in-Ok-Complete-clause-step c = λ room limit all content sum at.
    let line = rw c.in-Ok-Complete.field-0-is at c.in-Ok-Complete.ensures.complete in
    bad_line limit all c.args.heard.now content at (inr (long_line c.args.heard.now c.in-Ok-Complete.start _ line.0 line.1 c.if-start-gt-LINE_LIMIT.true))

pub returns-in-Ok-Complete-default-eq0-clause-within : goal.returns-in-Ok-Complete-default-eq0-clause-within
returns-in-Ok-Complete-default-eq0-clause-within c =
    let line = rw c.in-Ok-Complete.field-0-is at c.in-Ok-Complete.ensures.complete in
    line_takes c.args.heard.now c.in-Ok-Complete.start _ line.0 line.1

pub returns-in-Ok-Complete-2-clause-within : goal.returns-in-Ok-Complete-2-clause-within
returns-in-Ok-Complete-2-clause-within c =
    let line = rw c.in-Ok-Complete.field-0-is at c.in-Ok-Complete.ensures.complete in
    line_takes c.args.heard.now c.in-Ok-Complete.start _ line.0 line.1

pub returns-in-Ok-Partial-clause-step : goal.returns-in-Ok-Partial-clause-step
returns-in-Ok-Partial-clause-step c = λ room limit all content sum at.
    let none = rw c.in-Ok-Partial.field-0-is at c.in-Ok-Partial.ensures.partial in
    bad_line limit all c.args.heard.now content at (inr (long_without c.args.heard.now none c.if-heard-gt-LINE_LIMIT.true))

pub returns-in-Err-clause-step : goal.returns-in-Err-clause-step
returns-in-Err-clause-step c = λ room limit all content sum at. bad_line limit all c.args.heard.now content at (inl c.in-Err.ensures.invalid)
