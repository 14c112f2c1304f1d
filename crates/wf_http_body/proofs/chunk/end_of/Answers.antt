use Rattle.std.proofs.Common.{arith}
use Rattle.wf_http_body.proofs.Chunking.{begins_at_end, begins_before}
use Rattle.wf_http_body.proofs.chunk.end_of.Goals as goal

pub returns-then-is_empty : goal.returns-then-is_empty
returns-then-is_empty c = begins_at_end c.args.heard.now c.if-is_empty.ensures

pub returns-then-heard-eq1 : goal.returns-then-heard-eq1
returns-then-heard-eq1 c = begins_before c.args.heard.now (omega arith) c.if-heard-ne13.false
