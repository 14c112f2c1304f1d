use Rattle.std.proofs.Common.{arith}
use Rattle.wf_http_body.proofs.Steps.{over}
use Rattle.wf_http_body.proofs.chunk.read_content.Goals as goal

pub returns-then-taken-room-clause-step : goal.returns-then-taken-room-clause-step
returns-then-taken-room-clause-step c = λ limit all content sum at.
    over limit c.args.room all c.args.heard.now content c.args.left at sum (omega arith)
