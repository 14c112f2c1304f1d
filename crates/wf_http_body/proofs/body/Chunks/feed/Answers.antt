use Rattle.std.proofs.Common.{◌++◌}
use Rattle.wf_http_body.proofs.body.Chunks.feed.Goals as goal

pub returns-in-Ok-clause-read : goal.returns-in-Ok-clause-read
returns-in-Ok-clause-read c = λ all at. c.settle.ensures c.args.limit (all ++ c.args.piece.now) c.read_piece.new.content.items (c.in-Ok.ensures.read all at)
