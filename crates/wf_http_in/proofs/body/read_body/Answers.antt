use Rattle.wf_http_in.proofs.BodyStates.{chunked, sized}
use Rattle.wf_http_in.proofs.body.read_body.Goals as goal

pub returns-in-OfLength-clause-read : goal.returns-in-OfLength-clause-read
returns-in-OfLength-clause-read c =
    sized c.args.framing c.in-OfLength.length c.args.chunks.now c.args.chunks.now c.args.piece.now c.args.content.now.items c.read_length.new.content.items c.read_length.result c.in-OfLength.is c.read_length.ensures.read

pub returns-in-InChunks-clause-read : goal.returns-in-InChunks-clause-read
returns-in-InChunks-clause-read c =
    chunked c.args.framing c.args.chunks.now c.feed.new.self c.args.piece.now c.args.content.now.items c.feed.new.content.items c.feed.result c.in-InChunks.is c.feed.ensures.read
