use Rattle.wf_http_value.proofs.Bodies.{read_in}
use Rattle.wf_http_value.proofs.media.media_of.Goals as goal

pub returns : goal.returns
returns c = read_in _ c.media_told.result c.args.headers.now c.media_told.ensures c.get.ensures.value
