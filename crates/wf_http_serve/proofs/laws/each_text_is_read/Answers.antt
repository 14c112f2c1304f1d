use Rattle.wf_http_serve.proofs.ReadHeads as heads
use Rattle.wf_http_serve.proofs.laws.each_text_is_read.Goals as goal

pub returns : goal.returns
returns c = heads.each_text_is_read
