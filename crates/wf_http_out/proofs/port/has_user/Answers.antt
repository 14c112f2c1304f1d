use Rattle.std.proofs.Common.{◌∙◌}
use Rattle.wf_http_out.proofs.Hosts.{has_byte}
use Rattle.wf_http_out.proofs.port.has_user.Goals as goal

pub returns : goal.returns
returns c = (rw c.as_bytes.ensures.value at c.contains.ensures.value) ∙ has_byte 64 c.args.authority.now
