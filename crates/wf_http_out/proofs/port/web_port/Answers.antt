use Rattle.std.proofs.Common.{◌≡◌, arith}
use Rattle.std.proofs.lemmas.Grind.{common_steps}
use Rattle.http_uri.specs.ByteClasses.{count_of}
use Rattle.wf_http_out.proofs.Hosts.{host_stands_first}
use Rattle.wf_http_out.proofs.port.web_port.Goals as goal

pub returns-in-None : goal.returns-in-None
returns-in-None c =
    let none : count_of 64 c.args.authority.now ≡ 0 = grind (arith, common_steps) in
    absurd (host_stands_first c.args.authority.now c.args.host.now c.requires none c.in-None.ensures.cases)
