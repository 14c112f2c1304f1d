use Rattle.std.proofs.Common.{subst}
use Rattle.wf_http_in.specs.Found.{IsLook}
use Rattle.wf_http_in.proofs.Fronts.{whole_short_head}
use Rattle.wf_http_in.proofs.heads.heading_of.Goals as goal

pub returns-in-Whole : goal.returns-in-Whole
returns-in-Whole c = whole_short_head c.args.heard.now _ _ _ c.requires.short (subst (IsLook c.args.heard.now) c.in-Whole.is c.requires.look)
