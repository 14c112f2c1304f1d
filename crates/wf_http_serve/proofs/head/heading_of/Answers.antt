use Rattle.std.proofs.Common.{subst}
use Rattle.wf_http_serve.specs.Found.{IsLook}
use Rattle.wf_http_serve.proofs.Fronts.{whole_short_head, headless_yet}
use Rattle.wf_http_serve.proofs.head.heading_of.Goals as goal

pub returns-in-Whole : goal.returns-in-Whole
returns-in-Whole c = whole_short_head c.args.heard.now _ _ _ c.requires.short (subst (IsLook c.args.heard.now) c.in-Whole.is c.requires.look)

pub returns-in-NotYet : goal.returns-in-NotYet
returns-in-NotYet c =
    let look = subst (IsLook c.args.heard.now) c.in-NotYet.is c.requires.look in
    headless_yet c.args.heard.now c.requires.short look.0 look.1
