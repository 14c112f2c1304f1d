use Rattle.std.proofs.Common.{subst, take}
use Rattle.wf_http_body.specs.Found.{IsGlance}
use Rattle.wf_http_body.proofs.Fronts.{past_limit, whole_within}
use Rattle.wf_http_body.proofs.trailer.read_trailer.Goals as goal

pub returns-in-Whole-2 : goal.returns-in-Whole-2
returns-in-Whole-2 c =
    whole_within c.args.limit c.args.heard.now (subst (IsGlance (take c.args.limit c.args.heard.now)) c.in-Whole-2.is c.in_ok-glance_at-2.ensures)

pub returns-in-Crowded-2 : goal.returns-in-Crowded-2
returns-in-Crowded-2 c =
    past_limit c.args.limit c.args.heard.now c.in_ok-glance_at-2.field-0 c.requires c.if-heard-limit.false c.in_ok-glance_at-2.ensures c.in-Crowded-2.is
