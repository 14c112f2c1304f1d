use Rattle.std.proofs.Common.{subst, take, arith}
use Rattle.wf_http_in.specs.Found.{IsLook}
use Rattle.wf_http_in.proofs.Fronts.{past_head, whole_within_head}
use Rattle.wf_http_in.proofs.heads.read_head.Goals as goal

pub returns-in-Whole : goal.returns-in-Whole
returns-in-Whole c =
    let look = subst (IsLook (take c.args.limit c.args.heard.now)) c.in-Whole.is c.in_ok-head.ensures in
    whole_within_head c.args.limit _ c.args.heard.now _ _ c.requires (omega arith) look

pub returns-in-Crowded : goal.returns-in-Crowded
returns-in-Crowded c =
    past_head c.args.limit c.args.heard.now _ c.requires c.if-heard-limit.false c.in_ok-head.ensures c.in-Crowded.is
