use Rattle.std.proofs.Common.{◌∙◌}
use Rattle.wf_http_body.proofs.Digits.{told_more}
use Rattle.wf_http_body.proofs.number.length_told.Goals as goal

pub loop-digit-preserved : goal.loop-digit-preserved
loop-digit-preserved c =
    c.min-length.ensures ∙ told_more c.args.limit c.args.digits.now c.loop-digit.digit-index c.loop-digit.length c.loop-digit-test.true c.requires.digits c.loop-digit.invariant
