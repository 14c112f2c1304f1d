use Rattle.wf_http_body.proofs.Digits.{not_zero}
use Rattle.wf_http_body.proofs.number.is_zero.Goals as goal

pub returns-then-digit-ne48 : goal.returns-then-digit-ne48
returns-then-digit-ne48 c =
    not_zero c.args.digits.now c.loop-digit.digit-index c.loop-digit-test.true c.loop-digit.invariant.digits c.loop-digit.invariant.value c.if-digit-ne48.true
