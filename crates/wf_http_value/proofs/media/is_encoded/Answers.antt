use Rattle.std.proofs.Common.{◌∙◌, sym}
use Rattle.wf_http_value.proofs.Bodies.{passed}
use Rattle.wf_http_value.proofs.media.is_encoded.Goals as goal

pub loop-field-preserved : goal.loop-field-preserved
loop-field-preserved c =
    passed c.args.fields.now c.loop-field.field-index c.field-item.result c.loop-field-test.true c.field-item.is (sym c.is_named.ensures ∙ c.if-is_named.false) c.loop-field.invariant
