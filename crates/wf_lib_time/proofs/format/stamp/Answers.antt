use Rattle.std.proofs.Common.{◌≡◌, FitsSigned, w64, ◌∙◌}
use Rattle.std.proofs.lemmas.Int.{to_z-of_z}
use Rattle.std.proofs.lemmas.Result.{IfOk-weaker}
use Rattle.wf_lib_time.specs.Moments.{stamp_text}
use Rattle.wf_lib_time.proofs.Stamps.{stamped_at}
use Rattle.wf_lib_time.proofs.format.stamp.Goals as goal

pub returns : goal.returns
returns c =
    let fits : FitsSigned w64 c.args.seconds = c.ranges.seconds in
    let civil = simp to_z-of_z at c.date_time-at.ensures in
    let same : c.as_str.result.now ≡ stamp_text c.args.seconds = c.as_str.ensures.value ∙ c.in_ok-text.ensures.ok ∙ stamped_at c.date_time-at.result c.args.seconds c.requires civil in
    IfOk-weaker c.new.result (λ t. t ≡ c.as_str.result.now) (λ t. t ≡ stamp_text c.args.seconds) (λ t e. e ∙ same) c.new.ensures
