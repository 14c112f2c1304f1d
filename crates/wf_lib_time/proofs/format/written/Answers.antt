use Rattle.std.proofs.Common.{◌≡◌, Ok, ap, rules, sym, ◌∙◌}
use Rattle.wf_value.specs.Data.{text}
use Rattle.wf_lib_time.specs.Moments.{IsInTime, stamp_text}
use Rattle.wf_lib_time.proofs.Ranges.{format_within}
use Rattle.wf_lib_time.proofs.format.written.Goals as goal

pub returns-in_ok-stamp : goal.returns-in_ok-stamp
returns-in_ok-stamp c =
    let within : IsInTime c.args.seconds = search rules in
    let same : c.in_ok-stamp.field-0 ≡ stamp_text c.args.seconds = search rules in
    format_within c.args.seconds within ∙ ap (λ t. Ok (text t)) (sym same)
