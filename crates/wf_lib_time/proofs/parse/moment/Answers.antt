use Rattle.std.proofs.Common.{FitsSigned, Ok, ap, rules, sym, w64, ◌∙◌}
use Rattle.std.proofs.lemmas.Int.{to_z-of_z}
use Rattle.wf_value.specs.LibTime.{time_parse}
use Rattle.wf_value.specs.Data.{integer, text}
use Rattle.wf_lib_time.proofs.Ranges.{parse_none, parse_some}
use Rattle.wf_lib_time.proofs.parse.moment.Goals as goal

pub returns-in-Some : goal.returns-in-Some
returns-in-Some c =
    let fits : FitsSigned w64 c.in-Some.seconds = search rules in
    ap (λ t. time_parse (text t)) (sym c.as_bytes.ensures.value)
    ∙ parse_some c.as_bytes.result.now c.in-Some.seconds c.in-Some.ensures
    ∙ ap (λ z. Ok (integer z)) (sym (to_z-of_z w64 c.in-Some.seconds fits))

pub returns-in-None : goal.returns-in-None
returns-in-None c =
    ap (λ t. time_parse (text t)) (sym c.as_bytes.ensures.value)
    ∙ parse_none c.as_bytes.result.now c.in-None.ensures
