use Rattle.std.proofs.Common.{◌≡◌, ◌∙◌, IfOk, subst, sym}
use Rattle.wf_value.specs.Data.{Data}
use Rattle.wf_value.specs.Plain.{plain}
use Rattle.wf_value.specs.declared.value.Value.{Value}
use Rattle.wf_http_value.proofs.Bodies.{no_text, some_text}
use Rattle.wf_http_value.proofs.body.text_or_bytes.Goals as goal

pub returns-in_ok-new-in-Ok : goal.returns-in_ok-new-in-Ok
returns-in_ok-new-in-Ok c = some_text c.args.body.now c.in_ok-new-in-Ok.field-0 c.in-Ok.ensures.cases.1 (c.in_ok-new-in-Ok.ensures ∙ c.in-Ok.ensures.cases.0)

pub returns-in-Err : goal.returns-in-Err
returns-in-Err c =
    subst (λ (d : Data). IfOk c.bytes_value.result (λ (v : Value). plain v ≡ d)) (sym (no_text c.args.body.now c.in-Err.ensures.cases.0)) c.bytes_value.ensures
