use Rattle.std.proofs.Common.{◌≡◌, ◌∙◌, IsUtf8, OnOk, subst}
use Rattle.wf_value.specs.Data.{Pairs, pairs_of}
use Rattle.wf_http_value.proofs.Fields.{with_both, without_name, without_value}
use Rattle.wf_http_value.proofs.headers.add_field.Goals as goal

pub returns-in_default : goal.returns-in_default
returns-in_default c =
    without_name (pairs_of c.args.headers.now) c.args.field.now (subst (λ b. ¬ (IsUtf8 b)) c.as_slice.ensures c.in_default.ensures.cases.0)

pub returns-in_default-from_utf8 : goal.returns-in_default-from_utf8
returns-in_default-from_utf8 c =
    without_value (pairs_of c.args.headers.now) c.args.field.now (subst (λ b. ¬ (IsUtf8 b)) c.as_slice-2.ensures c.in_default-from_utf8.ensures.cases.0)

pub returns : goal.returns
returns c =
    let same =
    with_both (pairs_of c.args.headers.now) c.args.field.now c.in-Ok.name.now c.in-Ok-from_utf8.value.now
    (subst IsUtf8 c.as_slice.ensures c.in-Ok.ensures.cases.1) (c.in-Ok.ensures.cases.0 ∙ c.as_slice.ensures)
    (subst IsUtf8 c.as_slice-2.ensures c.in-Ok-from_utf8.ensures.cases.1) (c.in-Ok-from_utf8.ensures.cases.0 ∙ c.as_slice-2.ensures) in
    subst (λ (x : Pairs). OnOk c.put_field.result (pairs_of c.put_field.new.headers ≡ x)) same c.put_field.ensures
