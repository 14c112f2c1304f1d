use Rattle.std.proofs.Common.{◌≡◌, ◌++◌, ap, sym, subst, ◌∙◌}
use Rattle.std.specs.Prelude.{OnOk, Option, codes, option_map, string_bytes}
use Rattle.wf_value.specs.HttpRequest.{content_types, type_line}
use Rattle.wf_value.specs.HttpText.{line}
use Rattle.wf_value.specs.Pairs.{Text}
use Rattle.wf_http_out.specs.Asked.{payload_view}
use Rattle.wf_http_out.specs.declared.body.Payload.{Payload}
use Rattle.wf_http_out.proofs.Typing.{own_type}
use Rattle.wf_http_out.proofs.lines.Lines.media_type.Goals as goal

pub returns : goal.returns
returns c =
    let types = content_types c.args.fields.now in
    let told = ap (λ (o : Option Payload). type_line types (option_map payload_view o)) c.in-Some.is
    ∙ own_type types (payload_view c.in-Some.payload) c.if-has_content_type.ensures in
    let written = ap (λ (t : Text). line (codes "Content-Type: " ++ t)) c.as_str.ensures in
    subst (λ (t : Text). OnOk c.field.result (string_bytes c.field.new.self.text ≡ string_bytes c.args.self.now.text ++ t))
    (written ∙ sym told) c.field.ensures
