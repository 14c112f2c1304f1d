use Rattle.std.proofs.Common.{ap, sym, ◌∙◌}
use Rattle.std.specs.Prelude.{codes}
use Rattle.wf_value.specs.HttpText.{media_type}
use Rattle.wf_value.specs.Pairs.{get}
use Rattle.wf_http_value.specs.Media.{kind_of}
use Rattle.wf_http_value.proofs.Bodies.{given_json}
use Rattle.wf_http_value.proofs.body.body_value.Goals as goal

pub returns-in-Json : goal.returns-in-Json
returns-in-Json c =
    let kind = ap (λ ps. kind_of (media_type (get (codes "Content-Type") ps))) (sym c.requires) ∙ sym c.media_of.ensures ∙ c.in-Json.is in
    given_json c.json_body.result c.args.is_lenient c.args.fields.now c.args.body.now
    (sym c.is_empty.ensures ∙ c.if-is_empty.false) (sym c.is_encoded.ensures ∙ c.if-is_encoded.false) kind c.json_body.ensures
