use Rattle.std.proofs.Common.{◌≡◌, drop}
use Rattle.std.specs.Prelude.{bytes_eq}
use Rattle.std.specs.List.{list_all}
use Rattle.wf_value.specs.HttpRequest.{content_types}
use Rattle.wf_value.specs.HttpText.{json_type, media_type_of}
use Rattle.wf_http_out.proofs.body.are_json_types.Given as goal

abbrev pub invariant-loop-field : goal.invariant-loop-field
invariant-loop-field l =
    list_all (λ t. bytes_eq (media_type_of t) json_type) (content_types (drop l.field-index l.fields))
    ≡ list_all (λ t. bytes_eq (media_type_of t) json_type) (content_types l.fields)
