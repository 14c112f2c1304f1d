-- What a call asks for, and what is sent of a body, as plain data.
use Rattle.std.specs.Prelude.{ℕ, [], ◌++◌, Option, option_map, codes, decimal}
use Rattle.std.specs.List.{flat_map}
use Rattle.wf_callbacks.specs.Plain.{plain_method}
use Rattle.wf_value.specs.Events.{method_name}
use Rattle.wf_value.specs.HttpRequest as request
use Rattle.wf_value.specs.HttpText.{line}
use Rattle.wf_value.specs.HttpUrl as url
use Rattle.wf_value.specs.Data.{Data}
use Rattle.wf_value.specs.Pairs.{Text}
use Rattle.wf_value.specs.Plain.{plain}
use Rattle.wf_value.specs.declared.value.Value.{Value}
use Rattle.wf_http_out.specs.declared.asked.Asked.{Asked}
use Rattle.wf_http_out.specs.declared.body.Payload.{Payload}

-- a body that is null is none
abbrev pub body_view : Option Value → Option Data
body_view v = request.sent_body (option_map plain v)

abbrev pub asked_view : Asked → request.Asked
asked_view a = record {
  method = plain_method a.method;
  url = a.url;
  fields = a.fields;
  query = a.query;
  body = body_view a.body;
  timeout = a.timeout;
}

abbrev pub payload_view : Payload → request.Payload
payload_view p = record { type = p.media_type; bytes = p.bytes }

-- the lines of a request, the empty one too
abbrev pub head_text : url.Goal → request.Asked → Text → ℕ → Option request.Payload → Text
head_text g a id k p =
    line (method_name a.method ++ codes " " ++ request.with_query g.target a.query
    ++ codes " HTTP/1.1")
    ++ line (codes "Host: " ++ g.authority)
    ++ flat_map request.field_line a.fields
    ++ line (codes "Connection: close")
    ++ line (codes "X-Workflow-Call: " ++ id ++ codes "-" ++ decimal k)
    ++ request.type_line (request.content_types a.fields) p
    ++ request.length_line a.method p
    ++ line []
