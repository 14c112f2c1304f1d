use Rattle.std.proofs.Common.{◌≡◌, drop}
use Rattle.wf_value.specs.HttpRequest.{content_types}
use Rattle.wf_http_out.proofs.lines.has_content_type.Given as goal

abbrev pub invariant-loop-field : goal.invariant-loop-field
invariant-loop-field l = content_types (drop l.field-index l.fields) ≡ content_types l.fields
