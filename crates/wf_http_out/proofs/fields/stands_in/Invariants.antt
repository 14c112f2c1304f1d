use Rattle.std.proofs.Common.{◌≡◌, false, take}
use Rattle.http_uri.specs.ByteClasses.{lowercase}
use Rattle.wf_value.specs.HttpRequest.{is_among}
use Rattle.wf_http_out.specs.Fields.{names_before}
use Rattle.wf_http_out.proofs.fields.stands_in.Given as goal

abbrev pub invariant-loop-field : goal.invariant-loop-field
invariant-loop-field l = is_among (lowercase l.name) (names_before (take l.field-index l.fields)) ≡ false
