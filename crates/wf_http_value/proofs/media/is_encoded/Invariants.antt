use Rattle.std.proofs.Common.{◌≡◌, drop}
use Rattle.wf_http_value.specs.Media.{is_encoded}
use Rattle.wf_http_value.proofs.media.is_encoded.Given as goal

abbrev pub invariant-loop-field : goal.invariant-loop-field
invariant-loop-field l = is_encoded (drop l.field-index l.fields) ≡ is_encoded l.fields
