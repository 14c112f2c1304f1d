use Rattle.std.proofs.Common.{◌≡◌, take}
use Rattle.std.specs.Prelude.{fold}
use Rattle.wf_value.specs.HttpText.{with_field}
use Rattle.wf_value.specs.Data.{no_pairs, pairs_of}
use Rattle.wf_http_value.proofs.headers.header_map.Given as goal

abbrev pub invariant-loop-field : goal.invariant-loop-field
invariant-loop-field l = pairs_of l.headers ≡ fold with_field no_pairs (take l.field-index l.fields)
