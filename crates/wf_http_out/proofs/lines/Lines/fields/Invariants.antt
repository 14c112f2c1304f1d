use Rattle.std.proofs.Common.{◌≡◌, ◌++◌, take}
use Rattle.std.specs.Prelude.{string_bytes}
use Rattle.std.specs.List.{flat_map}
use Rattle.wf_value.specs.HttpRequest.{field_line}
use Rattle.wf_http_out.proofs.lines.Lines.fields.Given as goal

abbrev pub invariant-loop-field : goal.invariant-loop-field
invariant-loop-field l = string_bytes l.self.text ≡ string_bytes l.fn.self.text ++ flat_map field_line (take l.field-index l.fields)
