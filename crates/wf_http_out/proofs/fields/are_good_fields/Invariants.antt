use Rattle.std.proofs.Common.{◌≡◌, [], take, drop}
use Rattle.wf_value.specs.HttpRequest.{good_fields}
use Rattle.wf_http_out.specs.Fields.{names_before}
use Rattle.wf_http_out.proofs.fields.are_good_fields.Given as goal

abbrev pub invariant-loop-i : goal.invariant-loop-i
invariant-loop-i l = good_fields (names_before (take l.i l.fields)) (drop l.i l.fields) ≡ good_fields [] l.fields
