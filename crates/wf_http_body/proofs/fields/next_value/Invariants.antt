use Rattle.std.proofs.Common.{◌≡◌, drop}
use Rattle.wf_value.specs.HttpText.{values_of}
use Rattle.wf_http_body.proofs.fields.next_value.Given as goal

abbrev pub invariant-loop-i : goal.invariant-loop-i
invariant-loop-i l = values_of l.name (drop l.i l.fields) ≡ values_of l.name (drop l.from l.fields)
