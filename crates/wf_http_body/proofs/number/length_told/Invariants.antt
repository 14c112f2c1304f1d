use Rattle.std.proofs.Common.{◌≡◌, ◌+◌, min, take}
use Rattle.std.specs.Str.Parse.{digits_value}
use Rattle.wf_http_body.proofs.number.length_told.Given as goal

abbrev pub invariant-loop-digit : goal.invariant-loop-digit
invariant-loop-digit l = l.length ≡ min (digits_value 10 (take l.digit-index l.digits)) (l.limit + 1)
