use Rattle.std.proofs.Common.{◌≡◌, drop, ◌==◌, if◌then◌else◌}
use Rattle.std.specs.List.{list_any}
use Rattle.wf_http_serve.specs.Visits.{has_first_line}
use Rattle.wf_http_serve.proofs.first_line.has_first_line.Given as goal

abbrev pub invariant-loop-byte : goal.invariant-loop-byte
invariant-loop-byte l =
    has_first_line l.heard ≡ (if l.has_begun then list_any (λ c. c == 10) (drop l.byte-index l.heard) else has_first_line (drop l.byte-index l.heard))
