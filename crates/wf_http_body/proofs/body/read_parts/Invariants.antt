use Rattle.std.proofs.Common.{◌≡◌, ◌-◌, ◌≤◌, ℕ, List, length, take, drop}
use Rattle.wf_http_body.specs.Parts.{IsPart}
use Rattle.wf_http_body.proofs.body.read_parts.Given as goal

abbrev pub invariant-loop-length : goal.invariant-loop-length
invariant-loop-length l = record {
  within : l.used ≤ length l.heard;
  grown : take (length l.fn.content.items) l.content.items ≡ l.fn.content.items;
  read : (all : List ℕ) → IsPart l.limit l.fn.from all l.heard l.fn.content.items → IsPart l.limit l.place all (drop l.used l.heard) l.content.items;
}

abbrev pub decreases-loop-length : goal.decreases-loop-length
decreases-loop-length l = length l.heard - l.used
