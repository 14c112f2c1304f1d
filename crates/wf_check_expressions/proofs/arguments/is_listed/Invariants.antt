use Rattle.std.proofs.Common.{◌≡◌, drop, map}
use Rattle.wf_check_expressions.proofs.arguments.is_listed.Given as goal
use Rattle.wf_value.specs.HttpRequest.{is_among}

-- what is left tells
abbrev pub invariant-loop-known : goal.invariant-loop-known
invariant-loop-known l = is_among l.name (map (λ n. n.now) l.names) ≡ is_among l.name (map (λ n. n.now) (drop l.known-index l.names))
