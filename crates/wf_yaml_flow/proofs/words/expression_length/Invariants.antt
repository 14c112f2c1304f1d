use Rattle.std.proofs.Common.{◌≡◌, ◌+◌, drop, false, option_map}
use Rattle.wf_yaml_flow.specs.Flow as flows
use Rattle.wf_yaml_flow.proofs.words.expression_length.Given as goal

abbrev pub invariant-loop-i : goal.invariant-loop-i
invariant-loop-i l = option_map (λ n. l.i + n) (flows.expression_length l.quote l.escaped (drop l.i l.s)) ≡ flows.expression_length 0 false l.s
