use Rattle.std.proofs.Common.{◌≡◌, ◌++◌, drop, take, false}
use Rattle.wf_yaml_flow.specs.Flow as flows
use Rattle.wf_yaml_flow.proofs.words.plain_part.Given as goal

abbrev pub invariant-loop-i : goal.invariant-loop-i
invariant-loop-i l = take l.i l.s ++ flows.plain_part l.after_blank (drop l.i l.s) ≡ flows.plain_part false l.s
