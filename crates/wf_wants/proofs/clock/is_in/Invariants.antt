use Rattle.std.proofs.Common.{◌≡◌, drop}
use Rattle.wf_ast.specs.Instrs.{instrs}
use Rattle.wf_wants.specs.Clocks.{any_now}
use Rattle.wf_wants.proofs.clock.is_in.Given as goal

-- what is left tells
abbrev pub invariant-loop-i : goal.invariant-loop-i
invariant-loop-i l = any_now (instrs l.i-items) ≡ any_now (instrs (drop l.i-index l.i-items))
