use Rattle.std.proofs.Common.{◌≡◌, [], drop}
use Rattle.wf_ast.specs.Machine.{exec}
use Rattle.wf_ast.specs.Instrs.{instrs}
use Rattle.wf_eval.specs.Sight.{seen}
use Rattle.wf_eval.specs.Steps.{tops}
use Rattle.wf_eval.proofs.machine.eval_on_stack.Given as goal

-- what is left does what the whole does
abbrev pub invariant-loop-i : goal.invariant-loop-i
invariant-loop-i g l =
    exec (seen (g.K.Look.sight l.look) l.now) (instrs l.i-items) 0 [] ≡ exec (seen (g.K.Look.sight l.look) l.now) (instrs (drop l.i-index l.i-items)) l.skip (tops l.stack.items)
