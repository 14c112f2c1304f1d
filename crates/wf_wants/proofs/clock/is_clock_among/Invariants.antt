use Rattle.std.proofs.Common.{◌≡◌, drop, map}
use Rattle.wf_ast.specs.Tree.{exprs}
use Rattle.wf_model.specs.Kinds.{exprs_now}
use Rattle.wf_model.specs.Shapes.{decoded}
use Rattle.wf_wants.proofs.clock.is_clock_among.Given as goal

-- what is left tells
abbrev pub invariant-loop-code : goal.invariant-loop-code
invariant-loop-code l = exprs_now (exprs (map decoded l.codes)) ≡ exprs_now (exprs (map decoded (drop l.code-index l.codes)))
