use Rattle.std.proofs.Common.{length}
use Rattle.wf_ast.specs.View.{exprs_view}
use Rattle.wf_expr.specs.Kinds.{syms_of}
use Rattle.wf_expr.specs.Places.{TargetSoFar}
use Rattle.wf_expr.proofs.target.whole.Given as goal

abbrev pub invariant-more : goal.invariant-more
invariant-more l = TargetSoFar (syms_of l.symbols) l.variable (exprs_view l.places) (syms_of l.rest)

abbrev pub decreases-more : goal.decreases-more
decreases-more l = length (syms_of l.rest)
