use Rattle.std.proofs.Common.{map}
use Rattle.wf_ast.specs.Tree.{Scalar}
use Rattle.wf_value.specs.Plain.{plain}
use Rattle.wf_syntax.proofs.Valued.{scalars_next, values_step}
use Rattle.wf_syntax.proofs.scalars.scalars.Goals as goal

pub each-preserved : goal.each-preserved
each-preserved c =
    values_step c.args.items.now c.each.index c.index-items-index.result (map Scalar c.each.made) (map Scalar c.push.new.self) (Scalar (plain c.in-Some.value)) c.each-test.true c.index-items-index.is c.each.invariant
    c.in-Some.ensures (scalars_next c.each.made c.push.new.self (plain c.in-Some.value) c.in_ok-push-in-Some.ensures)
