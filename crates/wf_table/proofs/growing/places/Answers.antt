use Rattle.wf_ast.specs.View.{expr_view}
use Rattle.wf_model.proofs.Compiling.{reads_none, reads_turn, reads_whole}
use Rattle.wf_table.proofs.growing.places.Goals as goal

pub loop-place-init : goal.loop-place-init
loop-place-init c = reads_none _

pub loop-place-preserved : goal.loop-place-preserved
loop-place-preserved c =
    reads_turn expr_view c.args.places.now c.loop-place.place-index c.place-item.result _ _ _ c.loop-place-test.true c.place-item.is c.loop-place.invariant c.in_ok-add.ensures.1

pub returns-clause-codes : goal.returns-clause-codes
returns-clause-codes c = reads_whole expr_view c.args.places.now c.loop-place.place-index _ _ c.loop-place-test.false c.loop-place.invariant
