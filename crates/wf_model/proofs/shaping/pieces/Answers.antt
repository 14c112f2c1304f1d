use Rattle.wf_ast.specs.View.{part_view}
use Rattle.wf_model.proofs.Compiling.{turn, whole}
use Rattle.wf_model.proofs.shaping.pieces.Goals as goal
use Rattle.wf_model.specs.Shapes.{piece_by}

pub loop-part-preserved : goal.loop-part-preserved
loop-part-preserved c =
    turn part_view piece_by c.args.parts.now c.loop-part.part-index c.part-item.result c.loop-part.items.items _ _ _ _ _ c.loop-part-test.true c.part-item.is c.in_ok-add.ensures c.loop-part.invariant c.in_ok-piece.ensures

pub returns : goal.returns
returns c = whole part_view c.args.parts.now c.loop-part.part-index _ _ _ c.loop-part-test.false c.loop-part.invariant
