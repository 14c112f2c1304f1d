use Rattle.std.proofs.Common.{map, take}
use Rattle.wf_ast.specs.View.{part_view}
use Rattle.wf_model.proofs.shaping.pieces.Given as goal
use Rattle.wf_model.specs.Compiles.{Compiles, code_list}
use Rattle.wf_model.specs.Shapes.{piece_by}

abbrev pub invariant-loop-part : goal.invariant-loop-part
invariant-loop-part l = Compiles (code_list l.initial.codes) (code_list l.codes) (λ cs. map (piece_by cs) l.items.items) (map part_view (take l.part-index l.parts))
