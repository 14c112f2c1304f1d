use Rattle.std.proofs.Common.{map, take}
use Rattle.wf_ast.specs.View.{parts_view}
use Rattle.wf_expr.specs.Splits.{piece_of}
use Rattle.wf_expr.specs.Texts.{AreParts}
use Rattle.wf_expr.proofs.template.parts.Given as goal

abbrev pub invariant-join : goal.invariant-join
invariant-join l = AreParts (map piece_of (take l.piece-index l.pieces)) (parts_view l.parts)
