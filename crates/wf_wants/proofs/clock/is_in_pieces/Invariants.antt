use Rattle.std.proofs.Common.{◌≡◌, drop, map}
use Rattle.wf_model.specs.Kinds.{parts_now}
use Rattle.wf_model.specs.Shapes.{piece_by}
use Rattle.wf_wants.proofs.clock.is_in_pieces.Given as goal

-- what is left tells
abbrev pub invariant-loop-piece : goal.invariant-loop-piece
invariant-loop-piece l = parts_now (map (piece_by l.codes) l.pieces) ≡ parts_now (map (piece_by l.codes) (drop l.piece-index l.pieces))
