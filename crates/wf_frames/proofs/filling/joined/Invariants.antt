use Rattle.std.proofs.Common.{◌≡◌, ◌++◌, drop, map, Ok}
use Rattle.std.specs.String.{string_bytes}
use Rattle.wf_ast.specs.Eval.{joined}
use Rattle.wf_eval.specs.Sight.{seen}
use Rattle.wf_model.specs.Shapes.{piece_by}
use Rattle.wf_value.specs.Errors.{◌>>=◌}
use Rattle.wf_frames.proofs.filling.joined.Given as goal

-- the text so far, and what is left
abbrev pub invariant-loop-piece : goal.invariant-loop-piece
invariant-loop-piece g l =
    joined (seen (g.K.Look.sight l.look) l.now) (map (piece_by l.codes) l.pieces) ≡ (joined (seen (g.K.Look.sight l.look) l.now) (map (piece_by l.codes) (drop l.piece-index l.pieces)) >>= λ u. Ok (string_bytes l.text ++ u))
