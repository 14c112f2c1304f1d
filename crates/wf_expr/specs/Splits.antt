-- What the functions answer that cut texts.
use Rattle.std.specs.Prelude.{ℕ, suc, List, [], ◌∷◌, if◌then◌else◌, Option, Some, None, option_map}
use Rattle.wf_expr.specs.Pieces.{Piece, said, hole, unclosed, behind, closes}
use Rattle.wf_expr.specs.declared.piece.Piece.{Piece as PieceInMemory}
use Rattle.wf_expr.specs.declared.piece.Piece.TheVariants as p
use Rattle.wf_expr.specs.declared.quoting.Quoting.{Quoting}
use Rattle.wf_value.specs.Pairs.{Text}

-- how many bytes stand before the `}` that ends an expression
abbrev pub length_in : Quoting → Text → Option ℕ
length_in q [] = None
length_in q (b ∷ s) = let more = length_in (behind q b) s in if closes q b then Some 0 else option_map suc more

-- what is said, if anything is
abbrev pub said_in : Text → List Piece
said_in [] = []
said_in s = said s ∷ []

-- a piece in memory
abbrev pub piece_of : PieceInMemory → Piece
piece_of (p.Said s) = said s.now
piece_of (p.Hole s) = hole s.now
piece_of (p.Unclosed s) = unclosed s.now
