-- What a read of a connection tells.
use Rattle.std.specs.Prelude.{⊤, ℕ, ◌≤◌}
use Rattle.wf_file_host.specs.declared.connection.Step.{Step}
use Rattle.wf_file_host.specs.declared.connection.Step.TheVariants.{Nothing, Piece, End, Broken}

-- a piece has no more bytes than there was room for
abbrev pub IsPieceWithin : ℕ → Step → Type 0
IsPieceWithin room (Piece count) = count ≤ room
IsPieceWithin room Nothing = ⊤
IsPieceWithin room End = ⊤
IsPieceWithin room Broken = ⊤
