-- How a text of a source is cut: what stands in it as it is, and the expressions between `${` and `}`.
--     pieces     the pieces of a text, in their order
use Rattle.std.specs.Prelude.{ℕ, Bool, false, ◌==◌, ◌&&◌, ◌||◌, List, [], ◌∷◌, if◌then◌else◌}
use Rattle.wf_expr.specs.declared.quoting.Quoting.{Quoting}
use Rattle.wf_expr.specs.declared.quoting.Quoting.TheVariants.{Bare, Quoted, Escaped}
use Rattle.wf_value.specs.Pairs.{Text}

pub data Piece : Type 0 where
  -- what stands as it is
  said : Text → Piece
  -- an expression
  hole : Text → Piece
  -- what stands behind a `${` that isn't closed
  unclosed : Text → Piece

-- ## Quoted texts of an expression
abbrev pub is_quote : ℕ → Bool
is_quote b = b == 34 || b == 39

-- how a place stands to them behind one more byte
abbrev pub behind : Quoting → ℕ → Quoting
behind Bare b = if is_quote b then Quoted b else Bare
behind (Quoted q) b = if b == 92 then Escaped q else (if b == q then Bare else Quoted q)
behind (Escaped q) b = Quoted q

-- a `}` outside them, which ends the expression
abbrev pub closes : Quoting → ℕ → Bool
closes Bare b = b == 125
closes q b = false

-- ## Pieces
-- a byte in front of what is said
abbrev pub say : ℕ → List Piece → List Piece
say b (said s ∷ ps) = said (b ∷ s) ∷ ps
say b ps = said (b ∷ []) ∷ ps

-- a byte in front of an expression
abbrev pub into : ℕ → List Piece → List Piece
into b (hole s ∷ ps) = hole (b ∷ s) ∷ ps
into b (unclosed s ∷ ps) = unclosed (b ∷ s) ∷ ps
into b ps = ps

abbrev mutual
  -- the pieces of a text
  pub pieces : Text → List Piece
  pieces [] = []
  pieces (b ∷ []) = said (b ∷ []) ∷ []
  pieces (b ∷ c ∷ s) =
      let opened = in_hole Bare s in
      let next = pieces (c ∷ s) in
      if b == 36 && c == 123 then opened else say b next

  -- the same from inside an expression
  pub in_hole : Quoting → Text → List Piece
  in_hole q [] = unclosed [] ∷ []
  in_hole q (b ∷ s) =
      let next = pieces s in
      let more = in_hole (behind q b) s in
      if closes q b then hole [] ∷ next else into b more
