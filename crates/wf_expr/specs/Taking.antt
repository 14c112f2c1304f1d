-- What the functions answer that make symbols of tokens.
use Rattle.std.specs.Prelude.{◌≡◌, ◌<◌, ℕ, Bool, true, false, List, [], ◌∷◌, length, drop, Option, Some, None}
use Rattle.wf_expr.specs.Kinds.{placed_of}
use Rattle.wf_expr.specs.Symbols.{placed_symbols, is_glued}
use Rattle.wf_expr.specs.declared.kind.Symbol.{Symbol}
use Rattle.wf_span.specs.Tokens.{PlacedToken, is_token}

abbrev pub IsToken : PlacedToken → Type 0
IsToken t = is_token t.kind t.text ≡ true

-- the same as `is_glued`, of tokens that may not be there
abbrev pub glued_at : Option PlacedToken → Option PlacedToken → Option PlacedToken → Bool
glued_at (Some a) (Some p) (Some b) = is_glued a p b
glued_at a p b = false

-- the symbol of the token at an index, and the index of the token behind it; none past the end
abbrev pub IsNext : List PlacedToken → ℕ → Option (Symbol × ℕ) → Type 0
IsNext ts i None = placed_symbols (drop i ts) ≡ []
IsNext ts i (Some n) = (placed_symbols (drop i ts) ≡ placed_of n.0 ∷ placed_symbols (drop n.1 ts)) × (i < n.1) × (i < length ts)
