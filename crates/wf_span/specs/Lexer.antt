-- The tokens of a source as a function: all of them, or its first fault.
use Rattle.std.specs.Prelude.{ℕ, zero, suc, ◌+◌, List, [], ◌∷◌, length, take, drop, Result, Ok, Err}
use Rattle.wf_span.specs.Tokens.{PlacedToken, is_blank}
use Rattle.wf_span.specs.Scans.{count_while, piece_at}
use Rattle.wf_span.specs.declared.token.LexFault.{LexFault}
use Rattle.wf_span.specs.declared.token.LexFault.TheVariants.{BadCharacter, OpenText}
use Rattle.wf_span.specs.declared.piece.Begins.{Begins}
use Rattle.wf_span.specs.declared.piece.Begins.TheVariants as b

abbrev pub Lexes : Type 0
Lexes = Result (List PlacedToken) LexFault

-- a token before the others, unless they have a fault
abbrev pub onto : PlacedToken → Lexes → Lexes
onto t (Ok ts) = Ok (t ∷ ts)
onto t (Err f) = Err f

-- the token or the fault that begins where a source goes on at a place, and what follows that token
abbrev pub by_piece : Begins → ℕ → List ℕ → (ℕ → List ℕ → Lexes) → Lexes
by_piece b.Nothing at source more = Err (BadCharacter at)
by_piece (b.Token k n) at source more = onto (record { kind = k; text = take n source; at = at }) (more (at + n) (drop n source))
by_piece b.Open at source more = Err (OpenText at)
by_piece (b.Bad n) at source more = Err (BadCharacter (at + n))

abbrev pub behind_blanks : ℕ → List ℕ → (ℕ → List ℕ → Lexes) → Lexes
behind_blanks at [] more = Ok []
behind_blanks at (c ∷ r) more = by_piece (piece_at (c ∷ r)) at (c ∷ r) more

-- The tokens of a source that goes on at a place. A token takes a byte at least, so a bound on how many there are that is no less than
-- the source's length doesn't matter.
unfoldable pub lex_within : ℕ → ℕ → List ℕ → Lexes
lex_within zero at source = Ok []
lex_within (suc n) at source = behind_blanks (at + count_while is_blank source) (drop (count_while is_blank source) source) (lex_within n)

abbrev pub lex : List ℕ → Lexes
lex source = lex_within (length source) 0 source
