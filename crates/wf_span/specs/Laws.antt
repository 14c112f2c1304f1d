-- Laws of tokens.
use Rattle.std.specs.Prelude.{◌≡◌, ℕ, List, Ok, Err, MatchResult}
use Rattle.wf_span.specs.declared.token.LexFault.{LexFault}
use Rattle.wf_span.specs.Lexer.{Lexes, lex}
use Rattle.wf_span.specs.Tokens.{PlacedToken, TokensFrom, FaultFrom}

-- a source has one list of tokens, or one first fault, and not both
pub record TokensAreOne : Type 0 where
  pub tokens : (source : List ℕ) (ts us : List PlacedToken) → TokensFrom 0 source ts → TokensFrom 0 source us → ts ≡ us
  pub faults : (source : List ℕ) (ts us : List PlacedToken) (f g : LexFault) → FaultFrom 0 source ts f → FaultFrom 0 source us g → f ≡ g
  pub apart : (source : List ℕ) (ts us : List PlacedToken) (f : LexFault) → TokensFrom 0 source ts → FaultFrom 0 source us f → ⊥

-- these are the tokens of a source that goes on at this place, or this is its first fault, behind some tokens
abbrev pub LexesAs : ℕ → List ℕ → Lexes → Type 0
LexesAs at source r = MatchResult r (λ ts. TokensFrom at source ts) (λ f. (ts : List PlacedToken) × FaultFrom at source ts f)

-- Each source has tokens or a first fault, and the lexer gives them.
pub record LexerIsThem : Type 0 where
  pub given : (source : List ℕ) → LexesAs 0 source (lex source)
  pub tokens : (source : List ℕ) (ts : List PlacedToken) → TokensFrom 0 source ts → lex source ≡ Ok ts
  pub fault : (source : List ℕ) (ts : List PlacedToken) (f : LexFault) → FaultFrom 0 source ts f → lex source ≡ Err f
