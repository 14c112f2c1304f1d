-- Which expression a text is, and why it is none.
--     Parses      a text is this expression
--     IsFault     a text is none, and this is its first fault
use Rattle.std.specs.Prelude.{◌≡◌, ◌<◌, ◌≤◌, ℕ, false, List, [], ◌∷◌, length, chars}
use Rattle.wf_ast.specs.Tree.{Expr}
use Rattle.wf_expr.specs.Begins.{CutOf, IsExpression}
use Rattle.wf_expr.specs.Calls.{faults_in}
use Rattle.wf_expr.specs.Grammar.{Ors, or_text, or_expr}
use Rattle.wf_expr.specs.Symbols.{Sym, Placed, placed_symbols, syms}
use Rattle.wf_expr.specs.declared.fault.ExprFault.{ExprFault}
use Rattle.wf_expr.specs.declared.fault.ExprFault.TheVariants as fault
use Rattle.wf_span.specs.Tokens.{PlacedToken, TokensFrom, IsFirstFault}
use Rattle.wf_span.specs.declared.token.LexFault.{LexFault}
use Rattle.wf_span.specs.declared.token.LexFault.TheVariants as lex
use Rattle.wf_value.specs.Pairs.{Text}

-- at most 400 characters
abbrev pub IsShort : Text → Type 0
IsShort source = length (chars source) ≤ 400

-- a text is this expression: its symbols are spelled by the grammar, and have no other fault
pub record Parses (source : Text) (e : Expr) : Type 0 where
  pub short : IsShort source
  pub tokens : List PlacedToken
  pub lexed : TokensFrom 0 source tokens
  pub derivation : Ors
  pub spelled : or_text derivation ≡ syms (placed_symbols tokens)
  pub sound : faults_in false (placed_symbols tokens) ≡ []
  pub meant : or_expr derivation ≡ e

-- the place of the first symbol that is left, or the text's end
abbrev pub place_of : Text → List Placed → ℕ
place_of source [] = length source
place_of source (p ∷ ps) = p.at

-- ## Faults, of expressions and of targets: `Is` tells which symbols are one
-- where no symbol is left, those before are none either
abbrev pub IsNone : (List Sym → Type 0) → List Placed → List Placed → Type 0
IsNone Is before [] = Is (syms before) → ⊥
IsNone Is before (p ∷ rest) = Unit {0}

-- The fault that is told of the symbols up to which a text begins one, and of the rest: the first that these have, or else Syntax where
-- they stop.
pub data ToldOf (Is : List Sym → Type 0) (source : Text) (before rest : List Placed) : ExprFault → Type 0 where
  has_fault : (f : ExprFault) (more : List ExprFault) → faults_in false before ≡ f ∷ more → ToldOf Is source before rest f
  is_none : faults_in false before ≡ [] → IsNone Is before rest → ToldOf Is source before rest (fault.Syntax (place_of source rest))

pub record IsFirstOfSymbols (Is : List Sym → Type 0) (source : Text) (f : ExprFault) : Type 0 where
  pub short : IsShort source
  pub tokens : List PlacedToken
  pub lexed : TokensFrom 0 source tokens
  pub before : List Placed
  pub rest : List Placed
  pub cut : CutOf Is (placed_symbols tokens) before rest
  pub told : ToldOf Is source before rest f

-- the first fault of a text's tokens; want of memory is told as itself
abbrev pub IsLexical : Text → LexFault → Type 0
IsLexical source lex.OutOfMemory = ⊥
IsLexical source (lex.BadCharacter at) = IsFirstFault source (lex.BadCharacter at)
IsLexical source (lex.OpenText at) = IsFirstFault source (lex.OpenText at)

-- TooLong speaks first, then the tokens' fault, then that of the symbols.
abbrev pub IsFaultOf : (List Sym → Type 0) → Text → ExprFault → Type 0
IsFaultOf Is source fault.TooLong = 400 < length (chars source)
IsFaultOf Is source (fault.Lex f) = IsShort source × IsLexical source f
IsFaultOf Is source (fault.Syntax at) = IsFirstOfSymbols Is source (fault.Syntax at)
IsFaultOf Is source (fault.Decimal at) = IsFirstOfSymbols Is source (fault.Decimal at)
IsFaultOf Is source (fault.UnknownFunction at) = IsFirstOfSymbols Is source (fault.UnknownFunction at)
IsFaultOf Is source (fault.Arity at) = IsFirstOfSymbols Is source (fault.Arity at)
IsFaultOf Is source fault.OutOfMemory = Unit {0}

abbrev pub IsFault : Text → ExprFault → Type 0
IsFault = IsFaultOf IsExpression

-- ## Laws
-- a text is one expression at most
abbrev pub OneExpression : Type 0
OneExpression = (source : Text) (e f : Expr) → Parses source e → Parses source f → e ≡ f

-- the symbols of an expression are those of no other
abbrev pub OneDerivation : Type 0
OneDerivation = (d e : Ors) → or_text d ≡ or_text e → d ≡ e

-- a text is not both an expression and refused
abbrev pub NotBoth : Type 0
NotBoth = (source : Text) (e : Expr) (f : ExprFault) → Parses source e → (f ≡ fault.OutOfMemory → ⊥) → IsFault source f → ⊥
