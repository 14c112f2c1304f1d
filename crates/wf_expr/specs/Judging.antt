-- What the functions answer that judge the symbols of a text.
use Rattle.std.specs.Prelude.{◌≡◌, ◌<◌, false, List, [], ◌∷◌, ◌++◌, length, chars, Some}
use Rattle.wf_ast.specs.Tree.{Expr}
use Rattle.wf_expr.specs.Begins.{BeginsOne, CutOf}
use Rattle.wf_expr.specs.Calls.{faults_in}
use Rattle.wf_expr.specs.Grammar.{Ors, or_text, or_expr}
use Rattle.wf_expr.specs.Machine.{head}
use Rattle.wf_expr.specs.Parsing.{IsLexical, IsShort, ToldOf}
use Rattle.wf_expr.specs.Symbols.{Sym, Placed, placed_symbols, syms}
use Rattle.wf_expr.specs.declared.fault.ExprFault.{ExprFault}
use Rattle.wf_expr.specs.declared.fault.ExprFault.TheVariants as fault
use Rattle.wf_expr.specs.declared.stop.Stop.{Stop}
use Rattle.wf_expr.specs.declared.stop.Stop.TheVariants as stop
use Rattle.wf_span.specs.Tokens.{PlacedToken, TokensFrom}
use Rattle.wf_value.specs.Pairs.{Text}

-- the symbols of a text that is short and has tokens
pub record HasSymbols (source : Text) (ps : List Placed) : Type 0 where
  pub short : IsShort source
  pub range : length source < 4294967296
  pub tokens : List PlacedToken
  pub lexed : TokensFrom 0 source tokens
  pub read : ps ≡ placed_symbols tokens

-- why a text has no symbols
abbrev pub HasNoSymbols : Text → ExprFault → Type 0
HasNoSymbols source fault.TooLong = 400 < length (chars source)
HasNoSymbols source (fault.Lex f) = IsShort source × IsLexical source f
HasNoSymbols source fault.OutOfMemory = Unit {0}
HasNoSymbols source f = ⊥

-- symbols are spelled as this expression
abbrev pub Spells : List Sym → Expr → Type 0
Spells ts e = (d : Ors) × (or_text d ≡ ts) × (or_expr d ≡ e)

-- symbols are no expression, and begin one up to the rest and no further; or so of targets, as `Is` tells
pub record StopsAt (Is : List Sym → Type 0) (ts rest : List Sym) : Type 0 where
  pub before : List Sym
  pub split : ts ≡ before ++ rest
  pub begins : BeginsOne Is before
  pub no_further : (t : Sym) → head rest ≡ Some t → BeginsOne Is (before ++ t ∷ []) → ⊥
  pub none : Is ts → ⊥

abbrev pub StopsWith : (List Sym → Type 0) → List Sym → Stop → Type 0
StopsWith Is ts (stop.Syntax n) = (rest : List Sym) × (length rest ≡ n) × StopsAt Is ts rest
StopsWith Is ts stop.OutOfMemory = Unit {0}

-- symbols are spelled as this expression, and have no other fault
abbrev pub SymbolsSpell : List Placed → Expr → Type 0
SymbolsSpell ps e = Spells (syms ps) e × (faults_in false ps ≡ [])

-- a fault of the symbols of a text
pub record IsToldOf (Is : List Sym → Type 0) (source : Text) (ps : List Placed) (f : ExprFault) : Type 0 where
  pub before : List Placed
  pub rest : List Placed
  pub cut : CutOf Is ps before rest
  pub told : ToldOf Is source before rest f

-- the faults that symbols have
abbrev pub OfSymbols : ExprFault → Type 0
OfSymbols (fault.Syntax at) = Unit {0}
OfSymbols (fault.Decimal at) = Unit {0}
OfSymbols (fault.UnknownFunction at) = Unit {0}
OfSymbols (fault.Arity at) = Unit {0}
OfSymbols f = ⊥

abbrev pub SymbolsRefused : (List Sym → Type 0) → Text → List Placed → ExprFault → Type 0
SymbolsRefused Is source ps fault.OutOfMemory = Unit {0}
SymbolsRefused Is source ps f = OfSymbols f × IsToldOf Is source ps f
