-- Which target a text is, the key of an assignment, and why it is none.
--     target = name { "." name | "[" or "]" }
--     IsTarget         a text is this target
--     IsTargetFault    a text is none, and this is its first fault
use Rattle.std.specs.Prelude.{◌≡◌, Bool, true, false, List, [], ◌∷◌, ◌++◌}
use Rattle.wf_ast.specs.Tree.{Expr, exprs, Target}
use Rattle.wf_expr.specs.Calls.{faults_in}
use Rattle.wf_expr.specs.Grammar.{Access, first, at_name, at_index, name, or_expr, access_text}
use Rattle.wf_expr.specs.Parsing.{IsFaultOf, IsShort}
use Rattle.wf_expr.specs.Symbols.{Sym, placed_symbols, syms}
use Rattle.wf_expr.specs.declared.fault.ExprFault.{ExprFault}
use Rattle.wf_expr.specs.declared.fault.ExprFault.TheVariants as fault
use Rattle.wf_span.specs.Tokens.{PlacedToken, TokensFrom}
use Rattle.wf_value.specs.Data.{text}
use Rattle.wf_value.specs.Pairs.{Text}

-- ## Targets in the grammar
-- a name, with names and indexes behind
abbrev pub is_target : Access → Bool
is_target (first (name x)) = true
is_target (first a) = false
is_target (at_name d x) = is_target d
is_target (at_index d i) = is_target d

-- the variable's name
abbrev pub target_name : Access → Text
target_name (first (name x)) = x
target_name (first a) = []
target_name (at_name d x) = target_name d
target_name (at_index d i) = target_name d

-- the places below it, the outermost first
abbrev pub target_places : Access → List Expr
target_places (first a) = []
target_places (at_name d x) = target_places d ++ Expr.Lit (text x) ∷ []
target_places (at_index d i) = target_places d ++ or_expr i ∷ []

abbrev pub IsTargetText : List Sym → Type 0
IsTargetText ts = (d : Access) × (is_target d ≡ true) × (access_text d ≡ ts)

-- ## Texts
-- a text is this target: its symbols are spelled by the grammar, and have no other fault
pub record IsTarget (source : Text) (t : Target) : Type 0 where
  pub short : IsShort source
  pub tokens : List PlacedToken
  pub lexed : TokensFrom 0 source tokens
  pub derivation : Access
  pub is : is_target derivation ≡ true
  pub spelled : access_text derivation ≡ syms (placed_symbols tokens)
  pub sound : faults_in false (placed_symbols tokens) ≡ []
  pub named : t.name ≡ target_name derivation
  pub placed : t.places ≡ exprs (target_places derivation)
  pub written : t.written ≡ source

abbrev pub IsTargetFault : Text → ExprFault → Type 0
IsTargetFault = IsFaultOf IsTargetText

-- ## Laws
-- a text is one target at most
abbrev pub OneTarget : Type 0
OneTarget = (source : Text) (t u : Target) → IsTarget source t → IsTarget source u → t ≡ u

-- a text is not both a target and refused
abbrev pub NotTargetAndRefused : Type 0
NotTargetAndRefused = (source : Text) (t : Target) (f : ExprFault) → IsTarget source t → (f ≡ fault.OutOfMemory → ⊥) → IsTargetFault source f → ⊥
