-- The expression or the target that a text is as a function, or its first fault.
use Rattle.std.specs.Prelude.{◌≡◌, ℕ, ◌-◌, false, List, [], ◌∷◌, length, take, drop, chars, nat_lt, if◌then◌else◌, Result, Ok, Err, MatchResult}
use Rattle.wf_ast.specs.Tree.{Expr, exprs, Target}
use Rattle.wf_expr.specs.Begins.{IsExpression}
use Rattle.wf_expr.specs.Calls.{faults_in}
use Rattle.wf_expr.specs.Grammar.{Ors, or_one, and_one, not_one, alone, sum_one, term_one, plain, Access, first, decimal, or_expr}
use Rattle.wf_expr.specs.Machine.{State, top, want_or, want_target, Outcome, whole, stuck, run}
use Rattle.wf_expr.specs.Parsing.{IsFaultOf, Parses, place_of}
use Rattle.wf_expr.specs.Symbols.{Sym, Placed, placed_symbols, syms}
use Rattle.wf_expr.specs.Targets.{IsTarget, IsTargetText, target_name, target_places}
use Rattle.wf_expr.specs.declared.fault.ExprFault.{ExprFault}
use Rattle.wf_expr.specs.declared.fault.ExprFault.TheVariants as fault
use Rattle.wf_span.specs.Lexer.{Lexes, lex}
use Rattle.wf_value.specs.Pairs.{Text}

-- the first of some faults, or else this
abbrev pub unless_faulty : {A : Type 0} → List ExprFault → Result A ExprFault → Result A ExprFault
unless_faulty [] r = r
unless_faulty (f ∷ more) r = Err f

-- What symbols are that are cut so many from their start: the first fault of those before the cut, or else Syntax there.
abbrev pub cut_at : {A : Type 0} → Text → List Placed → ℕ → Result A ExprFault
cut_at source ps n = unless_faulty (faults_in false (take n ps)) (Err (fault.Syntax (place_of source (drop n ps))))

-- what symbols are, by what the machine makes of them
abbrev pub judged : {A : Type 0} → Text → (Ors → A) → List Placed → Outcome → Result A ExprFault
judged source meant ps (whole d) = unless_faulty (faults_in false ps) (Ok (meant d))
judged source meant ps (stuck rest) = cut_at source ps (length ps - length rest)

abbrev pub of_tokens : {A : Type 0} → Text → State → (Ors → A) → Lexes → Result A ExprFault
of_tokens source start meant (Err f) = Err (fault.Lex f)
of_tokens source start meant (Ok ts) = judged source meant (placed_symbols ts) (run (syms (placed_symbols ts)) start)

-- what a text is that the machine reads from a place on
abbrev pub read_from : {A : Type 0} → State → (Ors → A) → Text → Result A ExprFault
read_from start meant source = if nat_lt 400 (length (chars source)) then Err fault.TooLong else of_tokens source start meant (lex source)

unfoldable pub parse : Text → Result Expr ExprFault
parse source = read_from (want_or top) or_expr source

-- the part that stands alone in an expression; any other is of no target
abbrev pub part_of : Ors → Access
part_of (or_one (and_one (not_one (alone (sum_one (term_one (plain a))))))) = a
part_of d = first decimal

abbrev pub target_of : Text → Ors → Target
target_of source d = record { name = target_name (part_of d); places = exprs (target_places (part_of d)); written = source }

unfoldable pub parse_target : Text → Result Target ExprFault
parse_target source = read_from want_target (target_of source) source

-- ## Laws
-- what a text is read as it is, and where it is none, its first fault is told
abbrev pub IsReading : {A : Type 0} → (List Sym → Type 0) → Text → (A → Type 0) → Result A ExprFault → Type 0
IsReading Is source Means r = MatchResult r Means (λ f. IsFaultOf Is source f × (f ≡ fault.OutOfMemory → ⊥))

-- each text is an expression or has a first fault, and the parser gives it
abbrev pub ParserIsThem : Type 0
ParserIsThem = (source : Text) → IsReading IsExpression source (Parses source) (parse source)

-- the same of targets
abbrev pub TargetParserIsThem : Type 0
TargetParserIsThem = (source : Text) → IsReading IsTargetText source (IsTarget source) (parse_target source)
