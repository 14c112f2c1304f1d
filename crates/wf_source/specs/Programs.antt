-- Which program the bytes of a source are, and which refusal of them speaks first.
--     IsSourceOf       the bytes are this program, and the checker accepts it
--     IsRefusalOf      they are refused, and this refusal speaks first
use Rattle.std.specs.Prelude.{◌≡◌, ℕ, List, Some, Ok, Err, IsTrue}
use Rattle.wf_ast.specs.Tree.{Program}
use Rattle.wf_check.specs.Said.{Said, first_said, is_accepted}
use Rattle.wf_diagnostics.specs.declared.kind.CheckKind.{CheckKind}
use Rattle.wf_diagnostics.specs.declared.kind.CheckKind.TheVariants as check
use Rattle.wf_expr.specs.declared.fault.ExprFault.{ExprFault}
use Rattle.wf_expr.specs.declared.fault.ExprFault.TheVariants as expr
use Rattle.wf_syntax_rules.specs.Faults.{IsFirstFault}
use Rattle.wf_syntax_rules.specs.Meaning.{Builds}
use Rattle.wf_syntax_rules.specs.declared.fault.SyntaxKind.{SyntaxKind}
use Rattle.wf_syntax_rules.specs.declared.fault.SyntaxKind.TheVariants as syntax
use Rattle.wf_source.specs.Sources.{read_tree}
use Rattle.wf_span.specs.declared.token.LexFault.TheVariants as lex
use Rattle.wf_status.specs.declared.Place.{Place}
use Rattle.wf_status.specs.declared.Place.TheVariants as place
use Rattle.wf_status.specs.declared.Refusal.{Refusal}
use Rattle.wf_status.specs.declared.RefusalKind.{RefusalKind}
use Rattle.wf_status.specs.declared.RefusalKind.TheVariants as kind
use Rattle.wf_tree.specs.Trees.{Tree}
use Rattle.wf_value.specs.declared.path.PathPart.{PathPart}

-- ## The refusal of a tree
-- want of memory is no fault of an expression
abbrev pub expression_kind : ExprFault → RefusalKind
expression_kind expr.TooLong = kind.TooLong
expression_kind (expr.Lex (lex.BadCharacter at)) = kind.BadCharacter
expression_kind (expr.Lex (lex.OpenText at)) = kind.OpenText
expression_kind (expr.Lex lex.OutOfMemory) = kind.Syntax
expression_kind (expr.Syntax at) = kind.Syntax
expression_kind (expr.Decimal at) = kind.Decimal
expression_kind (expr.UnknownFunction at) = kind.UnknownFunction
expression_kind (expr.Arity at) = kind.Arity
expression_kind expr.OutOfMemory = kind.Syntax

-- the path, and the place in the expression where the fault has one
abbrev pub expression_place : ExprFault → List PathPart → Place
expression_place expr.TooLong path = place.Path path
expression_place (expr.Lex (lex.BadCharacter at)) path = place.Within path at
expression_place (expr.Lex (lex.OpenText at)) path = place.Within path at
expression_place (expr.Lex lex.OutOfMemory) path = place.Path path
expression_place (expr.Syntax at) path = place.Within path at
expression_place (expr.Decimal at) path = place.Within path at
expression_place (expr.UnknownFunction at) path = place.Within path at
expression_place (expr.Arity at) path = place.Within path at
expression_place expr.OutOfMemory path = place.Path path

abbrev pub refusal_of : SyntaxKind → List PathPart → Refusal
refusal_of syntax.NotAStep path = record { kind = kind.NotAStep; place = place.Path path }
refusal_of syntax.UnknownField path = record { kind = kind.UnknownField; place = place.Path path }
refusal_of syntax.MissingField path = record { kind = kind.MissingField; place = place.Path path }
refusal_of syntax.WrongKind path = record { kind = kind.WrongKind; place = place.Path path }
refusal_of (syntax.Expression f) path = record { kind = expression_kind f; place = expression_place f path }

-- ## The refusal of a program
abbrev pub check_kind : CheckKind → RefusalKind
check_kind check.EmptySteps = kind.EmptySteps
check_kind check.DoubleStep = kind.DoubleStep
check_kind check.UnknownStep = kind.UnknownStep
check_kind check.JumpOutOfScope = kind.JumpOutOfScope
check_kind check.BreakOutsideLoop = kind.BreakOutsideLoop
check_kind check.ReturnInBranch = kind.ReturnInBranch
check_kind check.UndeclaredWrite = kind.UndeclaredWrite
check_kind check.UnknownShared = kind.UnknownShared
check_kind check.UnknownName = kind.UnknownName
check_kind check.UnknownCall = kind.UnknownCall
check_kind check.BadArgument = kind.BadArgument
check_kind check.TooMany = kind.TooMany
check_kind check.NotYet = kind.NotYet

-- what the checker says, at the path of its node
abbrev pub said_refusal : Said → Refusal
said_refusal s = record { kind = check_kind s.kind; place = place.Path s.place }

-- ## Sources
-- the bytes are this program, and the checker accepts it
pub record IsSourceOf (bytes : List ℕ) (p : Program) : Type 0 where
  pub tree : Tree
  pub read : read_tree bytes ≡ Ok tree
  pub builds : Builds tree p
  pub accepted : IsTrue (is_accepted p)

-- They are refused as a tree, or their tree for its first fault, or else their program for what the checker says first.
pub data IsRefusalOf (bytes : List ℕ) : Refusal → Type 0 where
  no_tree : (r : Refusal) → read_tree bytes ≡ Err r → IsRefusalOf bytes r
  no_program : (tree : Tree) (k : SyntaxKind) (path : List PathPart) → read_tree bytes ≡ Ok tree → IsFirstFault tree k path → IsRefusalOf bytes (refusal_of k path)
  no_check : (tree : Tree) (p : Program) (s : Said) → read_tree bytes ≡ Ok tree → Builds tree p → first_said p ≡ Some s → IsRefusalOf bytes (said_refusal s)
