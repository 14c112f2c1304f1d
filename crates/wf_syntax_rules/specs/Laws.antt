-- Laws of the rules.
use Rattle.std.specs.Prelude.{◌≡◌, List, None, IsTrue}
use Rattle.std.specs.List.{list_all}
use Rattle.wf_ast.specs.Accept.{small_backoff}
use Rattle.wf_ast.specs.Nodes.{nodes}
use Rattle.wf_ast.specs.Tree.{Program}
use Rattle.wf_expr.specs.declared.fault.ExprFault.{ExprFault}
use Rattle.wf_syntax_rules.specs.Faults.{AreSound, FaultAt, FirstAt, IsFirstFault, IsSound, IsTextFault}
use Rattle.wf_syntax_rules.specs.Meaning.{Builds}
use Rattle.wf_syntax_rules.specs.Rules.{Role, own, parts}
use Rattle.wf_syntax_rules.specs.declared.fault.SyntaxKind.{SyntaxKind}
use Rattle.wf_tree.specs.Trees.{Tree}
use Rattle.wf_value.specs.declared.path.PathPart.{PathPart}

-- a node without a fault of its own, whose parts have none, has none
abbrev pub NodeIsSound : Type 0
NodeIsSound = (r : Role) (t : Tree) → own r t ≡ None → ((f : ExprFault) → IsTextFault r t f → ⊥) → AreSound (parts r t) → IsSound r t

-- the first fault is a fault
abbrev pub FirstIsAFault : Type 0
FirstIsAFault = (ps : List PathPart) (k : SyntaxKind) (r : Role) (t : Tree) → FirstAt ps k r t → FaultAt ps k r t

-- a source is one program at most
abbrev pub OneProgram : Type 0
OneProgram = (t : Tree) (p q : Program) → Builds t p → Builds t q → p ≡ q

-- a source is not both a program and refused
abbrev pub NotBothBuilt : Type 0
NotBothBuilt = (t : Tree) (p : Program) (k : SyntaxKind) (ps : List PathPart) → Builds t p → IsFirstFault t k ps → ⊥

-- a source is refused in one way at most: its first fault is one, at one place
abbrev pub OneFault : Type 0
OneFault = (t : Tree) (k j : SyntaxKind) (ps qs : List PathPart) → IsFirstFault t k ps → IsFirstFault t j qs → (k ≡ j) × (ps ≡ qs)

-- no number of a backoff in a program is over a year in milliseconds
abbrev pub HasSmallBackoffs : Program → Type 0
HasSmallBackoffs p = IsTrue (list_all small_backoff (nodes p.flows))

-- a source's program has no greater one
abbrev pub SmallBackoffs : Type 0
SmallBackoffs = (t : Tree) (p : Program) → Builds t p → HasSmallBackoffs p
