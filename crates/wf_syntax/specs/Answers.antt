-- What the builders answer.
use Rattle.std.specs.Prelude.{◌≡◌, List, [], ◌∷◌, ◌++◌, reverse}
use Rattle.wf_syntax_rules.specs.Faults.{AreSound, FirstAt, IsFirstFault, IsSound}
use Rattle.wf_syntax_rules.specs.Rules.{Role, Sub}
use Rattle.wf_syntax_rules.specs.declared.fault.SyntaxFault.{SyntaxFault}
use Rattle.wf_syntax_rules.specs.declared.fault.SyntaxFault.TheVariants as fault
use Rattle.wf_syntax_rules.specs.declared.fault.SyntaxKind.{SyntaxKind}
use Rattle.wf_value.specs.declared.stop.Stop.{Stop}
use Rattle.wf_value.specs.declared.stop.Stop.TheVariants as stop
use Rattle.wf_tree.specs.Trees.{Tree}
use Rattle.wf_value.specs.declared.path.PathPart.{PathPart}

-- ## A tree, and parts in a row
-- it has no fault in its role, and is this
abbrev pub IsSoundAnd : Role → Tree → Type 0 → Type 0
IsSoundAnd r t P = IsSound r t × P

abbrev pub AreSoundAnd : List Sub → Type 0 → Type 0
AreSoundAnd ss P = AreSound ss × P

-- its first fault is this; want of memory tells nothing
abbrev pub Fails : Role → Tree → Stop SyntaxKind → Type 0
Fails r t (stop.Refused k ps) = FirstAt (reverse ps.items) k r t
Fails r t stop.OutOfMemory = Unit {0}

-- the same of parts in a row: those before the first that has a fault have none
abbrev pub FirstAmong : List PathPart → SyntaxKind → List Sub → Type 0
FirstAmong [] k ss = ⊥
FirstAmong (p ∷ ps) k ss =
    (before : List Sub) × (s : Sub) × (after : List Sub) × (ss ≡ before ++ s ∷ after) × AreSound before × (s.part ≡ p) × FirstAt ps k s.role s.tree

abbrev pub FailsAmong : List Sub → Stop SyntaxKind → Type 0
FailsAmong ss (stop.Refused k ps) = FirstAmong (reverse ps.items) k ss
FailsAmong ss stop.OutOfMemory = Unit {0}

-- ## The whole
-- the fault of a stop, its path from the first step on
abbrev pub IsToldOf : Stop SyntaxKind → SyntaxFault → Type 0
IsToldOf (stop.Refused k ps) (fault.Refused j p) = (j ≡ k) × (p ≡ reverse ps.items)
IsToldOf s (fault.Refused j p) = ⊥
IsToldOf s fault.OutOfMemory = Unit {0}

abbrev pub IsSyntaxFault : Tree → SyntaxFault → Type 0
IsSyntaxFault t (fault.Refused k p) = IsFirstFault t k p
IsSyntaxFault t fault.OutOfMemory = Unit {0}
