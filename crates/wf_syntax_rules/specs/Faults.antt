-- Where faults stand in a source's tree, and which is the first: in preorder, and at one node the first rule that speaks.
--     IsSound     a tree has no fault
--     FirstAt     its first fault stands at a path
use Rattle.std.specs.Prelude.{◌≡◌, List, [], ◌∷◌, ◌++◌, Some, None, codes}
use Rattle.std.specs.List.{AllByRecursion}
use Rattle.wf_expr.specs.Targets.{IsTargetFault}
use Rattle.wf_expr.specs.declared.fault.ExprFault.{ExprFault}
use Rattle.wf_expr.specs.declared.fault.ExprFault.TheVariants.{OutOfMemory}
use Rattle.wf_syntax_rules.specs.Rules.{Role, Flows, Target, Value, Sub, own, parts}
use Rattle.wf_syntax_rules.specs.declared.fault.SyntaxKind.{SyntaxKind}
use Rattle.wf_syntax_rules.specs.declared.fault.SyntaxKind.TheVariants.{Expression}
use Rattle.wf_expr.specs.Texts.{IsFaultOf}
use Rattle.wf_tree.specs.Trees.{Tree, text, list, map, no_pairs, pair}
use Rattle.wf_value.specs.declared.path.PathPart.{PathPart}

-- ## A node alone
-- the first fault of a text with expressions, or of a target
abbrev pub IsTextFault : Role → Tree → ExprFault → Type 0
IsTextFault Value (text s) f = IsFaultOf s f × (f ≡ OutOfMemory → ⊥)
IsTextFault Target (text s) f = IsTargetFault s f × (f ≡ OutOfMemory → ⊥)
IsTextFault r t f = ⊥

abbrev pub IsOwn : Role → Tree → SyntaxKind → Type 0
IsOwn r t (Expression f) = IsTextFault r t f
IsOwn r t k = own r t ≡ Some k

-- ## Below it
-- a fault stands at this path
abbrev pub FaultAt : List PathPart → SyntaxKind → Role → Tree → Type 0
FaultAt [] k r t = IsOwn r t k
FaultAt (p ∷ ps) k r t = (before : List Sub) × (s : Sub) × (after : List Sub) × (parts r t ≡ before ++ s ∷ after) × (s.part ≡ p) × FaultAt ps k s.role s.tree

abbrev pub IsSound : Role → Tree → Type 0
IsSound r t = (ps : List PathPart) (k : SyntaxKind) → FaultAt ps k r t → ⊥

abbrev pub AreSound : List Sub → Type 0
AreSound ss = AllByRecursion (λ s. IsSound s.role s.tree) ss

-- The first fault stands at this path: at the node itself, or it has none of its own and the parts before have none.
abbrev pub FirstAt : List PathPart → SyntaxKind → Role → Tree → Type 0
FirstAt [] k r t = IsOwn r t k
FirstAt (p ∷ ps) k r t =
    (own r t ≡ None) × (before : List Sub) × (s : Sub) × (after : List Sub) × (parts r t ≡ before ++ s ∷ after) × AreSound before × (s.part ≡ p)
    × FirstAt ps k s.role s.tree

-- ## Sources
-- a list is the steps of `main`
abbrev pub rooted : Tree → Tree
rooted (list ts) = map (pair (codes "main") (map (pair (codes "steps") (list ts) no_pairs)) no_pairs)
rooted t = t

abbrev pub IsFirstFault : Tree → SyntaxKind → List PathPart → Type 0
IsFirstFault t k ps = FirstAt ps k Flows (rooted t)
