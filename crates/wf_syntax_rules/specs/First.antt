-- The first fault of a source's tree as a function.
use Rattle.std.specs.Prelude.{ℕ, zero, suc, List, [], ◌∷◌, Option, Some, None, Result, Ok, Err}
use Rattle.wf_expr.specs.Parser.{parse_target}
use Rattle.wf_expr.specs.declared.fault.ExprFault.{ExprFault}
use Rattle.wf_syntax_rules.specs.Faults.{FirstAt, IsSound, rooted}
use Rattle.wf_syntax_rules.specs.Rules.{Role, Flows, Target, Value, Sub, own, parts}
use Rattle.wf_syntax_rules.specs.declared.fault.SyntaxKind.{SyntaxKind}
use Rattle.wf_syntax_rules.specs.declared.fault.SyntaxKind.TheVariants.{Expression}
use Rattle.wf_expr.specs.Templates.{template_of}
use Rattle.wf_tree.specs.Trees.{Tree, text, depth}
use Rattle.wf_value.specs.declared.path.PathPart.{PathPart}

-- a fault and the path of its node
abbrev pub Found : Type 0
Found = SyntaxKind × List PathPart

abbrev pub fault_in : {A : Type 0} → Result A ExprFault → Option ExprFault
fault_in (Ok x) = None
fault_in (Err f) = Some f

-- the fault of a text with expressions, or of a target
abbrev pub text_fault : Role → Tree → Option ExprFault
text_fault Value (text s) = fault_in (template_of s)
text_fault Target (text s) = fault_in (parse_target s)
text_fault r t = None

-- at a node the table of the rules speaks first, then the text, then the parts
abbrev pub here : Option SyntaxKind → Option ExprFault → Option Found → Option Found
here (Some k) f below = Some (k, [])
here None (Some f) below = Some (Expression f, [])
here None None below = below

abbrev pub first_in : PathPart → Option Found → Option Found → Option Found
first_in p (Some f) rest = Some (f.0, p ∷ f.1)
first_in p None rest = rest

abbrev pub in_parts : (Role → Tree → Option Found) → List Sub → Option Found
in_parts fault [] = None
in_parts fault (s ∷ ss) = first_in s.part (fault s.role s.tree) (in_parts fault ss)

-- The first fault of a tree in its role. A part is less deep than its node, so a bound on the depth that is above the tree's doesn't matter.
unfoldable pub fault_within : ℕ → Role → Tree → Option Found
fault_within zero r t = None
fault_within (suc n) r t = here (own r t) (text_fault r t) (in_parts (fault_within n) (parts r t))

-- the first fault of a source's tree
abbrev pub first_fault : Tree → Option Found
first_fault t = fault_within (suc (depth (rooted t))) Flows (rooted t)

-- a tree has no fault, or this first one
abbrev pub Finds : Role → Tree → Option Found → Type 0
Finds r t None = IsSound r t
Finds r t (Some f) = FirstAt f.1 f.0 r t

-- each tree has no fault, or a first one, and this is it
abbrev pub FirstFaultIsIt : Type 0
FirstFaultIsIt = (t : Tree) → Finds Flows (rooted t) (first_fault t)
