-- Nodes without faults, and first faults.
use Rattle.std.proofs.Common.{◌≡◌, List, [], ◌∷◌, ◌++◌, Option, Some, None, sym, ◌∙◌, subst}
use Rattle.wf_expr.specs.declared.fault.ExprFault.{ExprFault}
use Rattle.wf_syntax_rules.specs.Faults.{AreSound, IsOwn, IsSound, IsTextFault, rooted}
use Rattle.wf_syntax_rules.specs.Laws.{FirstIsAFault, NodeIsSound, NotBothBuilt}
use Rattle.wf_syntax_rules.specs.Rules.{Role, Flows, Sub, own}
use Rattle.wf_syntax_rules.specs.declared.fault.SyntaxKind.{SyntaxKind}
use Rattle.wf_syntax_rules.specs.declared.fault.SyntaxKind.TheVariants.{NotAStep, UnknownField, MissingField, WrongKind, Expression}
use Rattle.wf_tree.specs.Trees.{Tree}

some_not : (k : SyntaxKind) (o : Option SyntaxKind) → o ≡ None → o ≡ Some k → ⊥
some_not k o h e = let p : None ≡ Some k = sym h ∙ e in cc

own_not : (r : Role) (t : Tree) (k : SyntaxKind) → own r t ≡ None → ((f : ExprFault) → IsTextFault r t f → ⊥) → IsOwn r t k → ⊥
own_not r t NotAStep e none h = some_not NotAStep (own r t) e h
own_not r t UnknownField e none h = some_not UnknownField (own r t) e h
own_not r t MissingField e none h = some_not MissingField (own r t) e h
own_not r t WrongKind e none h = some_not WrongKind (own r t) e h
own_not r t (Expression f) e none h = none f h

part_sound : (before : List Sub) (s : Sub) (after : List Sub) → AreSound (before ++ s ∷ after) → IsSound s.role s.tree
part_sound [] s after h = h.0
part_sound (b ∷ before) s after h = part_sound before s after h.1

pub node_is_sound : NodeIsSound
node_is_sound r t e none all [] k h = own_not r t k e none h
node_is_sound r t e none all (p ∷ ps) k h = part_sound h.0 h.1 h.2 (subst AreSound h.3 all) ps k h.5

pub first_is_a_fault : FirstIsAFault
first_is_a_fault [] k r t h = h
first_is_a_fault (p ∷ ps) k r t h = (h.1, h.2, h.3, h.4, h.6, first_is_a_fault ps k h.2.role h.2.tree h.7)

pub not_both_built : NotBothBuilt
not_both_built t p k ps b h = b.sound ps k (first_is_a_fault ps k Flows (rooted t) h)
