-- A tree has one first fault, at one place.
use Rattle.std.proofs.Common.{◌≡◌, List, [], ◌∷◌, ◌++◌, Option, Some, None, refl, sym, ap, ◌∙◌, subst}
use Rattle.wf_expr.specs.declared.fault.ExprFault.{ExprFault}
use Rattle.wf_syntax_rules.proofs.Firsts.{one_first}
use Rattle.wf_syntax_rules.proofs.OneText.{one_text_fault}
use Rattle.wf_syntax_rules.proofs.Sound.{first_is_a_fault}
use Rattle.wf_syntax_rules.specs.Faults.{FaultAt, FirstAt, IsOwn, IsSound, IsTextFault, rooted}
use Rattle.wf_syntax_rules.specs.Laws.{OneFault}
use Rattle.wf_syntax_rules.specs.Rules.{Role, Flows, Target, Value, Sub, own, parts}
use Rattle.wf_syntax_rules.specs.declared.fault.SyntaxKind.{SyntaxKind}
use Rattle.wf_syntax_rules.specs.declared.fault.SyntaxKind.TheVariants.{NotAStep, UnknownField, MissingField, WrongKind, Expression}
use Rattle.wf_tree.specs.Trees.{Tree, text}
use Rattle.wf_value.specs.declared.path.PathPart.{PathPart}

-- ## A node alone
-- which of the two speaks, the table or the text
data Speaks (r : Role) (t : Tree) : SyntaxKind → Type 0 where
  by_table : (k : SyntaxKind) → own r t ≡ Some k → Speaks r t k
  by_text : (f : ExprFault) → IsTextFault r t f → Speaks r t (Expression f)

speaks : (r : Role) (t : Tree) (k : SyntaxKind) → IsOwn r t k → Speaks r t k
speaks r t NotAStep h = by_table NotAStep h
speaks r t UnknownField h = by_table UnknownField h
speaks r t MissingField h = by_table MissingField h
speaks r t WrongKind h = by_table WrongKind h
speaks r t (Expression f) h = by_text f h

-- of a text with expressions and of a target the table says nothing, and they have no parts
no_rule : (r : Role) (t : Tree) (f : ExprFault) → IsTextFault r t f → own r t ≡ None
no_rule Value (text s) f h = refl
no_rule Target (text s) f h = refl
no_rule r t f h = absurd h

no_parts : (r : Role) (t : Tree) (f : ExprFault) → IsTextFault r t f → parts r t ≡ []
no_parts Value (text s) f h = refl
no_parts Target (text s) f h = refl
no_parts r t f h = absurd h

same_kind : (k j : SyntaxKind) (o : Option SyntaxKind) → o ≡ Some k → o ≡ Some j → k ≡ j
same_kind k j o h g = cc

some_not : (k : SyntaxKind) (o : Option SyntaxKind) → o ≡ None → o ≡ Some k → ⊥
some_not k o h g = let e : None ≡ Some k = sym h ∙ g in cc

one_speaks : (r : Role) (t : Tree) (k j : SyntaxKind) → Speaks r t k → Speaks r t j → k ≡ j
one_speaks r t k j (by_table x h) (by_table y g) = same_kind x y (own r t) h g
one_speaks r t k j (by_table x h) (by_text f g) = absurd (some_not x (own r t) (no_rule r t f g) h)
one_speaks r t k j (by_text f h) (by_table y g) = absurd (some_not y (own r t) (no_rule r t f h) g)
one_speaks r t k j (by_text f h) (by_text e g) = ap Expression (one_text_fault r t f e h g)

-- ## Below it
cut_of_none : (before : List Sub) (s : Sub) (after ss : List Sub) → ss ≡ [] → ss ≡ before ++ s ∷ after → ⊥
cut_of_none [] s after ss h e = let x : [] ≡ s ∷ after = sym h ∙ e in cc
cut_of_none (b ∷ before) s after ss h e = let x : [] ≡ b ∷ (before ++ s ∷ after) = sym h ∙ e in cc

-- where a node has a fault of its own, the first isn't below
own_is_alone : (r : Role) (t : Tree) (k : SyntaxKind) → Speaks r t k → own r t ≡ None → (before : List Sub) (s : Sub) (after : List Sub) → parts r t ≡ before ++ s ∷ after → ⊥
own_is_alone r t k (by_table x h) none before s after e = some_not x (own r t) none h
own_is_alone r t k (by_text f h) none before s after e = cut_of_none before s after (parts r t) (no_parts r t f h) e

abbrev IsSoundPart : Sub → Type 0
IsSoundPart s = IsSound s.role s.tree

abbrev HasFault : Sub → Type 0
HasFault s = (ps : List PathPart) × (k : SyntaxKind) × FaultAt ps k s.role s.tree

sound_or_faulty : (s : Sub) → IsSoundPart s → HasFault s → ⊥
sound_or_faulty s h g = h g.0 g.1 g.2

one_first_fault : (ps qs : List PathPart) (k j : SyntaxKind) (r : Role) (t : Tree) → FirstAt ps k r t → FirstAt qs j r t → (k ≡ j) × (ps ≡ qs)
one_first_fault [] [] k j r t h g = (one_speaks r t k j (speaks r t k h) (speaks r t j g), refl)
one_first_fault [] (q ∷ qs) k j r t h g = absurd (own_is_alone r t k (speaks r t k h) g.0 g.1 g.2 g.3 g.4)
one_first_fault (p ∷ ps) [] k j r t h g = absurd (own_is_alone r t j (speaks r t j g) h.0 h.1 h.2 h.3 h.4)
one_first_fault (p ∷ ps) (q ∷ qs) k j r t h g =
    let same : h.2 ≡ g.2 =
    one_first IsSoundPart HasFault sound_or_faulty h.1 g.1 h.2 g.2 h.3 g.3 (sym h.4 ∙ g.4) h.5 g.5
    (ps, k, first_is_a_fault ps k h.2.role h.2.tree h.7) (qs, j, first_is_a_fault qs j g.2.role g.2.tree g.7) in
    let below = one_first_fault ps qs k j h.2.role h.2.tree h.7 (subst (λ (s : Sub). FirstAt qs j s.role s.tree) (sym same) g.7) in
    let part : p ≡ q = sym h.6 ∙ ap (λ (s : Sub). s.part) same ∙ g.6 in
    (below.0, ap (λ x. x ∷ ps) part ∙ ap (λ l. q ∷ l) below.1)

pub one_fault : OneFault
one_fault t k j ps qs h g = one_first_fault ps qs k j Flows (rooted t) h g
