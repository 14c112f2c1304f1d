-- The fault that is found in a tree is its first, and where none is found, it has none.
use Rattle.std.proofs.Common.{◌≡◌, ◌<◌, ℕ, zero, suc, List, [], ◌∷◌, ◌++◌, Option, Some, None, refl, sym, ap, subst, arith}
use Rattle.std.specs.Prelude.{Result, Ok, Err, MatchResult}
use Rattle.wf_ast.specs.Tree as ast
use Rattle.wf_expr.proofs.Ones.{not_both, not_target_and_refused}
use Rattle.wf_expr.proofs.Parsed.{target_parser_is_them}
use Rattle.wf_expr.specs.Parser.{parse_target}
use Rattle.wf_expr.specs.Targets.{IsTarget, IsTargetFault}
use Rattle.wf_expr.specs.declared.fault.ExprFault.{ExprFault}
use Rattle.wf_expr.specs.declared.fault.ExprFault.TheVariants as fault
use Rattle.wf_syntax_rules.proofs.Deep.{AreWithin, parts_within}
use Rattle.wf_syntax_rules.proofs.Own.{own_is}
use Rattle.wf_syntax_rules.proofs.Sound.{node_is_sound}
use Rattle.wf_syntax_rules.specs.Faults.{AreSound, FirstAt, IsTextFault, rooted}
use Rattle.wf_syntax_rules.specs.First.{Found, fault_in, text_fault, here, first_in, in_parts, fault_within, Finds, FirstFaultIsIt}
use Rattle.wf_syntax_rules.specs.Rules.{Role, Flows, Target, Value, Sub, own, parts}
use Rattle.wf_syntax_rules.specs.declared.fault.SyntaxKind.{SyntaxKind}
use Rattle.wf_span.proofs.Unique.{tokens_are_one}
use Rattle.wf_expr.proofs.Made.{template_is_it}
use Rattle.wf_expr.proofs.OneTemplate as templates
use Rattle.wf_expr.specs.Templates.{template_of}
use Rattle.wf_expr.specs.Texts.{IsTemplateOf, IsFaultOf}
use Rattle.wf_tree.specs.Trees.{Tree, text, depth}
use Rattle.wf_value.specs.Pairs.{Text}
use Rattle.wf_value.specs.declared.path.PathPart.{PathPart}

-- ## Texts
-- a text has no fault, or this one
abbrev TextFinds : Role → Tree → Option ExprFault → Type 0
TextFinds r t None = (f : ExprFault) → IsTextFault r t f → ⊥
TextFinds r t (Some f) = IsTextFault r t f

template_finds : (s : Text) (x : Result ast.Template ExprFault) → MatchResult x (IsTemplateOf s) (λ f. IsFaultOf s f × (f ≡ fault.OutOfMemory → ⊥)) → TextFinds Value (text s) (fault_in x)
template_finds s (Ok t) h = λ f k. templates.not_both (not_both tokens_are_one) s t f h k.1 k.0
template_finds s (Err f) h = h

target_finds : (s : Text) (x : Result ast.Target ExprFault) → MatchResult x (IsTarget s) (λ f. IsTargetFault s f × (f ≡ fault.OutOfMemory → ⊥)) → TextFinds Target (text s) (fault_in x)
target_finds s (Ok t) h = λ f k. not_target_and_refused tokens_are_one s t f h k.1 k.0
target_finds s (Err f) h = h

text_finds : (r : Role) (t : Tree) → TextFinds r t (text_fault r t)
text_finds Value (text s) = template_finds s (template_of s) (template_is_it s)
text_finds Target (text s) = target_finds s (parse_target s) (target_parser_is_them s)
text_finds r t = λ f h. h

-- ## Parts
-- parts in a row have no fault, or this is the first of theirs
abbrev FindsAmong : List Sub → Option Found → Type 0
FindsAmong ss None = AreSound ss
FindsAmong ss (Some f) =
    (p : PathPart) × (ps : List PathPart) × (f.1 ≡ p ∷ ps) × (before : List Sub) × (s : Sub) × (after : List Sub) × (ss ≡ before ++ s ∷ after) × AreSound before × (s.part ≡ p)
    × FirstAt ps f.0 s.role s.tree

one_more : (s : Sub) (ss : List Sub) (o rest : Option Found) → Finds s.role s.tree o → FindsAmong ss rest → FindsAmong (s ∷ ss) (first_in s.part o rest)
one_more s ss (Some f) rest h k = (s.part, f.1, refl, [], s, ss, refl, tt, refl, h)
one_more s ss None None h k = (h, k)
one_more s ss None (Some f) h k = (k.0, k.1, k.2, s ∷ k.3, k.4, k.5, ap (λ l. s ∷ l) k.6, (h, k.7), k.8, k.9)

among : (go : Role → Tree → Option Found) (n : ℕ) → ((r : Role) (t : Tree) → depth t < n → Finds r t (go r t)) → (ss : List Sub) → AreWithin n ss → FindsAmong ss (in_parts go ss)
among go n h [] all = tt
among go n h (s ∷ ss) all = one_more s ss (go s.role s.tree) (in_parts go ss) (h s.role s.tree all.0) (among go n h ss all.1)

-- ## Nodes
node : (r : Role) (t : Tree) (o : Option SyntaxKind) (x : Option ExprFault) (rest : Option Found) → own r t ≡ o → TextFinds r t x → FindsAmong (parts r t) rest → Finds r t (here o x rest)
node r t (Some k) x rest e h a = own_is r t k e
node r t None (Some f) rest e h a = h
node r t None None None e h a = node_is_sound r t e h a
node r t None None (Some f) e h a = subst (λ (ps : List PathPart). FirstAt ps f.0 r t) (sym a.2) (e, a.3, a.4, a.5, a.6, a.7, a.8, a.9)

pub found : (n : ℕ) (r : Role) (t : Tree) → depth t < n → Finds r t (fault_within n r t)
unfolding fault_within
found zero r t h = absurd (omega arith)
found (suc n) r t h = node r t (own r t) (text_fault r t) (in_parts (fault_within n) (parts r t)) refl (text_finds r t) (among (fault_within n) n (found n) (parts r t) (parts_within n r t (omega arith)))

pub first_fault_is_it : FirstFaultIsIt
first_fault_is_it t = found (suc (depth (rooted t))) Flows (rooted t) (omega arith)
