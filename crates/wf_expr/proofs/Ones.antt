-- A text is one expression or target at most, and not refused where it is one.
use Rattle.std.proofs.Common.{◌≡◌, false, List, [], ◌∷◌, ◌++◌, refl, sym, ap, ◌∙◌, subst, arith, append_assoc, append-nil}
use Rattle.std.proofs.lemmas.List.{map-append}
use Rattle.wf_ast.specs.Tree.{Exprs, Target, exprs}
use Rattle.wf_expr.proofs.Reading.{one_access, one_derivation as one_tree}
use Rattle.wf_expr.specs.Begins.{BeginsOne, CutOf, IsExpression}
use Rattle.wf_expr.specs.Calls.{faults_in}
use Rattle.wf_expr.specs.Grammar.{or_expr}
use Rattle.wf_expr.specs.Parsing.{IsFaultOf, IsFirstOfSymbols, IsLexical, IsShort, NotBoth, OneDerivation, OneExpression, ToldOf, has_fault, is_none}
use Rattle.wf_expr.specs.Symbols.{Sym, Placed, placed_symbols, syms}
use Rattle.wf_expr.specs.Targets.{IsTargetText, NotTargetAndRefused, OneTarget, target_name, target_places}
use Rattle.wf_expr.specs.declared.fault.ExprFault.{ExprFault}
use Rattle.wf_expr.specs.declared.fault.ExprFault.TheVariants as fault
use Rattle.wf_span.specs.Laws.{TokensAreOne}
use Rattle.wf_span.specs.Tokens.{PlacedToken, TokensFrom}
use Rattle.wf_span.specs.declared.token.LexFault.{LexFault}
use Rattle.wf_span.specs.declared.token.LexFault.TheVariants as lex
use Rattle.wf_value.specs.Pairs.{Text}

pub one_derivation : OneDerivation
one_derivation = one_tree

pub one_expression : TokensAreOne → OneExpression
one_expression t source e f p q =
    let same : syms (placed_symbols p.tokens) ≡ syms (placed_symbols q.tokens) = ap (λ ts. syms (placed_symbols ts)) (t.tokens source p.tokens q.tokens p.lexed q.lexed) in
    let d : p.derivation ≡ q.derivation = one_tree p.derivation q.derivation (p.spelled ∙ same ∙ sym q.spelled) in
    sym p.meant ∙ ap or_expr d ∙ q.meant

target : Text → Exprs → Text → Target
target n p w = record { name = n; places = p; written = w }

same_fields : (t u : Target) → t.name ≡ u.name → t.places ≡ u.places → t.written ≡ u.written → t ≡ u
unfolding target
same_fields t u h k l = ap (λ n. target n t.places t.written) h ∙ ap (λ p. target u.name p t.written) k ∙ ap (target u.name u.places) l

pub one_target : TokensAreOne → OneTarget
one_target o source t u p q =
    let same : syms (placed_symbols p.tokens) ≡ syms (placed_symbols q.tokens) = ap (λ ts. syms (placed_symbols ts)) (o.tokens source p.tokens q.tokens p.lexed q.lexed) in
    let d : p.derivation ≡ q.derivation = one_access p.derivation q.derivation (p.spelled ∙ same ∙ sym q.spelled) in
    same_fields t u
    (p.named ∙ ap target_name d ∙ sym q.named)
    (p.placed ∙ ap (λ a. exprs (target_places a)) d ∙ sym q.placed)
    (p.written ∙ sym q.written)

-- ## Not both
syms_append : (ps qs : List Placed) → syms (ps ++ qs) ≡ syms ps ++ syms qs
syms_append ps qs = map-append (λ (p : Placed). p.sym) ps qs

-- symbols that are one begin one to their end
goes_further : (Is : List Sym → Type 0) (all before : List Placed) (p : Placed) (rest : List Placed) → Is (syms all) → all ≡ before ++ p ∷ rest → BeginsOne Is (syms before ++ p.sym ∷ [])
goes_further Is all before p rest h e =
    (syms rest, subst (λ (l : List Sym). Is l) (ap syms e ∙ syms_append before (p ∷ rest) ∙ sym (append_assoc (syms before) (p.sym ∷ []) (syms rest))) h)

told_not : (Is : List Sym → Type 0) (source : Text) (before : List Placed) (f : ExprFault) → ToldOf Is source before [] f → faults_in false before ≡ [] → Is (syms before) → ⊥
told_not Is source before f (has_fault g more e) k d = let x : g ∷ more ≡ [] = sym e ∙ k in cc
told_not Is source before f (is_none e never) k d = never d

cut_not : (Is : List Sym → Type 0) (source : Text) (all before rest : List Placed) (f : ExprFault) → Is (syms all) → faults_in false all ≡ [] → CutOf Is all before rest → ToldOf Is source before rest f → ⊥
cut_not Is source all before [] f h k c t =
    let e : all ≡ before = c.whole ∙ append-nil before in
    told_not Is source before f t (ap (faults_in false) (sym e) ∙ k) (subst (λ (l : List Placed). Is (syms l)) e h)
cut_not Is source all before (p ∷ rest) f h k c t = c.goes_no_further (goes_further Is all before p rest h c.whole)

-- a text whose symbols are one, and have no fault
record Sound (Is : List Sym → Type 0) (source : Text) : Type 0 where
  short : IsShort source
  tokens : List PlacedToken
  lexed : TokensFrom 0 source tokens
  is : Is (syms (placed_symbols tokens))
  sound : faults_in false (placed_symbols tokens) ≡ []

symbols_not : TokensAreOne → (Is : List Sym → Type 0) (source : Text) (f : ExprFault) → Sound Is source → IsFirstOfSymbols Is source f → ⊥
symbols_not t Is source f p q =
    let same : placed_symbols p.tokens ≡ placed_symbols q.tokens = ap placed_symbols (t.tokens source p.tokens q.tokens p.lexed q.lexed) in
    cut_not Is source (placed_symbols q.tokens) q.before q.rest f (subst (λ (l : List Placed). Is (syms l)) same p.is) (ap (faults_in false) (sym same) ∙ p.sound) q.cut q.told

lexical_not : TokensAreOne → (Is : List Sym → Type 0) (source : Text) (f : LexFault) → Sound Is source → IsLexical source f → ⊥
lexical_not t Is source lex.OutOfMemory p q = q
lexical_not t Is source (lex.BadCharacter at) p q = t.apart source p.tokens q.0 (lex.BadCharacter at) p.lexed q.1
lexical_not t Is source (lex.OpenText at) p q = t.apart source p.tokens q.0 (lex.OpenText at) p.lexed q.1

fault_not : TokensAreOne → (Is : List Sym → Type 0) (source : Text) (f : ExprFault) → Sound Is source → (f ≡ fault.OutOfMemory → ⊥) → IsFaultOf Is source f → ⊥
fault_not t Is source fault.TooLong p n q = omega (arith, p.short, q)
fault_not t Is source (fault.Lex f) p n q = lexical_not t Is source f p q.1
fault_not t Is source (fault.Syntax at) p n q = symbols_not t Is source (fault.Syntax at) p q
fault_not t Is source (fault.Decimal at) p n q = symbols_not t Is source (fault.Decimal at) p q
fault_not t Is source (fault.UnknownFunction at) p n q = symbols_not t Is source (fault.UnknownFunction at) p q
fault_not t Is source (fault.Arity at) p n q = symbols_not t Is source (fault.Arity at) p q
fault_not t Is source fault.OutOfMemory p n q = n refl

pub not_both : TokensAreOne → NotBoth
not_both t source e f p n q =
    fault_not t IsExpression source f (record { short = p.short; tokens = p.tokens; lexed = p.lexed; is = (p.derivation, p.spelled); sound = p.sound }) n q

pub not_target_and_refused : TokensAreOne → NotTargetAndRefused
not_target_and_refused t source g f p n q =
    fault_not t IsTargetText source f (record { short = p.short; tokens = p.tokens; lexed = p.lexed; is = (p.derivation, p.is, p.spelled); sound = p.sound }) n q
