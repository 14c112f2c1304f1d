-- A text has one first fault, as an expression or a target and as a template.
use Rattle.std.proofs.Common.{◌≡◌, ◌<◌, false, List, [], ◌∷◌, length, chars, refl, sym, ap, ◌∙◌, subst, arith}
use Rattle.wf_ast.specs.Tree.{Part, Said, Hole}
use Rattle.wf_expr.proofs.Ones.{not_both}
use Rattle.wf_expr.specs.Begins.{IsExpression}
use Rattle.wf_expr.specs.Calls.{faults_in}
use Rattle.wf_expr.specs.Parsing.{IsFaultOf, IsFirstOfSymbols, IsLexical, IsShort, ToldOf, has_fault, is_none}
use Rattle.wf_expr.specs.Symbols.{Sym, Placed, placed_symbols}
use Rattle.wf_expr.specs.Targets.{IsTargetText}
use Rattle.wf_expr.specs.declared.fault.ExprFault.{ExprFault}
use Rattle.wf_expr.specs.declared.fault.ExprFault.TheVariants as fault
use Rattle.wf_syntax_rules.proofs.Firsts.{one_cut, one_first}
use Rattle.wf_syntax_rules.specs.Faults.{IsTextFault}
use Rattle.wf_syntax_rules.specs.Rules.{Role, Target, Value}
use Rattle.wf_span.proofs.Unique.{tokens_are_one}
use Rattle.wf_span.specs.Tokens.{PlacedToken, FaultFrom}
use Rattle.wf_span.specs.declared.token.LexFault.{LexFault}
use Rattle.wf_span.specs.declared.token.LexFault.TheVariants as lex
use Rattle.wf_expr.specs.Pieces.{Piece, said, hole, unclosed, pieces}
use Rattle.wf_expr.specs.Texts as texts
use Rattle.wf_expr.specs.Texts.{IsFaultAt, IsFaultIn, IsFirstIn, IsPart, IsSound}
use Rattle.wf_tree.specs.Trees.{Tree, text}
use Rattle.wf_value.specs.Pairs.{Text}

-- ## Expressions and targets
-- what a first fault is one of
data FaultOf (Is : List Sym → Type 0) (source : Text) : ExprFault → Type 0 where
  of_length : 400 < length (chars source) → FaultOf Is source fault.TooLong
  of_tokens : (f : LexFault) → IsShort source → (ts : List PlacedToken) → FaultFrom 0 source ts f → FaultOf Is source (fault.Lex f)
  of_symbols : (f : ExprFault) → IsFirstOfSymbols Is source f → FaultOf Is source f

tokens_fault : (source : Text) (f : LexFault) → IsLexical source f → (ts : List PlacedToken) × FaultFrom 0 source ts f
tokens_fault source lex.OutOfMemory h = absurd h
tokens_fault source (lex.BadCharacter at) h = h
tokens_fault source (lex.OpenText at) h = h

fault_of : (Is : List Sym → Type 0) (source : Text) (f : ExprFault) → (f ≡ fault.OutOfMemory → ⊥) → IsFaultOf Is source f → FaultOf Is source f
fault_of Is source fault.TooLong n h = of_length h
fault_of Is source (fault.Lex f) n h = let w = tokens_fault source f h.1 in of_tokens f h.0 w.0 w.1
fault_of Is source (fault.Syntax at) n h = of_symbols (fault.Syntax at) h
fault_of Is source (fault.Decimal at) n h = of_symbols (fault.Decimal at) h
fault_of Is source (fault.UnknownFunction at) n h = of_symbols (fault.UnknownFunction at) h
fault_of Is source (fault.Arity at) n h = of_symbols (fault.Arity at) h
fault_of Is source fault.OutOfMemory n h = absurd (n refl)

same_first : (f g : ExprFault) (more others fs : List ExprFault) → fs ≡ f ∷ more → fs ≡ g ∷ others → f ≡ g
same_first f g more others fs h k = cc

no_first : (f : ExprFault) (more fs : List ExprFault) → fs ≡ f ∷ more → fs ≡ [] → ⊥
no_first f more fs h k = let e : f ∷ more ≡ [] = sym h ∙ k in cc

one_told : (Is : List Sym → Type 0) (source : Text) (before rest : List Placed) (f g : ExprFault) → ToldOf Is source before rest f → ToldOf Is source before rest g → f ≡ g
one_told Is source before rest f g (has_fault x more h) (has_fault y others k) = same_first x y more others (faults_in false before) h k
one_told Is source before rest f g (has_fault x more h) (is_none k never) = absurd (no_first x more (faults_in false before) h k)
one_told Is source before rest f g (is_none h none) (has_fault y others k) = absurd (no_first y others (faults_in false before) k h)
one_told Is source before rest f g (is_none h none) (is_none k never) = refl

one_of_symbols : (Is : List Sym → Type 0) (source : Text) (f g : ExprFault) → IsFirstOfSymbols Is source f → IsFirstOfSymbols Is source g → f ≡ g
one_of_symbols Is source f g p q =
    let same : placed_symbols p.tokens ≡ placed_symbols q.tokens = ap placed_symbols (tokens_are_one.tokens source p.tokens q.tokens p.lexed q.lexed) in
    let cut : (p.before ≡ q.before) × (p.rest ≡ q.rest) =
    one_cut Is p.before p.rest q.before q.rest (sym p.cut.whole ∙ same ∙ q.cut.whole) p.cut.begins q.cut.begins p.cut.goes_no_further q.cut.goes_no_further in
    one_told Is source p.before p.rest f g p.told
    (subst (λ (l : List Placed). ToldOf Is source l p.rest g) (sym cut.0) (subst (λ (l : List Placed). ToldOf Is source q.before l g) (sym cut.1) q.told))

one_of : (Is : List Sym → Type 0) (source : Text) (f g : ExprFault) → FaultOf Is source f → FaultOf Is source g → f ≡ g
one_of Is source f g (of_length h) (of_length k) = refl
one_of Is source f g (of_length h) (of_tokens y short us k) = absurd (omega (arith, h, short))
one_of Is source f g (of_length h) (of_symbols y q) = let short = q.short in absurd (omega (arith, h, short))
one_of Is source f g (of_tokens x short ts h) (of_length k) = absurd (omega (arith, k, short))
one_of Is source f g (of_tokens x short ts h) (of_tokens y brief us k) = ap fault.Lex (tokens_are_one.faults source ts us x y h k)
one_of Is source f g (of_tokens x short ts h) (of_symbols y q) = absurd (tokens_are_one.apart source q.tokens ts x q.lexed h)
one_of Is source f g (of_symbols x p) (of_length k) = let short = p.short in absurd (omega (arith, k, short))
one_of Is source f g (of_symbols x p) (of_tokens y short us k) = absurd (tokens_are_one.apart source p.tokens us y p.lexed k)
one_of Is source f g (of_symbols x p) (of_symbols y q) = one_of_symbols Is source x y p q

-- a text has one first fault as an expression, or as a target, as `Is` tells
one_expr_fault : (Is : List Sym → Type 0) (source : Text) (f g : ExprFault) → (f ≡ fault.OutOfMemory → ⊥) → (g ≡ fault.OutOfMemory → ⊥) → IsFaultOf Is source f → IsFaultOf Is source g → f ≡ g
one_expr_fault Is source f g n m h k = one_of Is source f g (fault_of Is source f n h) (fault_of Is source g m k)

-- ## Templates
abbrev IsFaulty : Piece → Type 0
IsFaulty p = (f : ExprFault) × (f ≡ fault.OutOfMemory → ⊥) × IsFaultAt p f

part_not : (p : Piece) (x : Part) (f : ExprFault) → IsPart p x → (f ≡ fault.OutOfMemory → ⊥) → IsFaultAt p f → ⊥
part_not (said s) x f h n k = k
part_not (hole s) (Said x) f h n k = h
part_not (hole s) (Hole e) f h n k = not_both tokens_are_one s e f h n k
part_not (unclosed s) x f h n k = h

sound_or_faulty : (p : Piece) → IsSound p → IsFaulty p → ⊥
sound_or_faulty p h k = part_not p h.0 k.0 h.1 k.1 k.2

one_at_piece : (p : Piece) (f g : ExprFault) → (f ≡ fault.OutOfMemory → ⊥) → (g ≡ fault.OutOfMemory → ⊥) → IsFaultAt p f → IsFaultAt p g → f ≡ g
one_at_piece (said s) f g n m h k = absurd h
one_at_piece (hole s) f g n m h k = one_expr_fault IsExpression s f g n m h k
one_at_piece (unclosed s) f g n m h k = h ∙ sym k

first_in : (ps : List Piece) (f : ExprFault) → (f ≡ fault.OutOfMemory → ⊥) → IsFaultIn ps f → IsFirstIn ps f
first_in ps fault.OutOfMemory n h = absurd (n refl)
first_in ps fault.TooLong n h = h
first_in ps (fault.Lex f) n h = h
first_in ps (fault.Syntax at) n h = h
first_in ps (fault.Decimal at) n h = h
first_in ps (fault.UnknownFunction at) n h = h
first_in ps (fault.Arity at) n h = h

one_in : (ps : List Piece) (f g : ExprFault) → (f ≡ fault.OutOfMemory → ⊥) → (g ≡ fault.OutOfMemory → ⊥) → IsFirstIn ps f → IsFirstIn ps g → f ≡ g
one_in ps f g n m p q =
    let same : p.at ≡ q.at =
    one_first IsSound IsFaulty sound_or_faulty p.before q.before p.at q.at p.after q.after (sym p.split ∙ q.split) p.sound q.sound (f, n, p.faulty) (g, m, q.faulty) in
    one_at_piece p.at f g n m p.faulty (subst (λ (a : Piece). IsFaultAt a g) (sym same) q.faulty)

one_template_fault : (s : Text) (f g : ExprFault) → (f ≡ fault.OutOfMemory → ⊥) → (g ≡ fault.OutOfMemory → ⊥) → texts.IsFaultOf s f → texts.IsFaultOf s g → f ≡ g
one_template_fault s f g n m h k = one_in (pieces s) f g n m (first_in (pieces s) f n h) (first_in (pieces s) g m k)

-- ## Both
pub one_text_fault : (r : Role) (t : Tree) (f g : ExprFault) → IsTextFault r t f → IsTextFault r t g → f ≡ g
one_text_fault Value (text s) f g h k = one_template_fault s f g h.1 k.1 h.0 k.0
one_text_fault Target (text s) f g h k = one_expr_fault IsTargetText s f g h.1 k.1 h.0 k.0
one_text_fault r t f g h k = absurd h
