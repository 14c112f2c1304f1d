-- The parser gives the expression or the target that a text is, or its first fault.
use Rattle.std.proofs.Common.{◌≡◌, ◌-◌, ◌+◌, ℕ, suc, if◌then◌else◌, Bool, true, false, List, [], ◌∷◌, ◌++◌, length, take, drop, chars, nat_lt, refl, sym, ap, ◌∙◌, subst, arith}
use Rattle.std.specs.Prelude.{Ok, Err}
use Rattle.std.proofs.lemmas.Bool.{ltb-true, ltb-false}
use Rattle.std.proofs.lemmas.List.{take-append-drop, length-append}
use Rattle.std.specs.List.{AllByRecursion}
use Rattle.std.proofs.lemmas.Option.{same_Some}
use Rattle.wf_ast.specs.Tree.{exprs}
use Rattle.wf_expr.proofs.Judged.{end_cut, further, no_more}
use Rattle.wf_expr.proofs.Scans.{of_symbols}
use Rattle.wf_expr.proofs.Stops.{stuck_place, target_place, target_text, whole_text}
use Rattle.wf_expr.proofs.TargetEnds.{target_ends}
use Rattle.wf_expr.specs.Begins.{CutOf, BeginsOne, IsExpression}
use Rattle.wf_expr.specs.Calls.{faults_in}
use Rattle.wf_expr.specs.Grammar.{Ors, or_expr}
use Rattle.wf_expr.specs.Judging.{OfSymbols, StopsAt}
use Rattle.wf_expr.specs.Machine.{State, top, want_or, want_target, head, Outcome, whole, stuck, run}
use Rattle.wf_expr.specs.Parser.{unless_faulty, judged, of_tokens, parse, part_of, target_of, parse_target, IsReading, ParserIsThem, TargetParserIsThem}
use Rattle.wf_expr.specs.Parsing.{IsFaultOf, IsFirstOfSymbols, IsLexical, IsNone, IsShort, Parses, ToldOf, has_fault, is_none, place_of}
use Rattle.wf_expr.specs.Symbols.{Sym, Placed, placed_symbols, syms}
use Rattle.wf_expr.specs.Targets.{IsTarget, IsTargetText, target_name, target_places}
use Rattle.wf_expr.specs.declared.fault.ExprFault.{ExprFault}
use Rattle.wf_expr.specs.declared.fault.ExprFault.TheVariants as fault
use Rattle.wf_span.proofs.Lexing.{lexer_is_them}
use Rattle.wf_span.specs.Laws.{LexesAs}
use Rattle.wf_span.specs.Lexer.{Lexes, lex}
use Rattle.wf_span.specs.Tokens.{PlacedToken, TokensFrom, FaultFrom, FaultAt}
use Rattle.wf_span.specs.declared.token.LexFault.{LexFault}
use Rattle.wf_span.specs.declared.token.LexFault.TheVariants as lexical
use Rattle.wf_value.specs.Pairs.{Text}

-- ## The faults of tokens
no_memory : (at : ℕ) (source : List ℕ) → FaultAt at source lexical.OutOfMemory → ⊥
no_memory at source h = elim h [ ]

no_memory_from : (at : ℕ) (source : List ℕ) (ts : List PlacedToken) → FaultFrom at source ts lexical.OutOfMemory → ⊥
no_memory_from at source [] h = no_memory (at + length h.0) h.1 h.4
no_memory_from at source (t ∷ ts) h = no_memory_from (t.at + length t.text) h.0 ts h.2

is_lexical : (source : Text) (ts : List PlacedToken) (f : LexFault) → FaultFrom 0 source ts f → IsLexical source f
is_lexical source ts lexical.OutOfMemory h = no_memory_from 0 source ts h
is_lexical source ts (lexical.BadCharacter at) h = (ts, h)
is_lexical source ts (lexical.OpenText at) h = (ts, h)

-- ## The faults of symbols
abbrev IsTold : (List Sym → Type 0) → Text → ExprFault → Type 0
IsTold Is source f = IsFaultOf Is source f × (f ≡ fault.OutOfMemory → ⊥)

told : (Is : List Sym → Type 0) (source : Text) (f : ExprFault) → OfSymbols f → IsFirstOfSymbols Is source f → IsTold Is source f
told Is source (fault.Syntax at) o h = (h, λ e. let p : ⊥ = cc in p)
told Is source (fault.Decimal at) o h = (h, λ e. let p : ⊥ = cc in p)
told Is source (fault.UnknownFunction at) o h = (h, λ e. let p : ⊥ = cc in p)
told Is source (fault.Arity at) o h = (h, λ e. let p : ⊥ = cc in p)
told Is source fault.TooLong o h = absurd o
told Is source (fault.Lex f) o h = absurd o
told Is source fault.OutOfMemory o h = absurd o

of_first : (ps : List Placed) (f : ExprFault) (more : List ExprFault) → faults_in false ps ≡ f ∷ more → OfSymbols f
of_first ps f more e = let all = subst (λ (l : List ExprFault). AllByRecursion OfSymbols l) e (of_symbols false ps) in all.0

by_whole : {A : Type 0} (Is : List Sym → Type 0) (source : Text) (Means : A → Type 0) (ps : List Placed) (x : A) (fs : List ExprFault) → faults_in false ps ≡ fs → (faults_in false ps ≡ [] → Means x) → ((f : ExprFault) → OfSymbols f → ToldOf Is source ps [] f → IsTold Is source f) → IsReading Is source Means (unless_faulty fs (Ok x))
by_whole Is source Means ps x [] e means go = means e
by_whole Is source Means ps x (f ∷ more) e means go = go f (of_first ps f more e) (has_fault f more e)

by_cut : {A : Type 0} (Is : List Sym → Type 0) (source : Text) (Means : A → Type 0) (before rest : List Placed) (fs : List ExprFault) → faults_in false before ≡ fs → IsNone Is before rest → ((f : ExprFault) → OfSymbols f → ToldOf Is source before rest f → IsTold Is source f) → IsReading Is source Means (unless_faulty fs (Err (fault.Syntax (place_of source rest))))
by_cut Is source Means before rest [] e none go = go (fault.Syntax (place_of source rest)) tt (is_none e none)
by_cut Is source Means before rest (f ∷ more) e none go = go f (of_first before f more e) (has_fault f more e)

-- ## The cut
split_before : (ps : List Placed) (b r : List Sym) → syms ps ≡ b ++ r → syms (take (length b) ps) ≡ b
split_before ps [] r h = refl
split_before [] (t ∷ b) r h = let p : ⊥ = cc in absurd p
split_before (p ∷ ps) (t ∷ b) r h = ap (λ u. u ∷ syms (take (length b) ps)) (same_Some _ t (ap head h)) ∙ ap (λ l. t ∷ l) (split_before ps b r (ap (drop 1) h))

split_rest : (ps : List Placed) (b r : List Sym) → syms ps ≡ b ++ r → syms (drop (length b) ps) ≡ r
split_rest ps [] r h = h
split_rest [] (t ∷ b) r h = let p : ⊥ = cc in absurd p
split_rest (p ∷ ps) (t ∷ b) r h = split_rest ps b r (ap (drop 1) h)

length_syms : (ps : List Placed) → length (syms ps) ≡ length ps
length_syms [] = refl
length_syms (p ∷ ps) = ap suc (length_syms ps)

cut_is : (Is : List Sym → Type 0) (ps : List Placed) (rest : List Sym) (n : ℕ) → (w : StopsAt Is (syms ps) rest) → length w.before ≡ n → CutOf Is ps (take n ps) (drop n ps) × IsNone Is (take n ps) (drop n ps)
cut_is Is ps rest n w e =
    let before : syms (take n ps) ≡ w.before = ap (λ k. syms (take k ps)) (sym e) ∙ split_before ps w.before rest w.split in
    let behind : syms (drop n ps) ≡ rest = ap (λ k. syms (drop k ps)) (sym e) ∙ split_rest ps w.before rest w.split in (
      record {
        whole = sym (take-append-drop n ps);
        begins = subst (λ (l : List Sym). BeginsOne Is l) (sym before) w.begins;
        goes_no_further = further Is (drop n ps) (take n ps) w.before rest before behind w.no_further;
      },
      no_more Is (drop n ps) (take n ps) (syms ps) (w.split ∙ ap (λ l. l ++ rest) (sym before) ∙ ap (λ l. syms (take n ps) ++ l) (sym behind)) w.none,
    )

-- ## A text
-- what is to be known of a machine that reads from a place on
record Machine {A : Type 0} (Is : List Sym → Type 0) (source : Text) (start : State) (meant : Ors → A) (Means : A → Type 0) : Type 0 where
  is : (ts : List Sym) (d : Ors) → run ts start ≡ whole d → Is ts
  means : IsShort source → (ts : List PlacedToken) → TokensFrom 0 source ts → (d : Ors) → run (syms (placed_symbols ts)) start ≡ whole d → faults_in false (placed_symbols ts) ≡ [] → Means (meant d)
  stops : (ts rest : List Sym) → run ts start ≡ stuck rest → StopsAt Is ts rest

by_outcome : {A : Type 0} (Is : List Sym → Type 0) (source : Text) (start : State) (meant : Ors → A) (Means : A → Type 0) → Machine Is source start meant Means → IsShort source → (ts : List PlacedToken) → TokensFrom 0 source ts → (o : Outcome) → run (syms (placed_symbols ts)) start ≡ o → IsReading Is source Means (judged source meant (placed_symbols ts) o)
by_outcome Is source start meant Means m short ts lexed (whole d) e =
    let ps = placed_symbols ts in
    by_whole Is source Means ps (meant d) (faults_in false ps) refl (m.means short ts lexed d e)
    (λ f o t. told Is source f o (record { short = short; tokens = ts; lexed = lexed; before = ps; rest = []; cut = end_cut Is ps (m.is (syms ps) d e); told = t }))
by_outcome Is source start meant Means m short ts lexed (stuck rest) e =
    let ps = placed_symbols ts in
    let w = m.stops (syms ps) rest e in
    let a : length (syms ps) ≡ length w.before + length rest = ap length w.split ∙ length-append w.before rest in
    let b = length_syms ps in
    let n = length ps - length rest in
    let c = cut_is Is ps rest n w (omega (arith, a, b)) in
    by_cut Is source Means (take n ps) (drop n ps) (faults_in false (take n ps)) refl c.1
    (λ f o t. told Is source f o (record { short = short; tokens = ts; lexed = lexed; before = take n ps; rest = drop n ps; cut = c.0; told = t }))

by_tokens : {A : Type 0} (Is : List Sym → Type 0) (source : Text) (start : State) (meant : Ors → A) (Means : A → Type 0) → Machine Is source start meant Means → IsShort source → (r : Lexes) → LexesAs 0 source r → IsReading Is source Means (of_tokens source start meant r)
by_tokens Is source start meant Means m short (Ok ts) h = by_outcome Is source start meant Means m short ts h (run (syms (placed_symbols ts)) start) refl
by_tokens Is source start meant Means m short (Err f) h = ((short, is_lexical source h.0 f h.1), λ e. let p : ⊥ = cc in p)

by_length : {A : Type 0} (Is : List Sym → Type 0) (source : Text) (start : State) (meant : Ors → A) (Means : A → Type 0) → Machine Is source start meant Means → (b : Bool) → nat_lt 400 (length (chars source)) ≡ b → IsReading Is source Means (if b then Err fault.TooLong else of_tokens source start meant (lex source))
by_length Is source start meant Means m true e = (ltb-true 400 (length (chars source)) e, λ e. let p : ⊥ = cc in p)
by_length Is source start meant Means m false e = by_tokens Is source start meant Means m (ltb-false 400 (length (chars source)) e) (lex source) (lexer_is_them.given source)

pub parser_is_them : ParserIsThem
unfolding parse
parser_is_them source =
    let m : Machine IsExpression source (want_or top) or_expr (Parses source) = record {
      is = λ ts d h. (d, whole_text ts d h);
      means = λ short ts lexed d h sound. record { short = short; tokens = ts; lexed = lexed; derivation = d; spelled = whole_text (syms (placed_symbols ts)) d h; sound = sound; meant = refl };
      stops = stuck_place;
    } in
    by_length IsExpression source (want_or top) or_expr (Parses source) m (nat_lt 400 (length (chars source))) refl

pub target_parser_is_them : TargetParserIsThem
unfolding parse_target
target_parser_is_them source =
    let m : Machine IsTargetText source want_target (target_of source) (IsTarget source) = record {
      is = λ ts d h. let a = target_ends ts d h in (a.0, a.1, target_text ts a.0 (h ∙ ap whole a.2));
      means = λ short ts lexed d h sound.
          let a = target_ends (syms (placed_symbols ts)) d h in
          record {
            short = short;
            tokens = ts;
            lexed = lexed;
            derivation = a.0;
            is = a.1;
            spelled = target_text (syms (placed_symbols ts)) a.0 (h ∙ ap whole a.2);
            sound = sound;
            named = ap (λ x. target_name (part_of x)) a.2;
            placed = ap (λ x. exprs (target_places (part_of x))) a.2;
            written = refl;
          };
      stops = target_place;
    } in
    by_length IsTargetText source want_target (target_of source) (IsTarget source) m (nat_lt 400 (length (chars source))) refl
