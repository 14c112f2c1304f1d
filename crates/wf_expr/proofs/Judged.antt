-- What is told of the symbols of a text.
use Rattle.std.proofs.Common.{◌≡◌, ◌+◌, ◌-◌, ◌==◌, ℕ, suc, true, false, List, [], ◌∷◌, ◌++◌, length, drop, take, map, Some, None, refl, sym, ap, ◌∙◌, subst, arith, append-nil}
use Rattle.std.proofs.lemmas.List.{map-append, take-append-drop, length-append}
use Rattle.std.specs.List.{AllByRecursion}
use Rattle.std.proofs.lemmas.Option.{same_Some}
use Rattle.wf_ast.specs.Tree.{Expr}
use Rattle.wf_expr.proofs.Parsing.{stuck_at}
use Rattle.wf_expr.proofs.Reading.{if_false}
use Rattle.wf_expr.proofs.Scans.{first_none, first_some, of_symbols}
use Rattle.wf_expr.proofs.Stops.{stuck_place, whole_text}
use Rattle.wf_expr.specs.Begins.{BeginsOne, CutOf, GoesNoFurther, IsExpression}
use Rattle.wf_expr.specs.Calls.{faults_in}
use Rattle.wf_expr.specs.Judging.{IsToldOf, OfSymbols, Spells, StopsWith, SymbolsRefused}
use Rattle.wf_expr.specs.Kinds.{placed_of, syms_of}
use Rattle.wf_expr.specs.Machine.{top, after_or, head, is_or, want_or}
use Rattle.wf_expr.specs.Parsing.{IsNone, has_fault, is_none, place_of}
use Rattle.wf_expr.specs.Parts.{Fails, OrRead}
use Rattle.wf_expr.specs.Scanning.{first_of}
use Rattle.wf_expr.specs.Symbols.{Sym, Placed, syms}
use Rattle.wf_expr.specs.declared.fault.ExprFault.{ExprFault}
use Rattle.wf_expr.specs.declared.fault.ExprFault.TheVariants as fault
use Rattle.wf_expr.specs.declared.kind.Symbol.{Symbol}
use Rattle.wf_expr.specs.declared.stop.Stop.{Stop}
use Rattle.wf_expr.specs.declared.stop.Stop.TheVariants as stop
use Rattle.wf_value.specs.Pairs.{Text}

pub length_syms : (xs : List Symbol) → length (syms_of xs) ≡ length xs
length_syms [] = refl
length_syms (x ∷ xs) = ap suc (length_syms xs)

-- ## The grammar alone
pub whole_read : (ts : List Sym) (rest : List Symbol) (e : Expr) → (length rest == 0) ≡ true → OrRead ts e (syms_of rest) → Spells ts e
whole_read ts [] e k h = (h.0.0, whole_text ts h.0.0 (h.0.3 top), h.0.1)
whole_read ts (x ∷ rest) e k h = let p : ⊥ = grind arith in absurd p

pub whole_left : (ts : List Sym) (rest : List Symbol) (e : Expr) → (length rest == 0) ≡ false → OrRead ts e (syms_of rest) → StopsWith IsExpression ts (stop.Syntax (length rest))
whole_left ts [] e k h = let p : ⊥ = cc in absurd p
whole_left ts (x ∷ rest) e k h =
    (syms_of (x ∷ rest), length_syms (x ∷ rest), stuck_place ts (syms_of (x ∷ rest)) (h.0.3 top ∙ stuck_at (syms_of (x ∷ rest)) (after_or top h.0.0) (if_false (is_or (head (syms_of (x ∷ rest)))) _ _ h.1)))

pub whole_fails : (ts : List Sym) (f : Stop) → Fails want_or ts f → StopsWith IsExpression ts f
whole_fails ts (stop.Syntax n) h = (h.0, h.1, stuck_place ts h.0 (h.2 top))
whole_fails ts stop.OutOfMemory h = tt

-- ## The cut

split_before : (xs : List Symbol) (b r : List Sym) → syms_of xs ≡ b ++ r → syms_of (take (length b) xs) ≡ b
split_before xs [] r h = refl
split_before [] (t ∷ b) r h = let p : ⊥ = cc in absurd p
split_before (x ∷ xs) (t ∷ b) r h =
    ap (λ u. u ∷ syms_of (take (length b) xs)) (same_Some _ t (ap head h)) ∙ ap (λ l. t ∷ l) (split_before xs b r (ap (drop 1) h))

split_rest : (xs : List Symbol) (b r : List Sym) → syms_of xs ≡ b ++ r → syms_of (drop (length b) xs) ≡ r
split_rest xs [] r h = h
split_rest [] (t ∷ b) r h = let p : ⊥ = cc in absurd p
split_rest (x ∷ xs) (t ∷ b) r h = split_rest xs b r (ap (drop 1) h)

placed_split : (xs : List Symbol) (k : ℕ) → map placed_of xs ≡ map placed_of (take k xs) ++ map placed_of (drop k xs)
placed_split xs k = ap (map placed_of) (sym (take-append-drop k xs)) ∙ map-append placed_of (take k xs) (drop k xs)

pub further : (Is : List Sym → Type 0) (l before : List Placed) (b r : List Sym) → syms before ≡ b → syms l ≡ r → ((t : Sym) → head r ≡ Some t → BeginsOne Is (b ++ t ∷ []) → ⊥) → GoesNoFurther Is before l
further Is [] before b r e f never = tt
further Is (p ∷ l) before b r e f never = λ x. never p.sym (ap head (sym f)) (subst (λ (m : List Sym). BeginsOne Is (m ++ p.sym ∷ [])) e x)

pub no_more : (Is : List Sym → Type 0) (l before : List Placed) (ts : List Sym) → ts ≡ syms before ++ syms l → (Is ts → ⊥) → IsNone Is before l
no_more Is [] before ts e never = λ x. never (subst (λ (l : List Sym). Is l) (sym (append-nil (syms before)) ∙ sym e) x)
no_more Is (p ∷ l) before ts e never = tt

-- where a text's symbols are cut that stop with so many left
lengths : (Is : List Sym → Type 0) (xs : List Symbol) (n : ℕ) (w : StopsWith Is (syms_of xs) (stop.Syntax n)) → length w.2.before + n ≡ length xs
lengths Is xs n w =
    let a = length_syms xs in
    let b = ap length w.2.split in
    let c = length-append w.2.before w.0 in
    omega (arith, a, b, c, w.1)

at_cut : (Is : List Sym → Type 0) (xs : List Symbol) (n : ℕ) (w : StopsWith Is (syms_of xs) (stop.Syntax n)) → length w.2.before ≡ length xs - n
at_cut Is xs n w = let e = lengths Is xs n w in omega (arith, e)

before_cut : (Is : List Sym → Type 0) (xs : List Symbol) (n : ℕ) (w : StopsWith Is (syms_of xs) (stop.Syntax n)) → syms_of (take (length xs - n) xs) ≡ w.2.before
before_cut Is xs n w = ap (λ k. syms_of (take k xs)) (sym (at_cut Is xs n w)) ∙ split_before xs w.2.before w.0 w.2.split

behind_cut : (Is : List Sym → Type 0) (xs : List Symbol) (n : ℕ) (w : StopsWith Is (syms_of xs) (stop.Syntax n)) → syms_of (drop (length xs - n) xs) ≡ w.0
behind_cut Is xs n w = ap (λ k. syms_of (drop k xs)) (sym (at_cut Is xs n w)) ∙ split_rest xs w.2.before w.0 w.2.split

stop_cut : (Is : List Sym → Type 0) (xs : List Symbol) (n : ℕ) → StopsWith Is (syms_of xs) (stop.Syntax n) → CutOf Is (map placed_of xs) (map placed_of (take (length xs - n) xs)) (map placed_of (drop (length xs - n) xs))
stop_cut Is xs n w = record {
  whole = placed_split xs (length xs - n);
  begins = subst (λ (l : List Sym). BeginsOne Is l) (sym (before_cut Is xs n w)) w.2.begins;
  goes_no_further = further Is (map placed_of (drop (length xs - n) xs)) (map placed_of (take (length xs - n) xs)) w.2.before w.0 (before_cut Is xs n w) (behind_cut Is xs n w) w.2.no_further;
}

stop_none : (Is : List Sym → Type 0) (xs : List Symbol) (n : ℕ) → StopsWith Is (syms_of xs) (stop.Syntax n) → IsNone Is (map placed_of (take (length xs - n) xs)) (map placed_of (drop (length xs - n) xs))
stop_none Is xs n w =
    no_more Is (map placed_of (drop (length xs - n) xs)) (map placed_of (take (length xs - n) xs)) (syms_of xs)
    (w.2.split ∙ ap (λ l. l ++ w.0) (sym (before_cut Is xs n w)) ∙ ap (λ l. syms_of (take (length xs - n) xs) ++ l) (sym (behind_cut Is xs n w))) w.2.none

-- ## What is told
told_refused : (Is : List Sym → Type 0) (source : Text) (ps : List Placed) (f : ExprFault) → OfSymbols f → IsToldOf Is source ps f → SymbolsRefused Is source ps f
told_refused Is source ps (fault.Syntax at) h k = (h, k)
told_refused Is source ps (fault.Decimal at) h k = (h, k)
told_refused Is source ps (fault.UnknownFunction at) h k = (h, k)
told_refused Is source ps (fault.Arity at) h k = (h, k)
told_refused Is source ps fault.OutOfMemory h k = tt
told_refused Is source ps fault.TooLong h k = absurd h
told_refused Is source ps (fault.Lex f) h k = absurd h

fault_of : (Is : List Sym → Type 0) (source : Text) (ps before rest : List Placed) (f : ExprFault) → CutOf Is ps before rest → Some f ≡ first_of (faults_in false before) → SymbolsRefused Is source ps f
fault_of Is source ps before rest f c h =
    let w = first_some (faults_in false before) f h in
    let all = subst (λ (l : List ExprFault). AllByRecursion OfSymbols l) w.1 (of_symbols false before) in
    told_refused Is source ps f all.0 (record { before = before; rest = rest; cut = c; told = has_fault f w.0 w.1 })

-- symbols that are one are cut at their end
pub end_cut : (Is : List Sym → Type 0) (ps : List Placed) → Is (syms ps) → CutOf Is ps ps []
end_cut Is ps h = record {
  whole = sym (append-nil ps);
  begins = ([], subst (λ (l : List Sym). Is l) (sym (append-nil (syms ps))) h);
  goes_no_further = tt;
}

pub is_fault : (Is : List Sym → Type 0) (source : Text) (ps : List Placed) (f : ExprFault) → Is (syms ps) → Some f ≡ first_of (faults_in false ps) → SymbolsRefused Is source ps f
is_fault Is source ps f h k = fault_of Is source ps ps [] f (end_cut Is ps h) k

pub spelled_fault : (source : Text) (ps : List Placed) (e : Expr) (f : ExprFault) → Spells (syms ps) e → Some f ≡ first_of (faults_in false ps) → SymbolsRefused IsExpression source ps f
spelled_fault source ps e f h k = is_fault IsExpression source ps f (h.0, h.1) k

pub stopped_fault : (Is : List Sym → Type 0) (source : Text) (xs : List Symbol) (n : ℕ) (f : ExprFault) → StopsWith Is (syms_of xs) (stop.Syntax n) → Some f ≡ first_of (faults_in false (map placed_of (take (length xs - n) xs))) → SymbolsRefused Is source (map placed_of xs) f
stopped_fault Is source xs n f w k = fault_of Is source (map placed_of xs) (map placed_of (take (length xs - n) xs)) (map placed_of (drop (length xs - n) xs)) f (stop_cut Is xs n w) k

pub stopped : (Is : List Sym → Type 0) (source : Text) (xs : List Symbol) (n : ℕ) → StopsWith Is (syms_of xs) (stop.Syntax n) → None ≡ first_of (faults_in false (map placed_of (take (length xs - n) xs))) → SymbolsRefused Is source (map placed_of xs) (fault.Syntax (place_of source (map placed_of (drop (length xs - n) xs))))
stopped Is source xs n w k = (
  tt,
  record {
    before = map placed_of (take (length xs - n) xs);
    rest = map placed_of (drop (length xs - n) xs);
    cut = stop_cut Is xs n w;
    told = is_none (first_none (faults_in false (map placed_of (take (length xs - n) xs))) k) (stop_none Is xs n w);
  },
)
