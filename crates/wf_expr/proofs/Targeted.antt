-- What the functions answer that read a target, put together.
use Rattle.std.proofs.Common.{◌≡◌, ◌==◌, true, false, List, [], ◌∷◌, ◌++◌, length, drop, Some, None, refl, sym, ap, ◌∙◌, arith}
use Rattle.wf_ast.specs.Tree.{Expr, exprs, Target}
use Rattle.wf_expr.proofs.Judged.{is_fault, length_syms}
use Rattle.wf_expr.proofs.Kept.{point_is, left_bracket_is, name_is}
use Rattle.wf_expr.proofs.Parsing.{one_less, taken, stuck_at}
use Rattle.wf_expr.proofs.Reading.{run-resume}
use Rattle.wf_expr.proofs.Stops.{target_place, target_text}
use Rattle.wf_expr.specs.Calls.{faults_in}
use Rattle.wf_expr.specs.Grammar.{Access, first, at_name, at_index, name}
use Rattle.wf_expr.specs.Judging.{StopsWith, SymbolsRefused}
use Rattle.wf_expr.specs.Kinds.{syms_of}
use Rattle.wf_expr.specs.Machine.{have_target, want_target, want_target_name, head, is_point, is_left_bracket, name_of, begin_target, after_target, step, run, resume}
use Rattle.wf_expr.specs.Parts.{Fails}
use Rattle.wf_expr.specs.Places.{want_place, IndexRead, PlaceRead, PlaceFails, TargetSoFar, SpellsTarget}
use Rattle.wf_expr.specs.Scanning.{first_of}
use Rattle.wf_expr.specs.Symbols.{Sym, Placed, syms}
use Rattle.wf_expr.specs.Symbols as s
use Rattle.wf_expr.specs.Targets.{IsTargetText, target_places}
use Rattle.wf_expr.specs.declared.fault.ExprFault.{ExprFault}
use Rattle.wf_expr.specs.declared.kind.Symbol.{Symbol}
use Rattle.wf_expr.specs.declared.stop.Stop.{Stop}
use Rattle.wf_expr.specs.declared.stop.Stop.TheVariants as stop
use Rattle.wf_value.specs.Data.{text}
use Rattle.wf_value.specs.Pairs.{Text}

-- ## A place
point_taken : (a : Access) (ts : List Sym) → is_point (head ts) ≡ true → resume ts (after_target a) ≡ run (drop 1 ts) (want_target_name a)
point_taken a ts h = taken ts s.point (after_target a) (want_target_name a) (point_is (head ts) h) refl

bracket_taken : (a : Access) (ts : List Sym) → is_left_bracket (head ts) ≡ true → resume ts (after_target a) ≡ run (drop 1 ts) (want_place a)
bracket_taken a ts h = taken ts s.left_bracket (after_target a) (want_place a) (left_bracket_is (head ts) h) refl

name_taken : (a : Access) (ts : List Sym) (x : Text) → name_of (head ts) ≡ Some x → run ts (want_target_name a) ≡ run (drop 1 ts) (have_target (at_name a x))
name_taken a ts x h = run-resume ts (want_target_name a) ∙ taken ts (s.name x) (step (want_target_name a)) (have_target (at_name a x)) (name_is (head ts) x h) refl

pub place_name : (ts : List Sym) (x : Text) → is_point (head ts) ≡ true → name_of (head (drop 1 ts)) ≡ Some x → PlaceRead ts (Expr.Lit (text x)) (drop 1 (drop 1 ts))
place_name ts x h k =
    let n = one_less ts s.point (point_is (head ts) h) in
    let m = one_less (drop 1 ts) (s.name x) (name_is (head (drop 1 ts)) x k) in
    (omega (arith, n, m), λ a. (at_name a x, refl, refl, refl, point_taken a ts h ∙ name_taken a (drop 1 ts) x k ∙ run-resume (drop 1 (drop 1 ts)) (have_target (at_name a x))))

pub place_index : (ts rest : List Sym) (e : Expr) → is_left_bracket (head ts) ≡ true → IndexRead (drop 1 ts) e rest → PlaceRead ts e rest
place_index ts rest e h w =
    let n = one_less ts s.left_bracket (left_bracket_is (head ts) h) in
    (omega (arith, n, w.2), λ a. (at_index a w.0, refl, refl, ap (λ y. target_places a ++ y ∷ []) w.1, bracket_taken a ts h ∙ w.3 a ∙ run-resume rest (have_target (at_index a w.0))))

pub place_index_fails : (ts : List Sym) (f : Stop) → is_left_bracket (head ts) ≡ true → Fails want_place (drop 1 ts) f → PlaceFails ts f
place_index_fails ts (stop.Syntax n) h w = (w.0, w.1, λ a. bracket_taken a ts h ∙ w.2 a)
place_index_fails ts stop.OutOfMemory h w = tt

-- ## A target
pub target_first : (ts : List Sym) (x : Text) → name_of (head ts) ≡ Some x → TargetSoFar ts x [] (drop 1 ts)
target_first ts x h =
    (first (name x), refl, refl, refl, run-resume ts want_target ∙ taken ts (s.name x) (step want_target) (have_target (first (name x))) (name_is (head ts) x h) refl ∙ run-resume (drop 1 ts) (have_target (first (name x))))

pub target_no_name : (xs : List Symbol) → name_of (head (syms_of xs)) ≡ None → StopsWith IsTargetText (syms_of xs) (stop.Syntax (length xs))
target_no_name xs h =
    (syms_of xs, length_syms xs, target_place (syms_of xs) (syms_of xs) (run-resume (syms_of xs) want_target ∙ stuck_at (syms_of xs) (step want_target) (ap begin_target h)))

pub target_next : (ts mid rest : List Sym) (x : Text) (es : List Expr) (e : Expr) → TargetSoFar ts x es mid → PlaceRead mid e rest → TargetSoFar ts x (es ++ e ∷ []) rest
target_next ts mid rest x es e h q =
    let p = q.1 h.0 in
    (p.0, p.1 ∙ h.1, p.2 ∙ h.2, p.3 ∙ ap (λ l. l ++ e ∷ []) h.3, h.4 ∙ p.4)

pub target_fails : (ts mid : List Sym) (x : Text) (es : List Expr) (f : Stop) → TargetSoFar ts x es mid → PlaceFails mid f → StopsWith IsTargetText ts f
target_fails ts mid x es (stop.Syntax n) h k = (k.0, k.1, target_place ts k.0 (h.4 ∙ k.2 h.0))
target_fails ts mid x es stop.OutOfMemory h k = tt

pub target_whole : (ts : List Sym) (xs : List Symbol) (x : Text) (es : List Expr) (source : Text) → (length xs == 0) ≡ true → TargetSoFar ts x es (syms_of xs) → SpellsTarget source ts (record { name = x; places = exprs es; written = source })
target_whole ts [] x es source k h = (h.0, h.1, target_text ts h.0 h.4, sym h.2, ap exprs (sym h.3), refl)
target_whole ts (y ∷ xs) x es source k h = let p : ⊥ = grind arith in absurd p

-- ## The faults
pub target_fault : (source : Text) (ps : List Placed) (t : Target) (f : ExprFault) → SpellsTarget source (syms ps) t → Some f ≡ first_of (faults_in false ps) → SymbolsRefused IsTargetText source ps f
target_fault source ps t f h k = is_fault IsTargetText source ps f (h.0, h.1, h.2) k
