-- What the functions answer that read a target.
use Rattle.std.specs.Prelude.{◌≡◌, ◌<◌, true, false, List, [], ◌∷◌, ◌++◌, length}
use Rattle.wf_ast.specs.Tree.{Expr, Target, exprs}
use Rattle.wf_expr.specs.Calls.{faults_in}
use Rattle.wf_expr.specs.Grammar.{Ors, Access, at_index, or_expr, access_text}
use Rattle.wf_expr.specs.Machine.{in_place, State, have_target, want_target, want_or, after_target, run, resume, stuck}
use Rattle.wf_expr.specs.Symbols.{Sym, Placed, syms}
use Rattle.wf_expr.specs.Targets.{is_target, target_name, target_places}
use Rattle.wf_expr.specs.declared.stop.Stop.{Stop}
use Rattle.wf_expr.specs.declared.stop.Stop.TheVariants as stop
use Rattle.wf_value.specs.Pairs.{Text}

-- behind a `[`
abbrev pub want_place : Access → State
want_place a = want_or (in_place a)

abbrev pub IndexRead : List Sym → Expr → List Sym → Type 0
IndexRead ts e rest = (d : Ors) × (or_expr d ≡ e) × (length rest < length ts) × ((a : Access) → run ts (want_place a) ≡ run rest (have_target (at_index a d)))

-- one place is read behind a target, whatever it is, and the rest is left
abbrev pub PlaceRead : List Sym → Expr → List Sym → Type 0
PlaceRead ts e rest =
    (length rest < length ts) × ((a : Access) → (d : Access) × (is_target d ≡ is_target a) × (target_name d ≡ target_name a) × (target_places d ≡ target_places a ++ e ∷ []) × (resume ts (after_target a) ≡ resume rest (after_target d)))

abbrev pub PlaceFails : List Sym → Stop → Type 0
PlaceFails ts (stop.Syntax n) = (rest : List Sym) × (length rest ≡ n) × ((a : Access) → resume ts (after_target a) ≡ stuck rest)
PlaceFails ts stop.OutOfMemory = Unit {0}

-- a target's name and places are read, and the rest is left
abbrev pub TargetSoFar : List Sym → Text → List Expr → List Sym → Type 0
TargetSoFar ts x places rest =
    (d : Access) × (is_target d ≡ true) × (target_name d ≡ x) × (target_places d ≡ places) × (run ts want_target ≡ resume rest (after_target d))

-- symbols are spelled as this target
abbrev pub SpellsTarget : Text → List Sym → Target → Type 0
SpellsTarget source ts t =
    (d : Access) × (is_target d ≡ true) × (access_text d ≡ ts) × (t.name ≡ target_name d) × (t.places ≡ exprs (target_places d)) × (t.written ≡ source)

-- symbols are spelled as this target, and have no other fault
abbrev pub SymbolsTarget : Text → List Placed → Target → Type 0
SymbolsTarget source ps t = SpellsTarget source (syms ps) t × (faults_in false ps ≡ [])
