-- Where numbers stand, and where errors belong.
use Rattle.std.proofs.Common.{◌≡◌, ℕ, zero, suc, ◌<◌, Bool, List, [], ◌∷◌, ◌++◌, length, get_or, take, drop, sym, ap, arith}
use Rattle.std.specs.Prelude.{if◌then◌else◌}
use Rattle.std.proofs.lemmas.Bool.{eq-eqb}
use Rattle.wf_branches.specs.Views.{errors_view}
use Rattle.wf_model.specs.Taken.{drop_number, put_error}
use Rattle.wf_value.specs.Plain.{plain}
use Rattle.wf_value.specs.declared.Value.{Value}

-- those before a place are others
abbrev pub AreOthers : ℕ → ℕ → List ℕ → Type 0
AreOthers b i ns = drop_number b ns ≡ take i ns ++ drop_number b (drop i ns)

pub dropped_here : (b i : ℕ) (ns : List ℕ) → i < length ns → get_or ns i 0 ≡ b → drop_number b (drop i ns) ≡ drop (suc i) ns
dropped_here b i [] w e = absurd (omega (arith, w))
dropped_here b zero (n ∷ ns) w e = ap (λ (x : Bool). if x then ns else n ∷ drop_number b ns) (eq-eqb b n (sym e))
dropped_here b (suc i) (n ∷ ns) w e = dropped_here b i ns (omega (arith, w)) e

-- ## Errors
-- those before a place have no greater numbers
abbrev pub AreBefore : ℕ → ℕ → List (ℕ × Value) → Type 0
AreBefore n i es = (x : Value) → put_error n (plain x) (errors_view es) ≡ errors_view (take i es) ++ put_error n (plain x) (errors_view (drop i es))
