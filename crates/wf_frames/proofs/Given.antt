-- Parameters of calls, and the values that they get.
use Rattle.std.proofs.Common.{◌≡◌, ℕ, List, [], ◌∷◌, Some, None, refl, sym, ap, ◌∙◌}
use Rattle.std.specs.Prelude.{Option, option_map, slice_get, suc, zero}
use Rattle.wf_ast.specs.Tree.{Param}
use Rattle.wf_ast.specs.View.{default_view, param_view}
use Rattle.wf_ast.specs.declared.program.Param as declared
use Rattle.wf_model.specs.Calls.{given, value_for}
use Rattle.wf_scope.proofs.Writing.{pairs_listed}
use Rattle.wf_value.specs.Data.{Data, Pairs, pairs_of}
use Rattle.wf_value.specs.HttpUrl.{first_of_two}
use Rattle.wf_value.specs.Maps.{value_at}
use Rattle.wf_value.specs.Pairs.{Text}
use Rattle.wf_value.specs.Plain.{plain}
use Rattle.wf_value.specs.declared.Value.{Value}

-- one without a value
pub given_none : (xs : List Param) (n : ℕ) (x : Param) (args : Pairs) → slice_get xs n ≡ Some x → value_for x args ≡ None → given xs args ≡ None
given_none [] n x args at e = absurd (cc at)
given_none (y ∷ xs) zero x args at e =
    let same : y ≡ x = cc at in
    ap {B = Option (List (Text × Data))} (λ o. elim o [ None ↦ None | Some w ↦ option_map (λ ys. (y.name, w) ∷ ys) (given xs args) ]) (ap (λ z. value_for z args) same ∙ e)
given_none (y ∷ xs) (suc n) x args at e = by (value_for y args) (given_none xs n x args at e)
  where
    by : (o : Option Data) → given xs args ≡ None → ◌≡◌ {A = Option (List (Text × Data))} (elim o [ None ↦ None | Some w ↦ option_map (λ ys. (y.name, w) ∷ ys) (given xs args) ]) None
    by None later = refl
    by (Some w) later = ap (option_map (λ ys. (y.name, w) ∷ ys)) later

-- ## One parameter
module _ (p : declared.Param) (args : List (Text × Data)) (x : Text) (same : x ≡ p.name) where
  asked : (o : Option Data) → value_at x args ≡ o → value_for (param_view p) (pairs_of args) ≡ first_of_two o (default_view p.default)
  asked o h = ap (λ (q : Option Data). first_of_two q (default_view p.default)) (ap (value_at p.name) (pairs_listed args) ∙ ap (λ (t : Text). value_at t args) (sym same) ∙ h)

  pub value_given : (v : Data) → value_at x args ≡ Some v → Some v ≡ value_for (param_view p) (pairs_of args)
  value_given v h = sym (asked (Some v) h)

  pub value_default : (v : Value) → value_at x args ≡ None → p.default ≡ Some v → Some (plain v) ≡ value_for (param_view p) (pairs_of args)
  value_default v h d = sym (asked None h ∙ ap default_view d)

  pub value_lacks : value_at x args ≡ None → p.default ≡ None → None ≡ value_for (param_view p) (pairs_of args)
  value_lacks h d = sym (asked None h ∙ ap default_view d)
