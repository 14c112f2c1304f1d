-- What the branches tell that have failed.
use Rattle.std.proofs.Common.{◌≡◌, ℕ, ◌+◌, ◌<◌, List, [], ◌∷◌, ◌++◌, get_or, length, take, refl, sym, ap, ◌∙◌, add-one, take-suc}
use Rattle.wf_ast.specs.Tree.{ParallelBody}
use Rattle.wf_branches.specs.Views.{errors_view}
use Rattle.wf_model.specs.Move.{error_list, name_of}
use Rattle.wf_value.specs.Data.{Data, map, no_pairs, pair}
use Rattle.wf_value.specs.Plain.{plain}
use Rattle.wf_value.specs.declared.Value.{Value}

-- what one tells
abbrev pub told_by : ParallelBody → ℕ × Value → Data
told_by p e = map (pair (name_of p e.0) (plain e.1) no_pairs)

-- one more
pub one_more : (p : ParallelBody) (es : List (ℕ × Value)) (e : ℕ × Value) → error_list p (errors_view (es ++ e ∷ [])) ≡ error_list p (errors_view es) ++ told_by p e ∷ []
one_more p [] e = refl
one_more p (x ∷ es) e = ap (λ xs. told_by p x ∷ xs) (one_more p es e)

-- of those that were gone through
pub one_next : (p : ParallelBody) (es : List (ℕ × Value)) (i : ℕ) (e : ℕ × Value) → i < length es → e ≡ get_or es i e → error_list p (errors_view (take (i + 1) es)) ≡ error_list p (errors_view (take i es)) ++ told_by p e ∷ []
one_next p es i e lt is = ap (λ (n : ℕ). error_list p (errors_view (take n es))) (add-one i) ∙ ap (λ xs. error_list p (errors_view xs)) (take-suc es i e lt ∙ ap (λ x. take i es ++ x ∷ []) (sym is)) ∙ one_more p (take i es) e
