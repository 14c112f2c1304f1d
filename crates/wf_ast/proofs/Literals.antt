-- A list of literals is kept as the value that it is: each of its items keeps within the limits, or the list doesn't.
use Rattle.std.proofs.Common.{◌≡◌, ◌≤◌, Bool, true, false, ◌&&◌, ◌⊎◌, inl, inr, List, [], ◌∷◌, map, Ok, Err, refl, sym, ap, ◌∙◌, arith}
use Rattle.std.proofs.lemmas.Bool.{and_cases, and_left, and_right, cases_Bool, leb-false, lt-leb}
use Rattle.std.specs.Prelude.{if◌then◌else◌, nat_le}
use Rattle.wf_ast.specs.Apply.{View}
use Rattle.wf_ast.specs.Eval.{fill, fill_all}
use Rattle.wf_ast.specs.Tree.{Scalar, Listed, templates}
use Rattle.wf_value.specs.Data.{Data, list, Items, item, items_of, depth, size}
use Rattle.wf_value.specs.Errors.{Answer, ◌>>=◌, kept}
use Rattle.wf_value.specs.declared.Tag.TheVariants.{ResourceLimitError}

-- a value within the limits
abbrev fits : Data → Bool
fits v = nat_le (size v) 4194304 && nat_le (depth v) 100

-- a value no smaller than one past the limits
past : (v w : Data) → size v ≤ size w → depth v ≤ depth w → fits v ≡ false → fits w ≡ false
past v w larger deeper h =
    elim (and_cases (nat_le (size v) 4194304) (nat_le (depth v) 100) h) [
      | inl large ↦ and_left (nat_le (size w) 4194304) (nat_le (depth w) 100) (lt-leb (size w) 4194304 (omega (arith, larger, leb-false (size v) 4194304 large)))
      | inr deep ↦ and_right (nat_le (size w) 4194304) (nat_le (depth w) 100) (lt-leb (depth w) 100 (omega (arith, deeper, leb-false (depth v) 100 deep)))
    ]

-- the items, or the error that the list has too
abbrev Told : Answer Items → List Data → Type 0
Told a ds = (a ≡ Ok (items_of ds)) ⊎ ((a ≡ Err ResourceLimitError) × (fits (list (items_of ds)) ≡ false))

told_next : (d : Data) (ds : List Data) (a : Answer Items) → (fits d ≡ true) ⊎ (fits d ≡ false) → Told a ds → Told (kept d >>= λ v. a >>= λ vs. Ok (item v vs)) (d ∷ ds)
told_next d ds a (inr over) h =
    inr (ap (λ b. (if b then Ok d else Err ResourceLimitError) >>= λ v. a >>= λ vs. Ok (item v vs)) over, past d (list (items_of (d ∷ ds))) (omega arith) (omega arith) over)
told_next d ds a (inl within) (inl all) =
    inl (ap (λ b. (if b then Ok d else Err ResourceLimitError) >>= λ v. a >>= λ vs. Ok (item v vs)) within ∙ ap (λ m. m >>= λ vs. Ok (item d vs)) all)
told_next d ds a (inl within) (inr over) =
    inr (
      ap (λ b. (if b then Ok d else Err ResourceLimitError) >>= λ v. a >>= λ vs. Ok (item v vs)) within ∙ ap (λ m. m >>= λ vs. Ok (item d vs)) over.0,
      past (list (items_of ds)) (list (items_of (d ∷ ds))) (omega arith) (omega arith) over.1,
    )

told : (ds : List Data) (s : View) → Told (fill_all (templates (map Scalar ds)) s) ds
told [] s = inl refl
told (d ∷ ds) s = told_next d ds (fill_all (templates (map Scalar ds)) s) (cases_Bool (fits d)) (told ds s)

kept_told : (a : Answer Items) (ds : List Data) → Told a ds → (a >>= λ vs. kept (list vs)) ≡ kept (list (items_of ds))
kept_told a ds (inl all) = ap (λ m. m >>= λ vs. kept (list vs)) all
kept_told a ds (inr over) = ap (λ m. m >>= λ vs. kept (list vs)) over.0 ∙ sym (ap (λ b. if b then Ok (list (items_of ds)) else Err ResourceLimitError) over.1)

pub fill_literals : (ds : List Data) (s : View) → fill (Listed (templates (map Scalar ds))) s ≡ kept (list (items_of ds))
fill_literals ds s = kept_told (fill_all (templates (map Scalar ds)) s) ds (told ds s)
