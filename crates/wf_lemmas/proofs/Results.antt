-- Answers and errors.
use Rattle.std.proofs.Common.{◌≡◌, ◌⊎◌, ⊎_elim, Bool, true, false, refl, sym, ap, ◌∙◌}
use Rattle.std.specs.Prelude.{◌↔◌, Result, Ok, Err, IfOk, OnOk, IsErr, IsErrAnd, IsErrOf}

-- what follows from an answer's promise
pub with_ok : {A E : Type 0} (P Q : A → Type 0) (r : Result A E) → ((a : A) → P a → Q a) → IfOk r P → IfOk r Q
with_ok P Q (Ok a) f p = f a p
with_ok P Q (Err e) f p = p

pub on_ok : {A E : Type 0} {P Q : Type 0} (r : Result A E) → (P → Q) → OnOk r P → OnOk r Q
on_ok (Ok a) f p = f p
on_ok (Err e) f p = tt

-- an error that is handed on
pub passed_on : {T A E : Type 0} (r : Result T E) (cause e : E) → IsErr r × IsErrAnd r (λ x. x ≡ cause) → r ≡ Err e → IsErrOf {T = A} (Err cause) e
passed_on (Ok x) cause e gives is = absurd cc
passed_on (Err f) cause e gives is = let same : f ≡ e = cc is in ap Err (sym gives.1 ∙ same)

-- what was open and is closed by one error alone is open behind an answer
pub still_open : {A E : Type 0} (before after : Bool) (e : E) (r : Result A E) (a : A) → r ≡ Ok a → before ≡ false → (after ≡ true ↔ (before ≡ true) ⊎ IsErrOf r e) → after ≡ false
still_open before false e r a is was closes = refl
still_open before true e r a is was closes =
    absurd (⊎_elim (λ shut. let no : true ≡ false = sym shut ∙ was in cc no) (λ err. let no : Err e ≡ Ok a = sym err ∙ is in cc no) (closes.0 refl))
