-- What is there, or isn't.
use Rattle.std.proofs.Common.{◌≡◌, false, Option, Some, None, is_some, option_map, refl, sym, ◌∙◌}
use Rattle.std.proofs.lemmas.Bool.{true≢false}
use Rattle.std.proofs.lemmas.Option.{same_Some}

pub same_some : {A : Type 0} (o : Option A) (x y : A) → o ≡ Some x → o ≡ Some y → x ≡ y
same_some o x y h k = same_Some x y (sym h ∙ k)

pub some_not_none : {A : Type 0} (x : A) → Some x ≡ None → ⊥
some_not_none x h = cc h

pub none_of : {A : Type 0} (o : Option A) → is_some o ≡ false → o ≡ None
none_of None h = refl
none_of (Some x) h = absurd (true≢false h)

pub none_unless : {A : Type 0} (o : Option A) → ((x : A) → o ≡ Some x → ⊥) → o ≡ None
none_unless None h = refl
none_unless (Some x) h = absurd (h x refl)

pub some_mapped : {A B : Type 0} (f : A → B) (o : Option A) → is_some (option_map f o) ≡ is_some o
some_mapped f None = refl
some_mapped f (Some x) = refl

pub by_cases : {A B : Type 0} (P : B → Type 0) (o : Option A) (x : B) (f : A → B) → (o ≡ None → P x) → ((t : A) → o ≡ Some t → P (f t)) → P (elim o [ None ↦ x | Some t ↦ f t ])
by_cases P None x f h k = h refl
by_cases P (Some t) x f h k = k t refl
