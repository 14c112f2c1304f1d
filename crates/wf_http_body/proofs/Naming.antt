-- The values of the fields of a name, field by field.
use Rattle.std.proofs.Common.{◌≡◌, ℕ, ◌+◌, ◌<◌, true, false, List, ◌∷◌, length, get_or, drop, refl, sym, ap, ◌∙◌}
use Rattle.std.specs.Str.Parse.{digits_value}
use Rattle.std.proofs.lemmas.List.{drop_more}
use Rattle.wf_value.specs.Events.{Headers}
use Rattle.wf_value.specs.HttpBody.{Framing, OfLength, all_equal, by_length, is_number, lengths_in}
use Rattle.wf_value.specs.HttpText.{is_field_named, values_of}

skipped : (x : List ℕ) (f : List ℕ × List ℕ) (fs : Headers) → is_field_named x f ≡ false → values_of x (f ∷ fs) ≡ values_of x fs
skipped x f fs other = rw other refl

met : (x : List ℕ) (f : List ℕ × List ℕ) (fs : Headers) → is_field_named x f ≡ true → values_of x (f ∷ fs) ≡ f.1 ∷ values_of x fs
met x f fs same = rw same refl

at : (x : List ℕ) (fs : Headers) (i : ℕ) (f : List ℕ × List ℕ) → i < length fs → f ≡ get_or fs i f → values_of x (drop i fs) ≡ values_of x (f ∷ drop (i + 1) fs)
at x fs i f lt is = ap (values_of x) (drop_more fs i f lt ∙ ap (λ (g : List ℕ × List ℕ). g ∷ drop (i + 1) fs) (sym is))

pub passed : (x : List ℕ) (fs : Headers) (i : ℕ) (f : List ℕ × List ℕ) → i < length fs → f ≡ get_or fs i f → is_field_named x f ≡ false
    → values_of x (drop (i + 1) fs) ≡ values_of x (drop i fs)
passed x fs i f lt is other = sym (at x fs i f lt is ∙ skipped x f (drop (i + 1) fs) other)

pub found : (x : List ℕ) (fs : Headers) (i : ℕ) (f : List ℕ × List ℕ) → i < length fs → f ≡ get_or fs i f → is_field_named x f ≡ true
    → values_of x (drop i fs) ≡ f.1 ∷ values_of x (drop (i + 1) fs)
found x fs i f lt is same = at x fs i f lt is ∙ met x f (drop (i + 1) fs) same

-- lengths that agree
pub length_is : (absent : Framing) (fs : Headers) (first : List ℕ) (rest : List (List ℕ)) → lengths_in fs ≡ first ∷ rest → is_number first ≡ true
    → all_equal (digits_value 10 first) rest ≡ true → by_length absent (lengths_in fs) ≡ OfLength (digits_value 10 first)
length_is absent fs first rest are number same = rw (are, number, same) refl
