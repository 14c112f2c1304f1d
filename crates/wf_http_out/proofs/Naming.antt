-- A name is among those of some fields where one of them has it.
use Rattle.std.proofs.Common.{◌≡◌, ℕ, zero, suc, ◌<◌, ◌||◌, Bool, true, List, [], ◌∷◌, length, get_or, sym, ap, subst, ◌∙◌, arith}
use Rattle.std.specs.Prelude.{bytes_eq, fold}
use Rattle.wf_lemmas.proofs.Bools.{or_true}
use Rattle.http_uri.specs.ByteClasses.{lowercase}
use Rattle.wf_value.specs.HttpRequest.{is_among}
use Rattle.wf_http_out.specs.Fields.{names_before}
use Rattle.wf_value.specs.Pairs.{Text}

abbrev names_behind : List Text → List (Text × Text) → List Text
names_behind names fs = fold (λ ns f. lowercase f.0 ∷ ns) names fs

stays : (x : Text) (names : List Text) (fs : List (Text × Text)) → is_among x names ≡ true → is_among x (names_behind names fs) ≡ true
stays x names [] h = h
stays x names (f ∷ fs) h = stays x (lowercase f.0 ∷ names) fs (or_true (bytes_eq x (lowercase f.0)) (is_among x names) h)

found : (x : Text) (names : List Text) (fs : List (Text × Text)) (i : ℕ) (d : Text × Text) → i < length fs
    → bytes_eq x (lowercase (get_or fs i d).0) ≡ true → is_among x (names_behind names fs) ≡ true
found x names [] i d lt h = absurd (omega (arith, lt))
found x names (f ∷ fs) zero d lt h = stays x (lowercase f.0 ∷ names) fs (ap (λ (t : Bool). t || is_among x names) h)
found x names (f ∷ fs) (suc i) d lt h = found x (lowercase f.0 ∷ names) fs i d (omega (arith, lt)) h

pub among_names : (x : Text) (fs : List (Text × Text)) (i : ℕ) (f : Text × Text) (key : Text) → i < length fs → f ≡ get_or fs i f
    → key ≡ f.0 → true ≡ bytes_eq x (lowercase key) → true ≡ is_among x (names_before fs)
among_names x fs i f key lt is key_is same =
    sym (found x [] fs i f lt
    (subst (λ (k : Text). bytes_eq x (lowercase k) ≡ true) (key_is ∙ ap (λ (p : Text × Text). p.0) is) (sym same)))
