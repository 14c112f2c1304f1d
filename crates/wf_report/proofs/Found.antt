-- Whether a text stands in others.
use Rattle.std.specs.Prelude.{◌≡◌, ◌↔◌, ◌||◌, ℕ, Bool, true, false, List, [], ◌∷◌, ◌++◌, length, drop, nat_eq}
use Rattle.std.specs.List.{starts_with}
use Rattle.std.specs.Str.Iter.{HasSubslice}
use Rattle.std.proofs.Common.{refl, ap}
use Rattle.std.proofs.lemmas.Bool.Decides.{Decides-eqb}
use Rattle.std.proofs.lemmas.Slice.Eq.{starts_is}
use Rattle.wf_lemmas.proofs.Bools.{same_answer, or_true}
use Rattle.wf_report.specs.Texts.{holds}

behind : (c : ℕ) (cs n : List ℕ) → HasSubslice cs n → HasSubslice (c ∷ cs) n
behind c cs n (a, b, is) = (c ∷ a, b, ap (λ l. c ∷ l) is)

-- where the bytes are those of the text with others before and behind it, it is found
found_by : (n s a b : List ℕ) → s ≡ a ++ (n ++ b) → holds n s ≡ true
found_by n [] [] b is = (starts_is Decides-eqb [] n (starts_with nat_eq [] n) refl).1 b is
found_by n [] (x ∷ a) b is = absurd cc
found_by n (c ∷ cs) [] b is = ap (λ t. t || holds n cs) ((starts_is Decides-eqb (c ∷ cs) n (starts_with nat_eq (c ∷ cs) n) refl).1 b is)
found_by n (c ∷ cs) (x ∷ a) b is = let rest : cs ≡ a ++ (n ++ b) = cc is in or_true (starts_with nat_eq (c ∷ cs) n) (holds n cs) (found_by n cs a b rest)

-- and where it is found, it stands there
finds : (n s : List ℕ) → holds n s ≡ true → HasSubslice s n
finds n [] is = ([], drop (length n) [], (starts_is Decides-eqb [] n (starts_with nat_eq [] n) refl).0 is)
finds n (c ∷ cs) is =
    (elim (starts_with nat_eq (c ∷ cs) n) as (λ t. starts_with nat_eq (c ∷ cs) n ≡ t → t || holds n cs ≡ true → HasSubslice (c ∷ cs) n) [
      | true ↦ λ here _. ([], drop (length n) (c ∷ cs), (starts_is Decides-eqb (c ∷ cs) n (starts_with nat_eq (c ∷ cs) n) refl).0 here)
      | false ↦ λ _ later. behind c cs n (finds n cs later)
    ]) refl is

pub is_found : (r : Bool) (n s : List ℕ) → ((r ≡ true) ↔ HasSubslice s n) → r ≡ holds n s
is_found r n s h = same_answer r (holds n s) (λ is. let f = h.0 is in found_by n s f.0 f.1 f.2) (λ is. h.1 (finds n s is))
