-- Texts that are one, and the keys of a set.
use Rattle.std.proofs.Common.{◌≡◌, ℕ, List, [], ◌∷◌, Bool, true, false, ◌&&◌, ◌||◌, ◌==◌, map, String, Global, string_bytes, string_cmp, refl, sym, ap, ◌∙◌}
use Rattle.std.specs.Ordering.{nat_cmp}
use Rattle.std.specs.Cmp.Lexicographic.{slice_cmp}
use Rattle.std.specs.List.{list_any}
use Rattle.std.specs.BTreeMap.{is_at}
use Rattle.std.specs.BTreeSet.{BTreeSet, Updates}
use Rattle.std.specs.Str.{bytes_eq}
use Rattle.std.proofs.lemmas.Cmp.{nat_list_eq_equiv}
use Rattle.std.proofs.lemmas.Map.Text.{is_eq-slice_cmp, btree_set_updates_text}
use Rattle.std.proofs.lemmas.Slice.Eq.{bytes_eq-Decides}
use Rattle.wf_lemmas.proofs.Bools.{cond_or}
use Rattle.wf_yaml_line.specs.Marks.{is_same, is_one_of}

pub bytes_same : (s t : List ℕ) → bytes_eq s t ≡ is_same s t
bytes_same [] [] = refl
bytes_same [] (b ∷ t) = refl
bytes_same (a ∷ s) [] = refl
bytes_same (a ∷ s) (b ∷ t) = ap (λ e. a == b && e) (bytes_same s t)

pub turned : (s t : List ℕ) → bytes_eq s t ≡ is_same t s
turned s t = nat_list_eq_equiv.symm s t ∙ bytes_same t s

pub same_is : (s t : List ℕ) → is_same s t ≡ true → s ≡ t
same_is s t e = (bytes_eq-Decides s t).0 (bytes_same s t ∙ e)

other : (b : Bool) → (b ≡ true → ⊥) → false ≡ b
other true n = absurd (n refl)
other false n = refl

-- a text that is none of three
pub none_of_three : (a b c k : List ℕ) → (k ≡ a → ⊥) → (k ≡ b → ⊥) → (k ≡ c → ⊥) → false ≡ is_one_of (a ∷ b ∷ c ∷ []) k
none_of_three a b c k x y z = λ i. other (is_same a k) (λ e. x (sym (same_is a k e))) i || (other (is_same b k) (λ e. y (sym (same_is b k e))) i || (other (is_same c k) (λ e. z (sym (same_is c k e))) i || false))

-- ---- the keys of a set

pub has_key : (k : List ℕ) (ks : List (String Global)) → list_any (is_at (λ y. slice_cmp nat_cmp k (string_bytes y))) ks ≡ is_one_of (map string_bytes ks) k
has_key k [] = refl
has_key k (y ∷ ks) = λ i. (is_eq-slice_cmp k (string_bytes y) ∙ turned k (string_bytes y)) i || has_key k ks i

pub with_key : (k : List ℕ) (l : String Global) (s n : BTreeSet (String Global)) → Updates string_cmp s n l true
    → is_one_of (map string_bytes n.keys) k ≡ (is_same (string_bytes l) k || is_one_of (map string_bytes s.keys) k)
with_key k l s n u =
    sym (has_key k n.keys)
    ∙ btree_set_updates_text (string_bytes l) s n true u k
    ∙ cond_or (bytes_eq (string_bytes l) k) (list_any (is_at (λ y. slice_cmp nat_cmp k (string_bytes y))) s.keys)
    ∙ (λ i. bytes_same (string_bytes l) k i || has_key k s.keys i)
