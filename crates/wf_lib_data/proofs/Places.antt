-- Lists and maps inside values, and their places.
use Rattle.std.proofs.Common.{◌≡◌, ℕ, zero, suc, ◌+◌, ◌<◌, List, [], ◌∷◌, ◌++◌, length, take, get_or, refl, sym, ap, ◌∙◌, add-one, arith}
use Rattle.wf_value.specs.Data.{Data, pairs_of, items_of}
use Rattle.wf_value.specs.Pairs.{items, pair_list}
use Rattle.wf_value.specs.Plain.{plain, plain_items}
use Rattle.wf_value.specs.declared.value.Value.{Value}

pub pairs_listed : (ps : List (List ℕ × Data)) → pair_list (pairs_of ps) ≡ ps
pairs_listed [] = refl
pairs_listed (p ∷ ps) = ap (λ l. p ∷ l) (pairs_listed ps)

pub items_listed : (ds : List Data) → items (items_of ds) ≡ ds
items_listed [] = refl
items_listed (d ∷ ds) = ap (λ l. d ∷ l) (items_listed ds)

-- the trees up to an index, and one more
taken : (vs : List Value) (i : ℕ) (x : Value) → i < length vs → x ≡ get_or vs i x → take (suc i) (plain_items vs) ≡ take i (plain_items vs) ++ plain x ∷ []
taken [] i x h is = absurd (omega (arith, h))
taken (v ∷ vs) zero x h is = ap (λ y. plain y ∷ []) (sym is)
taken (v ∷ vs) (suc i) x h is = ap (λ l. plain v ∷ l) (taken vs i x (omega (arith, h)) is)

pub item_behind : (first : Data) (list more : List Data) (vs : List Value) (i : ℕ) (x y : Value) → i < length vs → x ≡ get_or vs i x → y ≡ x → more ≡ list ++ plain y ∷ [] → list ≡ first ∷ take i (plain_items vs) → more ≡ first ∷ take (i + 1) (plain_items vs)
item_behind first list more vs i x y h is same grown so =
    grown ∙ ap (λ z. list ++ plain z ∷ []) same ∙ ap (λ l. l ++ plain x ∷ []) so
    ∙ ap (λ l. first ∷ l) (sym (taken vs i x h is))
    ∙ ap (λ j. first ∷ take j (plain_items vs)) (sym (add-one i))
