-- What lists and maps hold, inside a value and as contracts see them.
use Rattle.std.proofs.Common.{◌≡◌, ℕ, Bool, ◌||◌, List, [], ◌∷◌, map, refl, ap}
use Rattle.std.specs.List.{list_any}
use Rattle.wf_value.specs.Data.{Data, items_of, pairs_of}
use Rattle.wf_value.specs.Pairs.{items, pair_list}

pub items-items_of : (ds : List Data) → items (items_of ds) ≡ ds
items-items_of [] = refl
items-items_of (d ∷ ds) = ap (λ es. d ∷ es) (items-items_of ds)

pub pair_list-pairs_of : (ps : List (List ℕ × Data)) → pair_list (pairs_of ps) ≡ ps
pair_list-pairs_of [] = refl
pair_list-pairs_of (p ∷ ps) = ap (λ qs. p ∷ qs) (pair_list-pairs_of ps)

pub list_any-map : {X Y : Type 0} (p : Y → Bool) (f : X → Y) (xs : List X) → list_any p (map f xs) ≡ list_any (λ x. p (f x)) xs
list_any-map p f [] = refl
list_any-map p f (x ∷ xs) = ap (λ b. p (f x) || b) (list_any-map p f xs)
