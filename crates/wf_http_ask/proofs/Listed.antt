-- The pairs of a map.
use Rattle.std.proofs.Common.{◌≡◌, ℕ, List, [], ◌∷◌, refl, sym, ap, ◌∙◌, Option}
use Rattle.wf_value.specs.Data.{Data, pairs_of}
use Rattle.wf_value.specs.Maps.{value_at}
use Rattle.wf_value.specs.Pairs.{get, pair_list}

pairs_listed : (ps : List (List ℕ × Data)) → pair_list (pairs_of ps) ≡ ps
pairs_listed [] = refl
pairs_listed (p ∷ ps) = ap (λ l. p ∷ l) (pairs_listed ps)

-- the value at a key
pub got : (k : List ℕ) (ps : List (List ℕ × Data)) (o : Option Data) → o ≡ value_at k ps → o ≡ get k (pairs_of ps)
got k ps o h = h ∙ ap (value_at k) (sym (pairs_listed ps))
