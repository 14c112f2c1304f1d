-- What an answer says of its meaning, and the pairs of a map.
use Rattle.std.proofs.Common.{◌≡◌, ℕ, List, [], ◌∷◌, Ok, Err, refl, sym, ap}
use Rattle.wf_eval.specs.Answers.{Answers}
use Rattle.wf_value.specs.Data.{Data, pairs_of}
use Rattle.wf_value.specs.Errors.{Answer}
use Rattle.wf_value.specs.Pairs.{pair_list}

pub gave : {A B : Type 0} (f : A → B) (v : A) (d : Answer B) → Answers f (Ok v) d → d ≡ Ok (f v)
gave f v (Ok d) e = ap Ok (sym e)
gave f v (Err t) e = absurd e

pub pairs_listed : (ps : List (List ℕ × Data)) → pair_list (pairs_of ps) ≡ ps
pairs_listed [] = refl
pairs_listed (p ∷ ps) = ap (λ l. p ∷ l) (pairs_listed ps)
