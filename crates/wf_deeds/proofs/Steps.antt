-- How records are passed, one by one.
use Rattle.std.specs.Prelude.{◌≡◌, ℕ, List, ◌∷◌, Option, Some, None, Err}
use Rattle.std.proofs.Common.{ap}
use Rattle.wf_events.specs.Reading.{meaning}
use Rattle.wf_deeds.specs.History.{Standing, goes_on, goes_to, told}
use Rattle.wf_deeds.specs.Language.{Language}

-- where a record leads, the rest leads on from there
pub on : (L : Language) (s t : Standing) (b : List ℕ) (bs : List (List ℕ)) → goes_on L s (meaning b) ≡ Some t → goes_to L s (b ∷ bs) ≡ goes_to L t bs
on L s t b bs is = ap (λ o. elim o [ None ↦ Err (told s.number) | Some u ↦ goes_to L u bs ]) is

-- and where it doesn't, its number is told
pub off : (L : Language) (s : Standing) (b : List ℕ) (bs : List (List ℕ)) → goes_on L s (meaning b) ≡ None → goes_to L s (b ∷ bs) ≡ Err (told s.number)
off L s b bs is = ap (λ (o : Option Standing). elim o [ None ↦ Err (told s.number) | Some u ↦ goes_to L u bs ]) is
