-- How records that a history lends are passed.
use Rattle.std.specs.Prelude.{◌≡◌, ℕ, suc, List, ◌∷◌, Option, Some, None, Err}
use Rattle.std.proofs.Common.{sym, ◌∙◌, ap, ap₂}
use Rattle.wf_events.specs.Reading.{meaning}
use Rattle.wf_events.specs.Records.{Record}
use Rattle.wf_history.specs.Stands.{IsBadAt, last_after}
use Rattle.wf_deeds.proofs.Steps.{off, on}
use Rattle.wf_deeds.specs.History.{Standing, goes_on, goes_to, told}
use Rattle.wf_machine.specs.declared.machine.Machine.{Machine}
use Rattle.wf_replay.specs.TheLanguage.{the_language}
use Rattle.wf_replay.specs.Standing.{Passes, stands_at}

-- the same as a fact of this record, where the history stands behind it
pub passes_one : (number after : ℕ) (last now : Option (ℕ × ℕ)) (m n : Machine) (b : List ℕ) (rest ahead : List (List ℕ)) (r : Record) → ahead ≡ b ∷ rest → meaning b ≡ Some r
    → goes_on the_language (stands_at number last m) (Some r) ≡ Some (stands_at (suc number) (last_after last r) n) → after ≡ suc number → now ≡ last_after last r → Passes (stands_at number last m) (stands_at after now n) ahead rest
passes_one number after last now m n b rest ahead r next meant goes place turn = record {
  payload = b;
  next = next;
  on = ap (λ x. goes_on the_language (stands_at number last m) x) meant ∙ goes ∙ ap₂ (λ p l. Some (stands_at p l n)) (sym place) (sym turn);
}

pub stops : (s : Standing) (b : List ℕ) (rest ahead : List (List ℕ)) (r : Record) (n : ℕ) → ahead ≡ b ∷ rest → meaning b ≡ Some r → goes_on the_language s (Some r) ≡ None → n ≡ told s.number → goes_to the_language s ahead ≡ Err n
stops s b rest ahead r n next meant goes number = ap (λ l. goes_to the_language s l) next ∙ off the_language s b rest (ap (λ m. goes_on the_language s m) meant ∙ goes) ∙ ap (λ i. Err i) (sym number)

-- and of a payload that is no record
pub stops_at_bad : (s : Standing) (ahead : List (List ℕ)) (n : ℕ) → IsBadAt n s.number ahead → goes_to the_language s ahead ≡ Err n
stops_at_bad s ahead n bad = ap (λ l. goes_to the_language s l) bad.next ∙ off the_language s bad.payload bad.rest (ap (λ m. goes_on the_language s m) bad.bad) ∙ ap (λ i. Err i) (sym bad.number)
