-- The number in a fault.
use Rattle.std.specs.Prelude.{◌≡◌, ℕ, List, ◌∷◌, Option, Some, None, Result, Ok, Err, IfErr, IsErr, IsErrAnd}
use Rattle.std.proofs.Common.{refl, sym, ◌∙◌, ap, subst}
use Rattle.wf_events.specs.Reading.{meaning}
use Rattle.wf_events.specs.Records.{Record}
use Rattle.wf_history.specs.Stands.{IsBadAt}
use Rattle.wf_history.specs.declared.fault.HistoryFault.{HistoryFault}
use Rattle.wf_history.specs.declared.fault.HistoryFault.TheVariants as history
use Rattle.wf_machine.specs.declared.machine.Machine.{Machine}
use Rattle.wf_replay.specs.TheLanguage.{the_language}
use Rattle.wf_replay.proofs.Steps.{stops, stops_at_bad}
use Rattle.wf_replay.specs.Faults.{fault_of}
use Rattle.wf_deeds.specs.History.{Standing, goes_on, goes_to, told}
use Rattle.wf_replay.specs.Standing.{stands_at}
use Rattle.wf_replay.specs.declared.fault.ReplayFault.{ReplayFault}
use Rattle.wf_replay.specs.declared.fault.ReplayFault.TheVariants.{BadEvent}

-- it is that of the first record that doesn't go on
abbrev pub IsNumbered : {T : Type 0} → Result T ReplayFault → Standing → List (List ℕ) → Type 0
IsNumbered r s ahead = IfErr r (λ e. (n : ℕ) → e ≡ BadEvent n → goes_to the_language s ahead ≡ Err n)

pub number_of : (n : ℕ) (last : Option (ℕ × ℕ)) (m : Machine) → (stands_at n last m).number ≡ n
unfolding stands_at
number_of n last m = refl

same_number : (m n : ℕ) → BadEvent m ≡ BadEvent n → m ≡ n
same_number m n is = cc is

of_cause : (s : Standing) (ahead : List (List ℕ)) (cause : HistoryFault) → ((n : ℕ) → cause ≡ history.BadRecord n → IsBadAt n s.number ahead) → (n : ℕ) → fault_of cause ≡ BadEvent n → goes_to the_language s ahead ≡ Err n
of_cause s ahead (history.BadRecord m) bad n is = subst (λ k. goes_to the_language s ahead ≡ Err k) (same_number m n is) (stops_at_bad s ahead m (bad m refl))
of_cause s ahead history.DiskFault bad n is = absurd cc
of_cause s ahead history.NotAJournal bad n is = absurd cc
of_cause s ahead history.Closed bad n is = absurd cc
of_cause s ahead history.OutOfMemory bad n is = absurd cc

-- where the payload is no record
pub at_no_record : {T : Type 0} (place : ℕ) (last : Option (ℕ × ℕ)) (m : Machine) (ahead : List (List ℕ)) (r : Result T ReplayFault) (cause : HistoryFault) → IsErr r × IsErrAnd r (λ e. e ≡ fault_of cause)
    → ((n : ℕ) → cause ≡ history.BadRecord n → IsBadAt n place ahead) → IsNumbered r (stands_at place last m) ahead
at_no_record place last m ahead (Ok x) cause gives bad = absurd gives.1
at_no_record place last m ahead (Err e) cause gives bad = λ n is.
    of_cause (stands_at place last m) ahead cause (λ k was. subst (λ p. IsBadAt k p ahead) (sym (number_of place last m)) (bad k was)) n (sym gives.1 ∙ is)

-- the fault of a record behind so many others and this last turn
abbrev pub IsToldAt : ReplayFault → Record → Machine → ℕ → Option (ℕ × ℕ) → Type 0
IsToldAt cause found m place last = (n : ℕ) → cause ≡ BadEvent n → (goes_on the_language (stands_at place last m) (Some found) ≡ None) × (n ≡ told place)

-- and where it is one that doesn't go on
pub at_record : {T : Type 0} (place : ℕ) (last : Option (ℕ × ℕ)) (m : Machine) (b : List ℕ) (rest ahead : List (List ℕ)) (found : Record) (r : Result T ReplayFault) (cause : ReplayFault) → IsErr r × IsErrAnd r (λ e. e ≡ cause)
    → ahead ≡ b ∷ rest → meaning b ≡ Some found → IsToldAt cause found m place last → IsNumbered r (stands_at place last m) ahead
at_record place last m b rest ahead found (Ok x) cause gives next meant bad = absurd gives.1
at_record place last m b rest ahead found (Err e) cause gives next meant bad = λ n is.
    let (none, number) = bad n (sym gives.1 ∙ is) in
    stops (stands_at place last m) b rest ahead found n next meant none (number ∙ ap told (sym (number_of place last m)))
