-- Laws of histories, as they stand in the contract of `laws_of_histories`.
use Rattle.std.specs.Prelude.{◌≡◌, ◌⊎◌, ◌<◌, ℕ, suc, Bool, false, IsTrue, List, [], ◌∷◌, ◌++◌, length, take, Some, Ok, Err}
use Rattle.wf_ast.specs.Tree.{Program}
use Rattle.wf_events.specs.Reading.{meaning}
use Rattle.wf_events.specs.Records.{Record}
use Rattle.wf_history.specs.Kinds.{start_of_record}
use Rattle.wf_model.specs.Config.{Config, To}
use Rattle.wf_model.specs.Run.{initial}
use Rattle.wf_deeds.specs.History.{History, Standing, history, goes_on, goes_to, may_stand, opens, plays, told}
use Rattle.wf_deeds.specs.Language.{Language}
use Rattle.wf_value.specs.Events.{Start}

-- the records lead to a configuration
abbrev pub IsHistory : Language → List (List ℕ) → Type 0
IsHistory L J = (s : Standing) × (history L J ≡ Ok s)

-- where the computed history leads, the records are one of it
abbrev pub ComputedIsHistory : Type 0
ComputedIsHistory = (L : Language) (J : List (List ℕ)) (s : Standing) → history L J ≡ Ok s → History L J s.config

-- and of each history it leads to its configuration
abbrev pub HistoryIsComputed : Type 0
HistoryIsComputed = (L : Language) (J : List (List ℕ)) (c : Config) → History L J c → (s : Standing) × (history L J ≡ Ok s) × (s.config ≡ c)

-- the number is the least n such that records 0 to n begin no history, as it is told
abbrev pub NumberIsLeast : Type 0
NumberIsLeast = (L : Language) (J : List (List ℕ)) (n : ℕ) → history L J ≡ Err n → ((J ≡ []) × (n ≡ 0))
    ⊎ ((m : ℕ) × (n ≡ told m) × (m < length J) × ¬ IsHistory L (take (suc m) J) × ((k : ℕ) → k < m → IsHistory L (take (suc k) J)))

-- a history with a record more that goes on is a history
abbrev pub RecordGoesOn : Type 0
RecordGoesOn = (L : Language) (J : List (List ℕ)) (payload : List ℕ) (s t : Standing) → history L J ≡ Ok s → goes_on L s (meaning payload) ≡ Some t → history L (J ++ payload ∷ []) ≡ Ok t

-- and more records lead on from where a history leads
abbrev pub RecordsGoOn : Type 0
RecordsGoOn = (L : Language) (J bs : List (List ℕ)) (s : Standing) → history L J ≡ Ok s → history L (J ++ bs) ≡ goes_to L s bs

-- a start of either format, under rules that may stand, whose source is accepted is a history alone
abbrev pub StartIsAHistory : Type 0
StartIsAHistory = (L : Language) (payload : List ℕ) (r : Record) (s : Start) (two : Bool) (p : Program) (c : Config) → meaning payload ≡ Some r → start_of_record r ≡ Some (s, two) → IsTrue (may_stand L (s, two))
    → L.source s.source ≡ Some p → initial p s ≡ To c → history L (payload ∷ []) ≡ Ok (record { program = p; config = c; number = 1; session = 0; waits = 0; two = two; marks = false })

-- what stands in front of a history's records is a history
abbrev pub FrontIsAHistory : Type 0
FrontIsAHistory = (L : Language) (b : List ℕ) (bs cs : List (List ℕ)) (t : Standing) → history L (b ∷ bs ++ cs) ≡ Ok t → IsHistory L (b ∷ bs)

-- a history opens, and plays, and leads where it leads
abbrev pub HistoryOpens : Type 0
HistoryOpens = (L : Language) (J : List (List ℕ)) (s : Standing) → history L J ≡ Ok s → opens L J ≡ Ok s

abbrev pub HistoryPlays : Type 0
HistoryPlays = (L : Language) (J : List (List ℕ)) (s : Standing) → history L J ≡ Ok s → plays L J ≡ Ok s

-- by now no snapshot is read, so what plays is a history
abbrev pub PlayedIsHistory : Type 0
PlayedIsHistory = (L : Language) (J : List (List ℕ)) → plays L J ≡ history L J
