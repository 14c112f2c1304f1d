-- What an engine makes of a visit, and that its memory stands for it.
--     HearsVisit    what the visits of a session hand on of what was heard
--     Judges        what is owed and taken by the verdict
use Rattle.std.specs.Prelude.{◌≡◌, ◌≢◌, ◌+◌, ℕ, max, Bool, false, is_some, nat_eq, if◌then◌else◌, List, [], ◌∷◌, ◌++◌, Option, Some, None, option_map, option_and_then}
use Rattle.wf_deeds.specs.Deeds.{Told, Visit, Decision}
use Rattle.wf_deeds.specs.Kept.{Command}
use Rattle.wf_deeds.specs.Language.{Language}
use Rattle.wf_deeds.specs.Memory.{Memory, Owed, IsSettled, StandsFor, arrival_by, decision_by, session, visit_by}
use Rattle.wf_deeds.specs.Outside.{Outside, code_of}
use Rattle.wf_deeds.specs.Steps.{Chooses, Hears, MayWait, hearing, replied, turn_of_memory, turned, weight}
use Rattle.wf_events.specs.Reading.{meaning}
use Rattle.wf_history.specs.Kinds.{added_record}
use Rattle.wf_host.specs.World.{call_of, visit_of}
use Rattle.wf_host.specs.declared.data.Deed.{Deed}
use Rattle.wf_host.specs.declared.data.Deed.TheVariants.{Poll, Reply}
use Rattle.wf_host.specs.declared.data.Heard.{Heard}
use Rattle.wf_host.specs.declared.data.What.{What}
use Rattle.wf_http_serve.specs.Visits.{VisitState}
use Rattle.wf_model.specs.Config.{Config, Active}
use Rattle.wf_value.specs.Events.{Event}
use Rattle.wf_value.specs.HttpText.{reply_bytes}
use Rattle.wf_deeds.specs.Verdicts.{IsState, IsTheOutside, verdict_of}

-- ## Visits
-- by their numbers before and behind, how many weren't decided and aren't, what was heard, and what it decides
pub record HearsVisit (O : Outside) (before behind : ℕ → Option Visit) (crowd left : ℕ) (w : What) (d : Option Decision) : Type 0 where
  pub decides : d ≡ option_and_then (λ n. decision_by O crowd n w (before n)) (visit_of w)
  pub here : (n : ℕ) → visit_of w ≡ Some n → ((j : ℕ) → behind j ≡ (if nat_eq n j then Some (visit_by w n (before n) (is_some d)) else before j)) × (left + weight (before n) ≡ crowd + weight (behind n))
  pub elsewhere : visit_of w ≡ None → ((j : ℕ) → behind j ≡ before j) × (left ≡ crowd)

-- ## Verdicts
-- a decision, with what the visit asks where it didn't come to a crowd
pub record Judged : Type 0 where
  pub decision : Decision
  pub state : VisitState
  pub read : decision.crowded ≡ false → IsState decision.told.bytes decision.told.close state

abbrev pub decision_in : Option Judged → Option Decision
decision_in j = option_map (λ (x : Judged). x.decision) j

-- the reply that is owed
abbrev pub owed_of : Config → Option Judged → Option Owed
owed_of c j = option_map (λ (x : Judged). record { visit = x.decision.visit; verdict = verdict_of c x.decision.crowded x.state }) j

-- and the arrival that waits for its turn
abbrev pub taken_of : Option Owed → ℕ → Option Event
taken_of o r = option_and_then (λ (x : Owed). arrival_by x.verdict r) o

-- what is heard is of no call, and this is made of it
pub record Judges (O : Outside) (m : Memory) (h : Heard) (told : ℕ → Told) (visit : ℕ → Option Visit) (undecided : ℕ) (taken : Option Event) (owed : Option Owed) : Type 0 where
  pub judged : Option Judged
  pub of_no_call : call_of h.what ≡ None
  pub told_is : (k : ℕ) → told k ≡ m.told k
  pub visits_are : HearsVisit O m.visit visit m.undecided undecided h.what (decision_in judged)
  pub owed_is : owed ≡ owed_of m.config judged
  pub taken_is : taken ≡ taken_of owed (max m.reading h.reading)

-- ## Laws
-- this is what the rules ask of hearing
abbrev pub JudgedIsHeard : Type 0
JudgedIsHeard = (O : Outside) (m : Memory) (h : Heard) (told : ℕ → Told) (visit : ℕ → Option Visit) (undecided : ℕ) (taken : Option Event) (owed : Option Owed)
    → IsTheOutside O → Judges O m h told visit undecided taken owed → Hears O m h told visit undecided taken owed

-- so what is handed to an engine, or polled, stands
abbrev pub VisitGoesOn : Type 0
VisitGoesOn = (L : Language) (O : Outside) (command : Command) (handed : Bool) (m : Memory) (J : List (List ℕ)) (D : List Deed) (until : ℕ) (h : Heard) (told : ℕ → Told) (visit : ℕ → Option Visit) (undecided : ℕ) (taken : Option Event) (owed : Option Owed)
    → IsTheOutside O → StandsFor L O command handed m J D → IsSettled m → m.config.outcome ≡ Active → MayWait handed m until → Judges O m h told visit undecided taken owed
    → StandsFor L O command handed (hearing m h told visit undecided taken owed) J (D ++ Poll until h ∷ [])

-- a turn with an event, and behind it the reply
abbrev pub TurnReplies : Type 0
TurnReplies = (L : Language) (O : Outside) (command : Command) (handed : Bool) (m : Memory) (J : List (List ℕ)) (D : List Deed) (payload : List ℕ) (es : List Event) (c : Config) (o : Owed)
    → StandsFor L O command handed m J D → Chooses L O (session command handed m J D) m es c → es ≢ [] → meaning payload ≡ Some (added_record (turn_of_memory m es)) → m.owed ≡ Some o
    → StandsFor L O command handed (replied (turned m c)) (J ++ payload ∷ []) (D ++ Reply o.visit (reply_bytes (code_of o.verdict)) ∷ [])
