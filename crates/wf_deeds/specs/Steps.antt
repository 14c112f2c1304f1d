-- What an engine stands for after each of its steps: a call is started or dropped, something is heard, a turn is added, a reply is made,
-- a text is printed.
use Rattle.std.specs.Prelude.{◌≡◌, ◌≢◌, ◌⊎◌, ◌≤◌, ◌||◌, ℕ, suc, max, ◌+◌, Bool, true, false, IsTrue, is_some, nat_eq, if◌then◌else◌, List, [], ◌∷◌, ◌++◌, length, Option, Some, None}
use Rattle.std.specs.List.{AllByRecursion}
use Rattle.wf_ast.specs.Tree.{Program}
use Rattle.wf_deeds.specs.Deeds.{nows, reading_by, Told, nothing_told, tells, Visit, IsSmall}
use Rattle.wf_host.specs.World.{call_of, visit_of}
use Rattle.wf_deeds.specs.Kept.{Command, Session, Kept, IsOpen, last_of}
use Rattle.wf_deeds.specs.Memory.{Owed, Memory, session, LeadsTo, IsSettled, AllIsSent, StandsFor, Brings, owes_by, decided_by, visit_by}
use Rattle.wf_deeds.specs.Outside.{Outside, code_of}
use Rattle.wf_deeds.specs.Rules.{IsOwn, with_end}
use Rattle.wf_deeds.specs.Turns.{TakeReading, turn_of}
use Rattle.wf_events.specs.Reading.{meaning}
use Rattle.wf_history.specs.Kinds.{added_record}
use Rattle.wf_events.specs.View.{address_view}
use Rattle.wf_host.specs.declared.data.Address.{Address}
use Rattle.wf_host.specs.declared.data.Deed.{Deed}
use Rattle.wf_host.specs.declared.data.Deed.TheVariants.{Start, Poll, Reply, Drop, Print}
use Rattle.wf_host.specs.declared.data.Heard.{Heard}
use Rattle.wf_model.specs.Config.{TimedOut, Config, Active, To}
use Rattle.wf_model.specs.Ready.{call, least_due, quiet, request_of}
use Rattle.wf_model.specs.Run.{run_on}
use Rattle.wf_deeds.specs.At.{journal, config_before}
use Rattle.wf_deeds.specs.Language.{Language}
use Rattle.wf_value.specs.Events.{Event, Turn}
use Rattle.wf_value.specs.HttpText.{reply_bytes}

-- ## Memories
-- with other calls
abbrev pub with_calls : Memory → (ℕ → Bool) → (ℕ → Bool) → (ℕ → Told) → Memory
with_calls m started dropped told = record m { started = started; dropped = dropped; told = told }

-- without a visit that waits for its reply
abbrev pub replied : Memory → Memory
replied m = record m { owed = None }

-- with what a turn led to
abbrev pub turned : Memory → Config → Memory
turned m c = record m { config = c; taken = None }

-- with what was heard
abbrev pub hearing : Memory → Heard → (ℕ → Told) → (ℕ → Option Visit) → ℕ → Option Event → Option Owed → Memory
hearing m h told visit undecided taken owed = record m { reading = max m.reading h.reading; waits = suc m.waits; told = told; visit = visit; undecided = undecided; taken = taken; owed = owed }

-- ## Calls
-- this call is started besides
pub record Starts (m : Memory) (k : ℕ) (started : ℕ → Bool) (told : ℕ → Told) : Type 0 where
  pub is : (j : ℕ) → started j ≡ nat_eq k j || m.started j
  pub first : told k ≡ nothing_told
  pub others : (j : ℕ) → m.started j ≡ true → told j ≡ m.told j

abbrev pub StartGoesOn : Type 0
StartGoesOn = (L : Language) (O : Outside) (command : Command) (handed : Bool) (m : Memory) (J : List (List ℕ)) (D : List Deed) (k : ℕ) (to : Address) (bytes : List ℕ) (started : ℕ → Bool) (told : ℕ → Told)
    → StandsFor L O command handed m J D → IsSettled m → m.config.outcome ≡ Active → request_of m.config k ≡ Some (record { address = address_view to; bytes = bytes }) → m.started k ≡ false → Starts m k started told
    → StandsFor L O command handed (with_calls m started m.dropped told) J (D ++ Start k to bytes ∷ [])

abbrev pub DropGoesOn : Type 0
DropGoesOn = (L : Language) (O : Outside) (command : Command) (handed : Bool) (m : Memory) (J : List (List ℕ)) (D : List Deed) (k : ℕ) (dropped : ℕ → Bool)
    → StandsFor L O command handed m J D → IsSettled m → call m.config k ≡ TimedOut → ((j : ℕ) → dropped j ≡ nat_eq k j || m.dropped j)
    → StandsFor L O command handed (with_calls m m.started dropped m.told) J (D ++ Drop k ∷ [])

-- ## Replies
abbrev pub ReplyGoesOn : Type 0
ReplyGoesOn = (L : Language) (O : Outside) (command : Command) (handed : Bool) (m : Memory) (J : List (List ℕ)) (D : List Deed) (o : Owed)
    → StandsFor L O command handed m J D → m.taken ≡ None → m.owed ≡ Some o
    → StandsFor L O command handed (replied m) J (D ++ Reply o.visit (reply_bytes (code_of o.verdict)) ∷ [])

-- ## Prints
-- where nothing waits for a turn or a reply, a print changes nothing
abbrev pub PrintGoesOn : Type 0
PrintGoesOn = (L : Language) (O : Outside) (command : Command) (handed : Bool) (m : Memory) (J : List (List ℕ)) (D : List Deed) (text : List ℕ)
    → StandsFor L O command handed m J D → m.taken ≡ None → m.owed ≡ None → StandsFor L O command handed m J (D ++ Print text ∷ [])

-- ## Hearing
abbrev pub weight : Option Visit → ℕ
weight None = 0
weight (Some v) = if v.decided then 0 else 1

-- the visits by their numbers, with what was told of one, if of any, and how many of them aren't decided
abbrev pub VisitsAre : Outside → Memory → Heard → (ℕ → Option Visit) → ℕ → Option ℕ → Type 0
VisitsAre O m h seen crowd None = ((j : ℕ) → seen j ≡ m.visit j) × (crowd ≡ m.undecided)
VisitsAre O m h seen crowd (Some n) = ((j : ℕ) → seen j ≡ (if nat_eq n j then Some (visit_by h.what n (m.visit n) (is_some (decided_by O m h))) else m.visit j))
    × (crowd + weight (m.visit n) ≡ m.undecided + weight (seen n))

-- what an engine makes of what it heard
pub record Hears (O : Outside) (m : Memory) (h : Heard) (told : ℕ → Told) (visit : ℕ → Option Visit) (undecided : ℕ) (taken : Option Event) (owed : Option Owed) : Type 0 where
  pub told_is : (k : ℕ) → IsOpen m.config k → m.started k ≡ true → told k ≡ tells k h.what (m.told k)
  pub visits_are : VisitsAre O m h visit undecided (visit_of h.what)
  pub taken_is : Brings O m h taken (call_of h.what)
  pub owed_is : owed ≡ owes_by O m (decided_by O m h)

-- before a poll by itself all is sent, and it waits until the least due moment
abbrev pub MayWait : Bool → Memory → ℕ → Type 0
MayWait handed m until = handed ≡ false → AllIsSent m × (least_due m.config ≡ Some until)

-- a poll keeps the rules, whatever is heard
abbrev pub PollIsKept : Type 0
PollIsKept = (L : Language) (O : Outside) (command : Command) (handed : Bool) (m : Memory) (J : List (List ℕ)) (D : List Deed) (until : ℕ) (h : Heard)
    → StandsFor L O command handed m J D → IsSettled m → m.config.outcome ≡ Active → MayWait handed m until → Kept L O (session command handed m J (D ++ Poll until h ∷ []))

-- what stands for a poll: one that is made, or one that is handed over, with any moment
abbrev pub HearingGoesOn : Type 0
HearingGoesOn = (L : Language) (O : Outside) (command : Command) (handed : Bool) (m : Memory) (J : List (List ℕ)) (D : List Deed) (until : ℕ) (h : Heard)
    (told : ℕ → Told) (visit : ℕ → Option Visit) (undecided : ℕ) (taken : Option Event) (owed : Option Owed)
    → StandsFor L O command handed m J D → IsSettled m → m.config.outcome ≡ Active → MayWait handed m until → Hears O m h told visit undecided taken owed
    → StandsFor L O command handed (hearing m h told visit undecided taken owed) J (D ++ Poll until h ∷ [])

-- ## Turns
abbrev pub with_taken : Option Event → List Event → List Event
with_taken None es = es
with_taken (Some e) es = e ∷ es

-- what was taken, and what nothing has to bring; they lead there, and take the reading
pub record Chooses (L : Language) (O : Outside) (x : Session) (m : Memory) (es : List Event) (c : Config) : Type 0 where
  pub rest : List Event
  pub events : es ≡ with_taken m.taken rest
  pub own : AllByRecursion (IsOwn L O x) rest
  pub leads : run_on m.program (To m.config) es ≡ To c
  pub settled : IsSettled m → es ≡ []
  pub readings : TakeReading m.reading es
  pub last : c.last ≤ m.reading

-- the turn that is added
abbrev pub turn_of_memory : Memory → List Event → Turn
turn_of_memory m es = record { session = m.session; waits = m.waits; events = es }

abbrev pub TurnGoesOn : Type 0
TurnGoesOn = (L : Language) (O : Outside) (command : Command) (handed : Bool) (m : Memory) (J : List (List ℕ)) (D : List Deed) (payload : List ℕ) (es : List Event) (c : Config)
    → StandsFor L O command handed m J D → Chooses L O (session command handed m J D) m es c → es ≢ [] → meaning payload ≡ Some (added_record (turn_of_memory m es))
    → StandsFor L O command handed (turned m c) (J ++ payload ∷ []) D

-- and the engine's own: what was taken, and then what it chooses until nothing can move
abbrev pub TurnIsChosen : Type 0
TurnIsChosen = (L : Language) (O : Outside) (command : Command) (handed : Bool) (m : Memory) (J : List (List ℕ)) (D : List Deed) (es : List Event) (c : Config)
    → StandsFor L O command handed m J D → es ≡ turn_of m.program m.config m.reading m.taken → run_on m.program (To m.config) es ≡ To c → Chooses L O (session command handed m J D) m es c

-- ## Where the records lead
-- behind such a turn they lead to where it leads
abbrev pub TurnLeadsOn : Type 0
TurnLeadsOn = (L : Language) (m : Memory) (J : List (List ℕ)) (payload : List ℕ) (es : List Event) (c : Config)
    → LeadsTo L J m → meaning payload ≡ Some (added_record (turn_of_memory m es)) → run_on m.program (To m.config) es ≡ To c → LeadsTo L (J ++ payload ∷ []) (turned m c)

-- and to what has heard something as before
abbrev pub HearingLeadsOn : Type 0
HearingLeadsOn = (L : Language) (m : Memory) (J : List (List ℕ)) (h : Heard) (told : ℕ → Told) (visit : ℕ → Option Visit) (undecided : ℕ) (taken : Option Event) (owed : Option Owed)
    → LeadsTo L J m → LeadsTo L J (hearing m h told visit undecided taken owed)

-- ## The beginning
-- a session that did nothing yet but read the clock
abbrev pub fresh : Program → Config → ℕ → ℕ → Memory
fresh p c number reading = record {
  program = p;
  config = c;
  session = number;
  reading = reading;
  waits = 0;
  started = λ k. false;
  dropped = λ k. false;
  told = λ k. nothing_told;
  visit = λ n. None;
  undecided = 0;
  taken = None;
  owed = None;
}

abbrev pub FreshStands : Type 0
FreshStands = (L : Language) (O : Outside) (command : Command) (handed : Bool) (p : Program) (c : Config) (number reading : ℕ) (J : List (List ℕ)) (D : List Deed)
    → Kept L O (session command handed (fresh p c number reading) J D) → AllByRecursion IsSmall D → LeadsTo L J (fresh p c number reading) → reading ≡ reading_by (last_of (config_before (journal L J) number)) D 0 → c.last ≤ reading
    → (c.outcome ≡ Active → length (nows D) ≡ 1) → StandsFor L O command handed (fresh p c number reading) J D

-- ## The end
-- an end with a value, an error or a pause comes where nothing that was taken or decided waits, and a pause where nothing can move
abbrev pub EndIsKept : Type 0
EndIsKept = (L : Language) (O : Outside) (command : Command) (handed : Bool) (m : Memory) (J : List (List ℕ)) (D : List Deed) (status : ℕ)
    → StandsFor L O command handed m J D → ((status ≡ 0) ⊎ (status ≡ 1) ⊎ (status ≡ 13) → (m.taken ≡ None) × (m.owed ≡ None)) → (status ≡ 13 → IsTrue (quiet m.config m.reading))
    → Kept L O (with_end (session command handed m J D) status)

-- ## Handed over
-- an engine that polled by itself may be handed more
abbrev pub HandedStands : Type 0
HandedStands = (L : Language) (O : Outside) (command : Command) (m : Memory) (J : List (List ℕ)) (D : List Deed) → StandsFor L O command false m J D → StandsFor L O command true m J D
