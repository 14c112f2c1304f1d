-- The clauses of an engine's calls, over its memory and the host before and behind a call.
--     Went            the engine stands for each list for which it stood, with the call's own deeds
--     AreAdded        records that a session adds
--     KeptAt          a moment of a call: a history under the rules, and at most so many polls
--     AddsTurn, SendsOpen, Takes, Sessions    what the calls do besides
use Rattle.std.specs.Prelude.{◌≡◌, ◌≢◌, ◌⊎◌, ◌≤◌, ◌&&◌, ℕ, zero, suc, Bool, true, false, not, IsTrue, is_some, if◌then◌else◌, List, [], ◌∷◌, ◌++◌, length, Option, Some, None}
use Rattle.std.specs.List.{AllByRecursion}
use Rattle.wf_deeds.specs.Deeds.{polls}
use Rattle.wf_host.specs.Printing.{printed}
use Rattle.wf_deeds.specs.Kept.{Command, Kept, Resume}
use Rattle.wf_deeds.specs.Memory.{Owed, LeadsTo, Memory, IsSettled, AllIsSent, StandsFor, session}
use Rattle.wf_deeds.specs.Outside.{Outside, code_of}
use Rattle.wf_deeds.specs.Steps.{MayWait}
use Rattle.wf_deeds.specs.Turns.{turn_of}
use Rattle.wf_events.specs.Reading.{meaning}
use Rattle.wf_events.specs.Spelling.{record_bytes}
use Rattle.wf_host.specs.World.{World, LeavesOnly}
use Rattle.wf_host.specs.declared.data.Address.{Address}
use Rattle.wf_host.specs.declared.data.Deed.{Deed}
use Rattle.wf_host.specs.declared.data.Deed.TheVariants.{Start, Poll, Now, Reply, Drop}
use Rattle.wf_host.specs.declared.data.Heard.{Heard}
use Rattle.wf_journal.specs.Records.{records}
use Rattle.wf_journal.specs.Steps.{Moment}
use Rattle.wf_model.specs.Config.{Call, TimedOut, Active}
use Rattle.wf_model.specs.Ready.{call, quiet, request_of}
use Rattle.wf_deeds.specs.Language.{Language}
use Rattle.wf_deeds.specs.HistoryLaws.{IsHistory}
use Rattle.wf_history.specs.Kinds.{added_record, turn_in}
use Rattle.wf_value.specs.Events.{Event, Turn}
use Rattle.wf_value.specs.HttpText.{reply_bytes}

-- ## Moments
-- a turn that the record means is of this session
abbrev pub IsOfSession : ℕ → List ℕ → Type 0
IsOfSession number payload = (t : Turn) → turn_in (meaning payload) ≡ Some t → t.session ≡ number

-- what a session adds behind these records: each turn is its own
abbrev pub AreAdded : Language → List (List ℕ) → ℕ → List (List ℕ) → Type 0
AreAdded L before number added = AllByRecursion (IsOfSession number) added

-- at a moment of a call that polls at most so often: a history that goes on from the records before, under the rules, with the deeds of the
-- call behind those before
pub record KeptAt (L : Language) (O : Outside) (command : Command) (handed : Bool) (m : Memory) (most : ℕ) (before : List (List ℕ)) (D : List Deed) (J : List (List ℕ)) (E : List Deed) : Type 0 where
  pub added : List (List ℕ)
  pub records : J ≡ before ++ added
  pub own : AreAdded L before m.session added
  pub history : IsHistory L J
  pub kept : Kept L O (session command handed m J (D ++ E))
  -- nothing was printed
  pub silent : printed E ≡ []
  -- and it has polled no more often
  pub polled : polls E ≤ most

-- what a crash at any moment of a call that polls at most so often leaves is kept, for each list for which the engine stood
abbrev pub KeptWithin : Language → Outside → ℕ → Memory → World → World → Type 0
KeptWithin L O most m old new = (command : Command) (handed : Bool) (D : List Deed) → StandsFor L O command handed m (records old.seen) D
    → LeavesOnly old new (Moment old (KeptAt L O command handed m most (records old.seen) D))

-- and of a call that doesn't poll
abbrev pub KeptThroughout : Language → Outside → Memory → World → World → Type 0
KeptThroughout L O m old new = KeptWithin L O 0 m old new

-- ## Behind a call
pub record Went (L : Language) (O : Outside) (m n : Memory) (old new : World) (done : List Deed) : Type 0 where
  pub deeds : new.deeds ≡ old.deeds ++ done
  pub stands : (command : Command) (handed : Bool) (D : List Deed) → StandsFor L O command handed m (records old.seen) D → StandsFor L O command handed n (records new.seen) (D ++ done)
  -- and where the records led to it they lead to it still
  pub leads : LeadsTo L (records old.seen) m → LeadsTo L (records new.seen) n

-- ## Turns
-- the record of a turn of the session, and none where it has no event
abbrev pub turn_records : ℕ → ℕ → List Event → List (List ℕ)
turn_records session waits [] = []
turn_records session waits (e ∷ es) = record_bytes (added_record (record { session = session; waits = waits; events = e ∷ es })) ∷ []

-- the reply that a visit waits for
abbrev pub replies_of : Option Owed → List Deed
replies_of None = []
replies_of (Some o) = Reply o.visit (reply_bytes (code_of o.verdict)) ∷ []

-- a turn adds what was taken and what is chosen, and then replies
pub record AddsTurn (L : Language) (O : Outside) (m n : Memory) (old new : World) : Type 0 where
  pub went : Went L O m n old new (replies_of m.owed)
  pub turn : records new.seen ≡ records old.seen ++ turn_records m.session m.waits (turn_of m.program m.config m.reading m.taken)
  pub taken : n.taken ≡ None
  pub owed : n.owed ≡ None

-- turn after turn, without a deed
abbrev pub AddsTurns : Language → Outside → Memory → Memory → World → World → Type 0
AddsTurns L O m n old new = Went L O m n old new []

-- ## Sending
abbrev pub is_timed_out : Call → Bool
is_timed_out TimedOut = true
is_timed_out x = false

-- of the calls from a number on, so many
abbrev pub those : (ℕ → Bool) → ℕ → ℕ → List ℕ
those test from zero = []
those test from (suc n) = if test from then from ∷ those test (suc from) n else those test (suc from) n

abbrev pub to_start : Memory → List ℕ
to_start m = those (λ k. is_some (request_of m.config k) && not (m.started k)) 1 (length m.config.calls)

abbrev pub to_drop : Memory → List ℕ
to_drop m = those (λ k. is_timed_out (call m.config k) && m.started k && not (m.dropped k)) 1 (length m.config.calls)

-- the deeds are drops of these calls and then starts of those
pub data IsSending : List ℕ → List ℕ → List Deed → Type 0 where
  none : IsSending [] [] []
  start : {ks : List ℕ} {ds : List Deed} (k : ℕ) (to : Address) (bytes : List ℕ) → IsSending [] ks ds → IsSending [] (k ∷ ks) (Start k to bytes ∷ ds)
  drop : {js ks : List ℕ} {ds : List Deed} (j : ℕ) → IsSending js ks ds → IsSending (j ∷ js) ks (Drop j ∷ ds)

-- each started call that timed out is dropped, and each open call that wasn't started is; with an outcome nothing is done
pub record SendsOpen (L : Language) (O : Outside) (m n : Memory) (old new : World) : Type 0 where
  pub done : List Deed
  pub went : Went L O m n old new done
  pub sends : m.config.outcome ≡ Active → IsSending (to_drop m) (to_start m) done
  pub sent : m.config.outcome ≡ Active → AllIsSent n
  pub ended : m.config.outcome ≢ Active → done ≡ []
  pub seen : new.seen ≡ old.seen
  pub config : n.config ≡ m.config
  pub reading : n.reading ≡ m.reading
  pub settled : IsSettled n

-- ## Hearing
-- what was heard stands for a poll until any moment; for a session that polls by itself, until the least due moment, with all sent
pub record Takes (L : Language) (O : Outside) (m n : Memory) (heard : Heard) : Type 0 where
  pub stands : (command : Command) (handed : Bool) (J : List (List ℕ)) (D : List Deed) (until : ℕ) → StandsFor L O command handed m J D → MayWait handed m until
      → StandsFor L O command handed n J (D ++ Poll until heard ∷ [])
  pub leads : (J : List (List ℕ)) → LeadsTo L J m → LeadsTo L J n
  pub waits : n.waits ≡ suc m.waits

-- what is open is sent, and then one poll is made
pub record Waits (L : Language) (O : Outside) (m n : Memory) (old new : World) : Type 0 where
  pub done : List Deed
  pub went : Went L O m n old new done
  pub once : polls done ≡ 1

-- ## Sessions
-- it ended with an outcome, or it is suspended: its polls reached the bound, and nothing can move
pub data HowItEnds : (suspended : Bool) (bound : ℕ) → Memory → List Deed → Type 0 where
  ended : {bound : ℕ} {n : Memory} {done : List Deed} → n.config.outcome ≢ Active → polls done ≤ bound → HowItEnds false bound n done
  paused : {bound : ℕ} {n : Memory} {done : List Deed} → n.config.outcome ≡ Active → polls done ≡ bound → IsTrue (quiet n.config n.reading) → HowItEnds true bound n done

pub record Sessions (L : Language) (O : Outside) (suspended : Bool) (bound : ℕ) (m n : Memory) (old new : World) : Type 0 where
  pub done : List Deed
  pub went : Went L O m n old new done
  pub ends : HowItEnds suspended bound n done
  pub settled : IsSettled n

-- ## Opening
-- an opened engine: the records lead to it, and where they are a history it stands for them; with an outcome it has done nothing, and else it has
-- read the clock once
pub record Opened (L : Language) (O : Outside) (m : Memory) (old new : World) : Type 0 where
  pub done : List Deed
  pub deeds : new.deeds ≡ old.deeds ++ done
  pub leads : LeadsTo L (records new.seen) m
  pub stands : IsHistory L (records new.seen) → (handed : Bool) → StandsFor L O Resume handed m (records new.seen) done
  pub clock : ((m.config.outcome ≢ Active) × (done ≡ [])) ⊎ ((m.config.outcome ≡ Active) × ((t : ℕ) × (done ≡ Now t ∷ [])))

-- ## The law of moments
-- with turns of the session and deeds that print nothing and poll no more often, behind the records before, what an engine stands for is kept
abbrev pub StandsIsKept : Type 0
StandsIsKept = (L : Language) (O : Outside) (command : Command) (handed : Bool) (m n : Memory) (most : ℕ) (before added : List (List ℕ)) (D E : List Deed)
    → StandsFor L O command handed n (before ++ added) (D ++ E) → n.session ≡ m.session → AreAdded L before m.session added → printed E ≡ [] → polls E ≤ most
    → KeptAt L O command handed m most before D (before ++ added) E
