-- The rules that the deeds of one command keep, for the records that stand on the disk at a moment.
--     Session     the records, the number of the session, the deeds begun by then, the command, and its end if it has ended
--     Kept        the rules: on calls, waits, answers, readings and visits
use Rattle.std.specs.Prelude.{◌≡◌, ◌≢◌, ◌⊎◌, ◌≤◌, ℕ, suc, Bool, true, false, IsTrue, List, [], ◌∷◌, ◌++◌, length, All, Option, Some, None}
use Rattle.wf_deeds.specs.Deeds.{polls, nows, reading_by, was_started, was_dropped, was_replied, starts_or_polls, before_poll, Split, poll_at, ComesTo, Decision, decision, visits_after}
use Rattle.wf_host.specs.World.{call_of}
use Rattle.wf_deeds.specs.Outside.{Outside, Verdict, Arrives, code_of}
use Rattle.wf_events.specs.View.{address_view}
use Rattle.wf_host.specs.declared.data.Address.{Address}
use Rattle.wf_host.specs.declared.data.Deed.{Deed}
use Rattle.wf_host.specs.declared.data.Deed.TheVariants.{Start, Poll, Reply, Drop}
use Rattle.wf_host.specs.declared.data.Heard.{Heard}
use Rattle.wf_host.specs.declared.data.What.{What}
pub use Rattle.wf_model.specs.ChoiceLaws.{reading_of}
use Rattle.wf_model.specs.Config.{TimedOut, Config, Active}
use Rattle.wf_model.specs.Ready.{call, least_due, quiet, request_of}
use Rattle.wf_deeds.specs.At.{Journal, journal, config_at, config_before, session_turns}
use Rattle.wf_deeds.specs.Language.{Language}
use Rattle.wf_value.specs.Events as plain
use Rattle.wf_value.specs.Events.{Event, Arrive, Turn, Visitor}
use Rattle.wf_value.specs.HttpRequest.{Request}
use Rattle.wf_value.specs.HttpText.{reply_bytes}

-- a command that begins an execution, or one that goes on with it
pub data Command : Type 0 where
  Run : Command
  Resume : Command

pub record Session : Type 0 where
  pub payloads : List (List ℕ)
  pub number : ℕ
  pub deeds : List Deed
  pub command : Command
  -- the exit status
  pub end : Option ℕ
  -- whether what it heard was handed to it, and it didn't wait for that by itself
  pub handed : Bool

-- an event that stands in a turn among some turns
pub record Place (ts : List Turn) (t : Turn) (e : Event) : Type 0 where
  pub earlier : List Turn
  pub later : List Turn
  pub turn : ts ≡ earlier ++ t ∷ later
  pub front : List Event
  pub back : List Event
  pub event : t.events ≡ front ++ e ∷ back

-- the first event of the first turn with its waits
pub record IsFirst (ts : List Turn) (t : Turn) (e : Event) (p : Place ts t e) : Type 0 where
  pub of_turn : p.front ≡ []
  pub of_waits : All (λ (u : Turn). u.waits ≢ t.waits) p.earlier

-- it stands there
pub record StandsFirst (ts : List Turn) (w : ℕ) (e : Event) : Type 0 where
  pub turn : Turn
  pub waits : turn.waits ≡ w
  pub place : Place ts turn e
  pub first : IsFirst ts turn e place

abbrev pub last_of : Option Config → ℕ
last_of None = 0
last_of (Some c) = c.last

-- call k was issued and is neither answered nor timed out
abbrev pub IsOpen : Config → ℕ → Type 0
IsOpen c k = (q : Request) × (request_of c k ≡ Some q)

module _ (L : Language) (O : Outside) (x : Session) where
  -- ## What the rules speak of
  abbrev pub stands : Option Journal
  stands = journal L x.payloads

  -- the turns of this session
  abbrev pub own : List Turn
  own = session_turns stands x.number

  -- the configuration at w polls
  abbrev pub config : ℕ → Option Config
  config w = config_at stands x.number w

  -- the greatest reading by w polls: of the last one before this session, the clock's, and those of the polls
  abbrev pub reading : ℕ → ℕ
  reading w = reading_by (last_of (config_before stands x.number)) x.deeds w

  -- an end that says that the command did its work: with an outcome, or suspended
  abbrev pub EndsWell : Type 0
  EndsWell = (x.end ≡ Some 0) ⊎ (x.end ≡ Some 1) ⊎ (x.end ≡ Some 13)

  -- this deed comes between these
  abbrev pub Comes : List Deed → Deed → List Deed → Type 0
  Comes before d behind = x.deeds ≡ before ++ d ∷ behind

  -- at w polls there is this configuration, quiet and without an outcome
  pub record IsQuietAt (w : ℕ) (c : Config) : Type 0 where
    pub reached : config w ≡ Some c
    pub quiet : IsTrue (quiet c (reading w))
    pub active : c.outcome ≡ Active

  -- ## Calls
  -- a call is started only where the records that stand on the disk have it open, with its own bytes, and once
  pub record MayStart (before : List Deed) (k : ℕ) (to : Address) (bytes : List ℕ) : Type 0 where
    pub config : Config
    pub quiet : IsQuietAt (polls before) config
    pub request : request_of config k ≡ Some (record { address = address_view to; bytes = bytes })
    pub once : was_started k before ≡ false

  abbrev pub CallsAreJournaled : Type 0
  CallsAreJournaled = (before behind : List Deed) (k : ℕ) (to : Address) (bytes : List ℕ) → Comes before (Start k to bytes) behind → MayStart before k to bytes

  -- ## Waits
  -- until the least due moment, with every open call started, and those that timed out dropped
  pub record WaitsForAll (before : List Deed) (until : ℕ) (c : Config) : Type 0 where
    pub due : least_due c ≡ Some until
    pub started : (k : ℕ) → IsOpen c k → was_started k before ≡ true
    pub dropped : (k : ℕ) → was_started k before ≡ true → call c k ≡ TimedOut → was_dropped k before ≡ true

  -- a poll comes only where nothing can move; one that the session makes by itself waits for all that may come
  pub record MayPoll (before : List Deed) (until : ℕ) : Type 0 where
    pub config : Config
    pub quiet : IsQuietAt (polls before) config
    pub waits : x.handed ≡ false → WaitsForAll before until config

  pub record WaitsOnlyWhenQuiet : Type 0 where
    pub polls_wait : (before behind : List Deed) (until : ℕ) (h : Heard) → Comes before (Poll until h) behind → MayPoll before until
    pub drops_closed : (before behind : List Deed) (k : ℕ) (c : Config) → Comes before (Drop k) behind → config (polls before) ≡ Some c → ¬ IsOpen c k
    pub at_end : x.end ≡ Some 13 → (c : Config) × (config (polls x.deeds) ≡ Some c) × IsTrue (quiet c (reading (polls x.deeds)))

  -- ## Answers
  -- a poll behind these deeds answers the call: it is of the call, what was told since its start comes to the answer, and before it to none
  pub record Answers (before : List Deed) (poll : Deed) (heard : What) (k : ℕ) (a : plain.Reply) : Type 0 where
    pub of_call : call_of heard ≡ Some k
    pub now : ComesTo k (before ++ poll ∷ []) (Some a)
    pub not_yet : ComesTo k before None

  -- poll w answers the call
  pub record AnsweredAt (w k : ℕ) (a : plain.Reply) : Type 0 where
    pub split : Split
    pub poll : poll_at w x.deeds ≡ Some split
    pub answers : Answers split.before split.deed split.what k a

  -- the next start or poll has begun, or the command has done its work
  abbrev pub HasGoneOn : List Deed → Type 0
  HasGoneOn behind = IsTrue (starts_or_polls behind) ⊎ EndsWell

  pub record AnswersAreHeard : Type 0 where
    -- an answer stands only where a poll gave it, and first among what follows the poll
    pub only : (t : Turn) (k r : ℕ) (a : plain.Reply) (p : Place own t (plain.Answer k r a)) → IsFirst own t (plain.Answer k r a) p × AnsweredAt t.waits k a
    -- an answer that came to an open call is taken
    pub taken : (before behind : List Deed) (until : ℕ) (h : Heard) (k : ℕ) (a : plain.Reply) (c : Config) → Comes before (Poll until h) behind → Answers before (Poll until h) h.what k a
        → config (polls before) ≡ Some c → IsOpen c k → HasGoneOn behind → (r : ℕ) × StandsFirst own (suc (polls before)) (plain.Answer k r a)

  -- ## Readings
  pub record ReadingsAreOfTheClock : Type 0 where
    -- no turn has more waits than there were polls, and its readings are the greatest that was read by then
    pub waits : All (λ (t : Turn). t.waits ≤ polls x.deeds) own
    pub readings : (t : Turn) (e : Event) (r : ℕ) → Place own t e → reading_of e ≡ Some r → r ≡ reading t.waits
    -- the clock is read once, before the first start or poll
    pub once : (own ≢ []) ⊎ IsTrue (starts_or_polls x.deeds) → length (nows x.deeds) ≡ 1
    pub first : (before behind : List Deed) (d : Deed) → Comes before d behind → IsTrue (starts_or_polls (d ∷ [])) → length (nows before) ≡ 1
    pub at_most : length (nows x.deeds) ≤ 1
    -- a resume of what had an outcome reads no clock
    pub none : (c : Config) → x.command ≡ Resume → config_before stands x.number ≡ Some c → c.outcome ≢ Active → nows x.deeds ≡ []

  -- ## Visits
  -- a poll behind these deeds decides a visit
  pub record Decides (before : List Deed) (heard : What) (d : Decision) (v : Verdict) : Type 0 where
    pub decides : decision O (visits_after O before) heard ≡ Some d
    pub config : Config
    pub at : config_at stands x.number (polls before) ≡ Some config
    pub verdict : v ≡ O.verdict config d.crowded d.told.bytes d.told.close

  pub record DecidedAt (w : ℕ) (d : Decision) (v : Verdict) : Type 0 where
    pub split : Split
    pub poll : poll_at w x.deeds ≡ Some split
    pub decides : Decides split.before split.what d v

  -- the last poll decided the visit, it had no reply since, and where it arrives its arrival stands there
  pub record MayReply (before : List Deed) (n : ℕ) (bytes : List ℕ) : Type 0 where
    pub split : Split
    pub last : poll_at (polls before) before ≡ Some split
    pub decision : Decision
    pub verdict : Verdict
    pub decided : Decides split.before split.what decision verdict
    pub visit : decision.visit ≡ n
    pub once : was_replied n split.behind ≡ false
    pub reply : bytes ≡ reply_bytes (code_of verdict)
    pub arrived : (e : ℕ) (r : Visitor) → verdict ≡ Arrives e r → (t : ℕ) × StandsFirst own (polls before) (Arrive e t r)

  -- the next poll has begun, or the command has done its work
  abbrev pub HasWaitedOn : List Deed → Type 0
  HasWaitedOn behind = (1 ≤ polls behind) ⊎ EndsWell

  pub record VisitsAreDecidedOnce : Type 0 where
    pub replies : (before behind : List Deed) (n : ℕ) (bytes : List ℕ) → Comes before (Reply n bytes) behind → MayReply before n bytes
    pub replied : (before behind : List Deed) (until : ℕ) (h : Heard) (d : Decision) (v : Verdict) → Comes before (Poll until h) behind → Decides before h.what d v
        → HasWaitedOn behind → was_replied d.visit (before_poll behind) ≡ true
    -- an arrival stands only where a visit was accepted, and first among what follows its poll
    pub only : (t : Turn) (n r : ℕ) (v : Visitor) (p : Place own t (Arrive n r v)) → IsFirst own t (Arrive n r v) p × ((d : Decision) × DecidedAt t.waits d (Arrives n v))

  -- ## All of them
  pub record Kept : Type 0 where
    pub calls : CallsAreJournaled
    pub waits : WaitsOnlyWhenQuiet
    pub answers : AnswersAreHeard
    pub readings : ReadingsAreOfTheClock
    pub visits : VisitsAreDecidedOnce
