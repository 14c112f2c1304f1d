-- Histories: what the records of a journal have to be, so that they stand for one run of one program. They are records of both formats, with
-- snapshots; of the kinds that aren't read by now none comes.
--     History       the facts, a sentence each
--     history       the same, computed record by record: where the records lead, or the number of the first that doesn't go on
--     goes_on       one record more: the one function that says in which order the kinds of records stand
--     opens, plays  where the records of a journal lead that is opened, and of one that is played from its start
use Rattle.std.specs.Prelude.{◌≡◌, ℕ, zero, suc, Bool, true, false, is_some, ◌&&◌, ◌||◌, not, IsTrue, nat_eq, nat_lt, nat_le, if◌then◌else◌, List, [], ◌∷◌, map, Option, Some, None, option_and_then, Result, Ok, Err}
use Rattle.std.specs.List.{flat_map}
use Rattle.wf_ast.specs.Tree.{Program}
use Rattle.wf_events.specs.Reading.{meaning}
use Rattle.wf_events.specs.Records.{Record, Started, Turned, Kept, Upgrade, Packed, StartedTwo, Snapshot}
pub use Rattle.wf_history.specs.Faults.{told}
use Rattle.wf_history.specs.Kinds.{start_of_record, turn_in, turn_of_record}
use Rattle.wf_model.specs.Config.{Config, After, To}
use Rattle.wf_model.specs.Run.{initial, run_on, Run}
use Rattle.wf_deeds.specs.Language.{Language}
use Rattle.wf_value.specs.Events.{Event, Start, Turn}

-- ## The order of turns
-- sessions don't fall, nor waits within a session
abbrev pub goes_on_at : ℕ → ℕ → Turn → Bool
goes_on_at session waits t = nat_lt session t.session || (nat_eq session t.session && nat_le waits t.waits)

abbrev pub in_order : ℕ → ℕ → List Turn → Bool
in_order session waits [] = true
in_order session waits (t ∷ ts) = goes_on_at session waits t && in_order t.session t.waits ts

-- a session is at least 1, and at most the number of its record
abbrev pub is_numbered : ℕ → Turn → Bool
is_numbered n t = nat_le 1 t.session && nat_le t.session n

-- the events of some turns, in order
abbrev pub events : List Turn → List Event
events ts = flat_map (λ t. t.events) ts

-- ## The kinds of records
abbrev pub with_turn : Option Turn → List Turn → List Turn
with_turn None ts = ts
with_turn (Some t) ts = t ∷ ts

-- the turns among some records, in order
abbrev pub turns_of : List Record → List Turn
turns_of [] = []
turns_of (r ∷ rs) = with_turn (turn_of_record r) (turns_of rs)

-- the rules of a start of the second format may stand; those of the first are the first
abbrev pub may_stand : Language → Start × Bool → Bool
may_stand L x = if x.1 then nat_le x.0.rules L.rules else true

-- turns stand before the upgrade and packed turns behind it; no upgrade stands behind another or under the second format, and no start behind the
-- first record
abbrev pub in_format : Bool → List Record → Bool
in_format two [] = true
in_format false (Turned t ∷ rs) = in_format false rs
in_format true (Packed t ∷ rs) = in_format true rs
in_format false (Upgrade ∷ rs) = in_format true rs
in_format two (Kept k ∷ rs) = in_format two rs
in_format two (r ∷ rs) = false

abbrev pub are_numbered : ℕ → List Record → Bool
are_numbered n [] = true
are_numbered n (Turned t ∷ rs) = is_numbered n t && are_numbered (suc n) rs
are_numbered n (Packed t ∷ rs) = is_numbered n t && are_numbered (suc n) rs
are_numbered n (r ∷ rs) = are_numbered (suc n) rs

-- ## Snapshots
-- this configuration and this turn stand before a snapshot, and it tells of them
pub record Tells (L : Language) (p : Program) (a : After) (before : Option Turn) (k : Snapshot) : Type 0 where
  pub turn : Turn
  pub config : Config
  -- it stands behind a turn
  pub behind : before ≡ Some turn
  -- has its session and waits
  pub session : k.session ≡ turn.session
  pub waits : k.waits ≡ turn.waits
  -- and its state spells the configuration after the turns before it
  pub after : a ≡ To config
  pub state : IsTrue (L.spells p config k.state)

-- each snapshot tells of what stands before it: where the events of the turns before it lead, and the turn behind which it stands with no upgrade
-- between
abbrev pub AreKept : Language → Program → After → Option Turn → List Record → Type 0
AreKept L p a before [] = Unit {0}
AreKept L p a before (Turned t ∷ rs) = AreKept L p (run_on p a t.events) (Some t) rs
AreKept L p a before (Packed t ∷ rs) = AreKept L p (run_on p a t.events) (Some t) rs
AreKept L p a before (Kept k ∷ rs) = Tells L p a before k × AreKept L p a before rs
AreKept L p a before (Upgrade ∷ rs) = AreKept L p a None rs
AreKept L p a before (r ∷ rs) = AreKept L p a before rs

-- ## Histories
-- The payloads are the records of one run, which leads to this configuration.
pub record History (L : Language) (payloads : List (List ℕ)) (c : Config) : Type 0 where
  pub first : Record
  pub rest : List Record
  pub meanings : map meaning payloads ≡ map Some (first ∷ rest)
  -- the first is a start of either format, under rules that may stand, whose source is accepted
  pub start : Start
  pub two : Bool
  pub starts : start_of_record first ≡ Some (start, two)
  pub rules : IsTrue (may_stand L (start, two))
  pub program : Program
  pub accepted : L.source start.source ≡ Some program
  -- the others are turns, packed turns, snapshots and at most one upgrade, in the order of their formats
  pub formats : IsTrue (in_format two rest)
  -- sessions and waits don't fall
  pub order : IsTrue (in_order 0 0 (turns_of rest))
  pub numbers : IsTrue (are_numbered 1 rest)
  -- the events of all turns are one run
  pub one_run : Run program start (events (turns_of rest)) c
  -- and each snapshot tells of what stands before it
  pub kept : AreKept L program (initial program start) None rest

-- ## Computed, a record at a time
-- where some records lead
pub record Standing : Type 0 where
  pub program : Program
  pub config : Config
  -- how many records there are
  pub number : ℕ
  -- the session and the waits of the last turn, 0 and 0 before the first
  pub session : ℕ
  pub waits : ℕ
  -- whether the records are of the second format by now
  pub two : Bool
  -- a turn stands before, and no upgrade behind it: a snapshot may stand here
  pub marks : Bool

-- behind a start whose source is accepted
abbrev pub started : Program → Bool → After → Option Standing
started p two (To c) = Some (record { program = p; config = c; number = 1; session = 0; waits = 0; two = two; marks = false })
started p two a = None

abbrev pub first_by : Language → Option (Start × Bool) → Option Standing
first_by L None = None
first_by L (Some x) = if may_stand L x then option_and_then (λ p. started p x.1 (initial p x.0)) (L.source x.0.source) else None

abbrev pub first_standing : Language → Option Record → Option Standing
first_standing L None = None
first_standing L (Some r) = first_by L (start_of_record r)

-- behind a turn that leads there
abbrev pub led : Standing → Turn → After → Option Standing
led s t (To c) = Some (record s { config = c; number = suc s.number; session = t.session; waits = t.waits; marks = true })
led s t a = None

-- the turn is numbered and in order, and its events lead on
abbrev pub turned : Standing → Turn → Option Standing
turned s t = if is_numbered s.number t && goes_on_at s.session s.waits t then led s t (run_on s.program (To s.config) t.events) else None

-- only where this holds
abbrev pub only : Bool → Option Standing → Option Standing
only true s = s
only false s = None

-- which snapshots may stand where some records lead
abbrev pub Keeps : Type 0
Keeps = Standing → Snapshot → Bool

-- one that spells where it stands
abbrev pub is_kept : Language → Keeps
is_kept L s k = s.marks && nat_eq k.session s.session && nat_eq k.waits s.waits && L.spells s.program s.config k.state

-- one record more, by its kind
abbrev pub goes_on_by : Keeps → Standing → Option Record → Option Standing
goes_on_by keeps s (Some (Turned t)) = only (not s.two) (turned s t)
goes_on_by keeps s (Some (Packed t)) = only s.two (turned s t)
goes_on_by keeps s (Some (Kept k)) = only (keeps s k) (Some (record s { number = suc s.number }))
goes_on_by keeps s (Some Upgrade) = only (not s.two) (Some (record s { number = suc s.number; two = true; marks = false }))
goes_on_by keeps s r = None

-- where more records lead, by their meanings, or the number of the first that doesn't go on
abbrev pub goes_over_by : Keeps → Standing → List (Option Record) → Result Standing ℕ
goes_over_by keeps s [] = Ok s
goes_over_by keeps s (r ∷ rs) = elim (goes_on_by keeps s r) [ None ↦ Err (told s.number) | Some t ↦ goes_over_by keeps t rs ]

-- of a history each snapshot spells where it stands
abbrev pub goes_on : Language → Standing → Option Record → Option Standing
goes_on L s r = goes_on_by (is_kept L) s r

abbrev pub goes_over : Language → Standing → List (Option Record) → Result Standing ℕ
goes_over L s rs = goes_over_by (is_kept L) s rs

abbrev pub goes_to : Language → Standing → List (List ℕ) → Result Standing ℕ
goes_to L s bs = goes_over L s (map meaning bs)

abbrev pub history_from : Language → Option Standing → List (Option Record) → Result Standing ℕ
history_from L None rs = Err 0
history_from L (Some s) rs = goes_over L s rs

abbrev pub history_of : Language → List (Option Record) → Result Standing ℕ
history_of L [] = Err 0
history_of L (r ∷ rs) = history_from L (first_standing L r) rs

-- where the records lead, or the least n such that records 0 to n begin no history
unfoldable pub history : Language → List (List ℕ) → Result Standing ℕ
history L bs = history_of L (map meaning bs)

-- ## Opening and playing
-- where the records of a journal lead that is opened, or the number that is told: all of them are asked for, as in a history
abbrev pub opens : Language → List (List ℕ) → Result Standing ℕ
opens L J = history L J

-- and of one that is played from its start, event by event: nothing is asked of a snapshot but that it is one
abbrev pub any_kept : Keeps
any_kept s k = true

abbrev pub plays_from : Option Standing → List (Option Record) → Result Standing ℕ
plays_from None rs = Err 0
plays_from (Some s) rs = goes_over_by any_kept s rs

abbrev pub plays_over : Language → List (Option Record) → Result Standing ℕ
plays_over L [] = Err 0
plays_over L (r ∷ rs) = plays_from (first_standing L r) rs

unfoldable pub plays : Language → List (List ℕ) → Result Standing ℕ
plays L J = plays_over L (map meaning J)

-- the records up to so many turns, or all where there are fewer
abbrev pub up_to : ℕ → List (List ℕ) → List (List ℕ)
up_to zero bs = []
up_to (suc n) [] = []
up_to (suc n) (b ∷ bs) = b ∷ (if is_some (turn_in (meaning b)) then up_to n bs else up_to (suc n) bs)

-- with the first one, which is none
abbrev pub front_of : ℕ → List (List ℕ) → List (List ℕ)
front_of turns [] = []
front_of turns (b ∷ bs) = b ∷ up_to turns bs
