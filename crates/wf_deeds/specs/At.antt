-- The configuration that a journal gives at a moment of a session.
--     Journal        the start, the program and the turns of some records
--     config_at      after the turns of earlier sessions, and those of a session up to a count of waits
--     config_before  after the turns of earlier sessions alone
--     applied_by     how many events the turns among some payloads have
--     to_apply       how many of them are applied where the payloads are opened
use Rattle.std.specs.Prelude.{ℕ, suc, Bool, nat_eq, nat_lt, if◌then◌else◌, List, [], ◌∷◌, ◌++◌, length, Option, Some, None, option_map}
use Rattle.wf_ast.specs.Tree.{Program}
use Rattle.wf_events.specs.Reading.{meaning}
use Rattle.wf_events.specs.Records.{Record, Turned, Packed}
use Rattle.wf_history.specs.Kinds.{start_of_record, turn_in}
use Rattle.wf_model.specs.Config.{Config, After, To, Wrong, NotNow}
use Rattle.wf_model.specs.Run as run
use Rattle.wf_deeds.specs.History.{events, may_stand, with_turn}
use Rattle.wf_deeds.specs.Language.{Language}
use Rattle.wf_value.specs.Events.{Event, Start, Turn}

pub record Journal : Type 0 where
  pub start : Start
  pub program : Program
  pub turns : List Turn

-- the turns among some payloads
abbrev pub turns_in : List (List ℕ) → List Turn
turns_in [] = []
turns_in (b ∷ bs) = with_turn (turn_in (meaning b)) (turns_in bs)

-- the events of a record: those of its turn
abbrev pub events_of : Record → List Event
events_of (Turned t) = t.events
events_of (Packed t) = t.events
events_of r = []

-- how many events the turns among some payloads have
abbrev pub applied_by : List (List ℕ) → ℕ
applied_by bs = length (events (turns_in bs))

-- how many events are applied where these records are opened: all of them
abbrev pub to_apply : List (List ℕ) → ℕ
to_apply J = applied_by J

-- by a start, and whether it is of the second format
abbrev pub begun : Language → Option (Start × Bool) → List Turn → Option Journal
begun L None ts = None
begun L (Some x) ts = if may_stand L x then option_map (λ p. record { start = x.0; program = p; turns = ts }) (L.source x.0.source) else None

abbrev pub begins : Language → Option Record → List Turn → Option Journal
begins L None ts = None
begins L (Some r) ts = begun L (start_of_record r) ts

-- none where there is no first record, or it begins no history
abbrev pub journal : Language → List (List ℕ) → Option Journal
journal L [] = None
journal L (b ∷ bs) = begins L (meaning b) (turns_in bs)

-- the configuration, where there is one
abbrev pub reached : After → Option Config
reached (To c) = Some c
reached (Wrong k) = None
reached NotNow = None

-- at so many waits of a session
abbrev pub config_at : Option Journal → ℕ → ℕ → Option Config
config_at None session waits = None
config_at (Some j) session waits = reached (run.config_at j.program j.start j.turns session waits)

-- the events of earlier sessions
abbrev pub events_before : ℕ → List Turn → List Event
events_before session [] = []
events_before session (t ∷ ts) = if nat_lt t.session session then t.events ++ events_before session ts else events_before session ts

-- before a session began
abbrev pub config_before : Option Journal → ℕ → Option Config
config_before None session = None
config_before (Some j) session = reached (run.run j.program j.start (events_before session j.turns))

-- the turns of a session, in order
abbrev pub of_session : ℕ → List Turn → List Turn
of_session session [] = []
of_session session (t ∷ ts) = if nat_eq t.session session then t ∷ of_session session ts else of_session session ts

abbrev pub session_turns : Option Journal → ℕ → List Turn
session_turns None session = []
session_turns (Some j) session = of_session session j.turns

-- the session of the last turn, 0 where there is none
abbrev pub last_session : List Turn → ℕ
last_session [] = 0
last_session (t ∷ []) = t.session
last_session (t ∷ u ∷ ts) = last_session (u ∷ ts)

-- the number of the session that goes on from some records
abbrev pub next_session : Option Journal → ℕ
next_session None = 1
next_session (Some j) = suc (last_session j.turns)
