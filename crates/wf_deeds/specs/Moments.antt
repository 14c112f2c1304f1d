-- Laws of the configuration at a moment, as they stand in the contract of `laws_of_moments`.
use Rattle.std.specs.Prelude.{◌≡◌, ◌<◌, ◌≤◌, ◌&&◌, ◌||◌, ℕ, suc, Bool, false, IsTrue, nat_eq, nat_le, nat_lt, List, [], ◌∷◌, ◌++◌, length, Some, Ok}
use Rattle.wf_events.specs.Reading.{meaning}
use Rattle.wf_history.specs.Kinds.{turn_in}
use Rattle.wf_model.specs.Run.{is_before}
use Rattle.wf_deeds.specs.At.{Journal, config_at, config_before, journal, next_session, session_turns}
use Rattle.wf_deeds.specs.History.{Standing, history}
use Rattle.wf_deeds.specs.Language.{Language}
use Rattle.wf_value.specs.Events.{Turn}

-- a turn more
abbrev pub with_turn_more : Journal → Turn → Journal
with_turn_more j t = record { start = j.start; program = j.program; turns = j.turns ++ t ∷ [] }

-- ## A turn more
-- a record more that is a turn stands behind all others
abbrev pub TurnIsAdded : Type 0
TurnIsAdded = (L : Language) (J : List (List ℕ)) (payload : List ℕ) (j : Journal) (t : Turn) → journal L J ≡ Some j → turn_in (meaning payload) ≡ Some t → journal L (J ++ payload ∷ []) ≡ Some (with_turn_more j t)

-- it changes nothing before its session, nor before an earlier one
abbrev pub SessionBeforeStays : Type 0
SessionBeforeStays = (j : Journal) (t : Turn) (session : ℕ) → session ≤ t.session → config_before (Some (with_turn_more j t)) session ≡ config_before (Some j) session

-- nor at a moment that it stands behind
abbrev pub MomentBeforeStays : Type 0
MomentBeforeStays = (j : Journal) (t : Turn) (session waits : ℕ) → is_before session waits t ≡ false → config_at (Some (with_turn_more j t)) session waits ≡ config_at (Some j) session waits

-- it is the last turn of its session
abbrev pub TurnIsOfItsSession : Type 0
TurnIsOfItsSession = (j : Journal) (t : Turn) → session_turns (Some (with_turn_more j t)) t.session ≡ session_turns (Some j) t.session ++ t ∷ []

-- and the next session is the one behind it
abbrev pub NextBehindTurn : Type 0
NextBehindTurn = (j : Journal) (t : Turn) → next_session (Some (with_turn_more j t)) ≡ suc t.session

-- ## A history
-- the last turn stands before so many waits of a session, or at them
abbrev pub is_by : ℕ → ℕ → Standing → Bool
is_by session waits s = nat_lt s.session session || (nat_eq s.session session && nat_le s.waits waits)

-- from its last turn on a history stands where it leads
abbrev pub HistoryStandsThere : Type 0
HistoryStandsThere = (L : Language) (J : List (List ℕ)) (s : Standing) (session waits : ℕ) → history L J ≡ Ok s → IsTrue (is_by session waits s) → config_at (journal L J) session waits ≡ Some s.config

-- and the next session is the one behind that of its last turn
abbrev pub NextBehindHistory : Type 0
NextBehindHistory = (L : Language) (J : List (List ℕ)) (s : Standing) → history L J ≡ Ok s → next_session (journal L J) ≡ suc s.session

-- before a session behind that of its last turn a history stands where it leads
abbrev pub HistoryStandsBefore : Type 0
HistoryStandsBefore = (L : Language) (J : List (List ℕ)) (s : Standing) (session : ℕ) → history L J ≡ Ok s → s.session < session → config_before (journal L J) session ≡ Some s.config

-- and has no turn of that session
abbrev pub NoTurnsBehind : Type 0
NoTurnsBehind = (L : Language) (J : List (List ℕ)) (s : Standing) (session : ℕ) → history L J ≡ Ok s → s.session < session → session_turns (journal L J) session ≡ []

-- its number is the count of its records
abbrev pub NumberIsCount : Type 0
NumberIsCount = (L : Language) (J : List (List ℕ)) (s : Standing) → history L J ≡ Ok s → s.number ≡ length J

-- and the session of its last turn is less than that
abbrev pub SessionIsNumbered : Type 0
SessionIsNumbered = (L : Language) (J : List (List ℕ)) (s : Standing) → history L J ≡ Ok s → s.session < s.number
