-- How often a session waits: the polls that bring something are few.
use Rattle.std.specs.Prelude.{◌≤◌, ◌+◌, ℕ, zero, suc, Bool, false, ◌||◌, nat_eq, if◌then◌else◌, List, [], ◌∷◌}
use Rattle.wf_deeds.specs.At.{journal, session_turns, turns_in}
use Rattle.wf_deeds.specs.History.{History, events}
use Rattle.wf_deeds.specs.Language.{Language}
use Rattle.wf_model.specs.Config.{Config}
use Rattle.wf_model.specs.CountLaws.{arrivals}
use Rattle.wf_value.specs.Events.{Event, Turn}

-- there are events, behind so many waits
abbrev pub brings : List Event → ℕ → ℕ → Bool
brings [] waits w = false
brings (e ∷ es) waits w = nat_eq waits w

-- some turn has events, behind so many waits
abbrev pub is_busy : List Turn → ℕ → Bool
is_busy [] w = false
is_busy (t ∷ ts) w = brings t.events t.waits w || is_busy ts w

-- of the first w polls, how many brought nothing: no event stands behind them
abbrev pub idle : List Turn → ℕ → ℕ
idle ts zero = 0
idle ts (suc w) = if is_busy ts (suc w) then idle ts w else suc (idle ts w)

-- the requests that came, by the records
abbrev pub arrivals_in : List (List ℕ) → ℕ
arrivals_in J = arrivals (events (turns_in J))

-- of the first w polls of a session all were idle but 300,001 and as many as requests came
abbrev pub SessionsWaitIdly : Type 0
SessionsWaitIdly = (L : Language) (J : List (List ℕ)) (c : Config) → History L J c → (session w : ℕ) → w ≤ idle (session_turns (journal L J) session) w + 300001 + arrivals_in J
