-- Worked examples: records, and where they lead in the language.
use Rattle.std.specs.Prelude.{◌≡◌, ℕ, pos, List, [], ◌∷◌, map, Result, Ok, Err, codes}
use Rattle.wf_events.specs.Records.{Record, Started, Turned}
use Rattle.wf_events.specs.Spelling.{record_bytes}
use Rattle.wf_model.specs.Config.{Outcome, Active, Returned}
use Rattle.wf_deeds.specs.History.{Standing, history}
use Rattle.wf_replay.specs.TheLanguage.{the_language}
use Rattle.wf_value.specs.Events.{Start, Turn, Move}
use Rattle.wf_value.specs.Data.{integer}

-- an execution of a source with the argument null
abbrev pub start : List ℕ → Start
start source = record { rules = 1; id = codes "r"; source = source; argument = codes "null"; routes = []; env = []; base = []; reading = 0 }

-- a turn of one move of the first task
abbrev pub turn : Turn
turn = record { session = 1; waits = 0; events = Move 0 ∷ [] }

abbrev pub outcome_of : Result Standing ℕ → Result Outcome ℕ
outcome_of (Ok s) = Ok s.config.outcome
outcome_of (Err n) = Err n

-- the outcome to which the bytes of these records lead, or the number of the first that doesn't go on
abbrev pub outcome : List Record → Result Outcome ℕ
outcome records = outcome_of (history the_language (map record_bytes records))

pub record WorkedHistories : Type 0 where
  pub nothing : outcome [] ≡ Err 0
  pub start_alone : outcome (Started (start (codes "- a:\n    return: ${1 + 1}\n")) ∷ []) ≡ Ok Active
  pub sum_is_returned : outcome (Started (start (codes "- a:\n    return: ${1 + 1}\n")) ∷ Turned turn ∷ []) ≡ Ok (Returned (integer (pos 2)))
  pub source_is_refused : outcome (Started (start (codes "- a:\n    return: ${1 +}\n")) ∷ []) ≡ Err 0
  pub turn_behind_the_outcome : outcome (Started (start (codes "- a:\n    return: ${1 + 1}\n")) ∷ Turned turn ∷ Turned turn ∷ []) ≡ Err 2
