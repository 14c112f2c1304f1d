-- Worked rows: which records of both formats are a history, and which number is told.
use Rattle.std.specs.Prelude.{◌≡◌, ℕ, Bool, true, false, List, [], ◌∷◌, map, Some, Result, Ok, Err, bytes_eq, codes}
use Rattle.wf_ast.specs.Tree.{Body, Program}
use Rattle.wf_deeds.specs.History.{Standing, history_of, plays_over}
use Rattle.wf_deeds.specs.Language.{Language}
use Rattle.wf_events.specs.Records.{Record, Started, Turned, Kept, Upgrade, Packed, StartedTwo}
use Rattle.wf_events.specs.Rows.{start_of}
use Rattle.wf_model.specs.Writing.{main_of, st, assigns, num}
use Rattle.wf_value.specs.Events.{Event, Move, Cancel}

-- ## A small language
-- each source is this program of two moves
abbrev two_moves : Program
two_moves = main_of (st (codes "a") (assigns (codes "x") (num 1)) ∷ st (codes "r") (Body.Return (num 7)) ∷ [])

-- a state has the moves and the last reading; these are the greatest rules
abbrev toy : ℕ → Language
toy rules = record { source = λ b. Some two_moves; rules = rules; spells = λ p c b. bytes_eq b (c.moves ∷ c.last ∷ []) }

-- ## What is told
-- how many records there are, the last turn's session and waits, whether they are of the second format, and the moves
pub record Told : Type 0 where
  pub number : ℕ
  pub session : ℕ
  pub waits : ℕ
  pub two : Bool
  pub moves : ℕ

abbrev told_of : Result Standing ℕ → Result Told ℕ
told_of (Ok s) = Ok (record { number = s.number; session = s.session; waits = s.waits; two = s.two; moves = s.config.moves })
told_of (Err n) = Err n

abbrev leads : ℕ → List Record → Result Told ℕ
leads rules rs = told_of (history_of (toy rules) (map Some rs))

abbrev tells : ℕ → ℕ → ℕ → Bool → ℕ → Result Told ℕ
tells n s w two m = Ok (record { number = n; session = s; waits = w; two = two; moves = m })

-- ## Records
abbrev turn : ℕ → ℕ → List Event → Record
turn s w es = Turned (record { session = s; waits = w; events = es })

abbrev packed : ℕ → ℕ → List Event → Record
packed s w es = Packed (record { session = s; waits = w; events = es })

-- a snapshot with so many moves and this last reading
abbrev kept : ℕ → ℕ → ℕ → ℕ → Record
kept s w moves last = Kept (record { session = s; waits = w; state = moves ∷ last ∷ [] })

abbrev one : List Event
one = Move 0 ∷ []

abbrev first : Record
first = Started (start_of 1)

abbrev second : Record
second = StartedTwo (start_of 1)

-- ## The rows
pub record WorkedFormats : Type 0 where
  pub turns_of_the_first_format : leads 1 (first ∷ turn 1 0 one ∷ turn 1 0 one ∷ []) ≡ tells 3 1 0 false 2
  -- ## Snapshots
  pub snapshot_behind_a_turn : leads 1 (first ∷ turn 1 0 one ∷ kept 1 0 1 7 ∷ turn 1 0 one ∷ []) ≡ tells 4 1 0 false 2
  -- with the last reading raised by one it spells another state
  pub raised_reading_is_none : leads 1 (first ∷ turn 1 0 one ∷ kept 1 0 1 8 ∷ turn 1 0 one ∷ []) ≡ Err 2
  pub snapshot_of_other_waits : leads 1 (first ∷ turn 1 0 one ∷ kept 1 1 1 7 ∷ []) ≡ Err 2
  pub snapshot_behind_the_start : leads 1 (first ∷ kept 0 0 0 7 ∷ []) ≡ Err 1
  pub two_snapshots : leads 1 (first ∷ turn 1 0 one ∷ kept 1 0 1 7 ∷ kept 1 0 1 7 ∷ []) ≡ tells 4 1 0 false 1
  pub snapshot_behind_an_upgrade : leads 1 (first ∷ turn 1 0 one ∷ Upgrade ∷ kept 1 0 1 7 ∷ []) ≡ Err 3
  -- played from the start, a snapshot needs a meaning alone
  pub raised_reading_plays : told_of (plays_over (toy 1) (map Some (first ∷ kept 9 9 0 0 ∷ turn 1 0 one ∷ kept 1 0 1 8 ∷ turn 1 0 one ∷ []))) ≡ tells 5 1 0 false 2
  -- ## The second format
  pub upgrade_before_packed_turns : leads 1 (first ∷ Upgrade ∷ packed 1 0 one ∷ []) ≡ tells 3 1 0 true 1
  pub both_formats : leads 1 (first ∷ turn 1 0 one ∷ kept 1 0 1 7 ∷ Upgrade ∷ packed 2 0 one ∷ kept 2 0 2 7 ∷ []) ≡ tells 6 2 0 true 2
  pub packed_without_upgrade : leads 1 (first ∷ packed 1 0 one ∷ []) ≡ Err 1
  pub turn_behind_the_upgrade : leads 1 (first ∷ Upgrade ∷ turn 1 0 one ∷ []) ≡ Err 2
  pub two_upgrades : leads 1 (first ∷ Upgrade ∷ Upgrade ∷ []) ≡ Err 2
  pub packed_under_the_second : leads 1 (second ∷ packed 1 0 one ∷ []) ≡ tells 2 1 0 true 1
  pub turn_under_the_second : leads 1 (second ∷ turn 1 0 one ∷ []) ≡ Err 1
  pub upgrade_under_the_second : leads 1 (second ∷ Upgrade ∷ []) ≡ Err 1
  pub start_behind_the_first : leads 1 (first ∷ first ∷ []) ≡ Err 1
  pub rules_that_may_not_stand : leads 1 (StartedTwo (start_of 2) ∷ []) ≡ Err 0
  pub rules_that_may_stand : leads 2 (StartedTwo (start_of 2) ∷ []) ≡ tells 1 0 0 true 0
  -- ## Sessions and waits
  -- the session of record 1 is at most 1
  pub session_past_its_record : leads 1 (first ∷ turn 2 0 one ∷ []) ≡ Err 1
  pub session_of_nought : leads 1 (first ∷ turn 0 0 one ∷ []) ≡ Err 1
  pub waits_that_fall : leads 1 (first ∷ turn 1 1 one ∷ turn 1 0 one ∷ []) ≡ Err 2
  -- ## Cancelling
  -- it is no move, and nothing comes behind it
  pub cancelling_is_an_event : leads 1 (second ∷ packed 1 0 one ∷ packed 2 0 (Cancel 9 ∷ []) ∷ []) ≡ tells 3 2 0 true 1
  pub nothing_behind_cancelling : leads 1 (second ∷ packed 1 0 (Cancel 9 ∷ []) ∷ packed 1 0 one ∷ []) ≡ Err 2
