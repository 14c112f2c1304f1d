-- What a machine's turn is.
use Rattle.std.specs.List.{AllByRecursion, flat_map}
use Rattle.std.specs.Prelude.{◌≡◌, ◌≢◌, ◌⊎◌, ◌≤◌, ◌<◌, ◌+◌, ◌*◌, ℕ, false, IsTrue, List, [], length, Option, Some, None}
use Rattle.wf_deeds.specs.Turns.{chosen, turn_of, TakeReading}
use Rattle.wf_engine.specs.Engine.{spent}
use Rattle.wf_engine.specs.Fits.{longest_taken}
use Rattle.wf_engine.specs.declared.taken.Taken.{Taken}
use Rattle.wf_events.specs.Spelling.{event, IsOld}
use Rattle.wf_machine.specs.Counts.{counts_of}
use Rattle.wf_machine.specs.State.{State}
use Rattle.wf_model.specs.Config.{Active, Config, To}
use Rattle.wf_model.specs.ReadingLaws.{IsFromInside}
use Rattle.wf_model.specs.Ready.{quiet}
use Rattle.wf_model.specs.Run.{run_on}
use Rattle.wf_model.specs.Step.{next}
use Rattle.wf_record_parts.specs.View.{reply_view}
use Rattle.wf_value.specs.Events.{Answer, Event}

-- nothing can move at the reading: there is an outcome, or each task waits
abbrev pub Rests : Config → ℕ → Type 0
Rests c reading = (c.outcome ≢ Active) ⊎ IsTrue (quiet c reading)

-- these events are chosen at a reading, at most so many, from one state of a machine to another
pub record AreChosen (limit : ℕ) (old new : State) (reading : ℕ) (es : List Event) : Type 0 where
  pub turn : es ≡ chosen limit old.program (To old.config) reading
  pub leads : run_on old.program (To old.config) es ≡ To new.config
  -- fewer come only where nothing can move, and none behind an outcome
  pub short : length es ≤ limit
  pub ended : length es < limit → Rests new.config reading
  pub active : old.config.outcome ≢ Active → es ≡ []
  pub counted : new.config.moves ≡ old.config.moves + counts_of es
  pub most : new.config.moves ≤ 100000
  -- each takes something of what may still come
  pub falls : length es + spent new.config ≤ spent old.config
  -- nothing outside has to bring them, and each has a spelling
  pub inside : AllByRecursion IsFromInside es
  pub spelled : AllByRecursion IsOld es
  -- each takes the reading, where the last one isn't greater
  pub readings : old.config.last ≤ reading → TakeReading reading es
  pub last : old.config.last ≤ reading → new.config.last ≤ reading
  pub program : new.program ≡ old.program
  pub whole : new.broken ≡ false

-- how many events bring what was taken
abbrev pub brought : Option Event → ℕ
brought None = 0
brought (Some e) = 1

-- the events of a turn: what was taken, and then what is chosen
pub record IsTurn (old new : State) (reading : ℕ) (taken : Option Event) (es : List Event) : Type 0 where
  pub turn : es ≡ turn_of old.program old.config reading taken
  pub leads : run_on old.program (To old.config) es ≡ To new.config
  -- fewer come only where nothing can move, and none behind an outcome
  pub short : length es ≤ 4096
  pub ended : length es < 4096 → Rests new.config reading
  pub active : old.config.outcome ≢ Active → es ≡ []
  pub counted : new.config.moves ≡ old.config.moves + counts_of es
  pub most : new.config.moves ≤ 100000
  -- each that is chosen takes something of what may still come
  pub falls : length es + spent new.config ≤ brought taken + spent old.config
  -- nothing outside has to bring one but what was taken
  pub inside : taken ≡ None → AllByRecursion IsFromInside es
  -- each takes the reading, and the last one is no greater behind them
  pub readings : TakeReading reading es
  pub last : new.config.last ≤ reading
  -- each has a spelling, and all of them are short enough for a record
  pub spelled : AllByRecursion IsOld es
  pub bytes : length (flat_map event es) ≤ longest_taken + 13 * length es
  pub program : new.program ≡ old.program
  pub whole : new.broken ≡ false

-- what was taken is brought by this event, from one state of a machine to another
pub record IsBrought (old new : State) (reading : ℕ) (t : Taken) (e : Event) : Type 0 where
  pub is : e ≡ Answer t.call reading (reply_view t.reply.value)
  pub leads : next old.program old.config e ≡ To new.config
  pub moves : new.config.moves ≡ old.config.moves
  pub most : new.config.moves ≤ 100000
  pub last : new.config.last ≡ reading
  pub spelled : IsOld e
  pub short : length (event e) ≤ longest_taken
  pub program : new.program ≡ old.program
  pub whole : new.broken ≡ false
