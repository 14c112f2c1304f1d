-- What an engine keeps, and when its file is as its calls left it.
--     memory      what the rules on deeds know of it
--     Holds       the file is as it left it
--     spent       what its execution may still do by itself
use Rattle.std.specs.Prelude.{◌≡◌, ◌≢◌, ◌⊎◌, ◌+◌, ◌*◌, ◌-◌, ℕ, Bool, List, [], ◌∷◌, ◌++◌, None}
use Rattle.wf_connections.specs.Calls.{is_started, is_dropped, told}
use Rattle.wf_deeds.specs.Memory.{Memory}
use Rattle.wf_engine.specs.Taken.{taken_event}
use Rattle.wf_engine.specs.declared.engine.Engine.{Engine}
use Rattle.wf_history.specs.Stands as history
use Rattle.wf_history.specs.declared.history.History.{History}
use Rattle.wf_host.specs.World.{World}
use Rattle.wf_host.specs.declared.data.Deed.{Deed}
use Rattle.wf_host.specs.declared.data.Deed.TheVariants.{Now}
use Rattle.wf_journal.specs.Records.{records}
use Rattle.wf_machine.specs.Seen.{state_of}
use Rattle.wf_model.specs.Config.{Config}
use Rattle.wf_model.specs.CountLaws.{weigh}

-- no visit is heard yet
abbrev pub memory : Engine → Memory
memory e = record {
  program = (state_of e.machine).program;
  config = (state_of e.machine).config;
  session = e.session;
  reading = e.reading;
  waits = e.waits;
  started = is_started e.connections;
  dropped = is_dropped e.connections;
  told = told e.connections;
  visit = λ n. None;
  undecided = 0;
  taken = taken_event e.reading e.taken;
  owed = None;
}

-- the history that it adds to
abbrev pub held : Engine → History
held e = e.history

-- whether an earlier call has failed
abbrev pub is_closed : Engine → Bool
is_closed e = e.closed

-- the journal reads as at the end of the engine's last call, a crash leaves just this, and it has a record
abbrev pub Holds : Engine → World → Type 0
Holds e w = history.Stands e.history w × (records w.seen ≢ [])

-- ## Moments
-- when an engine is opened: a file as a crash at entry may leave it, and no deed or one reading of the clock
abbrev pub OpeningMoment : World → List ℕ → List Deed → Type 0
OpeningMoment w c d = w.may_leave c × ((d ≡ w.deeds) ⊎ ((t : ℕ) × (d ≡ w.deeds ++ Now t ∷ [])))

-- ## What may still come
-- the due moments that its tasks wait for, and three for each move that is left: it falls with each event that an engine chooses
abbrev pub spent : Config → ℕ
spent c = weigh c.tasks + 3 * (100000 - c.moves)
