-- Laws of the engine's choice.
use Rattle.std.specs.Prelude.{◌≡◌, ℕ, max, ◌≢◌, ◌⊎◌, ◌↔◌, Some, None, Option, IsTrue}
use Rattle.wf_ast.specs.Tree.{Program}
use Rattle.wf_model.specs.Choose.{choose}
use Rattle.wf_model.specs.Config.{Active, Config}
use Rattle.wf_model.specs.Ready.{quiet}
use Rattle.wf_value.specs.Events.{Event}

-- without an outcome nothing is chosen exactly where the configuration is quiet at the reading
abbrev pub NothingIsChosenWhenQuiet : Type 0
NothingIsChosenWhenQuiet = (p : Program) (c : Config) (r : ℕ) → c.outcome ≡ Active → (choose p c r ≡ None) ↔ IsTrue (quiet c r)

abbrev pub NothingIsChosenBehindAnOutcome : Type 0
NothingIsChosenBehindAnOutcome = (p : Program) (c : Config) (r : ℕ) → c.outcome ≢ Active → choose p c r ≡ None

-- the reading of an event, if it has one
abbrev pub reading_of : Event → Option ℕ
reading_of (Event.Move b) = None
reading_of (Event.MoveAt b r) = Some r
reading_of (Event.Begin b) = None
reading_of (Event.Issue b r) = Some r
reading_of (Event.Answer k r a) = Some r
reading_of (Event.Due b r) = Some r
reading_of (Event.Arrive n r v) = Some r
reading_of (Event.Cancel r) = Some r

-- a chosen event has no reading, or the given one or the last one, whichever is greater
abbrev pub ChoiceTakesTheReading : Type 0
ChoiceTakesTheReading = (p : Program) (c : Config) (r : ℕ) (e : Event) → choose p c r ≡ Some e → (reading_of e ≡ None) ⊎ (reading_of e ≡ Some (max r c.last))
