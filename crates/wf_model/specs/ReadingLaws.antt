-- Laws of readings and of what is chosen, as they stand in the contract of `laws_of_readings`.
use Rattle.std.specs.Prelude.{◌≡◌, ℕ, Some, unwrap_or}
use Rattle.wf_ast.specs.Tree.{Program}
use Rattle.wf_model.specs.ChoiceLaws.{reading_of}
use Rattle.wf_model.specs.Choose.{choose}
use Rattle.wf_model.specs.Config.{Config}
use Rattle.wf_model.specs.Step.{Step}
use Rattle.wf_value.specs.Events.{Event, Answer, Arrive, Cancel}

-- the event's reading becomes the last one; without one it stays
abbrev pub StepsRead : Type 0
StepsRead = (p : Program) (b c : Config) (e : Event) → Step p b e c → c.last ≡ unwrap_or (reading_of e) b.last

-- an event that nothing outside has to bring
abbrev pub IsFromInside : Event → Type 0
IsFromInside (Answer k r a) = ⊥
IsFromInside (Arrive n r v) = ⊥
IsFromInside (Cancel r) = ⊥
IsFromInside e = Unit {0}

abbrev pub ChosenIsFromInside : Type 0
ChosenIsFromInside = (p : Program) (c : Config) (r : ℕ) (e : Event) → choose p c r ≡ Some e → IsFromInside e
