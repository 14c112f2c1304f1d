-- The turn that an engine adds: what was taken, and then what is chosen until nothing can move.
use Rattle.std.specs.Prelude.{◌≡◌, ℕ, zero, suc, List, [], ◌∷◌, ◌++◌, Option, Some, None}
use Rattle.wf_ast.specs.Tree.{Program}
use Rattle.wf_deeds.specs.Kept.{reading_of}
use Rattle.wf_model.specs.Choose.{choose}
use Rattle.wf_model.specs.Config.{Config, After, To}
use Rattle.wf_model.specs.Step.{next}
use Rattle.wf_value.specs.Events.{Event}

-- the events that are chosen at a reading, each of them where the one before led, and at most n; none comes with an outcome, nor once the
-- configuration is quiet at the reading
unfoldable pub chosen : ℕ → Program → After → ℕ → List Event
chosen zero p a r = []
chosen (suc n) p (To c) r = elim (choose p c r) [ None ↦ [] | Some e ↦ e ∷ chosen n p (next p c e) r ]
chosen (suc n) p a r = []

-- at most 4,096 events
abbrev pub turn_of : Program → Config → ℕ → Option Event → List Event
turn_of p c r None = chosen 4096 p (To c) r
turn_of p c r (Some e) = e ∷ chosen 4095 p (next p c e) r

-- each of them that takes a reading takes this one
abbrev pub TakeReading : ℕ → List Event → Type 0
TakeReading reading es = (e : Event) (r : ℕ) (front back : List Event) → es ≡ front ++ e ∷ back → reading_of e ≡ Some r → r ≡ reading
