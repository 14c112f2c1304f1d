-- Histories of the first format alone: a start, and turns behind it. The histories of both formats are these where no other record stands.
use Rattle.std.specs.Prelude.{◌≡◌, ◌↔◌, ◌&&◌, ℕ, suc, Bool, true, false, IsTrue, List, [], ◌∷◌, map, Option, Some}
use Rattle.std.specs.List.{list_all}
use Rattle.wf_ast.specs.Tree.{Program}
use Rattle.wf_events.specs.Reading.{meaning}
use Rattle.wf_events.specs.Records.{Record, Started, Turned}
use Rattle.wf_model.specs.Config.{Config}
use Rattle.wf_model.specs.Run.{Run}
use Rattle.wf_deeds.specs.History.{History, events, in_order, is_numbered}
use Rattle.wf_deeds.specs.Language.{Language}
use Rattle.wf_value.specs.Events.{Start, Turn}

abbrev pub turns_are_numbered : ℕ → List Turn → Bool
turns_are_numbered n [] = true
turns_are_numbered n (t ∷ ts) = is_numbered n t && turns_are_numbered (suc n) ts

-- The payloads are a start and turns of the first format, of one run, which leads to this configuration.
pub record FirstHistory (L : Language) (payloads : List (List ℕ)) (c : Config) : Type 0 where
  pub start : Start
  pub turns : List Turn
  -- the first payload is a start, and each other one a turn
  pub meanings : map meaning payloads ≡ map Some (Started start ∷ map Turned turns)
  -- the start's source is accepted
  pub program : Program
  pub accepted : L.source start.source ≡ Some program
  -- sessions and waits don't fall
  pub order : IsTrue (in_order 0 0 turns)
  pub numbers : IsTrue (turns_are_numbered 1 turns)
  -- the events of all turns are one run
  pub one_run : Run program start (events turns) c

-- a start or a turn of the first format
abbrev pub is_of_first : Option Record → Bool
is_of_first (Some (Started s)) = true
is_of_first (Some (Turned t)) = true
is_of_first r = false

-- over such records a history is one of the first format
abbrev pub FirstFormatStays : Type 0
FirstFormatStays = (L : Language) (J : List (List ℕ)) (c : Config) → IsTrue (list_all is_of_first (map meaning J)) → (FirstHistory L J c ↔ History L J c)
