-- Laws of states.
use Rattle.std.specs.Prelude.{◌≡◌, ◌↔◌, true, Some, Ok}
use Rattle.wf_ast.specs.Tree.{Program}
use Rattle.wf_model.specs.Config.{Config}
use Rattle.wf_record_parts.specs.Laws.{AreBytes}
use Rattle.wf_record_parts.specs.Spelling.{Bytes}
use Rattle.wf_states.specs.Parts.{State}
use Rattle.wf_states.specs.Places.{config_at}
use Rattle.wf_states.specs.Placed.{are_placed}
use Rattle.wf_states.specs.Reading.{state_of}
use Rattle.wf_states.specs.Spelling.{Spells}

-- these bytes are a state of the configuration in the program: they spell parts that stand for it, each in its place
pub record StateOf (p : Program) (c : Config) (bytes : Bytes) : Type 0 where
  pub parts : State
  -- the bytes are the one spelling of these parts
  pub spells : Spells bytes parts
  -- each place is there, and what stands there is what the configuration holds
  pub stands : config_at p parts ≡ Some c
  -- each place is inside that in which a run puts it
  pub placed : are_placed p parts ≡ true

-- the same bytes spell one state at most
abbrev pub OneState : Type 0
OneState = (bytes : Bytes) (s t : State) → Spells bytes s → Spells bytes t → s ≡ t

-- bytes are read just as the state that they spell
abbrev pub ReadsAsSpelled : Type 0
ReadsAsSpelled = (bytes : Bytes) (s : State) → AreBytes bytes → (state_of bytes ≡ Ok s) ↔ Spells bytes s

-- the same bytes are a state of one configuration at most
abbrev pub OneConfiguration : Type 0
OneConfiguration = (p : Program) (bytes : Bytes) (c d : Config) → StateOf p c bytes → StateOf p d bytes → c ≡ d
