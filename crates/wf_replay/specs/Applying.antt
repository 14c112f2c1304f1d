-- What applying events one after another does to a machine.
use Rattle.std.specs.Prelude.{◌≡◌, ◌+◌, ℕ, false, List, length, Result, IsErrOf, OnOk}
use Rattle.wf_machine.specs.State.{State}
use Rattle.wf_machine.specs.declared.ApplyFault.{ApplyFault}
use Rattle.wf_machine.specs.declared.ApplyFault.TheVariants.{NotEnabled}
use Rattle.wf_model.specs.Config.{Config, To}
use Rattle.wf_model.specs.Run.{run_on}
use Rattle.wf_value.specs.Events.{Event}

pub record AppliesEvents (before behind : State) (es : List Event) (old new : ℕ) (result : Result (Unit {0}) ApplyFault) : Type 0 where
  -- they lead to where it stands
  pub applied : OnOk result (run_on before.program (To before.config) es ≡ To behind.config)
  pub whole : OnOk result (behind.broken ≡ false)
  pub program : OnOk result (behind.program ≡ before.program)
  -- each is one step
  pub steps : OnOk result (new ≡ old + length es)
  -- one of them can't come, so they lead nowhere
  pub not_enabled : IsErrOf result NotEnabled → (c : Config) → run_on before.program (To before.config) es ≡ To c → ⊥
