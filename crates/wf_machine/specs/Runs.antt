-- Moves that follow one another.
--     AreMoves, AppliesMoves     so many moves, as events and as steps
--     NoMoreMoves                none of them comes next
--     IsOut ..                   a machine while a run of moves goes on
use Rattle.std.specs.Prelude.{◌≡◌, ◌≤◌, ◌<◌, ◌+◌, ℕ, zero, suc, Bool, true, false, Some, length, slice_get}
use Rattle.wf_branches.specs.Seen.{table_of}
use Rattle.wf_several.specs.Standing.{IsStanding}
use Rattle.wf_ast.specs.Tree.{Program}
use Rattle.wf_check.specs.Seen.{nodes_of, program_of}
use Rattle.wf_machine.specs.Entries.{entries_of}
use Rattle.wf_machine.specs.Main.{HasStood, is_lone}
use Rattle.wf_machine.specs.Seen.{control_by, shown, state_of}
use Rattle.wf_machine.specs.State.{State}
use Rattle.wf_machine.specs.declared.ending.Ending.TheVariants.{Running}
use Rattle.wf_machine.specs.declared.machine.Machine.{Machine}
use Rattle.wf_model.specs.Choose.{choose}
use Rattle.wf_model.specs.Config.{Config, To}
use Rattle.wf_model.specs.Kinds.{Plainly, next_kind}
use Rattle.wf_model.specs.Step.{next}
use Rattle.wf_model.specs.Taken.{log_total}
use Rattle.wf_moves.specs.Waits.{is_awake_in}
use Rattle.wf_moves.specs.declared.task.Task.{Task}
use Rattle.wf_value.specs.Events.{Move}

-- at a reading a move of `main` that reads no clock comes next, and leads here
pub record IsMove (reading : ℕ) (p : Program) (before behind : Config) : Type 0 where
  pub comes : choose p before reading ≡ Some (Move 0)
  pub leads : next p before (Move 0) ≡ To behind
  pub counted : behind.moves ≡ before.moves + 1
  pub most : behind.moves ≤ 100000
  pub last : behind.last ≡ before.last

-- so many such moves lead here
abbrev pub AreMoves : ℕ → Program → ℕ → Config → Config → Type 0
AreMoves reading p zero before behind = before ≡ behind
AreMoves reading p (suc n) before behind = (c : Config) × IsMove reading p before c × AreMoves reading p n c behind

-- of `apply_moves`: so many moves come next at a reading, one after another, and each is one step
pub record AppliesMoves (before behind : State) (reading count old new : ℕ) : Type 0 where
  pub moves : AreMoves reading before.program count before.config behind.config
  pub program : behind.program ≡ before.program
  pub whole : behind.broken ≡ false
  pub steps : new ≡ old + count

-- while one task lives, no move that reads no clock comes next at a reading, or it is the one at which the limit on counted events is reached
abbrev pub NoMoreMoves : State → ℕ → Type 0
NoMoreMoves s reading = length s.config.tasks ≡ 1 → choose s.program s.config reading ≡ Some (Move 0) → 100000 ≤ s.config.moves + 1

-- ## While a run of moves goes on
-- where a run of moves goes on the machine counts as broken so long, and its facts are those of a step that reads no clock
pub record IsOut (m : Machine) : Type 0 where
  pub broken : m.broken ≡ true
  pub running : m.ending ≡ Running
  pub standing : IsStanding (program_of m.program) (nodes_of m.program) (table_of m.tasks).live m.moving.items m.scopes
  pub stood : ∥ HasStood (program_of m.program) (shown m) ∥₁
  pub lone : is_lone (table_of m.tasks).live ≡ true
  pub one : length m.moving.items ≡ 1
  pub below : m.tally.moves < 100000
  pub now : m.facts.of_step.now ≡ 0
  pub last : m.facts.of_step.last ≡ m.tally.last
  pub deeper : m.facts.of_step.deeper ≡ true
  pub calls : m.facts.sending.calls ≡ length m.calls
  pub logged : m.facts.sending.logged ≡ log_total (entries_of m.log)

-- what it shows where `main` goes on, and else as it is
abbrev pub shown_by : Bool → Machine → Config
shown_by true m = shown m
shown_by false m = (state_of m).config

-- its next move reads no clock, and is carried out
pub record IsPlain (m : Machine) : Type 0 where
  pub task : Task
  pub is : slice_get m.moving.items 0 ≡ Some task
  pub awake : is_awake_in task.wait ≡ true
  pub wanted : next_kind (program_of m.program) (control_by m task) ≡ Plainly
  pub few : m.tally.moves + 1 < 100000
