-- What a machine is seen as.
--     state_of                  its program, its configuration, and whether it is broken
--     control_by ..             what a task of it has, and what it waits for
--     At                        a live task at its place
--     StepsBy, DuesBy           what a task wants
use Rattle.std.specs.Prelude.{◌≡◌, ◌≤◌, ◌⊎◌, ℕ, true, false, List, Some, Option, slice_get}
use Rattle.wf_branches.specs.Seen.{table_of}
use Rattle.wf_branches.specs.Table.{Status}
use Rattle.wf_check.specs.Seen.{program_of}
use Rattle.wf_machine.specs.Main.{around, config_of, task_control}
use Rattle.wf_machine.specs.State.{State}
use Rattle.wf_machine.specs.declared.ending.Ending.TheVariants.{Running}
use Rattle.wf_machine.specs.declared.machine.Machine.{Machine}
use Rattle.wf_model.specs.Config.{Config, Item, Wait}
use Rattle.wf_model.specs.Kinds.{NextKind, next_kind}
use Rattle.wf_model.specs.Ready.{due_of, is_by}
use Rattle.wf_moves.specs.Waits.{call_in, is_awake_in, wait_view}
use Rattle.wf_moves.specs.declared.task.Task.{Task}

-- the configuration that it stands in
abbrev pub config_by : Machine → Config
config_by m = config_of m.broken (program_of m.program) m.facts m.tally (table_of m.tasks) m.moving.items m.scopes m.calls m.log m.ending

-- the same, as if it weren't broken
abbrev pub shown : Machine → Config
shown m = config_of false (program_of m.program) m.facts m.tally (table_of m.tasks) m.moving.items m.scopes m.calls m.log m.ending

-- its program, the configuration, and whether it is broken
abbrev pub state_of : Machine → State
state_of m = record {
  program = program_of m.program;
  config = config_by m;
  broken = m.broken;
}

-- ## Of a task of it
-- what it has still to do
abbrev pub control_by : Machine → Task → List Item
control_by m t = task_control (program_of m.program) t

-- what it waits for
abbrev pub wait_by : Machine → Task → Wait
wait_by m t = wait_view (around (program_of m.program)) t.wait

-- a live task of this number at a place, in the table and beside it
pub record At (m : Machine) (i b : ℕ) : Type 0 where
  pub status : Status
  pub task : Task
  pub live : slice_get (table_of m.tasks).live i ≡ Some (b, status)
  pub is : slice_get m.moving.items i ≡ Some task

-- ## What a task wants
-- it is to take a step, which wants this kind of event
pub record StepsBy (m : Machine) (i b : ℕ) (kind : NextKind) : Type 0 where
  pub at : At m i b
  pub running : m.ending ≡ Running
  pub awake : is_awake_in at.task.wait ≡ true
  pub wanted : next_kind (program_of m.program) (control_by m at.task) ≡ kind

-- the task at a place has no wait
abbrev pub IsAwakeAt : Machine → ℕ → Type 0
IsAwakeAt m i = (t : Task) → slice_get m.moving.items i ≡ Some t → is_awake_in t.wait ≡ true

-- and its next step wants this kind of event
abbrev pub WantsAt : Machine → ℕ → NextKind → Type 0
WantsAt m i q = (t : Task) → slice_get m.moving.items i ≡ Some t → q ≡ next_kind (program_of m.program) (control_by m t)

-- it is to take no step, or none of this kind
abbrev pub WantsNot : Machine → ℕ → NextKind → Type 0
WantsNot m b kind = (i : ℕ) (at : At m i b) → m.ending ≡ Running → (is_awake_in at.task.wait ≡ false) ⊎ (next_kind (program_of m.program) (control_by m at.task) ≡ kind → ⊥)

-- it waits for what is due at or before a reading: the answer of this call, or none
pub record DuesBy (m : Machine) (i b : ℕ) (o : Option ℕ) (reading : ℕ) : Type 0 where
  pub at : At m i b
  pub running : m.ending ≡ Running
  pub waits : call_in at.task.wait ≡ o
  pub moment : ℕ
  pub due : due_of (shown m) (wait_by m at.task) ≡ Some moment
  pub come : moment ≤ reading

-- it waits for nothing that is
abbrev pub DuesNot : Machine → ℕ → ℕ → Type 0
DuesNot m b reading = (i : ℕ) (at : At m i b) → m.ending ≡ Running → is_by reading (due_of (shown m) (wait_by m at.task)) ≡ false
