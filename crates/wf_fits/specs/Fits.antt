-- A configuration fits a program: six parts, and their laws.
--     PlacesExist      what each item holds stands in the program (specs/PlacesExist.antt; it follows from the others)
--     ItemsAreNested   each item stands inside the construct that put it on
--     LayersMatch      the layers are those of the items
--     TasksAreLinked   parents, running tasks and numbers
--     WaitsAreNamed    calls and endpoints that are waited for
--     WithinLimits     what is counted, and what values hold
--     Fits             all of these
use Rattle.std.specs.Prelude.{◌≡◌, ℕ, suc, ◌<◌, ◌≤◌, List, Some, None, Option}
use Rattle.wf_ast.specs.Accept.{Accept}
use Rattle.wf_ast.specs.Tree.{Flow, Program}
use Rattle.wf_fits.specs.Chain.{first_steps, first_binds, Chained, WaitStands, Matched, Bounded, RunsFew}
use Rattle.wf_fits.specs.PlacesExist.{PlacesExist}
use Rattle.wf_fits.specs.Limits.{FlowsShallow, IsSmall, WithinBodies, Within, AreNested}
use Rattle.wf_model.specs.Config.{Task, Active, Config, After, To, Wrong, NotNow, move_limit, call_limit, limits, task_in}
use Rattle.wf_model.specs.Unwind.{calls_in}
use Rattle.wf_model.specs.Run.{initial, run}
use Rattle.wf_model.specs.RunLaws.{RisesFrom}
use Rattle.wf_model.specs.Step.{next}
use Rattle.wf_never_wrong.specs.Places.{Own}
use Rattle.wf_never_wrong.specs.Stands.{OfEach, IsJoinOf, RunningAreTasks, FirstLives, BranchesAreNumbered, line_at, WaitsAreOpen, OpenCallsHaveTasks}
use Rattle.wf_value.specs.Events.{Event, Start}

-- the items of one task tell what opened its own layers
abbrev pub Nests : List Flow → List (ℕ × Task) → Task → List Own → Type 0
Nests fs ts t E = Chained fs (first_steps fs ts t.parent) (first_binds fs ts t.parent) t.control E × WaitStands fs t.wait t.control

-- each item stands inside the construct that put it on, and each wait behind the call that gives it
abbrev pub ItemsAreNested : Program → Config → Type 0
ItemsAreNested p c = OfEach c.tasks (λ b t. (E : List Own) × Nests p.flows c.tasks t E)

-- and each own layer is that of its Mark or Back, or the task's first
abbrev pub LayersMatch : Program → Config → Type 0
LayersMatch p c = OfEach c.tasks (λ b t. (E : List Own) × Nests p.flows c.tasks t E × Matched t.parent t.layers E)

-- ## Tasks
-- a live task with a smaller number, in whose parallel step the task runs
pub record IsParent (ts : List (ℕ × Task)) (b a : ℕ) : Type 0 where
  pub parent : Task
  pub found : task_in ts a ≡ Some parent
  pub less : a < b
  pub joins : IsJoinOf parent.control b

-- just task 0 has none
abbrev pub HasParent : List (ℕ × Task) → ℕ → Option (ℕ × ℕ) → Type 0
HasParent ts b None = b ≡ 0
HasParent ts b (Some p) = IsParent ts b p.0

pub record TasksAreLinked (c : Config) : Type 0 where
  -- the tasks stand by rising number, below the count of those that were made
  pub numbered : RisesFrom 0 c.made c.tasks
  -- which events made, one at most each
  pub few : c.made ≤ suc c.moves
  -- task 0 lives while there is no outcome
  pub first : c.outcome ≡ Active → FirstLives c.tasks
  pub parents : OfEach c.tasks (λ b t. HasParent c.tasks b t.parent)
  -- each task that runs in a parallel step lives, and is a child of the task that stands there
  pub running : RunningAreTasks c.tasks
  -- iterations and branches that began are counted by the moves
  pub bounded : OfEach c.tasks (λ b t. Bounded c.moves t.control)
  -- the branches of a parallel step that live and those with a kept error have numbers of their own, below the next one
  pub branches : BranchesAreNumbered (line_at c.tasks)

-- ## Waits
pub record WaitsAreNamed (c : Config) : Type 0 where
  -- the call is open for this task; the endpoint is there, and its queue is empty
  pub waits : WaitsAreOpen c.tasks c.calls c.endpoints
  -- each open call has its task, which waits for it
  pub calls : OpenCallsHaveTasks c.tasks c.calls

-- ## Limits
pub record WithinLimits (c : Config) : Type 0 where
  pub moves : c.moves ≤ move_limit
  -- the limit is reached by a configuration with an outcome alone
  pub limit : c.outcome ≡ Active → c.moves < move_limit
  -- the bytes of all bodies, and each queue
  pub bodies : WithinBodies c
  -- calls of workflows in each other
  pub calls : OfEach c.tasks (λ b t. calls_in t.control ≤ call_limit)
  -- branches that run at once
  pub running : OfEach c.tasks (λ b t. RunsFew t.control)
  -- all variables, all logged values, and the nesting of each value
  pub values : Within c
  -- parallel steps in each other
  pub nesting : AreNested (limits c.facts.rules).nesting c

-- ## All parts
pub record Fits (p : Program) (c : Config) : Type 0 where
  pub items : ItemsAreNested p c
  pub layers : LayersMatch p c
  pub tasks : TasksAreLinked c
  pub waits : WaitsAreNamed c
  pub limits : WithinLimits c

-- what an event leads to, which is nothing wrong
abbrev pub FitsAfter : Program → After → Type 0
FitsAfter p (To c) = Fits p c
FitsAfter p (Wrong k) = ⊥
FitsAfter p NotNow = Unit {0}

-- ## Laws
abbrev pub InitialFits : Type 0
InitialFits = (p : Program) → Accept p → FlowsShallow p.flows → (s : Start) → IsSmall p s → FitsAfter p (initial p s)

abbrev pub StepsFit : Type 0
StepsFit = (p : Program) → Accept p → FlowsShallow p.flows → (c : Config) → Fits p c → (e : Event) → FitsAfter p (next p c e)

abbrev pub RunsFit : Type 0
RunsFit = (p : Program) → Accept p → FlowsShallow p.flows → (s : Start) → IsSmall p s → (es : List Event) → FitsAfter p (run p s es)

-- what the items of a configuration that fits hold stands in the program
abbrev pub FittingExists : Type 0
FittingExists = (p : Program) → Accept p → (c : Config) → Fits p c → PlacesExist p c

-- ## Part by part
-- a part holds where an event leads, which is nothing wrong
abbrev pub IsSo : (Config → Type 0) → After → Type 0
IsSo F (To c) = F c
IsSo F (Wrong k) = ⊥
IsSo F NotNow = Unit {0}

-- where all parts held before an event, of any kind, this one does after it
abbrev pub Stays : (Program → Config → Type 0) → Type 0
Stays F = (p : Program) → Accept p → FlowsShallow p.flows → (c : Config) → Fits p c → (e : Event) → IsSo (F p) (next p c e)

abbrev pub PlacesStay : Type 0
PlacesStay = Stays PlacesExist

abbrev pub ItemsStay : Type 0
ItemsStay = Stays ItemsAreNested

abbrev pub LayersStay : Type 0
LayersStay = Stays LayersMatch

abbrev pub TasksStay : Type 0
TasksStay = Stays (λ p c. TasksAreLinked c)

abbrev pub WaitsStay : Type 0
WaitsStay = Stays (λ p c. WaitsAreNamed c)

abbrev pub LimitsStay : Type 0
LimitsStay = Stays (λ p c. WithinLimits c)
