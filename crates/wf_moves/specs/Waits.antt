-- What a task waits for.
--     task_local     the task by itself, with its wait
--     CanGoOn        a task that is awake has a move, which is kept, and one that waits has its call or its `try`; with at most one proof
use Rattle.std.specs.Prelude.{◌≡◌, ℕ, Bool, true, false, List, [], ◌∷◌, Some, None, Ok, Err, Option, Result, slice_get}
use Rattle.std.specs.Coded.{Coded-set, coded_bool, ×_prop}
use Rattle.wf_frames.specs.Foreseen.{Foresees, Foresees-prop}
use Rattle.wf_frames.specs.Forks.{is_work_at, parallel_at, work_view}
use Rattle.wf_frames.specs.Frames.{inner, result_of}
use Rattle.wf_frames.specs.Owned.{Around, local_of}
use Rattle.wf_frames.specs.declared.frames.Frame.{Frame}
use Rattle.wf_frames.specs.declared.frames.Frame.TheVariants as frame
use Rattle.wf_frames.specs.declared.frames.Frames.{Frames}
use Rattle.wf_model.specs.Config as model
use Rattle.wf_model.specs.Local.{Local}
use Rattle.wf_moves.specs.Going.{Going, Going-prop}
use Rattle.wf_moves.specs.declared.task.Task.{Task}
use Rattle.wf_moves.specs.declared.wait.Joining.{Joining}
use Rattle.wf_moves.specs.declared.wait.Wait.{Wait}
use Rattle.wf_moves.specs.declared.wait.Wait.TheVariants as wait
use Rattle.wf_model.specs.Spots.{Spot}
use Rattle.wf_model.specs.declared.node.Node.{Node}
use Rattle.wf_model.specs.declared.node.NodeKind.{NodeKind}
use Rattle.wf_model.specs.declared.node.NodeKind.TheVariants as kind
use Rattle.wf_scope.specs.declared.scopes.Scopes.{Scopes}
use Rattle.wf_value.specs.Data.{Data}
use Rattle.wf_value.specs.Pairs.{Text}
use Rattle.wf_value.specs.Plain.{plain}
use Rattle.wf_value.specs.declared.Value.{Value}

-- ## Waits
-- the number of the call that is waited for
abbrev pub call_in : Wait → Option ℕ
call_in wait.Awake = None
call_in (wait.Sleep due node) = None
call_in (wait.Delay due) = None
call_in (wait.Calling call node) = Some call
call_in (wait.Joining j) = None

-- the moment of a sleep or a delay
abbrev pub moment_in : Wait → Option ℕ
moment_in wait.Awake = None
moment_in (wait.Sleep due node) = Some due
moment_in (wait.Delay due) = Some due
moment_in (wait.Calling call node) = None
moment_in (wait.Joining j) = None

abbrev pub is_awake_in : Wait → Bool
is_awake_in wait.Awake = true
is_awake_in (wait.Sleep due node) = false
is_awake_in (wait.Delay due) = false
is_awake_in (wait.Calling call node) = false
is_awake_in (wait.Joining j) = false

-- whether it stands in a parallel step
abbrev pub is_joining : Wait → Bool
is_joining wait.Awake = false
is_joining (wait.Sleep due node) = false
is_joining (wait.Delay due) = false
is_joining (wait.Calling call node) = false
is_joining (wait.Joining j) = true

-- neither the answer to a call nor the branches of a parallel step are waited for
abbrev pub is_free : Wait → Bool
is_free wait.Awake = true
is_free (wait.Sleep due node) = true
is_free (wait.Delay due) = true
is_free (wait.Calling call node) = false
is_free (wait.Joining j) = false

-- the variable that takes the answer
abbrev pub result_in : Around → Wait → Option Text
result_in a wait.Awake = None
result_in a (wait.Sleep due node) = result_of a.spots (Some node)
result_in a (wait.Delay due) = None
result_in a (wait.Calling call node) = result_of a.spots (Some node)
result_in a (wait.Joining j) = None

abbrev pub wait_view : Around → Wait → model.Wait
wait_view a wait.Awake = model.Awake
wait_view a (wait.Sleep due node) = model.Sleep due (result_of a.spots (Some node))
wait_view a (wait.Delay due) = model.Delay due
wait_view a (wait.Calling call node) = model.Calling call (result_of a.spots (Some node))
wait_view a (wait.Joining j) = model.Awake

-- a parallel step, where it isn't told which branches run and which errors were kept
abbrev pub join_item : List Spot → Joining → model.Item
join_item ns j = model.Join (parallel_at ns j.node) (work_view (parallel_at ns j.node) j.next j.left) j.next [] []

-- the task's control: a parallel step in which it stands is innermost
abbrev pub control_in : List Spot → Wait → List model.Item → List model.Item
control_in ns wait.Awake k = k
control_in ns (wait.Sleep due node) k = k
control_in ns (wait.Delay due) k = k
control_in ns (wait.Calling call node) k = k
control_in ns (wait.Joining j) k = join_item ns j.value ∷ k

-- a task that waits so
abbrev pub waiting : Around → Wait → Local → Local
waiting a w l = record l { control = control_in a.spots w l.control; wait = wait_view a w }

-- the task by itself, at the control of its frames
abbrev pub task_local : Around → Task → Scopes → Local
task_local a t x = waiting a t.wait (local_of a t.frames x)

-- at another control
abbrev pub standing_at : Around → Task → Scopes → List model.Item → Local
standing_at a t x k = record (task_local a t x) { control = k }

-- an answer's value, or the error that it raises
abbrev pub answer_view : Result Value Value → Result Data Data
answer_view (Ok v) = Ok (plain v)
answer_view (Err e) = Err (plain e)

-- ## Going on
-- whether the node of this number is a call
abbrev pub is_call_kind : NodeKind → Bool
is_call_kind (kind.Call f) = true
is_call_kind k = false

abbrev pub is_call_node : Option Node → Bool
is_call_node None = false
is_call_node (Some x) = is_call_kind x.kind

abbrev pub is_call_at : List Node → ℕ → Bool
is_call_at nodes n = is_call_node (slice_get nodes n)

-- whether the innermost frame is a `try`
abbrev pub is_at_try : List Frame → Bool
is_at_try [] = false
is_at_try (frame.Try trying ∷ fs) = true
is_at_try (f ∷ fs) = false

-- these frames have a move, and what is next is kept; it is a sleep's or a request's call for which is waited, or they stand before the body of a `try`;
-- or what is left of a parallel step is the work of its node
abbrev pub GoesFrom : List Node → Wait → Frames → Type 0
GoesFrom nodes wait.Awake fs = Going nodes (inner fs) × Foresees nodes fs
GoesFrom nodes (wait.Sleep due node) fs = is_call_at nodes node ≡ true
GoesFrom nodes (wait.Delay due) fs = is_at_try (inner fs) ≡ true
GoesFrom nodes (wait.Calling call node) fs = is_call_at nodes node ≡ true
GoesFrom nodes (wait.Joining j) fs = is_work_at nodes j.value.node j.value.left ≡ true

abbrev pub CanGoOn : List Node → Task → Type 0
CanGoOn nodes t = GoesFrom nodes t.wait t.frames

GoesFrom-prop : (nodes : List Node) (w : Wait) (fs : Frames) → IsProp (GoesFrom nodes w fs)
GoesFrom-prop nodes wait.Awake fs = ×_prop (Going-prop nodes (inner fs)) (Foresees-prop nodes fs)
GoesFrom-prop nodes (wait.Sleep due node) fs = Coded-set coded_bool _ _
GoesFrom-prop nodes (wait.Delay due) fs = Coded-set coded_bool _ _
GoesFrom-prop nodes (wait.Calling call node) fs = Coded-set coded_bool _ _
GoesFrom-prop nodes (wait.Joining j) fs = Coded-set coded_bool _ _

pub CanGoOn-prop : (nodes : List Node) (t : Task) → IsProp (CanGoOn nodes t)
CanGoOn-prop nodes t = GoesFrom-prop nodes t.wait t.frames
