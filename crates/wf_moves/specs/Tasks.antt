-- Tasks: their start and their moves.
--     begun       a task before a workflow, with its argument
--     argued      a layer with the argument in it
--     Names       a node is a call of such a name
--     MovesSo     a move, a request or a log of the model, by what a call gives and leaves
use Rattle.std.specs.Prelude.{◌≡◌, ◌≤◌, ℕ, Bool, true, false, List, [], ◌∷◌, Some, None, Option, is_some}
use Rattle.wf_ast.specs.Tree.{Flow, Param, no_steps}
use Rattle.wf_frames.specs.Fits.{IsCall, view_at}
use Rattle.wf_frames.specs.Frames.{inner}
use Rattle.wf_frames.specs.Held.{Held, standing}
use Rattle.wf_frames.specs.Owned.{Around, local_of}
use Rattle.wf_frames.specs.Sights.{Sees}
use Rattle.wf_frames.specs.Turns.{Agrees}
use Rattle.wf_branches.specs.Changes.{new_join}
use Rattle.wf_branches.specs.Steps.{join_of}
use Rattle.wf_frames.specs.declared.facts.Facts.{Facts}
use Rattle.wf_frames.specs.declared.forking.Fork.{Fork}
use Rattle.wf_frames.specs.declared.frames.Frame.{Frame}
use Rattle.wf_frames.specs.declared.frames.Frames.{Frames}
use Rattle.wf_http_ask.specs.View.{request_view}
use Rattle.wf_model.specs.Config.{Awake, Do, Item}
use Rattle.wf_model.specs.Local.{Breaks, Does, Goes, Local, Logs, Moved, Scene, Sends, settle}
use Rattle.wf_model.specs.Run.{argument_in}
use Rattle.wf_moves.specs.Moved.{IsEnd, IsLeft, IsMove, IsWent}
use Rattle.wf_moves.specs.Requests.{Reaches}
use Rattle.wf_moves.specs.Waits.{CanGoOn, GoesFrom, call_in, is_free, is_joining, waiting}
use Rattle.wf_moves.specs.declared.wait.Wait.TheVariants as wait
use Rattle.wf_moves.specs.declared.finish.Awaits.{Awaits}
use Rattle.wf_moves.specs.declared.finish.Awaits.TheVariants as awaits
use Rattle.wf_moves.specs.declared.finish.Done.{Done}
use Rattle.wf_moves.specs.declared.finish.Done.TheVariants as done
use Rattle.wf_moves.specs.declared.task.Move.{Move}
use Rattle.wf_moves.specs.declared.task.Move.TheVariants as move
use Rattle.wf_moves.specs.declared.task.Told.{Told}
use Rattle.wf_moves.specs.declared.task.Told.TheVariants as told
use Rattle.wf_moves.specs.declared.finish.Went.{Went}
use Rattle.wf_moves.specs.declared.finish.Went.TheVariants as went
use Rattle.wf_moves.specs.declared.logging.Behind.{Behind}
use Rattle.wf_moves.specs.declared.logging.Behind.TheVariants as behind
use Rattle.wf_sys_ask.specs.declared.entry.Logged.{Logged}
use Rattle.wf_moves.specs.declared.sending.Sending.{Sending}
use Rattle.wf_moves.specs.declared.sending.Sent.{Sent}
use Rattle.wf_moves.specs.declared.task.Task.{Task}
use Rattle.wf_model.specs.NodeKinds as kind
use Rattle.wf_model.specs.NodeKinds.{Listed, View}
use Rattle.wf_model.specs.Spots.{FlowAt, Part, part_list}
use Rattle.wf_model.specs.declared.node.CallNode.{CallNode}
use Rattle.wf_model.specs.declared.node.Node.{Node}
use Rattle.wf_scope.specs.Layers.{Layer, put_at}
use Rattle.wf_scope.specs.Store.{layers_of}
use Rattle.wf_scope.specs.declared.scopes.Scopes.{Scopes}
use Rattle.wf_value.specs.Data.{Data, depth}
use Rattle.wf_value.specs.Pairs.{Text}
use Rattle.wf_value.specs.Plain.{plain}

-- ## The start
-- the node is a workflow
pub record IsFlow (nodes : List Node) (n : ℕ) : Type 0 where
  pub view : View
  pub at : view_at nodes n ≡ Some view
  pub params : List Param
  pub list : Listed
  pub is : view.kind ≡ kind.Flow params list

-- nothing stands around the task: no layer is there yet, none is seen outside, and the limit is the store's
pub record IsFirst (a : Around) (x : Scopes) : Type 0 where
  pub empty : layers_of x ≡ []
  pub keys : a.keys ≡ []
  pub rest : a.rest ≡ []
  pub others : a.others ≡ 0
  pub limit : x.limit ≡ a.limit

-- the workflow that a part is
abbrev pub flow_at : Part → Flow
flow_at (FlowAt f) = f
flow_at p = record { name = []; params = []; steps = no_steps }

-- the parameters of a workflow
abbrev pub part_params : Part → List Param
part_params (FlowAt f) = f.params
part_params p = []

-- a task with one layer, which no call opened: in it is the argument, if the workflow has a parameter
abbrev pub begun : List Param → Data → Local
begun ps v = record {
  control = [];
  layers = record { vars = argument_in ps v; by_call = false } ∷ [];
  outer = [];
  wait = Awake;
}

-- a task before the steps of a workflow, settled
abbrev pub first : Part → Data → Local
first p v = settle (Do (part_list p) (part_list p) ∷ []) (begun (part_params p) v)

-- a layer of a store with the argument, if there is a parameter
abbrev pub argued : ℕ → List Param → Data → List Layer → List Layer
argued n [] v ls = ls
argued n (x ∷ xs) v ls = put_at n x.name v ls

-- ## Calls
-- the node is a call, and its name is such a one
abbrev pub Names : List Node → ℕ → (Text → Type 0) → Type 0
Names nodes n P = (f : CallNode) × IsCall nodes n f × P f.name

-- ## Moves
-- no frame is left
abbrev pub has_ended : List Frame → Bool
has_ended [] = true
has_ended (f ∷ fs) = false

-- the model's request, where it isn't one that no accepted program makes
abbrev pub IsRequest : Moved → Sent → Local → Type 0
IsRequest (Breaks kind) x l = Unit {0}
IsRequest (Does (Sends q d) m) x l = (q ≡ request_view x.request) × (d ≡ x.due) × (m ≡ Goes l)
IsRequest m x l = ⊥

-- the model's log, and its move then, where it isn't one that no accepted program makes
abbrev pub IsLogged : Scene → Moved → Logged → Went → Local → Type 0
IsLogged s (Breaks kind) x w l = Unit {0}
IsLogged s (Does (Logs severity v) m) x w l = (severity ≡ x.severity) × (v ≡ plain x.value) × (depth (plain x.value) ≤ 100) × IsMove s m w l
IsLogged s m x w l = ⊥

-- the model's move, where it isn't one that no accepted program makes, into a parallel step with so many branches: none has begun
abbrev pub IsForked : Moved → Fork → Local → Type 0
IsForked (Breaks kind) f l = Unit {0}
IsForked (Goes m) f l = (m ≡ l) × (join_of l.control ≡ Some (new_join f.total f.limit))
IsForked m f l = ⊥

-- the model's move behind a log
abbrev pub IsBehind : Moved → Behind → Local → Type 0
IsBehind m behind.Goes l = IsWent m l
IsBehind m (behind.Ended e) l = IsEnd m e l

-- the model's log, and where the move then leads
abbrev pub HasLogged : Moved → Logged → Behind → Local → Type 0
HasLogged (Breaks kind) x b l = Unit {0}
HasLogged (Does (Logs severity v) m) x b l = (severity ≡ x.severity) × (v ≡ plain x.value) × (depth (plain x.value) ≤ 100) × IsBehind m b l
HasLogged m x b l = ⊥

-- the model's move, request or log, by what a call gives and leaves
abbrev pub MovesTo : Moved → Option Told → Local → Type 0
MovesTo m None l = IsWent m l
MovesTo m (Some (told.Ended e)) l = IsEnd m e l
MovesTo m (Some (told.Sent x)) l = IsRequest m x.value l
MovesTo m (Some (told.Logged x b)) l = HasLogged m x.value b l
MovesTo m (Some (told.Forked f)) l = IsForked m f l

-- which of the few a move has done, if it has done one
abbrev pub told_in : Move → Option Told
told_in move.Went = None
told_in (move.Told x) = Some x.value

abbrev pub MovesSo : Moved → Move → Local → Type 0
MovesSo m d l = MovesTo m (told_in d) l

abbrev pub is_told_sent : Option Told → Bool
is_told_sent (Some (told.Sent x)) = true
is_told_sent t = false

abbrev pub is_sent : Move → Bool
is_sent d = is_told_sent (told_in d)

-- behind a log a task that goes on or waits can go on, and stands in no parallel step; and of one that has ended no frame is left
abbrev pub StaysBehind : List Node → Behind → Task → Type 0
StaysBehind nodes behind.Goes t = (is_free t.wait ≡ true) × CanGoOn nodes t
StaysBehind nodes (behind.Ended e) t = inner t.frames ≡ []

-- a task that goes on or waits can go on, has made no request and stands in no parallel step; and of one that has ended no frame is left
abbrev pub StaysTold : List Node → Option Told → Task → Type 0
StaysTold nodes None t = (is_free t.wait ≡ true) × CanGoOn nodes t
StaysTold nodes (Some (told.Ended e)) t = inner t.frames ≡ []
StaysTold nodes (Some (told.Sent x)) t = (is_some (call_in t.wait) ≡ true) × CanGoOn nodes t
StaysTold nodes (Some (told.Logged x b)) t = StaysBehind nodes b t
StaysTold nodes (Some (told.Forked f)) t = (is_joining t.wait ≡ true) × CanGoOn nodes t

abbrev pub Stays : List Node → Move → Task → Type 0
Stays nodes d t = StaysTold nodes (told_in d) t

-- the move of a task that stands so behind it
abbrev pub told_by : Behind → Option Told
told_by behind.Goes = None
told_by (behind.Ended e) = Some (told.Ended e)

-- ## Moves, requests and logs within a call
-- the model's request, log or sleep, of a task that waits so
abbrev pub IsAwaited : Around → Scene → Moved → Awaits → Local → Type 0
IsAwaited a s m (awaits.Sent x w) l = IsRequest m x.value (waiting a w l)
IsAwaited a s m (awaits.Logged x w) l = IsLogged s m x.value w l
IsAwaited a s m (awaits.Waits w) l = IsWent m (waiting a w l)
IsAwaited a s m (awaits.Forks f j) l = IsForked m f (waiting a (wait.Joining j) l)

-- the model's move, request or log, of a task that goes on so or waits
abbrev pub IsDone : Around → Scene → Moved → Done → Local → Type 0
IsDone a s m done.Goes l = IsMove s m went.Goes l
IsDone a s m done.Ends l = IsMove s m went.Ends l
IsDone a s m (done.Turned x) l = IsMove s m (went.Turned x) l
IsDone a s m (done.Awaits x) l = IsAwaited a s m x.value l

-- it is this one, whatever the scene that has these facts, and agrees on the limit, the rest and the workflows
abbrev pub DoesBy : Around → Facts → Sending → (Scene → Local → Moved) → Held → Done → Frames → Scopes → Type 0
DoesBy a f g m h d fs x = (s : Scene) (c : List Item) → Sees s f → Reaches s g → Agrees s a → IsDone a s (m s (standing c h)) d (local_of a fs x)

-- the same of one that sees no calls
abbrev pub SleepsBy : Around → Facts → (Scene → Local → Moved) → Held → Done → Frames → Scopes → Type 0
SleepsBy a f m h d fs x = (s : Scene) (c : List Item) → Sees s f → Agrees s a → IsDone a s (m s (standing c h)) d (local_of a fs x)

-- the same of a scene whose facts don't matter
abbrev pub LogsBy : Around → Sending → (Scene → Local → Moved) → Held → Done → Frames → Scopes → Type 0
LogsBy a g m h d fs x = (s : Scene) (c : List Item) → Reaches s g → Agrees s a → IsDone a s (m s (standing c h)) d (local_of a fs x)

abbrev pub IsAwaitedLeft : List Node → Awaits → Frames → Type 0
IsAwaitedLeft nodes (awaits.Sent x w) fs = (is_some (call_in w) ≡ true) × GoesFrom nodes w fs
IsAwaitedLeft nodes (awaits.Logged x w) fs = IsLeft nodes w fs
IsAwaitedLeft nodes (awaits.Waits w) fs = (is_free w ≡ true) × GoesFrom nodes w fs
IsAwaitedLeft nodes (awaits.Forks f j) fs = GoesFrom nodes (wait.Joining j) fs

abbrev pub IsLeftSo : List Node → Done → Frames → Type 0
IsLeftSo nodes done.Goes fs = IsLeft nodes went.Goes fs
IsLeftSo nodes done.Ends fs = IsLeft nodes went.Ends fs
IsLeftSo nodes (done.Turned x) fs = IsLeft nodes (went.Turned x) fs
IsLeftSo nodes (done.Awaits x) fs = IsAwaitedLeft nodes x.value fs
