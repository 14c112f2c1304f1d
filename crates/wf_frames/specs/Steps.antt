-- What a step comes to.
--     come, asks        what is left of a step leads on so; where it makes a request, so
--     Performs ..       a body, a step and a frame, by the frames before and behind and what is left to be done
--     Issues ..         the same where a request is made
--     IsReady           what is left can be done
use Rattle.std.specs.Global.{Global}
use Rattle.std.specs.Prelude.{◌≡◌, ◌<◌, ◌≤◌, ◌⊎◌, ℕ, Bool, true, false, ◌&&◌, is_none, List, [], ◌∷◌, length, Some, None, Ok, Option, Result, unwrap_or, Box}
use Rattle.wf_ast.specs.Accept as model
use Rattle.wf_ast.specs.Apply.{View}
use Rattle.wf_ast.specs.Eval.{fill, truth, whole}
use Rattle.wf_ast.specs.Flows.{flow}
use Rattle.wf_ast.specs.Func.{special_named}
use Rattle.wf_ast.specs.Tree.{Body, CallBody, Program, Template}
use Rattle.wf_eval.specs.Answers.{Answers}
use Rattle.wf_frames.specs.Fits.{IsCall, IsParallel, entries_at, has_next, list_at, reach, view_at}
use Rattle.wf_frames.specs.Frames.{control}
use Rattle.wf_frames.specs.declared.frames.Frame.{Frame}
use Rattle.wf_frames.specs.declared.frames.Frame.TheVariants as frame
use Rattle.wf_model.specs.Calls.{calls, calls_named, http_method, issues_call, requests}
use Rattle.wf_model.specs.Config.{Item, Left, range_left}
use Rattle.wf_model.specs.Kinds.{ByCall, body_kind, next_kind}
use Rattle.wf_model.specs.Layers.{view}
use Rattle.wf_model.specs.Leave.{raises, returns, jumps}
use Rattle.wf_model.specs.Local.{Local, Scene, Moved, Breaks, Not, goes}
use Rattle.wf_model.specs.Move.{assigns, forks, issues, moves, performs, steps_on, then_item}
use Rattle.wf_frames.specs.declared.step.Leads.{Leads}
use Rattle.wf_frames.specs.declared.step.Leads.TheVariants as leads
use Rattle.wf_frames.specs.declared.step.Step.{Step}
use Rattle.wf_frames.specs.declared.step.Step.TheVariants as step
use Rattle.wf_model.specs.NodeKinds.{Listed}
use Rattle.wf_model.specs.Spots.{Spot, owners_at, part_at, part_body, part_condition, part_entry, part_next}
use Rattle.wf_model.specs.declared.node.CallNode.{CallNode}
use Rattle.wf_model.specs.declared.node.Node.{Node}
use Rattle.wf_model.specs.declared.node.ParallelNode.{ParallelNode}
use Rattle.wf_model.specs.declared.node.NodeKind.{NodeKind}
use Rattle.wf_model.specs.declared.node.NodeKind.TheVariants as kind
use Rattle.wf_value.specs.Events.{Method}
use Rattle.wf_value.specs.Data.{Data, Pairs, depth, pairs_depth, pairs_of}
use Rattle.wf_value.specs.Errors.{error_map, Answer, ◌>>=◌}
use Rattle.wf_value.specs.Pairs.{Text}
use Rattle.wf_value.specs.Plain.{plain}
use Rattle.wf_value.specs.declared.Raise.{Raise}
use Rattle.wf_value.specs.declared.Raise.TheVariants.{Error, OutOfMemory}
use Rattle.wf_value.specs.declared.Value.{Value}

-- the parts of a program, and what owns the lists around one of them
pub record Within : Type 0 where
  pub spots : List Spot
  pub owners : List ℕ

-- the body and the `next` of an arm that was chosen
abbrev pub arm_in : List Spot → Option ℕ → Option (Body × Option Text)
arm_in ns None = None
arm_in ns (Some n) = Some (part_body (part_at ns n), part_next (part_at ns n))

-- a call goes on, with its arguments
abbrev pub calls_by : Scene → Body → Pairs → List Item → Local → Moved
calls_by s (Body.Call f) args k l = calls_named s f.result (flow s.program.flows f.name) f.name args k l
calls_by s body args k l = goes k l

-- a parallel step is entered
abbrev pub forks_by : Scene → Body → List Item → Local → Moved
forks_by s (Body.Parallel body) k l = forks s body k l
forks_by s body k l = goes k l

-- what has a value at hand leads on so, at this control
abbrev pub come_to : List Spot → Leads → Scene → List Item → Local → Moved
come_to ns (leads.Raises v) s k l = raises s k l (plain v)
come_to ns (leads.Returns v) s k l = returns s (plain v) k l
come_to ns (leads.Calls n m) s k l = calls_by s (part_body (part_at ns n)) (pairs_of m) k l
come_to ns (leads.Forks n) s k l = forks_by s (part_body (part_at ns n)) k l

-- what is left of a step leads on so, at this control
abbrev pub come : List Spot → Step → Scene → List Item → Local → Moved
come ns step.Goes s k l = goes k l
come ns (step.Jumps n) s k l = jumps s (unwrap_or (part_next (part_at ns n)) []) k l
come ns (step.Assigns n) s k l = assigns s (part_entry (part_at ns n)) k l
come ns (step.Leads x) s k l = come_to ns x.value s k l

-- ## Requests
-- the request of a call of HTTP is made, with its arguments
abbrev pub asks_by : Scene → CallBody → Option (Option Method) → Pairs → List Item → Local → Moved
asks_by s f None args k l = Not
asks_by s f (Some m) args k l = requests s f m k l args

-- that of a body
abbrev pub asks_with : Scene → Body → Pairs → List Item → Local → Moved
asks_with s (Body.Call f) args k l = asks_by s f (http_method (special_named f.name)) args k l
asks_with s body args k l = Not

-- what is left of a step that makes a request leads on so, at this control
abbrev pub asks_to : List Spot → Leads → Scene → List Item → Local → Moved
asks_to ns (leads.Calls n m) s k l = asks_with s (part_body (part_at ns n)) (pairs_of m) k l
asks_to ns x s k l = come_to ns x s k l

abbrev pub asks : List Spot → Step → Scene → List Item → Local → Moved
asks ns (step.Leads x) s k l = asks_to ns x.value s k l
asks ns st s k l = come ns st s k l

-- a body makes a request; k is what stands outside it, its `next` among that
abbrev pub issues_body : Scene → Body → List Item → Local → Moved
issues_body s (Body.Call f) k l = issues_call s f (http_method (special_named f.name)) k l
issues_body s body k l = Not

-- a move is this one, or one that no accepted program makes
abbrev pub IsOrBreaks : Moved → Moved → Type 0
IsOrBreaks m x = (m ≡ x) ⊎ ((kind : model.Kind) × (m ≡ Breaks kind))

-- what is left of a step is this, in its box
pub record LeadsSo (by : Leads) (st : Step) : Type 0 where
  pub held : Box Leads Global
  pub is : st ≡ step.Leads held
  pub holds : held.value ≡ by

-- the step raises the error of an evaluation
abbrev pub Fails : Raise → Step → Type 0
Fails (Error t) st = (v : Value) × LeadsSo (leads.Raises v) st × (plain v ≡ error_map t)
Fails OutOfMemory st = ⊥

-- ## What the parts of a step do, wherever the task stands
abbrev pub ReturnsValue : Template → View → Step → Type 0
ReturnsValue t v st = (ns : List Spot) (s : Scene) (k : List Item) (l : Local) → view s l ≡ v → performs s (Body.Return t) k l ≡ come ns st s k l

abbrev pub RaisesValue : Template → View → Step → Type 0
RaisesValue t v st = (ns : List Spot) (s : Scene) (k : List Item) (l : Local) → view s l ≡ v → performs s (Body.Raise t) k l ≡ come ns st s k l

-- the node is this call
abbrev pub CallsWith : ℕ → CallBody → View → Step → Type 0
CallsWith n f v st = (ns : List Spot) (s : Scene) (k : List Item) (l : Local) → part_body (part_at ns n) ≡ Body.Call f → view s l ≡ v → calls s f k l ≡ come ns st s k l

-- which makes a request
abbrev pub AsksWith : ℕ → CallBody → View → Step → Type 0
AsksWith n f v st =
    (ns : List Spot) (s : Scene) (k : List Item) (l : Local) → part_body (part_at ns n) ≡ Body.Call f → view s l ≡ v → body_kind s.program (Body.Call f) ≡ ByCall
    → IsOrBreaks (issues_body s (Body.Call f) k l) (asks ns st s k l)

-- the range of two values, which must be whole numbers
abbrev pub ends : Data → Data → Answer Left
ends v w = whole v >>= λ m. whole w >>= λ n. Ok (range_left m n)

-- a body is carried out: these frames become those, and this is left to be done
abbrev pub Performs : List Spot → Body → View → List Frame → List Frame → Step → Type 0
Performs ns body v old new st = (s : Scene) (l : Local) → view s l ≡ v → performs s body (control ns old) l ≡ come ns st s (control ns new) l

-- so is a step
abbrev pub CarriesOut : List Spot → Body → Option Text → View → List Frame → List Frame → Step → Type 0
CarriesOut ns body next v old new st = (s : Scene) (l : Local) → view s l ≡ v → steps_on s body next (control ns old) l ≡ come ns st s (control ns new) l

-- the same of a body and of a step that make a request
abbrev pub PerformsCall : List Spot → Body → View → List Frame → List Frame → Step → Type 0
PerformsCall ns body v old new st =
    (s : Scene) (l : Local) → view s l ≡ v → body_kind s.program body ≡ ByCall
    → IsOrBreaks (issues_body s body (control ns old) l) (asks ns st s (control ns new) l)

abbrev pub CarriesCall : List Spot → Body → Option Text → View → List Frame → List Frame → Step → Type 0
CarriesCall ns body next v old new st =
    (s : Scene) (l : Local) → view s l ≡ v → body_kind s.program body ≡ ByCall
    → IsOrBreaks (issues_body s body (then_item next (control ns old)) l) (asks ns st s (control ns new) l)

-- a call that is left is that of the node with this number
abbrev pub IsCallOn : ℕ → Leads → Type 0
IsCallOn n (leads.Calls m args) = m ≡ n
IsCallOn n x = Unit {0}

abbrev pub IsOf : ℕ → Step → Type 0
IsOf n (step.Leads x) = IsCallOn n x.value
IsOf n st = Unit {0}

-- no call is left
abbrev pub CallsNone : Leads → Type 0
CallsNone (leads.Calls n m) = ⊥
CallsNone x = Unit {0}

abbrev pub IsNoCall : Step → Type 0
IsNoCall (step.Leads x) = CallsNone x.value
IsNoCall st = Unit {0}

-- the condition of an arm holds or not, or can't be told
abbrev pub Holds : List Spot → ℕ → View → Result Bool Raise → Type 0
Holds ns n v r = Answers (λ b. b) r (fill (part_condition (part_at ns n)) v >>= truth)

-- ## Nodes
-- a node's body does nothing, and its `next` isn't there
abbrev pub is_idle_kind : NodeKind → Bool
is_idle_kind (kind.Assign v) = false
is_idle_kind (kind.Call f) = false
is_idle_kind (kind.Switch v) = false
is_idle_kind (kind.For l) = false
is_idle_kind (kind.Parallel p) = false
is_idle_kind (kind.Block b) = false
is_idle_kind (kind.Try t) = false
is_idle_kind (kind.Raise t) = false
is_idle_kind (kind.Return t) = false
is_idle_kind k = true

abbrev pub is_idle : Node → Bool
is_idle x = is_idle_kind x.kind && is_none x.next

-- ## Frames
-- the list isn't at its end
abbrev pub IsBefore : List Node → ℕ → ℕ → Type 0
IsBefore nodes n at = (b : Listed) × (list_at nodes n ≡ Some b) × (at < length b.steps)

-- the assign isn't at its end
abbrev pub IsBeforeEntry : List Node → ℕ → ℕ → Type 0
IsBeforeEntry nodes n at = (numbers : List ℕ) × (entries_at nodes n ≡ Some numbers) × (at < length numbers)

-- the frame has something to do, and isn't a loop
abbrev pub HasStep : List Node → Frame → Type 0
HasStep nodes (frame.Do n at) = IsBefore nodes n at
HasStep nodes (frame.Lone n true) = ⊥
HasStep nodes (frame.Lone n false) = Unit {0}
HasStep nodes (frame.Entries n at) = IsBeforeEntry nodes n at
HasStep nodes (frame.Then n) = Unit {0}
HasStep nodes (frame.Loop looping) = ⊥
HasStep nodes (frame.Try trying) = ⊥
HasStep nodes (frame.Mark number) = ⊥
HasStep nodes (frame.Back call number) = ⊥
HasStep nodes (frame.Judge judging) = ⊥

-- the innermost one is such a frame
abbrev pub HasStepOnTop : List Node → List Frame → Type 0
HasStepOnTop nodes [] = ⊥
HasStepOnTop nodes (f ∷ fs) = HasStep nodes f

-- a move of the task: these frames become those, and this is left to be done
abbrev pub Moves : List Spot → List Frame → View → List Frame → Step → Type 0
Moves ns old v new st = (s : Scene) (l : Local) → view s l ≡ v → moves s (control ns old) l ≡ come ns st s (control ns new) l

-- a request of the task, in the same way
abbrev pub Issues : List Spot → List Frame → View → List Frame → Step → Type 0
Issues ns old v new st =
    (s : Scene) (l : Local) → view s l ≡ v → next_kind s.program (control ns old) ≡ ByCall
    → IsOrBreaks (issues s (control ns old) l) (asks ns st s (control ns new) l)

-- the body of a call that is left wants the event that the frames want
abbrev pub CallWants : List Spot → List Frame → Leads → Type 0
CallWants ns old (leads.Calls n m) = (p : Program) → next_kind p (control ns old) ≡ body_kind p (part_body (part_at ns n))
CallWants ns old x = Unit {0}

abbrev pub WantsSame : List Spot → List Frame → Step → Type 0
WantsSame ns old (step.Leads x) = CallWants ns old x.value
WantsSame ns old st = Unit {0}

-- ## What is left of a step
-- neither a jump nor an assignment nor a call, and a value or an error nests within the limit
abbrev pub IsGiven : Leads → Type 0
IsGiven (leads.Raises v) = depth (plain v) ≤ 100
IsGiven (leads.Returns v) = depth (plain v) ≤ 100
IsGiven (leads.Calls n m) = ⊥
IsGiven (leads.Forks n) = ⊥

abbrev pub IsDone : Step → Type 0
IsDone step.Goes = Unit {0}
IsDone (step.Leads x) = IsGiven x.value
IsDone (step.Jumps n) = ⊥
IsDone (step.Assigns n) = ⊥

-- the node says what is next, and stands where the frames stand
pub record IsJump (ns : List Spot) (nodes : List Node) (n : ℕ) (fs : List Frame) : Type 0 where
  pub within : n < length nodes
  pub next : has_next (view_at nodes n) ≡ true
  pub inside : owners_at ns n ≡ reach fs

abbrev pub AreFit : List Node → Leads → Type 0
AreFit nodes (leads.Calls n m) = ((f : CallNode) × IsCall nodes n f) × (pairs_depth (pairs_of m) ≤ 100)
AreFit nodes (leads.Raises v) = depth (plain v) ≤ 100
AreFit nodes (leads.Returns v) = depth (plain v) ≤ 100
AreFit nodes (leads.Forks n) = (p : ParallelNode) × IsParallel nodes n p

abbrev pub IsReady : List Spot → List Node → List Frame → Step → Type 0
IsReady ns nodes fs (step.Jumps n) = IsJump ns nodes n fs
IsReady ns nodes fs (step.Assigns n) = n < length nodes
IsReady ns nodes fs (step.Leads x) = AreFit nodes x.value
IsReady ns nodes fs step.Goes = Unit {0}
