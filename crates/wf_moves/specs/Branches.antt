-- Branches of a parallel step.
--     First, first_of    the next branch: its steps, the names that it binds, and what is left behind it
--     BeginsAsStepsDo    so does the definition of steps
--     joins_with         how a task goes on behind a parallel step
--     error_by           with which error, where its branches have kept some
--     JoinsAsStepsDo     so does the definition of steps
use Rattle.std.specs.Global.{Global}
use Rattle.std.specs.Prelude.{◌≡◌, ◌≤◌, ℕ, ◌+◌, Bool, true, false, not, List, [], ◌∷◌, Some, None, Ok, Err, Box, Option}
use Rattle.wf_ast.specs.Tree.{no_branches, branch, OfBranches, OfLoop, ParallelBody, parallel, Steps}
use Rattle.wf_frames.specs.Fits.{Fits}
use Rattle.wf_frames.specs.Forks.{opened_in, parallel_at, work_view}
use Rattle.wf_frames.specs.Frames.{control, inner, own}
use Rattle.wf_frames.specs.Innermost.{innermost}
use Rattle.wf_frames.specs.Owned.{own_of}
use Rattle.wf_frames.specs.Turns.{bound_all}
use Rattle.wf_model.specs.Config as model
use Rattle.wf_model.specs.Config.{After, BranchesLeft, Config, Do, Item, Left, NotNow, ValuesLeft, WorkLeft, is_empty, limits, next_of}
use Rattle.wf_model.specs.Layers.{bound}
use Rattle.wf_model.specs.Leave.{raises}
use Rattle.wf_model.specs.Local.{Local, Moved, Scene, goes}
use Rattle.wf_model.specs.Move.{join_error, joins, loop_names, loop_steps}
use Rattle.wf_model.specs.Step.{starts, starts_work}
use Rattle.wf_model.specs.Taken.{tasks_total}
use Rattle.wf_model.specs.Spots.{Spot, part_at, part_list}
use Rattle.wf_model.specs.declared.node.Node.{Node}
use Rattle.wf_moves.specs.Waits.{CanGoOn, is_awake_in}
use Rattle.wf_moves.specs.declared.branch.Begun.{Begun}
use Rattle.wf_moves.specs.declared.branch.Begun.TheVariants as begun
use Rattle.wf_moves.specs.declared.task.Task.{Task}
use Rattle.wf_moves.specs.declared.wait.Joining.{Joining}
use Rattle.wf_moves.specs.declared.wait.Wait.{Wait}
use Rattle.wf_moves.specs.declared.wait.Wait.TheVariants as wait
use Rattle.wf_scope.specs.Layers.{Layer, fresh}
use Rattle.wf_scope.specs.declared.fault.AssignFault.TheVariants as fault
use Rattle.wf_value.specs.Data.{Data, depth, no_pairs}
use Rattle.wf_value.specs.Errors.{error_map}
use Rattle.wf_value.specs.Pairs.{Text}
use Rattle.wf_value.specs.Plain.{plain}
use Rattle.wf_value.specs.declared.Tag.TheVariants.{ResourceLimitError}

-- ## The next branch
pub record First : Type 0 where
  pub steps : Steps
  pub names : List (Text × Data)
  pub left : WorkLeft

abbrev pub first_turn : ParallelBody → ℕ → Option (Data × Left) → Option First
first_turn p n None = None
first_turn (parallel names limit (OfLoop l)) n (Some v) = Some (record { steps = loop_steps l; names = loop_names l v.0 n; left = ValuesLeft v.1 })
first_turn (parallel names limit (OfBranches bs)) n (Some v) = None

-- the branch or iteration of this number, where so much is left
abbrev pub first_of : ParallelBody → ℕ → WorkLeft → Option First
first_of p n (BranchesLeft no_branches) = None
first_of p n (BranchesLeft (branch x ss bs)) = Some (record { steps = ss; names = []; left = BranchesLeft bs })
first_of p n (ValuesLeft left) = first_turn p n (next_of left)

-- a task that begins it, by the definition of steps
abbrev pub begins_with : ℕ → model.Task → ParallelBody → ℕ → List ℕ → List (ℕ × Data) → List Item → Config → Option First → After
begins_with a t body n running es k c None = NotNow
begins_with a t body n running es k c (Some f) = starts a t body f.left n running es k f.steps (bound (limits c.facts.rules).variables (tasks_total c.tasks) f.names no_pairs) c

abbrev pub BeginsAsStepsDo : Type 0
BeginsAsStepsDo =
    (a : ℕ) (t : model.Task) (body : ParallelBody) (left : WorkLeft) (n : ℕ) (running : List ℕ) (es : List (ℕ × Data)) (k : List Item) (c : Config)
    → starts_work a t body left n running es k c ≡ begins_with a t body n running es k c (first_of body n left)

-- ## Behind a parallel step
-- without an error, or with this one
abbrev pub joins_with : Scene → Option Data → List Item → Local → Moved
joins_with s None k l = goes k l
joins_with s (Some e) k l = raises s k l e

-- that of the errors that were kept
abbrev pub error_in : ParallelBody → List (ℕ × Data) → Option Data
error_in body [] = None
error_in body (e ∷ es) = Some (join_error body (e ∷ es))

-- that of a task that stands so, with these errors of its branches
abbrev pub error_by : List Spot → Wait → List (ℕ × Data) → Data
error_by ns (wait.Joining j) es = join_error (parallel_at ns j.value.node) es
error_by ns w es = join_error (parallel_at ns 0) es

abbrev pub JoinsAsStepsDo : Type 0
JoinsAsStepsDo = (s : Scene) (body : ParallelBody) (es : List (ℕ × Data)) (k : List Item) (l : Local) → joins s body es k l ≡ joins_with s (error_in body es) k l

-- ## A task at a parallel step
-- work is left of a parallel step, and of that in which a task stands
abbrev pub is_left : List Spot → Joining → Bool
is_left ns j = not (is_empty (work_view (parallel_at ns j.node) j.next j.left))

abbrev pub has_left : List Spot → Wait → Bool
has_left ns (wait.Joining j) = is_left ns j.value
has_left ns w = false

-- a task that has begun, by the number of its layer
pub record IsBegun (ns : List Spot) (nodes : List Node) (f : First) (n : ℕ) (t : Task) : Type 0 where
  pub number : t.frames.first ≡ n
  pub control : control ns (inner t.frames) ≡ Do f.steps f.steps ∷ []
  pub own : own_of t.frames ≡ own n false ∷ []
  pub awake : is_awake_in t.wait ≡ true
  pub fits : Fits ns nodes (inner t.frames)
  pub going : CanGoOn nodes t

-- its layer stands inside this one, or its names don't fit there and all is as it was
abbrev pub Begins : List Spot → List Node → First → ℕ → ℕ → List Layer → List Layer → Begun → Type 0
Begins ns nodes f limit o old new (begun.Ready t) = IsBegun ns nodes f (fresh old) t × (bound_all limit (fresh old) f.names (opened_in o old) ≡ Ok new)
Begins ns nodes f limit o old new (begun.Ended e) = (bound_all limit (fresh old) f.names (opened_in o old) ≡ Err fault.TooLarge) × (new ≡ old) × (plain e ≡ error_map ResourceLimitError) × (depth (plain e) ≤ 100)

-- whichever branch has the steps of this node, and these names, does
abbrev pub BeginsAt : List Spot → List Node → ℕ → List (Text × Data) → ℕ → ℕ → List Layer → List Layer → Begun → Type 0
BeginsAt ns nodes list names limit o old new b = (f : First) → f.steps ≡ part_list (part_at ns list) → f.names ≡ names → Begins ns nodes f limit o old new b

-- the parallel step goes on behind its next branch
pub record StepsOn (ns : List Spot) (f : First) (old new : Joining) : Type 0 where
  pub node : new.node ≡ old.node
  pub next : new.next ≡ old.next + 1
  pub first : first_of (parallel_at ns old.node) old.next (work_view (parallel_at ns old.node) old.next old.left) ≡ Some f
  pub left : work_view (parallel_at ns old.node) new.next new.left ≡ f.left

-- its next branch begins
pub record BeginsFrom (ns : List Spot) (nodes : List Node) (limit o : ℕ) (old new : Joining) (before behind : List Layer) (b : Begun) : Type 0 where
  pub first : First
  pub steps : StepsOn ns first old new
  pub begins : Begins ns nodes first limit o before behind b

-- the task does, and nothing else of it changes
pub record BranchesOff (ns : List Spot) (f : First) (old new : Task) : Type 0 where
  pub before : Box Joining Global
  pub behind : Box Joining Global
  pub was : old.wait ≡ wait.Joining before
  pub is : new.wait ≡ wait.Joining behind
  pub steps : StepsOn ns f before.value behind.value
  pub frames : new.frames ≡ old.frames

-- the next branch begins
pub record BranchSo (ns : List Spot) (nodes : List Node) (limit : ℕ) (old new : Task) (before behind : List Layer) (b : Begun) : Type 0 where
  pub first : First
  pub parent : BranchesOff ns first old new
  pub begins : Begins ns nodes first limit (innermost old.frames.first (inner old.frames)) before behind b
