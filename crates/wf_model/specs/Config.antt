-- Configurations: what stands between two events of an execution.
--     Item       what a task has still to do, innermost first: a control is a list of these
--     Task       its parent, its control, its own layers and its wait
--     Config     the live tasks, the calls, the endpoints, the log, the counts and the outcome
--     After      where an event leads: a configuration, an error that no accepted program meets, or nowhere
use Rattle.std.specs.Prelude.{ℕ, Bool, true, false, List, [], ◌∷◌, ℤ, pos, ◌+ℤ◌, if◌then◌else◌, nat_eq, nat_lt, int_lt, int_le, Some, None, Option}
use Rattle.wf_ast.specs.Accept.{Kind, rules}
use Rattle.wf_ast.specs.Tree.{Entry, Steps, LoopBody, ParallelBody, Branches, no_branches, branch, TryBody}
use Rattle.wf_value.specs.Data.{Data, integer, Pairs}
use Rattle.wf_value.specs.Events.{Routes}
use Rattle.wf_value.specs.declared.Severity.{Severity}
use Rattle.wf_value.specs.HttpRequest.{Request}
use Rattle.wf_value.specs.Pairs.{Text}
use Rattle.wf_value.specs.Queues.{Endpoint}

-- variables by their names, and whether a workflow's call opened the layer
pub record Layer : Type 0 where
  pub vars : Pairs
  pub by_call : Bool

-- the values that a loop has left: a list, or two ends of a range that isn't empty
pub data Left : Type 0 where
  OfList : List Data → Left
  OfRange : (next last : ℤ) → Left

-- the branches or the iterations that haven't begun
pub data WorkLeft : Type 0 where
  BranchesLeft : Branches → WorkLeft
  ValuesLeft : Left → WorkLeft

-- what a task has still to do; a control is a list of these, innermost first
pub data Item : Type 0 where
  -- a block to whose steps a jump may lead, and the steps that are left
  Do : (block left : Steps) → Item
  -- the entries of an assign that are left
  Entries : (left : List Entry) → Item
  -- the `next` beside a body
  Then : (name : Text) → Item
  -- a loop between two iterations, with the index of the next
  Loop : (body : LoopBody) → (left : Left) → (index : ℕ) → Item
  -- the retries used, and the last delay
  Try : (body : TryBody) → (tries : ℕ) → (delay : Option ℕ) → Item
  -- the call of a predicate, which decides on this error, stands inside it
  Judge : (body : TryBody) → (tries : ℕ) → (delay : Option ℕ) → (error : Data) → Item
  -- the innermost own layer ends here
  Mark : Item
  -- a workflow's call and its layer end here
  Back : (result : Option Text) → Item
  -- the number of the next branch, the tasks that run, and the errors that were kept, both by rising numbers
  Join : (body : ParallelBody) → (left : WorkLeft) → (next : ℕ) → (running : List ℕ) → (errors : List (ℕ × Data)) → Item

-- what a task waits for, and the variable that takes what comes
pub data Wait : Type 0 where
  Awake : Wait
  Sleep : (due : ℕ) → (result : Option Text) → Wait
  Delay : (due : ℕ) → Wait
  Calling : (call : ℕ) → (result : Option Text) → Wait
  Await : (endpoint : ℕ) → (due : ℕ) → (result : Option Text) → Wait

pub record Task : Type 0 where
  -- a task and the number of a branch of its parallel step
  pub parent : Option (ℕ × ℕ)
  pub control : List Item
  pub layers : List Layer
  pub wait : Wait

-- a call: its request and its due moment while it is open, and else how it was closed
pub data Call : Type 0 where
  Open : (task : ℕ) → (request : Request) → (due : ℕ) → Call
  Answered : Call
  TimedOut : Call

-- a logged value, with the last reading when it was logged
pub record LogEntry : Type 0 where
  pub reading : ℕ
  pub severity : Severity
  pub value : Data

-- none yet, or what the execution came to
pub data Outcome : Type 0 where
  Active : Outcome
  Returned : Data → Outcome
  Raised : Data → Outcome
  Cancelled : Outcome

-- what no event changes
pub record Facts : Type 0 where
  pub id : Text
  pub routes : Routes
  pub env : List (Text × Text)
  pub base : Text
  pub rules : ℕ

-- what stands between two events
pub record Config : Type 0 where
  pub facts : Facts
  -- the live tasks by rising number, and the count of all that were made
  pub tasks : List (ℕ × Task)
  pub made : ℕ
  -- the calls in order, of which the first is number 1
  pub calls : List Call
  pub endpoints : List Endpoint
  pub log : List LogEntry
  -- the counted events, the bytes of all bodies of answers and callbacks, and the last reading
  pub moves : ℕ
  pub bodies : ℕ
  pub last : ℕ
  pub outcome : Outcome

-- where an event leads. Of the checker's kinds, `Wrong` has those that tell of jumps, returns, writes and calls
pub data After : Type 0 where
  To : Config → After
  Wrong : Kind → After
  NotNow : After

-- ## Limits
-- on the total of variables, and on parallel steps in each other
pub record Limits : Type 0 where
  pub variables : ℕ
  pub nesting : ℕ

-- those of the first rules, and of all others
abbrev pub limits : ℕ → Limits
limits rules = if nat_eq rules 1 then record { variables = 65536; nesting = 1 } else record { variables = 524288; nesting = 2 }

-- the counted event that isn't carried out
abbrev pub move_limit : ℕ
move_limit = 100000

-- calls of workflows in each other, in one task
abbrev pub call_limit : ℕ
call_limit = 20

-- branches or iterations of one parallel step at once
abbrev pub running_limit : ℕ
running_limit = 20

-- the size of all logged values
abbrev pub log_limit : ℕ
log_limit = 16777216

-- the bytes of all bodies of answers and callbacks
abbrev pub body_limit : ℕ
body_limit = 67108864

-- ## The live tasks
-- the task of this number
abbrev pub task_in : List (ℕ × Task) → ℕ → Option Task
task_in [] b = None
task_in (t ∷ ts) b = if nat_eq t.0 b then Some t.1 else task_in ts b

-- with this task under its number
abbrev pub put_in : ℕ → Task → List (ℕ × Task) → List (ℕ × Task)
put_in b t [] = (b, t) ∷ []
put_in b t (u ∷ us) =
    if nat_eq u.0 b then (b, t) ∷ us else (if nat_lt b u.0 then (b, t) ∷ u ∷ us else u ∷ put_in b t us)

-- without the task of this number
abbrev pub drop_in : ℕ → List (ℕ × Task) → List (ℕ × Task)
drop_in b [] = []
drop_in b (u ∷ us) = if nat_eq u.0 b then us else u ∷ drop_in b us

-- a live task of the configuration
abbrev pub task : Config → ℕ → Option Task
task c b = task_in c.tasks b

-- with this task under its number
abbrev pub with_task : ℕ → Task → Config → Config
with_task b t c = record c { tasks = put_in b t c.tasks }

-- ## The values that a loop has left
-- the next value, and what is left behind it; a range of which nothing is left is an empty list
abbrev pub next_of : Left → Option (Data × Left)
next_of (OfList []) = None
next_of (OfList (v ∷ vs)) = Some (v, OfList vs)
next_of (OfRange a b) = Some (integer a, if int_lt a b then OfRange (a +ℤ pos 1) b else OfList [])

-- a range, both ends included
abbrev pub range_left : ℤ → ℤ → Left
range_left a b = if int_le a b then OfRange a b else OfList []

-- the lesser number
abbrev pub int_min : ℤ → ℤ → ℤ
int_min a b = if int_le a b then a else b

-- what a parallel step goes over: at most 4,294,967,295 values of a range
abbrev pub counted_left : Left → Left
counted_left (OfList vs) = OfList vs
counted_left (OfRange a b) = OfRange a (int_min b (a +ℤ pos 4294967294))

-- no branch or iteration is left to begin
abbrev pub is_empty : WorkLeft → Bool
is_empty (BranchesLeft no_branches) = true
is_empty (BranchesLeft (branch n ss bs)) = false
is_empty (ValuesLeft (OfList [])) = true
is_empty (ValuesLeft (OfList (v ∷ vs))) = false
is_empty (ValuesLeft (OfRange a b)) = false
