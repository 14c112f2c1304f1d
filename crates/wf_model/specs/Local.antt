-- One task by itself: what its move reads and changes. The machine takes it out of a configuration and puts it back.
--     Local      the task's control, its layers, the layers that it sees outside, and its wait
--     Scene      what stays the same during a move
--     Moved      what a move leads to
use Rattle.std.specs.Prelude.{ℕ, ◌+◌, List, [], ◌∷◌, drop, Option}
use Rattle.wf_ast.specs.Accept.{Kind}
use Rattle.wf_ast.specs.Tree.{no_steps, Program}
use Rattle.wf_model.specs.Config.{Layer, Item, Do, Entries, Try, Mark, Wait, Facts}
use Rattle.wf_value.specs.Data.{Data, null, pairs_size}
use Rattle.wf_value.specs.Events.{Method, Visitor}
use Rattle.wf_value.specs.declared.Severity.{Severity}
use Rattle.wf_value.specs.HttpRequest.{Request}
use Rattle.wf_value.specs.Pairs.{Text}

-- a layer outside the task: in which task it stands, how many of that task's layers stand inside it, and the names that each parallel
-- step between shares
pub record Outer : Type 0 where
  pub task : ℕ
  pub above : ℕ
  pub layer : Layer
  pub shared : List (List Text)

-- a task without its parent, and what it sees outside
pub record Local : Type 0 where
  pub control : List Item
  -- the task's own, innermost first
  pub layers : List Layer
  -- those that it sees where none of its own was opened by a call
  pub outer : List Outer
  pub wait : Wait

-- what kind of task it is
pub data Root : Type 0 where
  Main : Root
  Branch : Root
  Iteration : Root

-- what stays the same during a move
pub record Scene : Type 0 where
  pub program : Program
  pub facts : Facts
  -- how many calls and endpoints there are, and the size of all logged values
  pub calls : ℕ
  pub endpoints : ℕ
  pub logged : ℕ
  -- the oldest request that stands in an endpoint's queue
  pub oldest : ℕ → Option Visitor
  pub root : Root
  -- the parallel steps in which the task stands
  pub nesting : ℕ
  -- the total of the variables in all layers that the task doesn't see
  pub others : ℕ
  -- the last reading, and that of every `sys.now`
  pub last : ℕ
  pub now : ℕ

-- how a task ends
pub data End : Type 0 where
  Gives : Data → End
  Fails : Data → End

-- what a move does beside the task
pub data Effect : Type 0 where
  Sends : Request → (due : ℕ) → Effect
  Creates : Method → Effect
  Takes : (endpoint : ℕ) → Effect
  Logs : Severity → Data → Effect

-- what a move leads to
pub data Moved : Type 0 where
  -- the task goes on, or waits
  Goes : Local → Moved
  -- its control has ended; the layers outside may have changed
  Ends : End → Local → Moved
  -- something is done beside the task, and then it moves so
  Does : Effect → Moved → Moved
  -- what no accepted program does
  Breaks : Kind → Moved
  -- the task can't move so
  Not : Moved

-- ## Layers
abbrev pub layers_total : List Layer → ℕ
layers_total [] = 0
layers_total (l ∷ ls) = pairs_size l.vars + layers_total ls

abbrev pub outers_total : List Outer → ℕ
outers_total [] = 0
outers_total (o ∷ os) = pairs_size o.layer.vars + outers_total os

-- the total of the variables in all live layers
abbrev pub total : Scene → Local → ℕ
total s l = layers_total l.layers + outers_total l.outer + s.others

-- without the innermost own layer
abbrev pub leave : Local → Local
leave l = record l { layers = drop 1 l.layers }

-- ## Settling
-- what has ended is left without an event
abbrev pub settle : List Item → Local → Local
settle (Do block no_steps ∷ k) l = settle k l
settle (Entries [] ∷ k) l = settle k l
settle (Try t n d ∷ k) l = settle k l
settle (Mark ∷ k) l = settle k (leave l)
settle k l = record l { control = k }

-- a control that has nothing left has ended
abbrev pub ended : List Item → Local → Moved
ended [] l = Ends (Gives null) l
ended (i ∷ k) l = Goes l

-- the task goes on, or has ended
abbrev pub settled : Local → Moved
settled l = ended l.control l

-- the task goes on at this control: it is settled, but not while it waits
abbrev pub goes : List Item → Local → Moved
goes k l = settled (settle k l)

-- the task waits at this control, which isn't settled until the wait has ended
abbrev pub waits : Wait → List Item → Local → Moved
waits w k l = Goes (record l { control = k; wait = w })
