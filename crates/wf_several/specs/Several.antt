-- How a machine of several tasks is seen: the table of its live tasks (wf_branches), beside it the moves' tasks in the same order, and one
-- store for the layers of all.
--     with_join       what the table keeps of a task's parallel step goes into its control
--     holders_of      the tasks, as far as their layers go
--     around_of       what stands around one of them
--     tasks_view      the live tasks
--     AreAlike        the table and the tasks beside it say the same of waits and parallel steps
--     AllGoOn         each task stands where it may, and all layers stand in the store
use Rattle.std.specs.Prelude.{◌≡◌, ℕ, not, List, [], ◌∷◌, map, Some, Option}
use Rattle.wf_ast.specs.Tree.{Program}
use Rattle.wf_branches.specs.Steps.{join_of, status_of}
use Rattle.wf_branches.specs.Table.{Join, Status}
use Rattle.wf_frames.specs.Frames.{control, inner}
use Rattle.wf_frames.specs.Owned.{Around, IsLinked, own_of}
use Rattle.wf_frames.specs.Tasks.{numbers, own_layers}
use Rattle.wf_model.specs.Config as model
use Rattle.wf_model.specs.Config.{Item, limits}
use Rattle.wf_model.specs.Ready.{is_awake}
use Rattle.wf_model.specs.Spots.{spots}
use Rattle.wf_model.specs.Taken.{step_shares}
use Rattle.wf_moves.specs.Waits.{control_in, wait_view}
use Rattle.wf_moves.specs.declared.task.Task.{Task}
use Rattle.wf_scope.specs.Layers.{Layer, total_of, vars_at}
use Rattle.wf_scope.specs.Store.{layers_of}
use Rattle.wf_scope.specs.declared.scopes.Scopes.{Scopes}
use Rattle.wf_stores.specs.Holders.{AllStand, Holder, IsChildless, besides, holder_in, keys_of}
use Rattle.wf_stores.specs.Steps.{parent_number}
use Rattle.wf_value.specs.Maps.{IsInOrder}

-- ## Controls
-- a task that stands in a parallel step keeps its node, what is left and which is next; the tasks that run and the errors stand in the table
abbrev pub with_join : Option Join → List Item → List Item
with_join (Some j) (Item.Join body left n running es ∷ k) = Item.Join body left n j.running j.errors ∷ k
with_join o k = k

-- that of a task whose frames stand so in the table of the program's nodes
abbrev pub control_at : Program → Status → Task → List Item
control_at p s t = with_join s.join (control_in (spots p.flows) t.wait (control (spots p.flows) (inner t.frames)))

-- ## Layers
abbrev pub holder_of : Program → ℕ × Status → Task → Holder
holder_of p e t = record { number = e.0; parent = parent_number e.1.parent; shares = step_shares (control_at p e.1 t); own = own_of t.frames }

abbrev pub holders_of : Program → List (ℕ × Status) → List Task → List Holder
holders_of p [] ts = []
holders_of p (e ∷ es) [] = []
holders_of p (e ∷ es) (t ∷ ts) = holder_of p e t ∷ holders_of p es ts

-- what it sees outside, the layers that it doesn't see, and what those come to
abbrev pub around_of : Program → ℕ → List Holder → Holder → List Layer → Around
around_of p rules hs h ls = record {
  flows = p.flows;
  spots = spots p.flows;
  keys = keys_of hs h;
  limit = (limits rules).variables;
  rest = besides (numbers h.own (keys_of hs h)) ls;
  others = total_of (besides (numbers h.own (keys_of hs h)) ls);
}

-- ## The live tasks
abbrev pub task_view : Program → Around → Status → Task → Scopes → model.Task
task_view p a s t x = record { parent = s.parent; control = control_at p s t; layers = own_layers (own_of t.frames) (layers_of x); wait = wait_view a t.wait }

-- a wait's variable is told by the program's nodes alone
abbrev pub plain_around : Program → Around
plain_around p = record { flows = p.flows; spots = spots p.flows; keys = []; limit = 0; rest = []; others = 0 }

abbrev pub tasks_view : Program → List (ℕ × Status) → List Task → Scopes → List (ℕ × model.Task)
tasks_view p [] ts x = []
tasks_view p (e ∷ es) [] x = []
tasks_view p (e ∷ es) (t ∷ ts) x = (e.0, task_view p (plain_around p) e.1 t x) ∷ tasks_view p es ts x

-- ## What a machine keeps of them
-- the table says whether a task waits; and it has a parallel step exactly where the task stands in one, with as many branches left
pub record IsAlike (p : Program) (s : Status) (t : Task) : Type 0 where
  pub waits : s.waits ≡ not (is_awake (wait_view (plain_around p) t.wait))
  pub join : join_of (control_at p s t) ≡ s.join

-- of each, and there are as many
abbrev pub AreAlike : Program → List (ℕ × Status) → List Task → Type 0
AreAlike p [] [] = Unit {0}
AreAlike p [] (t ∷ ts) = ⊥
AreAlike p (e ∷ es) [] = ⊥
AreAlike p (e ∷ es) (t ∷ ts) = IsAlike p e.1 t × AreAlike p es ts

-- and the limit of the store is that of the rules, and its variables stand in order
pub record AllGoOn (p : Program) (rules : ℕ) (es : List (ℕ × Status)) (ts : List Task) (x : Scopes) : Type 0 where
  pub alike : AreAlike p es ts
  pub stand : AllStand (holders_of p es ts) (layers_of x)
  pub limit : x.limit ≡ (limits rules).variables
  pub order : (n : ℕ) → IsInOrder (vars_at n (layers_of x))

-- ## Laws
-- so the table is that of the configuration
abbrev pub TableIsSeen : Type 0
TableIsSeen = (p : Program) (es : List (ℕ × Status)) (ts : List Task) (x : Scopes) → AreAlike p es ts → map (λ t. (t.0, status_of t.1)) (tasks_view p es ts x) ≡ es

-- and a task of whose parallel step no branch lives stands by itself, among the others
abbrev pub EachStands : Type 0
EachStands =
    (p : Program) (rules : ℕ) (es : List (ℕ × Status)) (ts : List Task) (x : Scopes) (b : ℕ) (h : Holder)
    → AllGoOn p rules es ts x
    → holder_in (holders_of p es ts) b ≡ Some h
    → IsChildless (holders_of p es ts) b
    → IsLinked (around_of p rules (holders_of p es ts) h (layers_of x)) h.own x
