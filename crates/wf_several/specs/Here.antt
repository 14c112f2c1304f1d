-- A live task of a machine at its place: what it reads, and what it leaves of all.
--     IsPlace, IsHere        it stands there, in the table and beside it
--     HasControl             the table adds nothing to its control
--     TaskReads              what it reads is what the definition of steps has it read
--     TaskLeaves             and what its move leaves is what that leaves
--     status_behind          what the table then keeps of it
use Rattle.std.specs.Prelude.{◌≡◌, ℕ, zero, suc, true, false, not, List, [], ◌∷◌, nat_eq, slice_get, slice_set, None, Some, Option}
use Rattle.wf_ast.specs.Tree.{Program}
use Rattle.wf_branches.specs.Changes.{new_join}
use Rattle.wf_branches.specs.Steps.{join_of}
use Rattle.wf_branches.specs.Table.{Join, Status, rise}
use Rattle.wf_frames.specs.Frames.{control, inner}
use Rattle.wf_frames.specs.Owned.{Around, IsLinked, own_of}
use Rattle.wf_frames.specs.Turns.{Agrees}
use Rattle.wf_model.specs.Config.{Config, Item, task}
use Rattle.wf_model.specs.Ready.{is_awake}
use Rattle.wf_model.specs.RunLaws.{RisesFrom}
use Rattle.wf_model.specs.Spots.{Spot, spots}
use Rattle.wf_model.specs.Taken.{local, put_back, scene}
use Rattle.wf_moves.specs.Waits.{control_in, is_joining, task_local, wait_view}
use Rattle.wf_moves.specs.declared.task.Task.{Task}
use Rattle.wf_scope.specs.Store.{layers_of}
use Rattle.wf_scope.specs.declared.scopes.Scopes.{Scopes}
use Rattle.wf_several.specs.Several.{AllGoOn, AreAlike, IsAlike, around_of, holder_of, holders_of, plain_around, task_view, tasks_view, with_join}
use Rattle.wf_stores.specs.Holders.{IsChildless}

-- ## At its place
-- the first entry of this number stands at this place
abbrev pub IsPlace : ℕ → ℕ → List (ℕ × Status) → Type 0
IsPlace b i [] = ⊥
IsPlace b zero (e ∷ es) = nat_eq e.0 b ≡ true
IsPlace b (suc i) (e ∷ es) = (nat_eq e.0 b ≡ false) × IsPlace b i es

pub record IsHere (es : List (ℕ × Status)) (ts : List Task) (i b : ℕ) (s : Status) (t : Task) : Type 0 where
  pub place : IsPlace b i es
  pub status : slice_get es i ≡ Some (b, s)
  pub task : slice_get ts i ≡ Some t

-- numbers rise, so what stands at a place is the first of its number, and beside it stands a task
abbrev pub EntryIsHere : Type 0
EntryIsHere =
    (p : Program) (es : List (ℕ × Status)) (ts : List Task) (below i b : ℕ) (s : Status)
    → rise 0 below es ≡ true
    → AreAlike p es ts
    → slice_get es i ≡ Some (b, s)
    → (t : Task) × IsHere es ts i b s t

-- what stands around it
abbrev pub around_here : Program → ℕ → List (ℕ × Status) → List Task → Scopes → ℕ → Status → Task → Around
around_here p rules es ts x b s t = around_of p rules (holders_of p es ts) (holder_of p (b, s) t) (layers_of x)

-- what its frames and its wait make its control
abbrev pub own_control : List Spot → Task → List Item
own_control ns t = control_in ns t.wait (control ns (inner t.frames))

-- the table adds nothing to that: it stands in no parallel step, or in one of which no branch has begun
abbrev pub HasControl : Option Join → List Spot → Task → Type 0
HasControl o ns t = with_join o (own_control ns t) ≡ own_control ns t

-- ## What it reads
-- no branch of it lives: it stands by itself in the store, and what it reads is what it is by the definition of steps
pub record ReadsSo (p : Program) (rules : ℕ) (es : List (ℕ × Status)) (ts : List Task) (x : Scopes) (b : ℕ) (s : Status) (t : Task) (c : Config) : Type 0 where
  -- it is a live task
  pub live : task c b ≡ Some (task_view p (plain_around p) s t x)
  -- its layers stand in the store, and what else there is stands around it
  pub linked : IsLinked (around_here p rules es ts x b s t) (own_of t.frames) x
  -- the task by itself
  pub itself : HasControl s.join (spots p.flows) t → local c b (task_view p (plain_around p) s t x) ≡ task_local (around_here p rules es ts x b s t) t x
  -- and what stands around it
  pub agrees : (now : ℕ) → Agrees (scene p c b (task_view p (plain_around p) s t x) now) (around_here p rules es ts x b s t)

abbrev pub TaskReads : Type 0
TaskReads =
    (p : Program) (rules : ℕ) (es : List (ℕ × Status)) (ts : List Task) (x : Scopes) (i b : ℕ) (s : Status) (t : Task) (c : Config)
    → AllGoOn p rules es ts x
    → IsHere es ts i b s t
    → IsChildless (holders_of p es ts) b
    → c.tasks ≡ tasks_view p es ts x
    → rules ≡ c.facts.rules
    → ReadsSo p rules es ts x b s t c

-- ## What its move leaves
-- with another status and another task at its place, in this store
pub record LeavesSo (p : Program) (rules : ℕ) (es : List (ℕ × Status)) (ts : List Task) (x : Scopes) (i b : ℕ) (s : Status) (t : Task) (after : Status) (u : Task) (new : Scopes) : Type 0 where
  -- the configuration into which the task is put back
  pub back : (c : Config) → c.tasks ≡ tasks_view p es ts x → RisesFrom 0 c.made c.tasks
      → put_back b (task_local (around_here p rules es ts x b s t) u new) c ≡ record c { tasks = tasks_view p (slice_set es i (b, after)) (slice_set ts i u) new }
  -- and all go on
  pub goes_on : AllGoOn p rules (slice_set es i (b, after)) (slice_set ts i u) new

-- the store has what it doesn't see as it was, and the table agrees with the task
abbrev pub TaskLeaves : Type 0
TaskLeaves =
    (p : Program) (rules : ℕ) (es : List (ℕ × Status)) (ts : List Task) (x : Scopes) (i b : ℕ) (s : Status) (t : Task) (after : Status) (u : Task) (new : Scopes)
    → AllGoOn p rules es ts x
    → IsHere es ts i b s t
    → IsChildless (holders_of p es ts) b
    → after.parent ≡ s.parent
    → IsAlike p after u
    → HasControl after.join (spots p.flows) u
    → IsLinked (around_here p rules es ts x b s t) (own_of u.frames) new
    → LeavesSo p rules es ts x i b s t after u new

-- ## What the table keeps of it
-- it is the same branch; whether it waits is the task's to say
abbrev pub status_behind : Program → Status → Option Join → Task → Status
status_behind p s o u = record { parent = s.parent; waits = not (is_awake (wait_view (plain_around p) u.wait)); join = o }

-- a task that stands in no parallel step has none in the table
abbrev pub NoneIsAlike : Type 0
NoneIsAlike = (p : Program) (s : Status) (u : Task) → is_joining u.wait ≡ false → IsAlike p (status_behind p s None u) u × HasControl None (spots p.flows) u

-- and one that has entered one has it there, before its first branch
abbrev pub NewIsAlike : Type 0
NewIsAlike =
    (p : Program) (s : Status) (u : Task) (total limit : ℕ)
    → join_of (own_control (spots p.flows) u) ≡ Some (new_join total limit)
    → IsAlike p (status_behind p s (Some (new_join total limit)) u) u × HasControl (Some (new_join total limit)) (spots p.flows) u
