-- Branches that begin and end among the tasks of a machine.
--     StandsHere        a task stands at its place, and all go on
--     GoOnSo            where an event leads, and that all go on there
--     BranchAdds        the next branch of its parallel step is one task more
--     BranchIsRefused   or has ended at once, where its names don't fit
--     BranchIsGone      a branch has ended
--     BranchesJoin      all have
use Rattle.std.specs.List.{remove}
use Rattle.std.specs.Prelude.{◌≡◌, ℕ, true, List, [], ◌∷◌, ◌++◌, slice_set, None, Some, Option}
use Rattle.wf_ast.specs.Tree.{Program}
use Rattle.wf_branches.specs.Changes.{begun, ended}
use Rattle.wf_branches.specs.Steps.{error_of}
use Rattle.wf_branches.specs.Table.{Join, Status, Table, has_ended, rise}
use Rattle.wf_frames.specs.Built.{IsTableOf}
use Rattle.wf_frames.specs.Frames.{control, inner}
use Rattle.wf_frames.specs.Owned.{IsLinked, own_of}
use Rattle.wf_model.specs.Config.{After, Config, To}
use Rattle.wf_model.specs.Local.{End, Scene}
use Rattle.wf_model.specs.Move.{move}
use Rattle.wf_model.specs.Spots.{Spot, spots}
use Rattle.wf_model.specs.Step.{begins_by}
use Rattle.wf_model.specs.Taken.{drop_number, finish, local, put_outer}
use Rattle.wf_model.specs.declared.node.Node.{Node}
use Rattle.wf_moves.specs.Branches.{BranchSo, error_by, joins_with}
use Rattle.wf_moves.specs.Waits.{standing_at, task_local}
use Rattle.wf_moves.specs.declared.branch.Begun.TheVariants as branch
use Rattle.wf_moves.specs.declared.task.Task.{Task}
use Rattle.wf_moves.specs.declared.wait.Wait.{Wait}
use Rattle.wf_scope.specs.Layers.{closed}
use Rattle.wf_scope.specs.Store.{layers_of}
use Rattle.wf_scope.specs.declared.scopes.Scopes.{Scopes}
use Rattle.wf_several.specs.Here.{IsHere, around_here}
use Rattle.wf_several.specs.Several.{AllGoOn, control_at, holders_of, plain_around, task_view, tasks_view}
use Rattle.wf_several.specs.Standing.{AllFitAt}
use Rattle.wf_stores.specs.Holders.{IsChildless}
use Rattle.wf_value.specs.Data.{Data}
use Rattle.wf_value.specs.Plain.{plain}
use Rattle.wf_value.specs.declared.Value.{Value}

-- the table of these tasks
abbrev pub table_with : List (ℕ × Status) → ℕ → Table
table_with es made = record { live = es; made = made }

-- all go on in this configuration, and this task stands at its place
pub record StandsHere (p : Program) (nodes : List Node) (rules : ℕ) (es : List (ℕ × Status)) (ts : List Task) (x : Scopes) (i b : ℕ) (s : Status) (t : Task) (c : Config) : Type 0 where
  pub tells : IsTableOf (spots p.flows) nodes
  pub all : AllGoOn p rules es ts x
  pub fit : AllFitAt p nodes ts
  pub here : IsHere es ts i b s t
  pub numbers : rise 0 c.made es ≡ true
  pub is : c.tasks ≡ tasks_view p es ts x
  pub its_rules : rules ≡ c.facts.rules

-- what comes is a configuration of these tasks, and they go on in it
pub record GoOnSo (p : Program) (nodes : List Node) (rules : ℕ) (c : Config) (a : After) (table : Table) (ts : List Task) (x : Scopes) : Type 0 where
  pub leads : a ≡ To (record c { made = table.made; tasks = tasks_view p table.live ts x })
  pub goes_on : AllGoOn p rules table.live ts x
  pub fit : AllFitAt p nodes ts

-- the next branch of a task's parallel step begins
abbrev pub BranchAdds : Type 0
BranchAdds =
    (p : Program) (nodes : List Node) (rules : ℕ) (es : List (ℕ × Status)) (ts : List Task) (x : Scopes) (i a : ℕ) (s : Status) (t : Task) (c : Config) (u v : Task) (new : Scopes)
    → StandsHere p nodes rules es ts x i a s t c
    → BranchSo (spots p.flows) nodes x.limit t u (layers_of x) (layers_of new) (branch.Ready v)
    → new.limit ≡ x.limit
    → GoOnSo p nodes rules c (begins_by a (task_view p (plain_around p) s t x) (control_at p s t) c) (begun a (table_with es c.made)) (slice_set ts i u ++ v ∷ []) new

-- the names of its next iteration don't fit: it is begun, and has ended at once with its error. No task has the next number yet
abbrev pub BranchIsRefused : Type 0
BranchIsRefused =
    (p : Program) (nodes : List Node) (rules : ℕ) (es : List (ℕ × Status)) (ts : List Task) (x : Scopes) (i a : ℕ) (s : Status) (t : Task) (c : Config) (u : Task) (e : Value) (new : Scopes)
    → StandsHere p nodes rules es ts x i a s t c
    → BranchSo (spots p.flows) nodes x.limit t u (layers_of x) (layers_of new) (branch.Ended e)
    → new.limit ≡ x.limit
    → ((j : Join) → s.join ≡ Some j → drop_number c.made j.running ≡ j.running)
    → GoOnSo p nodes rules c (begins_by a (task_view p (plain_around p) s t x) (control_at p s t) c) (ended c.made (Some (plain e)) (begun a (table_with es c.made))) (slice_set ts i u) new

-- a branch has nothing left to do, in a store behind its move; its last layer is closed, and its parallel step keeps its error
abbrev pub BranchIsGone : Type 0
BranchIsGone =
    (p : Program) (nodes : List Node) (rules : ℕ) (es : List (ℕ × Status)) (ts : List Task) (x : Scopes) (i b : ℕ) (s : Status) (t : Task) (c : Config) (u : Task) (new last : Scopes) (q : ℕ × ℕ) (e : End)
    → StandsHere p nodes rules es ts x i b s t c
    → IsChildless (holders_of p es ts) b
    → s.parent ≡ Some q
    → inner u.frames ≡ []
    → IsLinked (around_here p rules es ts x b s t) (own_of u.frames) new
    → layers_of last ≡ closed u.frames.first (layers_of new)
    → last.limit ≡ new.limit
    → GoOnSo p nodes rules c (To (finish b (Some q) e (put_outer (task_local (around_here p rules es ts x b s t) u new).outer c))) (ended b (error_of e) (table_with es c.made)) (remove ts i) last

-- ## All branches have ended
-- the error that they have left; none where none has failed
abbrev pub kept_by : List Spot → Wait → List (ℕ × Data) → Option Data
kept_by ns w [] = None
kept_by ns w (e ∷ es) = Some (error_by ns w (e ∷ es))

-- the move of the task is what goes on behind its parallel step, or with that error
abbrev pub BranchesJoin : Type 0
BranchesJoin =
    (p : Program) (nodes : List Node) (rules : ℕ) (es : List (ℕ × Status)) (ts : List Task) (x : Scopes) (i b : ℕ) (s : Status) (t : Task) (c : Config) (j : Join) (scene : Scene)
    → StandsHere p nodes rules es ts x i b s t c
    → s.join ≡ Some j
    → has_ended j ≡ true
    → move scene (local c b (task_view p (plain_around p) s t x)) ≡ joins_with scene (kept_by (spots p.flows) t.wait j.errors) (control (spots p.flows) (inner t.frames)) (standing_at (around_here p rules es ts x b s t) t x (control_at p s t))
