-- What a move leaves of a machine's tasks: of each, and of all.
--     some_own            a task has a layer
--     back_is             the configuration, where it is put back
--     goes_on_after       what is kept of all tasks
use Rattle.std.proofs.Common.{◌≡◌, ℕ, List, [], ◌∷◌, Option, Some, None, refl, sym, ap, subst, ◌∙◌}
use Rattle.std.specs.Prelude.{slice_set}
use Rattle.wf_ast.specs.Tree.{Program}
use Rattle.wf_branches.specs.Table.{Status}
use Rattle.wf_frames.specs.Frames.{inner, owned}
use Rattle.wf_frames.specs.Owned.{IsLinked, own_of}
use Rattle.wf_frames.specs.Tasks.{far_layers, own_layers}
use Rattle.wf_frames.specs.declared.frames.Frame.{Frame}
use Rattle.wf_frames.specs.declared.frames.Frame.TheVariants as frame
use Rattle.wf_model.specs.Config as model
use Rattle.wf_model.specs.Config.{Config, Item, task, with_task}
use Rattle.wf_model.specs.Local.{Local, Outer}
use Rattle.wf_model.specs.RunLaws.{RisesFrom}
use Rattle.wf_model.specs.Spots.{spots}
use Rattle.wf_model.specs.Taken.{layer_at, put_back, put_outer, step_shares}
use Rattle.wf_moves.specs.Waits.{task_local, wait_view}
use Rattle.wf_moves.specs.declared.task.Task.{Task}
use Rattle.wf_scope.specs.Store.{layers_of}
use Rattle.wf_scope.specs.declared.scopes.Scopes.{Scopes}
use Rattle.wf_several.proofs.Here.{alike_moved, holder_here, holders_moved, moved_is, status_here, status_is}
use Rattle.wf_several.proofs.Merges.{move_merges}
use Rattle.wf_several.proofs.Sees.{wait_same}
use Rattle.wf_several.specs.Here.{HasControl, IsHere, TaskLeaves, around_here, own_control}
use Rattle.wf_several.specs.Merges.{moved_local, with_moved}
use Rattle.wf_several.specs.Several.{AllGoOn, IsAlike, control_at, holder_of, holders_of, plain_around, tasks_view}
use Rattle.wf_stores.proofs.Goes.{task_goes_on}
use Rattle.wf_stores.specs.Holders.{AllStand, Holder, IsChildless, IsSome, holder_in, keys_of}

-- a task has its first layer, at least
pub some_own : (first : ℕ) (fs : List Frame) → IsSome (owned first fs)
some_own first [] = tt
some_own first (frame.Do n at ∷ fs) = some_own first fs
some_own first (frame.Lone n done ∷ fs) = some_own first fs
some_own first (frame.Entries n at ∷ fs) = some_own first fs
some_own first (frame.Then n ∷ fs) = some_own first fs
some_own first (frame.Loop looping ∷ fs) = some_own first fs
some_own first (frame.Try trying ∷ fs) = some_own first fs
some_own first (frame.Mark number ∷ fs) = tt
some_own first (frame.Back c number ∷ fs) = tt
some_own first (frame.Judge judging ∷ fs) = tt

-- ## Put back, all but the tasks stays
abbrev outer_by : Outer → List Outer → Config → Option model.Task → Config
outer_by o os c q = elim q [ None ↦ put_outer os c | Some t ↦ put_outer os (with_task o.task (record t { layers = layer_at o.above o.layer t.layers }) c) ]

pub outer_only : (os : List Outer) (c : Config) → put_outer os c ≡ record c { tasks = (put_outer os c).tasks }
outer_only [] c = refl
outer_only (o ∷ os) c = by (task c o.task) (λ d. outer_only os d)
  where
    by : (q : Option model.Task) → ((d : Config) → put_outer os d ≡ record d { tasks = (put_outer os d).tasks }) → outer_by o os c q ≡ record c { tasks = (outer_by o os c q).tasks }
    by None later = later c
    by (Some t) later = later (with_task o.task (record t { layers = layer_at o.above o.layer t.layers }) c)

abbrev back_by : ℕ → Local → Config → Option model.Task → Config
back_by b l c q = elim q [ None ↦ c | Some t ↦ put_outer l.outer (with_task b (record t { control = l.control; layers = l.layers; wait = l.wait }) c) ]

back_only : (b : ℕ) (l : Local) (c : Config) → put_back b l c ≡ record c { tasks = (put_back b l c).tasks }
back_only b l c = by (task c b)
  where
    by : (q : Option model.Task) → back_by b l c q ≡ record c { tasks = (back_by b l c q).tasks }
    by None = refl
    by (Some t) = outer_only l.outer (with_task b (record t { control = l.control; layers = l.layers; wait = l.wait }) c)

-- ## One task has moved
module _ (p : Program) (rules : ℕ) (es : List (ℕ × Status)) (ts : List Task) (x : Scopes) (all : AllGoOn p rules es ts x)
    (i b : ℕ) (s : Status) (t : Task) (here : IsHere es ts i b s t) (childless : IsChildless (holders_of p es ts) b)
    (after : Status) (u : Task) (new : Scopes) (parent : after.parent ≡ s.parent) (alike : IsAlike p after u) (same : HasControl after.join (spots p.flows) u)
    (linked : IsLinked (around_here p rules es ts x b s t) (own_of u.frames) new) where
  abbrev Hs : List Holder
  Hs = holders_of p es ts

  abbrev H : Holder
  H = holder_of p (b, s) t

  holds_here : holder_in Hs b ≡ Some H
  holds_here = holder_here p b i es ts s t here.place here.status here.task

  moved_local_is : moved_local p Hs H after u new ≡ task_local (around_here p rules es ts x b s t) u new
  moved_local_is =
      ap {B = Local} (λ (k : List Item). record { control = k; layers = own_layers (own_of u.frames) (layers_of new); outer = far_layers (keys_of Hs H) (layers_of new); wait = wait_view (plain_around p) u.wait }) same
      ∙ ap {B = Local} (λ (w : model.Wait). record { control = own_control (spots p.flows) u; layers = own_layers (own_of u.frames) (layers_of new); outer = far_layers (keys_of Hs H) (layers_of new); wait = w }) (wait_same p (around_here p rules es ts x b s t) refl u.wait)

  back_is : (c : Config) → c.tasks ≡ tasks_view p es ts x → RisesFrom 0 c.made c.tasks
      → put_back b (task_local (around_here p rules es ts x b s t) u new) c ≡ record c { tasks = tasks_view p (slice_set es i (b, after)) (slice_set ts i u) new }
  back_is c is rise =
      back_only b (task_local (around_here p rules es ts x b s t) u new) c
      ∙ ap {B = Config} (λ (l : Local). record c { tasks = (put_back b l c).tasks }) (sym moved_local_is)
      ∙ ap {B = Config} (λ (us : List (ℕ × model.Task)). record c { tasks = us })
      (move_merges p rules es ts x new b H s after u c all is rise holds_here childless (status_here p b i es s here.place here.status) parent (some_own u.frames.first (inner u.frames)) new.rising linked.layers linked.unseen)
      ∙ ap {B = Config} (λ (us : List (ℕ × Status)). record c { tasks = tasks_view p us (with_moved b u es ts) new }) (status_is p b i es after here.place)
      ∙ ap {B = Config} (λ (us : List Task). record c { tasks = tasks_view p (slice_set es i (b, after)) us new }) (moved_is p b i es ts u all.alike here.place)

  goes_on_after : AllGoOn p rules (slice_set es i (b, after)) (slice_set ts i u) new
  goes_on_after = record {
    alike = alike_moved p b i es ts after u all.alike here.place alike;
    stand = subst (λ hs. AllStand hs (layers_of new)) (sym (holders_moved p b i es ts after s u all.alike here.place here.status parent))
        (task_goes_on Hs (layers_of x) b H (step_shares (control_at p after u)) (own_of u.frames) (layers_of new)
        all.stand holds_here childless (some_own u.frames.first (inner u.frames)) new.rising linked.layers linked.unseen);
    limit = linked.limit;
    order = linked.order;
  }

pub task_leaves : TaskLeaves
task_leaves p rules es ts x i b s t after u new all here childless parent alike same linked = record {
  back = back_is p rules es ts x all i b s t here childless after u new parent alike same linked;
  goes_on = goes_on_after p rules es ts x all i b s t here childless after u new parent alike same linked;
}
