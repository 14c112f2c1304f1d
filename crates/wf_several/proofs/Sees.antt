-- What a task of a machine reads, and that this is what the definition of steps has it read.
--     no_join ..      a task that stands in no parallel step
--     linked          it stands by itself
--     local_is        it, and what it sees
--     agrees          what stands beside it
--     none_is_alike   what the table keeps of it
use Rattle.std.proofs.Common.{◌≡◌, ℕ, ◌+◌, ◌-◌, false, List, [], ◌∷◌, Option, Some, None, refl, sym, ap, ◌∙◌, arith}
use Rattle.std.specs.Prelude.{option_map, slice_get}
use Rattle.wf_ast.specs.Tree.{Program}
use Rattle.wf_branches.specs.Changes.{new_join}
use Rattle.wf_branches.specs.Steps.{join_of}
use Rattle.wf_branches.specs.Table.{Join, Status}
use Rattle.wf_frames.specs.Frames.{control, inner}
use Rattle.wf_frames.specs.Owned.{Around, IsLinked, own_of}
use Rattle.wf_frames.specs.Tasks.{far_layers, own_layers}
use Rattle.wf_frames.specs.Turns.{Agrees}
use Rattle.wf_frames.specs.declared.frames.Frame.{Frame}
use Rattle.wf_frames.specs.declared.frames.Frame.TheVariants as frame
use Rattle.wf_model.specs.Config as model
use Rattle.wf_model.specs.Config.{Config, Item, Layer, limits, task, task_in}
use Rattle.wf_model.specs.Local.{Local, Outer, layers_total, outers_total}
use Rattle.wf_model.specs.Spots.{Spot, spots}
use Rattle.wf_model.specs.Taken.{local, outside, scene, tasks_total}
use Rattle.wf_moves.specs.Waits.{control_in, is_joining, standing_at, task_local, wait_view}
use Rattle.wf_moves.specs.declared.task.Task.{Task}
use Rattle.wf_moves.specs.declared.wait.Wait.{Wait}
use Rattle.wf_moves.specs.declared.wait.Wait.TheVariants as wait
use Rattle.wf_scope.specs.Layers.{total_of}
use Rattle.wf_scope.specs.Store.{layers_of}
use Rattle.wf_scope.specs.declared.scopes.Scopes.{Scopes}
use Rattle.wf_several.proofs.Here.{holder_here, task_here}
use Rattle.wf_several.proofs.Merges.{view_shows}
use Rattle.wf_several.proofs.Seen.{each_stands}
use Rattle.wf_several.specs.Here.{HasControl, IsPlace, NewIsAlike, NoneIsAlike, TaskReads}
use Rattle.wf_several.specs.Several.{AllGoOn, around_of, control_at, holder_of, holders_of, plain_around, task_view, tasks_view, with_join}
use Rattle.wf_stores.proofs.Outside.{outside_is}
use Rattle.wf_stores.proofs.Sizes.{all_sum}
use Rattle.wf_stores.specs.Holders.{Holder, IsChildless, all_total, holder_in, keys_of}
use Rattle.wf_stores.specs.Steps.{Shows, side_of}

-- ## No parallel step
pub join_none : (ns : List Spot) (fs : List Frame) → join_of (control ns fs) ≡ None
join_none ns [] = refl
join_none ns (frame.Do n at ∷ fs) = refl
join_none ns (frame.Lone n done ∷ fs) = refl
join_none ns (frame.Entries n at ∷ fs) = refl
join_none ns (frame.Then n ∷ fs) = refl
join_none ns (frame.Loop looping ∷ fs) = refl
join_none ns (frame.Try trying ∷ fs) = refl
join_none ns (frame.Mark number ∷ fs) = refl
join_none ns (frame.Back c number ∷ fs) = refl
join_none ns (frame.Judge judging ∷ fs) = refl

joinless : (o : Option Join) (ns : List Spot) (fs : List Frame) → with_join o (control ns fs) ≡ control ns fs
joinless None ns fs = refl
joinless (Some j) ns [] = refl
joinless (Some j) ns (frame.Do n at ∷ fs) = refl
joinless (Some j) ns (frame.Lone n done ∷ fs) = refl
joinless (Some j) ns (frame.Entries n at ∷ fs) = refl
joinless (Some j) ns (frame.Then n ∷ fs) = refl
joinless (Some j) ns (frame.Loop looping ∷ fs) = refl
joinless (Some j) ns (frame.Try trying ∷ fs) = refl
joinless (Some j) ns (frame.Mark number ∷ fs) = refl
joinless (Some j) ns (frame.Back c number ∷ fs) = refl
joinless (Some j) ns (frame.Judge judging ∷ fs) = refl

-- a task that stands in none has the control of its frames
pub frames_control : (ns : List Spot) (w : Wait) (k : List Item) → is_joining w ≡ false → control_in ns w k ≡ k
frames_control ns wait.Awake k e = refl
frames_control ns (wait.Sleep due node) k e = refl
frames_control ns (wait.Delay due) k e = refl
frames_control ns (wait.Calling call node) k e = refl
frames_control ns (wait.Joining j) k e = absurd (cc e)

pub no_join : (o : Option Join) (ns : List Spot) (t : Task) → is_joining t.wait ≡ false → HasControl o ns t
no_join o ns t e =
    ap (with_join o) (frames_control ns t.wait (control ns (inner t.frames)) e) ∙ joinless o ns (inner t.frames)
    ∙ sym (frames_control ns t.wait (control ns (inner t.frames)) e)

-- so it has none in the table
pub none_joined : (ns : List Spot) (t : Task) → is_joining t.wait ≡ false → join_of (control_in ns t.wait (control ns (inner t.frames))) ≡ None
none_joined ns t e = ap join_of (frames_control ns t.wait (control ns (inner t.frames)) e) ∙ join_none ns (inner t.frames)

-- ## Waits
pub wait_same : (p : Program) (a : Around) → a.spots ≡ spots p.flows → (w : Wait) → wait_view (plain_around p) w ≡ wait_view a w
wait_same p a is wait.Awake = refl
wait_same p a is (wait.Sleep due node) = ap (λ ns. wait_view (record (plain_around p) { spots = ns }) (wait.Sleep due node)) (sym is)
wait_same p a is (wait.Delay due) = refl
wait_same p a is (wait.Calling call node) = ap (λ ns. wait_view (record (plain_around p) { spots = ns }) (wait.Calling call node)) (sym is)
wait_same p a is (wait.Joining j) = refl

-- what all tasks' variables come to
pub total_all : (p : Program) (es : List (ℕ × Status)) (ts : List Task) (x : Scopes) → tasks_total (tasks_view p es ts x) ≡ all_total (holders_of p es ts) (layers_of x)
total_all p [] ts x = refl
total_all p (e ∷ es) [] x = refl
total_all p (e ∷ es) (t ∷ ts) x = ap (λ n. layers_total (own_layers (own_of t.frames) (layers_of x)) + n) (total_all p es ts x)

what_is_left : (all own out rest total : ℕ) → all ≡ total → own + out + rest ≡ total → all - (own + out) ≡ rest
what_is_left all own out rest total h g = omega (arith, h, g)

-- ## One task
module _ (p : Program) (rules : ℕ) (es : List (ℕ × Status)) (ts : List Task) (x : Scopes) (all : AllGoOn p rules es ts x)
    (i b : ℕ) (s : Status) (t : Task) (at : IsPlace b i es) (there : slice_get es i ≡ Some (b, s)) (beside : slice_get ts i ≡ Some t) where
  abbrev pub Hs : List Holder
  Hs = holders_of p es ts

  abbrev pub H : Holder
  H = holder_of p (b, s) t

  -- what stands around it
  abbrev pub A : Around
  A = around_of p rules Hs H (layers_of x)

  pub holds : holder_in Hs b ≡ Some H
  holds = holder_here p b i es ts s t at there beside

  -- where no branch of it lives
  pub linked : IsChildless Hs b → IsLinked A (own_of t.frames) x
  linked childless = each_stands p rules es ts x b H all holds childless

  module _ (c : Config) (is : c.tasks ≡ tasks_view p es ts x) where
    pub shows : Shows Hs (layers_of x) c
    shows j = ap (λ us. option_map side_of (task_in us j)) is ∙ view_shows p es ts x j

    outside_here : outside b c s.parent [] ≡ far_layers (keys_of Hs H) (layers_of x)
    outside_here = outside_is Hs (layers_of x) c shows b s.parent []

    -- the task at its control
    pub local_at : local c b (task_view p (plain_around p) s t x) ≡ standing_at A t x (control_at p s t)
    local_at =
        ap {B = Local} (λ (os : List Outer). record { control = control_at p s t; layers = own_layers (own_of t.frames) (layers_of x); outer = os; wait = wait_view (plain_around p) t.wait }) outside_here
        ∙ ap {B = Local} (λ (w : model.Wait). record { control = control_at p s t; layers = own_layers (own_of t.frames) (layers_of x); outer = far_layers (keys_of Hs H) (layers_of x); wait = w }) (wait_same p A refl t.wait)

    -- the task by itself
    pub local_is : HasControl s.join (spots p.flows) t → local c b (task_view p (plain_around p) s t x) ≡ task_local A t x
    local_is same =
        ap {B = Local} (λ (k : List Item). record { control = k; layers = own_layers (own_of t.frames) (layers_of x); outer = outside b c s.parent []; wait = wait_view (plain_around p) t.wait }) same
        ∙ ap {B = Local} (λ (os : List Outer). record { control = control_in (spots p.flows) t.wait (control (spots p.flows) (inner t.frames)); layers = own_layers (own_of t.frames) (layers_of x); outer = os; wait = wait_view (plain_around p) t.wait }) outside_here
        ∙ ap {B = Local} (λ (w : model.Wait). record { control = control_in (spots p.flows) t.wait (control (spots p.flows) (inner t.frames)); layers = own_layers (own_of t.frames) (layers_of x); outer = far_layers (keys_of Hs H) (layers_of x); wait = w }) (wait_same p A refl t.wait)

    -- what the other tasks' variables come to, as the scene has it
    others_here : IsChildless Hs b → tasks_total c.tasks - (layers_total (own_layers (own_of t.frames) (layers_of x)) + outers_total (outside b c s.parent [])) ≡ A.others
    others_here childless =
        let l = linked childless in
        ap (λ os. tasks_total c.tasks - (layers_total (own_layers (own_of t.frames) (layers_of x)) + outers_total os)) outside_here
        ∙ what_is_left (tasks_total c.tasks) (layers_total (own_layers (own_of t.frames) (layers_of x))) (outers_total (far_layers (keys_of Hs H) (layers_of x))) A.others (total_of (layers_of x))
        (ap tasks_total is ∙ total_all p es ts x ∙ all_sum Hs (layers_of x) all.stand) l.sum

    pub agrees : IsChildless Hs b → (rules ≡ c.facts.rules) → (now : ℕ) → Agrees (scene p c b (task_view p (plain_around p) s t x) now) A
    agrees childless same now = (ap (λ n. (limits n).variables) (sym same), others_here childless, refl)

pub task_reads : TaskReads
task_reads p rules es ts x i b s t c all here childless is same = record {
  live = ap (λ us. task_in us b) is ∙ task_here p b i es ts x s t here.place here.status here.task;
  linked = linked p rules es ts x all i b s t here.place here.status here.task childless;
  itself = local_is p rules es ts x all i b s t here.place here.status here.task c is;
  agrees = agrees p rules es ts x all i b s t here.place here.status here.task c is childless same;
}

-- ## What the table keeps
pub none_is_alike : NoneIsAlike
none_is_alike p s u none =
    let same = no_join None (spots p.flows) u none in
    (record { waits = refl; join = ap join_of same ∙ none_joined (spots p.flows) u none }, same)

-- no branch has begun
new_control : (ns : List Spot) (w : Wait) (k : List Item) (total limit : ℕ) → with_join (Some (new_join total limit)) k ≡ k → with_join (Some (new_join total limit)) (control_in ns w k) ≡ control_in ns w k
new_control ns wait.Awake k total limit same = same
new_control ns (wait.Sleep due node) k total limit same = same
new_control ns (wait.Delay due) k total limit same = same
new_control ns (wait.Calling call node) k total limit same = same
new_control ns (wait.Joining j) k total limit same = refl

pub new_is_alike : NewIsAlike
new_is_alike p s u total limit is =
    let ns = spots p.flows in
    let same = new_control ns u.wait (control ns (inner u.frames)) total limit (joinless (Some (new_join total limit)) ns (inner u.frames)) in
    (record { waits = refl; join = ap join_of same ∙ is }, same)
