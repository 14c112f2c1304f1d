-- Branches that begin among the tasks of a machine.
--     joined_at         the parallel step in which a task stands, in the table and in its control
--     branches_join     its branches have all ended
--     branch_adds       its next branch begins
--     branch_refused    or its names don't fit
use Rattle.std.proofs.Common.{◌≡◌, inl, inr, ℕ, suc, ◌+◌, ◌<◌, Bool, true, false, List, [], ◌∷◌, ◌++◌, Option, Some, None, Ok, Err, refl, sym, ap, subst, ◌∙◌, add-one, arith}
use Rattle.std.specs.Global.{Global}
use Rattle.std.specs.Prelude.{Box, ◌||◌, if◌then◌else◌, length, nat_le, not, option_map, slice_set}
use Rattle.std.proofs.lemmas.Bool.{and_parts, cases_eq, leb-true, ne_eqb}
use Rattle.wf_ast.specs.Tree.{ParallelBody, Program, Steps, branch as branch_of_tree, no_branches, parallel}
use Rattle.wf_branches.proofs.Rising.{put_at, put_last, set_rises, push_rises, within_at}
use Rattle.wf_branches.proofs.Steps.{refused_is}
use Rattle.wf_branches.specs.Changes as change
use Rattle.wf_branches.specs.Changes.{begun_in, new_status, next_in, on_join}
use Rattle.wf_branches.specs.Steps.{above, branches_count, count_of, join_of, live_of, table_by}
use Rattle.wf_branches.specs.Table as table
use Rattle.wf_branches.specs.Table.{Join, Status, Table, has_ended, rise, runs_none, status_in}
use Rattle.wf_frames.proofs.Names.{Same, find_last, fresh_none, names_bound}
use Rattle.wf_frames.proofs.Owning.{innermost_own}
use Rattle.wf_frames.proofs.Parts.{list_is}
use Rattle.wf_frames.proofs.Standing.{standing}
use Rattle.wf_frames.proofs.Unseen.{besides_more}
use Rattle.wf_frames.specs.Forks.{is_work_at, opened_in, parallel_at, work_view}
use Rattle.wf_frames.specs.Frames.{control, inner}
use Rattle.wf_frames.specs.Innermost.{innermost}
use Rattle.wf_frames.specs.Stands.{Stands}
use Rattle.wf_frames.specs.Owned.{Around, IsLinked, besides, own_of}
use Rattle.wf_frames.specs.Standing.{AllStandAt}
use Rattle.wf_frames.specs.Tasks.{own_layers}
use Rattle.wf_frames.specs.Turns.{bound_all}
use Rattle.wf_frames.specs.declared.frames.Frame.{Frame}
use Rattle.wf_frames.specs.declared.frames.Frame.TheVariants as frame
use Rattle.wf_frames.specs.declared.frames.Frames.{Frames}
use Rattle.wf_model.specs.Config as model
use Rattle.wf_model.specs.Config.{After, Awake, BranchesLeft, Config, Do, Item, OfList, OfRange, To, ValuesLeft, WorkLeft, is_empty, limits, put_in, task_in, with_task}
use Rattle.wf_model.specs.Layers as meaning
use Rattle.wf_model.specs.Local.{Goes, Local, Not, Scene, goes, settle, settled}
use Rattle.wf_model.specs.Move.{joins as model_joins, move, moves}
use Rattle.wf_model.specs.Ready.{is_awake, limit_of}
use Rattle.wf_model.specs.RunLaws.{RisesFrom}
use Rattle.wf_model.specs.Spots.{Spot, spots}
use Rattle.wf_model.specs.Table.{Resolves}
use Rattle.wf_model.specs.Step as step
use Rattle.wf_model.specs.Step.{begins_by, fresh as fresh_task, new_task, starts, starts_work}
use Rattle.wf_model.specs.Taken.{drop_number, local, merged, put_back, put_error, step_shares, tasks_total}
use Rattle.wf_model.specs.declared.node.Node.{Node}
use Rattle.wf_moves.proofs.Agreeing.{begins_so, joins_so}
use Rattle.wf_moves.proofs.Going.{is_going}
use Rattle.wf_moves.proofs.Leaving.{do_stands}
use Rattle.wf_moves.proofs.Waiting.{is_awake as awake_is}
use Rattle.wf_moves.specs.Moved.{IsGoing}
use Rattle.wf_moves.specs.Branches.{BranchesOff, First, IsBegun, begins_with, error_by, error_in, joins_with}
use Rattle.wf_moves.specs.Waits.{CanGoOn, GoesFrom, control_in, is_joining, join_item, standing_at, wait_view}
use Rattle.wf_moves.specs.declared.task.Task.{Task}
use Rattle.wf_moves.specs.declared.wait.Joining.{Joining}
use Rattle.wf_moves.specs.declared.wait.Wait.{Wait}
use Rattle.wf_moves.specs.declared.wait.Wait.TheVariants as wait
use Rattle.wf_scope.proofs.Kept.{find_more}
use Rattle.wf_scope.specs.Layers.{Layer, depth_in, find, fresh, new_layer, total_of, vars_at, vars_in}
use Rattle.wf_scope.specs.Store.{layers_of}
use Rattle.wf_scope.specs.declared.fault.AssignFault.TheVariants as fault
use Rattle.wf_scope.specs.declared.scopes.Scopes.{Scopes}
use Rattle.wf_several.proofs.Counts.{first_counts, left_stays}
use Rattle.wf_several.proofs.Here.{alike_moved, holder_here, holders_moved, status_here, task_here}
use Rattle.wf_several.proofs.Lists.{alike_add, alike_at, fit_add, holder_within, holders_add, last_again, last_found, last_put, same_own, view_add, view_again, view_put, view_set, views_stay}
use Rattle.wf_several.proofs.Seen.{each_stands, table_is_seen}
use Rattle.wf_several.proofs.Sees.{local_at, no_join, none_joined, total_all}
use Rattle.wf_several.proofs.Standing.{each_fits, rises_view}
use Rattle.wf_several.specs.Branches.{BranchAdds, BranchIsRefused, BranchesJoin, GoOnSo, StandsHere, kept_by, table_with}
use Rattle.wf_several.specs.Here.{around_here}
use Rattle.wf_several.specs.Several.{AllGoOn, AreAlike, IsAlike, around_of, control_at, holder_of, holders_of, plain_around, task_view, tasks_view, with_join}
use Rattle.wf_several.specs.Standing.{AllFitAt}
use Rattle.wf_stores.proofs.Branches.{branch_begins, more_none}
use Rattle.wf_stores.proofs.Goes.{find_beside}
use Rattle.wf_stores.proofs.Sizes.{all_sum}
use Rattle.wf_stores.specs.Holders.{AllStand, HasParent, Holder, IsChildless, branch_of, holder_in, innermost_of, with_own}
use Rattle.wf_value.proofs.Order.{in_order_empty}
use Rattle.wf_value.specs.Data.{Data, no_pairs, pairs_of}
use Rattle.wf_value.specs.Errors.{error_map}
use Rattle.wf_value.specs.Maps.{IsInOrder}
use Rattle.wf_value.specs.Plain.{plain}
use Rattle.wf_value.specs.declared.Tag.TheVariants.{ResourceLimitError}
use Rattle.wf_value.specs.declared.Value.{Value}

-- ## Layers that stay
besides_no : (ls : List Layer) → besides [] ls ≡ ls
besides_no [] = refl
besides_no (l ∷ ls) = ap (λ ms. l ∷ ms) (besides_no ls)

no_variables : IsInOrder {X = Data} []
no_variables = in_order_empty {X = Data} [] refl

-- ## Parallel steps
-- they share the same names
shares_of : (q : ParallelBody) (w v : WorkLeft) (n m : ℕ) (rs qs : List ℕ) (fs gs : List (ℕ × Data)) (j k : List Item) → step_shares (Item.Join q w n rs fs ∷ j) ≡ step_shares (Item.Join q v m qs gs ∷ k)
shares_of (parallel names limit b) w v n m rs qs fs gs j k = refl

-- nothing is left of one that has ended, and none runs
empty_of : (w : WorkLeft) (n : ℕ) → nat_le (n + count_of w) n ≡ true → is_empty w ≡ true
empty_of (BranchesLeft no_branches) n h = refl
empty_of (BranchesLeft (branch_of_tree x ss bs)) n h = let le = leb-true (n + suc (branches_count bs)) n h in absurd (omega (arith, le))
empty_of (ValuesLeft (OfList [])) n h = refl
empty_of (ValuesLeft (OfList (v ∷ vs))) n h = let le = leb-true (n + suc (length vs)) n h in absurd (omega (arith, le))
empty_of (ValuesLeft (OfRange a b)) n h = let le = leb-true (n + suc (above a b)) n h in absurd (omega (arith, le))

none_of : (ns : List ℕ) → runs_none ns ≡ true → ns ≡ []
none_of [] h = refl
none_of (n ∷ ns) h = absurd (cc h)

-- ## Frames
-- a task that begins at these steps, of which there are some, stands there
settled_at : (ns : List Spot) (nodes : List Node) (r : Resolves ns nodes) (fs : List Frame) (ss : Steps) (l : Local) → control ns fs ≡ Do ss ss ∷ [] → IsGoing nodes fs
    → settle (Do ss ss ∷ []) l ≡ record l { control = Do ss ss ∷ [] }
settled_at ns nodes r [] ss l e h = absurd h
settled_at ns nodes r (frame.Do n at ∷ fs) ss l e h =
    subst (λ k. settle k l ≡ record l { control = k }) e (do_stands ns n at h.0.steps (list_is ns nodes n h.0 r h.1) h.2 (control ns fs) l)
settled_at ns nodes r (frame.Lone n true ∷ fs) ss l e h = absurd h
settled_at ns nodes r (frame.Lone n false ∷ fs) ss l e h = absurd (cc e)
settled_at ns nodes r (frame.Entries n at ∷ fs) ss l e h = absurd (cc e)
settled_at ns nodes r (frame.Then n ∷ fs) ss l e h = absurd (cc e)
settled_at ns nodes r (frame.Loop looping ∷ fs) ss l e h = absurd (cc e)
settled_at ns nodes r (frame.Try trying ∷ fs) ss l e h = absurd (cc e)
settled_at ns nodes r (frame.Mark number ∷ fs) ss l e h = absurd (cc e)
settled_at ns nodes r (frame.Back k number ∷ fs) ss l e h = absurd (cc e)
settled_at ns nodes r (frame.Judge judging ∷ fs) ss l e h = absurd (cc e)

-- ## Parents
parent_below : (hs : List Holder) (b : ℕ) (q : Option ℕ) (m : ℕ) → q ≡ Some m → HasParent hs b q → m < b
parent_below hs b None m e h = absurd (cc e)
parent_below hs b (Some n) m e h = let same : n ≡ m = cc e in subst (λ (k : ℕ). k < b) same h.0

-- ## A task at its place
module _ (p : Program) (nodes : List Node) (rules : ℕ) (es : List (ℕ × Status)) (ts : List Task) (x : Scopes) (i a : ℕ) (s : Status) (t : Task) (c : Config) (h : StandsHere p nodes rules es ts x i a s t c) where
  abbrev NS : List Spot
  NS = spots p.flows

  abbrev PA : Around
  PA = plain_around p

  abbrev Hs : List Holder
  Hs = holders_of p es ts

  abbrev H : Holder
  H = holder_of p (a, s) t

  abbrev Itself : model.Task
  Itself = task_view p PA s t x

  its_holder : holder_in Hs a ≡ Some H
  its_holder = holder_here p a i es ts s t h.here.place h.here.status h.here.task

  its_number : a < c.made
  its_number = (within_at 0 c.made es i a s h.numbers h.here.status).1

  its_alike : IsAlike p s t
  its_alike = alike_at p i es ts a s t h.all.alike h.here.status h.here.task

  -- the number that comes next is that of none
  no_holder : (o : Option Holder) → holder_in Hs c.made ≡ o → o ≡ None
  no_holder None e = refl
  no_holder (Some g) e = let less = (holder_within p 0 c.made c.made es ts g h.numbers e).1 in absurd (omega (arith, less))

  -- what all variables come to, and their limit
  total_is : tasks_total c.tasks ≡ total_of (layers_of x)
  total_is = ap tasks_total h.is ∙ total_all p es ts x ∙ all_sum Hs (layers_of x) h.all.stand

  limit_is : (limits c.facts.rules).variables ≡ x.limit
  limit_is = ap (λ n. (limits n).variables) (sym h.its_rules) ∙ sym h.all.limit

  -- ## The parallel step in which it stands
  module _ (box : Box Joining Global) (was : t.wait ≡ wait.Joining box) where
    abbrev Body : ParallelBody
    Body = parallel_at NS box.value.node

    abbrev Work_left : WorkLeft
    Work_left = work_view Body box.value.next box.value.left

    abbrev Outside : List Item
    Outside = control NS (inner t.frames)

    -- in the table, and in its control
    pub record JoinedAt : Type 0 where
      pub join : Join
      pub at : s.join ≡ Some join
      pub is : join ≡ record { total = box.value.next + count_of Work_left; limit = limit_of Body; next = box.value.next; running = join.running; errors = join.errors }
      pub control : control_at p s t ≡ Item.Join Body Work_left box.value.next join.running join.errors ∷ Outside

    alike_so : join_of (with_join s.join (join_item NS box.value ∷ Outside)) ≡ s.join
    alike_so = sym (ap (λ w. join_of (with_join s.join (control_in NS w Outside))) was) ∙ its_alike.join

    pub joined_at : JoinedAt
    joined_at = by s.join refl
      where
        told : (q : Option Join) → s.join ≡ q → join_of (with_join q (join_item NS box.value ∷ Outside)) ≡ q
        told q e = subst (λ r. join_of (with_join r (join_item NS box.value ∷ Outside)) ≡ r) e alike_so

        by : (q : Option Join) → s.join ≡ q → JoinedAt
        by None e = absurd (cc (told None e))
        by (Some j) e =
            let same : record { total = box.value.next + count_of Work_left; limit = limit_of Body; next = box.value.next; running = j.running; errors = j.errors } ≡ j = cc (told (Some j) e) in
            record {
              join = j;
              at = e;
              is = sym same;
              control = ap (λ w. with_join s.join (control_in NS w Outside)) was ∙ ap (λ r. with_join r (join_item NS box.value ∷ Outside)) e;
            }

  -- ## A branch of it begins
  module _ (u : Task) (f : First) (off : BranchesOff NS f t u) where
    abbrev Was : Joining
    Was = off.before.value

    abbrev Is : Joining
    Is = off.behind.value

    abbrev P : ParallelBody
    P = parallel_at NS Was.node

    abbrev W : WorkLeft
    W = work_view P Was.next Was.left

    abbrev K : List Item
    K = control NS (inner t.frames)

    joined : JoinedAt off.before off.was
    joined = joined_at off.before off.was

    abbrev J : Join
    J = joined.join

    -- where its next branch leads, as its names fit
    begins_to : begins_by a Itself (control_at p s t) c
        ≡ starts a Itself P f.left Was.next J.running J.errors K f.steps (meaning.bound (limits c.facts.rules).variables (tasks_total c.tasks) f.names no_pairs) c
    begins_to =
        ap {B = After} (λ k. begins_by a Itself k c) joined.control
        ∙ begins_so a Itself P W Was.next J.running J.errors K c
        ∙ ap {B = After} (begins_with a Itself P Was.next J.running J.errors K c) off.steps.first

    -- behind a branch that has begun, with these that run and these errors
    module _ (after : Status) (running : List ℕ) (errors : List (ℕ × Data)) (parent : after.parent ≡ s.parent) (waits : after.waits ≡ s.waits)
        (joins : after.join ≡ Some (record { total = Was.next + count_of W; limit = limit_of P; next = suc Was.next; running = running; errors = errors })) where
      abbrev Behind : List Item
      Behind = Item.Join P f.left (suc Was.next) running errors ∷ K

      control_after : control_at p after u ≡ Behind
      control_after =
          ap (λ w. with_join after.join (control_in NS w (control NS (inner u.frames)))) off.is
          ∙ ap (λ (g : Frames). with_join after.join (join_item NS Is ∷ control NS (inner g))) off.frames
          ∙ ap (λ r. with_join r (join_item NS Is ∷ K)) joins
          ∙ ap (λ n. Item.Join (parallel_at NS n) (work_view (parallel_at NS n) Is.next Is.left) Is.next running errors ∷ K) off.steps.node
          ∙ ap (λ w. Item.Join P w Is.next running errors ∷ K) off.steps.left
          ∙ ap (λ n. Item.Join P f.left n running errors ∷ K) (off.steps.next ∙ add-one Was.next)

      counts : suc Was.next + count_of f.left ≡ Was.next + count_of W
      counts = let less = first_counts P Was.next W f off.steps.first in omega (arith, less)

      alike_after : IsAlike p after u
      alike_after = record {
        waits = waits ∙ its_alike.waits ∙ ap (λ w. not (is_awake (wait_view PA w))) off.was ∙ sym (ap (λ w. not (is_awake (wait_view PA w))) off.is);
        join = ap join_of control_after ∙ ap {B = Option Join} (λ n. Some (record { total = n; limit = limit_of P; next = suc Was.next; running = running; errors = errors })) counts ∙ sym joins;
      }

      -- the task in the configuration
      view_after : record Itself { control = Behind } ≡ task_view p PA after u x
      view_after =
          ap {B = model.Task} (λ k. record Itself { control = k }) (sym control_after)
          ∙ ap {B = model.Task} (λ q. record Itself { parent = q; control = control_at p after u }) (sym parent)
          ∙ ap {B = model.Task} (λ (g : Frames). record { parent = after.parent; control = control_at p after u; layers = own_layers (own_of g) (layers_of x); wait = wait_view PA t.wait }) (sym off.frames)
          ∙ ap {B = model.Task} (λ w. record { parent = after.parent; control = control_at p after u; layers = own_layers (own_of u.frames) (layers_of x); wait = w }) (ap (wait_view PA) off.was ∙ sym (ap (wait_view PA) off.is))

      put_after : put_in a (record Itself { control = Behind }) c.tasks ≡ tasks_view p (slice_set es i (a, after)) (slice_set ts i u) x
      put_after =
          ap (λ v. put_in a v c.tasks) view_after
          ∙ ap (put_in a (task_view p PA after u x)) h.is
          ∙ view_put p 0 c.made i a es ts x s (task_view p PA after u x) h.numbers h.all.alike h.here.status
          ∙ sym (view_set p i a es ts x after u)

      -- the holders are as they were
      shares_same : step_shares (control_at p after u) ≡ step_shares (control_at p s t)
      shares_same = ap step_shares control_after ∙ shares_of P f.left W (suc Was.next) Was.next running J.running errors J.errors K K ∙ sym (ap step_shares joined.control)

      holders_same : holders_of p (slice_set es i (a, after)) (slice_set ts i u) ≡ Hs
      holders_same =
          holders_moved p a i es ts after s u h.all.alike h.here.place h.here.status parent
          ∙ ap (λ sh. with_own a sh (own_of u.frames) Hs) shares_same
          ∙ ap (λ (g : Frames). with_own a (step_shares (control_at p s t)) (own_of g) Hs) off.frames
          ∙ same_own a Hs H its_holder

      all_alike : AreAlike p (slice_set es i (a, after)) (slice_set ts i u)
      all_alike = alike_moved p a i es ts after u h.all.alike h.here.place alike_after

      rises_after : rise 0 c.made (slice_set es i (a, after)) ≡ true
      rises_after = set_rises 0 c.made es i a s after h.here.status ∙ h.numbers

      fit_itself : AllStandAt NS nodes (inner u.frames) × CanGoOn nodes u
      fit_itself =
          let was = (each_fits p nodes i ts t u h.fit h.here.task).0 in
          let work : is_work_at nodes Was.node Was.left ≡ true = subst (λ w. GoesFrom nodes w t.frames) off.was was.1 in
          let stays : is_work_at nodes Was.node Is.left ≡ true =
          left_stays nodes Was.node P Was.next Is.next Was.left Is.left f work off.steps.first off.steps.left in
          (subst (λ (g : Frames). AllStandAt NS nodes (inner g)) (sym off.frames) was.0, subst (λ w. GoesFrom nodes w u.frames) (sym off.is) (ap (λ n. is_work_at nodes n Is.left) off.steps.node ∙ stays))

      fit_all : AllFitAt p nodes (slice_set ts i u)
      fit_all = (each_fits p nodes i ts t u h.fit h.here.task).1 fit_itself
      -- ## Its next branch is a task

    module _ (v : Task) (new : Scopes) (begun : IsBegun NS nodes f (fresh (layers_of x)) v) (limit : new.limit ≡ x.limit)
        (told : bound_all x.limit (fresh (layers_of x)) f.names (opened_in (innermost t.frames.first (inner t.frames)) (layers_of x)) ≡ Ok (layers_of new)) where
      abbrev Fresh : ℕ
      Fresh = fresh (layers_of x)

      abbrev Inside : ℕ
      Inside = innermost t.frames.first (inner t.frames)

      abbrev Later : Status
      Later = on_join (begun_in c.made) s

      abbrev First_of : Status
      First_of = new_status (Some (a, next_in s.join))

      abbrev Running : List ℕ
      Running = J.running ++ c.made ∷ []

      joins_after : Later.join ≡ Some (record { total = Was.next + count_of W; limit = limit_of P; next = suc Was.next; running = Running; errors = J.errors })
      joins_after = ap (option_map (begun_in c.made)) joined.at ∙ ap {B = Option Join} (λ j. Some (begun_in c.made j)) joined.is

      abbrev Es : List (ℕ × Status)
      Es = slice_set es i (a, Later)

      abbrev Ts : List Task
      Ts = slice_set ts i u

      table_is : change.begun a (table_with es c.made) ≡ record { live = Es ++ (c.made, First_of) ∷ []; made = suc c.made }
      table_is =
          ap {B = Table} (λ (o : Option Status). elim o [ None ↦ table_with es c.made | Some r ↦ change.begun_by a r (table_with es c.made) ]) (status_here p a i es s h.here.place h.here.status)
          ∙ ap {B = Table} (λ us. record { live = table.put_in c.made First_of us; made = suc c.made }) (put_at 0 c.made es i a s Later h.numbers h.here.status)
          ∙ ap {B = Table} (λ us. record { live = us; made = suc c.made }) (put_last 0 c.made Es First_of (rises_after Later Running J.errors refl refl joins_after))

      -- ### Its layer
      fitted : Same x.limit Fresh (layers_of x) (fresh_none (layers_of x)) (Some Inside) (Ok (layers_of new)) (meaning.bound x.limit (total_of (layers_of x)) f.names no_pairs)
      fitted =
          subst (λ r. Same x.limit Fresh (layers_of x) (fresh_none (layers_of x)) (Some Inside) r (meaning.bound x.limit (total_of (layers_of x)) f.names no_pairs)) told
          (names_bound x.limit Fresh (layers_of x) (fresh_none (layers_of x)) f.names (Some Inside) (opened_in Inside (layers_of x)) no_pairs
          (record { layer = new_layer Fresh (Some Inside) (suc (depth_in (find Inside (layers_of x)))); is = refl; number = refl; inside = refl; vars = refl; order = no_variables }))

      abbrev New : Layer
      New = fitted.2.layer

      there : find Fresh (layers_of new) ≡ Some New
      there = ap (find Fresh) fitted.2.is ∙ find_last Fresh New fitted.2.number (layers_of x) (fresh_none (layers_of x))

      stays : (n : ℕ) (l : Layer) → find n (layers_of x) ≡ Some l → find n (layers_of new) ≡ Some l
      stays n l e = ap (find n) fitted.2.is ∙ find_more n (layers_of x) (New ∷ []) l e

      rest : besides (Fresh ∷ []) (layers_of new) ≡ layers_of x
      rest = ap (besides (Fresh ∷ [])) fitted.2.is ∙ besides_more Fresh [] (layers_of x) New fitted.2.number (fresh_none (layers_of x)) ∙ besides_no (layers_of x)

      orders : (n : ℕ) → IsInOrder (vars_at n (layers_of new))
      orders n = elim (cases_eq n Fresh) [
        | inl same ↦ subst (λ (m : ℕ). IsInOrder (vars_at m (layers_of new))) (sym same) (subst (λ o. IsInOrder (vars_in o)) (sym there) fitted.2.order)
        | inr other ↦ subst (λ o. IsInOrder (vars_in o)) (sym (elsewhere n other)) (h.all.order n)
      ]
        where
          elsewhere : (n : ℕ) → (n ≡ Fresh → ⊥) → find n (layers_of new) ≡ find n (layers_of x)
          elsewhere n d = sym (find_beside n (Fresh ∷ []) (layers_of new) (ap (λ (b : Bool). b || false) (ne_eqb n Fresh d))) ∙ ap (find n) rest

      -- ### The new task
      awake : v.wait ≡ wait.Awake
      awake = awake_is v.wait begun.awake

      control_first : control_at p First_of v ≡ Do f.steps f.steps ∷ []
      control_first = ap (λ w. control_in NS w (control NS (inner v.frames))) awake ∙ begun.control

      alike_first : IsAlike p First_of v
      alike_first = record {
        waits = ap (λ w. not (is_awake (wait_view PA w))) (sym awake);
        join = ap join_of control_first;
      }

      holder_first : holder_of p (c.made, First_of) v ≡ branch_of c.made a Fresh
      holder_first =
          ap {B = Holder} (λ k. record { number = c.made; parent = Some a; shares = step_shares k; own = own_of v.frames }) control_first
          ∙ ap {B = Holder} (λ os. record { number = c.made; parent = Some a; shares = []; own = os }) begun.own

      inside : New.outer ≡ innermost_of H.own
      inside =
          let top = innermost_own t.frames.first (inner t.frames) in
          fitted.2.inside ∙ ap Some (sym top.number) ∙ sym (ap innermost_of top.is)

      all_first : AreAlike p (Es ++ (c.made, First_of) ∷ []) (Ts ++ v ∷ [])
      all_first = alike_add p Es Ts (c.made, First_of) v (all_alike Later Running J.errors refl refl joins_after) alike_first

      holders_first : holders_of p (Es ++ (c.made, First_of) ∷ []) (Ts ++ v ∷ []) ≡ Hs ++ branch_of c.made a Fresh ∷ []
      holders_first =
          holders_add p Es Ts (c.made, First_of) v (all_alike Later Running J.errors refl refl joins_after)
          ∙ ap (λ hs. hs ++ holder_of p (c.made, First_of) v ∷ []) (holders_same Later Running J.errors refl refl joins_after)
          ∙ ap (λ g. Hs ++ g ∷ []) holder_first

      all_go_on : AllGoOn p rules (Es ++ (c.made, First_of) ∷ []) (Ts ++ v ∷ []) new
      all_go_on = record {
        alike = all_first;
        stand = subst (λ hs. AllStand hs (layers_of new)) (sym holders_first)
            (branch_begins Hs (layers_of x) a c.made Fresh H New (layers_of new) h.all.stand its_holder (no_holder (holder_in Hs c.made) refl) its_number (fresh_none (layers_of x)) new.rising there inside rest);
        limit = limit ∙ h.all.limit;
        order = orders;
      }

      -- it fits, since it stands by itself
      rises_first : rise 0 (suc c.made) (Es ++ (c.made, First_of) ∷ []) ≡ true
      rises_first = push_rises 0 c.made Es First_of (rises_after Later Running J.errors refl refl joins_after) (omega arith)

      abbrev All : List Holder
      All = holders_of p (Es ++ (c.made, First_of) ∷ []) (Ts ++ v ∷ [])

      abbrev Its : Holder
      Its = branch_of c.made a Fresh

      holds_first : holder_in All c.made ≡ Some Its
      holds_first = ap (λ hs. holder_in hs c.made) holders_first ∙ more_none Hs Its c.made (no_holder (holder_in Hs c.made) refl) refl

      childless_first : IsChildless All c.made
      childless_first b g at parent =
          let within = (holder_within p 0 (suc c.made) b (Es ++ (c.made, First_of) ∷ []) (Ts ++ v ∷ []) g rises_first at).1 in
          let above = parent_below All b g.parent c.made parent (all_go_on.stand.parents b g at) in
          omega (arith, within, above)

      linked_first : Stands (around_of p rules All Its (layers_of new)) nodes v.frames new
      linked_first = record {
        fits = begun.fits;
        linked = subst (λ os. IsLinked (around_of p rules All Its (layers_of new)) os new) (sym begun.own) (each_stands p rules (Es ++ (c.made, First_of) ∷ []) (Ts ++ v ∷ []) new c.made Its all_go_on holds_first childless_first);
      }

      fit_first : AllFitAt p nodes (Ts ++ v ∷ [])
      fit_first = fit_add p nodes Ts v (fit_all Later Running J.errors refl refl joins_after) ((standing (around_of p rules All Its (layers_of new)) nodes v.frames new linked_first).fit, begun.going)

      -- ### In the configuration
      abbrev Alone : Local
      Alone = fresh_task fitted.0

      settles : goes (Do f.steps f.steps ∷ []) Alone ≡ Goes (record Alone { control = Do f.steps f.steps ∷ [] })
      settles = ap settled (settled_at NS nodes h.tells.resolves (inner v.frames) f.steps Alone begun.control (is_going nodes (inner v.frames) (subst (λ w. GoesFrom nodes w v.frames) awake begun.going).0))

      numbers_are : (y : Scopes) → RisesFrom 0 c.made (tasks_view p Es Ts y)
      numbers_are y = rises_view p 0 c.made Es Ts y (rises_after Later Running J.errors refl refl joins_after)

      same_views : tasks_view p Es Ts new ≡ tasks_view p Es Ts x
      same_views =
          views_stay p c.made Es Ts x new (rises_after Later Running J.errors refl refl joins_after) (all_alike Later Running J.errors refl refl joins_after)
          (subst (λ hs. AllStand hs (layers_of x)) (sym (holders_same Later Running J.errors refl refl joins_after)) h.all.stand) stays

      abbrev Bare : model.Task
      Bare = new_task a Was.next

      abbrev Stood : model.Task
      Stood = record Bare { control = Do f.steps f.steps ∷ []; layers = Alone.layers; wait = Awake }

      abbrev With : Config
      With = with_task c.made Bare (step.begun a Itself P f.left Was.next Running J.errors K c)

      with_tasks : With.tasks ≡ tasks_view p Es Ts x ++ (c.made, Bare) ∷ []
      with_tasks = ap (put_in c.made Bare) (put_after Later Running J.errors refl refl joins_after) ∙ last_put c.made Bare 0 (tasks_view p Es Ts x) (numbers_are x)

      stood_is : Stood ≡ task_view p PA First_of v new
      stood_is =
          let vars : pairs_of (vars_at Fresh (layers_of new)) ≡ fitted.0 = ap (λ o. pairs_of (vars_in o)) there ∙ fitted.2.vars in
          let next : next_in s.join ≡ Was.next = ap next_in joined.at ∙ ap (λ (j : Join). j.next) joined.is in
          ap {B = model.Task} (λ n. record { parent = Some (a, n); control = Do f.steps f.steps ∷ []; layers = Alone.layers; wait = Awake }) (sym next)
          ∙ ap {B = model.Task} (λ k. record { parent = Some (a, next_in s.join); control = k; layers = Alone.layers; wait = Awake }) (sym control_first)
          ∙ ap {B = model.Task} (λ ps. record { parent = Some (a, next_in s.join); control = control_at p First_of v; layers = record { vars = ps; by_call = false } ∷ []; wait = Awake }) (sym vars)
          ∙ ap {B = model.Task} (λ os. record { parent = Some (a, next_in s.join); control = control_at p First_of v; layers = own_layers os (layers_of new); wait = Awake }) (sym begun.own)
          ∙ ap {B = model.Task} (λ w. record { parent = Some (a, next_in s.join); control = control_at p First_of v; layers = own_layers (own_of v.frames) (layers_of new); wait = wait_view PA w }) (sym awake)

      back_is : put_back c.made (record Alone { control = Do f.steps f.steps ∷ [] }) With ≡ record c { made = suc c.made; tasks = tasks_view p (Es ++ (c.made, First_of) ∷ []) (Ts ++ v ∷ []) new }
      back_is =
          ap {B = Config} (λ o. elim o [ None ↦ With | Some w ↦ with_task c.made (record w { control = Do f.steps f.steps ∷ []; layers = Alone.layers; wait = Awake }) With ])
          (ap (λ us. task_in us c.made) with_tasks ∙ last_found c.made Bare 0 (tasks_view p Es Ts x) (numbers_are x))
          ∙ ap {B = Config} (λ us. record c { made = suc c.made; tasks = us })
          (ap (put_in c.made Stood) with_tasks
          ∙ last_again c.made Bare Stood 0 (tasks_view p Es Ts x) (numbers_are x)
          ∙ ap (λ us. us ++ (c.made, Stood) ∷ []) (sym same_views)
          ∙ ap (λ w. tasks_view p Es Ts new ++ (c.made, w) ∷ []) stood_is
          ∙ sym (view_add p Es Ts new (c.made, First_of) v (all_alike Later Running J.errors refl refl joins_after)))

      fits_there : meaning.bound (limits c.facts.rules).variables (tasks_total c.tasks) f.names no_pairs ≡ Ok fitted.0
      fits_there = ap (λ n. meaning.bound n (tasks_total c.tasks) f.names no_pairs) limit_is ∙ ap (λ n. meaning.bound x.limit n f.names no_pairs) total_is ∙ fitted.1

      leads : begins_by a Itself (control_at p s t) c ≡ To (record c { made = suc c.made; tasks = tasks_view p (Es ++ (c.made, First_of) ∷ []) (Ts ++ v ∷ []) new })
      leads =
          begins_to
          ∙ ap {B = After} (λ r. starts a Itself P f.left Was.next J.running J.errors K f.steps r c) fits_there
          ∙ ap {B = After} (λ m. merged c.made (Some (a, Was.next)) m With) settles
          ∙ ap {B = After} To back_is

      pub adds : GoOnSo p nodes rules c (begins_by a Itself (control_at p s t) c) (change.begun a (table_with es c.made)) (Ts ++ v ∷ []) new
      adds =
          subst (λ (T : Table). GoOnSo p nodes rules c (begins_by a Itself (control_at p s t) c) T (Ts ++ v ∷ []) new) (sym table_is)
          (record { leads = leads; goes_on = all_go_on; fit = fit_first })

    -- ## Its names don't fit
    module _ (e : Value) (new : Scopes) (limit : new.limit ≡ x.limit) (same : layers_of new ≡ layers_of x) (is : plain e ≡ error_map ResourceLimitError)
        (told : bound_all x.limit (fresh (layers_of x)) f.names (opened_in (innermost t.frames.first (inner t.frames)) (layers_of x)) ≡ Err fault.TooLarge)
        (unused : (j : Join) → s.join ≡ Some j → drop_number c.made j.running ≡ j.running) where
      abbrev Kept : List (ℕ × Data)
      Kept = put_error Was.next (error_map ResourceLimitError) J.errors

      abbrev Failed : Status
      Failed = record { parent = s.parent; waits = s.waits; join = Some (record { total = Was.next + count_of W; limit = limit_of P; next = suc Was.next; running = J.running; errors = Kept }) }

      abbrev Fs : List (ℕ × Status)
      Fs = slice_set es i (a, Failed)

      abbrev Us : List Task
      Us = slice_set ts i u

      abbrev Left : Config
      Left = step.begun a Itself P f.left Was.next J.running Kept K c

      refused : meaning.bound (limits c.facts.rules).variables (tasks_total c.tasks) f.names no_pairs ≡ Err ResourceLimitError
      refused =
          let ls = layers_of x in
          let o = innermost t.frames.first (inner t.frames) in
          ap (λ n. meaning.bound n (tasks_total c.tasks) f.names no_pairs) limit_is ∙ ap (λ n. meaning.bound x.limit n f.names no_pairs) total_is
          ∙ subst (λ r. Same x.limit (fresh ls) ls (fresh_none ls) (Some o) r (meaning.bound x.limit (total_of ls) f.names no_pairs)) told
          (names_bound x.limit (fresh ls) ls (fresh_none ls) f.names (Some o) (opened_in o ls) no_pairs
          (record { layer = new_layer (fresh ls) (Some o) (suc (depth_in (find o ls))); is = refl; number = refl; inside = refl; vars = refl; order = no_variables }))

      left_tasks : Left.tasks ≡ tasks_view p Fs Us x
      left_tasks = put_after Failed J.running Kept refl refl refl

      failed_leads : begins_by a Itself (control_at p s t) c ≡ To (record c { made = suc c.made; tasks = tasks_view p Fs Us new })
      failed_leads =
          begins_to
          ∙ ap {B = After} (λ r. starts a Itself P f.left Was.next J.running J.errors K f.steps r c) refused
          ∙ ap {B = After} (λ us. To (record c { made = suc c.made; tasks = us })) (left_tasks ∙ sym (view_again p Fs Us x new (λ j w at. ap (own_layers (own_of w.frames)) same)))

      seen : table_by c ≡ table_with es c.made
      seen = ap {B = Table} (λ us. record { live = us; made = c.made }) (ap live_of h.is ∙ table_is_seen p es ts x h.all.alike)

      failed_table : change.ended c.made (Some (plain e)) (change.begun a (table_with es c.made)) ≡ record { live = Fs; made = suc c.made }
      failed_table =
          ap (λ d. change.ended c.made (Some d) (change.begun a (table_with es c.made))) is
          ∙ ap (λ T. change.ended c.made (Some (error_map ResourceLimitError)) (change.begun a T)) (sym seen)
          ∙ sym (refused_is c a Itself P W f.left Was.next J.running J.errors K (error_map ResourceLimitError)
          (subst (RisesFrom 0 c.made) (sym h.is) (rises_view p 0 c.made es ts x h.numbers))
          (ap (λ us. task_in us a) h.is ∙ task_here p a i es ts x s t h.here.place h.here.status h.here.task)
          joined.control
          (first_counts P Was.next W f off.steps.first)
          (unused J joined.at))
          ∙ ap {B = Table} (λ us. record { live = us; made = suc c.made }) (ap live_of left_tasks ∙ table_is_seen p Fs Us x (all_alike Failed J.running Kept refl refl refl))

      pub refuses : GoOnSo p nodes rules c (begins_by a Itself (control_at p s t) c) (change.ended c.made (Some (plain e)) (change.begun a (table_with es c.made))) Us new
      refuses =
          subst (λ (T : Table). GoOnSo p nodes rules c (begins_by a Itself (control_at p s t) c) T Us new) (sym failed_table)
          (record {
            leads = failed_leads;
            goes_on = record {
              alike = all_alike Failed J.running Kept refl refl refl;
              stand = subst (λ hs. AllStand hs (layers_of new)) (sym (holders_same Failed J.running Kept refl refl refl)) (subst (AllStand Hs) (sym same) h.all.stand);
              limit = limit ∙ h.all.limit;
              order = λ n. subst (λ ls. IsInOrder (vars_at n ls)) (sym same) (h.all.order n);
            };
            fit = fit_all Failed J.running Kept refl refl refl;
          })

  -- ## All its branches have ended
  module _ (j : Join) (at : s.join ≡ Some j) (done : has_ended j ≡ true) where
    not_there : {A : Type 0} → is_joining t.wait ≡ false → A
    not_there e = absurd (cc (sym (ap join_of (no_join s.join NS t e) ∙ none_joined NS t e) ∙ its_alike.join ∙ at))

    stands_in : (w : Wait) → t.wait ≡ w → (box : Box Joining Global) × (t.wait ≡ wait.Joining box)
    stands_in (wait.Joining box) e = (box, e)
    stands_in wait.Awake e = not_there (ap is_joining e)
    stands_in (wait.Sleep due n) e = not_there (ap is_joining e)
    stands_in (wait.Delay due) e = not_there (ap is_joining e)
    stands_in (wait.Calling call n) e = not_there (ap is_joining e)

    module _ (box : Box Joining Global) (was : t.wait ≡ wait.Joining box) where
      there_at : JoinedAt box was
      there_at = joined_at box was

      it_is : there_at.join ≡ j
      it_is = cc (sym there_at.at ∙ at)

      ended : (nat_le j.total j.next ≡ true) × (runs_none j.running ≡ true)
      ended = and_parts (nat_le j.total j.next) (runs_none j.running) done

      none_left : is_empty (work_view (parallel_at NS box.value.node) box.value.next box.value.left) ≡ true
      none_left =
          let w = work_view (parallel_at NS box.value.node) box.value.next box.value.left in
          empty_of w box.value.next (sym (ap (λ (y : Join). nat_le y.total y.next) there_at.is) ∙ ap (λ (y : Join). nat_le y.total y.next) it_is ∙ ended.0)

      pub joins : (scene : Scene) → move scene (local c a Itself) ≡ joins_with scene (kept_by NS t.wait j.errors) (control NS (inner t.frames)) (standing_at (around_here p rules es ts x a s t) t x (control_at p s t))
      joins scene =
          let l = local c a Itself in
          let P = parallel_at NS box.value.node in
          let W = work_view P box.value.next box.value.left in
          let K = control NS (inner t.frames) in
          ap (λ k. moves scene k l) there_at.control
          ∙ ap (λ (y : Join). moves scene (Item.Join P W box.value.next y.running y.errors ∷ K) l) it_is
          ∙ ap (λ rs. moves scene (Item.Join P W box.value.next rs j.errors ∷ K) l) (none_of j.running ended.1)
          ∙ ap (λ (y : Bool). if y then model_joins scene P j.errors K l else Not) none_left
          ∙ joins_so scene P j.errors K l
          ∙ ap (λ o. joins_with scene o K l) (same_error j.errors)
          ∙ ap (joins_with scene (kept_by NS t.wait j.errors) K) (local_at p rules es ts x h.all i a s t h.here.place h.here.status h.here.task c h.is)
        where
          same_error : (fs : List (ℕ × Data)) → error_in (parallel_at NS box.value.node) fs ≡ kept_by NS t.wait fs
          same_error [] = refl
          same_error (f ∷ fs) = ap (λ w. Some (error_by NS w (f ∷ fs))) (sym was)

-- ## As laws
pub branches_join : BranchesJoin
branches_join p nodes rules es ts x i b s t c j scene h at done =
    let there = stands_in p nodes rules es ts x i b s t c h j at done t.wait refl in
    joins p nodes rules es ts x i b s t c h j at done there.0 there.1 scene

pub branch_adds : BranchAdds
branch_adds p nodes rules es ts x i a s t c u v new h so limit = adds p nodes rules es ts x i a s t c h u so.first so.parent v new so.begins.0 limit so.begins.1

pub branch_refused : BranchIsRefused
branch_refused p nodes rules es ts x i a s t c u e new h so limit unused = refuses p nodes rules es ts x i a s t c h u so.first so.parent e new limit so.begins.1 so.begins.2 so.begins.0 unused
