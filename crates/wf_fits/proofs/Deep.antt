-- How many parallel steps stand in each other, through each event.
use Rattle.std.specs.Prelude.{◌≡◌, ℕ, zero, suc, ◌+◌, ◌≤◌, ◌<◌, ◌⊎◌, Bool, true, false, List, [], ◌∷◌, ◌++◌, Some, None, Ok, Err, Option, Result, if◌then◌else◌, nat_eq, nat_lt, nat_le, length, unwrap_or}
use Rattle.std.proofs.Common.{arith}
use Rattle.std.proofs.lemmas.Bool.{cases_eq}
use Rattle.std.proofs.lemmas.Option.{same_Some}
use mathlib.Core.Logic.{inl, inr}
use mathlib.Core.Path.{refl, sym, subst, ap, ◌∙◌}
use Rattle.wf_ast.specs.Tree.{Steps, no_steps, more, LoopBody, ParallelBody, parallel, OfBranches, OfLoop, branch, no_branches, Program}
use Rattle.wf_fits.proofs.Holding as holding
use Rattle.wf_fits.proofs.Holding.{places_of}
use Rattle.wf_fits.proofs.Lifting as lifting
use Rattle.wf_fits.proofs.Totals.{Below, own_and_seen, InOrder}
use Rattle.wf_fits.proofs.Values.{ResultShallow, reply_shallow, visit_shallow}
use Rattle.wf_fits.specs.Limits.{ItemsShallow, FlowsShallow, Within, NestsFew, AreNested}
use Rattle.wf_model.proofs.After.{Leads}
use Rattle.wf_model.proofs.TaskLists.{put_rises, higher, known, put_same, put_other, drop_other, drop_same}
use Rattle.wf_model.proofs.Walk.{option_case, bool_case, when_leads}
use Rattle.wf_model.specs.Config.{Left, WorkLeft, BranchesLeft, ValuesLeft, Item, Do, Entries, Then, Loop, Try, Judge, Mark, Back, Join, Wait, Awake, Sleep, Delay, Calling, Await, Task, Call, Open, Answered, TimedOut, Outcome, Active, Returned, Raised, Cancelled, Config, After, To, Wrong, NotNow, limits, body_limit, move_limit, task_in, put_in, drop_in, task, with_task, next_of}
use Rattle.wf_model.specs.Kinds.{Plainly, ByClock, ByCall}
use Rattle.wf_model.specs.Local.{Outer, Local, Scene, End, Gives, Sends, Creates, Takes, Logs, Moved, Goes, Ends, Does, Breaks, Not, goes}
use Rattle.wf_model.specs.Move.{loop_steps, move, issue, resumed, due}
use Rattle.wf_model.specs.Ready.{call, is_due, may_begin}
use Rattle.wf_model.proofs.Counts.{next_counts}
use Rattle.wf_model.specs.Run.{main_steps, main_vars, main_task, main_local, empty, initial}
use Rattle.wf_model.specs.RunLaws.{RisesFrom, Counts}
use Rattle.wf_model.specs.Step.{stopped, one_more, counted, read_at, close, replied, replied_to, timed_out, begun, new_task, fresh, starts, starts_turn, starts_work, begins_by, when, wants, for_task, bodies_left, waiting_in, result_of, taken_by, visited, by_event, step_from, next}
use Rattle.wf_model.specs.Taken.{outside, local, log_total, nesting, scene, layer_at, put_outer, put_error, joined, without_task, finish, done, merged, by_itself}
use Rattle.wf_never_wrong.proofs.Tasks.{some_is_no}
use Rattle.wf_value.specs.Data.{Data, null, Pairs}
use Rattle.wf_value.specs.Errors.{Answer, error_map}
use Rattle.wf_value.specs.Events.{Event, Start, Visitor, Reply}
use Rattle.wf_value.specs.Decode.{json_value}
use Rattle.wf_value.specs.HttpText.{reply_result, visit_result, reply_length}
use Rattle.wf_value.specs.Queues.{ArriveFault, arrive_fault}
use Rattle.wf_value.specs.Pairs.{Text}

-- ## Controls
few_less : (a b most : ℕ) (k : List Item) → a ≤ b → NestsFew b most k → NestsFew a most k
few_less a b most [] le h = tt
few_less a b most (Do block left ∷ k) le h = few_less a b most k le h
few_less a b most (Entries es ∷ k) le h = few_less a b most k le h
few_less a b most (Then x ∷ k) le h = few_less a b most k le h
few_less a b most (Loop l w i ∷ k) le h = few_less a b most k le h
few_less a b most (Try t n d ∷ k) le h = few_less a b most k le h
few_less a b most (Judge t n d e ∷ k) le h = few_less a b most k le h
few_less a b most (Mark ∷ k) le h = few_less a b most k le h
few_less a b most (Back r ∷ k) le h = few_less a b most k le h
few_less a b most (Join body w n r es ∷ k) le h = let l = h.0 in (omega (arith, le, l), few_less a b most k le h.1)

joined_few : (a most b m : ℕ) (e : End) (k : List Item) → NestsFew a most k → NestsFew a most (joined b m e k)
joined_few a most b m e (Join body w n r es ∷ k) h = h
joined_few a most b m e [] h = h
joined_few a most b m e (i ∷ k) h = h

-- ## Depths
-- each task below a number stands in the other configuration too, with its parent
abbrev SameBelow : ℕ → Config → Config → Type 0
SameBelow m c y = (i : ℕ) (u : Task) → i < m → task_in y.tasks i ≡ Some u → (v : Task) × (task_in c.tasks i ≡ Some v) × (u.parent ≡ v.parent)

below_on : (o : Option (ℕ × ℕ)) (n m : ℕ) → n ≤ m → Below o n → Below o m
below_on None n m le l = tt
below_on (Some p) n m le l = omega (arith, le, l)

nesting_less : (m : ℕ) (c y : Config) → InOrder c → SameBelow m c y → (n : ℕ) (o : Option (ℕ × ℕ)) → Below o m → nesting n y o ≤ nesting n c o
nesting_less m c y l s zero o w = omega arith
nesting_less m c y l s (suc n) None w = omega arith
nesting_less m c y l s (suc n) (Some p) w = by (task y p.0) refl (λ o z. nesting_less m c y l s n o z)
  where
    one : (o : Option Task) → 1 ≤ elim o as (λ v. ℕ) [ None ↦ 1 | Some t ↦ suc (nesting n c t.parent) ]
    one None = omega arith
    one (Some t) = omega arith

    by : (o : Option Task) → task y p.0 ≡ o → ((q : Option (ℕ × ℕ)) → Below q m → nesting n y q ≤ nesting n c q)
        → elim o as (λ v. ℕ) [ None ↦ 1 | Some t ↦ suc (nesting n y t.parent) ] ≤ elim (task c p.0) as (λ v. ℕ) [ None ↦ 1 | Some t ↦ suc (nesting n c t.parent) ]
    by None e f = one (task c p.0)
    by (Some u) e f =
        let x = s p.0 u w e in
        let r = f x.0.parent (below_on x.0.parent p.0 m (let k = w in omega (arith, k)) (l.1 p.0 x.0 x.1)) in
        subst (λ o. suc (nesting n y u.parent) ≤ elim o as (λ v. ℕ) [ None ↦ 1 | Some t ↦ suc (nesting n c t.parent) ]) (sym x.1)
        (subst (λ q. suc (nesting n y q) ≤ suc (nesting n c x.0.parent)) (sym x.2) (omega (arith, r)))

-- ## What an event makes of the tasks
-- each task was there, with its parent, and its control is as deep as it may be there
abbrev Came : ℕ → Config → List (ℕ × Task) → Type 0
Came most c us = (n : ℕ) (u : Task) → task_in us n ≡ Some u → (v : Task) × (task_in c.tasks n ≡ Some v) × (u.parent ≡ v.parent) × NestsFew (nesting n c v.parent) most u.control

came_nested : (most : ℕ) (c y : Config) → InOrder c → Came most c y.tasks → AreNested most y
came_nested most c y l h n u e =
    let x = h n u e in
    let less = nesting_less c.made c y l (λ i w j k. let z = h i w k in (z.0, z.1, z.2)) n x.0.parent (below_on x.0.parent n c.made (let k = known 0 c.made n c.tasks x.0 l.0 x.1 in omega (arith, k)) (l.1 n x.0 x.1)) in
    subst (λ o. NestsFew (nesting n y o) most u.control) (sym x.2) (few_less (nesting n y x.0.parent) (nesting n c x.0.parent) most u.control less x.3)

came_self : (most : ℕ) (c : Config) → AreNested most c → Came most c c.tasks
came_self most c h n u e = (u, e, refl, h n u e)

came_put : (most : ℕ) (c : Config) (a : ℕ) (t u : Task) (us : List (ℕ × Task)) → task_in c.tasks a ≡ Some t → u.parent ≡ t.parent → NestsFew (nesting a c t.parent) most u.control → Came most c us → Came most c (put_in a u us)
came_put most c a t u us f p k h n w e = by (cases_eq n a)
  where
    by : (n ≡ a) ⊎ (n ≡ a → ⊥) → (v : Task) × (task_in c.tasks n ≡ Some v) × (w.parent ≡ v.parent) × NestsFew (nesting n c v.parent) most w.control
    by (inl i) =
        let same : u ≡ w = same_Some u w (sym (put_same a u us) ∙ ap (task_in (put_in a u us)) (sym i) ∙ e) in
        (t, ap (task_in c.tasks) i ∙ f, ap (λ x. x.parent) (sym same) ∙ p, subst (λ m. NestsFew (nesting m c t.parent) most w.control) (sym i) (subst (λ x. NestsFew (nesting a c t.parent) most x.control) same k))
    by (inr d) = h n w (sym (put_other a n u us d) ∙ e)

came_drop : (most : ℕ) (c : Config) (made a : ℕ) (us : List (ℕ × Task)) → RisesFrom 0 made us → Came most c us → Came most c (drop_in a us)
came_drop most c made a us r h n w e = by (cases_eq n a)
  where
    by : (n ≡ a) ⊎ (n ≡ a → ⊥) → (v : Task) × (task_in c.tasks n ≡ Some v) × (w.parent ≡ v.parent) × NestsFew (nesting n c v.parent) most w.control
    by (inl i) = some_is_no w (sym e ∙ ap (task_in (drop_in a us)) i ∙ drop_same 0 made a us r)
    by (inr d) = h n w (sym (drop_other a n us d) ∙ e)

-- layers that go back change neither
came_outer : (most : ℕ) (c : Config) (os : List Outer) (d : Config) → Came most c d.tasks → Came most c (put_outer os d).tasks
came_outer most c [] d h = h
came_outer most c (o ∷ os) d h = by (task d o.task) refl (came_outer most c os d h) (λ x i. came_outer most c os x i)
  where
    by : (w : Option Task) → task d o.task ≡ w → Came most c (put_outer os d).tasks → ((x : Config) → Came most c x.tasks → Came most c (put_outer os x).tasks)
        → Came most c (elim w as (λ v. Config) [ None ↦ put_outer os d | Some t ↦ put_outer os (with_task o.task (record t { layers = layer_at o.above o.layer t.layers }) d) ]).tasks
    by None e k g = k
    by (Some t) e k g =
        let u : Task = record t { layers = layer_at o.above o.layer t.layers } in
        let x = h o.task t e in
        g (with_task o.task u d) (came_put most c o.task x.0 u d.tasks x.1 x.2 x.3 h)

came_finish : (most : ℕ) (c : Config) (b : ℕ) (o : Option (ℕ × ℕ)) (e : End) (d : Config) → RisesFrom 0 d.made d.tasks → Came most c d.tasks → Came most c (finish b o e d).tasks
came_finish most c b None e d r h = came_drop most c d.made b d.tasks r h
came_finish most c b (Some p) e d r h = by (task d p.0) refl
  where
    by : (w : Option Task) → task d p.0 ≡ w → Came most c (elim w as (λ v. Config) [ None ↦ without_task b d | Some u ↦ with_task p.0 (record u { control = joined b p.1 e u.control }) (without_task b d) ]).tasks
    by None i = came_drop most c d.made b d.tasks r h
    by (Some u) i =
        let x = h p.0 u i in
        came_put most c p.0 x.0 (record u { control = joined b p.1 e u.control }) (drop_in b d.tasks) x.1 x.2 (joined_few (nesting p.0 c x.0.parent) most b p.1 e u.control x.3) (came_drop most c d.made b d.tasks r h)

-- ## One task's move
module _ (s : Scene) (at : List (ℕ × ℕ)) (small : FlowsShallow s.program.flows) where
  abbrev IsDeep : Type 0
  IsDeep = suc s.nesting ≤ (limits s.facts.rules).nesting

  abbrev HoldsDeep : List Item → Type 0
  HoldsDeep = holding.Holds s at small IsDeep (λ l. l)

  holds_few : (k : List Item) → ItemsShallow k → NestsFew s.nesting (limits s.facts.rules).nesting k → HoldsDeep k
  holds_few [] h f = tt
  holds_few (Do block left ∷ k) h f = holds_few k h f
  holds_few (Entries es ∷ k) h f = holds_few k h f
  holds_few (Then x ∷ k) h f = holds_few k h f
  holds_few (Loop l w i ∷ k) h f = (h.0, holds_few k h.1 f)
  holds_few (Try t n d ∷ k) h f = holds_few k h f
  holds_few (Judge t n d e ∷ k) h f = (h.0, holds_few k h.1 f)
  holds_few (Mark ∷ k) h f = holds_few k h f
  holds_few (Back r ∷ k) h f = holds_few k h f
  holds_few (Join b w n r es ∷ k) h f = (h.0, h.1, f.0, holds_few k h.2 f.1)

  few_held : (k : List Item) → HoldsDeep k → NestsFew s.nesting (limits s.facts.rules).nesting k
  few_held [] h = tt
  few_held (Do block left ∷ k) h = few_held k h
  few_held (Entries es ∷ k) h = few_held k h
  few_held (Then x ∷ k) h = few_held k h
  few_held (Loop l w i ∷ k) h = few_held k h.1
  few_held (Try t n d ∷ k) h = few_held k h
  few_held (Judge t n d e ∷ k) h = few_held k h.1
  few_held (Mark ∷ k) h = few_held k h
  few_held (Back r ∷ k) h = few_held k h
  few_held (Join b w n r es ∷ k) h = (h.2, few_held k h.3)

module _ (p : Program) (small : FlowsShallow p.flows) where
  abbrev limit_of : Config → ℕ
  limit_of c = (limits c.facts.rules).nesting

  module _ (c : Config) (linked : InOrder c) (w : Within c) (nested : AreNested (limit_of c) c) (b now : ℕ) (t : Task) (e : task_in c.tasks b ≡ Some t) where
    abbrev here : Scene
    here = scene p c b t now

    abbrev sees : List (ℕ × ℕ)
    sees = places_of (outside b c t.parent [])

    abbrev MovedDeep : ℕ → Moved → Type 0
    MovedDeep = holding.MovedWithin here sees small (IsDeep here sees small) (λ l. l)

    abbrev RestDeep : Local → Type 0
    RestDeep = holding.Rest here sees small (IsDeep here sees small) (λ l. l)

    merged_came : (m : Moved) (n : ℕ) (d : Config) → d.tasks ≡ c.tasks → d.made ≡ c.made → MovedDeep n m → Leads (λ y. Came (limit_of c) c y.tasks) (merged b t.parent m d)
    merged_came (Goes l) n d i j g =
        let u : Task = record t { control = l.control; layers = l.layers; wait = l.wait } in
        let found : task_in d.tasks b ≡ Some t = ap (λ ts. task_in ts b) i ∙ e in
        subst (λ o. Came (limit_of c) c (elim o as (λ v. Config) [ None ↦ d | Some v ↦ put_outer l.outer (with_task b (record v { control = l.control; layers = l.layers; wait = l.wait }) d) ]).tasks) (sym found)
        (came_outer (limit_of c) c l.outer (with_task b u d) (came_put (limit_of c) c b t u d.tasks e refl (few_held here sees small l.control g.0) (subst (Came (limit_of c) c) (sym i) (came_self (limit_of c) c nested))))
    merged_came (Ends x l) n d i j g =
        let back = lifting.put_outer_back l.outer d g.1.outers (subst lifting.TasksShallow (sym i) w.tasks) (subst (λ m. RisesFrom 0 m d.tasks) (sym j) (subst (RisesFrom 0 c.made) (sym i) linked.0)) in
        came_finish (limit_of c) c b t.parent x (put_outer l.outer d) back.rises (came_outer (limit_of c) c l.outer d (subst (Came (limit_of c) c) (sym i) (came_self (limit_of c) c nested)))
    merged_came (Does (Sends q due) m) n d i j g = merged_came m n (done b (Sends q due) d) i j g
    merged_came (Does (Creates x) m) n d i j g = merged_came m n (done b (Creates x) d) i j g
    merged_came (Does (Takes x) m) n d i j g = merged_came m n (done b (Takes x) d) i j g
    merged_came (Does (Logs severity v) m) n d i j g = merged_came m (n + _) (done b (Logs severity v) d) i j g.2
    merged_came (Breaks k) n d i j g = tt
    merged_came Not n d i j g = tt

    -- what the move reads
    rest_now : RestDeep (local c b t)
    rest_now =
        let room = own_and_seen c linked.1 b t e in
        let all = w.total in
        record { layers = (w.tasks b t e).1; outers = lifting.outside_shallow c w.tasks b t.parent []; total = omega (arith, room, all); places = refl }

    moved_few : (m : Moved) → MovedDeep here.logged m → Leads (AreNested (limit_of c)) (merged b t.parent m c)
    moved_few m g = on (merged b t.parent m c) (merged_came m here.logged c refl refl g)
      where
        on : (a : After) → Leads (λ y. Came (limit_of c) c y.tasks) a → Leads (AreNested (limit_of c)) a
        on (To y) h = came_nested (limit_of c) c y linked h
        on (Wrong k) h = tt
        on NotNow h = tt

    held_now : HoldsDeep here sees small t.control
    held_now = holds_few here sees small t.control (w.tasks b t e).0 (nested b t e)

  abbrev Good : Config → Type 0
  Good c = InOrder c × Within c × AreNested (limit_of c) c

  abbrev Few : Config → Config → Type 0
  Few c = AreNested (limit_of c)

  by_itself_few : (b now : ℕ) (f : Scene → Local → Moved) (c : Config) → (g : Good c)
      → ((t : Task) (e : task_in c.tasks b ≡ Some t) → MovedDeep c g.0 g.1 g.2 b now t e (log_total c.log) (f (scene p c b t now) (local c b t)))
      → Leads (Few c) (by_itself p b now f c)
  by_itself_few b now f c g h = by (task c b) refl
    where
      by : (o : Option Task) → task c b ≡ o → Leads (Few c) (elim o as (λ v. After) [ None ↦ NotNow | Some t ↦ merged b t.parent (f (scene p c b t now) (local c b t)) c ])
      by None e = tt
      by (Some t) e = moved_few c g.0 g.1 g.2 b now t e (f (scene p c b t now) (local c b t)) (h t e)

  move_few : (b now : ℕ) (c : Config) → Good c → Leads (Few c) (by_itself p b now move c)
  move_few b now c g = by_itself_few b now move c g λ t e.
      let s = scene p c b t now in let at = places_of (outside b c t.parent []) in
      holding.move_within s at small (IsDeep s at small) (λ l. l) (local c b t) (held_now c g.0 g.1 g.2 b now t e) (rest_now c g.0 g.1 g.2 b now t e)

  issue_few : (b now : ℕ) (c : Config) → Good c → Leads (Few c) (by_itself p b now issue c)
  issue_few b now c g = by_itself_few b now issue c g λ t e.
      let s = scene p c b t now in let at = places_of (outside b c t.parent []) in
      holding.issue_within s at small (IsDeep s at small) (λ l. l) (local c b t) (held_now c g.0 g.1 g.2 b now t e) (rest_now c g.0 g.1 g.2 b now t e)

  due_few : (b now : ℕ) (c : Config) → Good c → Leads (Few c) (by_itself p b now due c)
  due_few b now c g = by_itself_few b now due c g λ t e.
      let s = scene p c b t now in let at = places_of (outside b c t.parent []) in
      holding.due_within s at small (IsDeep s at small) (λ l. l) (local c b t) (held_now c g.0 g.1 g.2 b now t e) (rest_now c g.0 g.1 g.2 b now t e)

  resumed_few : (b : ℕ) (x : Local → Option Text) (a : Result Data Data) (c : Config) → ResultShallow a → Good c → Leads (Few c) (by_itself p b 0 (λ s l. resumed s (x l) a l) c)
  resumed_few b x a c y g = by_itself_few b 0 (λ s l. resumed s (x l) a l) c g λ t e.
      let s = scene p c b t 0 in let at = places_of (outside b c t.parent []) in
      holding.resumed_within s at small (IsDeep s at small) (λ l. l) (x (local c b t)) a (local c b t) y (held_now c g.0 g.1 g.2 b 0 t e) (rest_now c g.0 g.1 g.2 b 0 t e)

  -- ## Branches that begin
  -- as deep in one configuration as in another with the same old tasks
  module _ (c : Config) (g : Good c) (a : ℕ) (t : Task) (e : task c a ≡ Some t) where
    a_less : a < c.made
    a_less = known 0 c.made a c.tasks t g.0.0 e

    abbrev NewCame : List (ℕ × Task) → Type 0
    NewCame us = (n : ℕ) (u : Task) → task_in us n ≡ Some u → ((v : Task) × (task_in c.tasks n ≡ Some v) × (u.parent ≡ v.parent) × NestsFew (nesting n c v.parent) (limit_of c) u.control) ⊎ ((n ≡ c.made) × ((d : ℕ) → NestsFew d (limit_of c) u.control))

    new_nested : (y : Config) → NewCame y.tasks → Few c y
    new_nested y h n u e = by (h n u e)
      where
        same : (i : ℕ) (w : Task) → i < c.made → task_in y.tasks i ≡ Some w → (v : Task) × (task_in c.tasks i ≡ Some v) × (w.parent ≡ v.parent)
        same i w l k = on (h i w k)
          where
            no : i ≡ c.made → i < c.made → ⊥
            no j m = omega (arith, j, m)

            on : ((v : Task) × (task_in c.tasks i ≡ Some v) × (w.parent ≡ v.parent) × NestsFew (nesting i c v.parent) (limit_of c) w.control) ⊎ ((i ≡ c.made) × ((d : ℕ) → NestsFew d (limit_of c) w.control)) → (v : Task) × (task_in c.tasks i ≡ Some v) × (w.parent ≡ v.parent)
            on (inl x) = (x.0, x.1, x.2)
            on (inr x) = absurd (no x.0 l)

        by : ((v : Task) × (task_in c.tasks n ≡ Some v) × (u.parent ≡ v.parent) × NestsFew (nesting n c v.parent) (limit_of c) u.control) ⊎ ((n ≡ c.made) × ((d : ℕ) → NestsFew d (limit_of c) u.control)) → NestsFew (nesting n y u.parent) (limit_of c) u.control
        by (inl x) =
            let less = nesting_less c.made c y g.0 same n x.0.parent (below_on x.0.parent n c.made (let k = known 0 c.made n c.tasks x.0 g.0.0 x.1 in omega (arith, k)) (g.0.1 n x.0 x.1)) in
            subst (λ o. NestsFew (nesting n y o) (limit_of c) u.control) (sym x.2) (few_less (nesting n y x.0.parent) (nesting n c x.0.parent) (limit_of c) u.control less x.3)
        by (inr x) = x.1 (nesting n y u.parent)

    old_came : (us : List (ℕ × Task)) → Came (limit_of c) c us → NewCame us
    old_came us h n u e = inl (h n u e)

    new_put : (u : Task) (us : List (ℕ × Task)) → ((d : ℕ) → NestsFew d (limit_of c) u.control) → NewCame us → NewCame (put_in c.made u us)
    new_put u us k h n w e = by (cases_eq n c.made)
      where
        by : (n ≡ c.made) ⊎ (n ≡ c.made → ⊥) → ((v : Task) × (task_in c.tasks n ≡ Some v) × (w.parent ≡ v.parent) × NestsFew (nesting n c v.parent) (limit_of c) w.control) ⊎ ((n ≡ c.made) × ((d : ℕ) → NestsFew d (limit_of c) w.control))
        by (inl i) = inr (i, λ d. subst (λ x. NestsFew d (limit_of c) x.control) (same_Some u w (sym (put_same c.made u us) ∙ ap (task_in (put_in c.made u us)) (sym i) ∙ e)) (k d))
        by (inr d) = h n w (sym (put_other c.made n u us d) ∙ e)

    old_put : (x u : Task) (us : List (ℕ × Task)) → task_in c.tasks a ≡ Some x → u.parent ≡ x.parent → NestsFew (nesting a c x.parent) (limit_of c) u.control → NewCame us → NewCame (put_in a u us)
    old_put x u us f p k h n w e = by (cases_eq n a)
      where
        by : (n ≡ a) ⊎ (n ≡ a → ⊥) → ((v : Task) × (task_in c.tasks n ≡ Some v) × (w.parent ≡ v.parent) × NestsFew (nesting n c v.parent) (limit_of c) w.control) ⊎ ((n ≡ c.made) × ((d : ℕ) → NestsFew d (limit_of c) w.control))
        by (inl i) =
            let same : u ≡ w = same_Some u w (sym (put_same a u us) ∙ ap (task_in (put_in a u us)) (sym i) ∙ e) in
            inl (x, ap (task_in c.tasks) i ∙ f, ap (λ z. z.parent) (sym same) ∙ p, subst (λ m. NestsFew (nesting m c x.parent) (limit_of c) w.control) (sym i) (subst (λ z. NestsFew (nesting a c x.parent) (limit_of c) z.control) same k))
        by (inr d) = h n w (sym (put_other a n u us d) ∙ e)

    new_drop : (made : ℕ) (us : List (ℕ × Task)) → RisesFrom 0 made us → NewCame us → NewCame (drop_in c.made us)
    new_drop made us r h n w e = by (cases_eq n c.made)
      where
        by : (n ≡ c.made) ⊎ (n ≡ c.made → ⊥) → ((v : Task) × (task_in c.tasks n ≡ Some v) × (w.parent ≡ v.parent) × NestsFew (nesting n c v.parent) (limit_of c) w.control) ⊎ ((n ≡ c.made) × ((d : ℕ) → NestsFew d (limit_of c) w.control))
        by (inl i) = some_is_no w (sym e ∙ ap (task_in (drop_in c.made us)) i ∙ drop_same 0 made c.made us r)
        by (inr d) = h n w (sym (drop_other c.made n us d) ∙ e)

    module _ (body : ParallelBody) (left : WorkLeft) (n : ℕ) (k : List Item) (few : NestsFew (nesting a c t.parent) (limit_of c) (Join body left n [] [] ∷ k)) where
      abbrev goes_on : List ℕ → List (ℕ × Data) → Task
      goes_on running es = record t { control = Join body left (suc n) running es ∷ k }

      begun_came : (running : List ℕ) (es : List (ℕ × Data)) → Came (limit_of c) c (put_in a (goes_on running es) c.tasks)
      begun_came running es = came_put (limit_of c) c a t (goes_on running es) c.tasks e refl few (came_self (limit_of c) c g.2)

      begun_rises : (running : List ℕ) (es : List (ℕ × Data)) → RisesFrom 0 (suc c.made) (put_in c.made (new_task a n) (put_in a (goes_on running es) c.tasks))
      begun_rises running es =
          put_rises 0 (suc c.made) c.made (new_task a n) (put_in a (goes_on running es) c.tasks) (omega arith) (omega arith)
          (higher 0 c.made (suc c.made) (put_in a (goes_on running es) c.tasks) (omega arith) (put_rises 0 c.made a (goes_on running es) c.tasks (omega arith) a_less g.0.0))

      started : (ss : Steps) (ps : Pairs) (running : List ℕ) (es : List (ℕ × Data)) → Leads (Few c) (merged c.made (Some (a, n)) (goes (Do ss ss ∷ []) (fresh ps)) (with_task c.made (new_task a n) (begun a t body left n running es k c)))
      started no_steps ps running es = by (task (with_task c.made (new_task a n) (begun a t body left n running es k c)) a) refl
        where
          there : NewCame (put_in c.made (new_task a n) (put_in a (goes_on running es) c.tasks))
          there = new_put (new_task a n) (put_in a (goes_on running es) c.tasks) (λ z. tt) (old_came (put_in a (goes_on running es) c.tasks) (begun_came running es))

          gone : NewCame (drop_in c.made (put_in c.made (new_task a n) (put_in a (goes_on running es) c.tasks)))
          gone = new_drop (suc c.made) (put_in c.made (new_task a n) (put_in a (goes_on running es) c.tasks)) (begun_rises running es) there

          no : a ≡ c.made → a < c.made → ⊥
          no j m = omega (arith, j, m)

          on : (v : Task) → ((x : Task) × (task_in c.tasks a ≡ Some x) × (v.parent ≡ x.parent) × NestsFew (nesting a c x.parent) (limit_of c) v.control) ⊎ ((a ≡ c.made) × ((z : ℕ) → NestsFew z (limit_of c) v.control))
              → Few c (with_task a (record v { control = joined c.made n (Gives null) v.control }) (without_task c.made (with_task c.made (new_task a n) (begun a t body left n running es k c))))
          on v (inl x) =
              new_nested (with_task a (record v { control = joined c.made n (Gives null) v.control }) (without_task c.made (with_task c.made (new_task a n) (begun a t body left n running es k c))))
              (old_put x.0 (record v { control = joined c.made n (Gives null) v.control }) (drop_in c.made (put_in c.made (new_task a n) (put_in a (goes_on running es) c.tasks))) x.1 x.2 (joined_few (nesting a c x.0.parent) (limit_of c) c.made n (Gives null) v.control x.3) gone)
          on v (inr x) = absurd (no x.0 a_less)

          by : (o : Option Task) → task (with_task c.made (new_task a n) (begun a t body left n running es k c)) a ≡ o
              → Few c (elim o as (λ v. Config) [ None ↦ without_task c.made (with_task c.made (new_task a n) (begun a t body left n running es k c)) | Some v ↦ with_task a (record v { control = joined c.made n (Gives null) v.control }) (without_task c.made (with_task c.made (new_task a n) (begun a t body left n running es k c))) ])
          by None i = new_nested (without_task c.made (with_task c.made (new_task a n) (begun a t body left n running es k c))) gone
          by (Some v) i = on v (there a v i)
      started (more q qs) ps running es =
          let us = put_in a (goes_on running es) c.tasks in
          let u : Task = record (new_task a n) { control = Do (more q qs) (more q qs) ∷ []; layers = record { vars = ps; by_call = false } ∷ []; wait = Awake } in
          let d = with_task c.made (new_task a n) (begun a t body left n running es k c) in
          subst (λ x. Few c (elim x as (λ v. Config) [ None ↦ d | Some v ↦ with_task c.made (record v { control = Do (more q qs) (more q qs) ∷ []; layers = record { vars = ps; by_call = false } ∷ []; wait = Awake }) d ])) (sym (put_same c.made (new_task a n) us))
          (new_nested (with_task c.made u d) (new_put u (put_in c.made (new_task a n) us) (λ z. tt) (new_put (new_task a n) us (λ z. tt) (old_came us (begun_came running es)))))

      starts_few : (ss : Steps) (r : Answer Pairs) (running : List ℕ) (es : List (ℕ × Data)) → Leads (Few c) (starts a t body left n running es k ss r c)
      starts_few ss (Ok ps) running es = started ss ps (running ++ c.made ∷ []) es
      starts_few ss (Err x) running es = new_nested (begun a t body left n running (put_error n (error_map x) es) k c) (old_came (put_in a (goes_on running (put_error n (error_map x) es)) c.tasks) (begun_came running (put_error n (error_map x) es)))

    turn_few : (body : ParallelBody) (l : LoopBody) (o : Option (Data × Left)) (n : ℕ) (running : List ℕ) (es : List (ℕ × Data)) (k : List Item) → NestsFew (nesting a c t.parent) (limit_of c) (Join body (BranchesLeft no_branches) n [] [] ∷ k) → Leads (Few c) (starts_turn a t body l o n running es k c)
    turn_few body l None n running es k f = tt
    turn_few body l (Some v) n running es k f = starts_few body (ValuesLeft v.1) n k f (loop_steps l) _ running es

    work_few : (body : ParallelBody) (left : WorkLeft) (n : ℕ) (running : List ℕ) (es : List (ℕ × Data)) (k : List Item) → NestsFew (nesting a c t.parent) (limit_of c) (Join body (BranchesLeft no_branches) n [] [] ∷ k) → Leads (Few c) (starts_work a t body left n running es k c)
    work_few body (BranchesLeft (branch x ss bs)) n running es k f = starts_few body (BranchesLeft bs) n k f ss (Ok Pairs.no_pairs) running es
    work_few (parallel names limit (OfLoop l)) (BranchesLeft no_branches) n running es k f = tt
    work_few (parallel names limit (OfBranches bs)) (BranchesLeft no_branches) n running es k f = tt
    work_few (parallel names limit (OfLoop l)) (ValuesLeft left) n running es k f = turn_few (parallel names limit (OfLoop l)) l (next_of left) n running es k f
    work_few (parallel names limit (OfBranches bs)) (ValuesLeft left) n running es k f = tt

    begins_from : (k : List Item) → NestsFew (nesting a c t.parent) (limit_of c) k → Leads (Few c) (begins_by a t k c)
    begins_from (Join body left n running es ∷ k) f = work_few body left n running es k f
    begins_from [] f = tt
    begins_from (i ∷ k) f = tt

    begins_few : Leads (Few c) (begins_by a t t.control c)
    begins_few = begins_from t.control (g.2 a t e)

  -- ## Events
  same_few : (m : ℕ) (c d : Config) → d.tasks ≡ c.tasks → InOrder c → AreNested m c → AreNested m d
  same_few m c d e l h = came_nested m c d l (subst (Came m c) (sym e) (came_self m c h))

  again : (c d : Config) → d.tasks ≡ c.tasks → d.made ≡ c.made → InOrder c → InOrder d
  again c d e i l = (
    subst (λ m. RisesFrom 0 m d.tasks) (sym i) (subst (RisesFrom 0 c.made) (sym e) l.0),
    λ b t f. l.1 b t (sym (ap (λ ts. task_in ts b) e) ∙ f),
  )

  good_again : (c d : Config) → d.tasks ≡ c.tasks → d.made ≡ c.made → d.facts ≡ c.facts → Within d → Good c → Good d
  good_again c d e i f w g = (again c d e i g.0, w, subst (λ x. AreNested (limits x.rules).nesting d) (sym f) (same_few (limit_of c) c d e g.0 g.2))

  counted_few : (c : Config) (f : Config → After) → Good c → (Good (one_more c) → Leads (Few c) (f (one_more c))) → Leads (Few c) (counted c f)
  counted_few c f g h =
      let w : Within (one_more c) = record { tasks = g.1.tasks; total = g.1.total; log = g.1.log; logged = g.1.logged; outcome = g.1.outcome } in
      bool_case (Leads (Few c)) (nat_lt (suc c.moves) move_limit) (f (one_more c)) (To (stopped (one_more c))) (λ e. h (good_again c (one_more c) refl refl refl w g)) (λ e. same_few (limit_of c) c (stopped (one_more c)) refl g.0 g.2)

  close_good : (n : ℕ) (x : Call) (c : Config) → Good c → Good (close n x c)
  close_good zero x c g = g
  close_good (suc n) x c g = good_again c (close (suc n) x c) refl refl refl (record { tasks = g.1.tasks; total = g.1.total; log = g.1.log; logged = g.1.logged; outcome = g.1.outcome }) g

  close_facts : (n : ℕ) (x : Call) (c : Config) → (close n x c).facts ≡ c.facts
  close_facts zero x c = refl
  close_facts (suc n) x c = refl

  timed_good : (w : Wait) (c : Config) → Good c → Good (timed_out w c)
  timed_good Awake c g = g
  timed_good (Sleep d r) c g = g
  timed_good (Delay d) c g = g
  timed_good (Calling n r) c g = close_good n TimedOut c g
  timed_good (Await n d r) c g = g

  timed_facts : (w : Wait) (c : Config) → (timed_out w c).facts ≡ c.facts
  timed_facts Awake c = refl
  timed_facts (Sleep d r) c = refl
  timed_facts (Delay d) c = refl
  timed_facts (Calling n r) c = close_facts n TimedOut c
  timed_facts (Await n d r) c = refl

  by_facts : (c d : Config) (a : After) → d.facts ≡ c.facts → Leads (Few d) a → Leads (Few c) a
  by_facts c d a e h = subst (λ x. Leads (AreNested (limits x.rules).nesting) a) e h

  read_good : (r : ℕ) (c : Config) → Good c → Good (read_at r c)
  read_good r c g = good_again c (read_at r c) refl refl refl (record { tasks = g.1.tasks; total = g.1.total; log = g.1.log; logged = g.1.logged; outcome = g.1.outcome }) g

  replied_few : (n : ℕ) (a : Reply) (b : ℕ) (w : Wait) (c : Config) → Good c → Leads (Few c) (replied p n a b w c)
  replied_few n a b Awake c g = tt
  replied_few n a b (Sleep d r) c g = tt
  replied_few n a b (Delay d) c g = tt
  replied_few n a b (Await m d r) c g = tt
  replied_few n a b (Calling m r) c g =
      let d = record c { bodies = c.bodies + reply_length a } in
      let x = close_good n Answered d (good_again c d refl refl refl (record { tasks = g.1.tasks; total = g.1.total; log = g.1.log; logged = g.1.logged; outcome = g.1.outcome }) g) in
      bool_case (Leads (Few c)) (nat_le (c.bodies + reply_length a) body_limit) (by_itself p b 0 (λ s l. resumed s r (reply_result a) l) (close n Answered d)) (To (stopped c))
      (λ e. by_facts c (close n Answered d) (by_itself p b 0 (λ s l. resumed s r (reply_result a) l) (close n Answered d)) (close_facts n Answered d) (resumed_few b (λ l. r) (reply_result a) (close n Answered d) (reply_shallow a) x))
      (λ e. same_few (limit_of c) c (stopped c) refl g.0 g.2)

  replied_to_few : (n : ℕ) (a : Reply) (x : Call) (c : Config) → Good c → Leads (Few c) (replied_to p n a x c)
  replied_to_few n a (Open b q d) c g = option_case (Leads (Few c)) (task c b) NotNow (λ t. replied p n a b t.wait c) tt (λ t. replied_few n a b t.wait c g)
  replied_to_few n a Answered c g = tt
  replied_to_few n a TimedOut c g = tt

  taken_few : (n : ℕ) (v : Visitor) (o : Option ℕ) (c : Config) → Good c → Leads (Few c) (taken_by p n v o c)
  taken_few n v None c g = same_few (limit_of c) c _ refl g.0 g.2
  taken_few n v (Some b) c g = resumed_few b (λ l. result_of l.wait) (visit_result v) c (visit_shallow v) g

  visited_few : (n : ℕ) (v : Visitor) (o : Option ArriveFault) (c : Config) → Good c → Leads (Few c) (visited p n v o c)
  visited_few n v (Some f) c g = tt
  visited_few n v None c g =
      let d = record c { bodies = c.bodies + length v.body } in
      taken_few n v (waiting_in n c.tasks) d (good_again c d refl refl refl (record { tasks = g.1.tasks; total = g.1.total; log = g.1.log; logged = g.1.logged; outcome = g.1.outcome }) g)

  for_task_few : (m : ℕ) (c : Config) (b : ℕ) (test : Task → Bool) (f : Task → After) → ((t : Task) → task c b ≡ Some t → Leads (AreNested m) (f t)) → Leads (AreNested m) (for_task c b test f)
  for_task_few m c b test f g = by (task c b) refl
    where
      by : (o : Option Task) → task c b ≡ o → Leads (AreNested m) (elim o as (λ v. After) [ None ↦ NotNow | Some t ↦ when (test t) (f t) ])
      by None e = tt
      by (Some t) e = when_leads (AreNested m) (test t) (f t) (λ i. g t e)

  by_event_few : (c : Config) (e : Event) → Good c → Leads (Few c) (by_event p c e)
  by_event_few c (Event.Move b) g = for_task_few (limit_of c) c b (wants p Plainly) _ λ t e. counted_few c (by_itself p b 0 move) g λ h. move_few b 0 (one_more c) h
  by_event_few c (Event.MoveAt b r) g =
      when_leads (Few c) (nat_le c.last r) _ λ l. for_task_few (limit_of c) c b (wants p ByClock) _ λ t e. counted_few (read_at r c) (by_itself p b r move) (read_good r c g) λ h. move_few b r (one_more (read_at r c)) h
  by_event_few c (Event.Begin b) g = for_task_few (limit_of c) c b may_begin _ λ t e. counted_few c (begins_by b t t.control) g λ h. begins_few (one_more c) h b t e
  by_event_few c (Event.Issue b r) g =
      when_leads (Few c) (nat_le c.last r) _ λ l. for_task_few (limit_of c) c b (wants p ByCall) _ λ t e. counted_few (read_at r c) (by_itself p b r issue) (read_good r c g) λ h. issue_few b r (one_more (read_at r c)) h
  by_event_few c (Event.Answer n r a) g = when_leads (Few c) (nat_le c.last r) _ λ l. replied_to_few n a (call c n) (read_at r c) (read_good r c g)
  by_event_few c (Event.Due b r) g =
      when_leads (Few c) (nat_le c.last r) _ λ l. for_task_few (limit_of c) c b (λ t. is_due c r t.wait) _ λ t e.
      by_facts c (timed_out t.wait (read_at r c)) (by_itself p b r due (timed_out t.wait (read_at r c))) (timed_facts t.wait (read_at r c)) (due_few b r (timed_out t.wait (read_at r c)) (timed_good t.wait (read_at r c) (read_good r c g)))
  by_event_few c (Event.Arrive n r v) g = when_leads (Few c) (nat_le c.last r) _ λ l. visited_few n v (arrive_fault c.endpoints n v (bodies_left c)) (read_at r c) (read_good r c g)
  by_event_few c (Event.Cancel r) g = when_leads (Few c) (nat_le c.last r) _ λ l. same_few (limit_of c) c _ refl g.0 g.2

  step_few : (o : Outcome) (c : Config) (e : Event) → Good c → Leads (Few c) (step_from o p c e)
  step_few Active c e g = by_event_few c e g
  step_few (Returned v) c e g = tt
  step_few (Raised v) c e g = tt
  step_few Cancelled c e g = tt

  pub steps_few : (c : Config) (e : Event) → Good c → Leads (Few c) (next p c e)
  steps_few c e g = step_few c.outcome c e g

  -- of its own rules
  abbrev pub NestedNow : Config → Type 0
  NestedNow c = AreNested (limit_of c) c

  pub steps_nested : (c : Config) (e : Event) → Good c → Leads NestedNow (next p c e)
  steps_nested c e g = by (next p c e) (next_counts p c e) (steps_few c e g)
    where
      by : (a : After) → Leads (Counts c) a → Leads (Few c) a → Leads NestedNow a
      by (To d) n h = subst (λ x. AreNested (limits x.rules).nesting d) (sym n.facts) h
      by (Wrong k) n h = tt
      by NotNow n h = tt

  first_by : (ss : Steps) (v : Data) (s : Start) → Leads NestedNow (merged 0 None (goes (Do ss ss ∷ []) (main_local p v)) (empty s))
  first_by no_steps v s = λ b t e. some_is_no t (sym e)
  first_by (more q qs) v s = λ b t e. one b t (nat_eq 0 b) e
    where
      one : (b : ℕ) (t : Task) (is_first : Bool) → (if is_first then Some (record main_task { control = Do (more q qs) (more q qs) ∷ []; layers = record { vars = main_vars p.flows v; by_call = false } ∷ []; wait = Awake }) else None) ≡ Some t
          → NestsFew (nesting b (with_task 0 (record main_task { control = Do (more q qs) (more q qs) ∷ []; layers = record { vars = main_vars p.flows v; by_call = false } ∷ []; wait = Awake }) (empty s)) t.parent) (limits s.rules).nesting t.control
      one b t true e =
          subst (λ x. NestsFew (nesting b (with_task 0 (record main_task { control = Do (more q qs) (more q qs) ∷ []; layers = record { vars = main_vars p.flows v; by_call = false } ∷ []; wait = Awake }) (empty s)) x.parent) (limits s.rules).nesting x.control)
          (same_Some (record main_task { control = Do (more q qs) (more q qs) ∷ []; layers = record { vars = main_vars p.flows v; by_call = false } ∷ []; wait = Awake }) t e) tt
      one b t false e = some_is_no t (sym e)

  pub first_nested : (s : Start) → Leads NestedNow (initial p s)
  first_nested s = first_by (main_steps p.flows) (unwrap_or (json_value s.argument) null) s
