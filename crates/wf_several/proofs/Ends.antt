-- Branches that end among the tasks of a machine.
--     dropped_same      without a task, the others are as its move leaves them
--     control_joined    the parallel step of its parent
--     branch_gone       the branch has ended
use Rattle.std.proofs.Common.{◌≡◌, inl, inr, ℕ, suc, ◌<◌, Bool, true, false, List, [], ◌∷◌, Option, Some, None, refl, sym, ap, subst, ◌∙◌, arith}
use Rattle.std.specs.List.{remove}
use Rattle.std.specs.Prelude.{if◌then◌else◌, nat_eq, option_map, slice_get, slice_set}
use Rattle.std.proofs.lemmas.Bool.{cases_eq, eqb-true, ne_eqb}
use Rattle.wf_ast.specs.Tree.{Program, parallel}
use Rattle.wf_branches.proofs.Rising.{drop_at, drop_rises, found_at, put_at, set_rises}
use Rattle.wf_branches.specs.Changes as change
use Rattle.wf_branches.specs.Changes.{joined_in, kept_in, on_join}
use Rattle.wf_branches.specs.Steps.{error_of, join_of}
use Rattle.wf_branches.specs.Table as table
use Rattle.wf_branches.specs.Table.{Join, Status, Table, rise}
use Rattle.wf_frames.proofs.Stores.{order_closed}
use Rattle.wf_frames.specs.Frames.{control, inner, own, owned}
use Rattle.wf_frames.specs.Owned.{IsLinked, own_of}
use Rattle.wf_frames.specs.Tasks.{Own}
use Rattle.wf_model.specs.Config as model
use Rattle.wf_model.specs.Config.{Config, Item, To, drop_in, put_in, task, task_in, with_task}
use Rattle.wf_model.specs.Local.{End, Fails, Gives, Local, Outer}
use Rattle.wf_model.specs.RunLaws.{RisesFrom}
use Rattle.wf_model.specs.Spots.{spots}
use Rattle.wf_model.specs.Taken.{finish, joined, kept_error, put_back, put_outer, step_shares, without_task}
use Rattle.wf_model.specs.declared.node.Node.{Node}
use Rattle.wf_moves.specs.Waits.{control_in, task_local}
use Rattle.wf_moves.specs.declared.task.Task.{Task}
use Rattle.wf_moves.specs.declared.wait.Wait.TheVariants as wait
use Rattle.wf_scope.proofs.Kept.{find_closed}
use Rattle.wf_scope.specs.Layers.{Layer, closed, find, rises, vars_at}
use Rattle.wf_scope.specs.Store.{layers_of}
use Rattle.wf_scope.specs.declared.scopes.Scopes.{Scopes}
use Rattle.wf_several.proofs.After.{outer_only, task_leaves}
use Rattle.wf_several.proofs.Here.{alike_moved, holder_here, holders_moved, place_of, task_here}
use Rattle.wf_several.proofs.Lists.{Place, alike_at, alike_remove, fit_remove, get_remove, get_set, get_set_past, get_there, holder_place, holders_remove, remove_set, same_own, set_remove, set_there, stands_before, view_drop, view_put, view_remove, view_set, views_stay}
use Rattle.wf_several.proofs.Merges.{Rise, agree, back_numbers, firsts, none_below, outer_numbers, rise_of}
use Rattle.wf_several.proofs.Sees.{none_is_alike}
use Rattle.wf_several.proofs.Standing.{rises_view}
use Rattle.wf_several.specs.Branches.{BranchIsGone, GoOnSo, StandsHere, table_with}
use Rattle.wf_several.specs.Here.{IsPlace, LeavesSo, around_here, status_behind}
use Rattle.wf_several.specs.Standing.{AllFitAt}
use Rattle.wf_several.specs.Several.{AllGoOn, AreAlike, IsAlike, control_at, holder_of, holders_of, plain_around, task_view, tasks_view, with_join}
use Rattle.wf_stores.proofs.Branches.{branch_ends, closed_none}
use Rattle.wf_stores.proofs.Merging.{outer_none, outer_some, put_other}
use Rattle.wf_stores.specs.Holders.{AllStand, Holder, HasParent, IsChildless, holder_in, with_own}
use Rattle.wf_stores.specs.Steps.{parent_number}
use Rattle.wf_value.specs.Data.{Data}
use Rattle.wf_value.specs.Maps.{IsInOrder}
use Rattle.wf_value.specs.Pairs.{Text}

-- ## Without one task
firsts_drop : (b : ℕ) (ts us : List (ℕ × model.Task)) → firsts ts ≡ firsts us → firsts (drop_in b ts) ≡ firsts (drop_in b us)
firsts_drop b [] [] e = refl
firsts_drop b [] (u ∷ us) e = absurd (cc e)
firsts_drop b (t ∷ ts) [] e = absurd (cc e)
firsts_drop b (t ∷ ts) (u ∷ us) e = by (nat_eq t.0 b) refl (firsts_drop b ts us (cc e))
  where
    one : t.0 ≡ u.0
    one = cc e

    more : firsts ts ≡ firsts us
    more = cc e

    by : (y : Bool) → nat_eq t.0 b ≡ y → firsts (drop_in b ts) ≡ firsts (drop_in b us) → firsts (if nat_eq t.0 b then ts else t ∷ drop_in b ts) ≡ firsts (if nat_eq u.0 b then us else u ∷ drop_in b us)
    by true is later =
        ap (λ (y : Bool). firsts (if y then ts else t ∷ drop_in b ts)) is ∙ more
        ∙ sym (ap (λ (y : Bool). firsts (if y then us else u ∷ drop_in b us)) (ap (λ (n : ℕ). nat_eq n b) (sym one) ∙ is))
    by false is later =
        ap (λ (y : Bool). firsts (if y then ts else t ∷ drop_in b ts)) is
        ∙ ap (λ (n : ℕ). n ∷ firsts (drop_in b ts)) one ∙ ap (λ ns. u.0 ∷ ns) later
        ∙ sym (ap (λ (y : Bool). firsts (if y then us else u ∷ drop_in b us)) (ap (λ (n : ℕ). nat_eq n b) (sym one) ∙ is))

lower_rise : (low from : ℕ) (ns : List ℕ) → low < from → Rise from ns → Rise low ns
lower_rise low from [] lt r = tt
lower_rise low from (n ∷ ns) lt r = (let first = r.0 in omega (arith, first, lt), r.1)

rise_drop : (low b : ℕ) (ts : List (ℕ × model.Task)) → Rise low (firsts ts) → Rise low (firsts (drop_in b ts))
rise_drop low b [] r = tt
rise_drop low b (t ∷ ts) r = by (nat_eq t.0 b) (rise_drop (suc t.0) b ts r.1)
  where
    by : (y : Bool) → Rise (suc t.0) (firsts (drop_in b ts)) → Rise low (firsts (if y then ts else t ∷ drop_in b ts))
    by true later = lower_rise low (suc t.0) (firsts ts) (let first = r.0 in omega (arith, first)) r.1
    by false later = (r.0, later)

drop_other : (b i : ℕ) (ts : List (ℕ × model.Task)) → (i ≡ b → ⊥) → task_in (drop_in b ts) i ≡ task_in ts i
drop_other b i [] d = refl
drop_other b i (t ∷ ts) d = by (nat_eq t.0 b) refl (drop_other b i ts d)
  where
    by : (y : Bool) → nat_eq t.0 b ≡ y → task_in (drop_in b ts) i ≡ task_in ts i → task_in (if y then ts else t ∷ drop_in b ts) i ≡ (if nat_eq t.0 i then Some t.1 else task_in ts i)
    by true is later = sym (ap (λ (y : Bool). if y then Some t.1 else task_in ts i) (ne_eqb t.0 i (λ e. d (sym e ∙ eqb-true t.0 b is))))
    by false is later = ap (λ o. if nat_eq t.0 i then Some t.1 else o) later

drop_here : (low b : ℕ) (ts : List (ℕ × model.Task)) → Rise low (firsts ts) → task_in (drop_in b ts) b ≡ None
drop_here low b [] r = refl
drop_here low b (t ∷ ts) r = by (nat_eq t.0 b) refl (drop_here (suc t.0) b ts r.1)
  where
    by : (y : Bool) → nat_eq t.0 b ≡ y → task_in (drop_in b ts) b ≡ None → task_in (if y then ts else t ∷ drop_in b ts) b ≡ None
    by true is later = none_below (suc t.0) b ts r.1 (let same = eqb-true t.0 b is in omega (arith, same))
    by false is later = ap (λ (y : Bool). if y then Some t.1 else task_in (drop_in b ts) b) is ∙ later

-- what goes back to other tasks doesn't depend on this one
outer_same : (os : List Outer) (c : Config) (b i : ℕ) (t : model.Task) → (i ≡ b → ⊥) → task (put_outer os (with_task b t c)) i ≡ task (put_outer os c) i
outer_same os c b i t d = by (task c i) refl
  where
    past : task (with_task b t c) i ≡ task c i
    past = put_other b i t c.tasks (λ e. d (sym e))

    by : (o : Option model.Task) → task c i ≡ o → task (put_outer os (with_task b t c)) i ≡ task (put_outer os c) i
    by None e = outer_none os (with_task b t c) i (past ∙ e) ∙ sym (outer_none os c i e)
    by (Some u) e = outer_some os (with_task b t c) i u (past ∙ e) ∙ sym (outer_some os c i u e)

abbrev back_of : ℕ → Local → Config → Option model.Task → Config
back_of b l c o = elim o [ None ↦ c | Some t ↦ put_outer l.outer (with_task b (record t { control = l.control; layers = l.layers; wait = l.wait }) c) ]

back_same : (b i : ℕ) (l : Local) (c : Config) (t : model.Task) → task c b ≡ Some t → (i ≡ b → ⊥) → task (put_back b l c) i ≡ task (put_outer l.outer c) i
back_same b i l c t there d =
    ap (λ o. task (back_of b l c o) i) there ∙ outer_same l.outer c b i (record t { control = l.control; layers = l.layers; wait = l.wait }) d

pub dropped_same : (b made : ℕ) (l : Local) (c : Config) (t : model.Task) → RisesFrom 0 made c.tasks → task c b ≡ Some t → drop_in b (put_outer l.outer c).tasks ≡ drop_in b (put_back b l c).tasks
dropped_same b made l c t rising there =
    agree 0 (drop_in b (put_outer l.outer c).tasks) (drop_in b (put_back b l c).tasks)
    (rise_drop 0 b (put_outer l.outer c).tasks outer_rise)
    (firsts_drop b (put_outer l.outer c).tasks (put_back b l c).tasks (outer_are ∙ sym back_are))
    (λ i. elim (cases_eq i b) [
      | inl same ↦ ap (task_in (drop_in b (put_outer l.outer c).tasks)) same ∙ drop_here 0 b (put_outer l.outer c).tasks outer_rise
          ∙ sym (ap (task_in (drop_in b (put_back b l c).tasks)) same ∙ drop_here 0 b (put_back b l c).tasks (subst (Rise 0) (sym back_are) low))
      | inr other ↦ drop_other b i (put_outer l.outer c).tasks other ∙ sym (back_same b i l c t there other) ∙ sym (drop_other b i (put_back b l c).tasks other)
    ])
  where
    low : Rise 0 (firsts c.tasks)
    low = rise_of 0 made c.tasks rising

    outer_are : firsts (put_outer l.outer c).tasks ≡ firsts c.tasks
    outer_are = outer_numbers l.outer c 0 low

    back_are : firsts (put_back b l c).tasks ≡ firsts c.tasks
    back_are = back_numbers b l c 0 low

    outer_rise : Rise 0 (firsts (put_outer l.outer c).tasks)
    outer_rise = subst (Rise 0) (sym outer_are) low

-- ## Its parent
errors_kept : (n : ℕ) (e : End) (es : List (ℕ × Data)) → kept_in n (error_of e) es ≡ kept_error n e es
errors_kept n (Gives v) es = refl
errors_kept n (Fails d) es = refl

module _ (b n : ℕ) (e : End) where
  pub control_joined : (o : Option Join) (k : List Item) → join_of (with_join o k) ≡ o → with_join (option_map (joined_in b n (error_of e)) o) k ≡ joined b n e (with_join o k)
  control_joined None [] h = refl
  control_joined None (Item.Join body left m running es ∷ k) h = absurd (cc h)
  control_joined None (i ∷ k) h = refl
  control_joined (Some j) [] h = absurd (cc h)
  control_joined (Some j) (Item.Join body left m running es ∷ k) h = ap (λ fs. Item.Join body left m (joined_in b n (error_of e) j).running fs ∷ k) (errors_kept n e j.errors)
  control_joined (Some j) (i ∷ k) h = absurd (cc h)

  pub join_joined : (o : Option Join) (k : List Item) → join_of (with_join o k) ≡ o → join_of (with_join (option_map (joined_in b n (error_of e)) o) k) ≡ option_map (joined_in b n (error_of e)) o
  join_joined None [] h = refl
  join_joined None (Item.Join body left m running es ∷ k) h = absurd (cc h)
  join_joined None (i ∷ k) h = refl
  join_joined (Some j) [] h = absurd (cc h)
  join_joined (Some j) (Item.Join body left m running es ∷ k) h = ap (option_map (joined_in b n (error_of e))) h
  join_joined (Some j) (i ∷ k) h = absurd (cc h)

  shares_joined : (k : List Item) → step_shares (joined b n e k) ≡ step_shares k
  shares_joined [] = refl
  shares_joined (Item.Join (parallel names limit w) left m running es ∷ k) = refl
  shares_joined (i ∷ k) = refl

-- ## Holders
parent_kept : (b : ℕ) (sh : List Text) (os : List Own) (hs : List Holder) (c : ℕ) (g : Holder) → holder_in (with_own b sh os hs) c ≡ Some g → (k : Holder) × (holder_in hs c ≡ Some k) × (k.parent ≡ g.parent)
parent_kept b sh os [] c g h = absurd (let no : None ≡ Some g = h in cc no)
parent_kept b sh os (f ∷ fs) c g h = by (nat_eq f.number b) h (λ more. parent_kept b sh os fs c g more)
  where
    first : (z : Bool) → (if z then Some (record f { own = os; shares = sh }) else holder_in fs c) ≡ Some g → (k : Holder) × ((if z then Some f else holder_in fs c) ≡ Some k) × (k.parent ≡ g.parent)
    first true e = let same : record f { own = os; shares = sh } ≡ g = cc e in (f, refl, ap (λ (x : Holder). x.parent) same)
    first false e = (g, e, refl)

    other : (z : Bool) → (if z then Some f else holder_in (with_own b sh os fs) c) ≡ Some g → (holder_in (with_own b sh os fs) c ≡ Some g → (k : Holder) × (holder_in fs c ≡ Some k) × (k.parent ≡ g.parent))
        → (k : Holder) × ((if z then Some f else holder_in fs c) ≡ Some k) × (k.parent ≡ g.parent)
    other true e later = let same : f ≡ g = cc e in (f, refl, ap (λ (x : Holder). x.parent) same)
    other false e later = later e

    by : (y : Bool) → holder_in (if y then record f { own = os; shares = sh } ∷ fs else f ∷ with_own b sh os fs) c ≡ Some g
        → (holder_in (with_own b sh os fs) c ≡ Some g → (k : Holder) × (holder_in fs c ≡ Some k) × (k.parent ≡ g.parent))
        → (k : Holder) × ((if nat_eq f.number c then Some f else holder_in fs c) ≡ Some k) × (k.parent ≡ g.parent)
    by true e later = first (nat_eq f.number c) e
    by false e later = other (nat_eq f.number c) e later

closed_back : (n : ℕ) (ls : List Layer) → rises ls ≡ true → (m : ℕ) (l : Layer) → find m (closed n ls) ≡ Some l → find m ls ≡ Some l
closed_back n ls r m l e = elim (cases_eq m n) [
  | inl same ↦ absurd (let clash : None ≡ Some l = sym (closed_none n ls r) ∙ ap (λ (k : ℕ). find k (closed n ls)) (sym same) ∙ e in cc clash)
  | inr other ↦ sym (find_closed n m ls (ne_eqb m n other)) ∙ e
]

-- ## A branch that has ended
module _ (p : Program) (nodes : List Node) (rules : ℕ) (es : List (ℕ × Status)) (ts : List Task) (x : Scopes) (i b : ℕ) (s : Status) (t : Task) (c : Config) (v : Task) (new last : Scopes) (q : ℕ × ℕ) (e : End)
    (h : StandsHere p nodes rules es ts x i b s t c) (childless : IsChildless (holders_of p es ts) b) (parent : s.parent ≡ Some q) (done : inner v.frames ≡ [])
    (linked : IsLinked (around_here p rules es ts x b s t) (own_of v.frames) new) (shut : layers_of last ≡ closed v.frames.first (layers_of new)) (limit : last.limit ≡ new.limit) where
  -- its wait doesn't matter any more
  abbrev U : Task
  U = record v { wait = wait.Awake }

  abbrev After : Status
  After = status_behind p s None U

  abbrev L : Local
  L = task_local (around_here p rules es ts x b s t) U new

  leaves : LeavesSo p rules es ts x i b s t After U new
  leaves = let two = none_is_alike p s U refl in task_leaves p rules es ts x i b s t After U new h.all h.here childless refl two.0 two.1 linked

  numbers_are : RisesFrom 0 c.made c.tasks
  numbers_are = subst (RisesFrom 0 c.made) (sym h.is) (rises_view p 0 c.made es ts x h.numbers)

  abbrev Es : List (ℕ × Status)
  Es = slice_set es i (b, After)

  abbrev Ts : List Task
  Ts = slice_set ts i U

  rises_after : rise 0 c.made Es ≡ true
  rises_after = set_rises 0 c.made es i b s After h.here.status ∙ h.numbers

  entry_after : slice_get Es i ≡ Some (b, After)
  entry_after = get_there es i (b, After) (b, s) h.here.status

  task_after : slice_get Ts i ≡ Some U
  task_after = get_there ts i U t h.here.task

  abbrev Hs : List Holder
  Hs = holders_of p Es Ts

  abbrev H : Holder
  H = holder_of p (b, After) U

  place_after : IsPlace b i Es
  place_after = place_of 0 c.made Es i b After rises_after entry_after

  holds : holder_in Hs b ≡ Some H
  holds = holder_here p b i Es Ts After U place_after entry_after task_after

  own_one : H.own ≡ own v.frames.first false ∷ []
  own_one = ap (owned v.frames.first) done

  childless_after : IsChildless Hs b
  childless_after d g is child =
      let moved = holders_moved p b i es ts After s U h.all.alike h.here.place h.here.status refl in
      let was = parent_kept b (step_shares (control_at p After U)) (own_of U.frames) (holders_of p es ts) d g (sym (ap (λ hs. holder_in hs d) moved) ∙ is) in
      childless d was.0 was.1 (was.2 ∙ child)

  -- ### Without it
  abbrev Er : List (ℕ × Status)
  Er = remove Es i

  abbrev Tr : List Task
  Tr = remove Ts i

  abbrev Closed : List Layer
  Closed = closed v.frames.first (layers_of new)

  alike_without : AreAlike p Er Tr
  alike_without = alike_remove p i Es Ts leaves.goes_on.alike

  rises_without : rise 0 c.made Er ≡ true
  rises_without = drop_rises 0 c.made Es i rises_after

  stand_without : AllStand (holders_of p Er Tr) Closed
  stand_without = subst (λ hs. AllStand hs Closed) (sym (holders_remove p i b Es Ts leaves.goes_on.alike place_after))
      (branch_ends Hs (layers_of new) b H (own v.frames.first false) leaves.goes_on.stand holds childless_after own_one)

  -- ### Its parent
  above : (o : Option ℕ) → o ≡ Some q.0 → HasParent Hs b o → (q.0 < b) × ((g : Holder) × (holder_in Hs q.0 ≡ Some g))
  above None is y = absurd (cc is)
  above (Some n) is y = let same : n ≡ q.0 = cc is in subst (λ (m : ℕ). (m < b) × ((g : Holder) × (holder_in Hs m ≡ Some g))) same y

  parent_there : (q.0 < b) × ((g : Holder) × (holder_in Hs q.0 ≡ Some g))
  parent_there = above H.parent (ap (λ (o : Option (ℕ × ℕ)). parent_number o) parent) (leaves.goes_on.stand.parents b H holds)

  stands : Place p Es Ts q.0
  stands = holder_place p Es Ts q.0 parent_there.1.0 parent_there.1.1

  abbrev J : ℕ
  J = stands.at

  abbrev R : Status
  R = stands.status

  abbrev W : Task
  W = stands.task

  before : J < i
  before = stands_before 0 c.made i J b q.0 Es After R rises_after entry_after stands.entry parent_there.0

  abbrev Behind : Status
  Behind = on_join (joined_in b q.1 (error_of e)) R

  entry_without : slice_get Er J ≡ Some (q.0, R)
  entry_without = get_remove Es i J before ∙ stands.entry

  task_without_it : slice_get Tr J ≡ Some W
  task_without_it = get_remove Ts i J before ∙ stands.beside

  place_without : IsPlace q.0 J Er
  place_without = place_of 0 c.made Er J q.0 R rises_without entry_without

  parent_alike : IsAlike p R W
  parent_alike = alike_at p J Er Tr q.0 R W alike_without entry_without task_without_it

  control_behind : control_at p Behind W ≡ joined b q.1 e (control_at p R W)
  control_behind = control_joined b q.1 e R.join (control_in (spots p.flows) W.wait (control (spots p.flows) (inner W.frames))) parent_alike.join

  behind_alike : IsAlike p Behind W
  behind_alike = record {
    waits = parent_alike.waits;
    join = join_joined b q.1 e R.join (control_in (spots p.flows) W.wait (control (spots p.flows) (inner W.frames))) parent_alike.join;
  }

  abbrev End_of : List (ℕ × Status)
  End_of = slice_set Er J (q.0, Behind)

  same_tasks : slice_set Tr J W ≡ Tr
  same_tasks = set_there Tr J W task_without_it

  alike_end : AreAlike p End_of Tr
  alike_end = subst (AreAlike p End_of) same_tasks (alike_moved p q.0 J Er Tr Behind W alike_without place_without behind_alike)

  rises_end : rise 0 c.made End_of ≡ true
  rises_end = set_rises 0 c.made Er J q.0 R Behind entry_without ∙ rises_without

  holders_end : holders_of p End_of Tr ≡ holders_of p Er Tr
  holders_end =
      let g = holder_of p (q.0, R) W in
      ap (holders_of p End_of) (sym same_tasks)
      ∙ holders_moved p q.0 J Er Tr Behind R W alike_without place_without entry_without refl
      ∙ ap (λ sh. with_own q.0 sh (own_of W.frames) (holders_of p Er Tr)) (ap step_shares control_behind ∙ shares_joined b q.1 e (control_at p R W))
      ∙ same_own q.0 (holders_of p Er Tr) g (holder_here p q.0 J Er Tr R W place_without entry_without task_without_it)

  -- ### The store
  back : (m : ℕ) (l : Layer) → find m (layers_of last) ≡ Some l → find m (layers_of new) ≡ Some l
  back m l is = closed_back v.frames.first (layers_of new) new.rising m l (sym (ap (find m) shut) ∙ is)

  all_end : AllGoOn p rules End_of Tr last
  all_end = record {
    alike = alike_end;
    stand = subst (λ hs. AllStand hs (layers_of last)) (sym holders_end) (subst (AllStand (holders_of p Er Tr)) (sym shut) stand_without);
    limit = limit ∙ leaves.goes_on.limit;
    order = λ n. subst (λ ls. IsInOrder (vars_at n ls)) (sym shut) (order_closed v.frames.first (layers_of new) new.rising leaves.goes_on.order n);
  }

  views_end : tasks_view p End_of Tr new ≡ tasks_view p End_of Tr last
  views_end = views_stay p c.made End_of Tr last new rises_end alike_end all_end.stand back

  -- ### The configuration
  abbrev Moved_of : Config
  Moved_of = record c { tasks = tasks_view p Es Ts new }

  live : task c b ≡ Some (task_view p (plain_around p) s t x)
  live = ap (λ us. task_in us b) h.is ∙ task_here p b i es ts x s t h.here.place h.here.status h.here.task

  dropped : drop_in b (put_outer L.outer c).tasks ≡ tasks_view p Er Tr new
  dropped =
      dropped_same b c.made L c (task_view p (plain_around p) s t x) numbers_are live
      ∙ ap (λ (d : Config). drop_in b d.tasks) (leaves.back c h.is numbers_are)
      ∙ view_drop p 0 c.made i b Es Ts new After rises_after leaves.goes_on.alike entry_after
      ∙ sym (view_remove p i Es Ts new leaves.goes_on.alike)

  parent_live : task (put_outer L.outer c) q.0 ≡ Some (task_view p (plain_around p) R W new)
  parent_live =
      let less = parent_there.0 in
      sym (drop_other b q.0 (put_outer L.outer c).tasks (λ same. omega (arith, less, same)))
      ∙ ap (λ us. task_in us q.0) dropped
      ∙ task_here p q.0 J Er Tr new R W place_without entry_without task_without_it

  abbrev fin : Option model.Task → List (ℕ × model.Task) → Config
  fin o us = elim o [ None ↦ record c { tasks = us } | Some w ↦ record c { tasks = put_in q.0 (record w { control = joined b q.1 e w.control }) us } ]

  fin_is : (us : List (ℕ × model.Task)) → finish b (Some q) e (record c { tasks = us }) ≡ fin (task_in us q.0) (drop_in b us)
  fin_is us = by (task_in us q.0)
    where
      by : (o : Option model.Task) → elim o [ None ↦ without_task b (record c { tasks = us }) | Some w ↦ with_task q.0 (record w { control = joined b q.1 e w.control }) (without_task b (record c { tasks = us })) ] ≡ fin o (drop_in b us)
      by None = refl
      by (Some w) = refl

  view_behind : record (task_view p (plain_around p) R W new) { control = joined b q.1 e (control_at p R W) } ≡ task_view p (plain_around p) Behind W new
  view_behind = ap {B = model.Task} (λ k. record (task_view p (plain_around p) R W new) { control = k }) (sym control_behind)

  finish_is : finish b (Some q) e (put_outer L.outer c) ≡ record c { tasks = tasks_view p End_of Tr last }
  finish_is =
      ap (finish b (Some q) e) (outer_only L.outer c)
      ∙ fin_is (put_outer L.outer c).tasks
      ∙ ap (λ o. fin o (drop_in b (put_outer L.outer c).tasks)) parent_live
      ∙ ap {B = Config} (λ us. record c { tasks = us })
      (ap (λ w. put_in q.0 w (drop_in b (put_outer L.outer c).tasks)) view_behind
      ∙ ap (put_in q.0 (task_view p (plain_around p) Behind W new)) dropped
      ∙ view_put p 0 c.made J q.0 Er Tr new R (task_view p (plain_around p) Behind W new) rises_without alike_without entry_without
      ∙ sym (view_set p J q.0 Er Tr new Behind W)
      ∙ ap (λ us. tasks_view p End_of us new) same_tasks
      ∙ views_end)

  -- ### The table
  entry_first : slice_get es J ≡ Some (q.0, R)
  entry_first = sym (get_set_past es i J (b, After) before) ∙ stands.entry

  table_end : change.ended b (error_of e) (table_with es c.made) ≡ table_with End_of c.made
  table_end =
      ap {B = Table} (λ (o : Option Status). elim o [ None ↦ table_with es c.made | Some r ↦ change.ended_by b r.parent (error_of e) (table_with es c.made) ]) (found_at 0 c.made es i b s h.numbers h.here.status)
      ∙ ap {B = Table} (λ (o : Option (ℕ × ℕ)). change.ended_by b o (error_of e) (table_with es c.made)) parent
      ∙ ap {B = Table} (λ us. table_with us c.made)
      (ap (λ (o : Option Status). table.drop_in b (elim o [ None ↦ es | Some r ↦ table.put_in q.0 (on_join (joined_in b q.1 (error_of e)) r) es ])) (found_at 0 c.made es J q.0 R h.numbers entry_first)
      ∙ ap (table.drop_in b) (put_at 0 c.made es J q.0 R Behind h.numbers entry_first)
      ∙ drop_at 0 c.made (slice_set es J (q.0, Behind)) i b s (set_rises 0 c.made es J q.0 R Behind entry_first ∙ h.numbers) (get_set es i J (q.0, Behind) before ∙ h.here.status)
      ∙ set_remove es i J (q.0, Behind) before
      ∙ ap (λ us. slice_set us J (q.0, Behind)) (sym (remove_set es i (b, After))))

  pub gone : GoOnSo p nodes rules c (To (finish b (Some q) e (put_outer L.outer c))) (change.ended b (error_of e) (table_with es c.made)) (remove ts i) last
  gone =
      subst (λ (T : Table). GoOnSo p nodes rules c (To (finish b (Some q) e (put_outer L.outer c))) T (remove ts i) last) (sym table_end)
      (subst (λ us. GoOnSo p nodes rules c (To (finish b (Some q) e (put_outer L.outer c))) (table_with End_of c.made) us last) (remove_set ts i U)
      (record { leads = ap {B = model.After} To finish_is; goes_on = all_end; fit = subst (AllFitAt p nodes) (sym (remove_set ts i U)) (fit_remove p nodes i ts h.fit) }))

-- ## As a law
pub branch_gone : BranchIsGone
branch_gone p nodes rules es ts x i b s t c u new last q e h childless parent done linked shut limit = gone p nodes rules es ts x i b s t c u new last q e h childless parent done linked shut limit
