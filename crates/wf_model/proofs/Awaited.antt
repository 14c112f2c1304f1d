-- Calls are awaited by their tasks, at each step.
use Rattle.std.specs.Prelude.{◌≡◌, ◌≢◌, ◌⊎◌, ℕ, zero, suc, ◌+◌, ◌<◌, ◌≤◌, ◌&&◌, ◌||◌, not, min, length, Bool, true, false, List, [], ◌∷◌, ◌++◌, if◌then◌else◌, nat_eq, nat_lt, nat_le, slice_get, slice_set, Some, None, Ok, Err, Option, option_map, unwrap_or}
use Rattle.std.proofs.Common.{inl, inr, ⊎_elim, refl, sym, ◌∙◌, ap, subst, arith}
use Rattle.std.proofs.lemmas.Bool.{eq-eqb, cases_eq, ne_eqb}
use Rattle.wf_lemmas.proofs.Bools.{and_left}
use Rattle.wf_lemmas.proofs.Options.{by_cases}
use Rattle.wf_ast.specs.Tree.{Steps, LoopBody, ParallelBody, parallel, OfBranches, OfLoop, branch, no_branches, Program}
use Rattle.wf_model.proofs.After.{Leads, led_to}
use Rattle.wf_model.proofs.LocalWaits.{NotCalling, IsFree, Plain, goes_plain, move_plain, resumed_plain, due_plain, SendsOne, issue_issued}
use Rattle.wf_model.proofs.TaskLists.{higher, put_rises, drop_rises, known, put_same, put_other, drop_other, drop_same}
use Rattle.wf_model.proofs.Walk.{bool_case, some_case, when_leads}
use Rattle.wf_model.specs.Config.{Left, WorkLeft, BranchesLeft, ValuesLeft, Item, Do, Wait, Awake, Sleep, Delay, Calling, Await, Task, Call, Open, Answered, TimedOut, Outcome, Active, Returned, Raised, Cancelled, Config, After, To, Wrong, NotNow, body_limit, move_limit, task, task_in, with_task, next_of}
use Rattle.wf_model.specs.Kinds.{NextKind, Plainly, ByClock, ByCall, next_kind}
use Rattle.wf_model.specs.Local.{Outer, Local, Scene, End, Gives, Fails, Sends, Creates, Takes, Logs, Moved, Goes, Ends, Does, Breaks, Not, goes}
use Rattle.wf_model.specs.Move.{loop_steps, move, issue, due, resumed}
use Rattle.wf_model.specs.Ready.{call, call_due, due_of, dues_in, least_in, is_awake, stands_waiting, is_ready, may_begin, is_due, none_goes_on}
use Rattle.wf_model.specs.Run.{main_task, empty, initial, run_on, main_steps, main_local}
use Rattle.wf_model.specs.RunLaws.{RisesFrom}
use Rattle.wf_model.specs.Step.{stopped, one_more, counted, read_at, close, replied, replied_to, timed_out, begun, new_task, fresh, starts, starts_turn, starts_work, begins_by, when, wants, same_kind, for_task, bodies_left, waits_for, waiting_in, result_of, taken_by, visited, by_event, step_from, next}
use Rattle.wf_model.specs.Taken.{scene, local, put_outer, put_back, layer_at, joined, put_error, without_task, finish, outcome_of, done, merged, by_itself}
use Rattle.wf_model.specs.WaitLaws.{Info, info, info_at, Sound as Good, Awaited, CallsAreAwaited, RootLives, WaitingHasADue, QuietHasADue, SoundAtFirst, StepsStaySound, SoundIsAwaited}
use Rattle.wf_value.specs.Events.{Visitor, Reply, Event, Start}
use Rattle.wf_value.specs.HttpRequest.{Request}
use Rattle.wf_value.specs.HttpText.{reply_result, visit_result, reply_length}
use Rattle.wf_value.specs.Queues.{ArriveFault, arrive_fault}
use Rattle.wf_value.specs.Data.{Data, null, Pairs, no_pairs}
use Rattle.wf_value.specs.Decode.{json_value}
use Rattle.wf_value.specs.Errors.{error_map, Answer}
use Rattle.wf_value.specs.Pairs.{Text}

-- ## Configurations
-- the same but for task b, which has no open call
record Except (b : ℕ) (c : Config) : Type 0 where
  rises : RisesFrom 0 c.made c.tasks
  waited : (k i : ℕ) (q : Request) (d : ℕ) → call c k ≡ Open i q d → (i ≡ b → ⊥) × ((r : Option Text) × (p : Option (ℕ × ℕ)) × (info_at c i ≡ Some (Calling k r, p)))
  stands : (i k : ℕ) (r : Option Text) (p : Option (ℕ × ℕ)) → (i ≡ b → ⊥) → info_at c i ≡ Some (Calling k r, p) → (q : Request) × (d : ℕ) × (call c k ≡ Open i q d)
  parents : (i : ℕ) (w : Wait) (p : ℕ × ℕ) → info_at c i ≡ Some (w, Some p) → p.0 ≡ i → ⊥
  root : c.outcome ≡ Active → (w : Wait) × (info_at c 0 ≡ Some (w, None))

-- other things changed, and controls and layers of tasks
pub record Same (c e : Config) : Type 0 where
  pub calls : e.calls ≡ c.calls
  pub infos : (i : ℕ) → info_at e i ≡ info_at c i
  pub outcome : e.outcome ≡ c.outcome
  pub made : e.made ≡ c.made
  pub rises : RisesFrom 0 e.made e.tasks

call_same : (c e : Config) (k : ℕ) → e.calls ≡ c.calls → call e k ≡ call c k
call_same c e zero same = refl
call_same c e (suc n) same = ap (λ cs. elim (slice_get cs n) [ None ↦ Answered | Some x ↦ x ]) same

good_same : (c e : Config) → Same c e → Good c → Good e
good_same c e s h = record {
  rises = s.rises;
  waited = λ k i q d is. let (r, p, at) = h.waited k i q d (sym (call_same c e k s.calls) ∙ is) in (r, p, s.infos i ∙ at);
  stands = λ i k r p at. let (q, d, is) = h.stands i k r p (sym (s.infos i) ∙ at) in (q, d, call_same c e k s.calls ∙ is);
  parents = λ i w p at. h.parents i w p (sym (s.infos i) ∙ at);
  root = λ go. let (w, at) = h.root (sym s.outcome ∙ go) in (w, s.infos 0 ∙ at);
}

except_same : (b : ℕ) (c e : Config) → Same c e → Except b c → Except b e
except_same b c e s h = record {
  rises = s.rises;
  waited = λ k i q d is. let (differ, (r, p, at)) = h.waited k i q d (sym (call_same c e k s.calls) ∙ is) in (differ, (r, p, s.infos i ∙ at));
  stands = λ i k r p differ at. let (q, d, is) = h.stands i k r p differ (sym (s.infos i) ∙ at) in (q, d, call_same c e k s.calls ∙ is);
  parents = λ i w p at. h.parents i w p (sym (s.infos i) ∙ at);
  root = λ go. let (w, at) = h.root (sym s.outcome ∙ go) in (w, s.infos 0 ∙ at);
}

same_then : (c d e : Config) → Same c d → Same d e → Same c e
same_then c d e s u = record { calls = u.calls ∙ s.calls; infos = λ i. u.infos i ∙ s.infos i; outcome = u.outcome ∙ s.outcome; made = u.made ∙ s.made; rises = u.rises }

same_self : (c : Config) → RisesFrom 0 c.made c.tasks → Same c c
same_self c h = record { calls = refl; infos = λ i. refl; outcome = refl; made = refl; rises = h }

put_at : (c : Config) (b : ℕ) (t : Task) → info_at (with_task b t c) b ≡ Some (info t)
put_at c b t = ap (option_map info) (put_same b t c.tasks)

put_off : (c : Config) (b i : ℕ) (t : Task) → (i ≡ b → ⊥) → info_at (with_task b t c) i ≡ info_at c i
put_off c b i t differ = ap (option_map info) (put_other b i t c.tasks differ)

same_put : (c : Config) (b : ℕ) (t u : Task) → RisesFrom 0 c.made c.tasks → task c b ≡ Some t → info u ≡ info t → Same c (with_task b u c)
same_put c b t u h there like = record {
  calls = refl;
  infos = λ i. ⊎_elim
      (λ same. ap (λ n. info_at (with_task b u c) n) same ∙ put_at c b u ∙ ap (λ x. Some x) like ∙ sym (ap (option_map info) there) ∙ ap (λ n. info_at c n) (sym same))
      (λ differ. put_off c b i u differ)
      (cases_eq i b);
  outcome = refl;
  made = refl;
  rises = put_rises 0 c.made b u c.tasks (omega arith) (known 0 c.made b c.tasks t h there) h;
}

pub put_outer_same : (os : List Outer) (c : Config) → RisesFrom 0 c.made c.tasks → Same c (put_outer os c)
put_outer_same [] c h = same_self c h
put_outer_same (o ∷ os) c h =
    some_case (Same c) (task c o.task) (put_outer os c) (λ t. put_outer os (with_task o.task (record t { layers = layer_at o.above o.layer t.layers }) c))
    (put_outer_same os c h)
    (λ t there.
    let one = same_put c o.task t (record t { layers = layer_at o.above o.layer t.layers }) h there refl in
    same_then c (with_task o.task (record t { layers = layer_at o.above o.layer t.layers }) c) (put_outer os (with_task o.task (record t { layers = layer_at o.above o.layer t.layers }) c)) one
    (put_outer_same os (with_task o.task (record t { layers = layer_at o.above o.layer t.layers }) c) one.rises))

-- ## A task that is put back
some_wait : (x y : Info) → ◌≡◌ {A = Option Info} (Some x) (Some y) → x.0 ≡ y.0
some_wait x y is = let same : x ≡ y = cc is in ap (λ (z : Info). z.0) same

some_parent : (x y : Info) → ◌≡◌ {A = Option Info} (Some x) (Some y) → x.1 ≡ y.1
some_parent x y is = let same : x ≡ y = cc is in ap (λ (z : Info). z.1) same

free_wait : (w v : Wait) (k : ℕ) (r : Option Text) (p o : Option (ℕ × ℕ)) → NotCalling w → ◌≡◌ {A = Option Info} (Some (w, p)) (Some (Calling k r, o)) → ⊥
free_wait w v k r p o free is = subst NotCalling (some_wait (w, p) (Calling k r, o) is) free

-- task 0 that is put back has no parent still
put_root : (b : ℕ) (t u : Task) (c : Config) (w : Wait) → task c b ≡ Some t → u.parent ≡ t.parent → 0 ≡ b → info_at c 0 ≡ Some (w, None) → info_at (with_task b u c) 0 ≡ Some (u.wait, None)
put_root b t u c w there parent same at =
    let two : ◌≡◌ {A = Option Info} (Some (t.wait, t.parent)) (Some (w, None)) = sym (ap (option_map info) there) ∙ ap (λ j. info_at c j) (sym same) ∙ at in
    let none : t.parent ≡ None = some_parent (t.wait, t.parent) (w, None) two in
    ap (λ j. info_at (with_task b u c) j) same ∙ put_at c b u ∙ ap (λ o. Some (u.wait, o)) (parent ∙ none)

put_free : (b : ℕ) (t u : Task) (c : Config) → Except b c → task c b ≡ Some t → u.parent ≡ t.parent → NotCalling u.wait → Good (with_task b u c)
put_free b t u c h there parent free = record {
  rises = put_rises 0 c.made b u c.tasks (omega arith) (known 0 c.made b c.tasks t h.rises there) h.rises;
  waited = λ k i q d is. let (differ, (r, p, at)) = h.waited k i q d is in (r, p, put_off c b i u differ ∙ at);
  stands = λ i k r p at. ⊎_elim
      (λ same. absurd (free_wait u.wait u.wait k r u.parent p free (sym (put_at c b u) ∙ ap (λ n. info_at (with_task b u c) n) (sym same) ∙ at)))
      (λ differ. h.stands i k r p differ (sym (put_off c b i u differ) ∙ at))
      (cases_eq i b);
  parents = λ i w p at is. ⊎_elim
      (λ same.
      let two : ◌≡◌ {A = Option Info} (Some (u.wait, u.parent)) (Some (w, Some p)) = sym (put_at c b u) ∙ ap (λ n. info_at (with_task b u c) n) (sym same) ∙ at in
      let one : u.parent ≡ Some p = some_parent (u.wait, u.parent) (w, Some p) two in
      h.parents b t.wait p (ap (option_map info) there ∙ ap (λ o. Some (t.wait, o)) (sym parent ∙ one)) (is ∙ same))
      (λ differ. h.parents i w p (sym (put_off c b i u differ) ∙ at) is)
      (cases_eq i b);
  root = λ go.
      let (w, at) = h.root go in
      ⊎_elim
      (λ same. (u.wait, put_root b t u c w there parent same at))
      (λ differ. (w, put_off c b 0 u differ ∙ at))
      (cases_eq 0 b);
}

no_task_good : (b : ℕ) (c : Config) → Except b c → task c b ≡ None → Good c
no_task_good b c h gone = record {
  rises = h.rises;
  waited = λ k i q d is. (h.waited k i q d is).1;
  stands = λ i k r p at. ⊎_elim
      (λ same. absurd (let f : None ≡ Some (Calling k r, p) = sym (ap (option_map info) gone) ∙ ap (λ n. info_at c n) (sym same) ∙ at in cc f))
      (λ differ. h.stands i k r p differ at)
      (cases_eq i b);
  parents = h.parents;
  root = h.root;
}

put_back_good : (b : ℕ) (l : Local) (c : Config) → Except b c → IsFree l → Good (put_back b l c)
put_back_good b l c h free =
    by_cases Good (task c b) c (λ t. put_outer l.outer (with_task b (record t { control = l.control; layers = l.layers; wait = l.wait }) c))
    (no_task_good b c h)
    (λ t there.
    let u = record t { control = l.control; layers = l.layers; wait = l.wait } in
    let g = put_free b t u c h there refl free in
    good_same (with_task b u c) (put_outer l.outer (with_task b u c)) (put_outer_same l.outer (with_task b u c) (Good.rises g)) g)

-- ## A task that ends
without_good : (b : ℕ) (c : Config) → Except b c → (c.outcome ≡ Active → b ≡ 0 → ⊥) → Good (without_task b c)
without_good b c h other = record {
  rises = drop_rises 0 c.made b c.tasks h.rises;
  waited = λ k i q d is. let (differ, (r, p, at)) = h.waited k i q d is in (r, p, ap (option_map info) (drop_other b i c.tasks differ) ∙ at);
  stands = λ i k r p at. ⊎_elim
      (λ same. absurd (let f : None ≡ Some (Calling k r, p) = sym (ap (option_map info) (drop_same 0 c.made b c.tasks h.rises)) ∙ ap (λ n. info_at (without_task b c) n) (sym same) ∙ at in cc f))
      (λ differ. h.stands i k r p differ (sym (ap (option_map info) (drop_other b i c.tasks differ)) ∙ at))
      (cases_eq i b);
  parents = λ i w p at is. ⊎_elim
      (λ same. let f : None ≡ Some (w, Some p) = sym (ap (option_map info) (drop_same 0 c.made b c.tasks h.rises)) ∙ ap (λ n. info_at (without_task b c) n) (sym same) ∙ at in cc f)
      (λ differ. h.parents i w p (sym (ap (option_map info) (drop_other b i c.tasks differ)) ∙ at) is)
      (cases_eq i b);
  root = λ go. let (w, at) = h.root go in (w, ap (option_map info) (drop_other b 0 c.tasks (λ same. other go (sym same))) ∙ at);
}

with_outcome : (c : Config) (o : Outcome) → Good c → (o ≡ Active → ⊥) → Good (record c { outcome = o })
with_outcome c o g ended = record { rises = g.rises; waited = g.waited; stands = g.stands; parents = g.parents; root = λ go. absurd (ended go) }

ends_it : (e : End) → outcome_of e ≡ Active → ⊥
ends_it (Gives v) is = cc is
ends_it (Fails d) is = cc is

finish_good : (b : ℕ) (parent : Option (ℕ × ℕ)) (e : End) (c : Config) → Except b c → ((p : ℕ × ℕ) → parent ≡ Some p → (p.0 ≡ b → ⊥) × (c.outcome ≡ Active → b ≡ 0 → ⊥)) → Good (finish b parent e c)
finish_good b None e c h far =
    let d = record c { outcome = outcome_of e } in
    let k : Except b d = record { rises = h.rises; waited = h.waited; stands = h.stands; parents = h.parents; root = λ go. absurd (ends_it e go) } in
    without_good b d k (λ go. absurd (ends_it e go))
finish_good b (Some p) e c h far =
    some_case Good (task c p.0) (without_task b c) (λ t. with_task p.0 (record t { control = joined b p.1 e t.control }) (without_task b c))
    (without_good b c h (far p refl).1)
    (λ t there.
    let d = without_task b c in
    let u = record t { control = joined b p.1 e t.control } in
    let still : task d p.0 ≡ Some t = drop_other b p.0 c.tasks (far p refl).0 ∙ there in
    let g = without_good b c h (far p refl).1 in
    good_same d (with_task p.0 u d) (same_put d p.0 t u (Good.rises g) still refl) g)

-- ## One task's move
merged_good : (b : ℕ) (parent : Option (ℕ × ℕ)) (m : Moved) (c : Config) → Except b c → ((p : ℕ × ℕ) → parent ≡ Some p → (p.0 ≡ b → ⊥) × (c.outcome ≡ Active → b ≡ 0 → ⊥)) → Plain m → Leads Good (merged b parent m c)
merged_good b parent (Goes l) c h far plain = put_back_good b l c h plain
merged_good b parent (Ends e l) c h far plain = finish_good b parent e (put_outer l.outer c) (except_same b c (put_outer l.outer c) (put_outer_same l.outer c h.rises) h) (λ p is. ((far p is).0, λ go. (far p is).1 (sym (Same.outcome (put_outer_same l.outer c h.rises)) ∙ go)))
merged_good b parent (Does (Sends q d) m) c h far plain = absurd plain
merged_good b parent (Does (Creates x) m) c h far plain = merged_good b parent m (done b (Creates x) c) (record { rises = h.rises; waited = h.waited; stands = h.stands; parents = h.parents; root = h.root }) far plain
merged_good b parent (Does (Takes n) m) c h far plain = merged_good b parent m (done b (Takes n) c) (record { rises = h.rises; waited = h.waited; stands = h.stands; parents = h.parents; root = h.root }) far plain
merged_good b parent (Does (Logs severity v) m) c h far plain = merged_good b parent m (done b (Logs severity v) c) (record { rises = h.rises; waited = h.waited; stands = h.stands; parents = h.parents; root = h.root }) far plain
merged_good b parent (Breaks k) c h far plain = tt
merged_good b parent Not c h far plain = tt

far_parent : (b : ℕ) (t : Task) (c : Config) → Except b c → task c b ≡ Some t → (p : ℕ × ℕ) → t.parent ≡ Some p → (p.0 ≡ b → ⊥) × (c.outcome ≡ Active → b ≡ 0 → ⊥)
far_parent b t c h there p is =
    let here : info_at c b ≡ Some (t.wait, Some p) = ap (option_map info) there ∙ ap (λ o. Some (t.wait, o)) is in (
      h.parents b t.wait p here,
      λ go same.
          let (w, at) = h.root go in
          let two : ◌≡◌ {A = Option Info} (Some (t.wait, Some p)) (Some (w, None)) = sym here ∙ ap (λ j. info_at c j) same ∙ at in
          let f : Some p ≡ None = some_parent (t.wait, Some p) (w, None) two in cc f,
    )

by_itself_good : (p : Program) (b now : ℕ) (f : Scene → Local → Moved) (c : Config) → Except b c → ((t : Task) → task c b ≡ Some t → Plain (f (scene p c b t now) (local c b t))) → Leads Good (by_itself p b now f c)
by_itself_good p b now f c h plain =
    some_case (Leads Good) (task c b) NotNow (λ t. merged b t.parent (f (scene p c b t now) (local c b t)) c) tt
    (λ t there. merged_good b t.parent (f (scene p c b t now) (local c b t)) c h (far_parent b t c h there) (plain t there))

-- a task that waits for no call has none
except_of : (b : ℕ) (t : Task) (c : Config) → Good c → task c b ≡ Some t → NotCalling t.wait → Except b c
except_of b t c g there free = record {
  rises = g.rises;
  waited = λ k i q d is.
      let (r, p, at) = g.waited k i q d is in
      ((λ same. free_wait t.wait t.wait k r t.parent p free (sym (ap (option_map info) there) ∙ ap (λ n. info_at c n) (sym same) ∙ at)), (r, p, at));
  stands = λ i k r p differ at. g.stands i k r p at;
  parents = g.parents;
  root = g.root;
}

-- ## Calls that are closed

set_at : (xs : List Call) (n : ℕ) (x : Call) (i : ℕ) (q : Request) (d : ℕ) → elim (slice_get (slice_set xs n x) n) [ None ↦ Answered | Some y ↦ y ] ≡ Open i q d → (x ≡ Answered) ⊎ (x ≡ TimedOut) → ⊥
set_at [] n x i q d is shut = let f : Answered ≡ Open i q d = is in cc f
set_at (y ∷ ys) zero x i q d is (inl a) = let f : Answered ≡ Open i q d = sym a ∙ is in cc f
set_at (y ∷ ys) zero x i q d is (inr a) = let f : TimedOut ≡ Open i q d = sym a ∙ is in cc f
set_at (y ∷ ys) (suc n) x i q d is shut = set_at ys n x i q d is shut

set_off : (xs : List Call) (n m : ℕ) (x : Call) → (m ≡ n → ⊥) → elim (slice_get (slice_set xs n x) m) as (λ _. Call) [ None ↦ Answered | Some y ↦ y ] ≡ elim (slice_get xs m) as (λ _. Call) [ None ↦ Answered | Some y ↦ y ]
set_off [] n m x differ = refl
set_off (y ∷ ys) zero zero x differ = absurd (differ refl)
set_off (y ∷ ys) zero (suc m) x differ = refl
set_off (y ∷ ys) (suc n) zero x differ = refl
set_off (y ∷ ys) (suc n) (suc m) x differ = set_off ys n m x (λ same. differ (ap suc same))

close_off : (n k : ℕ) (x : Call) (c : Config) → (k ≡ n → ⊥) → call (close n x c) k ≡ call c k
close_off zero k x c differ = refl
close_off (suc n) zero x c differ = refl
close_off (suc n) (suc m) x c differ = set_off c.calls n m x (λ same. differ (ap suc same))

close_at : (n i : ℕ) (x : Call) (c : Config) (q : Request) (d : ℕ) → (x ≡ Answered) ⊎ (x ≡ TimedOut) → call (close n x c) n ≡ Open i q d → ⊥
close_at zero i x c q d shut is = let f : Answered ≡ Open i q d = is in cc f
close_at (suc n) i x c q d shut is = set_at c.calls n x i q d is shut

pub close_tasks : (n : ℕ) (x : Call) (c : Config) → ((close n x c).tasks ≡ c.tasks) × ((close n x c).made ≡ c.made)
close_tasks zero x c = (refl, refl)
close_tasks (suc n) x c = (refl, refl)

close_outcome : (n : ℕ) (x : Call) (c : Config) → (close n x c).outcome ≡ c.outcome
close_outcome zero x c = refl
close_outcome (suc n) x c = refl

-- the task that waits for a call is left without one where this is closed
closed_except : (b n : ℕ) (t : Task) (r : Option Text) (x : Call) (c : Config) → Good c → task c b ≡ Some t → t.wait ≡ Calling n r → (x ≡ Answered) ⊎ (x ≡ TimedOut) → Except b (close n x c)
closed_except b n t r x c g there wait shut =
    let tasks = close_tasks n x c in
    let info_is : (i : ℕ) → info_at (close n x c) i ≡ info_at c i = λ i. ap (λ ts. option_map info (task_in ts i)) tasks.0 in
    let here : info_at c b ≡ Some (Calling n r, t.parent) = ap (option_map info) there ∙ ap (λ w. Some (w, t.parent)) wait in
    record {
      rises = subst (λ m. RisesFrom 0 m (close n x c).tasks) (sym tasks.1) (subst (λ ts. RisesFrom 0 c.made ts) (sym tasks.0) g.rises);
      waited = λ k i q d is. ⊎_elim
          (λ same. absurd (close_at n i x c q d shut (ap (λ j. call (close n x c) j) (sym same) ∙ is)))
          (λ differ.
          let (s, p, at) = g.waited k i q d (sym (close_off n k x c differ) ∙ is) in (
            (λ same.
                let two : ◌≡◌ {A = Option Info} (Some (Calling n r, t.parent)) (Some (Calling k s, p)) = sym here ∙ ap (λ j. info_at c j) (sym same) ∙ at in
                let waits : Calling n r ≡ Calling k s = some_wait (Calling n r, t.parent) (Calling k s, p) two in let one : n ≡ k = cc waits in differ (sym one)),
            (s, p, info_is i ∙ at),
          ))
          (cases_eq k n);
      stands = λ i k s p apart at.
          let (q, d, is) = g.stands i k s p (sym (info_is i) ∙ at) in (
            q,
            d,
            ⊎_elim
                (λ same. absurd (
                let (q2, d2, is2) = g.stands b n r t.parent here in
                let two : Open i q d ≡ Open b q2 d2 = sym is ∙ ap (λ j. call c j) same ∙ is2 in
                let one : i ≡ b = cc two in apart one))
                (λ differ. close_off n k x c differ ∙ is)
                (cases_eq k n),
          );
      parents = λ i w p at. g.parents i w p (sym (info_is i) ∙ at);
      root = λ go. let (w, at) = g.root (sym (close_outcome n x c) ∙ go) in (w, info_is 0 ∙ at);
    }

-- ## Events
same_good : (c e : Config) → e.tasks ≡ c.tasks → e.made ≡ c.made → e.calls ≡ c.calls → e.outcome ≡ c.outcome → Good c → Good e
same_good c e tasks made calls outcome g =
    good_same c e (record {
      calls = calls;
      infos = λ i. ap (λ ts. option_map info (task_in ts i)) tasks;
      outcome = outcome;
      made = made;
      rises = subst (λ m. RisesFrom 0 m e.tasks) (sym made) (subst (λ ts. RisesFrom 0 c.made ts) (sym tasks) g.rises);
    }) g

pub is_awake_free : (w : Wait) → is_awake w ≡ true → NotCalling w
is_awake_free Awake is = tt
is_awake_free (Sleep d r) is = absurd (let f : false ≡ true = is in cc f)
is_awake_free (Delay d) is = absurd (let f : false ≡ true = is in cc f)
is_awake_free (Calling k r) is = absurd (let f : false ≡ true = is in cc f)
is_awake_free (Await n d r) is = absurd (let f : false ≡ true = is in cc f)

pub wants_free : (p : Program) (kind : NextKind) (t : Task) → wants p kind t ≡ true → NotCalling t.wait
wants_free p kind t is = is_awake_free t.wait (and_left (is_awake t.wait) (not (stands_waiting t.control)) (and_left (is_ready t) (same_kind kind (next_kind p t.control)) is))

-- a live task of which a test holds
pub for_task_good : (c : Config) (b : ℕ) (test : Task → Bool) (f : Task → After) → ((t : Task) → task c b ≡ Some t → test t ≡ true → Leads Good (f t)) → Leads Good (for_task c b test f)
for_task_good c b test f h = some_case (Leads Good) (task c b) NotNow (λ t. when (test t) (f t)) tt (λ t there. when_leads Good (test t) (f t) (λ is. h t there is))

-- what is counted
counted_good : (c : Config) (f : Config → After) → Good c → (Good (one_more c) → Leads Good (f (one_more c))) → Leads Good (counted c f)
counted_good c f g h =
    let one : Good (one_more c) = same_good c (one_more c) refl refl refl refl g in
    bool_case (Leads Good) (nat_lt (suc c.moves) move_limit) (f (one_more c)) (To (stopped (one_more c))) (λ _. h one) (λ _. with_outcome (one_more c) _ one (λ is. cc is))

-- the move of a task that is awake
moved_good : (p : Program) (b now : ℕ) (t : Task) (c : Config) → Good c → task c b ≡ Some t → NotCalling t.wait → Leads Good (by_itself p b now move c)
moved_good p b now t c g there free =
    by_itself_good p b now move c (except_of b t c g there free)
    (λ u at. let two : Some t ≡ Some u = sym there ∙ at in let one : t ≡ u = cc two in move_plain (scene p c b u now) (local c b u) (subst (λ (v : Task). NotCalling v.wait) one free))

-- ## A request is sent
call_new : (xs : List Call) (x : Call) → elim (slice_get (xs ++ x ∷ []) (length xs)) as (λ _. Call) [ None ↦ Answered | Some y ↦ y ] ≡ x
call_new [] x = refl
call_new (y ∷ ys) x = call_new ys x

call_old : (xs : List Call) (x : Call) (n : ℕ) → n < length xs → elim (slice_get (xs ++ x ∷ []) n) as (λ _. Call) [ None ↦ Answered | Some y ↦ y ] ≡ elim (slice_get xs n) as (λ _. Call) [ None ↦ Answered | Some y ↦ y ]
call_old [] x n lt = absurd (omega (arith, lt))
call_old (y ∷ ys) x zero lt = refl
call_old (y ∷ ys) x (suc n) lt = call_old ys x n (omega (arith, lt))

issued_call : (xs : List Call) (n : ℕ) (i : ℕ) (q : Request) (d : ℕ) → elim (slice_get xs n) as (λ _. Call) [ None ↦ Answered | Some y ↦ y ] ≡ Open i q d → n < length xs
issued_call [] n i q d is = absurd (let f : Answered ≡ Open i q d = is in cc f)
issued_call (y ∷ ys) zero i q d is = omega arith
issued_call (y ∷ ys) (suc n) i q d is = let lt = issued_call ys n i q d is in omega (arith, lt)

abbrev sent : ℕ → Request → ℕ → Config → Config
sent b q d c = record c { calls = c.calls ++ Open b q d ∷ [] }

-- a call of the list with one more is the new one, or one of the list
sent_call : (b k i : ℕ) (q r : Request) (d e : ℕ) (c : Config) → call (sent b q d c) k ≡ Open i r e → ((k ≡ suc (length c.calls)) × (i ≡ b)) ⊎ (call c k ≡ Open i r e)
sent_call b zero i q r d e c is = absurd (let f : Answered ≡ Open i r e = is in cc f)
sent_call b (suc n) i q r d e c is = ⊎_elim
    (λ same.
    let two : Open b q d ≡ Open i r e = sym (call_new c.calls (Open b q d)) ∙ ap (λ m. elim (slice_get (c.calls ++ Open b q d ∷ []) m) as (λ _. Call) [ None ↦ Answered | Some y ↦ y ]) (sym same) ∙ is in
    let one : b ≡ i = cc two in
    inl (ap suc same, sym one))
    (λ differ.
    let lt : n < length (c.calls ++ Open b q d ∷ []) = issued_call (c.calls ++ Open b q d ∷ []) n i r e is in
    inr (sym (call_old c.calls (Open b q d) n (below n (length c.calls) (omega (arith, lt, length_more c.calls (Open b q d))) differ)) ∙ is))
    (cases_eq n (length c.calls))
  where
    length_more : (xs : List Call) (x : Call) → length (xs ++ x ∷ []) ≡ suc (length xs)
    length_more [] x = refl
    length_more (y ∷ ys) x = ap suc (length_more ys x)

    below : (a m : ℕ) → a ≤ m → (a ≡ m → ⊥) → a < m
    below a m le differ = omega (arith, le, different a m differ)
      where
        different : (u v : ℕ) → (u ≡ v → ⊥) → u ≢ v
        different u v not_same = not_same

sent_old : (b k i : ℕ) (q r : Request) (d e : ℕ) (c : Config) → call c k ≡ Open i r e → call (sent b q d c) k ≡ Open i r e
sent_old b zero i q r d e c is = is
sent_old b (suc n) i q r d e c is = call_old c.calls (Open b q d) n (issued_call c.calls n i r e is) ∙ is

-- the task waits for the call that it sent
sent_good : (b : ℕ) (t u : Task) (q : Request) (d : ℕ) (r : Option Text) (c : Config) → Except b c → task c b ≡ Some t → u.parent ≡ t.parent → u.wait ≡ Calling (suc (length c.calls)) r → Good (with_task b u (sent b q d c))
sent_good b t u q d r c h there parent wait =
    let e = sent b q d c in
    let n = suc (length c.calls) in
    let here : info_at (with_task b u e) b ≡ Some (Calling n r, u.parent) = put_at e b u ∙ ap (λ w. Some (w, u.parent)) wait in
    let new_call : call e n ≡ Open b q d = call_new c.calls (Open b q d) in
    record {
      rises = put_rises 0 c.made b u c.tasks (omega arith) (known 0 c.made b c.tasks t h.rises there) h.rises;
      waited = λ k i s f is. ⊎_elim
          (λ new. (r, u.parent, ap (λ j. info_at (with_task b u e) j) new.1 ∙ here ∙ ap (λ j. Some (Calling j r, u.parent)) (sym new.0)))
          (λ old. let (differ, (o, p, at)) = h.waited k i s f old in (o, p, put_off e b i u differ ∙ at))
          (sent_call b k i q s d f c is);
      stands = λ i k o p at. ⊎_elim
          (λ same.
          let two : ◌≡◌ {A = Option Info} (Some (Calling n r, u.parent)) (Some (Calling k o, p)) = sym here ∙ ap (λ j. info_at (with_task b u e) j) (sym same) ∙ at in
          let waits : Calling n r ≡ Calling k o = some_wait (Calling n r, u.parent) (Calling k o, p) two in
          let one : n ≡ k = cc waits in
          (q, d, ap (λ j. call e j) (sym one) ∙ new_call ∙ ap (λ j. Open j q d) (sym same)))
          (λ differ. let (s, f, is) = h.stands i k o p differ (sym (put_off e b i u differ) ∙ at) in (s, f, sent_old b k i q s d f c is))
          (cases_eq i b);
      parents = λ i w p at is. ⊎_elim
          (λ same.
          let two : ◌≡◌ {A = Option Info} (Some (u.wait, u.parent)) (Some (w, Some p)) = sym (put_at e b u) ∙ ap (λ j. info_at (with_task b u e) j) (sym same) ∙ at in
          let one : u.parent ≡ Some p = some_parent (u.wait, u.parent) (w, Some p) two in
          h.parents b t.wait p (ap (option_map info) there ∙ ap (λ o. Some (t.wait, o)) (sym parent ∙ one)) (is ∙ same))
          (λ differ. h.parents i w p (sym (put_off e b i u differ) ∙ at) is)
          (cases_eq i b);
      root = λ go.
          let (w, at) = h.root go in
          ⊎_elim (λ same. (u.wait, put_root b t u e w there parent same at)) (λ differ. (w, put_off e b 0 u differ ∙ at)) (cases_eq 0 b);
    }

-- ## By the kind of event
by_itself_free : (p : Program) (b now : ℕ) (f : Scene → Local → Moved) (c : Config) → Good c → ((t : Task) → task c b ≡ Some t → NotCalling t.wait) → ((t : Task) → Plain (f (scene p c b t now) (local c b t))) → Leads Good (by_itself p b now f c)
by_itself_free p b now f c g free plain =
    some_case (Leads Good) (task c b) NotNow (λ t. merged b t.parent (f (scene p c b t now) (local c b t)) c) tt
    (λ t there.
    let h = except_of b t c g there (free t there) in
    merged_good b t.parent (f (scene p c b t now) (local c b t)) c h (far_parent b t c h there) (plain t))

-- a request
sends_good : (p : Program) (b now : ℕ) (t : Task) (m : Moved) (c : Config) → Except b c → task c b ≡ Some t → SendsOne (scene p c b t now) m → Leads Good (merged b t.parent m c)
sends_good p b now t m c h there s =
    let e = sent b s.request s.due c in
    let goal : Good (put_back b s.local e) =
    by_cases Good (task e b) e (λ v. put_outer s.local.outer (with_task b (record v { control = s.local.control; layers = s.local.layers; wait = s.local.wait }) e))
    (λ gone. absurd (let f : None ≡ Some t = sym gone ∙ there in cc f))
    (λ v at.
    let u = record v { control = s.local.control; layers = s.local.layers; wait = s.local.wait } in
    let g = sent_good b v u s.request s.due s.result c h at refl s.wait in
    good_same (with_task b u e) (put_outer s.local.outer (with_task b u e)) (put_outer_same s.local.outer (with_task b u e) (Good.rises g)) g) in
    subst (λ x. Leads Good (merged b t.parent x c)) (sym s.is) goal

issued_good : (p : Program) (b now : ℕ) (t : Task) (c : Config) → Good c → task c b ≡ Some t → NotCalling t.wait → Leads Good (by_itself p b now issue c)
issued_good p b now t c g there free =
    some_case (Leads Good) (task c b) NotNow (λ u. merged b u.parent (issue (scene p c b u now) (local c b u)) c) tt
    (λ u at.
    let two : Some t ≡ Some u = sym there ∙ at in
    let one : t ≡ u = cc two in
    let free_here : NotCalling u.wait = subst (λ (v : Task). NotCalling v.wait) one free in
    let h = except_of b u c g at free_here in
    ⊎_elim
    (λ plain. merged_good b u.parent (issue (scene p c b u now) (local c b u)) c h (far_parent b u c h at) plain)
    (λ sends. sends_good p b now u (issue (scene p c b u now) (local c b u)) c h at sends)
    (issue_issued (scene p c b u now) (local c b u) free_here))

-- an answer
replied_good : (p : Program) (n : ℕ) (a : Reply) (i : ℕ) (t : Task) (w : Wait) (s : Option Text) (c : Config) → Good c → task c i ≡ Some t → t.wait ≡ Calling n s → t.wait ≡ w → Leads Good (replied p n a i w c)
replied_good p n a i t (Calling m r) s c g there waits is =
    let e = record c { bodies = c.bodies + reply_length a } in
    let f : Scene → Local → Moved = λ z l. resumed z r (reply_result a) l in
    bool_case (Leads Good) (nat_le (c.bodies + reply_length a) body_limit) (by_itself p i 0 f (close n Answered e)) (To (stopped c))
    (λ _. by_itself_good p i 0 f (close n Answered e) (closed_except i n t s Answered e (same_good c e refl refl refl refl g) there waits (inl refl)) (λ u at. resumed_plain (scene p (close n Answered e) i u 0) r (reply_result a) (local (close n Answered e) i u)))
    (λ _. with_outcome c _ g (λ is. cc is))
replied_good p n a i t Awake s c g there waits is = tt
replied_good p n a i t (Sleep d r) s c g there waits is = tt
replied_good p n a i t (Delay d) s c g there waits is = tt
replied_good p n a i t (Await m d r) s c g there waits is = tt

replied_to_good : (p : Program) (n : ℕ) (a : Reply) (x : Call) (c : Config) → Good c → call c n ≡ x → Leads Good (replied_to p n a x c)
replied_to_good p n a (Open i q d) c g is =
    some_case (Leads Good) (task c i) NotNow (λ t. replied p n a i t.wait c) tt
    (λ t there.
    let (r, o, at) = g.waited n i q d is in
    let two : ◌≡◌ {A = Option Info} (Some (t.wait, t.parent)) (Some (Calling n r, o)) = sym (ap (option_map info) there) ∙ at in
    replied_good p n a i t t.wait r c g there (some_wait (t.wait, t.parent) (Calling n r, o) two) refl)
replied_to_good p n a Answered c g is = tt
replied_to_good p n a TimedOut c g is = tt

-- a due moment
timed_except : (b : ℕ) (t : Task) (w : Wait) (c : Config) → Good c → task c b ≡ Some t → t.wait ≡ w → Except b (timed_out w c)
timed_except b t (Calling n r) c g there is = closed_except b n t r TimedOut c g there is (inr refl)
timed_except b t Awake c g there is = except_of b t c g there (subst NotCalling (sym is) tt)
timed_except b t (Sleep d r) c g there is = except_of b t c g there (subst NotCalling (sym is) tt)
timed_except b t (Delay d) c g there is = except_of b t c g there (subst NotCalling (sym is) tt)
timed_except b t (Await n d r) c g there is = except_of b t c g there (subst NotCalling (sym is) tt)

-- a request that comes
waits_free : (n : ℕ) (w : Wait) → waits_for n w ≡ true → NotCalling w
waits_free n Awake is = absurd (let f : false ≡ true = is in cc f)
waits_free n (Sleep d r) is = absurd (let f : false ≡ true = is in cc f)
waits_free n (Delay d) is = absurd (let f : false ≡ true = is in cc f)
waits_free n (Calling k r) is = absurd (let f : false ≡ true = is in cc f)
waits_free n (Await m d r) is = tt

pub waiting_from : (n b low made : ℕ) (ts : List (ℕ × Task)) → RisesFrom low made ts → waiting_in n ts ≡ Some b → low ≤ b
waiting_from n b low made [] h is = absurd (let f : None ≡ Some b = is in cc f)
waiting_from n b low made (u ∷ us) h found =
    bool_case (λ o. o ≡ Some b → low ≤ b) (waits_for n u.1.wait) (Some u.0) (waiting_in n us)
    (λ _ is. let one : u.0 ≡ b = cc is in let le = h.0 in omega (arith, le, one))
    (λ _ is. let more = waiting_from n b (suc u.0) made us h.2 is in let le = h.0 in omega (arith, le, more))
    found

waiting_free : (n b low made : ℕ) (t : Task) (ts : List (ℕ × Task)) → RisesFrom low made ts → waiting_in n ts ≡ Some b → task_in ts b ≡ Some t → NotCalling t.wait
waiting_free n b low made t [] h is at = absurd (let f : None ≡ Some b = is in cc f)
waiting_free n b low made t (u ∷ us) h found at =
    bool_case (λ o. o ≡ Some b → task_in (u ∷ us) b ≡ Some t → NotCalling t.wait) (waits_for n u.1.wait) (Some u.0) (waiting_in n us)
    (λ on is there.
    let one : u.0 ≡ b = cc is in
    let two : Some u.1 ≡ Some t = sym (ap (λ v. if v then Some u.1 else task_in us b) (eq-eqb u.0 b one)) ∙ there in
    let same : u.1 ≡ t = cc two in
    subst (λ (v : Task). NotCalling v.wait) same (waits_free n u.1.wait on))
    (λ _ is there.
    let more = waiting_from n b (suc u.0) made us h.2 is in
    waiting_free n b (suc u.0) made t us h.2 is (sym (ap (λ v. if v then Some u.1 else task_in us b) (ne_eqb u.0 b (λ same. omega (arith, more, same)))) ∙ there))
    found at

taken_good : (p : Program) (n : ℕ) (v : Visitor) (o : Option ℕ) (c : Config) → Good c → ((b : ℕ) (t : Task) → o ≡ Some b → task c b ≡ Some t → NotCalling t.wait) → Leads Good (taken_by p n v o c)
taken_good p n v None c g free = same_good c _ refl refl refl refl g
taken_good p n v (Some b) c g free =
    by_itself_free p b 0 (λ s l. resumed s (result_of l.wait) (visit_result v) l) c g (λ t there. free b t refl there)
    (λ t. resumed_plain (scene p c b t 0) (result_of (local c b t).wait) (visit_result v) (local c b t))

visited_good : (p : Program) (n : ℕ) (v : Visitor) (f : Option ArriveFault) (c : Config) → Good c → Leads Good (visited p n v f c)
visited_good p n v (Some f) c g = tt
visited_good p n v None c g =
    taken_good p n v (waiting_in n c.tasks) (record c { bodies = c.bodies + length v.body }) (same_good c _ refl refl refl refl g)
    (λ b t is there. waiting_free n b 0 c.made t c.tasks g.rises is there)

module _ (a : ℕ) (t : Task) where
  begun_good : (body : ParallelBody) (left : WorkLeft) (n : ℕ) (running : List ℕ) (es : List (ℕ × Data)) (k : List Item) (c : Config) → Good c → task c a ≡ Some t → Good (begun a t body left n running es k c)
  begun_good body left n running es k c g there =
      let d = record c { made = suc c.made } in
      let more : Good d = record { rises = higher 0 c.made (suc c.made) c.tasks (omega arith) g.rises; waited = g.waited; stands = g.stands; parents = g.parents; root = g.root } in
      let u = record t { control = Item.Join body left (suc n) running es ∷ k } in
      good_same d (with_task a u d) (same_put d a t u (Good.rises more) there refl) more

  -- the new task
  made_except : (n : ℕ) (c : Config) → Good c → a < c.made → RisesFrom 0 c.made c.tasks → (e : Config) → Good e → e.made ≡ suc c.made → ((i : ℕ) → info_at e i ≡ info_at c i) → Except c.made (with_task c.made (new_task a n) e)
  made_except n c g less rises e h made infos =
      let b = c.made in
      let u = new_task a n in
      let live : (i : ℕ) (x : Info) → info_at e i ≡ Some x → i ≡ b → ⊥ = λ i x at same. not_live i x (sym (infos i) ∙ at) same in
      record {
        rises = put_rises 0 e.made b u e.tasks (omega arith) (omega (arith, made)) h.rises;
        waited = λ k i q d is.
            let (r, p, at) = h.waited k i q d is in
            (live i (Calling k r, p) at, (r, p, put_off e b i u (live i (Calling k r, p) at) ∙ at));
        stands = λ i k r p differ at. h.stands i k r p (sym (put_off e b i u differ) ∙ at);
        parents = λ i w p at is. ⊎_elim
            (λ same.
            let two : ◌≡◌ {A = Option Info} (Some (Awake, Some (a, n))) (Some (w, Some p)) = sym (put_at e b u) ∙ ap (λ j. info_at (with_task b u e) j) (sym same) ∙ at in
            let one : Some (a, n) ≡ Some p = some_parent (Awake, Some (a, n)) (w, Some p) two in
            let pair : (a, n) ≡ p = cc one in
            let first : a ≡ p.0 = ap (λ (z : ℕ × ℕ). z.0) pair in
            omega (arith, less, first, is, same))
            (λ differ. h.parents i w p (sym (put_off e b i u differ) ∙ at) is)
            (cases_eq i b);
        root = λ go. let (w, at) = h.root go in (w, put_off e b 0 u (live 0 (w, None) at) ∙ at);
      }
    where
      not_live : (i : ℕ) (x : Info) → info_at c i ≡ Some x → i ≡ c.made → ⊥
      not_live i x at same =
          by_cases (λ o. o ≡ Some x → ⊥) (task_in c.tasks i) None (λ v. Some (info v)) (λ _ is. cc is)
          (λ v there is. let lt = known 0 c.made i c.tasks v rises there in omega (arith, lt, same)) at

  starts_good : (body : ParallelBody) (left : WorkLeft) (n : ℕ) (running : List ℕ) (es : List (ℕ × Data)) (k : List Item) (ss : Steps) (ps : Answer Pairs) (c : Config) → Good c → task c a ≡ Some t → Leads Good (starts a t body left n running es k ss ps c)
  starts_good body left n running es k ss (Ok ps) c g there =
      let e = begun a t body left n (running ++ c.made ∷ []) es k c in
      let h = begun_good body left n (running ++ c.made ∷ []) es k c g there in
      let less = known 0 c.made a c.tasks t g.rises there in
      let d = record c { made = suc c.made } in
      let u = record t { control = Item.Join body left (suc n) (running ++ c.made ∷ []) es ∷ k } in
      let infos : (i : ℕ) → info_at e i ≡ info_at c i = Same.infos (same_put d a t u (higher 0 c.made (suc c.made) c.tasks (omega arith) g.rises) there refl) in
      let x = made_except n c g less g.rises e h refl infos in
      merged_good c.made (Some (a, n)) (goes (Do ss ss ∷ []) (fresh ps)) (with_task c.made (new_task a n) e) x
      (λ p is. ((λ same. let one : (a, n) ≡ p = cc is in let first : a ≡ p.0 = ap (λ (z : ℕ × ℕ). z.0) one in omega (arith, less, first, same)), λ _ zero_is. omega (arith, less, zero_is)))
      (goes_plain (Do ss ss ∷ []) (fresh ps) tt)
  starts_good body left n running es k ss (Err f) c g there = begun_good body left n running (put_error n (error_map f) es) k c g there

  starts_turn_good : (body : ParallelBody) (l : LoopBody) (v : Option (Data × Left)) (n : ℕ) (running : List ℕ) (es : List (ℕ × Data)) (k : List Item) (c : Config) → Good c → task c a ≡ Some t → Leads Good (starts_turn a t body l v n running es k c)
  starts_turn_good body l None n running es k c g there = tt
  starts_turn_good body l (Some v) n running es k c g there = starts_good body (ValuesLeft v.1) n running es k (loop_steps l) _ c g there

  starts_work_good : (body : ParallelBody) (left : WorkLeft) (n : ℕ) (running : List ℕ) (es : List (ℕ × Data)) (k : List Item) (c : Config) → Good c → task c a ≡ Some t → Leads Good (starts_work a t body left n running es k c)
  starts_work_good body (BranchesLeft (branch x ss bs)) n running es k c g there = starts_good body (BranchesLeft bs) n running es k ss (Ok no_pairs) c g there
  starts_work_good body (BranchesLeft no_branches) n running es k c g there = tt
  starts_work_good (parallel names limit (OfLoop l)) (ValuesLeft left) n running es k c g there = starts_turn_good (parallel names limit (OfLoop l)) l (next_of left) n running es k c g there
  starts_work_good (parallel names limit (OfBranches bs)) (ValuesLeft left) n running es k c g there = tt

  begins_good : (k : List Item) (c : Config) → Good c → task c a ≡ Some t → Leads Good (begins_by a t k c)
  begins_good (Item.Join body left n running es ∷ k) c g there = starts_work_good body left n running es k c g there
  begins_good [] c g there = tt
  begins_good (i ∷ k) c g there = tt

-- ## Steps and runs
read_good : (r : ℕ) (c : Config) → Good c → Good (read_at r c)
read_good r c g = same_good c (read_at r c) refl refl refl refl g

by_event_good : (p : Program) (c : Config) (e : Event) → Good c → Leads Good (by_event p c e)
by_event_good p c (Event.Move b) g =
    for_task_good c b (wants p Plainly) _ (λ t there is. counted_good c (by_itself p b 0 move) g (λ one. moved_good p b 0 t (one_more c) one there (wants_free p Plainly t is)))
by_event_good p c (Event.MoveAt b r) g =
    when_leads Good (nat_le c.last r) _ (λ _. for_task_good c b (wants p ByClock) _ (λ t there is.
    counted_good (read_at r c) (by_itself p b r move) (read_good r c g) (λ one. moved_good p b r t (one_more (read_at r c)) one there (wants_free p ByClock t is))))
by_event_good p c (Event.Begin b) g =
    for_task_good c b may_begin _ (λ t there is. counted_good c (begins_by b t t.control) g (λ one. begins_good b t t.control (one_more c) one there))
by_event_good p c (Event.Issue b r) g =
    when_leads Good (nat_le c.last r) _ (λ _. for_task_good c b (wants p ByCall) _ (λ t there is.
    counted_good (read_at r c) (by_itself p b r issue) (read_good r c g) (λ one. issued_good p b r t (one_more (read_at r c)) one there (wants_free p ByCall t is))))
by_event_good p c (Event.Answer n r a) g = when_leads Good (nat_le c.last r) _ (λ _. replied_to_good p n a (call c n) (read_at r c) (read_good r c g) (call_same c (read_at r c) n refl))
by_event_good p c (Event.Due b r) g =
    when_leads Good (nat_le c.last r) _ (λ _. for_task_good c b (λ t. is_due c r t.wait) _ (λ t there is.
    by_itself_good p b r due (timed_out t.wait (read_at r c)) (timed_except b t t.wait (read_at r c) (read_good r c g) there refl) (λ u at. due_plain (scene p (timed_out t.wait (read_at r c)) b u r) (local (timed_out t.wait (read_at r c)) b u))))
by_event_good p c (Event.Arrive n r v) g = when_leads Good (nat_le c.last r) _ (λ _. visited_good p n v (arrive_fault c.endpoints n v (bodies_left c)) (read_at r c) (read_good r c g))
by_event_good p c (Event.Cancel r) g = when_leads Good (nat_le c.last r) _ (λ _. with_outcome (read_at r c) Cancelled (read_good r c g) (λ is. cc is))

step_from_good : (o : Outcome) (p : Program) (c : Config) (e : Event) → Good c → Leads Good (step_from o p c e)
step_from_good Active p c e g = by_event_good p c e g
step_from_good (Returned v) p c e g = tt
step_from_good (Raised v) p c e g = tt
step_from_good Cancelled p c e g = tt

run_good : (p : Program) (a : After) (es : List Event) → Leads Good a → Leads Good (run_on p a es)
run_good p a [] h = h
run_good p (To c) (e ∷ es) h = run_good p (next p c e) es (step_from_good c.outcome p c e h)
run_good p (Wrong k) (e ∷ es) h = tt
run_good p NotNow (e ∷ es) h = tt

first_info : (s : Start) (i : ℕ) → (i ≡ 0 → ⊥) → info_at (empty s) i ≡ None
first_info s i differ = ap (λ v. option_map info (if v then Some main_task else None)) (ne_eqb 0 i (λ same. differ (sym same)))

no_calls : (s : Start) (k i : ℕ) (q : Request) (d : ℕ) → call (empty s) k ≡ Open i q d → ⊥
no_calls s zero i q d is = let f : Answered ≡ Open i q d = is in cc f
no_calls s (suc k) i q d is = let f : Answered ≡ Open i q d = is in cc f

initial_good : (p : Program) (s : Start) → Leads Good (initial p s)
initial_good p s =
    let v : Data = unwrap_or (json_value s.argument) null in
    merged_good 0 None (goes (Do (main_steps p.flows) (main_steps p.flows) ∷ []) (main_local p v)) (empty s)
    (record {
      rises = (omega arith, omega arith, tt);
      waited = λ k i q d is. absurd (no_calls s k i q d is);
      stands = λ i k r o differ at. absurd (let f : None ≡ Some (Calling k r, o) = sym (first_info s i differ) ∙ at in cc f);
      parents = λ i w o at is. ⊎_elim
          (λ same.
          let two : ◌≡◌ {A = Option Info} (Some (Awake, None)) (Some (w, Some o)) = ap (λ j. info_at (empty s) j) (sym same) ∙ at in
          let f : None ≡ Some o = some_parent (Awake, None) (w, Some o) two in cc f)
          (λ differ. let f : None ≡ Some (w, Some o) = sym (first_info s i differ) ∙ at in cc f)
          (cases_eq i 0);
      root = λ go. (Awake, refl);
    })
    (λ o is. absurd (let f : None ≡ Some o = is in cc f))
    (goes_plain (Do (main_steps p.flows) (main_steps p.flows) ∷ []) (main_local p v) tt)

pub task_of : (c : Config) (b : ℕ) (x : Info) → info_at c b ≡ Some x → (t : Task) × (task c b ≡ Some t) × (info t ≡ x)
task_of c b x is =
    by_cases (λ o. o ≡ Some x → (t : Task) × (task_in c.tasks b ≡ Some t) × (info t ≡ x)) (task_in c.tasks b) None (λ t. Some (info t))
    (λ _ none. absurd (let f : None ≡ Some x = none in cc f))
    (λ t there some. (t, there, let one : info t ≡ x = cc some in one)) is

awaited : (c : Config) → Good c → Awaited c
awaited c g = record {
  waited = λ k b q d is.
      let (r, p, at) = g.waited k b q d is in
      let (t, there, same) = task_of c b (Calling k r, p) at in
      (t, r, there, ap (λ (z : Info). z.0) same);
  stands = λ b k t r there waits. g.stands b k r t.parent (ap (option_map info) there ∙ ap (λ w. Some (w, t.parent)) waits);
}

pub calls_are_awaited : CallsAreAwaited
calls_are_awaited p s es c is = awaited c (led_to Good (run_on p (initial p s) es) c (run_good p (initial p s) es (initial_good p s)) is)

-- ## Task 0, and due moments
pub root_lives : RootLives
root_lives p s es c is go =
    let (w, at) = Good.root (led_to Good (run_on p (initial p s) es) c (run_good p (initial p s) es (initial_good p s)) is) go in
    let (t, there, same) = task_of c 0 (w, None) at in
    (t, there)

due_there : (c : Config) (b : ℕ) (t : Task) → Awaited c → task c b ≡ Some t → (w : Wait) → t.wait ≡ w → is_awake w ≡ false → (d : ℕ) × (due_of c w ≡ Some d)
due_there c b t a there Awake is not_awake = absurd (let f : true ≡ false = not_awake in cc f)
due_there c b t a there (Sleep d r) is not_awake = (d, refl)
due_there c b t a there (Delay d) is not_awake = (d, refl)
due_there c b t a there (Calling k r) is not_awake = let (q, d, one) = a.stands b k t r there is in (d, ap call_due one)
due_there c b t a there (Await n d r) is not_awake = (d, refl)

-- with one more, there is a least
least_more : (d : ℕ) (ds : List ℕ) → (e : ℕ) × (least_in (d ∷ ds) ≡ Some e)
least_more d ds = of (least_in ds)
  where
    of : (o : Option ℕ) → (e : ℕ) × (elim o [ None ↦ Some d | Some f ↦ Some (min d f) ] ≡ Some e)
    of None = (d, refl)
    of (Some f) = (min d f, refl)

least_of : (c : Config) (b : ℕ) (t : Task) (d : ℕ) (ts : List (ℕ × Task)) → task_in ts b ≡ Some t → due_of c t.wait ≡ Some d → (e : ℕ) × (least_in (dues_in c ts) ≡ Some e)
least_of c b t d [] there is = absurd (let f : None ≡ Some t = there in cc f)
least_of c b t d (u ∷ us) there is =
    bool_case (λ o. o ≡ Some t → (e : ℕ) × (least_in (elim (due_of c u.1.wait) [ None ↦ dues_in c us | Some f ↦ f ∷ dues_in c us ]) ≡ Some e)) (nat_eq u.0 b) (Some u.1) (task_in us b)
    (λ _ here.
    let same : u.1 ≡ t = cc here in
    let due_is : due_of c u.1.wait ≡ Some d = ap (λ (v : Task). due_of c v.wait) same ∙ is in
    let (e, least) = least_more d (dues_in c us) in
    (e, ap (λ o. least_in (elim o [ None ↦ dues_in c us | Some f ↦ f ∷ dues_in c us ])) due_is ∙ least))
    (λ _ here.
    let (e, least) = least_of c b t d us here is in
    by_cases (λ l. (g : ℕ) × (least_in l ≡ Some g)) (due_of c u.1.wait) (dues_in c us) (λ f. f ∷ dues_in c us) (λ _. (e, least)) (λ f _. least_more f (dues_in c us)))
    there

pub waiting_has_a_due : WaitingHasADue
waiting_has_a_due c b t a there not_awake =
    let (d, is) = due_there c b t a there t.wait refl not_awake in
    least_of c b t d c.tasks there is

-- ## As laws of steps
pub sound_at_first : SoundAtFirst
sound_at_first p s c is = led_to Good (initial p s) c (initial_good p s) is

pub steps_stay_sound : StepsStaySound
steps_stay_sound p b c e sound is = led_to Good (next p b e) c (step_from_good b.outcome p b e sound) is

pub sound_is_awaited : SoundIsAwaited
sound_is_awaited c sound = awaited c sound

-- ## Where nothing can move
no_part : (a b d n : Bool) → not (a || b || d) && n ≡ true → (a ≡ false) × (n ≡ true)
no_part true b d n is = absurd (let f : false ≡ true = is in cc f)
no_part false true d n is = absurd (let f : false ≡ true = is in cc f)
no_part false false true n is = absurd (let f : false ≡ true = is in cc f)
no_part false false false n is = (refl, is)

not_ready : (c : Config) (r b : ℕ) (t : Task) (ts : List (ℕ × Task)) → none_goes_on c r ts ≡ true → task_in ts b ≡ Some t → is_ready t ≡ false
not_ready c r b t [] none there = absurd (let f : None ≡ Some t = there in cc f)
not_ready c r b t (u ∷ us) none there =
    let parts = no_part (is_ready u.1) (may_begin u.1) (is_due c r u.1.wait) (none_goes_on c r us) none in
    bool_case (λ o. o ≡ Some t → is_ready t ≡ false) (nat_eq u.0 b) (Some u.1) (task_in us b)
    (λ _ is. let same : u.1 ≡ t = cc is in subst (λ (v : Task). is_ready v ≡ false) same parts.0)
    (λ _ is. not_ready c r b t us parts.1 is)
    there

not_first : (a b : Bool) → a && not b ≡ false → b ≡ false → a ≡ false
not_first true true is off = absurd (let f : true ≡ false = off in cc f)
not_first true false is off = is
not_first false b is off = refl

pub quiet_has_a_due : QuietHasADue
quiet_has_a_due c r b t a there stands still =
    waiting_has_a_due c b t a there (not_first (is_awake t.wait) (stands_waiting t.control) (not_ready c r b t c.tasks still there) stands)
