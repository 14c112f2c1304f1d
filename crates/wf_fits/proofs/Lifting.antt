-- The values and the totals of a configuration stay within the limits through each event.
--     Within          what is kept
--     steps_within    each event keeps it, of tasks that are linked
use Rattle.std.specs.Prelude.{◌≡◌, ℕ, zero, suc, ◌+◌, ◌-◌, ◌≤◌, ◌<◌, ◌⊎◌, Bool, true, false, List, [], ◌∷◌, ◌++◌, option_and_then, Some, None, Ok, Err, Option, Result, if◌then◌else◌, nat_eq, nat_lt, nat_le, unwrap_or, length}
use Rattle.std.proofs.Common.{arith}
use Rattle.std.proofs.lemmas.Bool.{cases_eq}
use Rattle.std.proofs.lemmas.Option.{same_Some}
use mathlib.Core.Logic.{inl, inr}
use mathlib.Core.Path.{refl, sym, subst, ap, ◌∙◌}
use Rattle.wf_ast.specs.Tree.{Steps, no_steps, more, LoopBody, ParallelBody, parallel, OfBranches, OfLoop, branch, no_branches, Param, Flow, Program}
use Rattle.wf_fits.proofs.Holding as holding
use Rattle.wf_fits.proofs.Holding.{OutersShallow, places_of, NamesShallow}
use Rattle.wf_fits.proofs.Totals.{Below, sizes_in, Falls, AllBelow, put_total, drop_total, new_total, sizes_below, put_outer_total, seen, own_and_seen, seen_below, InOrder}
use Rattle.wf_fits.proofs.Values.{error_shallow, ResultShallow, reply_shallow, visit_shallow, json_shallow}
use Rattle.wf_fits.specs.Limits.{IsSmall, Shallow, OptionShallow, PairsShallow, WorkShallow, ErrorsShallow, ItemsShallow, LayersShallow, LogShallow, OutcomeShallow, FlowsShallow, TaskShallow, Within}
use Rattle.wf_model.proofs.After.{Leads}
use Rattle.wf_model.proofs.TaskLists.{put_rises, drop_rises, higher, known, put_same, put_other, drop_other, drop_same}
use Rattle.wf_model.proofs.Walk.{option_case, bool_case, when_leads}
use Rattle.wf_model.specs.Config.{Layer, Left, WorkLeft, BranchesLeft, ValuesLeft, Item, Do, Entries, Then, Loop, Try, Judge, Mark, Back, Join, Wait, Awake, Sleep, Delay, Calling, Await, Task, Call, Open, Answered, TimedOut, LogEntry, Outcome, Active, Returned, Raised, Cancelled, Config, After, To, NotNow, limits, log_limit, body_limit, move_limit, task_in, put_in, drop_in, task, with_task, next_of}
use Rattle.wf_model.specs.Kinds.{Plainly, ByClock, ByCall}
use Rattle.wf_model.specs.Layers.{bound}
use Rattle.wf_model.specs.Local.{Outer, Local, Scene, End, Gives, Fails, Sends, Creates, Takes, Logs, Moved, Goes, Ends, Does, Breaks, Not, layers_total, goes}
use Rattle.wf_model.specs.Move.{loop_names, loop_steps, move, issue, resumed, due}
use Rattle.wf_model.specs.Ready.{call, is_due, may_begin}
use Rattle.wf_model.specs.Run.{main_steps, argument_in, main_vars, main_task, main_local, empty, initial}
use Rattle.wf_model.specs.RunLaws.{RisesFrom}
use Rattle.wf_model.specs.Step.{stopped, one_more, counted, read_at, close, replied, replied_to, timed_out, begun, new_task, fresh, starts, starts_turn, starts_work, begins_by, when, wants, for_task, bodies_left, waiting_in, result_of, taken_by, visited, by_event, step_from, next}
use Rattle.wf_model.specs.Taken.{step_shares, outers, outside, local, tasks_total, log_total, scene, layer_at, put_outer, put_back, put_error, kept_error, joined, without_task, outcome_of, finish, done, merged, by_itself}
use Rattle.wf_never_wrong.proofs.Arguments.{Each}
use Rattle.wf_never_wrong.proofs.Tasks.{some_is_no, none_made}
use Rattle.wf_never_wrong.specs.Stands.{OfEach}
use Rattle.wf_value.specs.Data.{Data, null, Pairs, no_pairs, size, pairs_size}
use Rattle.std.specs.Str.{is_utf8}
use Rattle.wf_value.specs.Decode.{shallow, json_value}
use Rattle.serde_json.specs.Read.{read}
use Rattle.wf_value.specs.Json.{value_of}
use Rattle.wf_value.specs.Errors.{Answer, error_map}
use Rattle.wf_value.specs.Events.{Event, Start, Visitor, Reply}
use Rattle.wf_value.specs.HttpText.{reply_result, visit_result, reply_length}
use Rattle.wf_value.specs.Queues.{ArriveFault, arrive_fault}
use Rattle.wf_value.specs.Pairs.{Text}
use Rattle.wf_value.specs.declared.Tag.TheVariants.{ResourceLimitError}

-- ## What is kept
abbrev pub TasksShallow : List (ℕ × Task) → Type 0
TasksShallow ts = OfEach ts (λ b t. TaskShallow t)

-- ## Tasks
each_put : (a : ℕ) (u : Task) (ts : List (ℕ × Task)) → TasksShallow ts → TaskShallow u → TasksShallow (put_in a u ts)
each_put a u ts h s b t e = by (cases_eq b a)
  where
    by : (b ≡ a) ⊎ (b ≡ a → ⊥) → TaskShallow t
    by (inl i) = subst TaskShallow (same_Some u t (sym (put_same a u ts) ∙ ap (task_in (put_in a u ts)) (sym i) ∙ e)) s
    by (inr d) = h b t (sym (put_other a b u ts d) ∙ e)

each_drop : (made a : ℕ) (ts : List (ℕ × Task)) → RisesFrom 0 made ts → TasksShallow ts → TasksShallow (drop_in a ts)
each_drop made a ts r h b t e = by (cases_eq b a)
  where
    by : (b ≡ a) ⊎ (b ≡ a → ⊥) → TaskShallow t
    by (inl i) = some_is_no t (sym e ∙ ap (task_in (drop_in a ts)) i ∙ drop_same 0 made a ts r)
    by (inr d) = h b t (sym (drop_other a b ts d) ∙ e)

layer_shallow : (i : ℕ) (x : Layer) (ls : List Layer) → PairsShallow x.vars → LayersShallow ls → LayersShallow (layer_at i x ls)
layer_shallow i x [] p h = tt
layer_shallow zero x (l ∷ ls) p h = (p, h.1)
layer_shallow (suc i) x (l ∷ ls) p h = (h.0, layer_shallow i x ls p h.1)

-- layers that go back
pub record PutBack (c d : Config) : Type 0 where
  pub tasks : TasksShallow d.tasks
  pub rises : RisesFrom 0 d.made d.tasks
  pub made : d.made ≡ c.made
  pub facts : d.facts ≡ c.facts
  pub log : d.log ≡ c.log
  pub outcome : d.outcome ≡ c.outcome
  pub found : (n : ℕ) (t : Task) → task_in c.tasks n ≡ Some t → (u : Task) × (task_in d.tasks n ≡ Some u) × (u.parent ≡ t.parent) × (u.control ≡ t.control)

pub put_outer_back : (os : List Outer) (c : Config) → OutersShallow os → TasksShallow c.tasks → RisesFrom 0 c.made c.tasks → PutBack c (put_outer os c)
put_outer_back [] c s h r = record { tasks = h; rises = r; made = refl; facts = refl; log = refl; outcome = refl; found = λ n t e. (t, e, refl, refl) }
put_outer_back (o ∷ os) c s h r = by (task c o.task) refl (put_outer_back os c s.1 h r) (λ d i j. put_outer_back os d s.1 i j)
  where
    by : (w : Option Task) → task c o.task ≡ w → PutBack c (put_outer os c) → ((d : Config) → TasksShallow d.tasks → RisesFrom 0 d.made d.tasks → PutBack d (put_outer os d))
        → PutBack c (elim w as (λ v. Config) [ None ↦ put_outer os c | Some t ↦ put_outer os (with_task o.task (record t { layers = layer_at o.above o.layer t.layers }) c) ])
    by None e k g = k
    by (Some t) e k g =
        let u : Task = record t { layers = layer_at o.above o.layer t.layers } in
        let d = with_task o.task u c in
        let x = g d (each_put o.task u c.tasks h ((h o.task t e).0, layer_shallow o.above o.layer t.layers s.0 (h o.task t e).1)) (put_rises 0 c.made o.task u c.tasks (omega arith) (known 0 c.made o.task c.tasks t r e) r) in
        record { tasks = x.tasks; rises = x.rises; made = x.made; facts = x.facts; log = x.log; outcome = x.outcome; found = λ n v i. there n v i x.found (cases_eq n o.task) }
      where
        there : (n : ℕ) (v : Task) → task_in c.tasks n ≡ Some v
            → ((m : ℕ) (w : Task) → task_in (put_in o.task (record t { layers = layer_at o.above o.layer t.layers }) c.tasks) m ≡ Some w → (y : Task) × (task_in (put_outer os (with_task o.task (record t { layers = layer_at o.above o.layer t.layers }) c)).tasks m ≡ Some y) × (y.parent ≡ w.parent) × (y.control ≡ w.control))
            → (n ≡ o.task) ⊎ (n ≡ o.task → ⊥) → (y : Task) × (task_in (put_outer os (with_task o.task (record t { layers = layer_at o.above o.layer t.layers }) c)).tasks n ≡ Some y) × (y.parent ≡ v.parent) × (y.control ≡ v.control)
        there n v i f (inl q) =
            let u : Task = record t { layers = layer_at o.above o.layer t.layers } in
            let same : t ≡ v = same_Some t v (sym e ∙ ap (task_in c.tasks) (sym q) ∙ i) in
            let y = f n u (ap (task_in (put_in o.task u c.tasks)) q ∙ put_same o.task u c.tasks) in
            (y.0, y.1, y.2 ∙ ap (λ w. w.parent) same, y.3 ∙ ap (λ w. w.control) same)
        there n v i f (inr q) = f n v (put_other o.task n (record t { layers = layer_at o.above o.layer t.layers }) c.tasks q ∙ i)

-- what each task sees outside is shallow
outers_shallow : (b i : ℕ) (ls : List Layer) (shared : List (List Text)) (rest : List Outer) → LayersShallow ls → OutersShallow rest → OutersShallow (outers b i ls shared rest)
outers_shallow b i [] shared rest h k = k
outers_shallow b i (l ∷ ls) shared rest h k = (h.0, by l.by_call (outers_shallow b (suc i) ls shared rest h.1 k))
  where
    by : (q : Bool) → OutersShallow (outers b (suc i) ls shared rest) → OutersShallow (if q then [] else outers b (suc i) ls shared rest)
    by true r = tt
    by false r = r

pub outside_shallow : (c : Config) → TasksShallow c.tasks → (n : ℕ) (o : Option (ℕ × ℕ)) (acc : List (List Text)) → OutersShallow (outside n c o acc)
outside_shallow c h zero o acc = tt
outside_shallow c h (suc n) None acc = tt
outside_shallow c h (suc n) (Some p) acc = by (task c p.0) refl (λ t shared. outside_shallow c h n t.parent shared)
  where
    by : (w : Option Task) → task c p.0 ≡ w → ((t : Task) (shared : List (List Text)) → OutersShallow (outside n c t.parent shared))
        → OutersShallow (elim w as (λ v. List Outer) [ None ↦ [] | Some t ↦ outers p.0 0 t.layers (step_shares t.control ∷ acc) (outside n c t.parent (step_shares t.control ∷ acc)) ])
    by None e f = tt
    by (Some t) e f = outers_shallow p.0 0 t.layers (step_shares t.control ∷ acc) (outside n c t.parent (step_shares t.control ∷ acc)) (h p.0 t e).1 (f t (step_shares t.control ∷ acc))

-- ## An ended task
put_error_shallow : (n : ℕ) (e : Data) (es : List (ℕ × Data)) → Shallow e → ErrorsShallow es → ErrorsShallow (put_error n e es)
put_error_shallow n e [] s h = (s, tt)
put_error_shallow n e (x ∷ xs) s h = by (nat_lt n x.0) (put_error_shallow n e xs s h.1)
  where
    by : (q : Bool) → ErrorsShallow (put_error n e xs) → ErrorsShallow (if q then (n, e) ∷ x ∷ xs else x ∷ put_error n e xs)
    by true r = (s, h)
    by false r = (h.0, r)

abbrev EndFine : End → Type 0
EndFine (Gives v) = Shallow v
EndFine (Fails e) = Shallow e

kept_shallow : (m : ℕ) (e : End) (es : List (ℕ × Data)) → EndFine e → ErrorsShallow es → ErrorsShallow (kept_error m e es)
kept_shallow m (Gives v) es s h = h
kept_shallow m (Fails e) es s h = put_error_shallow m e es s h

joined_shallow : (b m : ℕ) (e : End) (k : List Item) → EndFine e → ItemsShallow k → ItemsShallow (joined b m e k)
joined_shallow b m e (Join body w n r es ∷ k) s h = (h.0, kept_shallow m e es s h.1, h.2)
joined_shallow b m e [] s h = h
joined_shallow b m e (i ∷ k) s h = h

outcome_shallow : (e : End) → EndFine e → OutcomeShallow (outcome_of e)
outcome_shallow (Gives v) s = s
outcome_shallow (Fails v) s = s

end_fine : (s : Scene) (at : List (ℕ × ℕ)) (shallow : FlowsShallow s.program.flows) (e : End) → holding.EndShallow s at shallow (Unit {0}) (λ l. tt) e → EndFine e
end_fine s at shallow (Gives v) h = h
end_fine s at shallow (Fails v) h = h

abbrev Apart : Option (ℕ × ℕ) → ℕ → Type 0
Apart None b = Unit {0}
Apart (Some p) b = p.0 ≡ b → ⊥

finish_within : (b : ℕ) (o : Option (ℕ × ℕ)) (e : End) (c : Config) → Apart o b → EndFine e → RisesFrom 0 c.made c.tasks → TasksShallow c.tasks → tasks_total (drop_in b c.tasks) ≤ (limits c.facts.rules).variables → LogShallow c.log → log_total c.log ≤ log_limit → OutcomeShallow c.outcome
    → Within (finish b o e c)
finish_within b None e c k s r h t l m q = record { tasks = each_drop c.made b c.tasks r h; total = t; log = l; logged = m; outcome = outcome_shallow e s }
finish_within b (Some p) e c k s r h t l m q = by (task c p.0) refl
  where
    by : (w : Option Task) → task c p.0 ≡ w → Within (elim w as (λ v. Config) [ None ↦ without_task b c | Some u ↦ with_task p.0 (record u { control = joined b p.1 e u.control }) (without_task b c) ])
    by None i = record { tasks = each_drop c.made b c.tasks r h; total = t; log = l; logged = m; outcome = q }
    by (Some u) i =
        let v : Task = record u { control = joined b p.1 e u.control } in
        let same = put_total 0 c.made p.0 u v (drop_in b c.tasks) (drop_rises 0 c.made b c.tasks r) (drop_other b p.0 c.tasks k ∙ i) in
        record {
          tasks = each_put p.0 v (drop_in b c.tasks) (each_drop c.made b c.tasks r h) (joined_shallow b p.1 e u.control s (h p.0 u i).0, (h p.0 u i).1);
          total = omega (arith, same, t);
          log = l;
          logged = m;
          outcome = q;
        }

-- ## Controls
module _ (s : Scene) (at : List (ℕ × ℕ)) (small : FlowsShallow s.program.flows) where
  abbrev HoldsShallow : List Item → Type 0
  HoldsShallow = holding.Holds s at small (Unit {0}) (λ l. tt)

  holds_shallow : (k : List Item) → ItemsShallow k → HoldsShallow k
  holds_shallow [] h = tt
  holds_shallow (Do block left ∷ k) h = holds_shallow k h
  holds_shallow (Entries es ∷ k) h = holds_shallow k h
  holds_shallow (Then x ∷ k) h = holds_shallow k h
  holds_shallow (Loop l w i ∷ k) h = (h.0, holds_shallow k h.1)
  holds_shallow (Try t n d ∷ k) h = holds_shallow k h
  holds_shallow (Judge t n d e ∷ k) h = (h.0, holds_shallow k h.1)
  holds_shallow (Mark ∷ k) h = holds_shallow k h
  holds_shallow (Back r ∷ k) h = holds_shallow k h
  holds_shallow (Join b w n r es ∷ k) h = (h.0, h.1, tt, holds_shallow k h.2)

  items_shallow : (k : List Item) → HoldsShallow k → ItemsShallow k
  items_shallow [] h = tt
  items_shallow (Do block left ∷ k) h = items_shallow k h
  items_shallow (Entries es ∷ k) h = items_shallow k h
  items_shallow (Then x ∷ k) h = items_shallow k h
  items_shallow (Loop l w i ∷ k) h = (h.0, items_shallow k h.1)
  items_shallow (Try t n d ∷ k) h = items_shallow k h
  items_shallow (Judge t n d e ∷ k) h = (h.0, items_shallow k h.1)
  items_shallow (Mark ∷ k) h = items_shallow k h
  items_shallow (Back r ∷ k) h = items_shallow k h
  items_shallow (Join b w n r es ∷ k) h = (h.0, h.1, items_shallow k h.3)

-- ## A task that is put back
put_outer_other : (os : List Outer) (c : Config) (b : ℕ) → AllBelow b (places_of os) → task_in (put_outer os c).tasks b ≡ task_in c.tasks b
put_outer_other [] c b h = refl
put_outer_other (o ∷ os) c b h = by (task c o.task) (put_outer_other os c b h.1) (λ d. put_outer_other os d b h.1)
  where
    differs : b ≡ o.task → ⊥
    differs e = let l = h.0 in no e l
      where
        no : b ≡ o.task → o.task < b → ⊥
        no i l = omega (arith, i, l)

    by : (w : Option Task) → task_in (put_outer os c).tasks b ≡ task_in c.tasks b → ((d : Config) → task_in (put_outer os d).tasks b ≡ task_in d.tasks b)
        → task_in (elim w as (λ v. Config) [ None ↦ put_outer os c | Some t ↦ put_outer os (with_task o.task (record t { layers = layer_at o.above o.layer t.layers }) c) ]).tasks b ≡ task_in c.tasks b
    by None r f = r
    by (Some t) r f = f (with_task o.task (record t { layers = layer_at o.above o.layer t.layers }) c) ∙ put_other o.task b (record t { layers = layer_at o.above o.layer t.layers }) c.tasks differs

log_more : (es : List LogEntry) (e : LogEntry) → log_total (es ++ e ∷ []) ≡ log_total es + size e.value
log_more [] e = omega arith
log_more (x ∷ xs) e = let r = log_more xs e in omega (arith, r)

log_shallow : (es : List LogEntry) (e : LogEntry) → Shallow e.value → LogShallow es → LogShallow (es ++ e ∷ [])
log_shallow [] e s h = (s, tt)
log_shallow (x ∷ xs) e s h = (h.0, log_shallow xs e s h.1)

module _ (s : Scene) (small : FlowsShallow s.program.flows) (b : ℕ) (t : Task) (at : List (ℕ × ℕ)) (apart : Apart t.parent b) (falls : Falls at) (below : AllBelow b at) where
  -- the live tasks, before the one that moves is put back
  record Ready (d : Config) : Type 0 where
    rises : RisesFrom 0 d.made d.tasks
    found : task_in d.tasks b ≡ Some t
    fits : layers_total t.layers + sizes_in d.tasks at ≤ tasks_total d.tasks
    others : s.others ≡ tasks_total d.tasks - (layers_total t.layers + sizes_in d.tasks at)
    most : (limits d.facts.rules).variables ≡ (limits s.facts.rules).variables
    tasks : TasksShallow d.tasks
    log : LogShallow d.log
    logged : log_total d.log ≤ log_limit
    outcome : OutcomeShallow d.outcome

  abbrev RestShallow : Local → Type 0
  RestShallow = holding.Rest s at small (Unit {0}) (λ l. tt)

  goes_back : (l : Local) (d : Config) → Ready d → HoldsShallow s at small l.control → RestShallow l → Within (put_back b l d)
  goes_back l d q h r =
      let u : Task = record t { control = l.control; layers = l.layers; wait = l.wait } in
      let written = with_task b u d in
      let written_rises = put_rises 0 d.made b u d.tasks (omega arith) (known 0 d.made b d.tasks t q.rises q.found) q.rises in
      let x = put_outer_back l.outer written r.outers (each_put b u d.tasks q.tasks (items_shallow s at small l.control h, r.layers)) written_rises in
      let sum = put_outer_total l.outer written written_rises (subst Falls (sym r.places) falls) in
      let places = ap (sizes_in written.tasks) r.places ∙ sizes_below b u d.tasks at below in
      let own = put_total 0 d.made b t u d.tasks q.rises q.found in
      let whole = r.total in
      let room = q.fits in
      let rest = q.others in
      let most = ap (λ f. (limits f.rules).variables) x.facts ∙ q.most in
      subst (λ o. Within (elim o as (λ w. Config) [ None ↦ d | Some v ↦ put_outer l.outer (with_task b (record v { control = l.control; layers = l.layers; wait = l.wait }) d) ])) (sym q.found)
      (record {
        tasks = x.tasks;
        total = omega (arith, sum, places, own, whole, room, rest, most);
        log = subst LogShallow (sym x.log) q.log;
        logged = subst (λ es. log_total es ≤ log_limit) (sym x.log) q.logged;
        outcome = subst OutcomeShallow (sym x.outcome) q.outcome;
      })

  ends_back : (e : End) (l : Local) (d : Config) → Ready d → EndFine e → holding.Leaves s at small (Unit {0}) (λ l. tt) l → Within (finish b t.parent e (put_outer l.outer d))
  ends_back e l d q f g =
      let x = put_outer_back l.outer d g.outers q.tasks q.rises in
      let y = put_outer l.outer d in
      let still = put_outer_other l.outer d b (subst (AllBelow b) (sym g.places) below) ∙ q.found in
      let sum = put_outer_total l.outer d q.rises (subst Falls (sym g.places) falls) in
      let places = ap (sizes_in d.tasks) g.places in
      let without = drop_total b t y.tasks still in
      let whole = g.total in
      let room = q.fits in
      let rest = q.others in
      let most = ap (λ v. (limits v.rules).variables) x.facts ∙ q.most in
      finish_within b t.parent e y apart f x.rises x.tasks (omega (arith, sum, places, without, whole, room, rest, most))
      (subst LogShallow (sym x.log) q.log) (subst (λ es. log_total es ≤ log_limit) (sym x.log) q.logged) (subst OutcomeShallow (sym x.outcome) q.outcome)

  merged_within : (m : Moved) (n : ℕ) (d : Config) → Ready d → log_total d.log ≡ n → holding.MovedWithin s at small (Unit {0}) (λ l. tt) n m → Leads Within (merged b t.parent m d)
  merged_within (Goes l) n d q i g = goes_back l d q g.0 g.1
  merged_within (Ends e l) n d q i g = ends_back e l d q (end_fine s at small e g.0) g.1
  merged_within (Does (Sends x due) m) n d q i g =
      merged_within m n (done b (Sends x due) d) (record { rises = q.rises; found = q.found; fits = q.fits; others = q.others; most = q.most; tasks = q.tasks; log = q.log; logged = q.logged; outcome = q.outcome }) i g
  merged_within (Does (Creates x) m) n d q i g =
      merged_within m n (done b (Creates x) d) (record { rises = q.rises; found = q.found; fits = q.fits; others = q.others; most = q.most; tasks = q.tasks; log = q.log; logged = q.logged; outcome = q.outcome }) i g
  merged_within (Does (Takes x) m) n d q i g =
      merged_within m n (done b (Takes x) d) (record { rises = q.rises; found = q.found; fits = q.fits; others = q.others; most = q.most; tasks = q.tasks; log = q.log; logged = q.logged; outcome = q.outcome }) i g
  merged_within (Does (Logs severity v) m) n d q i g =
      let e : LogEntry = record { reading = d.last; severity = severity; value = v } in
      let more = log_more d.log e in
      let room = g.1 in
      merged_within m (n + size v) (done b (Logs severity v) d)
      (record { rises = q.rises; found = q.found; fits = q.fits; others = q.others; most = q.most; tasks = q.tasks; log = log_shallow d.log e g.0 q.log; logged = omega (arith, more, room, i); outcome = q.outcome }) (omega (arith, more, i)) g.2
  merged_within (Breaks k) n d q i g = tt
  merged_within Not n d q i g = tt

-- ## One task's move
module _ (p : Program) (small : FlowsShallow p.flows) where
  apart_of : (o : Option (ℕ × ℕ)) (b : ℕ) → Below o b → Apart o b
  apart_of None b l = tt
  apart_of (Some q) b l = λ e. no e l
    where
      no : q.0 ≡ b → q.0 < b → ⊥
      no i k = omega (arith, i, k)

  abbrev RestNow : Config → ℕ → Task → ℕ → Local → Type 0
  RestNow c b t now = holding.Rest (scene p c b t now) (places_of (outside b c t.parent [])) small (Unit {0}) (λ l. tt)

  abbrev MovedNow : Config → ℕ → Task → ℕ → Moved → Type 0
  MovedNow c b t now = holding.MovedWithin (scene p c b t now) (places_of (outside b c t.parent [])) small (Unit {0}) (λ l. tt) (log_total c.log)

  by_itself_within : (b now : ℕ) (f : Scene → Local → Moved) (c : Config) → InOrder c → Within c
      → ((t : Task) → task_in c.tasks b ≡ Some t → holding.Holds (scene p c b t now) (places_of (outside b c t.parent [])) small (Unit {0}) (λ l. tt) t.control → RestNow c b t now (local c b t) → MovedNow c b t now (f (scene p c b t now) (local c b t)))
      → Leads Within (by_itself p b now f c)
  by_itself_within b now f c linked w g = by (task c b) refl
    where
      by : (o : Option Task) → task c b ≡ o → Leads Within (elim o as (λ v. After) [ None ↦ NotNow | Some t ↦ merged b t.parent (f (scene p c b t now) (local c b t)) c ])
      by None e = tt
      by (Some t) e =
          let s = scene p c b t now in
          let os = outside b c t.parent [] in
          let at = places_of os in
          let view = seen c linked.1 b t.parent [] in
          let sizes = view.sizes in
          let room = own_and_seen c linked.1 b t e in
          let all = w.total in
          let rest : RestNow c b t now (local c b t) = record { layers = (w.tasks b t e).1; outers = outside_shallow c w.tasks b t.parent []; total = omega (arith, room, all); places = refl } in
          merged_within s small b t at (apart_of t.parent b (linked.1 b t e)) view.falls (seen_below c linked.1 b t e) (f s (local c b t)) (log_total c.log) c
          (record {
            rises = linked.0;
            found = e;
            fits = omega (arith, room, sizes);
            others = omega (arith, sizes);
            most = refl;
            tasks = w.tasks;
            log = w.log;
            logged = w.logged;
            outcome = w.outcome;
          }) refl (g t e (holds_shallow s at small t.control (w.tasks b t e).0) rest)

  move_within : (b now : ℕ) (c : Config) → InOrder c → Within c → Leads Within (by_itself p b now move c)
  move_within b now c linked w = by_itself_within b now move c linked w λ t e h r. holding.move_within (scene p c b t now) (places_of (outside b c t.parent [])) small (Unit {0}) (λ l. tt) (local c b t) h r

  issue_within : (b now : ℕ) (c : Config) → InOrder c → Within c → Leads Within (by_itself p b now issue c)
  issue_within b now c linked w = by_itself_within b now issue c linked w λ t e h r. holding.issue_within (scene p c b t now) (places_of (outside b c t.parent [])) small (Unit {0}) (λ l. tt) (local c b t) h r

  due_within : (b now : ℕ) (c : Config) → InOrder c → Within c → Leads Within (by_itself p b now due c)
  due_within b now c linked w = by_itself_within b now due c linked w λ t e h r. holding.due_within (scene p c b t now) (places_of (outside b c t.parent [])) small (Unit {0}) (λ l. tt) (local c b t) h r

  resumed_within : (b : ℕ) (x : Local → Option Text) (a : Result Data Data) (c : Config) → ResultShallow a → InOrder c → Within c → Leads Within (by_itself p b 0 (λ s l. resumed s (x l) a l) c)
  resumed_within b x a c y linked w =
      by_itself_within b 0 (λ s l. resumed s (x l) a l) c linked w λ t e h r. holding.resumed_within (scene p c b t 0) (places_of (outside b c t.parent [])) small (Unit {0}) (λ l. tt) (x (local c b t)) a (local c b t) y h r

  -- ## Branches that begin
  abbrev HasRoom : Config → Pairs → Type 0
  HasRoom c ps = PairsShallow ps × (tasks_total c.tasks + pairs_size ps ≤ (limits c.facts.rules).variables)

  module _ (c : Config) (linked : InOrder c) (w : Within c) (a : ℕ) (t : Task) (e : task c a ≡ Some t) where
    a_less : a < c.made
    a_less = known 0 c.made a c.tasks t linked.0 e

    module _ (body : ParallelBody) (left : WorkLeft) (n : ℕ) (k : List Item) (work : WorkShallow left) (items : ItemsShallow k) where
      abbrev goes_on : List ℕ → List (ℕ × Data) → Task
      goes_on running es = record t { control = Join body left (suc n) running es ∷ k }

      begun_tasks : (running : List ℕ) (es : List (ℕ × Data)) → ErrorsShallow es → TasksShallow (put_in a (goes_on running es) c.tasks)
      begun_tasks running es h = each_put a (goes_on running es) c.tasks w.tasks ((work, h, items), (w.tasks a t e).1)

      begun_rises : (running : List ℕ) (es : List (ℕ × Data)) → RisesFrom 0 (suc c.made) (put_in a (goes_on running es) c.tasks)
      begun_rises running es = higher 0 c.made (suc c.made) (put_in a (goes_on running es) c.tasks) (omega arith) (put_rises 0 c.made a (goes_on running es) c.tasks (omega arith) a_less linked.0)

      begun_total : (running : List ℕ) (es : List (ℕ × Data)) → tasks_total (put_in a (goes_on running es) c.tasks) ≡ tasks_total c.tasks
      begun_total running es = let r = put_total 0 c.made a t (goes_on running es) c.tasks linked.0 e in omega (arith, r)

      no_new : (running : List ℕ) (es : List (ℕ × Data)) → task_in (put_in a (goes_on running es) c.tasks) c.made ≡ None
      no_new running es = put_other a c.made (goes_on running es) c.tasks (λ i. no i a_less) ∙ none_made c.made c.tasks linked.0
        where
          no : c.made ≡ a → a < c.made → ⊥
          no i l = omega (arith, i, l)

      abbrev config_now : List ℕ → List (ℕ × Data) → Config
      config_now running es = with_task c.made (new_task a n) (begun a t body left n running es k c)

      new_tasks : (running : List ℕ) (es : List (ℕ × Data)) → ErrorsShallow es → TasksShallow (config_now running es).tasks
      new_tasks running es h = each_put c.made (new_task a n) (put_in a (goes_on running es) c.tasks) (begun_tasks running es h) (tt, tt)

      new_rises : (running : List ℕ) (es : List (ℕ × Data)) → RisesFrom 0 (suc c.made) (config_now running es).tasks
      new_rises running es = put_rises 0 (suc c.made) c.made (new_task a n) (put_in a (goes_on running es) c.tasks) (omega arith) (omega arith) (begun_rises running es)

      new_size : (running : List ℕ) (es : List (ℕ × Data)) → tasks_total (config_now running es).tasks ≡ tasks_total c.tasks
      new_size running es = let x = new_total c.made (new_task a n) (put_in a (goes_on running es) c.tasks) (no_new running es) in let y = begun_total running es in omega (arith, x, y)

      new_there : (running : List ℕ) (es : List (ℕ × Data)) → task_in (config_now running es).tasks c.made ≡ Some (new_task a n)
      new_there running es = put_same c.made (new_task a n) (put_in a (goes_on running es) c.tasks)

      started : (ss : Steps) (ps : Pairs) (running : List ℕ) (es : List (ℕ × Data)) → ErrorsShallow es → HasRoom c ps → Leads Within (merged c.made (Some (a, n)) (goes (Do ss ss ∷ []) (fresh ps)) (config_now running es))
      started no_steps ps running es h o =
          let d = config_now running es in
          let drop = drop_total c.made (new_task a n) d.tasks (new_there running es) in
          let size = new_size running es in
          let all = w.total in
          finish_within c.made (Some (a, n)) (Gives null) d (λ i. no i a_less) (omega arith) (new_rises running es) (new_tasks running es h) (omega (arith, drop, size, all)) w.log w.logged w.outcome
        where
          no : a ≡ c.made → a < c.made → ⊥
          no i l = omega (arith, i, l)
      started (more q qs) ps running es h o =
          let d = config_now running es in
          let u : Task = record (new_task a n) { control = Do (more q qs) (more q qs) ∷ []; layers = record { vars = ps; by_call = false } ∷ []; wait = Awake } in
          let put = put_total 0 (suc c.made) c.made (new_task a n) u d.tasks (new_rises running es) (new_there running es) in
          let size = new_size running es in
          let room = o.1 in
          subst (λ x. Within (elim x as (λ v. Config) [ None ↦ d | Some v ↦ with_task c.made (record v { control = Do (more q qs) (more q qs) ∷ []; layers = record { vars = ps; by_call = false } ∷ []; wait = Awake }) d ])) (sym (new_there running es))
          (record {
            tasks = each_put c.made u d.tasks (new_tasks running es h) (tt, (o.0, tt));
            total = omega (arith, put, size, room);
            log = w.log;
            logged = w.logged;
            outcome = w.outcome;
          })

      starts_within : (ss : Steps) (r : Answer Pairs) (running : List ℕ) (es : List (ℕ × Data)) → ErrorsShallow es → Each (HasRoom c) r → Leads Within (starts a t body left n running es k ss r c)
      starts_within ss (Ok ps) running es h o = started ss ps (running ++ c.made ∷ []) es h o
      starts_within ss (Err x) running es h o =
          record {
            tasks = begun_tasks running (put_error n (error_map x) es) (put_error_shallow n (error_map x) es (error_shallow x) h);
            total = let r = begun_total running (put_error n (error_map x) es) in let all = w.total in omega (arith, r, all);
            log = w.log;
            logged = w.logged;
            outcome = w.outcome;
          }

    none_bound : HasRoom c no_pairs
    none_bound = (tt, let all = w.total in omega (arith, all))

    turn_within : (body : ParallelBody) (l : LoopBody) (o : Option (Data × Left)) (n : ℕ) (running : List ℕ) (es : List (ℕ × Data)) (k : List Item) → holding.NextShallow o → ErrorsShallow es → ItemsShallow k → Leads Within (starts_turn a t body l o n running es k c)
    turn_within body l None n running es k y h i = tt
    turn_within body l (Some v) n running es k y h i =
        let all = w.total in
        starts_within body (ValuesLeft v.1) n k y.1 i (loop_steps l) (bound (limits c.facts.rules).variables (tasks_total c.tasks) (loop_names l v.0 n) no_pairs) running es h
        (holding.bound_within (limits c.facts.rules).variables (tasks_total c.tasks) (loop_names l v.0 n) no_pairs (holding.names_shallow l v.0 n y.0) tt (omega (arith, all)))

    work_within : (body : ParallelBody) (left : WorkLeft) (n : ℕ) (running : List ℕ) (es : List (ℕ × Data)) (k : List Item) → WorkShallow left → ErrorsShallow es → ItemsShallow k → Leads Within (starts_work a t body left n running es k c)
    work_within body (BranchesLeft (branch x ss bs)) n running es k y h i = starts_within body (BranchesLeft bs) n k tt i ss (Ok no_pairs) running es h none_bound
    work_within (parallel names limit (OfLoop l)) (BranchesLeft no_branches) n running es k y h i = tt
    work_within (parallel names limit (OfBranches bs)) (BranchesLeft no_branches) n running es k y h i = tt
    work_within (parallel names limit (OfLoop l)) (ValuesLeft left) n running es k y h i = turn_within (parallel names limit (OfLoop l)) l (next_of left) n running es k (holding.next_shallow left y) h i
    work_within (parallel names limit (OfBranches bs)) (ValuesLeft left) n running es k y h i = tt

    begins_from : (k : List Item) → ItemsShallow k → Leads Within (begins_by a t k c)
    begins_from (Join body left n running es ∷ k) h = work_within body left n running es k h.0 h.1 h.2
    begins_from [] h = tt
    begins_from (i ∷ k) h = tt

    begins_within : Leads Within (begins_by a t t.control c)
    begins_within = begins_from t.control (w.tasks a t e).0

  -- ## Events
  abbrev Good : Config → Type 0
  Good c = InOrder c × Within c

  again : (c d : Config) → d.tasks ≡ c.tasks → d.made ≡ c.made → InOrder c → InOrder d
  again c d e i l = (
    subst (λ m. RisesFrom 0 m d.tasks) (sym i) (subst (RisesFrom 0 c.made) (sym e) l.0),
    λ b t f. l.1 b t (sym (ap (λ ts. task_in ts b) e) ∙ f),
  )

  same_within : (c d : Config) → d.tasks ≡ c.tasks → d.facts ≡ c.facts → d.log ≡ c.log → d.outcome ≡ c.outcome → Within c → Within d
  same_within c d e f l o w = record {
    tasks = subst TasksShallow (sym e) w.tasks;
    total = subst (λ ts. tasks_total ts ≤ (limits d.facts.rules).variables) (sym e) (subst (λ x. tasks_total c.tasks ≤ (limits x.rules).variables) (sym f) w.total);
    log = subst LogShallow (sym l) w.log;
    logged = subst (λ es. log_total es ≤ log_limit) (sym l) w.logged;
    outcome = subst OutcomeShallow (sym o) w.outcome;
  }

  stopped_within : (c : Config) → Within c → Within (stopped c)
  stopped_within c w = record { tasks = w.tasks; total = w.total; log = w.log; logged = w.logged; outcome = error_shallow ResourceLimitError }

  counted_within : (c : Config) (f : Config → After) → Good c → (Good (one_more c) → Leads Within (f (one_more c))) → Leads Within (counted c f)
  counted_within c f g h =
      let w = same_within c (one_more c) refl refl refl refl g.1 in
      bool_case (Leads Within) (nat_lt (suc c.moves) move_limit) (f (one_more c)) (To (stopped (one_more c))) (λ e. h (again c (one_more c) refl refl g.0, w)) (λ e. stopped_within (one_more c) w)

  close_good : (n : ℕ) (x : Call) (c : Config) → Good c → Good (close n x c)
  close_good zero x c g = g
  close_good (suc n) x c g = (again c (close (suc n) x c) refl refl g.0, same_within c (close (suc n) x c) refl refl refl refl g.1)

  timed_good : (w : Wait) (c : Config) → Good c → Good (timed_out w c)
  timed_good Awake c g = g
  timed_good (Sleep d r) c g = g
  timed_good (Delay d) c g = g
  timed_good (Calling n r) c g = close_good n TimedOut c g
  timed_good (Await n d r) c g = g

  read_good : (r : ℕ) (c : Config) → Good c → Good (read_at r c)
  read_good r c g = (again c (read_at r c) refl refl g.0, same_within c (read_at r c) refl refl refl refl g.1)

  replied_within : (n : ℕ) (a : Reply) (b : ℕ) (w : Wait) (c : Config) → Good c → Leads Within (replied p n a b w c)
  replied_within n a b Awake c g = tt
  replied_within n a b (Sleep d r) c g = tt
  replied_within n a b (Delay d) c g = tt
  replied_within n a b (Await m d r) c g = tt
  replied_within n a b (Calling m r) c g =
      let d = record c { bodies = c.bodies + reply_length a } in
      let x = close_good n Answered d (again c d refl refl g.0, same_within c d refl refl refl refl g.1) in
      bool_case (Leads Within) (nat_le (c.bodies + reply_length a) body_limit) (by_itself p b 0 (λ s l. resumed s r (reply_result a) l) (close n Answered d)) (To (stopped c))
      (λ e. resumed_within b (λ l. r) (reply_result a) (close n Answered d) (reply_shallow a) x.0 x.1) (λ e. stopped_within c g.1)

  replied_to_within : (n : ℕ) (a : Reply) (x : Call) (c : Config) → Good c → Leads Within (replied_to p n a x c)
  replied_to_within n a (Open b q d) c g = option_case (Leads Within) (task c b) NotNow (λ t. replied p n a b t.wait c) tt (λ t. replied_within n a b t.wait c g)
  replied_to_within n a Answered c g = tt
  replied_to_within n a TimedOut c g = tt

  taken_within : (n : ℕ) (v : Visitor) (o : Option ℕ) (c : Config) → Good c → Leads Within (taken_by p n v o c)
  taken_within n v None c g = same_within c _ refl refl refl refl g.1
  taken_within n v (Some b) c g = resumed_within b (λ l. result_of l.wait) (visit_result v) c (visit_shallow v) g.0 g.1

  visited_within : (n : ℕ) (v : Visitor) (o : Option ArriveFault) (c : Config) → Good c → Leads Within (visited p n v o c)
  visited_within n v (Some f) c g = tt
  visited_within n v None c g =
      let d = record c { bodies = c.bodies + length v.body } in
      taken_within n v (waiting_in n c.tasks) d (again c d refl refl g.0, same_within c d refl refl refl refl g.1)

  for_task_within : (c : Config) (b : ℕ) (test : Task → Bool) (f : Task → After) → ((t : Task) → task c b ≡ Some t → Leads Within (f t)) → Leads Within (for_task c b test f)
  for_task_within c b test f g = by (task c b) refl
    where
      by : (o : Option Task) → task c b ≡ o → Leads Within (elim o as (λ v. After) [ None ↦ NotNow | Some t ↦ when (test t) (f t) ])
      by None e = tt
      by (Some t) e = when_leads Within (test t) (f t) (λ i. g t e)

  by_event_within : (c : Config) (e : Event) → Good c → Leads Within (by_event p c e)
  by_event_within c (Event.Move b) g = for_task_within c b (wants p Plainly) _ λ t e. counted_within c (by_itself p b 0 move) g λ h. move_within b 0 (one_more c) h.0 h.1
  by_event_within c (Event.MoveAt b r) g =
      when_leads Within (nat_le c.last r) _ λ l. for_task_within c b (wants p ByClock) _ λ t e. counted_within (read_at r c) (by_itself p b r move) (read_good r c g) λ h. move_within b r (one_more (read_at r c)) h.0 h.1
  by_event_within c (Event.Begin b) g = for_task_within c b may_begin _ λ t e. counted_within c (begins_by b t t.control) g λ h. begins_within (one_more c) h.0 h.1 b t e
  by_event_within c (Event.Issue b r) g =
      when_leads Within (nat_le c.last r) _ λ l. for_task_within c b (wants p ByCall) _ λ t e. counted_within (read_at r c) (by_itself p b r issue) (read_good r c g) λ h. issue_within b r (one_more (read_at r c)) h.0 h.1
  by_event_within c (Event.Answer n r a) g = when_leads Within (nat_le c.last r) _ λ l. replied_to_within n a (call c n) (read_at r c) (read_good r c g)
  by_event_within c (Event.Due b r) g =
      when_leads Within (nat_le c.last r) _ λ l. for_task_within c b (λ t. is_due c r t.wait) _ λ t e. let h = timed_good t.wait (read_at r c) (read_good r c g) in due_within b r (timed_out t.wait (read_at r c)) h.0 h.1
  by_event_within c (Event.Arrive n r v) g = when_leads Within (nat_le c.last r) _ λ l. visited_within n v (arrive_fault c.endpoints n v (bodies_left c)) (read_at r c) (read_good r c g)
  by_event_within c (Event.Cancel r) g = when_leads Within (nat_le c.last r) _ λ l. record { tasks = g.1.tasks; total = g.1.total; log = g.1.log; logged = g.1.logged; outcome = tt }

  step_within : (o : Outcome) (c : Config) (e : Event) → Good c → Leads Within (step_from o p c e)
  step_within Active c e g = by_event_within c e g
  step_within (Returned v) c e g = tt
  step_within (Raised v) c e g = tt
  step_within Cancelled c e g = tt

  pub steps_within : (c : Config) (e : Event) → Good c → Leads Within (next p c e)
  steps_within c e g = step_within c.outcome c e g

  -- ## The first configuration
  arguments_shallow : (gs : List Flow) (v : Data) → Shallow v → PairsShallow (main_vars gs v)
  arguments_shallow [] v h = tt
  arguments_shallow (f ∷ fs) v h = by f.params
    where
      by : (xs : List Param) → PairsShallow (argument_in xs v)
      by [] = tt
      by (x ∷ xs) = (h, tt)

  argument_shallow : (b : List ℕ) → Shallow (unwrap_or (json_value b) null)
  argument_shallow b = known (json_value b) (by (is_utf8 b) (option_and_then value_of (read b)))
    where
      known : (o : Option Data) → OptionShallow o → Shallow (unwrap_or o null)
      known None h = omega arith
      known (Some v) h = h

      by : (q : Bool) (o : Option Data) → OptionShallow (elim q [ false ↦ None | true ↦ shallow o ])
      by false o = tt
      by true o = json_shallow o

  first_by : (ss : Steps) (v : Data) (s : Start) → Shallow v → pairs_size (main_vars p.flows v) ≤ (limits s.rules).variables → Leads Within (merged 0 None (goes (Do ss ss ∷ []) (main_local p v)) (empty s))
  first_by no_steps v s h l = record { tasks = λ b t e. some_is_no t (sym e); total = omega arith; log = tt; logged = omega arith; outcome = omega arith }
  first_by (more q qs) v s h l = record {
    tasks = λ b t e. one b t (nat_eq 0 b) e;
    total = omega (arith, l);
    log = tt;
    logged = omega arith;
    outcome = tt;
  }
    where
      one : (b : ℕ) (t : Task) (is_first : Bool) → (if is_first then Some (record main_task { control = Do (more q qs) (more q qs) ∷ []; layers = record { vars = main_vars p.flows v; by_call = false } ∷ []; wait = Awake }) else None) ≡ Some t → TaskShallow t
      one b t true e = subst TaskShallow (same_Some (record main_task { control = Do (more q qs) (more q qs) ∷ []; layers = record { vars = main_vars p.flows v; by_call = false } ∷ []; wait = Awake }) t e) (tt, (arguments_shallow p.flows v h, tt))
      one b t false e = some_is_no t (sym e)

  pub first_within : (s : Start) → IsSmall p s → Leads Within (initial p s)
  first_within s l = first_by (main_steps p.flows) (unwrap_or (json_value s.argument) null) s (argument_shallow s.argument) l
