-- What the waits of the live tasks weigh, at each step.
use Rattle.std.specs.Prelude.{◌≡◌, ◌≤◌, ◌+◌, ◌*◌, ℕ, suc, unwrap_or, Bool, true, false, List, [], ◌∷◌, ◌++◌, length, if◌then◌else◌, nat_eq, nat_lt, nat_le, Some, None, Ok, Err, Option, Result, option_map}
use Rattle.std.proofs.Common.{refl, sym, ◌∙◌, ap, subst, arith}
use Rattle.std.proofs.lemmas.Bool.{eq-eqb, ltb-true, ne_eqb}
use Rattle.wf_lemmas.proofs.Options.{by_cases}
use Rattle.wf_ast.specs.Flows.{flow}
use Rattle.wf_ast.specs.Tree.{Steps, Param, Flow, LoopBody, ParallelBody, parallel, OfBranches, OfLoop, branch, no_branches, Program, TryBody, try, no_except, except}
use Rattle.wf_model.proofs.After.{Leads, led_to}
use Rattle.wf_model.proofs.Awaited.{Same, close_tasks, put_outer_same, task_of, waiting_from}
use Rattle.wf_model.proofs.TaskLists.{higher, put_rises, drop_rises, known, drop_other, none_below, put_other, put_same}
use Rattle.wf_model.proofs.Counts.{Same as Same_of, same_stays}
use Rattle.wf_model.proofs.Walk.{bool_case, some_case, leads_on, when_leads, by_itself_stays, begins_stays, timed_out_stays, merged_stays, replied_to_stays, visited_stays}
use Rattle.wf_model.specs.Config.{Left, WorkLeft, BranchesLeft, ValuesLeft, Item, Do, Entries, Try, Judge, Mark, Back, Wait, Awake, Sleep, Delay, Calling, Await, Task, Call, Open, Answered, TimedOut, Outcome, Active, Returned, Raised, Cancelled, Config, After, To, Wrong, NotNow, move_limit, body_limit, call_limit, task, task_in, with_task, put_in, drop_in, next_of}
use Rattle.wf_model.specs.CountLaws.{weight, weigh, EventsAreCounted, IsFromOutside, TakenWeighsNothing, TasksWeighLittle, price, prices, arrivals, is_over, EventsAreFew, RunsAreShort}
use Rattle.wf_model.specs.Kinds.{Plainly, ByClock, ByCall}
use Rattle.wf_model.specs.Layers.{Held, Own, Outside, Nowhere, held, opened, enter, written, made_new, all_share, Assigned, Done, Refused, Undeclared, within_limits, put_own, put_outside, put_layer, put_outer as put_in_outer, assign_at, assign}
use Rattle.wf_model.specs.Leave.{on_assigned, gives, handed}
use Rattle.wf_model.specs.Local.{Outer, Local, Scene, Effect, Moved, Goes, Ends, Does, Breaks, Not, leave, settle, ended, goes}
use Rattle.wf_model.specs.Move.{entered, move, issue, loop_steps, awake, resumed, retries, timeout_error, due_by, due}
use Rattle.wf_model.specs.ReadingLaws.{IsFromInside}
use Rattle.wf_model.specs.Ready.{call, may_begin, is_due}
use Rattle.wf_model.specs.Run.{main_steps, main_task, main_local, empty, initial, run_on}
use Rattle.wf_model.specs.RunLaws.{RisesFrom, RunsAreBounded}
use Rattle.wf_model.specs.Step.{stopped, one_more, counted, read_at, close, replied, replied_to, timed_out, begun, new_task, fresh, starts, starts_turn, starts_work, begins_by, when, wants, for_task, bodies_left, waits_for, waiting_in, result_of, taken_by, visited, by_event, step_from, next}
use Rattle.wf_model.specs.Taken.{scene, local, put_outer, layer_at, joined, put_error, without_task, finish, done, merged, by_itself}
use Rattle.wf_model.specs.Unwind.{Judgement, Says, Asks, judged, retried, excepted, handled, called, asked_one, asks, decided, policy_of, unwind, calls_in}
use Rattle.wf_model.specs.WaitLaws.{Info, info, info_at, Sound, SoundAtFirst, StepsStaySound}
use Rattle.wf_value.specs.Decode.{json_value}
use Rattle.wf_value.specs.Events.{Event, Reply, Start, Visitor}
use Rattle.wf_value.specs.HttpText.{reply_length, reply_result, visit_result}
use Rattle.wf_value.specs.Queues.{ArriveFault, arrive_fault}
use Rattle.wf_value.specs.Data.{Data, Pairs, null, no_pairs}
use Rattle.wf_value.specs.Errors.{error_map, Answer}
use Rattle.wf_value.specs.declared.Tag.TheVariants.{RecursionError}
use Rattle.wf_value.specs.Pairs.{Text}

-- ## Moves
-- where the task goes on it waits so
abbrev By : (Wait → Type 0) → Moved → Type 0
By W (Goes l) = W l.wait
By W (Ends e l) = Unit {0}
By W (Does x m) = By W m
By W (Breaks k) = Unit {0}
By W Not = Unit {0}

module _ (W : Wait → Type 0) where
  settle_by : (k : List Item) (l : Local) → W l.wait → W (settle k l).wait
  settle_by [] l h = h
  settle_by (Do block Steps.no_steps ∷ k) l h = settle_by k l h
  settle_by (Do block (Steps.more s ss) ∷ k) l h = h
  settle_by (Entries [] ∷ k) l h = settle_by k l h
  settle_by (Entries (e ∷ es) ∷ k) l h = h
  settle_by (Try t n d ∷ k) l h = settle_by k l h
  settle_by (Mark ∷ k) l h = settle_by k (leave l) h
  settle_by (i ∷ k) l h = h

  ended_by : (k : List Item) (l : Local) → W l.wait → By W (ended k l)
  ended_by [] l h = tt
  ended_by (i ∷ k) l h = h

  goes_by : (k : List Item) (l : Local) → W l.wait → By W (goes k l)
  goes_by k l h = ended_by (settle k l).control (settle k l) (settle_by k l h)

  abbrev AssignedBy : Assigned → Type 0
  AssignedBy (Done m) = W m.wait
  AssignedBy a = Unit {0}

  within_by : (s : Scene) (v : Data) (l : Local) → W l.wait → AssignedBy (within_limits s v l)
  within_by s v l h = bool_case AssignedBy _ (Done l) (Refused _) (λ _. h) (λ _. tt)

  put_own_by : (s : Scene) (x : Text) (n : ℕ) (a : Answer Data) (l : Local) → W l.wait → AssignedBy (put_own s x n a l)
  put_own_by s x n (Err t) l h = tt
  put_own_by s x n (Ok v) l h = within_by s v (record l { layers = put_layer n x v l.layers }) h

  put_outside_by : (s : Scene) (x : Text) (n : ℕ) (shared : Bool) (a : Answer Data) (l : Local) → W l.wait → AssignedBy (put_outside s x n shared a l)
  put_outside_by s x n shared (Err t) l h = tt
  put_outside_by s x n false (Ok v) l h = tt
  put_outside_by s x n true (Ok v) l h = within_by s v (record l { outer = put_in_outer n x v l.outer }) h

  assign_by : (s : Scene) (x : Text) (ks : List Data) (v : Data) (w : Held) (l : Local) → W l.wait → AssignedBy (assign_at s x ks v w l)
  assign_by s x ks v (Own n w) l h = put_own_by s x n (written ks w v) l h
  assign_by s x ks v (Outside n shared w) l h = put_outside_by s x n (all_share x shared) (written ks w v) l h
  assign_by s x ks v Nowhere l h = put_own_by s x 0 (made_new ks v) l h

-- errors may begin a delay
module _ (W : Wait → Type 0) (delays : (d : ℕ) → W (Delay d)) where
  retried_by : (s : Scene) (t : TryBody) (n : ℕ) (d : Option ℕ) (k : List Item) (l : Local) → W l.wait → By W (retried s t n d k l)
  retried_by s (try body None x) n d k l h = goes_by W k l h
  retried_by s (try body (Some p) x) n d k l h = delays _

  excepted_by : (a : Answer Pairs) (ss : Steps) (k : List Item) (l : Local) (outward : Data → Moved) → W l.wait → ((e : Data) → By W (outward e)) → By W (excepted a ss k l outward)
  excepted_by (Err t) ss k l outward h out = out (error_map t)
  excepted_by (Ok ps) ss k l outward h out = goes_by W (Do ss ss ∷ Mark ∷ k) (enter false ps l) h

  handled_by : (s : Scene) (e : Data) (t : TryBody) (k : List Item) (l : Local) (outward : Data → Moved) → W l.wait → ((d : Data) → By W (outward d)) → By W (handled s e t k l outward)
  handled_by s e (try body p no_except) k l outward h out = out e
  handled_by s e (try body p (except x ss)) k l outward h out = excepted_by (opened s l ((x, e) ∷ [])) ss k l outward h out

  called_by : (a : Answer Pairs) (ss : Steps) (k : List Item) (l : Local) (outward : Data → Moved) → W l.wait → ((e : Data) → By W (outward e)) → By W (called a ss k l outward)
  called_by (Err t) ss k l outward h out = out (error_map t)
  called_by (Ok ps) ss k l outward h out = goes_by W (Do ss ss ∷ k) (enter true ps l) h

  asked_one_by : (s : Scene) (e : Data) (xs : List Param) (ss : Steps) (k : List Item) (l : Local) (outward : Data → Moved) → W l.wait → ((d : Data) → By W (outward d)) → By W (asked_one s e xs ss k l outward)
  asked_one_by s e [] ss k l outward h out = tt
  asked_one_by s e (x ∷ []) ss k l outward h out =
      bool_case (By W) (nat_le call_limit (calls_in k)) (outward (error_map RecursionError)) (called (opened s l ((x.name, e) ∷ [])) ss (Back None ∷ k) l outward)
      (λ _. out (error_map RecursionError)) (λ _. called_by (opened s l ((x.name, e) ∷ [])) ss (Back None ∷ k) l outward h out)
  asked_one_by s e (x ∷ y ∷ xs) ss k l outward h out = tt

  asks_by : (s : Scene) (e : Data) (f : Option Flow) (k : List Item) (l : Local) (outward : Data → Moved) → W l.wait → ((d : Data) → By W (outward d)) → By W (asks s e f k l outward)
  asks_by s e None k l outward h out = tt
  asks_by s e (Some f) k l outward h out = asked_one_by s e f.params f.steps k l outward h out

  decided_by : (s : Scene) (e : Data) (j : Judgement) (t : TryBody) (n : ℕ) (d : Option ℕ) (k : List Item) (l : Local) (outward : Data → Moved) → W l.wait → ((x : Data) → By W (outward x)) → By W (decided s e j t n d k l outward)
  decided_by s e (Says true) t n d k l outward h out = retried_by s t n d k l h
  decided_by s e (Says false) t n d k l outward h out = handled_by s e t k l outward h out
  decided_by s e (Asks f) t n d k l outward h out = asks_by s e (flow s.program.flows f) (Judge t n d e ∷ k) l outward h out

  unwind_by : (s : Scene) (k : List Item) (l : Local) (e : Data) → W l.wait → By W (unwind s k l e)
  unwind_by s [] l e h = tt
  unwind_by s (Mark ∷ k) l e h = unwind_by s k (leave l) e h
  unwind_by s (Back r ∷ k) l e h = unwind_by s k (leave l) e h
  unwind_by s (Try t n d ∷ k) l e h = decided_by s e (judged (policy_of t) n e) t n d k l (unwind s k l) h (λ x. unwind_by s k l x h)
  unwind_by s (i ∷ k) l e h = unwind_by s k l e h

  on_assigned_by : (s : Scene) (k : List Item) (l : Local) (a : Assigned) → W l.wait → AssignedBy W a → By W (on_assigned s k l a)
  on_assigned_by s k l (Done m) h g = goes_by W k m g
  on_assigned_by s k l (Refused t) h g = unwind_by s k l (error_map t) h
  on_assigned_by s k l Undeclared h g = tt

  gives_by : (s : Scene) (r : Option Text) (v : Data) (k : List Item) (l : Local) → W l.wait → By W (gives s r v k l)
  gives_by s None v k l h = goes_by W k l h
  gives_by s (Some x) v k l h = on_assigned_by s k l (assign s x [] v l) h (assign_by W s x [] v (held x l) l h)

  handed_by : (s : Scene) (r : Option Text) (e : Result Data Data) (k : List Item) (l : Local) → W l.wait → By W (handed s r e k l)
  handed_by s r (Ok v) k l h = gives_by s r v k l h
  handed_by s r (Err e) k l h = unwind_by s k l e h

-- at most this weight
abbrev Within : ℕ → Wait → Type 0
Within n w = weight w ≤ n

two_at_most : (w : Wait) → weight w ≤ 2
two_at_most Awake = omega arith
two_at_most (Delay d) = omega arith
two_at_most (Sleep d r) = omega arith
two_at_most (Calling k r) = omega arith
two_at_most (Await n d r) = omega arith

any_within : (m : Moved) → By (Within 2) m
any_within (Goes l) = two_at_most l.wait
any_within (Ends e l) = tt
any_within (Does x m) = any_within m
any_within (Breaks k) = tt
any_within Not = tt

resumed_within : (s : Scene) (r : Option Text) (e : Result Data Data) (l : Local) → By (Within 1) (resumed s r e l)
resumed_within s r e l = handed_by (Within 1) (λ d. omega arith) s r e l.control (awake l) (omega arith)

retries_within : (k : List Item) (l : Local) → weight l.wait ≤ 0 → By (Within 0) (retries k l)
retries_within [] l h = tt
retries_within (Try (try body policy x) n d ∷ k) l h = goes_by (Within 0) (entered body ∷ Try (try body policy x) n d ∷ k) l h
retries_within (i ∷ k) l h = tt

-- a due moment makes a wait lighter
abbrev lighter : Wait → ℕ
lighter Awake = 0
lighter (Delay d) = 0
lighter w = 1

due_within : (s : Scene) (w : Wait) (l : Local) → By (Within (lighter w)) (due_by s w l)
due_within s Awake l = tt
due_within s (Sleep t r) l = resumed_within s r (Ok null) l
due_within s (Delay t) l = retries_within l.control (awake l) (omega arith)
due_within s (Calling n r) l = resumed_within s r timeout_error l
due_within s (Await n t r) l = resumed_within s r timeout_error l

-- ## Lists of tasks
weigh_put : (low made b : ℕ) (t u : Task) (ts : List (ℕ × Task)) → RisesFrom low made ts → task_in ts b ≡ Some t → weigh (put_in b u ts) + weight t.wait ≡ weigh ts + weight u.wait
weigh_put low made b t u [] h there = absurd (let f : None ≡ Some t = there in cc f)
weigh_put low made b t u (x ∷ xs) h there =
    bool_case (λ l. weigh l + weight t.wait ≡ weigh (x ∷ xs) + weight u.wait) (nat_eq x.0 b) ((b, u) ∷ xs) (if nat_lt b x.0 then (b, u) ∷ x ∷ xs else x ∷ put_in b u xs)
    (λ on.
    let two : Some x.1 ≡ Some t = sym (ap (λ v. if v then Some x.1 else task_in xs b) on) ∙ there in
    let same : x.1 ≡ t = cc two in
    let one : weight x.1.wait ≡ weight t.wait = ap (λ (v : Task). weight v.wait) same in
    omega (arith, one))
    (λ off. bool_case (λ l. weigh l + weight t.wait ≡ weigh (x ∷ xs) + weight u.wait) (nat_lt b x.0) ((b, u) ∷ x ∷ xs) (x ∷ put_in b u xs)
    (λ lt. absurd (
    let less = ltb-true b x.0 lt in
    let gone : task_in (x ∷ xs) b ≡ None = none_below x.0 made b (x ∷ xs) (omega arith, h.1, h.2) less in
    let f : None ≡ Some t = sym gone ∙ there in cc f))
    (λ _.
    let later : task_in xs b ≡ Some t = sym (ap (λ v. if v then Some x.1 else task_in xs b) off) ∙ there in
    let rest = weigh_put (suc x.0) made b t u xs h.2 later in
    omega (arith, rest)))

weigh_drop : (b : ℕ) (t : Task) (ts : List (ℕ × Task)) → task_in ts b ≡ Some t → weigh (drop_in b ts) + weight t.wait ≡ weigh ts
weigh_drop b t [] there = absurd (let f : None ≡ Some t = there in cc f)
weigh_drop b t (x ∷ xs) there =
    bool_case (λ l. weigh l + weight t.wait ≡ weigh (x ∷ xs)) (nat_eq x.0 b) xs (x ∷ drop_in b xs)
    (λ on.
    let two : Some x.1 ≡ Some t = sym (ap (λ v. if v then Some x.1 else task_in xs b) on) ∙ there in
    let same : x.1 ≡ t = cc two in
    let one : weight x.1.wait ≡ weight t.wait = ap (λ (v : Task). weight v.wait) same in
    omega (arith, one))
    (λ off. let rest = weigh_drop b t xs (sym (ap (λ v. if v then Some x.1 else task_in xs b) off) ∙ there) in omega (arith, rest))

weigh_new : (b : ℕ) (u : Task) (ts : List (ℕ × Task)) → task_in ts b ≡ None → weigh (put_in b u ts) ≡ weight u.wait + weigh ts
weigh_new b u [] gone = refl
weigh_new b u (x ∷ xs) gone =
    bool_case (λ l. weigh l ≡ weight u.wait + weigh (x ∷ xs)) (nat_eq x.0 b) ((b, u) ∷ xs) (if nat_lt b x.0 then (b, u) ∷ x ∷ xs else x ∷ put_in b u xs)
    (λ on. absurd (let f : Some x.1 ≡ None = sym (ap (λ v. if v then Some x.1 else task_in xs b) on) ∙ gone in cc f))
    (λ off. bool_case (λ l. weigh l ≡ weight u.wait + weigh (x ∷ xs)) (nat_lt b x.0) ((b, u) ∷ x ∷ xs) (x ∷ put_in b u xs)
    (λ _. refl)
    (λ _. let rest = weigh_new b u xs (sym (ap (λ v. if v then Some x.1 else task_in xs b) off) ∙ gone) in omega (arith, rest)))

pub tasks_weigh_little : TasksWeighLittle
tasks_weigh_little [] = omega arith
tasks_weigh_little (t ∷ ts) = omega (arith, two_at_most t.1.wait, tasks_weigh_little ts)

-- ## Configurations
-- the tasks weigh as before, and their numbers rise
abbrev Level : Config → Config → Type 0
Level c e = (weigh e.tasks ≡ weigh c.tasks) × RisesFrom 0 e.made e.tasks

put_level : (c : Config) (b : ℕ) (t u : Task) → RisesFrom 0 c.made c.tasks → task c b ≡ Some t → u.wait ≡ t.wait → Level c (with_task b u c)
put_level c b t u h there same =
    let law = weigh_put 0 c.made b t u c.tasks h there in
    let one : weight u.wait ≡ weight t.wait = ap weight same in
    (omega (arith, law, one), put_rises 0 c.made b u c.tasks (omega arith) (known 0 c.made b c.tasks t h there) h)

outer_level : (os : List Outer) (c : Config) → RisesFrom 0 c.made c.tasks → Level c (put_outer os c)
outer_level [] c h = (refl, h)
outer_level (o ∷ os) c h =
    some_case (Level c) (task c o.task) (put_outer os c) (λ t. put_outer os (with_task o.task (record t { layers = layer_at o.above o.layer t.layers }) c))
    (outer_level os c h)
    (λ t there.
    let e = with_task o.task (record t { layers = layer_at o.above o.layer t.layers }) c in
    let one = put_level c o.task t (record t { layers = layer_at o.above o.layer t.layers }) h there refl in
    let rest = outer_level os e one.1 in
    (rest.0 ∙ one.0, rest.1))

-- ## One task's move
-- the tasks weigh at most n more than without what weighs w
abbrev Gains : Config → ℕ → ℕ → Config → Type 0
Gains c w n e = weigh e.tasks + w ≤ weigh c.tasks + n

merged_gains : (n b : ℕ) (parent : Option (ℕ × ℕ)) (m : Moved) (c : Config) (t : Task) → RisesFrom 0 c.made c.tasks → task c b ≡ Some t → ((p : ℕ × ℕ) → parent ≡ Some p → p.0 ≡ b → ⊥) → By (Within n) m → Leads (Gains c (weight t.wait) n) (merged b parent m c)
merged_gains n b parent (Goes l) c t h there far by =
    by_cases (Gains c (weight t.wait) n) (task c b) c (λ v. put_outer l.outer (with_task b (record v { control = l.control; layers = l.layers; wait = l.wait }) c))
    (λ gone. absurd (let f : None ≡ Some t = sym gone ∙ there in cc f))
    (λ v at.
    let u = record v { control = l.control; layers = l.layers; wait = l.wait } in
    let two : Some v ≡ Some t = sym at ∙ there in
    let same : v ≡ t = cc two in
    let one : weight v.wait ≡ weight t.wait = ap (λ (x : Task). weight x.wait) same in
    let law = weigh_put 0 c.made b v u c.tasks h at in
    let e = with_task b u c in
    let level = outer_level l.outer e (put_rises 0 c.made b u c.tasks (omega arith) (known 0 c.made b c.tasks v h at) h) in
    let now = level.0 in
    omega (arith, law, one, by, now))
merged_gains n b parent (Ends e l) c t h there far by =
    let d = put_outer l.outer c in
    let level = outer_level l.outer c h in
    let same = put_outer_same l.outer c h in
    let (u, at, like) = task_of d b (info t) (Same.infos same b ∙ ap (option_map info) there) in
    let wait : weight u.wait ≡ weight t.wait = ap (λ (x : Info). weight x.0) like in
    let drop = weigh_drop b u d.tasks at in
    let weighs = level.0 in
    finishes parent far d u level.1 at wait drop weighs
  where
    finishes : (o : Option (ℕ × ℕ)) → ((p : ℕ × ℕ) → o ≡ Some p → p.0 ≡ b → ⊥) → (d : Config) (u : Task) → RisesFrom 0 d.made d.tasks → task d b ≡ Some u → weight u.wait ≡ weight t.wait → weigh (drop_in b d.tasks) + weight u.wait ≡ weigh d.tasks → weigh d.tasks ≡ weigh c.tasks
        → Gains c (weight t.wait) n (finish b o e d)
    finishes None apart d u rises at wait drop weighs = omega (arith, wait, drop, weighs)
    finishes (Some p) apart d u rises at wait drop weighs =
        some_case (Gains c (weight t.wait) n) (task d p.0) (without_task b d) (λ v. with_task p.0 (record v { control = joined b p.1 e v.control }) (without_task b d))
        (omega (arith, wait, drop, weighs))
        (λ v found.
        let still : task (without_task b d) p.0 ≡ Some v = drop_other b p.0 d.tasks (apart p refl) ∙ found in
        let one = put_level (without_task b d) p.0 v (record v { control = joined b p.1 e v.control }) (drop_rises 0 d.made b d.tasks rises) still refl in
        let after = one.0 in
        omega (arith, wait, drop, weighs, after))
merged_gains n b parent (Does (Effect.Sends q d) m) c t h there far by = merged_gains n b parent m (done b (Effect.Sends q d) c) t h there far by
merged_gains n b parent (Does (Effect.Creates x) m) c t h there far by = merged_gains n b parent m (done b (Effect.Creates x) c) t h there far by
merged_gains n b parent (Does (Effect.Takes i) m) c t h there far by = merged_gains n b parent m (done b (Effect.Takes i) c) t h there far by
merged_gains n b parent (Does (Effect.Logs severity v) m) c t h there far by = merged_gains n b parent m (done b (Effect.Logs severity v) c) t h there far by
merged_gains n b parent (Breaks k) c t h there far by = tt
merged_gains n b parent Not c t h there far by = tt

-- what a step asks of a configuration, which it keeps
record Placed (c : Config) : Type 0 where
  rises : RisesFrom 0 c.made c.tasks
  parents : (i : ℕ) (w : Wait) (p : ℕ × ℕ) → info_at c i ≡ Some (w, Some p) → p.0 ≡ i → ⊥

placed : (c : Config) → Sound c → Placed c
placed c s = record { rises = s.rises; parents = s.parents }

far_from : (b : ℕ) (t : Task) (c : Config) → Placed c → task c b ≡ Some t → (p : ℕ × ℕ) → t.parent ≡ Some p → p.0 ≡ b → ⊥
far_from b t c h there p is = h.parents b t.wait p (ap (option_map info) there ∙ ap (λ o. Some (t.wait, o)) is)

-- at most two more
abbrev Two : Config → Config → Type 0
Two c e = weigh e.tasks ≤ weigh c.tasks + 2

-- a fact more
both_lead : (P Q : Config → Type 0) (a : After) → Leads P a → Leads Q a → Leads (λ e. P e × Q e) a
both_lead P Q (To e) h k = (h, k)
both_lead P Q (Wrong k) h g = tt
both_lead P Q NotNow h k = tt

itself_two : (p : Program) (b now : ℕ) (f : Scene → Local → Moved) (c : Config) → Placed c → Leads (Two c) (by_itself p b now f c)
itself_two p b now f c h =
    some_case (Leads (Two c)) (task c b) NotNow (λ t. merged b t.parent (f (scene p c b t now) (local c b t)) c) tt
    (λ t there. leads_on (Gains c (weight t.wait) 2) (Two c) (merged b t.parent (f (scene p c b t now) (local c b t)) c) (λ e gains. omega (arith, gains))
    (merged_gains 2 b t.parent (f (scene p c b t now) (local c b t)) c t h.rises there (far_from b t c h there) (any_within (f (scene p c b t now) (local c b t)))))

-- a due moment makes them lighter
heavier : (r : ℕ) (c : Config) (w : Wait) → is_due c r w ≡ true → suc (lighter w) ≤ weight w
heavier r c Awake is = absurd (let f : false ≡ true = is in cc f)
heavier r c (Delay d) is = omega arith
heavier r c (Sleep d x) is = omega arith
heavier r c (Calling k x) is = omega arith
heavier r c (Await n d x) is = omega arith

timed_tasks : (w : Wait) (c : Config) → ((timed_out w c).tasks ≡ c.tasks) × ((timed_out w c).made ≡ c.made)
timed_tasks (Calling n r) c = close_tasks n TimedOut c
timed_tasks Awake c = (refl, refl)
timed_tasks (Delay d) c = (refl, refl)
timed_tasks (Sleep d r) c = (refl, refl)
timed_tasks (Await n d r) c = (refl, refl)

due_lighter : (p : Program) (b r : ℕ) (t : Task) (c : Config) → Placed c → task c b ≡ Some t → is_due c r t.wait ≡ true → Leads (λ e. suc (weigh e.tasks) ≤ weigh c.tasks) (by_itself p b r due (timed_out t.wait (read_at r c)))
due_lighter p b r t c h there is =
    let d = timed_out t.wait (read_at r c) in
    let tasks = timed_tasks t.wait (read_at r c) in
    let same : weigh d.tasks ≡ weigh c.tasks = ap weigh tasks.0 in
    let rises : RisesFrom 0 d.made d.tasks = subst (λ m. RisesFrom 0 m d.tasks) (sym tasks.1) (subst (λ ts. RisesFrom 0 c.made ts) (sym tasks.0) h.rises) in
    let at : task d b ≡ Some t = ap (λ ts. task_in ts b) tasks.0 ∙ there in
    some_case (Leads (λ e. suc (weigh e.tasks) ≤ weigh c.tasks)) (task d b) NotNow (λ v. merged b v.parent (due (scene p d b v r) (local d b v)) d) tt
    (λ v found.
    let two : Some t ≡ Some v = sym at ∙ found in
    let one : t ≡ v = cc two in
    let less : suc (lighter v.wait) ≤ weight v.wait = heavier r c v.wait (subst (λ (x : Task). is_due c r x.wait ≡ true) one is) in
    leads_on (Gains d (weight v.wait) (lighter v.wait)) (λ e. suc (weigh e.tasks) ≤ weigh c.tasks) (merged b v.parent (due (scene p d b v r) (local d b v)) d) (λ e gains. omega (arith, gains, less, same))
    (merged_gains (lighter v.wait) b v.parent (due (scene p d b v r) (local d b v)) d v rises found
    (far_from b v c h (there ∙ ap (λ x. Some x) one))
    (due_within (scene p d b v r) v.wait (local d b v))))

-- ## A branch that begins
module _ (a : ℕ) (t : Task) where
  begun_level : (body : ParallelBody) (left : WorkLeft) (n : ℕ) (running : List ℕ) (es : List (ℕ × Data)) (k : List Item) (c : Config) → RisesFrom 0 c.made c.tasks → task c a ≡ Some t → Level c (begun a t body left n running es k c)
  begun_level body left n running es k c h there =
      let d = record c { made = suc c.made } in
      put_level d a t (record t { control = Item.Join body left (suc n) running es ∷ k }) (higher 0 c.made (suc c.made) c.tasks (omega arith) h) there refl

  no_new : (c : Config) → RisesFrom 0 c.made c.tasks → task c c.made ≡ None
  no_new c h = none_at (task c c.made) refl
    where
      none_at : (o : Option Task) → task c c.made ≡ o → o ≡ None
      none_at None is = refl
      none_at (Some v) is = absurd (let lt = known 0 c.made c.made c.tasks v h is in omega (arith, lt))

  starts_two : (body : ParallelBody) (left : WorkLeft) (n : ℕ) (running : List ℕ) (es : List (ℕ × Data)) (k : List Item) (ss : Steps) (ps : Answer Pairs) (c : Config) → Placed c → task c a ≡ Some t → Leads (Two c) (starts a t body left n running es k ss ps c)
  starts_two body left n running es k ss (Ok ps) c h there =
      let e = begun a t body left n (running ++ c.made ∷ []) es k c in
      let level = begun_level body left n (running ++ c.made ∷ []) es k c h.rises there in
      let less = known 0 c.made a c.tasks t h.rises there in
      let u = new_task a n in
      let differ : c.made ≡ a → ⊥ = λ same. omega (arith, less, same) in
      let gone : task e c.made ≡ None = put_other a c.made (record t { control = Item.Join body left (suc n) (running ++ c.made ∷ []) es ∷ k }) c.tasks differ ∙ no_new c h.rises in
      let d = with_task c.made u e in
      let new = weigh_new c.made u e.tasks gone in
      let was = level.0 in
      leads_on (Gains d 0 2) (Two c) (merged c.made (Some (a, n)) (goes (Do ss ss ∷ []) (fresh ps)) d) (λ x gains. omega (arith, gains, new, was))
      (merged_gains 2 c.made (Some (a, n)) (goes (Do ss ss ∷ []) (fresh ps)) d u (put_rises 0 (suc c.made) c.made u e.tasks (omega arith) (omega arith) level.1) (put_same c.made u e.tasks)
      (λ p is same. let one : (a, n) ≡ p = cc is in let first : a ≡ p.0 = ap (λ (z : ℕ × ℕ). z.0) one in omega (arith, less, first, same))
      (any_within (goes (Do ss ss ∷ []) (fresh ps))))
  starts_two body left n running es k ss (Err f) c h there = let level = begun_level body left n running (put_error n (error_map f) es) k c h.rises there in let was = level.0 in omega (arith, was)

  starts_turn_two : (body : ParallelBody) (l : LoopBody) (v : Option (Data × Left)) (n : ℕ) (running : List ℕ) (es : List (ℕ × Data)) (k : List Item) (c : Config) → Placed c → task c a ≡ Some t → Leads (Two c) (starts_turn a t body l v n running es k c)
  starts_turn_two body l None n running es k c h there = tt
  starts_turn_two body l (Some v) n running es k c h there = starts_two body (ValuesLeft v.1) n running es k (loop_steps l) _ c h there

  starts_work_two : (body : ParallelBody) (left : WorkLeft) (n : ℕ) (running : List ℕ) (es : List (ℕ × Data)) (k : List Item) (c : Config) → Placed c → task c a ≡ Some t → Leads (Two c) (starts_work a t body left n running es k c)
  starts_work_two body (BranchesLeft (branch x ss bs)) n running es k c h there = starts_two body (BranchesLeft bs) n running es k ss (Ok no_pairs) c h there
  starts_work_two body (BranchesLeft no_branches) n running es k c h there = tt
  starts_work_two (parallel names limit (OfLoop l)) (ValuesLeft left) n running es k c h there = starts_turn_two (parallel names limit (OfLoop l)) l (next_of left) n running es k c h there
  starts_work_two (parallel names limit (OfBranches bs)) (ValuesLeft left) n running es k c h there = tt

  begins_two : (k : List Item) (c : Config) → Placed c → task c a ≡ Some t → Leads (Two c) (begins_by a t k c)
  begins_two (Item.Join body left n running es ∷ k) c h there = starts_work_two body left n running es k c h there
  begins_two [] c h there = tt
  begins_two (i ∷ k) c h there = tt

-- ## Steps
-- an event counts three, or makes the tasks lighter
abbrev Pays : Config → Config → Type 0
Pays b c = suc (weigh c.tasks + 3 * b.moves) ≤ weigh b.tasks + 3 * c.moves

counted_pays : (b : Config) (f : Config → After) → Leads (Two (one_more b)) (f (one_more b)) → Leads (Same_of (one_more b)) (f (one_more b)) → Leads (Pays b) (counted b f)
counted_pays b f two same =
    bool_case (Leads (Pays b)) (nat_lt (suc b.moves) move_limit) (f (one_more b)) (To (stopped (one_more b)))
    (λ _. leads_on (λ e. Two (one_more b) e × Same_of (one_more b) e) (Pays b) (f (one_more b)) (λ e h. let x = h.0 in let y = h.1.2 in omega (arith, x, y)) (both_lead (Two (one_more b)) (Same_of (one_more b)) (f (one_more b)) two same))
    (λ _. omega arith)

at_one : (b : Config) → Placed b → Placed (one_more b)
at_one b h = record { rises = h.rises; parents = h.parents }

at_read : (r : ℕ) (b : Config) → Placed b → Placed (read_at r b)
at_read r b h = record { rises = h.rises; parents = h.parents }

for_task_pays : (P : Config → Type 0) (c : Config) (b : ℕ) (test : Task → Bool) (f : Task → After) → ((t : Task) → task c b ≡ Some t → test t ≡ true → Leads P (f t)) → Leads P (for_task c b test f)
for_task_pays P c b test f h = some_case (Leads P) (task c b) NotNow (λ t. when (test t) (f t)) tt (λ t there. when_leads P (test t) (f t) (λ is. h t there is))

itself_pays : (p : Program) (b now : ℕ) (f : Scene → Local → Moved) (c : Config) → Placed c → Leads (Pays c) (counted c (by_itself p b now f))
itself_pays p b now f c h = counted_pays c (by_itself p b now f) (itself_two p b now f (one_more c) (at_one c h)) (by_itself_stays (Same_of (one_more c)) (same_stays (one_more c)) p b now f (one_more c) (refl, refl, refl))

by_event_pays : (p : Program) (c : Config) (e : Event) → Placed c → IsFromInside e → Leads (Pays c) (by_event p c e)
by_event_pays p c (Event.Move b) h inside = for_task_pays (Pays c) c b (wants p Plainly) _ (λ t there is. itself_pays p b 0 move c h)
by_event_pays p c (Event.MoveAt b r) h inside = when_leads (Pays c) (nat_le c.last r) _ (λ _. for_task_pays (Pays c) c b (wants p ByClock) _ (λ t there is. itself_pays p b r move (read_at r c) (at_read r c h)))
by_event_pays p c (Event.Begin b) h inside =
    for_task_pays (Pays c) c b may_begin _ (λ t there is.
    counted_pays c (begins_by b t t.control) (begins_two b t t.control (one_more c) (at_one c h) there) (begins_stays (Same_of (one_more c)) (same_stays (one_more c)) b t t.control (one_more c) (refl, refl, refl)))
by_event_pays p c (Event.Issue b r) h inside = when_leads (Pays c) (nat_le c.last r) _ (λ _. for_task_pays (Pays c) c b (wants p ByCall) _ (λ t there is. itself_pays p b r issue (read_at r c) (at_read r c h)))
by_event_pays p c (Event.Answer n r a) h inside = absurd inside
by_event_pays p c (Event.Due b r) h inside =
    when_leads (Pays c) (nat_le c.last r) _ (λ _. for_task_pays (Pays c) c b (λ t. is_due c r t.wait) _ (λ t there is.
    let d = timed_out t.wait (read_at r c) in
    leads_on (λ e. (suc (weigh e.tasks) ≤ weigh c.tasks) × Same_of (read_at r c) e) (Pays c) (by_itself p b r due d) (λ e x. let y = x.0 in let z = x.1.2 in omega (arith, y, z))
    (both_lead (λ e. suc (weigh e.tasks) ≤ weigh c.tasks) (Same_of (read_at r c)) (by_itself p b r due d) (due_lighter p b r t c h there is)
    (by_itself_stays (Same_of (read_at r c)) (same_stays (read_at r c)) p b r due d (timed_out_stays (Same_of (read_at r c)) (same_stays (read_at r c)) t.wait (read_at r c) (refl, refl, refl))))))
by_event_pays p c (Event.Arrive n r v) h inside = absurd inside
by_event_pays p c (Event.Cancel r) h inside = absurd inside

step_pays : (o : Outcome) (p : Program) (c : Config) (e : Event) → Placed c → IsFromInside e → Leads (Pays c) (step_from o p c e)
step_pays Active p c e h inside = by_event_pays p c e h inside
step_pays (Returned v) p c e h inside = tt
step_pays (Raised v) p c e h inside = tt
step_pays Cancelled p c e h inside = tt

-- ## Runs
starts_there : (p : Program) (a : After) (es : List Event) (c : Config) → run_on p a es ≡ To c → (b : Config) × (a ≡ To b)
starts_there p (To b) es c is = (b, refl)
starts_there p (Wrong k) [] c is = absurd (let f : Wrong k ≡ To c = is in cc f)
starts_there p (Wrong k) (e ∷ es) c is = absurd (let f : NotNow ≡ To c = is in cc f)
starts_there p NotNow [] c is = absurd (let f : NotNow ≡ To c = is in cc f)
starts_there p NotNow (e ∷ es) c is = absurd (let f : NotNow ≡ To c = is in cc f)

pub events_are_counted : StepsStaySound → EventsAreCounted
events_are_counted stay p b c [] sound all is = let same : b ≡ c = cc is in subst (λ (d : Config). weigh d.tasks + 0 + 3 * b.moves ≤ weigh b.tasks + 3 * d.moves) same (omega arith)
events_are_counted stay p b c (e ∷ es) sound all is =
    let (d, first) = starts_there p (next p b e) es c is in
    let pays = led_to (Pays b) (next p b e) d (step_pays b.outcome p b e (placed b sound) all.0) first in
    let rest = events_are_counted stay p d c es (stay p b d e sound first) all.1 (ap (λ a. run_on p a es) (sym first) ∙ is) in
    omega (arith, pays, rest)

-- ## From outside
-- a task that waits goes on, at most into a delay
goes_on_light : (p : Program) (b : ℕ) (f : Scene → Local → Moved) (c d : Config) → Placed c → d.tasks ≡ c.tasks → d.made ≡ c.made → ((t : Task) → task c b ≡ Some t → 1 ≤ weight t.wait) → ((s : Scene) (l : Local) → By (Within 1) (f s l))
    → Leads (λ e. weigh e.tasks ≤ weigh c.tasks) (by_itself p b 0 f d)
goes_on_light p b f c d h tasks made heavy light =
    let rises : RisesFrom 0 d.made d.tasks = subst (λ m. RisesFrom 0 m d.tasks) (sym made) (subst (λ ts. RisesFrom 0 c.made ts) (sym tasks) h.rises) in
    let same : weigh d.tasks ≡ weigh c.tasks = ap weigh tasks in
    some_case (Leads (λ e. weigh e.tasks ≤ weigh c.tasks)) (task d b) NotNow (λ v. merged b v.parent (f (scene p d b v 0) (local d b v)) d) tt
    (λ v found.
    let there : task c b ≡ Some v = ap (λ ts. task_in ts b) (sym tasks) ∙ found in
    let weighs = heavy v there in
    leads_on (Gains d (weight v.wait) 1) (λ e. weigh e.tasks ≤ weigh c.tasks) (merged b v.parent (f (scene p d b v 0) (local d b v)) d) (λ e gains. omega (arith, gains, weighs, same))
    (merged_gains 1 b v.parent (f (scene p d b v 0) (local d b v)) d v rises found (far_from b v c h there) (light (scene p d b v 0) (local d b v))))

replied_light : (p : Program) (n : ℕ) (a : Reply) (i : ℕ) (t : Task) (w : Wait) (c : Config) → Placed c → task c i ≡ Some t → t.wait ≡ w → Leads (λ e. weigh e.tasks ≤ weigh c.tasks) (replied p n a i w c)
replied_light p n a i t (Calling m r) c h there is =
    let e = record c { bodies = c.bodies + reply_length a } in
    let f : Scene → Local → Moved = λ z l. resumed z r (reply_result a) l in
    let same = close_tasks n Answered e in
    bool_case (Leads (λ x. weigh x.tasks ≤ weigh c.tasks)) (nat_le (c.bodies + reply_length a) body_limit) (by_itself p i 0 f (close n Answered e)) (To (stopped c))
    (λ _. goes_on_light p i f c (close n Answered e) h same.0 same.1
    (λ v found.
    let two : Some t ≡ Some v = sym there ∙ found in
    let one : t ≡ v = cc two in
    let weighs : weight v.wait ≡ 2 = ap (λ (x : Task). weight x.wait) (sym one) ∙ ap weight is in
    omega (arith, weighs))
    (λ z l. resumed_within z r (reply_result a) l))
    (λ _. omega arith)
replied_light p n a i t Awake c h there is = tt
replied_light p n a i t (Sleep d r) c h there is = tt
replied_light p n a i t (Delay d) c h there is = tt
replied_light p n a i t (Await m d r) c h there is = tt

replied_to_light : (p : Program) (n : ℕ) (a : Reply) (x : Call) (c : Config) → Placed c → Leads (λ e. weigh e.tasks ≤ weigh c.tasks) (replied_to p n a x c)
replied_to_light p n a (Open i q d) c h = some_case (Leads (λ e. weigh e.tasks ≤ weigh c.tasks)) (task c i) NotNow (λ t. replied p n a i t.wait c) tt (λ t there. replied_light p n a i t t.wait c h there refl)
replied_to_light p n a Answered c h = tt
replied_to_light p n a TimedOut c h = tt

waits_weigh : (n : ℕ) (w : Wait) → waits_for n w ≡ true → 1 ≤ weight w
waits_weigh n Awake is = absurd (let f : false ≡ true = is in cc f)
waits_weigh n (Sleep d r) is = omega arith
waits_weigh n (Delay d) is = omega arith
waits_weigh n (Calling k r) is = omega arith
waits_weigh n (Await m d r) is = omega arith

waiting_weighs : (n b low made : ℕ) (t : Task) (ts : List (ℕ × Task)) → RisesFrom low made ts → waiting_in n ts ≡ Some b → task_in ts b ≡ Some t → 1 ≤ weight t.wait
waiting_weighs n b low made t [] h is at = absurd (let f : None ≡ Some b = is in cc f)
waiting_weighs n b low made t (u ∷ us) h found at =
    bool_case (λ o. o ≡ Some b → task_in (u ∷ us) b ≡ Some t → 1 ≤ weight t.wait) (waits_for n u.1.wait) (Some u.0) (waiting_in n us)
    (λ on is there.
    let one : u.0 ≡ b = cc is in
    let two : Some u.1 ≡ Some t = sym (ap (λ v. if v then Some u.1 else task_in us b) (eq-eqb u.0 b one)) ∙ there in
    let same : u.1 ≡ t = cc two in
    subst (λ (v : Task). 1 ≤ weight v.wait) same (waits_weigh n u.1.wait on))
    (λ _ is there.
    let more = waiting_from n b (suc u.0) made us h.2 is in
    waiting_weighs n b (suc u.0) made t us h.2 is (sym (ap (λ v. if v then Some u.1 else task_in us b) (ne_eqb u.0 b (λ same. omega (arith, more, same)))) ∙ there))
    found at

taken_light : (p : Program) (n : ℕ) (v : Visitor) (o : Option ℕ) (c : Config) → Placed c → ((b : ℕ) (t : Task) → o ≡ Some b → task c b ≡ Some t → 1 ≤ weight t.wait) → Leads (λ e. weigh e.tasks ≤ weigh c.tasks) (taken_by p n v o c)
taken_light p n v None c h heavy = omega arith
taken_light p n v (Some b) c h heavy = goes_on_light p b (λ s l. resumed s (result_of l.wait) (visit_result v) l) c c h refl refl (λ t there. heavy b t refl there) (λ s l. resumed_within s (result_of l.wait) (visit_result v) l)

visited_light : (p : Program) (n : ℕ) (v : Visitor) (f : Option ArriveFault) (c : Config) → Placed c → Leads (λ e. weigh e.tasks ≤ weigh c.tasks) (visited p n v f c)
visited_light p n v (Some f) c h = tt
visited_light p n v None c h =
    let d = record c { bodies = c.bodies + length v.body } in
    taken_light p n v (waiting_in n c.tasks) d (record { rises = h.rises; parents = h.parents }) (λ b t is there. waiting_weighs n b 0 c.made t c.tasks h.rises is there)

outside_light : (o : Outcome) (p : Program) (c : Config) (e : Event) → Placed c → IsFromOutside e → Leads (λ x. weigh x.tasks ≤ weigh c.tasks) (step_from o p c e)
outside_light (Returned v) p c e h is = tt
outside_light (Raised v) p c e h is = tt
outside_light Cancelled p c e h is = tt
outside_light Active p c (Event.Answer n r a) h is = when_leads (λ x. weigh x.tasks ≤ weigh c.tasks) (nat_le c.last r) _ (λ _. replied_to_light p n a (call c n) (read_at r c) (at_read r c h))
outside_light Active p c (Event.Arrive n r v) h is = when_leads (λ x. weigh x.tasks ≤ weigh c.tasks) (nat_le c.last r) _ (λ _. visited_light p n v (arrive_fault c.endpoints n v (bodies_left c)) (read_at r c) (at_read r c h))
outside_light Active p c (Event.Move b) h is = absurd is
outside_light Active p c (Event.MoveAt b r) h is = absurd is
outside_light Active p c (Event.Begin b) h is = absurd is
outside_light Active p c (Event.Issue b r) h is = absurd is
outside_light Active p c (Event.Due b r) h is = absurd is
outside_light Active p c (Event.Cancel r) h is = absurd is

pub taken_weighs_nothing : TakenWeighsNothing
taken_weighs_nothing p b c e sound outside is = led_to (λ x. weigh x.tasks ≤ weigh b.tasks) (next p b e) c (outside_light b.outcome p b e (placed b sound) outside) is

-- ## All events
-- a task that waits for a call goes on, at most into a delay: it is lighter then
goes_on_lighter : (p : Program) (b : ℕ) (f : Scene → Local → Moved) (c d : Config) → Placed c → d.tasks ≡ c.tasks → d.made ≡ c.made → ((t : Task) → task c b ≡ Some t → 2 ≤ weight t.wait) → ((s : Scene) (l : Local) → By (Within 1) (f s l))
    → Leads (λ e. suc (weigh e.tasks) ≤ weigh c.tasks + is_over e.outcome) (by_itself p b 0 f d)
goes_on_lighter p b f c d h tasks made heavy light =
    let rises : RisesFrom 0 d.made d.tasks = subst (λ m. RisesFrom 0 m d.tasks) (sym made) (subst (λ ts. RisesFrom 0 c.made ts) (sym tasks) h.rises) in
    let same : weigh d.tasks ≡ weigh c.tasks = ap weigh tasks in
    some_case (Leads (λ e. suc (weigh e.tasks) ≤ weigh c.tasks + is_over e.outcome)) (task d b) NotNow (λ v. merged b v.parent (f (scene p d b v 0) (local d b v)) d) tt
    (λ v found.
    let there : task c b ≡ Some v = ap (λ ts. task_in ts b) (sym tasks) ∙ found in
    let weighs = heavy v there in
    leads_on (Gains d (weight v.wait) 1) (λ e. suc (weigh e.tasks) ≤ weigh c.tasks + is_over e.outcome) (merged b v.parent (f (scene p d b v 0) (local d b v)) d) (λ e gains. omega (arith, gains, weighs, same))
    (merged_gains 1 b v.parent (f (scene p d b v 0) (local d b v)) d v rises found (far_from b v c h there) (light (scene p d b v 0) (local d b v))))

replied_lighter : (p : Program) (n : ℕ) (a : Reply) (i : ℕ) (t : Task) (w : Wait) (c : Config) → Placed c → task c i ≡ Some t → t.wait ≡ w → Leads (λ e. suc (weigh e.tasks) ≤ weigh c.tasks + is_over e.outcome) (replied p n a i w c)
replied_lighter p n a i t (Calling m r) c h there is =
    let e = record c { bodies = c.bodies + reply_length a } in
    let f : Scene → Local → Moved = λ z l. resumed z r (reply_result a) l in
    let same = close_tasks n Answered e in
    bool_case (Leads (λ x. suc (weigh x.tasks) ≤ weigh c.tasks + is_over x.outcome)) (nat_le (c.bodies + reply_length a) body_limit) (by_itself p i 0 f (close n Answered e)) (To (stopped c))
    (λ _. goes_on_lighter p i f c (close n Answered e) h same.0 same.1
    (λ v found.
    let two : Some t ≡ Some v = sym there ∙ found in
    let one : t ≡ v = cc two in
    let weighs : weight v.wait ≡ 2 = ap (λ (x : Task). weight x.wait) (sym one) ∙ ap weight is in
    omega (arith, weighs))
    (λ z l. resumed_within z r (reply_result a) l))
    (λ _. omega arith)
replied_lighter p n a i t Awake c h there is = tt
replied_lighter p n a i t (Sleep d r) c h there is = tt
replied_lighter p n a i t (Delay d) c h there is = tt
replied_lighter p n a i t (Await m d r) c h there is = tt

replied_to_lighter : (p : Program) (n : ℕ) (a : Reply) (x : Call) (c : Config) → Placed c → Leads (λ e. suc (weigh e.tasks) ≤ weigh c.tasks + is_over e.outcome) (replied_to p n a x c)
replied_to_lighter p n a (Open i q d) c h = some_case (Leads (λ e. suc (weigh e.tasks) ≤ weigh c.tasks + is_over e.outcome)) (task c i) NotNow (λ t. replied p n a i t.wait c) tt (λ t there. replied_lighter p n a i t t.wait c h there refl)
replied_to_lighter p n a Answered c h = tt
replied_to_lighter p n a TimedOut c h = tt

-- what an event uses up
abbrev Uses : Config → ℕ → Config → Type 0
Uses b n c = weigh c.tasks + n + 3 * b.moves ≤ weigh b.tasks + 3 * c.moves + is_over c.outcome

pays_uses : (b : Config) (a : After) → Leads (Pays b) a → Leads (Uses b 1) a
pays_uses b a h = leads_on (Pays b) (Uses b 1) a (λ e x. omega (arith, x)) h

by_event_uses : (p : Program) (c : Config) (e : Event) → Placed c → Leads (Uses c (price e)) (by_event p c e)
by_event_uses p c (Event.Move b) h = pays_uses c _ (by_event_pays p c (Event.Move b) h tt)
by_event_uses p c (Event.MoveAt b r) h = pays_uses c _ (by_event_pays p c (Event.MoveAt b r) h tt)
by_event_uses p c (Event.Begin b) h = pays_uses c _ (by_event_pays p c (Event.Begin b) h tt)
by_event_uses p c (Event.Issue b r) h = pays_uses c _ (by_event_pays p c (Event.Issue b r) h tt)
by_event_uses p c (Event.Due b r) h = pays_uses c _ (by_event_pays p c (Event.Due b r) h tt)
by_event_uses p c (Event.Answer n r a) h =
    when_leads (Uses c 1) (nat_le c.last r) _ (λ _.
    leads_on (λ e. (suc (weigh e.tasks) ≤ weigh c.tasks + is_over e.outcome) × Same_of (read_at r c) e) (Uses c 1) (replied_to p n a (call c n) (read_at r c)) (λ e x. let y = x.0 in let z = x.1.2 in omega (arith, y, z))
    (both_lead (λ e. suc (weigh e.tasks) ≤ weigh c.tasks + is_over e.outcome) (Same_of (read_at r c)) (replied_to p n a (call c n) (read_at r c)) (replied_to_lighter p n a (call c n) (read_at r c) (at_read r c h))
    (replied_to_stays (Same_of (read_at r c)) (same_stays (read_at r c)) p n a (call c n) (read_at r c) (refl, refl, refl))))
by_event_uses p c (Event.Arrive n r v) h =
    when_leads (Uses c 0) (nat_le c.last r) _ (λ _.
    let f = arrive_fault c.endpoints n v (bodies_left c) in
    leads_on (λ e. (weigh e.tasks ≤ weigh c.tasks) × Same_of (read_at r c) e) (Uses c 0) (visited p n v f (read_at r c)) (λ e x. let y = x.0 in let z = x.1.2 in omega (arith, y, z))
    (both_lead (λ e. weigh e.tasks ≤ weigh c.tasks) (Same_of (read_at r c)) (visited p n v f (read_at r c)) (visited_light p n v f (read_at r c) (at_read r c h))
    (visited_stays (Same_of (read_at r c)) (same_stays (read_at r c)) p n v f (read_at r c) (refl, refl, refl))))
by_event_uses p c (Event.Cancel r) h = when_leads (Uses c 1) (nat_le c.last r) _ (λ _. omega arith)

step_uses : (o : Outcome) (p : Program) (c : Config) (e : Event) → Placed c → Leads (Uses c (price e)) (step_from o p c e)
step_uses Active p c e h = by_event_uses p c e h
step_uses (Returned v) p c e h = tt
step_uses (Raised v) p c e h = tt
step_uses Cancelled p c e h = tt

-- an event comes only without an outcome
still_active : (o : Outcome) (p : Program) (c d : Config) (e : Event) → step_from o p c e ≡ To d → is_over o ≡ 0
still_active Active p c d e is = refl
still_active (Returned v) p c d e is = absurd (let f : NotNow ≡ To d = is in cc f)
still_active (Raised v) p c d e is = absurd (let f : NotNow ≡ To d = is in cc f)
still_active Cancelled p c d e is = absurd (let f : NotNow ≡ To d = is in cc f)

pub events_are_few : StepsStaySound → EventsAreFew
events_are_few stay p b c [] sound is = let same : b ≡ c = cc is in subst (λ (d : Config). weigh d.tasks + 0 + 3 * b.moves ≤ weigh b.tasks + 3 * d.moves + is_over d.outcome) same (omega arith)
events_are_few stay p b c (e ∷ es) sound is =
    let (d, first) = starts_there p (next p b e) es c is in
    let uses = led_to (Uses b (price e)) (next p b e) d (step_uses b.outcome p b e (placed b sound)) first in
    let onward : run_on p (To d) es ≡ To c = ap (λ a. run_on p a es) (sym first) ∙ is in
    behind d uses es onward (events_are_few stay p d c es (stay p b d e sound first) onward)
  where
    behind : (d : Config) → Uses b (price e) d → (fs : List Event) → run_on p (To d) fs ≡ To c → weigh c.tasks + prices fs + 3 * d.moves ≤ weigh d.tasks + 3 * c.moves + is_over c.outcome
        → weigh c.tasks + (price e + prices fs) + 3 * b.moves ≤ weigh b.tasks + 3 * c.moves + is_over c.outcome
    behind d uses [] onward rest = let same : d ≡ c = cc onward in subst (λ (x : Config). weigh x.tasks + (price e + 0) + 3 * b.moves ≤ weigh b.tasks + 3 * x.moves + is_over x.outcome) same (omega (arith, uses))
    behind d uses (f ∷ fs) onward rest =
        let (x, second) = starts_there p (next p d f) fs c onward in
        let active = still_active d.outcome p d x f second in
        omega (arith, uses, rest, active)

each_is_one : (es : List Event) → length es ≡ prices es + arrivals es
each_is_one [] = refl
each_is_one (Event.Move b ∷ es) = let h = each_is_one es in omega (arith, h)
each_is_one (Event.MoveAt b r ∷ es) = let h = each_is_one es in omega (arith, h)
each_is_one (Event.Begin b ∷ es) = let h = each_is_one es in omega (arith, h)
each_is_one (Event.Issue b r ∷ es) = let h = each_is_one es in omega (arith, h)
each_is_one (Event.Answer k r a ∷ es) = let h = each_is_one es in omega (arith, h)
each_is_one (Event.Due b r ∷ es) = let h = each_is_one es in omega (arith, h)
each_is_one (Event.Arrive n r v ∷ es) = let h = each_is_one es in omega (arith, h)
each_is_one (Event.Cancel r ∷ es) = let h = each_is_one es in omega (arith, h)

over_at_most : (o : Outcome) → is_over o ≤ 1
over_at_most Active = omega arith
over_at_most (Returned v) = omega arith
over_at_most (Raised v) = omega arith
over_at_most Cancelled = omega arith

-- at first the only task weighs nothing
light_at_first : (p : Program) (s : Start) (b : Config) → initial p s ≡ To b → (weigh b.tasks ≡ 0) × (b.moves ≡ 0)
light_at_first p s b is =
    let k : List Item = Do (main_steps p.flows) (main_steps p.flows) ∷ [] in
    let l : Local = main_local p (unwrap_or (json_value s.argument) null) in
    let m : Moved = goes k l in
    let none : weight l.wait ≤ 0 = omega arith in
    let by : By (Within 0) m = goes_by (Within 0) k l none in
    let rises : RisesFrom 0 (empty s).made (empty s).tasks = (omega arith, omega arith, tt) in
    let gains : Gains (empty s) 0 0 b = led_to (Gains (empty s) 0 0) (initial p s) b (merged_gains 0 0 None m (empty s) main_task rises refl (λ q no. let f : None ≡ Some q = no in cc f) by) is in
    let same = led_to (Same_of (empty s)) (initial p s) b (merged_stays (Same_of (empty s)) (same_stays (empty s)) 0 None m (empty s) (refl, refl, refl)) is in
    let moves = same.2 in
    (omega (arith, gains), moves)

pub runs_are_short : StepsStaySound → SoundAtFirst → RunsAreBounded → RunsAreShort
runs_are_short stay first bounded p s es c run =
    let (b, begins) = starts_there p (initial p s) es c run in
    let light = light_at_first p s b begins in
    let weighs = light.0 in
    let moves = light.1 in
    let few = events_are_few stay p b c es (first p s b begins) (ap (λ a. run_on p a es) (sym begins) ∙ run) in
    let most = (bounded p s es c run).moves in
    let over = over_at_most c.outcome in
    let size = each_is_one es in
    omega (arith, weighs, moves, few, most, over, size)
