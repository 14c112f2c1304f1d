-- A walk over all that one event does, for a fact of configurations that stays in each part of it.
use Rattle.std.specs.Prelude.{◌≡◌, ℕ, suc, ◌+◌, length, Bool, true, false, List, [], ◌∷◌, ◌++◌, if◌then◌else◌, nat_le, Some, None, Ok, Err, Option, Result}
use mathlib.Core.Path.{refl}
use Rattle.wf_ast.specs.Tree.{Steps, LoopBody, ParallelBody, parallel, OfBranches, OfLoop, branch, no_branches, Program}
use Rattle.wf_model.proofs.After.{Leads}
use Rattle.wf_model.specs.Config.{Left, WorkLeft, BranchesLeft, ValuesLeft, Item, Do, Wait, Calling, Task, Call, Open, Answered, TimedOut, LogEntry, Outcome, Raised, Config, After, To, Wrong, NotNow, body_limit, task, with_task, put_in, drop_in, next_of}
use Rattle.wf_model.specs.Local.{Outer, Local, Scene, End, Effect, Sends, Creates, Takes, Logs, Moved, Goes, Ends, Does, Breaks, Not, goes}
use Rattle.wf_model.specs.Move.{loop_steps, resumed}
use Rattle.wf_model.specs.Ready.{request_in}
use Rattle.wf_model.specs.Step.{stopped, close, replied, replied_to, timed_out, begun, new_task, fresh, starts, starts_turn, starts_work, begins_by, when, for_task, waiting_in, result_of, taken_by, visited}
use Rattle.wf_model.specs.Taken.{scene, local, put_outer, put_back, layer_at, joined, put_error, without_task, finish, outcome_of, done, merged, by_itself}
use Rattle.wf_value.specs.Data.{Data, Pairs, no_pairs}
use Rattle.wf_value.specs.Errors.{error_map, Answer}
use Rattle.wf_value.specs.declared.Tag.TheVariants.{ResourceLimitError}
use Rattle.wf_value.specs.Events.{Visitor, Reply}
use Rattle.wf_value.specs.HttpRequest.{Request}
use Rattle.wf_value.specs.HttpText.{reply_result, visit_result, reply_length}
use Rattle.wf_value.specs.Pairs.{Text}
use Rattle.wf_value.specs.Queues.{Endpoint, ArriveFault}

-- ## Cases
pub option_case : {A B : Type 0} (P : B → Type 0) (o : Option A) (x : B) (f : A → B) → P x → ((t : A) → P (f t)) → P (elim o [ None ↦ x | Some t ↦ f t ])
option_case P None x f h k = h
option_case P (Some t) x f h k = k t

pub some_case : {A B : Type 0} (P : B → Type 0) (o : Option A) (x : B) (f : A → B) → P x → ((t : A) → o ≡ Some t → P (f t)) → P (elim o [ None ↦ x | Some t ↦ f t ])
some_case P None x f h k = h
some_case P (Some t) x f h k = k t refl

pub bool_case : {B : Type 0} (P : B → Type 0) (t : Bool) (x y : B) → (t ≡ true → P x) → (t ≡ false → P y) → P (if t then x else y)
bool_case P true x y h k = h refl
bool_case P false x y h k = k refl

pub leads_on : (P Q : Config → Type 0) (a : After) → ((c : Config) → P c → Q c) → Leads P a → Leads Q a
leads_on P Q (To c) f h = f c h
leads_on P Q (Wrong k) f h = tt
leads_on P Q NotNow f h = tt

pub when_leads : (P : Config → Type 0) (t : Bool) (a : After) → (t ≡ true → Leads P a) → Leads P (when t a)
when_leads P true a h = h refl
when_leads P false a h = tt

pub for_task_led : (P : Config → Type 0) (c : Config) (n : ℕ) (test : Task → Bool) (f : Task → After) → ((t : Task) → task c n ≡ Some t → test t ≡ true → Leads P (f t)) → Leads P (for_task c n test f)
for_task_led P c n test f h = some_case (Leads P) (task c n) NotNow (λ t. when (test t) (f t)) tt (λ t at. when_leads P (test t) (f t) (λ e. h t at e))

pub for_task_leads : (P : Config → Type 0) (c : Config) (n : ℕ) (test : Task → Bool) (f : Task → After) → ((t : Task) → Leads P (f t)) → Leads P (for_task c n test f)
for_task_leads P c n test f h = for_task_led P c n test f (λ t at is. h t)

-- ## The parts of an event
-- what stays where each move is one of those that `Fine` tells, as those are that begin a branch and those behind a wait
pub record StaysWhere (P : Config → Type 0) (Fine : Moved → Type 0) : Type 0 where
  pub tasks : (c : Config) (ts : List (ℕ × Task)) → P c → P (record c { tasks = ts })
  pub made : (c : Config) → P c → P (record c { made = suc c.made })
  pub closed : (c : Config) (n : ℕ) (x : Call) → request_in x ≡ None → P c → P (close n x c)
  pub endpoints : (c : Config) (es : List Endpoint) → P c → P (record c { endpoints = es })
  pub logged : (c : Config) (e : LogEntry) → P c → P (record c { log = c.log ++ e ∷ [] })
  pub bodies : (c : Config) (n : ℕ) → P c → P (record c { bodies = n })
  pub outcome : (c : Config) (o : Outcome) → P c → P (record c { outcome = o })
  pub sent : (c : Config) (n : ℕ) (q : Request) (d : ℕ) (m : Moved) → Fine (Does (Sends q d) m) → P c → P (record c { calls = c.calls ++ Open n q d ∷ [] })
  pub behind : (x : Effect) (m : Moved) → Fine (Does x m) → Fine m
  pub begins : (ss : Steps) (ps : Pairs) → Fine (goes (Do ss ss ∷ []) (fresh ps))
  pub resumes : (z : Scene) (r : Option Text) (a : Result Data Data) (l : Local) → Fine (resumed z r a l)

module _ (P : Config → Type 0) (Fine : Moved → Type 0) (s : StaysWhere P Fine) where
  put_outer_where : (os : List Outer) (c : Config) → P c → P (put_outer os c)
  put_outer_where [] c h = h
  put_outer_where (o ∷ os) c h =
      option_case P (task c o.task) (put_outer os c) (λ t. put_outer os (with_task o.task (record t { layers = layer_at o.above o.layer t.layers }) c))
      (put_outer_where os c h) (λ t. put_outer_where os (with_task o.task (record t { layers = layer_at o.above o.layer t.layers }) c) (s.tasks c _ h))

  pub put_back_where : (n : ℕ) (l : Local) (c : Config) → P c → P (put_back n l c)
  put_back_where n l c h =
      option_case P (task c n) c (λ t. put_outer l.outer (with_task n (record t { control = l.control; layers = l.layers; wait = l.wait }) c))
      h (λ t. put_outer_where l.outer (with_task n (record t { control = l.control; layers = l.layers; wait = l.wait }) c) (s.tasks c _ h))

  finish_where : (n : ℕ) (parent : Option (ℕ × ℕ)) (e : End) (c : Config) → P c → P (finish n parent e c)
  finish_where n None e c h = s.outcome (without_task n c) (outcome_of e) (s.tasks c (drop_in n c.tasks) h)
  finish_where n (Some p) e c h =
      option_case P (task c p.0) (without_task n c) (λ t. with_task p.0 (record t { control = joined n p.1 e t.control }) (without_task n c))
      (s.tasks c (drop_in n c.tasks) h) (λ t. s.tasks (without_task n c) (put_in p.0 (record t { control = joined n p.1 e t.control }) (drop_in n c.tasks)) (s.tasks c (drop_in n c.tasks) h))

  done_where : (n : ℕ) (x : Effect) (m : Moved) (c : Config) → Fine (Does x m) → P c → P (done n x c)
  done_where n (Sends q d) m c fine h = s.sent c n q d m fine h
  done_where n (Creates x) m c fine h = s.endpoints c _ h
  done_where n (Takes i) m c fine h = s.endpoints c _ h
  done_where n (Logs severity v) m c fine h = s.logged c _ h

  pub merged_where : (n : ℕ) (parent : Option (ℕ × ℕ)) (m : Moved) (c : Config) → Fine m → P c → Leads P (merged n parent m c)
  merged_where n parent (Goes l) c fine h = put_back_where n l c h
  merged_where n parent (Ends e l) c fine h = finish_where n parent e (put_outer l.outer c) (put_outer_where l.outer c h)
  merged_where n parent (Does x m) c fine h = merged_where n parent m (done n x c) (s.behind x m fine) (done_where n x m c fine h)
  merged_where n parent (Breaks k) c fine h = tt
  merged_where n parent Not c fine h = tt

  pub by_itself_where : (p : Program) (n now : ℕ) (f : Scene → Local → Moved) (c : Config) → ((t : Task) → task c n ≡ Some t → Fine (f (scene p c n t now) (local c n t))) → P c → Leads P (by_itself p n now f c)
  by_itself_where p n now f c fine h =
      some_case (Leads P) (task c n) NotNow (λ t. merged n t.parent (f (scene p c n t now) (local c n t)) c)
      tt (λ t at. merged_where n t.parent (f (scene p c n t now) (local c n t)) c (fine t at) h)

  -- branches and iterations that begin
  begun_where : (a : ℕ) (t : Task) (body : ParallelBody) (left : WorkLeft) (n : ℕ) (running : List ℕ) (es : List (ℕ × Data)) (k : List Item) (c : Config) → P c → P (begun a t body left n running es k c)
  begun_where a t body left n running es k c h = s.tasks (record c { made = suc c.made }) _ (s.made c h)

  starts_where : (a : ℕ) (t : Task) (body : ParallelBody) (left : WorkLeft) (n : ℕ) (running : List ℕ) (es : List (ℕ × Data)) (k : List Item) (ss : Steps) (ps : Answer Pairs) (c : Config) → P c → Leads P (starts a t body left n running es k ss ps c)
  starts_where a t body left n running es k ss (Ok ps) c h =
      merged_where c.made (Some (a, n)) (goes (Do ss ss ∷ []) (fresh ps)) (with_task c.made (new_task a n) (begun a t body left n (running ++ c.made ∷ []) es k c))
      (s.begins ss ps) (s.tasks (begun a t body left n (running ++ c.made ∷ []) es k c) _ (begun_where a t body left n (running ++ c.made ∷ []) es k c h))
  starts_where a t body left n running es k ss (Err e) c h = begun_where a t body left n running (put_error n (error_map e) es) k c h

  starts_turn_where : (a : ℕ) (t : Task) (body : ParallelBody) (l : LoopBody) (v : Option (Data × Left)) (n : ℕ) (running : List ℕ) (es : List (ℕ × Data)) (k : List Item) (c : Config) → P c → Leads P (starts_turn a t body l v n running es k c)
  starts_turn_where a t body l None n running es k c h = tt
  starts_turn_where a t body l (Some v) n running es k c h = starts_where a t body (ValuesLeft v.1) n running es k (loop_steps l) _ c h

  starts_work_where : (a : ℕ) (t : Task) (body : ParallelBody) (left : WorkLeft) (n : ℕ) (running : List ℕ) (es : List (ℕ × Data)) (k : List Item) (c : Config) → P c → Leads P (starts_work a t body left n running es k c)
  starts_work_where a t body (BranchesLeft (branch x ss bs)) n running es k c h = starts_where a t body (BranchesLeft bs) n running es k ss (Ok no_pairs) c h
  starts_work_where a t body (BranchesLeft no_branches) n running es k c h = tt
  starts_work_where a t (parallel names limit (OfLoop l)) (ValuesLeft left) n running es k c h = starts_turn_where a t (parallel names limit (OfLoop l)) l (next_of left) n running es k c h
  starts_work_where a t (parallel names limit (OfBranches bs)) (ValuesLeft left) n running es k c h = tt

  pub begins_where : (a : ℕ) (t : Task) (k : List Item) (c : Config) → P c → Leads P (begins_by a t k c)
  begins_where a t (Item.Join body left n running es ∷ k) c h = starts_work_where a t body left n running es k c h
  begins_where a t k c h = tt

  -- answers, due moments, and requests that come
  pub timed_out_where : (w : Wait) (c : Config) → P c → P (timed_out w c)
  timed_out_where (Calling n r) c h = s.closed c n TimedOut refl h
  timed_out_where w c h = h

  replied_where : (p : Program) (n : ℕ) (a : Reply) (i : ℕ) (w : Wait) (c : Config) → P c → Leads P (replied p n a i w c)
  replied_where p n a i (Calling m r) c h =
      bool_case (Leads P) (nat_le (c.bodies + reply_length a) body_limit) (by_itself p i 0 (λ s l. resumed s r (reply_result a) l) (close n Answered (record c { bodies = c.bodies + reply_length a }))) (To (stopped c))
      (λ e. by_itself_where p i 0 (λ s l. resumed s r (reply_result a) l) (close n Answered (record c { bodies = c.bodies + reply_length a })) (λ u at. s.resumes (scene p (close n Answered (record c { bodies = c.bodies + reply_length a })) i u 0) r (reply_result a) (local (close n Answered (record c { bodies = c.bodies + reply_length a })) i u)) (s.closed (record c { bodies = c.bodies + reply_length a }) n Answered refl (s.bodies c _ h)))
      (λ e. s.outcome c (Raised (error_map ResourceLimitError)) h)
  replied_where p n a i w c h = tt

  pub replied_to_where : (p : Program) (n : ℕ) (a : Reply) (x : Call) (c : Config) → P c → Leads P (replied_to p n a x c)
  replied_to_where p n a (Open i q d) c h = option_case (Leads P) (task c i) NotNow (λ t. replied p n a i t.wait c) tt (λ t. replied_where p n a i t.wait c h)
  replied_to_where p n a x c h = tt

  taken_by_where : (p : Program) (n : ℕ) (v : Visitor) (o : Option ℕ) (c : Config) → P c → Leads P (taken_by p n v o c)
  taken_by_where p n v None c h = s.endpoints c _ h
  taken_by_where p n v (Some i) c h = by_itself_where p i 0 (λ s l. resumed s (result_of l.wait) (visit_result v) l) c (λ u at. s.resumes (scene p c i u 0) (result_of u.wait) (visit_result v) (local c i u)) h

  pub visited_where : (p : Program) (n : ℕ) (v : Visitor) (o : Option ArriveFault) (c : Config) → P c → Leads P (visited p n v o c)
  visited_where p n v (Some f) c h = tt
  visited_where p n v None c h = taken_by_where p n v (waiting_in n c.tasks) (record c { bodies = c.bodies + length v.body }) (s.bodies c _ h)

-- ## Where every move is fine
-- what stays in each part of an event
pub record Stays (P : Config → Type 0) : Type 0 where
  pub tasks : (c : Config) (ts : List (ℕ × Task)) → P c → P (record c { tasks = ts })
  pub made : (c : Config) → P c → P (record c { made = suc c.made })
  pub sent : (c : Config) (n : ℕ) (q : Request) (d : ℕ) → P c → P (record c { calls = c.calls ++ Open n q d ∷ [] })
  pub closed : (c : Config) (n : ℕ) (x : Call) → request_in x ≡ None → P c → P (close n x c)
  pub endpoints : (c : Config) (es : List Endpoint) → P c → P (record c { endpoints = es })
  pub logged : (c : Config) (e : LogEntry) → P c → P (record c { log = c.log ++ e ∷ [] })
  pub bodies : (c : Config) (n : ℕ) → P c → P (record c { bodies = n })
  pub outcome : (c : Config) (o : Outcome) → P c → P (record c { outcome = o })

-- every move is fine
abbrev Any : Moved → Type 0
Any m = Unit {0}

module _ (P : Config → Type 0) (s : Stays P) where
  everywhere : StaysWhere P Any
  everywhere = record {
    tasks = s.tasks;
    made = s.made;
    closed = s.closed;
    endpoints = s.endpoints;
    logged = s.logged;
    bodies = s.bodies;
    outcome = s.outcome;
    sent = λ c n q d m fine h. s.sent c n q d h;
    behind = λ x m fine. tt;
    begins = λ ss ps. tt;
    resumes = λ z r a l. tt;
  }

  pub merged_stays : (n : ℕ) (parent : Option (ℕ × ℕ)) (m : Moved) (c : Config) → P c → Leads P (merged n parent m c)
  merged_stays n parent m c h = merged_where P Any everywhere n parent m c tt h

  pub by_itself_stays : (p : Program) (n now : ℕ) (f : Scene → Local → Moved) (c : Config) → P c → Leads P (by_itself p n now f c)
  by_itself_stays p n now f c h = by_itself_where P Any everywhere p n now f c (λ t at. tt) h

  pub begins_stays : (a : ℕ) (t : Task) (k : List Item) (c : Config) → P c → Leads P (begins_by a t k c)
  begins_stays a t k c h = begins_where P Any everywhere a t k c h

  pub timed_out_stays : (w : Wait) (c : Config) → P c → P (timed_out w c)
  timed_out_stays w c h = timed_out_where P Any everywhere w c h

  pub replied_to_stays : (p : Program) (n : ℕ) (a : Reply) (x : Call) (c : Config) → P c → Leads P (replied_to p n a x c)
  replied_to_stays p n a x c h = replied_to_where P Any everywhere p n a x c h

  pub visited_stays : (p : Program) (n : ℕ) (v : Visitor) (o : Option ArriveFault) (c : Config) → P c → Leads P (visited p n v o c)
  visited_stays p n v o c h = visited_where P Any everywhere p n v o c h
