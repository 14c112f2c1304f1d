-- The numbers of live tasks.
use Rattle.std.specs.Prelude.{◌≡◌, ℕ, zero, suc, ◌+◌, ◌<◌, ◌≤◌, length, Bool, List, [], ◌∷◌, ◌++◌, nat_lt, nat_le, Some, None, Ok, Err, Option, unwrap_or}
use Rattle.std.proofs.Common.{arith}
use mathlib.Core.Path.{refl, sym, subst}
use Rattle.wf_ast.specs.Tree.{Steps, LoopBody, ParallelBody, parallel, OfBranches, OfLoop, branch, no_branches, Program}
use Rattle.wf_model.proofs.After.{Leads, led_to}
use Rattle.wf_model.proofs.TaskLists.{higher, put_rises, drop_rises, known}
use Rattle.wf_model.proofs.Walk.{bool_case, some_case, leads_on, when_leads}
use Rattle.wf_model.specs.Config.{Left, WorkLeft, BranchesLeft, ValuesLeft, Item, Do, Wait, Calling, Task, Call, Open, Answered, TimedOut, Outcome, Active, Returned, Raised, Cancelled, Config, After, To, Wrong, NotNow, body_limit, move_limit, task, with_task, next_of}
use Rattle.wf_model.specs.Kinds.{Plainly, ByClock, ByCall}
use Rattle.wf_model.specs.Local.{Outer, Local, Scene, End, Effect, Sends, Creates, Takes, Logs, Moved, Goes, Ends, Does, Breaks, Not, goes}
use Rattle.wf_model.specs.Move.{loop_steps, move, issue, due, resumed}
use Rattle.wf_model.specs.Ready.{call, is_due, may_begin}
use Rattle.wf_model.specs.Run.{empty, initial, run_on, main_steps, main_local}
use Rattle.wf_model.specs.RunLaws.{RisesFrom, Numbered, TasksAreNumbered}
use Rattle.wf_model.specs.Step.{stopped, one_more, counted, read_at, close, replied, replied_to, timed_out, begun, new_task, fresh, starts, starts_turn, starts_work, begins_by, when, wants, for_task, bodies_left, waiting_in, result_of, taken_by, visited, by_event, step_from, next}
use Rattle.wf_model.specs.Taken.{scene, local, put_outer, put_back, layer_at, joined, put_error, without_task, finish, done, merged, by_itself}
use Rattle.wf_value.specs.Data.{Data, null, Pairs, no_pairs}
use Rattle.wf_value.specs.Decode.{json_value}
use Rattle.wf_value.specs.Errors.{error_map, Answer}
use Rattle.wf_value.specs.Events.{Visitor, Reply, Event, Start}
use Rattle.wf_value.specs.HttpText.{reply_result, visit_result, reply_length}
use Rattle.wf_value.specs.Queues.{ArriveFault, arrive_fault}

-- ## With so many tasks made, and so many moves
abbrev With : ℕ → ℕ → Config → Type 0
With m v c = (c.made ≡ m) × (c.moves ≡ v) × RisesFrom 0 m c.tasks

module _ (m v : ℕ) where
  put_with : (b : ℕ) (t : Task) (c : Config) → b < m → With m v c → With m v (with_task b t c)
  put_with b t c less h = (h.0, h.1, put_rises 0 m b t c.tasks (omega arith) less h.2)

  put_outer_with : (os : List Outer) (c : Config) → With m v c → With m v (put_outer os c)
  put_outer_with [] c h = h
  put_outer_with (o ∷ os) c h =
      some_case (With m v) (task c o.task) (put_outer os c) (λ t. put_outer os (with_task o.task (record t { layers = layer_at o.above o.layer t.layers }) c))
      (put_outer_with os c h)
      (λ t e. put_outer_with os (with_task o.task (record t { layers = layer_at o.above o.layer t.layers }) c) (put_with o.task (record t { layers = layer_at o.above o.layer t.layers }) c (known 0 m o.task c.tasks t h.2 e) h))

  put_back_with : (n : ℕ) (l : Local) (c : Config) → With m v c → With m v (put_back n l c)
  put_back_with n l c h =
      some_case (With m v) (task c n) c (λ t. put_outer l.outer (with_task n (record t { control = l.control; layers = l.layers; wait = l.wait }) c)) h
      (λ t e. put_outer_with l.outer (with_task n (record t { control = l.control; layers = l.layers; wait = l.wait }) c) (put_with n (record t { control = l.control; layers = l.layers; wait = l.wait }) c (known 0 m n c.tasks t h.2 e) h))

  without_with : (n : ℕ) (c : Config) → With m v c → With m v (without_task n c)
  without_with n c h = (h.0, h.1, drop_rises 0 m n c.tasks h.2)

  finish_with : (n : ℕ) (parent : Option (ℕ × ℕ)) (e : End) (c : Config) → With m v c → With m v (finish n parent e c)
  finish_with n None e c h = without_with n c h
  finish_with n (Some p) e c h =
      some_case (With m v) (task c p.0) (without_task n c) (λ t. with_task p.0 (record t { control = joined n p.1 e t.control }) (without_task n c))
      (without_with n c h) (λ t i. put_with p.0 (record t { control = joined n p.1 e t.control }) (without_task n c) (known 0 m p.0 c.tasks t h.2 i) (without_with n c h))

  done_with : (n : ℕ) (x : Effect) (c : Config) → With m v c → With m v (done n x c)
  done_with n (Sends q d) c h = h
  done_with n (Creates i) c h = h
  done_with n (Takes i) c h = h
  done_with n (Logs severity w) c h = h

  merged_with : (n : ℕ) (parent : Option (ℕ × ℕ)) (x : Moved) (c : Config) → With m v c → Leads (With m v) (merged n parent x c)
  merged_with n parent (Goes l) c h = put_back_with n l c h
  merged_with n parent (Ends e l) c h = finish_with n parent e (put_outer l.outer c) (put_outer_with l.outer c h)
  merged_with n parent (Does x y) c h = merged_with n parent y (done n x c) (done_with n x c h)
  merged_with n parent (Breaks k) c h = tt
  merged_with n parent Not c h = tt

  by_itself_with : (p : Program) (n now : ℕ) (f : Scene → Local → Moved) (c : Config) → With m v c → Leads (With m v) (by_itself p n now f c)
  by_itself_with p n now f c h =
      some_case (Leads (With m v)) (task c n) NotNow (λ t. merged n t.parent (f (scene p c n t now) (local c n t)) c)
      tt (λ t e. merged_with n t.parent (f (scene p c n t now) (local c n t)) c h)

  close_with : (n : ℕ) (x : Call) (c : Config) → With m v c → With m v (close n x c)
  close_with zero x c h = h
  close_with (suc n) x c h = h

  timed_out_with : (w : Wait) (c : Config) → With m v c → With m v (timed_out w c)
  timed_out_with (Calling n r) c h = close_with n TimedOut c h
  timed_out_with w c h = h

  replied_with : (p : Program) (n : ℕ) (a : Reply) (i : ℕ) (w : Wait) (c : Config) → With m v c → Leads (With m v) (replied p n a i w c)
  replied_with p n a i (Calling k r) c h =
      bool_case (Leads (With m v)) (nat_le (c.bodies + reply_length a) body_limit) (by_itself p i 0 (λ s l. resumed s r (reply_result a) l) (close n Answered (record c { bodies = c.bodies + reply_length a }))) (To (stopped c))
      (λ e. by_itself_with p i 0 (λ s l. resumed s r (reply_result a) l) (close n Answered (record c { bodies = c.bodies + reply_length a })) (close_with n Answered (record c { bodies = c.bodies + reply_length a }) h)) (λ e. h)
  replied_with p n a i w c h = tt

  replied_to_with : (p : Program) (n : ℕ) (a : Reply) (x : Call) (c : Config) → With m v c → Leads (With m v) (replied_to p n a x c)
  replied_to_with p n a (Open i q d) c h = some_case (Leads (With m v)) (task c i) NotNow (λ t. replied p n a i t.wait c) tt (λ t e. replied_with p n a i t.wait c h)
  replied_to_with p n a x c h = tt

  taken_by_with : (p : Program) (n : ℕ) (w : Visitor) (o : Option ℕ) (c : Config) → With m v c → Leads (With m v) (taken_by p n w o c)
  taken_by_with p n w None c h = h
  taken_by_with p n w (Some i) c h = by_itself_with p i 0 (λ s l. resumed s (result_of l.wait) (visit_result w) l) c h

  visited_with : (p : Program) (n : ℕ) (w : Visitor) (o : Option ArriveFault) (c : Config) → With m v c → Leads (With m v) (visited p n w o c)
  visited_with p n w (Some f) c h = tt
  visited_with p n w None c h = taken_by_with p n w (waiting_in n c.tasks) (record c { bodies = c.bodies + length w.body }) h

-- ## One more task
module _ (m v a : ℕ) (less : a < m) where
  begun_with : (t : Task) (body : ParallelBody) (left : WorkLeft) (n : ℕ) (running : List ℕ) (es : List (ℕ × Data)) (k : List Item) (c : Config) → With m v c → With (suc m) v (begun a t body left n running es k c)
  begun_with t body left n running es k c h =
      put_with (suc m) v a _ (record c { made = suc c.made }) (omega (arith, less)) (rw h.0 refl, h.1, higher 0 m (suc m) c.tasks (omega arith) h.2)

  starts_with : (t : Task) (body : ParallelBody) (left : WorkLeft) (n : ℕ) (running : List ℕ) (es : List (ℕ × Data)) (k : List Item) (ss : Steps) (ps : Answer Pairs) (c : Config) → With m v c → Leads (With (suc m) v) (starts a t body left n running es k ss ps c)
  starts_with t body left n running es k ss (Ok ps) c h =
      merged_with (suc m) v c.made (Some (a, n)) (goes (Do ss ss ∷ []) (fresh ps)) (with_task c.made (new_task a n) (begun a t body left n (running ++ c.made ∷ []) es k c))
      (put_with (suc m) v c.made (new_task a n) (begun a t body left n (running ++ c.made ∷ []) es k c) (omega (arith, h.0)) (begun_with t body left n (running ++ c.made ∷ []) es k c h))
  starts_with t body left n running es k ss (Err e) c h = begun_with t body left n running (put_error n (error_map e) es) k c h

  starts_turn_with : (t : Task) (body : ParallelBody) (l : LoopBody) (w : Option (Data × Left)) (n : ℕ) (running : List ℕ) (es : List (ℕ × Data)) (k : List Item) (c : Config) → With m v c → Leads (With (suc m) v) (starts_turn a t body l w n running es k c)
  starts_turn_with t body l None n running es k c h = tt
  starts_turn_with t body l (Some w) n running es k c h = starts_with t body (ValuesLeft w.1) n running es k (loop_steps l) _ c h

  starts_work_with : (t : Task) (body : ParallelBody) (left : WorkLeft) (n : ℕ) (running : List ℕ) (es : List (ℕ × Data)) (k : List Item) (c : Config) → With m v c → Leads (With (suc m) v) (starts_work a t body left n running es k c)
  starts_work_with t body (BranchesLeft (branch x ss bs)) n running es k c h = starts_with t body (BranchesLeft bs) n running es k ss (Ok no_pairs) c h
  starts_work_with t body (BranchesLeft no_branches) n running es k c h = tt
  starts_work_with t (parallel names limit (OfLoop l)) (ValuesLeft left) n running es k c h = starts_turn_with t (parallel names limit (OfLoop l)) l (next_of left) n running es k c h
  starts_work_with t (parallel names limit (OfBranches bs)) (ValuesLeft left) n running es k c h = tt

  begins_with : (t : Task) (k : List Item) (c : Config) → With m v c → Leads (With (suc m) v) (begins_by a t k c)
  begins_with t (Item.Join body left n running es ∷ k) c h = starts_work_with t body left n running es k c h
  begins_with t k c h = tt

-- ## Events
with_numbered : (m v : ℕ) → m ≤ suc v → (c : Config) → With m v c → Numbered c
with_numbered m v le c h = record { made = omega (arith, le, h.0, h.1); rises = subst (λ n. RisesFrom 0 n c.tasks) (sym h.0) h.2 }

module _ (b : Config) (h : Numbered b) where
  -- an event that isn't counted
  stays_numbered : (a : After) → Leads (With b.made b.moves) a → Leads Numbered a
  stays_numbered a k = leads_on (With b.made b.moves) Numbered a (with_numbered b.made b.moves h.made) k

  -- one that is counted, and makes a task or not
  counted_numbered : (r m : ℕ) → m ≤ suc (suc b.moves) → (f : Config → After) → Leads (With m (suc b.moves)) (f (one_more (read_at r b))) → Leads Numbered (counted (read_at r b) f)
  counted_numbered r m le f k =
      bool_case (Leads Numbered) (nat_lt (suc b.moves) move_limit) (f (one_more (read_at r b))) (To (stopped (one_more (read_at r b))))
      (λ e. leads_on (With m (suc b.moves)) Numbered (f (one_more (read_at r b))) (with_numbered m (suc b.moves) le) k)
      (λ e. record { made = omega (arith, h.made); rises = h.rises })

  moves_numbered : (r : ℕ) (f : Config → After) → ((c : Config) → With b.made (suc b.moves) c → Leads (With b.made (suc b.moves)) (f c)) → Leads Numbered (counted (read_at r b) f)
  moves_numbered r f k = counted_numbered r b.made (omega (arith, h.made)) f (k (one_more (read_at r b)) (refl, refl, h.rises))

  task_numbered : (n : ℕ) (test : Task → Bool) (f : Task → After) → ((t : Task) → n < b.made → Leads Numbered (f t)) → Leads Numbered (for_task b n test f)
  task_numbered n test f k = some_case (Leads Numbered) (task b n) NotNow (λ t. when (test t) (f t)) tt (λ t e. when_leads Numbered (test t) (f t) (λ i. k t (known 0 b.made n b.tasks t h.rises e)))

  at_rest : (r : ℕ) → With b.made b.moves (read_at r b)
  at_rest r = (refl, refl, h.rises)

  by_event_numbered : (p : Program) (e : Event) → Leads Numbered (by_event p b e)
  by_event_numbered p (Event.Move n) = task_numbered n (wants p Plainly) _ (λ t i. moves_numbered b.last (by_itself p n 0 move) (by_itself_with b.made (suc b.moves) p n 0 move))
  by_event_numbered p (Event.MoveAt n r) =
      when_leads Numbered (nat_le b.last r) _ (λ e. task_numbered n (wants p ByClock) _ (λ t i. moves_numbered r (by_itself p n r move) (by_itself_with b.made (suc b.moves) p n r move)))
  by_event_numbered p (Event.Begin n) =
      task_numbered n may_begin _ (λ t i. counted_numbered b.last (suc b.made) (omega (arith, h.made)) (begins_by n t t.control)
      (begins_with b.made (suc b.moves) n i t t.control (one_more b) (refl, refl, h.rises)))
  by_event_numbered p (Event.Issue n r) =
      when_leads Numbered (nat_le b.last r) _ (λ e. task_numbered n (wants p ByCall) _ (λ t i. moves_numbered r (by_itself p n r issue) (by_itself_with b.made (suc b.moves) p n r issue)))
  by_event_numbered p (Event.Answer n r a) =
      when_leads Numbered (nat_le b.last r) _ (λ e. stays_numbered _ (replied_to_with b.made b.moves p n a (call b n) (read_at r b) (at_rest r)))
  by_event_numbered p (Event.Due n r) =
      when_leads Numbered (nat_le b.last r) _ (λ e. task_numbered n (λ t. is_due b r t.wait) _ (λ t i. stays_numbered _
      (by_itself_with b.made b.moves p n r due (timed_out t.wait (read_at r b)) (timed_out_with b.made b.moves t.wait (read_at r b) (at_rest r)))))
  by_event_numbered p (Event.Arrive n r w) =
      when_leads Numbered (nat_le b.last r) _ (λ e. stays_numbered _ (visited_with b.made b.moves p n w (arrive_fault b.endpoints n w (bodies_left b)) (read_at r b) (at_rest r)))
  by_event_numbered p (Event.Cancel r) = when_leads Numbered (nat_le b.last r) _ (λ e. record { made = h.made; rises = h.rises })

  step_from_numbered : (o : Outcome) (p : Program) (e : Event) → Leads Numbered (step_from o p b e)
  step_from_numbered Active p e = by_event_numbered p e
  step_from_numbered (Returned v) p e = tt
  step_from_numbered (Raised v) p e = tt
  step_from_numbered Cancelled p e = tt

-- ## Runs
run_numbered : (p : Program) (a : After) (es : List Event) → Leads Numbered a → Leads Numbered (run_on p a es)
run_numbered p a [] h = h
run_numbered p (To c) (e ∷ es) h = run_numbered p (next p c e) es (step_from_numbered c h c.outcome p e)
run_numbered p (Wrong k) (e ∷ es) h = tt
run_numbered p NotNow (e ∷ es) h = tt

pub initial_numbered : (p : Program) (s : Start) → Leads Numbered (initial p s)
initial_numbered p s =
    leads_on (With 1 0) Numbered (initial p s) (with_numbered 1 0 (omega arith))
    (merged_with 1 0 0 None (goes (Do (main_steps p.flows) (main_steps p.flows) ∷ []) (main_local p (unwrap_or (json_value s.argument) null))) (empty s) (refl, refl, (omega arith, omega arith, tt)))

pub tasks_are_numbered : TasksAreNumbered
tasks_are_numbered p s es c h = led_to Numbered _ c (run_numbered p (initial p s) es (initial_numbered p s)) h
