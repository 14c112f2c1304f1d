-- A call that is closed stays as it is, whatever comes.
use Rattle.std.specs.Prelude.{◌≡◌, ℕ, zero, suc, ◌+◌, ◌≤◌, Bool, true, false, List, [], ◌∷◌, ◌++◌, length, nat_le, slice_get, slice_set, Option, Some, None, Ok, Err}
use Rattle.std.proofs.Common.{refl, sym, ◌∙◌, ap, subst, arith}
use Rattle.std.proofs.lemmas.List.{append-nil, append_assoc, length-set}
use Rattle.wf_ast.specs.Tree.{Steps, LoopBody, ParallelBody, parallel, OfBranches, OfLoop, branch, no_branches, Program}
use Rattle.wf_model.proofs.After.{Leads, led_to}
use Rattle.wf_model.proofs.Walk.{bool_case, option_case, leads_on, when_leads, for_task_leads}
use Rattle.wf_model.specs.CallLaws.{CallsGoOn}
use Rattle.wf_model.specs.Config.{Left, WorkLeft, BranchesLeft, ValuesLeft, Item, Do, Wait, Awake, Sleep, Delay, Calling, Await, Task, Call, Open, Answered, TimedOut, Outcome, Active, Returned, Raised, Cancelled, Config, After, To, Wrong, NotNow, body_limit, task, with_task, put_in, drop_in, next_of}
use Rattle.wf_model.specs.Kinds.{Plainly, ByClock, ByCall}
use Rattle.wf_model.specs.Local.{Outer, Local, Scene, End, Effect, Sends, Creates, Takes, Logs, Moved, Goes, Ends, Does, Breaks, Not, goes}
use Rattle.wf_model.specs.Move.{loop_steps, move, issue, due, resumed}
use Rattle.wf_model.specs.Ready.{call, call_due, due_of, is_by, is_due, may_begin, request_in, request_of}
use Rattle.wf_model.specs.Run.{run_on}
use Rattle.wf_model.specs.Step.{stopped, one_more, counted, read_at, close, timed_out, replied, replied_to, begun, new_task, fresh, starts, starts_turn, starts_work, begins_by, wants, when, for_task, waiting_in, result_of, bodies_left, taken_by, visited, by_event, step_from, next}
use Rattle.wf_model.specs.Taken.{scene, local, put_outer, put_back, layer_at, joined, put_error, without_task, finish, outcome_of, done, merged, by_itself}
use Rattle.wf_value.specs.Data.{Data, Pairs, no_pairs}
use Rattle.wf_value.specs.Errors.{error_map, Answer}
use Rattle.wf_value.specs.Events.{Event, Visitor, Reply}
use Rattle.wf_value.specs.HttpRequest.{Request}
use Rattle.wf_value.specs.HttpText.{reply_result, visit_result, reply_length}
use Rattle.wf_value.specs.Queues.{ArriveFault, arrive_fault}
use Rattle.wf_value.specs.declared.Tag.TheVariants.{ResourceLimitError}

-- ## What a task does by itself only adds calls
module _ (xs : List Call) where
  -- the calls begin with these
  abbrev Begins : Config → Type 0
  Begins c = (zs : List Call) × (c.calls ≡ xs ++ zs)

  put_outer_adds : (os : List Outer) (c : Config) → Begins c → Begins (put_outer os c)
  put_outer_adds [] c h = h
  put_outer_adds (o ∷ os) c h =
      option_case Begins (task c o.task) (put_outer os c) (λ t. put_outer os (with_task o.task (record t { layers = layer_at o.above o.layer t.layers }) c))
      (put_outer_adds os c h) (λ t. put_outer_adds os (with_task o.task (record t { layers = layer_at o.above o.layer t.layers }) c) h)

  put_back_adds : (n : ℕ) (l : Local) (c : Config) → Begins c → Begins (put_back n l c)
  put_back_adds n l c h =
      option_case Begins (task c n) c (λ t. put_outer l.outer (with_task n (record t { control = l.control; layers = l.layers; wait = l.wait }) c))
      h (λ t. put_outer_adds l.outer (with_task n (record t { control = l.control; layers = l.layers; wait = l.wait }) c) h)

  finish_adds : (n : ℕ) (parent : Option (ℕ × ℕ)) (e : End) (c : Config) → Begins c → Begins (finish n parent e c)
  finish_adds n None e c h = h
  finish_adds n (Some p) e c h =
      option_case Begins (task c p.0) (without_task n c) (λ t. with_task p.0 (record t { control = joined n p.1 e t.control }) (without_task n c)) h (λ t. h)

  done_adds : (n : ℕ) (x : Effect) (c : Config) → Begins c → Begins (done n x c)
  done_adds n (Sends q d) c (zs, is) = (zs ++ Open n q d ∷ [], ap (λ l. l ++ Open n q d ∷ []) is ∙ append_assoc xs zs (Open n q d ∷ []))
  done_adds n (Creates m) c h = h
  done_adds n (Takes i) c h = h
  done_adds n (Logs severity v) c h = h

  merged_adds : (n : ℕ) (parent : Option (ℕ × ℕ)) (m : Moved) (c : Config) → Begins c → Leads Begins (merged n parent m c)
  merged_adds n parent (Goes l) c h = put_back_adds n l c h
  merged_adds n parent (Ends e l) c h = finish_adds n parent e (put_outer l.outer c) (put_outer_adds l.outer c h)
  merged_adds n parent (Does x m) c h = merged_adds n parent m (done n x c) (done_adds n x c h)
  merged_adds n parent (Breaks k) c h = tt
  merged_adds n parent Not c h = tt

  by_itself_adds : (p : Program) (n now : ℕ) (f : Scene → Local → Moved) (c : Config) → Begins c → Leads Begins (by_itself p n now f c)
  by_itself_adds p n now f c h =
      option_case (Leads Begins) (task c n) NotNow (λ t. merged n t.parent (f (scene p c n t now) (local c n t)) c)
      tt (λ t. merged_adds n t.parent (f (scene p c n t now) (local c n t)) c h)

  starts_adds : (a : ℕ) (t : Task) (body : ParallelBody) (left : WorkLeft) (n : ℕ) (running : List ℕ) (es : List (ℕ × Data)) (k : List Item) (ss : Steps) (ps : Answer Pairs) (c : Config) → Begins c → Leads Begins (starts a t body left n running es k ss ps c)
  starts_adds a t body left n running es k ss (Ok ps) c h =
      merged_adds c.made (Some (a, n)) (goes (Do ss ss ∷ []) (fresh ps)) (with_task c.made (new_task a n) (begun a t body left n (running ++ c.made ∷ []) es k c)) h
  starts_adds a t body left n running es k ss (Err e) c h = h

  starts_turn_adds : (a : ℕ) (t : Task) (body : ParallelBody) (l : LoopBody) (v : Option (Data × Left)) (n : ℕ) (running : List ℕ) (es : List (ℕ × Data)) (k : List Item) (c : Config) → Begins c → Leads Begins (starts_turn a t body l v n running es k c)
  starts_turn_adds a t body l None n running es k c h = tt
  starts_turn_adds a t body l (Some v) n running es k c h = starts_adds a t body (ValuesLeft v.1) n running es k (loop_steps l) _ c h

  starts_work_adds : (a : ℕ) (t : Task) (body : ParallelBody) (left : WorkLeft) (n : ℕ) (running : List ℕ) (es : List (ℕ × Data)) (k : List Item) (c : Config) → Begins c → Leads Begins (starts_work a t body left n running es k c)
  starts_work_adds a t body (BranchesLeft (branch x ss bs)) n running es k c h = starts_adds a t body (BranchesLeft bs) n running es k ss (Ok no_pairs) c h
  starts_work_adds a t body (BranchesLeft no_branches) n running es k c h = tt
  starts_work_adds a t (parallel names limit (OfLoop l)) (ValuesLeft left) n running es k c h = starts_turn_adds a t (parallel names limit (OfLoop l)) l (next_of left) n running es k c h
  starts_work_adds a t (parallel names limit (OfBranches bs)) (ValuesLeft left) n running es k c h = tt

  begins_adds : (a : ℕ) (t : Task) (k : List Item) (c : Config) → Begins c → Leads Begins (begins_by a t k c)
  begins_adds a t (Item.Join body left n running es ∷ k) c h = starts_work_adds a t body left n running es k c h
  begins_adds a t k c h = tt

  counted_adds : (c : Config) (f : Config → After) → Begins c → Leads Begins (f (one_more c)) → Leads Begins (counted c f)
  counted_adds c f h k = bool_case (Leads Begins) _ (f (one_more c)) (To (stopped (one_more c))) (λ e. k) (λ e. h)

  taken_by_adds : (p : Program) (n : ℕ) (v : Visitor) (o : Option ℕ) (c : Config) → Begins c → Leads Begins (taken_by p n v o c)
  taken_by_adds p n v None c h = h
  taken_by_adds p n v (Some i) c h = by_itself_adds p i 0 (λ s l. resumed s (result_of l.wait) (visit_result v) l) c h

  visited_adds : (p : Program) (n : ℕ) (v : Visitor) (o : Option ArriveFault) (c : Config) → Begins c → Leads Begins (visited p n v o c)
  visited_adds p n v (Some f) c h = tt
  visited_adds p n v None c h = taken_by_adds p n v (waiting_in n c.tasks) (record c { bodies = c.bodies + length v.body }) h

-- ## Calls by their numbers
abbrev nth : List Call → ℕ → Call
nth xs n = elim (slice_get xs n) [ None ↦ Answered | Some x ↦ x ]

nth_more : (xs zs : List Call) (n : ℕ) → suc n ≤ length xs → nth (xs ++ zs) n ≡ nth xs n
nth_more [] zs n le = absurd (omega (arith, le))
nth_more (x ∷ xs) zs zero le = refl
nth_more (x ∷ xs) zs (suc n) le = nth_more xs zs n (omega (arith, le))

length_more : (xs zs : List Call) → length xs ≤ length (xs ++ zs)
length_more [] zs = omega arith
length_more (x ∷ xs) zs = let le = length_more xs zs in omega (arith, le)

-- where an open call is put, the closed ones stay
nth_put : (xs : List Call) (n k : ℕ) (y : Call) (q : Request) → request_in (nth xs n) ≡ Some q → request_in (nth xs k) ≡ None → nth (slice_set xs n y) k ≡ nth xs k
nth_put [] n k y q opened shut = refl
nth_put (x ∷ xs) zero zero y q opened shut = absurd (let no : None ≡ Some q = sym shut ∙ opened in cc no)
nth_put (x ∷ xs) zero (suc k) y q opened shut = refl
nth_put (x ∷ xs) (suc n) zero y q opened shut = refl
nth_put (x ∷ xs) (suc n) (suc k) y q opened shut = nth_put xs n k y q opened shut

-- no call is gone, and the closed ones are as they were
pub record KeepsClosed (b c : Config) : Type 0 where
  pub longer : length b.calls ≤ length c.calls
  pub same : (k : ℕ) → k ≤ length b.calls → request_of b k ≡ None → call c k ≡ call b k

keeps_then : (b c d : Config) → KeepsClosed b c → KeepsClosed c d → KeepsClosed b d
keeps_then b c d h k = record {
  longer = omega (arith, h.longer, k.longer);
  same = λ n le shut. k.same n (omega (arith, le, h.longer)) (ap request_in (h.same n le shut) ∙ shut) ∙ h.same n le shut;
}

added_keeps : (b c : Config) → Begins b.calls c → KeepsClosed b c
added_keeps b c (zs, is) = record {
  longer = subst (λ l. length b.calls ≤ length l) (sym is) (length_more b.calls zs);
  same = by;
}
  where
    by : (k : ℕ) → k ≤ length b.calls → request_of b k ≡ None → call c k ≡ call b k
    by zero le shut = refl
    by (suc n) le shut = ap (λ l. nth l n) is ∙ nth_more b.calls zs n le

closed_keeps : (b : Config) (n : ℕ) (y : Call) (q : Request) → request_of b n ≡ Some q → KeepsClosed b (close n y b)
closed_keeps b zero y q opened = absurd (cc opened)
closed_keeps b (suc n) y q opened = record {
  longer = let same : length (slice_set b.calls n y) ≡ length b.calls = length-set b.calls n y in omega (arith, same);
  same = by;
}
  where
    by : (k : ℕ) → k ≤ length b.calls → request_of b k ≡ None → call (close (suc n) y b) k ≡ call b k
    by zero le shut = refl
    by (suc k) le shut = nth_put b.calls n k y q opened shut

-- ## Events
adds_keeps : (b c : Config) (a : After) → KeepsClosed b c → Leads (Begins c.calls) a → Leads (KeepsClosed b) a
adds_keeps b c a first h = leads_on (Begins c.calls) (KeepsClosed b) a (λ d more. keeps_then b c d first (added_keeps c d more)) h

same_calls : (c : Config) → Begins c.calls c
same_calls c = ([], sym (append-nil c.calls))

-- all calls are as they were
same_keeps : (b c : Config) → c.calls ≡ b.calls → KeepsClosed b c
same_keeps b c is = added_keeps b c ([], is ∙ sym (append-nil b.calls))

stays : (b : Config) → KeepsClosed b b
stays b = same_keeps b b refl

call_same : (b c : Config) → c.calls ≡ b.calls → (n : ℕ) → call c n ≡ call b n
call_same b c is zero = refl
call_same b c is (suc n) = ap (λ l. nth l n) is

-- but for an open one
put_keeps : (b c : Config) (n : ℕ) (y : Call) (q : Request) → c.calls ≡ b.calls → request_of b n ≡ Some q → KeepsClosed b (close n y c)
put_keeps b c n y q is asks = keeps_then b c (close n y c) (same_keeps b c is) (closed_keeps c n y q (ap request_in (call_same b c is n) ∙ asks))

-- only an open call comes due
asked_by : (x : Call) (r : ℕ) → is_by r (call_due x) ≡ true → (q : Request) × (request_in x ≡ Some q)
asked_by (Open i q d) r is = (q, refl)
asked_by Answered r is = absurd (cc is)
asked_by TimedOut r is = absurd (cc is)

timed_out_keeps : (b : Config) (r : ℕ) (w : Wait) → is_due b r w ≡ true → KeepsClosed b (timed_out w (read_at r b))
timed_out_keeps b r (Calling n x) is = let (q, asks) = asked_by (call b n) r is in put_keeps b (read_at r b) n TimedOut q refl asks
timed_out_keeps b r Awake is = same_keeps b (read_at r b) refl
timed_out_keeps b r (Sleep d x) is = same_keeps b (read_at r b) refl
timed_out_keeps b r (Delay d) is = same_keeps b (read_at r b) refl
timed_out_keeps b r (Await n d x) is = same_keeps b (read_at r b) refl

replied_keeps : (p : Program) (b : Config) (n r : ℕ) (a : Reply) (i : ℕ) (w : Wait) (q : Request) → request_of b n ≡ Some q → Leads (KeepsClosed b) (replied p n a i w (read_at r b))
replied_keeps p b n r a i (Calling m x) q asks =
    let more : Config = record (read_at r b) { bodies = b.bodies + reply_length a } in
    bool_case (Leads (KeepsClosed b)) (nat_le (b.bodies + reply_length a) body_limit) (by_itself p i 0 (λ s l. resumed s x (reply_result a) l) (close n Answered more)) (To (stopped (read_at r b)))
    (λ e. adds_keeps b (close n Answered more) (by_itself p i 0 (λ s l. resumed s x (reply_result a) l) (close n Answered more)) (put_keeps b more n Answered q refl asks)
    (by_itself_adds (close n Answered more).calls p i 0 (λ s l. resumed s x (reply_result a) l) (close n Answered more) (same_calls (close n Answered more))))
    (λ e. same_keeps b (stopped (read_at r b)) refl)
replied_keeps p b n r a i Awake q asks = tt
replied_keeps p b n r a i (Sleep d x) q asks = tt
replied_keeps p b n r a i (Delay d) q asks = tt
replied_keeps p b n r a i (Await m d x) q asks = tt

replied_to_keeps : (p : Program) (b : Config) (n r : ℕ) (a : Reply) (x : Call) → call b n ≡ x → Leads (KeepsClosed b) (replied_to p n a x (read_at r b))
replied_to_keeps p b n r a (Open i q d) is =
    option_case (Leads (KeepsClosed b)) (task (read_at r b) i) NotNow (λ t. replied p n a i t.wait (read_at r b)) tt (λ t. replied_keeps p b n r a i t.wait q (ap request_in is))
replied_to_keeps p b n r a Answered is = tt
replied_to_keeps p b n r a TimedOut is = tt

adds : (b : Config) (a : After) → Leads (Begins b.calls) a → Leads (KeepsClosed b) a
adds b a h = adds_keeps b b a (stays b) h

by_event_keeps : (p : Program) (b : Config) (e : Event) → Leads (KeepsClosed b) (by_event p b e)
by_event_keeps p b (Event.Move n) =
    adds b (by_event p b (Event.Move n))
    (for_task_leads (Begins b.calls) b n (wants p Plainly) _ (λ t. counted_adds b.calls b (by_itself p n 0 move) (same_calls b) (by_itself_adds b.calls p n 0 move (one_more b) (same_calls b))))
by_event_keeps p b (Event.MoveAt n r) =
    adds b (by_event p b (Event.MoveAt n r))
    (when_leads (Begins b.calls) (nat_le b.last r) _ (λ e. for_task_leads (Begins b.calls) b n (wants p ByClock) _ (λ t.
    counted_adds b.calls (read_at r b) (by_itself p n r move) (same_calls b) (by_itself_adds b.calls p n r move (one_more (read_at r b)) (same_calls b)))))
by_event_keeps p b (Event.Begin n) =
    adds b (by_event p b (Event.Begin n))
    (for_task_leads (Begins b.calls) b n may_begin _ (λ t. counted_adds b.calls b (begins_by n t t.control) (same_calls b) (begins_adds b.calls n t t.control (one_more b) (same_calls b))))
by_event_keeps p b (Event.Issue n r) =
    adds b (by_event p b (Event.Issue n r))
    (when_leads (Begins b.calls) (nat_le b.last r) _ (λ e. for_task_leads (Begins b.calls) b n (wants p ByCall) _ (λ t.
    counted_adds b.calls (read_at r b) (by_itself p n r issue) (same_calls b) (by_itself_adds b.calls p n r issue (one_more (read_at r b)) (same_calls b)))))
by_event_keeps p b (Event.Answer n r a) = when_leads (KeepsClosed b) (nat_le b.last r) _ (λ e. replied_to_keeps p b n r a (call b n) refl)
by_event_keeps p b (Event.Due n r) =
    when_leads (KeepsClosed b) (nat_le b.last r) _ (λ e. option_case (Leads (KeepsClosed b)) (task b n) NotNow (λ t. when (is_due b r t.wait) (by_itself p n r due (timed_out t.wait (read_at r b)))) tt
    (λ t. when_leads (KeepsClosed b) (is_due b r t.wait) (by_itself p n r due (timed_out t.wait (read_at r b)))
    (λ is. let mid : Config = timed_out t.wait (read_at r b) in adds_keeps b mid (by_itself p n r due mid) (timed_out_keeps b r t.wait is) (by_itself_adds mid.calls p n r due mid (same_calls mid)))))
by_event_keeps p b (Event.Arrive n r v) =
    adds b (by_event p b (Event.Arrive n r v))
    (when_leads (Begins b.calls) (nat_le b.last r) _ (λ e. visited_adds b.calls p n v (arrive_fault b.endpoints n v (bodies_left b)) (read_at r b) (same_calls b)))
by_event_keeps p b (Event.Cancel r) = when_leads (KeepsClosed b) (nat_le b.last r) _ (λ e. same_keeps b (record (read_at r b) { outcome = Cancelled }) refl)

step_from_keeps : (o : Outcome) (p : Program) (b : Config) (e : Event) → Leads (KeepsClosed b) (step_from o p b e)
step_from_keeps Active p b e = by_event_keeps p b e
step_from_keeps (Returned v) p b e = tt
step_from_keeps (Raised v) p b e = tt
step_from_keeps Cancelled p b e = tt

-- ## Runs
run_keeps : (p : Program) (b : Config) (a : After) (es : List Event) → Leads (KeepsClosed b) a → Leads (KeepsClosed b) (run_on p a es)
run_keeps p b a [] h = h
run_keeps p b (To c) (e ∷ es) h =
    run_keeps p b (next p c e) es (leads_on (KeepsClosed c) (KeepsClosed b) (next p c e) (λ d k. keeps_then b c d h k) (step_from_keeps c.outcome p c e))
run_keeps p b (Wrong k) (e ∷ es) h = tt
run_keeps p b NotNow (e ∷ es) h = tt

pub closed_stay : (p : Program) (b c : Config) (es : List Event) → run_on p (To b) es ≡ To c → KeepsClosed b c
closed_stay p b c es is = led_to (KeepsClosed b) (run_on p (To b) es) c (run_keeps p b (To b) es (stays b)) is
