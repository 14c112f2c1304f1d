-- The steps of an execution: for a program, a configuration and an event at most one configuration comes next.
--     next, Step      where an event leads
--     by_event        the same where there is no outcome yet
--     counted         the limit on counted events
use Rattle.std.specs.Prelude.{◌≡◌, ℕ, zero, suc, ◌+◌, ◌-◌, Bool, true, false, ◌&&◌, List, [], ◌∷◌, ◌++◌, length, if◌then◌else◌, nat_eq, nat_lt, nat_le, slice_set, Some, None, Ok, Err, Option}
use Rattle.wf_ast.specs.Tree.{Steps, LoopBody, ParallelBody, parallel, OfLoop, branch, Program}
use Rattle.wf_model.specs.Config.{Left, WorkLeft, BranchesLeft, ValuesLeft, Item, Do, Wait, Awake, Calling, Await, Task, Call, Open, Answered, TimedOut, Outcome, Active, Returned, Raised, Cancelled, Config, After, To, NotNow, limits, move_limit, body_limit, task, with_task, next_of}
use Rattle.wf_model.specs.Kinds.{NextKind, Plainly, ByClock, ByCall, next_kind}
use Rattle.wf_model.specs.Layers.{bound}
use Rattle.wf_model.specs.Local.{Local, goes}
use Rattle.wf_model.specs.Move.{loop_names, loop_steps, move, issue, resumed, due}
use Rattle.wf_model.specs.Ready.{is_ready, may_begin, call, is_due}
use Rattle.wf_model.specs.Taken.{tasks_total, put_error, merged, by_itself}
use Rattle.wf_value.specs.Data.{Data, Pairs, no_pairs}
use Rattle.wf_value.specs.Errors.{error_map, Answer}
use Rattle.wf_value.specs.declared.Tag.TheVariants.{ResourceLimitError}
use Rattle.wf_value.specs.Events.{Visitor, Reply, Event}
use Rattle.wf_value.specs.HttpText.{reply_result, visit_result, reply_length}
use Rattle.wf_value.specs.Pairs.{Text}
use Rattle.wf_value.specs.Queues.{ArriveFault, arrive_fault, arrived}

-- ## What counts
-- the outcome that ends an execution at a limit; all else stays as it is
abbrev pub stopped : Config → Config
stopped c = record c { outcome = Raised (error_map ResourceLimitError) }

-- one more counted event
abbrev pub one_more : Config → Config
one_more c = record c { moves = suc c.moves }

-- an event that is counted: the one at the limit isn't carried out, and ends the execution
abbrev pub counted : Config → (Config → After) → After
counted c f = if nat_lt (suc c.moves) move_limit then f (one_more c) else To (stopped (one_more c))

-- the event's reading becomes the last one
abbrev pub read_at : ℕ → Config → Config
read_at t c = record c { last = t }

-- ## Answers
-- call n is closed so
abbrev pub close : ℕ → Call → Config → Config
close zero x c = c
close (suc n) x c = record c { calls = slice_set c.calls n x }

-- the answer is kept, and the task goes on, unless the sum of bodies would pass its limit
abbrev pub replied : Program → ℕ → Reply → ℕ → Wait → Config → After
replied p n a b (Calling m r) c =
    if nat_le (c.bodies + reply_length a) body_limit
    then by_itself p b 0 (λ s l. resumed s r (reply_result a) l) (close n Answered (record c { bodies = c.bodies + reply_length a }))
    else To (stopped c)
replied p n a b w c = NotNow

-- an open call is answered
abbrev pub replied_to : Program → ℕ → Reply → Call → Config → After
replied_to p n a (Open b x d) c = elim (task c b) [ None ↦ NotNow | Some t ↦ replied p n a b t.wait c ]
replied_to p n a x c = NotNow

-- a call whose due moment has come is closed
abbrev pub timed_out : Wait → Config → Config
timed_out (Calling n r) c = close n TimedOut c
timed_out w c = c

-- ## Branches
-- the parallel step of task a with one more branch begun
abbrev pub begun : ℕ → Task → ParallelBody → WorkLeft → ℕ → List ℕ → List (ℕ × Data) → List Item → Config → Config
begun a t body left n running es k c =
    with_task a (record t { control = Item.Join body left (suc n) running es ∷ k }) (record c { made = suc c.made })

-- the task of branch n, before it stands anywhere
abbrev pub new_task : ℕ → ℕ → Task
new_task a n = record { parent = Some (a, n); control = []; layers = []; wait = Awake }

-- a new task with its one layer
abbrev pub fresh : Pairs → Local
fresh ps = record { control = []; layers = record { vars = ps; by_call = false } ∷ []; outer = []; wait = Awake }

-- the new task runs, or the error of its names is kept
abbrev pub starts : ℕ → Task → ParallelBody → WorkLeft → ℕ → List ℕ → List (ℕ × Data) → List Item → Steps → Answer Pairs → Config → After
starts a t body left n running es k ss (Ok ps) c =
    merged c.made (Some (a, n)) (goes (Do ss ss ∷ []) (fresh ps)) (with_task c.made (new_task a n) (begun a t body left n (running ++ c.made ∷ []) es k c))
starts a t body left n running es k ss (Err tag) c = To (begun a t body left n running (put_error n (error_map tag) es) k c)

-- the next iteration, with a layer of its loop's names
abbrev pub starts_turn : ℕ → Task → ParallelBody → LoopBody → Option (Data × Left) → ℕ → List ℕ → List (ℕ × Data) → List Item → Config → After
starts_turn a t body l None n running es k c = NotNow
starts_turn a t body l (Some v) n running es k c =
    starts a t body (ValuesLeft v.1) n running es k (loop_steps l) (bound (limits c.facts.rules).variables (tasks_total c.tasks) (loop_names l v.0 n) no_pairs) c

-- the next branch or iteration
abbrev pub starts_work : ℕ → Task → ParallelBody → WorkLeft → ℕ → List ℕ → List (ℕ × Data) → List Item → Config → After
starts_work a t body (BranchesLeft (branch x ss bs)) n running es k c = starts a t body (BranchesLeft bs) n running es k ss (Ok no_pairs) c
starts_work a t (parallel names limit (OfLoop l)) (ValuesLeft left) n running es k c = starts_turn a t (parallel names limit (OfLoop l)) l (next_of left) n running es k c
starts_work a t body left n running es k c = NotNow

-- by the parallel step in which task a stands
abbrev pub begins_by : ℕ → Task → List Item → Config → After
begins_by a t (Item.Join body left n running es ∷ k) c = starts_work a t body left n running es k c
begins_by a t k c = NotNow

-- ## Events
-- only where this holds
abbrev pub when : Bool → After → After
when true a = a
when false a = NotNow

abbrev pub same_kind : NextKind → NextKind → Bool
same_kind Plainly Plainly = true
same_kind ByClock ByClock = true
same_kind ByCall ByCall = true
same_kind j k = false

-- the task is ready, and its next step is of this kind
abbrev pub wants : Program → NextKind → Task → Bool
wants p kind t = is_ready t && same_kind kind (next_kind p t.control)

-- a live task of which this holds
abbrev pub for_task : Config → ℕ → (Task → Bool) → (Task → After) → After
for_task c b test f = elim (task c b) [ None ↦ NotNow | Some t ↦ when (test t) (f t) ]

-- ## Requests that come
-- how many bytes of bodies may still come
abbrev pub bodies_left : Config → ℕ
bodies_left c = body_limit - c.bodies

abbrev pub waits_for : ℕ → Wait → Bool
waits_for n (Await m due r) = nat_eq n m
waits_for n w = false

-- the least task that waits for the endpoint
abbrev pub waiting_in : ℕ → List (ℕ × Task) → Option ℕ
waiting_in n [] = None
waiting_in n (t ∷ ts) = if waits_for n t.1.wait then Some t.0 else waiting_in n ts

abbrev pub result_of : Wait → Option Text
result_of (Await n due r) = r
result_of w = None

-- the task takes the request at once, and else it joins the queue
abbrev pub taken_by : Program → ℕ → Visitor → Option ℕ → Config → After
taken_by p n v None c = To (record c { endpoints = arrived c.endpoints n v })
taken_by p n v (Some b) c = by_itself p b 0 (λ s l. resumed s (result_of l.wait) (visit_result v) l) c

-- a request that may arrive, whose body counts
abbrev pub visited : Program → ℕ → Visitor → Option ArriveFault → Config → After
visited p n v (Some f) c = NotNow
visited p n v None c = taken_by p n v (waiting_in n c.tasks) (record c { bodies = c.bodies + length v.body })

-- ## By the kind of event
-- a reading is at least the last one
abbrev pub by_event : Program → Config → Event → After
by_event p c (Event.Move b) = for_task c b (wants p Plainly) λ t. counted c (by_itself p b 0 move)
by_event p c (Event.MoveAt b r) = when (nat_le c.last r) (for_task c b (wants p ByClock) λ t. counted (read_at r c) (by_itself p b r move))
by_event p c (Event.Begin b) = for_task c b may_begin λ t. counted c (begins_by b t t.control)
by_event p c (Event.Issue b r) = when (nat_le c.last r) (for_task c b (wants p ByCall) λ t. counted (read_at r c) (by_itself p b r issue))
by_event p c (Event.Answer n r a) = when (nat_le c.last r) (replied_to p n a (call c n) (read_at r c))
by_event p c (Event.Due b r) =
    when (nat_le c.last r) (for_task c b (λ t. is_due c r t.wait) λ t. by_itself p b r due (timed_out t.wait (read_at r c)))
by_event p c (Event.Arrive n r v) = when (nat_le c.last r) (visited p n v (arrive_fault c.endpoints n v (bodies_left c)) (read_at r c))
by_event p c (Event.Cancel r) = when (nat_le c.last r) (To (record (read_at r c) { outcome = Cancelled }))

-- no event comes once there is an outcome
abbrev pub step_from : Outcome → Program → Config → Event → After
step_from Active p c e = by_event p c e
step_from (Returned v) p c e = NotNow
step_from (Raised v) p c e = NotNow
step_from Cancelled p c e = NotNow

-- where an event leads
abbrev pub next : Program → Config → Event → After
next p c e = step_from c.outcome p c e

-- one step
abbrev pub Step : Program → Config → Event → Config → Type 0
Step p c e c2 = next p c e ≡ To c2
