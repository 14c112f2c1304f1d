-- No event changes the request of an open call, or opens a call again.
use Rattle.std.specs.Prelude.{◌≡◌, ℕ, zero, suc, ◌+◌, ◌≤◌, ◌⊎◌, List, [], ◌∷◌, ◌++◌, length, nat_le, slice_get, slice_set, Some, None}
use Rattle.std.proofs.Common.{inl, inr, arith}
use mathlib.Core.Path.{refl, sym, ap, ◌∙◌}
use Rattle.wf_ast.specs.Tree.{Program}
use Rattle.wf_model.proofs.After.{Leads, led_to}
use Rattle.wf_model.proofs.Runs.{runs_join}
use Rattle.wf_model.proofs.Walk.{bool_case, option_case, leads_on, when_leads, for_task_leads, Stays, by_itself_stays, begins_stays, timed_out_stays, replied_to_stays, visited_stays}
use Rattle.wf_model.specs.Config.{Wait, Calling, Call, Open, Answered, Outcome, Active, Returned, Raised, Cancelled, Config, After, To, Wrong, NotNow, body_limit, task}
use Rattle.wf_model.specs.CallLaws.{CallsGoOn, AnswersClose}
use Rattle.wf_model.specs.Kinds.{Plainly, ByClock, ByCall}
use Rattle.wf_model.specs.Move.{move, issue, due, resumed}
use Rattle.wf_model.specs.Ready.{call, is_due, may_begin, request_in, request_of}
use Rattle.wf_model.specs.Run.{run_on, run}
use Rattle.wf_model.specs.RunLaws.{OnlyClose, StepsOnlyCloseCalls, RequestsStay}
use Rattle.wf_model.specs.Step.{stopped, replied, replied_to, one_more, counted, read_at, close, timed_out, begins_by, wants, bodies_left, by_event, step_from, next}
use Rattle.wf_model.specs.Taken.{by_itself}
use Rattle.wf_value.specs.Events.{Event, Reply}
use Rattle.wf_value.specs.HttpText.{reply_result, reply_length}
use Rattle.wf_value.specs.Errors.{error_map}
use Rattle.wf_value.specs.declared.Tag.TheVariants.{ResourceLimitError}
use Rattle.wf_value.specs.HttpRequest.{Request}
use Rattle.wf_value.specs.Queues.{arrive_fault}

-- ## Lists of calls
closes_same : (xs : List Call) → OnlyClose xs xs
closes_same [] = tt
closes_same (x ∷ xs) = (inl refl, closes_same xs)

then_closed : (x y z : Call) → (y ≡ x) ⊎ (request_in y ≡ None) → (z ≡ y) ⊎ (request_in z ≡ None) → (z ≡ x) ⊎ (request_in z ≡ None)
then_closed x y z h (inr k) = inr k
then_closed x y z (inl h) (inl k) = inl (k ∙ h)
then_closed x y z (inr h) (inl k) = inr (ap request_in k ∙ h)

closes_then : (xs ys zs : List Call) → OnlyClose xs ys → OnlyClose ys zs → OnlyClose xs zs
closes_then [] ys zs h k = tt
closes_then (x ∷ xs) [] zs h k = absurd h
closes_then (x ∷ xs) (y ∷ ys) [] h k = absurd k
closes_then (x ∷ xs) (y ∷ ys) (z ∷ zs) h k = (then_closed x y z h.0 k.0, closes_then xs ys zs h.1 k.1)

closes_more : (xs zs : List Call) → OnlyClose xs (xs ++ zs)
closes_more [] zs = tt
closes_more (x ∷ xs) zs = (inl refl, closes_more xs zs)

closes_one : (xs : List Call) (n : ℕ) (y : Call) → request_in y ≡ None → OnlyClose xs (slice_set xs n y)
closes_one [] n y h = tt
closes_one (x ∷ xs) zero y h = (inr h, closes_same xs)
closes_one (x ∷ xs) (suc n) y h = (inl refl, closes_one xs n y h)

-- ## Steps
abbrev Closes : Config → Config → Type 0
Closes b c = OnlyClose b.calls c.calls

closed_one : (b c : Config) (n : ℕ) (x : Call) → request_in x ≡ None → Closes b c → Closes b (close n x c)
closed_one b c zero x e h = h
closed_one b c (suc n) x e h = closes_then b.calls c.calls (slice_set c.calls n x) h (closes_one c.calls n x e)

closes_stays : (b : Config) → Stays (Closes b)
closes_stays b = record {
  tasks = λ c ts h. h;
  made = λ c h. h;
  sent = λ c n q d h. closes_then b.calls c.calls (c.calls ++ Open n q d ∷ []) h (closes_more c.calls (Open n q d ∷ []));
  closed = λ c n x e h. closed_one b c n x e h;
  endpoints = λ c es h. h;
  logged = λ c e h. h;
  bodies = λ c n h. h;
  outcome = λ c o h. h;
}

counted_closes : (b c : Config) (f : Config → After) → Closes b c → Leads (Closes b) (f (one_more c)) → Leads (Closes b) (counted c f)
counted_closes b c f h k = bool_case (Leads (Closes b)) _ (f (one_more c)) (To (stopped (one_more c))) (λ e. k) (λ e. h)

by_event_closes : (p : Program) (b : Config) (e : Event) → Leads (Closes b) (by_event p b e)
by_event_closes p b (Event.Move n) =
    for_task_leads (Closes b) b n (wants p Plainly) _ (λ t. counted_closes b b (by_itself p n 0 move) (closes_same b.calls) (by_itself_stays (Closes b) (closes_stays b) p n 0 move (one_more b) (closes_same b.calls)))
by_event_closes p b (Event.MoveAt n r) =
    when_leads (Closes b) (nat_le b.last r) _ (λ e. for_task_leads (Closes b) b n (wants p ByClock) _ (λ t.
    counted_closes b (read_at r b) (by_itself p n r move) (closes_same b.calls) (by_itself_stays (Closes b) (closes_stays b) p n r move (one_more (read_at r b)) (closes_same b.calls))))
by_event_closes p b (Event.Begin n) =
    for_task_leads (Closes b) b n may_begin _ (λ t. counted_closes b b (begins_by n t t.control) (closes_same b.calls) (begins_stays (Closes b) (closes_stays b) n t t.control (one_more b) (closes_same b.calls)))
by_event_closes p b (Event.Issue n r) =
    when_leads (Closes b) (nat_le b.last r) _ (λ e. for_task_leads (Closes b) b n (wants p ByCall) _ (λ t.
    counted_closes b (read_at r b) (by_itself p n r issue) (closes_same b.calls) (by_itself_stays (Closes b) (closes_stays b) p n r issue (one_more (read_at r b)) (closes_same b.calls))))
by_event_closes p b (Event.Answer n r a) =
    when_leads (Closes b) (nat_le b.last r) _ (λ e. replied_to_stays (Closes b) (closes_stays b) p n a (call b n) (read_at r b) (closes_same b.calls))
by_event_closes p b (Event.Due n r) =
    when_leads (Closes b) (nat_le b.last r) _ (λ e. for_task_leads (Closes b) b n (λ t. is_due b r t.wait) _ (λ t.
    by_itself_stays (Closes b) (closes_stays b) p n r due (timed_out t.wait (read_at r b)) (timed_out_stays (Closes b) (closes_stays b) t.wait (read_at r b) (closes_same b.calls))))
by_event_closes p b (Event.Arrive n r v) =
    when_leads (Closes b) (nat_le b.last r) _ (λ e. visited_stays (Closes b) (closes_stays b) p n v (arrive_fault b.endpoints n v (bodies_left b)) (read_at r b) (closes_same b.calls))
by_event_closes p b (Event.Cancel r) = when_leads (Closes b) (nat_le b.last r) _ (λ e. closes_same b.calls)

step_from_closes : (o : Outcome) (p : Program) (b : Config) (e : Event) → Leads (Closes b) (step_from o p b e)
step_from_closes Active p b e = by_event_closes p b e
step_from_closes (Returned v) p b e = tt
step_from_closes (Raised v) p b e = tt
step_from_closes Cancelled p b e = tt

pub steps_only_close_calls : StepsOnlyCloseCalls
steps_only_close_calls p b c e h = led_to (Closes b) (next p b e) c (step_from_closes b.outcome p b e) h

-- ## Runs
run_closes : (p : Program) (b : Config) (a : After) (es : List Event) → Leads (Closes b) a → Leads (Closes b) (run_on p a es)
run_closes p b a [] h = h
run_closes p b (To c) (e ∷ es) h =
    run_closes p b (next p c e) es (leads_on (Closes c) (Closes b) (next p c e) (λ d k. closes_then b.calls c.calls d.calls h k) (step_from_closes c.outcome p c e))
run_closes p b (Wrong k) (e ∷ es) h = tt
run_closes p b NotNow (e ∷ es) h = tt

-- call n from 0 of a list
abbrev pub nth : List Call → ℕ → Call
nth xs n = elim (slice_get xs n) [ None ↦ Answered | Some x ↦ x ]

open_was_open : (x y : Call) (q : Request) → (y ≡ x) ⊎ (request_in y ≡ None) → request_in y ≡ Some q → request_in x ≡ Some q
open_was_open x y q (inl h) k = ap request_in (sym h) ∙ k
open_was_open x y q (inr h) k = cc (h, k)

nth_stays : (xs ys : List Call) (n : ℕ) (q : Request) → OnlyClose xs ys → suc n ≤ length xs → request_in (nth ys n) ≡ Some q → request_in (nth xs n) ≡ Some q
nth_stays [] ys n q h le k = absurd (omega (arith, le))
nth_stays (x ∷ xs) [] n q h le k = absurd h
nth_stays (x ∷ xs) (y ∷ ys) zero q h le k = open_was_open x y q h.0 k
nth_stays (x ∷ xs) (y ∷ ys) (suc n) q h le k = nth_stays xs ys n q h.1 (omega (arith, le)) k

request_stays : (b c : Config) (k : ℕ) (q : Request) → Closes b c → k ≤ length b.calls → request_of c k ≡ Some q → request_of b k ≡ Some q
request_stays b c zero q h le e = e
request_stays b c (suc n) q h le e = nth_stays b.calls c.calls n q h le e

pub requests_stay : RequestsStay
requests_stay p s es fs b c h i k q le e =
    let leads : Leads (Closes b) (run_on p (To b) fs) = run_closes p b (To b) fs (closes_same b.calls) in
    let there : run_on p (To b) fs ≡ To c = ap (λ a. run_on p a fs) (sym h) ∙ sym (runs_join p (run p s []) es fs) ∙ i in
    request_stays b c k q (led_to (Closes b) (run_on p (To b) fs) c leads there) le e

closes_longer : (xs ys : List Call) → OnlyClose xs ys → length xs ≤ length ys
closes_longer [] ys h = omega arith
closes_longer (x ∷ xs) [] h = absurd h
closes_longer (x ∷ xs) (y ∷ ys) h = let le = closes_longer xs ys h.1 in omega (arith, le)

pub calls_go_on : CallsGoOn
calls_go_on p b c es is =
    let closes = led_to (Closes b) (run_on p (To b) es) c (run_closes p b (To b) es (closes_same b.calls)) is in
    (closes_longer b.calls c.calls closes, λ k q le asks. request_stays b c k q closes le asks)

-- ## Answers
-- a call that was issued and isn't open
abbrev Shut : ℕ → Config → Type 0
Shut k c = (k ≤ length c.calls) × (request_of c k ≡ None)

nth_more : (xs zs : List Call) (n : ℕ) → suc n ≤ length xs → nth (xs ++ zs) n ≡ nth xs n
nth_more [] zs n le = absurd (omega (arith, le))
nth_more (x ∷ xs) zs zero le = refl
nth_more (x ∷ xs) zs (suc n) le = nth_more xs zs n (omega (arith, le))

longer : (xs zs : List Call) → length xs ≤ length (xs ++ zs)
longer [] zs = omega arith
longer (x ∷ xs) zs = let le = longer xs zs in omega (arith, le)

pub same_length : (xs : List Call) (n : ℕ) (x : Call) → length (slice_set xs n x) ≡ length xs
same_length [] n x = refl
same_length (y ∷ ys) zero x = refl
same_length (y ∷ ys) (suc n) x = ap suc (same_length ys n x)

-- where one is closed, what was closed stays so
nth_closed : (xs : List Call) (m n : ℕ) (x : Call) → request_in x ≡ None → request_in (nth xs n) ≡ None → request_in (nth (slice_set xs m x) n) ≡ None
nth_closed [] m n x h k = k
nth_closed (y ∷ ys) zero zero x h k = h
nth_closed (y ∷ ys) zero (suc n) x h k = k
nth_closed (y ∷ ys) (suc m) zero x h k = k
nth_closed (y ∷ ys) (suc m) (suc n) x h k = nth_closed ys m n x h k

-- and it is closed itself
nth_set : (xs : List Call) (n : ℕ) (x : Call) → suc n ≤ length xs → request_in x ≡ None → request_in (nth (slice_set xs n x) n) ≡ None
nth_set [] n x le h = absurd (omega (arith, le))
nth_set (y ∷ ys) zero x le h = h
nth_set (y ∷ ys) (suc n) x le h = nth_set ys n x (omega (arith, le)) h

shut_with : (k : ℕ) (c : Config) (zs : List Call) → Shut k c → Shut k (record c { calls = c.calls ++ zs })
shut_with zero c zs h = (omega arith, refl)
shut_with (suc n) c zs h = (let le = h.0 in omega (arith, le, longer c.calls zs), ap request_in (nth_more c.calls zs n h.0) ∙ h.1)

shut_still : (k : ℕ) (c : Config) (n : ℕ) (x : Call) → request_in x ≡ None → Shut k c → Shut k (close n x c)
shut_still k c zero x e h = h
shut_still zero c (suc n) x e h = (omega arith, refl)
shut_still (suc k) c (suc n) x e h = (let le = h.0 in omega (arith, le, same_length c.calls n x), nth_closed c.calls n k x e h.1)

shut_stays : (k : ℕ) → Stays (Shut k)
shut_stays k = record {
  tasks = λ c ts h. h;
  made = λ c h. h;
  sent = λ c n q d h. shut_with k c (Open n q d ∷ []) h;
  closed = λ c n x e h. shut_still k c n x e h;
  endpoints = λ c es h. h;
  logged = λ c e h. h;
  bodies = λ c n h. h;
  outcome = λ c o h. h;
}

-- a call that is open can be closed
open_at : (xs : List Call) (n : ℕ) (i : ℕ) (q : Request) (d : ℕ) → nth xs n ≡ Open i q d → suc n ≤ length xs
open_at [] n i q d h = absurd (let f : Answered ≡ Open i q d = h in cc f)
open_at (x ∷ xs) zero i q d h = omega arith
open_at (x ∷ xs) (suc n) i q d h = let le = open_at xs n i q d h in omega (arith, le)

shut_one : (k : ℕ) (c : Config) (i : ℕ) (q : Request) (d : ℕ) → call c k ≡ Open i q d → Shut k (close k Answered c)
shut_one zero c i q d h = absurd (let f : Answered ≡ Open i q d = h in cc f)
shut_one (suc n) c i q d h =
    let le = open_at c.calls n i q d h in
    (omega (arith, le, same_length c.calls n Answered), nth_set c.calls n Answered le refl)

abbrev IfActive : ℕ → Config → Type 0
IfActive k c = c.outcome ≡ Active → Shut k c

replied_shuts : (p : Program) (k : ℕ) (a : Reply) (i : ℕ) (w : Wait) (c : Config) (q : Request) (d : ℕ) → call c k ≡ Open i q d → Leads (IfActive k) (replied p k a i w c)
replied_shuts p k a i (Calling m r) c q d h =
    let f = record c { bodies = c.bodies + reply_length a } in
    bool_case (Leads (IfActive k)) (nat_le (c.bodies + reply_length a) body_limit) (by_itself p i 0 (λ s l. resumed s r (reply_result a) l) (close k Answered f)) (To (stopped c))
    (λ e. leads_on (Shut k) (IfActive k) (by_itself p i 0 (λ s l. resumed s r (reply_result a) l) (close k Answered f)) (λ b shut active. shut)
    (by_itself_stays (Shut k) (shut_stays k) p i 0 (λ s l. resumed s r (reply_result a) l) (close k Answered f) (shut_one k f i q d h)))
    (λ e active. absurd (let no : Raised (error_map ResourceLimitError) ≡ Active = active in cc no))
replied_shuts p k a i w c q d h = tt

replied_to_shuts : (p : Program) (k : ℕ) (a : Reply) (x : Call) (c : Config) → call c k ≡ x → Leads (IfActive k) (replied_to p k a x c)
replied_to_shuts p k a (Open i q d) c h = option_case (Leads (IfActive k)) (task c i) NotNow (λ t. replied p k a i t.wait c) tt (λ t. replied_shuts p k a i t.wait c q d h)
replied_to_shuts p k a x c h = tt

answer_shuts : (o : Outcome) (p : Program) (b : Config) (k r : ℕ) (a : Reply) → Leads (IfActive k) (step_from o p b (Event.Answer k r a))
answer_shuts Active p b k r a = when_leads (IfActive k) (nat_le b.last r) _ (λ e. replied_to_shuts p k a (call b k) (read_at r b) refl)
answer_shuts (Returned v) p b k r a = tt
answer_shuts (Raised v) p b k r a = tt
answer_shuts Cancelled p b k r a = tt

pub answers_close : AnswersClose
answers_close p b c k r a is = led_to (IfActive k) (next p b (Event.Answer k r a)) c (answer_shuts b.outcome p b k r a) is
