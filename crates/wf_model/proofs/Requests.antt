-- The request of an open call is made of what the call asks, of the facts of the start and of its number.
use Rattle.std.specs.Prelude.{◌≡◌, ℕ, zero, suc, ◌+◌, ◌≤◌, ◌<◌, List, [], ◌∷◌, ◌++◌, length, nat_le, nat_lt, slice_set, unwrap_or, Option, Some, None, Ok}
use Rattle.std.proofs.Common.{⊎_elim, refl, sym, subst, ◌∙◌, arith, length-append}
use Rattle.wf_ast.specs.Tree.{Program}
use Rattle.wf_model.proofs.After.{Leads, led_to}
use Rattle.wf_model.proofs.Awaited.{wants_free}
use Rattle.wf_model.proofs.Calls.{nth, same_length}
use Rattle.wf_model.proofs.LocalWaits.{NotCalling, Plain, goes_plain, move_plain, resumed_plain, due_plain, SendsOne, issue_issued}
use Rattle.wf_model.proofs.Walk.{bool_case, some_case, when_leads, for_task_led, StaysWhere, put_back_where, merged_where, by_itself_where, begins_where, timed_out_where, replied_to_where, visited_where}
use Rattle.wf_model.specs.CallLaws.{RequestsAreAsked}
use Rattle.wf_model.specs.Config.{Do, Task, Call, Open, Answered, TimedOut, Facts, Config, After, To, Wrong, NotNow, Outcome, Active, Returned, Raised, Cancelled, move_limit, task}
use Rattle.wf_model.specs.Kinds.{Plainly, ByClock, ByCall}
use Rattle.wf_model.specs.Local.{Effect, Sends, Creates, Takes, Logs, Moved, Does, goes}
use Rattle.wf_model.specs.Move.{move, issue, due}
use Rattle.wf_model.specs.Ready.{call, is_due, may_begin, request_in, request_of}
use Rattle.wf_model.specs.Run.{run_on, run, initial, empty, main_steps, main_local}
use Rattle.wf_model.specs.RunLaws.{RunsAreBounded}
use Rattle.wf_model.specs.Step.{stopped, one_more, counted, read_at, close, timed_out, begins_by, fresh, wants, bodies_left, by_event, step_from, next}
use Rattle.wf_model.specs.Taken.{scene, local, merged, done, by_itself}
use Rattle.wf_value.specs.Data.{null}
use Rattle.wf_value.specs.Decode.{json_value}
use Rattle.wf_value.specs.Events.{Event, Start}
use Rattle.wf_value.specs.HttpRequest as http_request
use Rattle.wf_value.specs.HttpRequest.{Asked, Request}
use Rattle.wf_value.specs.Queues.{arrive_fault}

plain_behind : (x : Effect) (m : Moved) → Plain (Does x m) → Plain m
plain_behind (Sends q d) m h = absurd h
plain_behind (Creates y) m h = h
plain_behind (Takes i) m h = h
plain_behind (Logs severity v) m h = h

module _ (F : Facts) where
  abbrev MadeOf : ℕ → Request → Type 0
  MadeOf k q = (a : Asked) × (http_request.request F.routes a F.id k ≡ Ok q)

  abbrev IfMade : ℕ → Call → Type 0
  IfMade k (Open b q d) = MadeOf k q
  IfMade k Answered = Unit {0}
  IfMade k TimedOut = Unit {0}

  abbrev AllMade : ℕ → List Call → Type 0
  AllMade m [] = Unit {0}
  AllMade m (x ∷ xs) = IfMade m x × AllMade (suc m) xs

  abbrev Fine : Config → Type 0
  Fine c = (c.facts ≡ F) × AllMade 1 c.calls × (length c.calls ≤ c.moves)

  shut_made : (m : ℕ) (x : Call) → request_in x ≡ None → IfMade m x
  shut_made m (Open b q d) h = absurd cc
  shut_made m Answered h = tt
  shut_made m TimedOut h = tt

  set_made : (m : ℕ) (xs : List Call) (n : ℕ) (x : Call) → request_in x ≡ None → AllMade m xs → AllMade m (slice_set xs n x)
  set_made m [] n x shut h = h
  set_made m (y ∷ ys) zero x shut h = (shut_made m x shut, h.1)
  set_made m (y ∷ ys) (suc n) x shut h = (h.0, set_made (suc m) ys n x shut h.1)

  more_moves : (c : Config) → Fine c → Fine (one_more c)
  more_moves c h = (h.0, h.1, omega (arith, h.2))

  push_made : (m n : ℕ) (xs : List Call) (b : ℕ) (q : Request) (d : ℕ) → n ≡ m + length xs → MadeOf n q → AllMade m xs → AllMade m (xs ++ Open b q d ∷ [])
  push_made m n [] b q d is one h = (subst (λ k. MadeOf k q) (omega (arith, is)) one, tt)
  push_made m n (x ∷ xs) b q d is one h = (h.0, push_made (suc m) n xs b q d (omega (arith, is)) one h.1)

  closed_fine : (c : Config) (n : ℕ) (x : Call) → request_in x ≡ None → Fine c → Fine (close n x c)
  closed_fine c zero x shut h = h
  closed_fine c (suc n) x shut h = (h.0, set_made 1 c.calls n x shut h.1, let size = same_length c.calls n x in omega (arith, size, h.2))

  stays : StaysWhere Fine Plain
  stays = record {
    tasks = λ c ts h. h;
    made = λ c h. h;
    closed = λ c n x e h. closed_fine c n x e h;
    endpoints = λ c es h. h;
    logged = λ c e h. h;
    bodies = λ c n h. h;
    outcome = λ c o h. h;
    sent = λ c n q d m plain h. absurd plain;
    behind = λ x m plain. plain_behind x m plain;
    begins = λ ss ps. goes_plain (Do ss ss ∷ []) (fresh ps) tt;
    resumes = λ z r a l. resumed_plain z r a l;
  }

  -- ## One event
  same_wait : (o : Option Task) (t u : Task) → o ≡ Some t → o ≡ Some u → NotCalling t.wait → NotCalling u.wait
  same_wait o t u p q free = let both : Some t ≡ Some u = sym p ∙ q in let one : t ≡ u = cc both in subst (λ (v : Task). NotCalling v.wait) one free

  counted_fine : (c : Config) (f : Config → After) → Fine c → Leads Fine (f (one_more c)) → Leads Fine (counted c f)
  counted_fine c f h k = bool_case (Leads Fine) (nat_lt (suc c.moves) move_limit) (f (one_more c)) (To (stopped (one_more c))) (λ e. k) (λ e. more_moves c h)

  moves_on : (p : Program) (n now : ℕ) (t : Task) (c : Config) → task c n ≡ Some t → NotCalling t.wait → Fine c → Leads Fine (by_itself p n now move c)
  moves_on p n now t c at free h = by_itself_where Fine Plain stays p n now move c (λ u there. move_plain (scene p c n u now) (local c n u) (same_wait (task c n) t u at there free)) h

  sends_fine : (p : Program) (n now : ℕ) (t : Task) (c : Config) → Fine c → length c.calls < c.moves → SendsOne (scene p c n t now) (issue (scene p c n t now) (local c n t)) → Leads Fine (merged n t.parent (issue (scene p c n t now) (local c n t)) c)
  sends_fine p n now t c h lt s =
      let made_here : MadeOf (suc (length c.calls)) s.request = (s.asks, subst (λ (g : Facts). http_request.request g.routes s.asks g.id (suc (length c.calls)) ≡ Ok s.request) h.0 s.made) in
      let sent : Fine (done n (Sends s.request s.due) c) = (h.0, push_made 1 (suc (length c.calls)) c.calls n s.request s.due (omega arith) made_here h.1, let size = length-append c.calls (Open n s.request s.due ∷ []) in omega (arith, size, lt)) in
      subst (λ m. Leads Fine (merged n t.parent m c)) (sym s.is) (put_back_where Fine Plain stays n s.local (done n (Sends s.request s.due) c) sent)

  issues_on : (p : Program) (n now : ℕ) (t : Task) (c : Config) → task c n ≡ Some t → NotCalling t.wait → Fine c → length c.calls < c.moves → Leads Fine (by_itself p n now issue c)
  issues_on p n now t c at free h lt =
      some_case (Leads Fine) (task c n) NotNow (λ u. merged n u.parent (issue (scene p c n u now) (local c n u)) c) tt
      (λ u there.
      ⊎_elim
      (λ plain. merged_where Fine Plain stays n u.parent (issue (scene p c n u now) (local c n u)) c plain h)
      (λ sends. sends_fine p n now u c h lt sends)
      (issue_issued (scene p c n u now) (local c n u) (same_wait (task c n) t u at there free)))

  by_event_fine : (p : Program) (b : Config) (e : Event) → Fine b → Leads Fine (by_event p b e)
  by_event_fine p b (Event.Move n) h =
      for_task_led Fine b n (wants p Plainly) _ (λ t at is. counted_fine b (by_itself p n 0 move) h (moves_on p n 0 t (one_more b) at (wants_free p Plainly t is) (more_moves b h)))
  by_event_fine p b (Event.MoveAt n r) h =
      when_leads Fine (nat_le b.last r) _ (λ e. for_task_led Fine b n (wants p ByClock) _ (λ t at is. counted_fine (read_at r b) (by_itself p n r move) h (moves_on p n r t (one_more (read_at r b)) at (wants_free p ByClock t is) (more_moves (read_at r b) h))))
  by_event_fine p b (Event.Begin n) h =
      for_task_led Fine b n may_begin _ (λ t at is. counted_fine b (begins_by n t t.control) h (begins_where Fine Plain stays n t t.control (one_more b) (more_moves b h)))
  by_event_fine p b (Event.Issue n r) h =
      when_leads Fine (nat_le b.last r) _ (λ e. for_task_led Fine b n (wants p ByCall) _ (λ t at is. counted_fine (read_at r b) (by_itself p n r issue) h (issues_on p n r t (one_more (read_at r b)) at (wants_free p ByCall t is) (more_moves (read_at r b) h) (omega (arith, h.2)))))
  by_event_fine p b (Event.Answer n r a) h = when_leads Fine (nat_le b.last r) _ (λ e. replied_to_where Fine Plain stays p n a (call b n) (read_at r b) h)
  by_event_fine p b (Event.Due n r) h =
      when_leads Fine (nat_le b.last r) _ (λ e. for_task_led Fine b n (λ t. is_due b r t.wait) _ (λ t at is.
      by_itself_where Fine Plain stays p n r due (timed_out t.wait (read_at r b)) (λ u there. due_plain (scene p (timed_out t.wait (read_at r b)) n u r) (local (timed_out t.wait (read_at r b)) n u)) (timed_out_where Fine Plain stays t.wait (read_at r b) h)))
  by_event_fine p b (Event.Arrive n r v) h = when_leads Fine (nat_le b.last r) _ (λ e. visited_where Fine Plain stays p n v (arrive_fault b.endpoints n v (bodies_left b)) (read_at r b) h)
  by_event_fine p b (Event.Cancel r) h = when_leads Fine (nat_le b.last r) _ (λ e. h)

  step_fine : (o : Outcome) (p : Program) (b : Config) (e : Event) → Fine b → Leads Fine (step_from o p b e)
  step_fine Active p b e h = by_event_fine p b e h
  step_fine (Returned v) p b e h = tt
  step_fine (Raised v) p b e h = tt
  step_fine Cancelled p b e h = tt

  run_fine : (p : Program) (a : After) (es : List Event) → Leads Fine a → Leads Fine (run_on p a es)
  run_fine p a [] h = h
  run_fine p (To c) (e ∷ es) h = run_fine p (next p c e) es (step_fine c.outcome p c e h)
  run_fine p (Wrong k) (e ∷ es) h = tt
  run_fine p NotNow (e ∷ es) h = tt

  -- ## By number
  open_made : (m : ℕ) (x : Call) (q : Request) → IfMade m x → request_in x ≡ Some q → MadeOf m q
  open_made m (Open b r d) q h is = let same : r ≡ q = cc in subst (λ x. MadeOf m x) same h
  open_made m Answered q h is = absurd cc
  open_made m TimedOut q h is = absurd cc

  made_at : (m k n : ℕ) (xs : List Call) (q : Request) → k ≡ m + n → AllMade m xs → request_in (nth xs n) ≡ Some q → MadeOf k q
  made_at m k n [] q is h at = absurd cc
  made_at m k zero (x ∷ xs) q is h at = subst (λ j. MadeOf j q) (omega (arith, is)) (open_made m x q h.0 at)
  made_at m k (suc n) (x ∷ xs) q is h at = made_at (suc m) k n xs q (omega (arith, is)) h.1 at

  made_by : (c : Config) (k : ℕ) (q : Request) → Fine c → request_of c k ≡ Some q → MadeOf k q
  made_by c zero q h at = absurd cc
  made_by c (suc n) q h at = made_at 1 (suc n) n c.calls q (omega arith) h.1 at

first_fine : (p : Program) (s : Start) → Leads (Fine (empty s).facts) (initial p s)
first_fine p s =
    merged_where (Fine (empty s).facts) Plain (stays (empty s).facts) 0 None (goes (Do (main_steps p.flows) (main_steps p.flows) ∷ []) (main_local p (unwrap_or (json_value s.argument) null))) (empty s)
    (goes_plain (Do (main_steps p.flows) (main_steps p.flows) ∷ []) (main_local p (unwrap_or (json_value s.argument) null)) tt) (refl, tt, omega arith)

few_calls : (xs : List Call) (n : ℕ) (q : Request) → request_in (nth xs n) ≡ Some q → n < length xs
few_calls [] n q at = absurd cc
few_calls (x ∷ xs) zero q at = omega arith
few_calls (x ∷ xs) (suc n) q at = let lt = few_calls xs n q at in omega (arith, lt)

number_of : (c : Config) (k : ℕ) (q : Request) → request_of c k ≡ Some q → k ≤ length c.calls
number_of c zero q at = omega arith
number_of c (suc n) q at = let lt = few_calls c.calls n q at in omega (arith, lt)

pub requests_are_asked : RunsAreBounded → RequestsAreAsked
requests_are_asked bounded p s es c k q is at =
    let f = led_to (Fine (empty s).facts) (run p s es) c (run_fine (empty s).facts p (initial p s) es (first_fine p s)) is in
    let m = made_by (empty s).facts c k q f at in
    let few = number_of c k q at in
    let moves = (bounded p s es c is).moves in
    (m.0, m.1, omega (arith, few, f.2, moves))
