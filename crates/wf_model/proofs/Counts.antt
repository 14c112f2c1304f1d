-- What a step keeps and counts.
use Rattle.std.specs.Prelude.{◌≡◌, ℕ, zero, suc, ◌≤◌, ◌≢◌, nat_lt, nat_le}
use Rattle.std.proofs.Common.{inl, inr, arith}
use Rattle.std.proofs.lemmas.Bool.{ltb-true, leb-true}
use mathlib.Core.Path.{refl}
use Rattle.wf_ast.specs.Tree.{Program}
use Rattle.wf_model.proofs.After.{Leads, led_to}
use Rattle.wf_model.proofs.Walk.{bool_case, leads_on, when_leads, for_task_leads, Stays, by_itself_stays, begins_stays, timed_out_stays, replied_to_stays, visited_stays}
use Rattle.wf_model.specs.Config.{Call, Outcome, Active, Returned, Raised, Cancelled, Config, After, To, NotNow, move_limit}
use Rattle.wf_model.specs.Kinds.{Plainly, ByClock, ByCall}
use Rattle.wf_model.specs.Move.{move, issue, due}
use Rattle.wf_model.specs.Ready.{call, is_due, may_begin}
use Rattle.wf_model.specs.RunLaws.{Counts, StepsCount, NothingFollowsAnOutcome}
use Rattle.wf_model.specs.Step.{stopped, one_more, counted, read_at, close, timed_out, begins_by, when, wants, bodies_left, by_event, step_from, next}
use Rattle.wf_model.specs.Taken.{by_itself}
use Rattle.wf_value.specs.Data.{Data}
use Rattle.wf_value.specs.Events.{Event}
use Rattle.wf_value.specs.Queues.{arrive_fault}

-- ## The facts, the last reading and the moves stay in each part of an event
abbrev pub Same : Config → Config → Type 0
Same b c = (c.facts ≡ b.facts) × (c.last ≡ b.last) × (c.moves ≡ b.moves)

close_same : (b c : Config) (n : ℕ) → Same b c → (x : Call) → Same b (close n x c)
close_same b c zero h x = h
close_same b c (suc n) h x = h

pub same_stays : (b : Config) → Stays (Same b)
same_stays b = record {
  tasks = λ c ts h. h;
  made = λ c h. h;
  sent = λ c n q d h. h;
  closed = λ c n x e h. close_same b c n h x;
  endpoints = λ c es h. h;
  logged = λ c e h. h;
  bodies = λ c n h. h;
  outcome = λ c o h. h;
}

-- ## Counting
raised_is_not_active : (e : Data) → Raised e ≢ Active
raised_is_not_active e h = cc h

-- an event that isn't counted
uncounted : (b : Config) (r : ℕ) → b.last ≤ r → (a : After) → Leads (Same (read_at r b)) a → Leads (Counts b) a
uncounted b r le a h = leads_on (Same (read_at r b)) (Counts b) a (λ c s. record { facts = s.0; readings = rw s.1 le; moves = inl s.2 }) h

-- and one that is
counted_counts : (b : Config) (r : ℕ) → b.last ≤ r → (f : Config → After) → ((c : Config) → Leads (Same c) (f c)) → Leads (Counts b) (counted (read_at r b) f)
counted_counts b r le f h =
    bool_case (Leads (Counts b)) (nat_lt (suc b.moves) move_limit) (f (one_more (read_at r b))) (To (stopped (one_more (read_at r b))))
    (λ e. leads_on (Same (one_more (read_at r b))) (Counts b) (f (one_more (read_at r b))) (λ c s. record { facts = s.0; readings = rw s.1 le; moves = inr (s.2, inl (ltb-true _ _ e)) }) (h (one_more (read_at r b))))
    (λ e. record { facts = refl; readings = le; moves = inr (refl, inr (raised_is_not_active _)) })

read_when : (b : Config) (r : ℕ) (a : After) → (b.last ≤ r → Leads (Counts b) a) → Leads (Counts b) (when (nat_le b.last r) a)
read_when b r a h = when_leads (Counts b) (nat_le b.last r) a (λ e. h (leb-true _ _ e))

by_event_counts : (p : Program) (b : Config) (e : Event) → Leads (Counts b) (by_event p b e)
by_event_counts p b (Event.Move n) =
    for_task_leads (Counts b) b n (wants p Plainly) _ (λ t. counted_counts b b.last (omega arith) (by_itself p n 0 move) (λ c. by_itself_stays (Same c) (same_stays c) p n 0 move c (refl, refl, refl)))
by_event_counts p b (Event.MoveAt n r) =
    read_when b r _ (λ le. for_task_leads (Counts b) b n (wants p ByClock) _ (λ t. counted_counts b r le (by_itself p n r move) (λ c. by_itself_stays (Same c) (same_stays c) p n r move c (refl, refl, refl))))
by_event_counts p b (Event.Begin n) =
    for_task_leads (Counts b) b n may_begin _ (λ t. counted_counts b b.last (omega arith) (begins_by n t t.control) (λ c. begins_stays (Same c) (same_stays c) n t t.control c (refl, refl, refl)))
by_event_counts p b (Event.Issue n r) =
    read_when b r _ (λ le. for_task_leads (Counts b) b n (wants p ByCall) _ (λ t. counted_counts b r le (by_itself p n r issue) (λ c. by_itself_stays (Same c) (same_stays c) p n r issue c (refl, refl, refl))))
by_event_counts p b (Event.Answer n r a) =
    read_when b r _ (λ le. uncounted b r le _ (replied_to_stays (Same (read_at r b)) (same_stays (read_at r b)) p n a (call b n) (read_at r b) (refl, refl, refl)))
by_event_counts p b (Event.Due n r) =
    read_when b r _ (λ le. for_task_leads (Counts b) b n (λ t. is_due b r t.wait) _ (λ t. uncounted b r le _
    (by_itself_stays (Same (read_at r b)) (same_stays (read_at r b)) p n r due (timed_out t.wait (read_at r b)) (timed_out_stays (Same (read_at r b)) (same_stays (read_at r b)) t.wait (read_at r b) (refl, refl, refl)))))
by_event_counts p b (Event.Arrive n r v) =
    read_when b r _ (λ le. uncounted b r le _ (visited_stays (Same (read_at r b)) (same_stays (read_at r b)) p n v (arrive_fault b.endpoints n v (bodies_left b)) (read_at r b) (refl, refl, refl)))
by_event_counts p b (Event.Cancel r) = read_when b r _ (λ le. record { facts = refl; readings = le; moves = inl refl })

step_from_counts : (o : Outcome) (p : Program) (b : Config) (e : Event) → Leads (Counts b) (step_from o p b e)
step_from_counts Active p b e = by_event_counts p b e
step_from_counts (Returned v) p b e = tt
step_from_counts (Raised v) p b e = tt
step_from_counts Cancelled p b e = tt

pub next_counts : (p : Program) (b : Config) (e : Event) → Leads (Counts b) (next p b e)
next_counts p b e = step_from_counts b.outcome p b e

pub steps_count : StepsCount
steps_count p b c e h = led_to (Counts b) (next p b e) c (next_counts p b e) h

-- ## Behind an outcome
ended : (o : Outcome) (p : Program) (c : Config) (e : Event) → o ≢ Active → step_from o p c e ≡ NotNow
ended Active p c e h = absurd (h refl)
ended (Returned v) p c e h = refl
ended (Raised v) p c e h = refl
ended Cancelled p c e h = refl

pub nothing_follows_an_outcome : NothingFollowsAnOutcome
nothing_follows_an_outcome p c e h = ended c.outcome p c e h
