-- The last reading after a step, and what is chosen.
use Rattle.std.specs.Prelude.{◌≡◌, ℕ, suc, max, nat_lt, nat_le, Some, None, Option, option_map, unwrap_or}
use Rattle.std.proofs.Common.{refl, subst}
use Rattle.wf_ast.specs.Tree.{Program}
use Rattle.wf_model.proofs.After.{Leads, led_to}
use Rattle.wf_model.proofs.Counts.{Same, same_stays}
use Rattle.wf_model.proofs.Walk.{bool_case, leads_on, when_leads, for_task_leads, by_itself_stays, begins_stays, timed_out_stays, replied_to_stays, visited_stays}
use Rattle.wf_model.specs.ChoiceLaws.{reading_of}
use Rattle.wf_model.specs.Choose.{wanted, first_due, first_begin, next_ready, ready_event, chosen_event}
use Rattle.wf_model.specs.Config.{Outcome, Active, Returned, Raised, Cancelled, Config, After, To, move_limit}
use Rattle.wf_model.specs.Kinds.{NextKind, Plainly, ByClock, ByCall, next_kind}
use Rattle.wf_model.specs.Move.{move, issue, due}
use Rattle.wf_model.specs.ReadingLaws.{StepsRead, IsFromInside, ChosenIsFromInside}
use Rattle.wf_model.specs.Ready.{call, is_due, may_begin}
use Rattle.wf_model.specs.Step.{stopped, one_more, counted, read_at, timed_out, begins_by, wants, bodies_left, by_event, step_from, next}
use Rattle.wf_model.specs.Taken.{by_itself}
use Rattle.wf_value.specs.Events.{Event}
use Rattle.wf_value.specs.HttpUrl.{first_of_two}
use Rattle.wf_value.specs.Queues.{arrive_fault}

-- ## Readings
abbrev LastIs : ℕ → Config → Type 0
LastIs r c = c.last ≡ r

same_last : (b : Config) (a : After) → Leads (Same b) a → Leads (LastIs b.last) a
same_last b a h = leads_on (Same b) (LastIs b.last) a (λ c s. s.1) h

counted_reads : (b : Config) (f : Config → After) → ((c : Config) → Leads (Same c) (f c)) → Leads (LastIs b.last) (counted b f)
counted_reads b f h =
    bool_case (Leads (LastIs b.last)) (nat_lt (suc b.moves) move_limit) (f (one_more b)) (To (stopped (one_more b)))
    (λ e. same_last (one_more b) (f (one_more b)) (h (one_more b)))
    (λ e. refl)

by_event_reads : (p : Program) (b : Config) (e : Event) → Leads (LastIs (unwrap_or (reading_of e) b.last)) (by_event p b e)
by_event_reads p b (Event.Move n) =
    for_task_leads (LastIs b.last) b n (wants p Plainly) _ (λ t. counted_reads b (by_itself p n 0 move) (λ c. by_itself_stays (Same c) (same_stays c) p n 0 move c (refl, refl, refl)))
by_event_reads p b (Event.MoveAt n r) =
    when_leads (LastIs r) (nat_le b.last r) _ (λ e. for_task_leads (LastIs r) b n (wants p ByClock) _ (λ t. counted_reads (read_at r b) (by_itself p n r move) (λ c. by_itself_stays (Same c) (same_stays c) p n r move c (refl, refl, refl))))
by_event_reads p b (Event.Begin n) =
    for_task_leads (LastIs b.last) b n may_begin _ (λ t. counted_reads b (begins_by n t t.control) (λ c. begins_stays (Same c) (same_stays c) n t t.control c (refl, refl, refl)))
by_event_reads p b (Event.Issue n r) =
    when_leads (LastIs r) (nat_le b.last r) _ (λ e. for_task_leads (LastIs r) b n (wants p ByCall) _ (λ t. counted_reads (read_at r b) (by_itself p n r issue) (λ c. by_itself_stays (Same c) (same_stays c) p n r issue c (refl, refl, refl))))
by_event_reads p b (Event.Answer n r a) =
    when_leads (LastIs r) (nat_le b.last r) _ (λ e. same_last (read_at r b) _ (replied_to_stays (Same (read_at r b)) (same_stays (read_at r b)) p n a (call b n) (read_at r b) (refl, refl, refl)))
by_event_reads p b (Event.Due n r) =
    when_leads (LastIs r) (nat_le b.last r) _ (λ e. for_task_leads (LastIs r) b n (λ t. is_due b r t.wait) _ (λ t. same_last (read_at r b) _
    (by_itself_stays (Same (read_at r b)) (same_stays (read_at r b)) p n r due (timed_out t.wait (read_at r b)) (timed_out_stays (Same (read_at r b)) (same_stays (read_at r b)) t.wait (read_at r b) (refl, refl, refl)))))
by_event_reads p b (Event.Arrive n r v) =
    when_leads (LastIs r) (nat_le b.last r) _ (λ e. same_last (read_at r b) _ (visited_stays (Same (read_at r b)) (same_stays (read_at r b)) p n v (arrive_fault b.endpoints n v (bodies_left b)) (read_at r b) (refl, refl, refl)))
by_event_reads p b (Event.Cancel r) = when_leads (LastIs r) (nat_le b.last r) _ (λ e. refl)

step_from_reads : (o : Outcome) (p : Program) (b : Config) (e : Event) → Leads (LastIs (unwrap_or (reading_of e) b.last)) (step_from o p b e)
step_from_reads Active p b e = by_event_reads p b e
step_from_reads (Returned v) p b e = tt
step_from_reads (Raised v) p b e = tt
step_from_reads Cancelled p b e = tt

pub steps_read : StepsRead
steps_read p b c e h = led_to (LastIs (unwrap_or (reading_of e) b.last)) (next p b e) c (step_from_reads b.outcome p b e) h

-- ## Choices
abbrev InsideOr : Option Event → Type 0
InsideOr None = Unit {0}
InsideOr (Some e) = IsFromInside e

inside_of : {A : Type 0} (f : A → Event) (o : Option A) → ((a : A) → IsFromInside (f a)) → InsideOr (option_map f o)
inside_of f None h = tt
inside_of f (Some a) h = h a

inside_first : (a b : Option Event) → InsideOr a → InsideOr b → InsideOr (first_of_two a b)
inside_first None b h k = k
inside_first (Some e) b h k = h

wanted_inside : (k : NextKind) (b now : ℕ) → IsFromInside (wanted k b now)
wanted_inside Plainly b now = tt
wanted_inside ByClock b now = tt
wanted_inside ByCall b now = tt

event_inside : (p : Program) (c : Config) (r now : ℕ) → InsideOr (chosen_event p c r now)
event_inside p c r now =
    inside_first (option_map (λ b. Event.Due b now) (first_due c r c.tasks)) (first_of_two (option_map Event.Begin (first_begin c.tasks)) (option_map (ready_event p now) (next_ready c)))
    (inside_of (λ b. Event.Due b now) (first_due c r c.tasks) (λ b. tt))
    (inside_first (option_map Event.Begin (first_begin c.tasks)) (option_map (ready_event p now) (next_ready c))
    (inside_of Event.Begin (first_begin c.tasks) (λ b. tt))
    (inside_of (ready_event p now) (next_ready c) (λ t. wanted_inside (next_kind p t.1.control) t.0 now)))

choice_inside : (o : Outcome) (x : Option Event) → InsideOr x → InsideOr (elim o [ Active ↦ x | _ ↦ None ])
choice_inside Active x h = h
choice_inside (Returned v) x h = tt
choice_inside (Raised v) x h = tt
choice_inside Cancelled x h = tt

pub chosen_is_from_inside : ChosenIsFromInside
chosen_is_from_inside p c r e is = subst InsideOr is (choice_inside c.outcome (chosen_event p c r (max r c.last)) (event_inside p c r (max r c.last)))
