-- Where the events of a live task lead.
--     step_comes, step_stops       its step, below the limit on counted events and at it
--     answer_comes, answer_stops   an answer, below the limit on bodies and past it
--     due_comes                    its due moment
--     off_step ..                  what can't come
use Rattle.std.proofs.Common.{◌≡◌, ◌<◌, ◌≤◌, ◌⊎◌, inl, inr, ℕ, zero, suc, ◌+◌, Bool, true, false, ◌&&◌, None, Some, Option, refl, sym, ap, ◌∙◌, arith, add-one}
use Rattle.std.specs.Prelude.{if◌then◌else◌, nat_le, nat_lt}
use Rattle.std.proofs.lemmas.Bool.{le-leb, le-ltb, lt-leb, lt-ltb}
use Rattle.wf_ast.specs.Tree.{Program}
use Rattle.wf_model.specs.Choose.{wanted}
use Rattle.wf_model.specs.Config.{Active, After, Answered, Call, Calling, Config, NotNow, Open, Raised, Task, TimedOut, To, Wait, body_limit, move_limit, task}
use Rattle.wf_model.specs.Kinds.{ByCall, ByClock, NextKind, Plainly, next_kind}
use Rattle.wf_model.specs.Move.{due, issue, move, resumed}
use Rattle.wf_model.specs.Ready.{call, is_due, is_ready, may_begin}
use Rattle.wf_model.specs.Step.{begins_by, by_event, close, counted, next, one_more, read_at, replied, replied_to, same_kind, step_from, stopped, timed_out, wants, when}
use Rattle.wf_model.specs.Taken.{by_itself, local, merged, scene}
use Rattle.wf_together.specs.Chosen.{step_by}
use Rattle.wf_together.specs.Steps.{OthersNeverCome, behind_answer, behind_due, behind_step, closed_in, last_by, passed_in, seen_by}
use Rattle.wf_value.specs.Errors.{error_map}
use Rattle.wf_value.specs.Events.{Event, Reply}
use Rattle.wf_value.specs.HttpRequest.{Request}
use Rattle.wf_value.specs.HttpText.{reply_length, reply_result}
use Rattle.wf_value.specs.Pairs.{Text}
use Rattle.wf_value.specs.declared.Tag.TheVariants.{ResourceLimitError}

-- ## The limits
below_is : (m : ℕ) → m + 1 < 100000 → nat_lt (suc m) move_limit ≡ true
below_is m lt = lt-ltb (suc m) move_limit (omega (arith, lt))

limit_is : (m : ℕ) → 100000 ≤ m + 1 → nat_lt (suc m) move_limit ≡ false
limit_is m le = le-ltb (suc m) move_limit (omega (arith, le))

counts_below : (c : Config) (f : Config → After) → c.moves + 1 < 100000 → counted c f ≡ f (record c { moves = c.moves + 1 })
counts_below c f lt = ap (λ b. if b then f (one_more c) else To (stopped (one_more c))) (below_is c.moves lt) ∙ ap (λ n. f (record c { moves = n })) (sym (add-one c.moves))

counts_out : (c : Config) (f : Config → After) → 100000 ≤ c.moves + 1 → counted c f ≡ To (record c { moves = c.moves + 1; outcome = Raised (error_map ResourceLimitError) })
counts_out c f le = ap (λ b. if b then f (one_more c) else To (stopped (one_more c))) (limit_is c.moves le) ∙ ap (λ n. To (record c { moves = n; outcome = Raised (error_map ResourceLimitError) })) (sym (add-one c.moves))

-- ## Calls
close_is : (n : ℕ) (y : Call) (c : Config) → close n y c ≡ record c { calls = closed_in n y c.calls }
close_is zero y c = refl
close_is (suc n) y c = refl

passed_is : (w : Wait) (c : Config) → timed_out w c ≡ record c { calls = passed_in w c.calls }
passed_is (Calling n v) c = close_is n TimedOut c
passed_is w c = refl

module _ (p : Program) (c : Config) (active : c.outcome ≡ Active) where
  -- without an outcome
  here : (e : Event) → next p c e ≡ by_event p c e
  here e = ap (λ o. step_from o p c e) active

  module _ (b : ℕ) (t : Task) (there : task c b ≡ Some t) where
    -- a live task's event, where this holds of it
    found : (test : Task → Bool) (f : Task → After) → test t ≡ true → elim (task c b) [ None ↦ NotNow | Some t ↦ when (test t) (f t) ] ≡ f t
    found test f holds = ap (λ o. elim o [ None ↦ NotNow | Some t ↦ when (test t) (f t) ]) there ∙ ap (λ y. when y (f t)) holds

    missed : (test : Task → Bool) (f : Task → After) → test t ≡ false → elim (task c b) [ None ↦ NotNow | Some t ↦ when (test t) (f t) ] ≡ NotNow
    missed test f holds = ap (λ o. elim o [ None ↦ NotNow | Some t ↦ when (test t) (f t) ]) there ∙ ap (λ y. when y (f t)) holds

    wants_it : (kind : NextKind) → same_kind kind kind ≡ true → is_ready t ≡ true → next_kind p t.control ≡ kind → wants p kind t ≡ true
    wants_it kind self ready is = ap (λ y. y && same_kind kind (next_kind p t.control)) ready ∙ ap (same_kind kind) is ∙ self

    -- ## Steps
    step_counts : (kind : NextKind) (r : ℕ) → is_ready t ≡ true → next_kind p t.control ≡ kind → c.last ≤ last_by kind r c.last
        → next p c (wanted kind b r) ≡ counted (record c { last = last_by kind r c.last }) (by_itself p b (seen_by kind r) (step_by kind))
    step_counts Plainly r ready is le = here (Event.Move b) ∙ found (wants p Plainly) (λ t. counted c (by_itself p b 0 move)) (wants_it Plainly refl ready is)
    step_counts ByClock r ready is le =
        here (Event.MoveAt b r) ∙ ap (λ y. when y (elim (task c b) [ None ↦ NotNow | Some t ↦ when (wants p ByClock t) (counted (read_at r c) (by_itself p b r move)) ])) (le-leb c.last r le)
        ∙ found (wants p ByClock) (λ t. counted (read_at r c) (by_itself p b r move)) (wants_it ByClock refl ready is)
    step_counts ByCall r ready is le =
        here (Event.Issue b r) ∙ ap (λ y. when y (elim (task c b) [ None ↦ NotNow | Some t ↦ when (wants p ByCall t) (counted (read_at r c) (by_itself p b r issue)) ])) (le-leb c.last r le)
        ∙ found (wants p ByCall) (λ t. counted (read_at r c) (by_itself p b r issue)) (wants_it ByCall refl ready is)

    pub step_comes : (kind : NextKind) (r : ℕ) → is_ready t ≡ true → next_kind p t.control ≡ kind → c.last ≤ last_by kind r c.last → c.moves + 1 < 100000
        → next p c (wanted kind b r) ≡ merged b t.parent (step_by kind (scene p (behind_step kind r c) b t (seen_by kind r)) (local (behind_step kind r c) b t)) (behind_step kind r c)
    step_comes kind r ready is le few =
        step_counts kind r ready is le
        ∙ counts_below (record c { last = last_by kind r c.last }) (by_itself p b (seen_by kind r) (step_by kind)) few
        ∙ ap (λ o. elim o [ None ↦ NotNow | Some t ↦ merged b t.parent (step_by kind (scene p (behind_step kind r c) b t (seen_by kind r)) (local (behind_step kind r c) b t)) (behind_step kind r c) ]) there

    pub step_stops : (kind : NextKind) (r : ℕ) → is_ready t ≡ true → next_kind p t.control ≡ kind → c.last ≤ last_by kind r c.last → 100000 ≤ c.moves + 1
        → next p c (wanted kind b r) ≡ To (record (behind_step kind r c) { outcome = Raised (error_map ResourceLimitError) })
    step_stops kind r ready is le many = step_counts kind r ready is le ∙ counts_out (record c { last = last_by kind r c.last }) (by_itself p b (seen_by kind r) (step_by kind)) many

    -- ## What is waited for
    pub answer_comes : (n : ℕ) (q : Request) (d : ℕ) (m : ℕ) (v : Option Text) (r : ℕ) (a : Reply) → call c n ≡ Open b q d → t.wait ≡ Calling m v → c.last ≤ r → c.bodies + reply_length a ≤ 67108864
        → next p c (Event.Answer n r a) ≡ merged b t.parent (resumed (scene p (behind_answer n r (reply_length a) c) b t 0) v (reply_result a) (local (behind_answer n r (reply_length a) c) b t)) (behind_answer n r (reply_length a) c)
    answer_comes n q d m v r a is waits le room =
        here (Event.Answer n r a)
        ∙ ap (λ y. when y (replied_to p n a (call c n) (read_at r c))) (le-leb c.last r le)
        ∙ ap (λ y. replied_to p n a y (read_at r c)) is
        ∙ ap (λ o. elim o [ None ↦ NotNow | Some t ↦ replied p n a b t.wait (read_at r c) ]) there
        ∙ ap (λ w. replied p n a b w (read_at r c)) waits
        ∙ ap (λ y. if y then by_itself p b 0 (λ s l. resumed s v (reply_result a) l) (close n Answered (record (read_at r c) { bodies = c.bodies + reply_length a })) else To (stopped (read_at r c))) (le-leb (c.bodies + reply_length a) body_limit room)
        ∙ ap (by_itself p b 0 (λ s l. resumed s v (reply_result a) l)) (close_is n Answered (record (read_at r c) { bodies = c.bodies + reply_length a }))
        ∙ ap (λ o. elim o [ None ↦ NotNow | Some t ↦ merged b t.parent (resumed (scene p (behind_answer n r (reply_length a) c) b t 0) v (reply_result a) (local (behind_answer n r (reply_length a) c) b t)) (behind_answer n r (reply_length a) c) ]) there

    pub answer_stops : (n : ℕ) (q : Request) (d : ℕ) (m : ℕ) (v : Option Text) (r : ℕ) (a : Reply) → call c n ≡ Open b q d → t.wait ≡ Calling m v → c.last ≤ r → 67108864 < c.bodies + reply_length a
        → next p c (Event.Answer n r a) ≡ To (record c { last = r; outcome = Raised (error_map ResourceLimitError) })
    answer_stops n q d m v r a is waits le room =
        here (Event.Answer n r a)
        ∙ ap (λ y. when y (replied_to p n a (call c n) (read_at r c))) (le-leb c.last r le)
        ∙ ap (λ y. replied_to p n a y (read_at r c)) is
        ∙ ap (λ o. elim o [ None ↦ NotNow | Some t ↦ replied p n a b t.wait (read_at r c) ]) there
        ∙ ap (λ w. replied p n a b w (read_at r c)) waits
        ∙ ap (λ y. if y then by_itself p b 0 (λ s l. resumed s v (reply_result a) l) (close n Answered (record (read_at r c) { bodies = c.bodies + reply_length a })) else To (stopped (read_at r c))) (lt-leb (c.bodies + reply_length a) body_limit room)

    pub due_comes : (r : ℕ) → is_due c r t.wait ≡ true → c.last ≤ r
        → next p c (Event.Due b r) ≡ merged b t.parent (due (scene p (behind_due t.wait r c) b t r) (local (behind_due t.wait r c) b t)) (behind_due t.wait r c)
    due_comes r is le =
        here (Event.Due b r)
        ∙ ap (λ y. when y (elim (task c b) [ None ↦ NotNow | Some t ↦ when (is_due c r t.wait) (by_itself p b r due (timed_out t.wait (read_at r c))) ])) (le-leb c.last r le)
        ∙ found (λ t. is_due c r t.wait) (λ t. by_itself p b r due (timed_out t.wait (read_at r c))) is
        ∙ ap (by_itself p b r due) (passed_is t.wait (read_at r c))
        ∙ ap (λ o. elim o [ None ↦ NotNow | Some u ↦ merged b u.parent (due (scene p (behind_due t.wait r c) b u r) (local (behind_due t.wait r c) b u)) (behind_due t.wait r c) ]) there

    -- ## What can't come
    off_when : (y : Bool) → when y NotNow ≡ NotNow
    off_when true = refl
    off_when false = refl

    no_want : (kind : NextKind) → (is_ready t ≡ false) ⊎ (same_kind kind (next_kind p t.control) ≡ false) → wants p kind t ≡ false
    no_want kind (inl not_ready) = ap (λ y. y && same_kind kind (next_kind p t.control)) not_ready
    no_want kind (inr other) = by (is_ready t)
      where
        by : (y : Bool) → (y && same_kind kind (next_kind p t.control)) ≡ false
        by true = other
        by false = refl

    pub off_step : (kind : NextKind) (r : ℕ) → (is_ready t ≡ false) ⊎ (same_kind kind (next_kind p t.control) ≡ false) → next p c (wanted kind b r) ≡ NotNow
    off_step Plainly r why = here (Event.Move b) ∙ missed (wants p Plainly) (λ t. counted c (by_itself p b 0 move)) (no_want Plainly why)
    off_step ByClock r why =
        here (Event.MoveAt b r) ∙ ap (when (nat_le c.last r)) (missed (wants p ByClock) (λ t. counted (read_at r c) (by_itself p b r move)) (no_want ByClock why)) ∙ off_when (nat_le c.last r)
    off_step ByCall r why =
        here (Event.Issue b r) ∙ ap (when (nat_le c.last r)) (missed (wants p ByCall) (λ t. counted (read_at r c) (by_itself p b r issue)) (no_want ByCall why)) ∙ off_when (nat_le c.last r)

    pub off_due : (r : ℕ) → is_due c r t.wait ≡ false → next p c (Event.Due b r) ≡ NotNow
    off_due r late = here (Event.Due b r) ∙ ap (when (nat_le c.last r)) (missed (λ t. is_due c r t.wait) (λ t. by_itself p b r due (timed_out t.wait (read_at r c))) late) ∙ off_when (nat_le c.last r)

    pub off_begin : may_begin t ≡ false → next p c (Event.Begin b) ≡ NotNow
    off_begin not_now = here (Event.Begin b) ∙ missed may_begin (λ t. counted c (begins_by b t t.control)) not_now

  -- of a task that isn't live
  off_all : (y : Bool) → when y NotNow ≡ NotNow
  off_all true = refl
  off_all false = refl

  gone : (b : ℕ) (test : Task → Bool) (f : Task → After) → task c b ≡ None → elim (task c b) [ None ↦ NotNow | Some t ↦ when (test t) (f t) ] ≡ NotNow
  gone b test f is = ap (λ o. elim o [ None ↦ NotNow | Some t ↦ when (test t) (f t) ]) is

  pub off_gone : (b : ℕ) (kind : NextKind) (r : ℕ) → task c b ≡ None → next p c (wanted kind b r) ≡ NotNow
  off_gone b Plainly r is = here (Event.Move b) ∙ gone b (wants p Plainly) (λ t. counted c (by_itself p b 0 move)) is
  off_gone b ByClock r is = here (Event.MoveAt b r) ∙ ap (when (nat_le c.last r)) (gone b (wants p ByClock) (λ t. counted (read_at r c) (by_itself p b r move)) is) ∙ off_all (nat_le c.last r)
  off_gone b ByCall r is = here (Event.Issue b r) ∙ ap (when (nat_le c.last r)) (gone b (wants p ByCall) (λ t. counted (read_at r c) (by_itself p b r issue)) is) ∙ off_all (nat_le c.last r)

  pub off_due_gone : (b r : ℕ) → task c b ≡ None → next p c (Event.Due b r) ≡ NotNow
  off_due_gone b r is = here (Event.Due b r) ∙ ap (when (nat_le c.last r)) (gone b (λ t. is_due c r t.wait) (λ t. by_itself p b r due (timed_out t.wait (read_at r c))) is) ∙ off_all (nat_le c.last r)

  pub off_begin_gone : (b : ℕ) → task c b ≡ None → next p c (Event.Begin b) ≡ NotNow
  off_begin_gone b is = here (Event.Begin b) ∙ gone b may_begin (λ t. counted c (begins_by b t t.control)) is

  -- a reading below the last one
  pub off_read : (kind : NextKind) (b r : ℕ) → last_by kind r c.last < c.last → next p c (wanted kind b r) ≡ NotNow
  off_read Plainly b r lt = absurd (omega (arith, lt))
  off_read ByClock b r lt = here (Event.MoveAt b r) ∙ ap (λ y. when y (elim (task c b) [ None ↦ NotNow | Some t ↦ when (wants p ByClock t) (counted (read_at r c) (by_itself p b r move)) ])) (lt-leb c.last r lt)
  off_read ByCall b r lt = here (Event.Issue b r) ∙ ap (λ y. when y (elim (task c b) [ None ↦ NotNow | Some t ↦ when (wants p ByCall t) (counted (read_at r c) (by_itself p b r issue)) ])) (lt-leb c.last r lt)

  pub off_due_read : (b r : ℕ) → r < c.last → next p c (Event.Due b r) ≡ NotNow
  off_due_read b r lt = here (Event.Due b r) ∙ ap (λ y. when y (elim (task c b) [ None ↦ NotNow | Some t ↦ when (is_due c r t.wait) (by_itself p b r due (timed_out t.wait (read_at r c))) ])) (lt-leb c.last r lt)

  -- an answer to a call that isn't open
  off_reply : (n : ℕ) (a : Reply) (y : Call) (d : Config) → ((b : ℕ) (q : Request) (m : ℕ) → y ≡ Open b q m → ⊥) → replied_to p n a y d ≡ NotNow
  off_reply n a (Open b q m) d never = absurd (never b q m refl)
  off_reply n a Answered d never = refl
  off_reply n a TimedOut d never = refl

  pub off_answer : (n r : ℕ) (a : Reply) → ((b : ℕ) (q : Request) (m : ℕ) → call c n ≡ Open b q m → ⊥) → next p c (Event.Answer n r a) ≡ NotNow
  off_answer n r a never = here (Event.Answer n r a) ∙ ap (when (nat_le c.last r)) (off_reply n a (call c n) (read_at r c) never) ∙ off_all (nat_le c.last r)

  pub off_answer_read : (n r : ℕ) (a : Reply) → r < c.last → next p c (Event.Answer n r a) ≡ NotNow
  off_answer_read n r a lt = here (Event.Answer n r a) ∙ ap (λ y. when y (replied_to p n a (call c n) (read_at r c))) (lt-leb c.last r lt)

-- ## All that doesn't come
pub others_never_come : OthersNeverCome
others_never_come p c active = record {
  live = λ b t there. record { step = off_step p c active b t there; due = off_due p c active b t there; begin = off_begin p c active b t there };
  step_gone = off_gone p c active;
  due_gone = off_due_gone p c active;
  begin_gone = off_begin_gone p c active;
  answer = off_answer p c active;
  step_early = off_read p c active;
  due_early = off_due_read p c active;
  answer_early = off_answer_read p c active;
}
