-- Where the events of a live task lead, and which can't come.
--     seen_by, last_by     the reading that a step sees, and the last one behind it
--     behind_step ..       the configuration in which a task goes on
--     StepComes ..         where its events lead
--     NeverComes           which events don't come
use Rattle.std.specs.Prelude.{◌≡◌, ◌≤◌, ◌<◌, ◌⊎◌, ℕ, zero, suc, ◌+◌, true, false, List, None, Some, Option, slice_set}
use Rattle.wf_ast.specs.Tree.{Program}
use Rattle.wf_model.specs.Choose.{wanted}
use Rattle.wf_model.specs.Config.{Active, Answered, Call, Calling, Config, NotNow, Open, Raised, Task, TimedOut, To, Wait, task}
use Rattle.wf_model.specs.Kinds.{ByCall, ByClock, NextKind, Plainly, next_kind}
use Rattle.wf_model.specs.Move.{due as due_move, resumed}
use Rattle.wf_model.specs.Ready.{call, is_due, is_ready, may_begin}
use Rattle.wf_model.specs.Step.{next, same_kind}
use Rattle.wf_model.specs.Taken.{local, merged, scene}
use Rattle.wf_together.specs.Chosen.{step_by}
use Rattle.wf_value.specs.Errors.{error_map}
use Rattle.wf_value.specs.Events.{Event, Reply}
use Rattle.wf_value.specs.HttpRequest.{Request}
use Rattle.wf_value.specs.HttpText.{reply_length, reply_result}
use Rattle.wf_value.specs.Pairs.{Text}
use Rattle.wf_value.specs.declared.Tag.TheVariants.{ResourceLimitError}

-- ## What an event of a task changes beside the tasks
-- the reading that a step sees which wants this kind of event, at this one: 0 where it sees none
abbrev pub seen_by : NextKind → ℕ → ℕ
seen_by Plainly r = 0
seen_by ByClock r = r
seen_by ByCall r = r

-- and the last reading behind it
abbrev pub last_by : NextKind → ℕ → ℕ → ℕ
last_by Plainly r last = last
last_by ByClock r last = r
last_by ByCall r last = r

-- the calls, with this one in the place of call n
abbrev pub closed_in : ℕ → Call → List Call → List Call
closed_in zero y calls = calls
closed_in (suc n) y calls = slice_set calls n y

-- the due moment of a wait has come: a call is closed
abbrev pub passed_in : Wait → List Call → List Call
passed_in (Calling n v) calls = closed_in n TimedOut calls
passed_in w calls = calls

abbrev pub behind_step : NextKind → ℕ → Config → Config
behind_step kind r c = record c { last = last_by kind r c.last; moves = c.moves + 1 }

abbrev pub behind_answer : ℕ → ℕ → ℕ → Config → Config
behind_answer n r bytes c = record c { last = r; bodies = c.bodies + bytes; calls = closed_in n Answered c.calls }

abbrev pub behind_due : Wait → ℕ → Config → Config
behind_due w r c = record c { last = r; calls = passed_in w c.calls }

-- ## Where its events lead
-- without an outcome, this task lives
abbrev pub OfLive : (Program → Config → ℕ → Task → Type 0) → Type 0
OfLive P = (p : Program) (c : Config) → c.outcome ≡ Active → (b : ℕ) (t : Task) → task c b ≡ Some t → P p c b t

-- it is ready and wants this kind of event, at a reading that isn't below the last one: below the limit on counted events its step is
-- carried out
abbrev pub StepComes : Type 0
StepComes = OfLive (λ p c b t. (kind : NextKind) (r : ℕ)
    → is_ready t ≡ true
    → next_kind p t.control ≡ kind
    → c.last ≤ last_by kind r c.last
    → c.moves + 1 < 100000
    → next p c (wanted kind b r)
    ≡ merged b t.parent (step_by kind (scene p (behind_step kind r c) b t (seen_by kind r)) (local (behind_step kind r c) b t)) (behind_step kind r c))

-- and at the limit the execution ends
abbrev pub StepStops : Type 0
StepStops = OfLive (λ p c b t. (kind : NextKind) (r : ℕ)
    → is_ready t ≡ true
    → next_kind p t.control ≡ kind
    → c.last ≤ last_by kind r c.last
    → 100000 ≤ c.moves + 1
    → next p c (wanted kind b r) ≡ To (record (behind_step kind r c) { outcome = Raised (error_map ResourceLimitError) }))

-- it waits for an answer, to a call of its own that is open: within the limit on bodies the answer is given to it
abbrev pub AnswerComes : Type 0
AnswerComes = OfLive (λ p c b t. (n : ℕ) (q : Request) (d m : ℕ) (v : Option Text) (r : ℕ) (a : Reply)
    → call c n ≡ Open b q d
    → t.wait ≡ Calling m v
    → c.last ≤ r
    → c.bodies + reply_length a ≤ 67108864
    → next p c (Event.Answer n r a)
    ≡ merged b t.parent (resumed (scene p (behind_answer n r (reply_length a) c) b t 0) v (reply_result a) (local (behind_answer n r (reply_length a) c) b t))
    (behind_answer n r (reply_length a) c))

-- and past the limit the execution ends
abbrev pub AnswerStops : Type 0
AnswerStops = OfLive (λ p c b t. (n : ℕ) (q : Request) (d m : ℕ) (v : Option Text) (r : ℕ) (a : Reply)
    → call c n ≡ Open b q d
    → t.wait ≡ Calling m v
    → c.last ≤ r
    → 67108864 < c.bodies + reply_length a
    → next p c (Event.Answer n r a) ≡ To (record c { last = r; outcome = Raised (error_map ResourceLimitError) }))

-- what it waits for is due
abbrev pub DueComes : Type 0
DueComes = OfLive (λ p c b t. (r : ℕ)
    → is_due c r t.wait ≡ true
    → c.last ≤ r
    → next p c (Event.Due b r) ≡ merged b t.parent (due_move (scene p (behind_due t.wait r c) b t r) (local (behind_due t.wait r c) b t)) (behind_due t.wait r c))

-- ## Which events don't come
-- of a live task
pub record NeverOf (p : Program) (c : Config) (b : ℕ) (t : Task) : Type 0 where
  -- a step, where it isn't ready or wants another kind of event
  pub step : (kind : NextKind) (r : ℕ) → (is_ready t ≡ false) ⊎ (same_kind kind (next_kind p t.control) ≡ false) → next p c (wanted kind b r) ≡ NotNow
  -- a due moment that isn't there yet
  pub due : (r : ℕ) → is_due c r t.wait ≡ false → next p c (Event.Due b r) ≡ NotNow
  -- the beginning of a branch, where none may begin
  pub begin : may_begin t ≡ false → next p c (Event.Begin b) ≡ NotNow

-- of any
pub record NeverComes (p : Program) (c : Config) : Type 0 where
  pub live : (b : ℕ) (t : Task) → task c b ≡ Some t → NeverOf p c b t
  -- a step, a due moment or a beginning of a task that isn't live
  pub step_gone : (b : ℕ) (kind : NextKind) (r : ℕ) → task c b ≡ None → next p c (wanted kind b r) ≡ NotNow
  pub due_gone : (b r : ℕ) → task c b ≡ None → next p c (Event.Due b r) ≡ NotNow
  pub begin_gone : (b : ℕ) → task c b ≡ None → next p c (Event.Begin b) ≡ NotNow
  -- an answer to a call that isn't open
  pub answer : (n r : ℕ) (a : Reply) → ((b : ℕ) (q : Request) (m : ℕ) → call c n ≡ Open b q m → ⊥) → next p c (Event.Answer n r a) ≡ NotNow
  -- a reading below the last one
  pub step_early : (kind : NextKind) (b r : ℕ) → last_by kind r c.last < c.last → next p c (wanted kind b r) ≡ NotNow
  pub due_early : (b r : ℕ) → r < c.last → next p c (Event.Due b r) ≡ NotNow
  pub answer_early : (n r : ℕ) (a : Reply) → r < c.last → next p c (Event.Answer n r a) ≡ NotNow

abbrev pub OthersNeverCome : Type 0
OthersNeverCome = (p : Program) (c : Config) → c.outcome ≡ Active → NeverComes p c
