-- Laws of waits: who waits for a call.
use Rattle.std.specs.Prelude.{◌≡◌, ◌≤◌, ℕ, false, IsTrue, List, Some, None, Option, option_map}
use Rattle.wf_ast.specs.Tree.{Program}
use Rattle.wf_model.specs.Config.{Active, Wait, Calling, Task, Open, Config, To, NotNow, task, task_in}
use Rattle.wf_model.specs.Ready.{call, is_awake, least_due, quiet, stands_waiting}
use Rattle.wf_model.specs.Run.{Run, initial}
use Rattle.wf_model.specs.RunLaws.{RisesFrom}
use Rattle.wf_model.specs.Step.{next, Step}
use Rattle.wf_value.specs.Events.{Answer, Event, Reply, Start}
use Rattle.wf_value.specs.HttpRequest.{Request}
use Rattle.wf_value.specs.Pairs.{Text}

-- an open call is one for which its task waits, and a task waits for none but an open call of its own
pub record Awaited (c : Config) : Type 0 where
  pub waited : (k b : ℕ) (q : Request) (d : ℕ) → call c k ≡ Open b q d → (t : Task) × (r : Option Text) × (task c b ≡ Some t) × (t.wait ≡ Calling k r)
  pub stands : (b k : ℕ) (t : Task) (r : Option Text) → task c b ≡ Some t → t.wait ≡ Calling k r → (q : Request) × (d : ℕ) × (call c k ≡ Open b q d)

-- ## By steps
-- a task's wait and its parent
abbrev pub Info : Type 0
Info = Wait × Option (ℕ × ℕ)

abbrev pub info : Task → Info
info t = (t.wait, t.parent)

abbrev pub info_at : Config → ℕ → Option Info
info_at c i = option_map info (task_in c.tasks i)

-- what each step keeps: the numbers of the live tasks rise, calls are awaited, no task is its own parent, and without an outcome task 0
-- lives and has no parent
pub record Sound (c : Config) : Type 0 where
  pub rises : RisesFrom 0 c.made c.tasks
  pub waited : (k i : ℕ) (q : Request) (d : ℕ) → call c k ≡ Open i q d → (r : Option Text) × (p : Option (ℕ × ℕ)) × (info_at c i ≡ Some (Calling k r, p))
  pub stands : (i k : ℕ) (r : Option Text) (p : Option (ℕ × ℕ)) → info_at c i ≡ Some (Calling k r, p) → (q : Request) × (d : ℕ) × (call c k ≡ Open i q d)
  pub parents : (i : ℕ) (w : Wait) (p : ℕ × ℕ) → info_at c i ≡ Some (w, Some p) → p.0 ≡ i → ⊥
  pub root : c.outcome ≡ Active → (w : Wait) × (info_at c 0 ≡ Some (w, None))

abbrev pub SoundAtFirst : Type 0
SoundAtFirst = (p : Program) (s : Start) (c : Config) → initial p s ≡ To c → Sound c

abbrev pub StepsStaySound : Type 0
StepsStaySound = (p : Program) (b c : Config) (e : Event) → Sound b → Step p b e c → Sound c

abbrev pub SoundIsAwaited : Type 0
SoundIsAwaited = (c : Config) → Sound c → Awaited c

-- ## Laws
abbrev pub CallsAreAwaited : Type 0
CallsAreAwaited = (p : Program) (s : Start) (es : List Event) (c : Config) → Run p s es c → Awaited c

-- without an outcome task 0 lives
abbrev pub RootLives : Type 0
RootLives = (p : Program) (s : Start) (es : List Event) (c : Config) → Run p s es c → c.outcome ≡ Active → (t : Task) × (task c 0 ≡ Some t)

-- where a task waits there is a due moment
abbrev pub WaitingHasADue : Type 0
WaitingHasADue = (c : Config) (b : ℕ) (t : Task) → Awaited c → task c b ≡ Some t → is_awake t.wait ≡ false → (d : ℕ) × (least_due c ≡ Some d)

-- an answer to an open call leads somewhere, if it doesn't go wrong, which no accepted program does
abbrev pub AnswersLead : Type 0
AnswersLead = (p : Program) (c : Config) (k b r : ℕ) (q : Request) (d : ℕ) (a : Reply) → Awaited c → c.outcome ≡ Active → call c k ≡ Open b q d → c.last ≤ r → next p c (Answer k r a) ≡ NotNow → ⊥

-- so there is one where nothing can move and a live task stands in no parallel step
abbrev pub QuietHasADue : Type 0
QuietHasADue = (c : Config) (r b : ℕ) (t : Task) → Awaited c → task c b ≡ Some t → stands_waiting t.control ≡ false → IsTrue (quiet c r) → (d : ℕ) × (least_due c ≡ Some d)
