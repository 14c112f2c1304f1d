-- What an engine keeps of its session, and what this stands for.
--     Memory      what it keeps
--     StandsFor   the deeds of the session so far, over the records of the file
use Rattle.std.specs.Prelude.{◌≡◌, ◌≢◌, ◌⊎◌, ◌≤◌, ◌&&◌, ◌||◌, ℕ, max, Bool, true, false, IsTrue, is_some, nat_le, if◌then◌else◌, List, ◌∷◌, ◌++◌, length, Option, Some, None, option_map, option_and_then, Ok}
use Rattle.wf_ast.specs.Tree.{Program}
use Rattle.wf_deeds.specs.Deeds.{polls, nows, reading_by, was_started, was_dropped, was_replied, poll_at, Split, Told, nothing_told, tells, told_of, IsAnswered, ComesTo, Visit, Decision, tells_visit, find_visit, undecided, visits_after, once_asked}
use Rattle.wf_host.specs.World.{visit_of}
use Rattle.wf_deeds.specs.Kept.{Command, Session, Kept, StandsFirst, IsOpen, own, last_of, reading_of, Decides}
use Rattle.wf_deeds.specs.Outside.{Outside, Verdict, Arrives, Refuses}
use Rattle.wf_deeds.specs.Rules.{AnswersStand, RepliesAreMade, IsSent, IsBrought}
use Rattle.wf_host.specs.declared.data.Deed.{Deed}
use Rattle.wf_host.specs.declared.data.Heard.{Heard}
use Rattle.wf_host.specs.declared.data.What.{What}
use Rattle.wf_model.specs.Config.{TimedOut, Config, Active}
use Rattle.wf_model.specs.Ready.{call, quiet, request_of}
use Rattle.wf_deeds.specs.At.{journal, config_before}
use Rattle.wf_deeds.specs.History.{Standing, opens}
use Rattle.wf_deeds.specs.Language.{Language}
use Rattle.wf_deeds.specs.Moments.{is_by}
use Rattle.wf_value.specs.Events as plain
use Rattle.wf_value.specs.Events.{Event}

-- a visit that waits for its reply
pub record Owed : Type 0 where
  pub visit : ℕ
  pub verdict : Verdict

pub record Memory : Type 0 where
  pub program : Program
  pub config : Config
  -- the number of the session
  pub session : ℕ
  -- the greatest reading of the clock, in milliseconds since 1970
  pub reading : ℕ
  -- how often it polled, or was handed something
  pub waits : ℕ
  -- of each call by its number: whether it was started and dropped, and what was told of it
  pub started : ℕ → Bool
  pub dropped : ℕ → Bool
  pub told : ℕ → Told
  -- the visits that were heard by their numbers, and how many of them aren't decided
  pub visit : ℕ → Option Visit
  pub undecided : ℕ
  -- what was taken and waits for a turn
  pub taken : Option Event
  -- the visit that waits for its reply
  pub owed : Option Owed

-- nothing that was taken waits for a turn, no visit for its reply, and nothing can move
pub record IsSettled (m : Memory) : Type 0 where
  pub taken : m.taken ≡ None
  pub owed : m.owed ≡ None
  pub still : IsTrue (quiet m.config m.reading) ⊎ (m.config.outcome ≢ Active)

-- every open call is started, and those that timed out are dropped
pub record AllIsSent (m : Memory) : Type 0 where
  pub started : (k : ℕ) → IsOpen m.config k → m.started k ≡ true
  pub dropped : (k : ℕ) → m.started k ≡ true → call m.config k ≡ TimedOut → m.dropped k ≡ true

-- ## What it stands for
-- the session, with these records and these deeds; `handed` tells whether what it heard was handed to it
abbrev pub session : Command → Bool → Memory → List (List ℕ) → List Deed → Session
session command handed m J D = record { payloads = J; number = m.session; deeds = D; command = command; end = None; handed = handed }

-- the records open, and lead to the program and the configuration, and the session may add its next turn
pub record LeadsTo (L : Language) (J : List (List ℕ)) (m : Memory) : Type 0 where
  pub standing : Standing
  pub history : opens L J ≡ Ok standing
  pub program : standing.program ≡ m.program
  pub config : standing.config ≡ m.config
  pub by_now : IsTrue (is_by m.session m.waits standing)
  pub first : 1 ≤ m.session
  pub numbered : m.session ≤ standing.number
  -- they are of the first format, as what is added is
  pub format : standing.two ≡ false

-- a visit without what it asked, once it is decided
abbrev pub forgotten : Visit → Visit
forgotten v = if v.decided then record { number = v.number; told = nothing_told; decided = true } else v

-- what was taken, if anything, is an answer to this call
abbrev pub IsAnswerTo : ℕ → Option Event → Type 0
IsAnswerTo k (Some (plain.Answer j r a)) = j ≡ k
IsAnswerTo k e = ⊥

-- an answer or an arrival
abbrev pub IsOfOutside : Event → Type 0
IsOfOutside (plain.Answer k r a) = Unit {0}
IsOfOutside (plain.Arrive n r v) = Unit {0}
IsOfOutside e = ⊥

-- the last poll decided a visit so, which had no reply since
pub record Owes (L : Language) (O : Outside) (x : Session) (o : Owed) : Type 0 where
  pub split : Split
  pub last : poll_at (polls x.deeds) x.deeds ≡ Some split
  pub decision : Decision
  pub decided : Decides L O x split.before split.what decision o.verdict
  pub visit : decision.visit ≡ o.visit
  pub once : was_replied o.visit split.behind ≡ false

-- The records and the deeds of the session so far keep the rules, and the memory is theirs.
pub record StandsFor (L : Language) (O : Outside) (command : Command) (handed : Bool) (m : Memory) (J : List (List ℕ)) (D : List Deed) : Type 0 where
  pub kept : Kept L O (session command handed m J D)
  pub leads : LeadsTo L J m
  pub waits : m.waits ≡ polls D
  pub reading : m.reading ≡ reading_by (last_of (config_before (journal L J) m.session)) D m.waits
  -- no reading of the execution is greater, and the clock was read where there is no outcome
  pub last : m.config.last ≤ m.reading
  pub clock : m.config.outcome ≡ Active → length (nows D) ≡ 1
  -- the calls of the session
  pub started : (k : ℕ) → m.started k ≡ was_started k D
  pub dropped : (k : ℕ) → m.dropped k ≡ was_dropped k D
  pub issued : (k : ℕ) → m.started k ≡ true → k ≤ length m.config.calls
  -- of those that are open: what was told, which is no answer but for the one that was taken
  pub told : (k : ℕ) → IsOpen m.config k → m.started k ≡ true → m.told k ≡ told_of k D
  pub unanswered : m.config.outcome ≡ Active → (k : ℕ) → IsOpen m.config k → m.started k ≡ true → IsAnswerTo k m.taken ⊎ ComesTo k D None
  -- since the last poll nothing was sent before it was settled
  pub settled : (before behind : List Deed) (d : Deed) → D ≡ before ++ d ∷ behind → IsSent L O (session command handed m J D) d → polls before ≡ polls D → IsSettled m
  -- the visits of the session
  pub visit : (n : ℕ) → m.visit n ≡ option_map forgotten (find_visit n (visits_after O D))
  pub undecided : m.undecided ≡ undecided (visits_after O D)
  -- each answer stands, unless one was taken; what was taken was brought by the last poll, and has its reading
  pub answers : m.taken ≡ None → AnswersStand L O (session command handed m J D)
  pub taken : (e : Event) → m.taken ≡ Some e → IsBrought L O (session command handed m J D) e × IsOfOutside e × (reading_of e ≡ Some m.reading)
  -- each visit that was decided had its reply, unless one waits for it; its arrival, if it is accepted, stands or was taken
  pub replies : m.owed ≡ None → RepliesAreMade L O (session command handed m J D)
  pub owed : (o : Owed) → m.owed ≡ Some o → Owes L O (session command handed m J D) o
  pub arrival : (o : Owed) (n : ℕ) (v : plain.Visitor) → m.owed ≡ Some o → o.verdict ≡ Arrives n v
      → (t : ℕ) × ((m.taken ≡ Some (plain.Arrive n t v)) ⊎ StandsFirst (own L O (session command handed m J D)) (polls D) (plain.Arrive n t v))

-- ## What is heard
-- whether a call is open and was started
abbrev pub awaits : Memory → ℕ → Bool
awaits m k = is_some (request_of m.config k) && m.started k

-- the answer, if any, to which it comes with what is told now
pub record ComesNow (m : Memory) (k : ℕ) (h : Heard) (e : Option Event) : Type 0 where
  pub awaited : awaits m k ≡ true
  pub answer : Option plain.Reply
  pub answered : IsAnswered (tells k h.what (m.told k)) answer
  pub event : e ≡ option_map (plain.Answer k (max m.reading h.reading)) answer

-- the answer that this gives to a call that is open and was started
abbrev pub IsAnswerBy : Memory → ℕ → Heard → Option Event → Type 0
IsAnswerBy m k h e = ((awaits m k ≡ false) × (e ≡ None)) ⊎ ComesNow m k h e

-- the visit that it decides
abbrev pub decision_by : Outside → ℕ → ℕ → What → Option Visit → Option Decision
decision_by O crowd n w None = if nat_le 64 crowd then Some (record { visit = n; crowded = true; told = tells_visit w nothing_told }) else once_asked O n (tells_visit w nothing_told)
decision_by O crowd n w (Some v) = if v.decided then None else once_asked O n (tells_visit w v.told)

abbrev pub decided_by : Outside → Memory → Heard → Option Decision
decided_by O m h = option_and_then (λ n. decision_by O m.undecided n h.what (m.visit n)) (visit_of h.what)

abbrev pub owes_by : Outside → Memory → Option Decision → Option Owed
owes_by O m d = option_map (λ (e : Decision). record { visit = e.visit; verdict = O.verdict m.config e.crowded e.told.bytes e.told.close }) d

abbrev pub arrival_by : Verdict → ℕ → Option Event
arrival_by (Arrives n v) r = Some (plain.Arrive n r v)
arrival_by (Refuses code) r = None

-- what it brings: an answer, or an arrival
abbrev pub Brings : Outside → Memory → Heard → Option Event → Option ℕ → Type 0
Brings O m h e (Some k) = IsAnswerBy m k h e
Brings O m h e None = e ≡ option_and_then (λ (o : Owed). arrival_by o.verdict (max m.reading h.reading)) (owes_by O m (decided_by O m h))

-- the visit of which it tells, from then on
abbrev pub visit_by : What → ℕ → Option Visit → Bool → Visit
visit_by w n None decided = forgotten (record { number = n; told = tells_visit w nothing_told; decided = decided })
visit_by w n (Some v) decided = forgotten (record { number = n; told = tells_visit w v.told; decided = v.decided || decided })
