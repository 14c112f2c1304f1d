-- An execution that has gone on to its outcome, or to where it waits no more.
use Rattle.std.proofs.Common.{◌≡◌, ◌≢◌, ◌⊎◌, inl, inr, IsTrue, ℕ, Bool, true, false, List, ◌++◌, Some, None, Result, Ok, Err, IfOk, refl, sym, ◌∙◌, ap, subst, arith}
use Rattle.std.proofs.lemmas.List.{append_cancel_left}
use Rattle.wf_lemmas.proofs.Options.{same_some}
use Rattle.wf_cli.proofs.Safe.{of_command}
use Rattle.wf_cli.specs.Said.{SaysFault, SaysOutcome, SaysStatus, SaysStanding, DoneSilently, Unwritten, SaysHistory, Going}
use Rattle.wf_cli.specs.declared.end.Said.{Said}
use Rattle.wf_cli.specs.declared.end.Silence.{Silence}
use Rattle.wf_cli.specs.declared.end.Silence.TheVariants as silence
use Rattle.wf_deeds.specs.Clauses.{KeptAt, HowItEnds, ended, paused, Sessions}
use Rattle.wf_deeds.specs.Deeds.{polls}
use Rattle.wf_deeds.specs.Kept as kept
use Rattle.wf_deeds.specs.Memory.{Memory, IsSettled, StandsFor, session}
use Rattle.wf_deeds.specs.Outside.{Outside}
use Rattle.wf_deeds.specs.Rules.{MayEnd}
use Rattle.wf_deeds.specs.Steps.{EndIsKept}
use Rattle.wf_engine.specs.Engine.{Holds}
use Rattle.wf_engine.specs.Printed.{status_of}
use Rattle.wf_engine.specs.declared.engine.Engine.{Engine}
use Rattle.wf_host.specs.Moments.{CountsNow}
use Rattle.wf_host.specs.World.{World, LeavesOnly, Only}
use Rattle.wf_host.specs.declared.data.Deed.{Deed}
use Rattle.wf_journal.specs.Records.{records}
use Rattle.wf_journal.specs.Steps.{Moment}
use Rattle.wf_model.specs.Config.{Outcome, Active, Returned, Raised, Cancelled}
use Rattle.wf_model.specs.Ready.{quiet}
use Rattle.wf_deeds.specs.Language.{Language}
use Rattle.wf_replay.specs.declared.engine_fault.EngineFault.TheVariants as engine
use Rattle.wf_replay.specs.declared.engine_fault.EngineFault.{EngineFault}
use Rattle.wf_status.specs.Statuses.{status_code}
use Rattle.wf_status.specs.declared.Status.{Status}
use Rattle.wf_status.specs.declared.Status.TheVariants as status

pub settled : (e : Engine) (w : World) → Holds e w → Only w.seen w.may_leave
settled e w holds = holds.0.journal.settled

-- ## Ends
-- where nothing that was taken or decided waits, and nothing can move where it is suspended, the command may end
may_end : EndIsKept → (L : Language) (O : Outside) (command : kept.Command) (n : Memory) (J : List (List ℕ)) (D : List Deed) (code : ℕ) → StandsFor L O command false n J D → IsSettled n → (code ≡ 13 → IsTrue (quiet n.config n.reading)) → MayEnd L O (session command false n J D) code
may_end law L O command n J D code stands rests still = (
  λ which. (stands.answers rests.taken, stands.replies rests.owed),
  λ is. (law L O command false n J D 13 stands (λ _. (rests.taken, rests.owed)) (λ _. still is)).waits.at_end refl,
)

-- an outcome has no status of a suspended command
outcome_code : (o : Outcome) (st : Status) → status_of o ≡ Some st → status_code st ≡ 13 → ⊥
outcome_code Active st is code = let no : None ≡ Some st = is in cc no
outcome_code (Returned v) st is code = let same = ap status_code (same_some (Some status.Done) status.Done st refl is) in omega (arith, same, code)
outcome_code (Raised e) st is code = let same = ap status_code (same_some (Some status.Raised) status.Raised st refl is) in omega (arith, same, code)
outcome_code Cancelled st is code = let no : None ≡ Some st = is in cc no

-- how a suspended session ends
pub record Paused (bound : ℕ) (n : Memory) (done : List Deed) : Type 0 where
  pub active : n.config.outcome ≡ Active
  pub polls : polls done ≡ bound
  pub still : IsTrue (quiet n.config n.reading)

paused_of : (suspended : Bool) (bound : ℕ) (n : Memory) (done : List Deed) → suspended ≡ true → HowItEnds suspended bound n done → Paused bound n done
paused_of _ bound n done is (ended over few) = absurd (let no : false ≡ true = is in cc no)
paused_of _ bound n done is (paused active equal still) = record { active = active; polls = equal; still = still }

-- ## What a session comes to
-- what is said, and that the command may end so
abbrev pub SaysEnd : Language → Outside → kept.Command → Memory → ℕ → List Deed → World → List Deed → Said → Type 0
SaysEnd L O command m waits D new done it = SaysHistory L waits new done it × MayEnd L O (session command false m (records new.seen) (D ++ done)) (status_code it.status)

-- at the last moment of a call nothing was printed
silently_of : (L : Language) (O : Outside) (command : kept.Command) (m : Memory) (waits : ℕ) (D : List Deed) (old new : World) → LeavesOnly old new (Moment old (KeptAt L O command false m waits (records old.seen) D)) → CountsNow new → new.may_leave new.seen → DoneSilently old new
silently_of L O command m waits D old new moments counts reads =
    let last = moments.each new.seen new.deeds (counts old.moment new.seen moments.later reads) in
    record { done = last.0; deeds = last.1; silent = last.3.silent }

module _ (L : Language) (O : Outside) (command : kept.Command) (m n : Memory) (waits : ℕ) (D : List Deed) (old new : World) where
  says_of : EndIsKept → (it : Said) (done : List Deed) → StandsFor L O command false n (records new.seen) (D ++ done) → IsSettled n → n.session ≡ m.session → Only new.seen new.may_leave → SaysStanding waits it n.config.outcome done
      → (status_code it.status ≡ 13 → IsTrue (quiet n.config n.reading)) → SaysEnd L O command m waits D new done it
  says_of law it done stands rests same only says still = (
    record {
      standing = stands.leads.standing;
      history = stands.leads.history;
      says = subst (λ o. SaysStanding waits it o done) (sym (ap (λ c. c.outcome) stands.leads.config)) says;
      settled = only;
    },
    subst (λ k. MayEnd L O (of_command (records new.seen) k (D ++ done) command None) (status_code it.status)) same (may_end law L O command n (records new.seen) (D ++ done) (status_code it.status) stands rests still),
  )

  -- the deeds of the session are those that were done
  same_done : (suspended : Bool) (ss : Sessions L O suspended waits m n old new) (silently : DoneSilently old new) → ss.done ≡ silently.done
  same_done suspended ss silently = append_cancel_left old.deeds ss.done silently.done (sym ss.went.deeds ∙ silently.deeds)

  -- an outcome
  pub says_outcome : EndIsKept → Sessions L O false waits m n old new → n.session ≡ m.session → Only new.seen new.may_leave → StandsFor L O command false m (records old.seen) D → (o : Outcome) → o ≡ n.config.outcome → (r : Result Said Silence) → IfOk r (λ it. SaysOutcome it o)
      → (silently : DoneSilently old new) → IfOk r (SaysEnd L O command m waits D new silently.done)
  says_outcome law ss same only stands o is (Ok it) says silently =
      let there = subst (λ E. StandsFor L O command false n (records new.seen) (D ++ E)) (same_done false ss silently) (ss.went.stands command false D stands) in
      says_of law it silently.done there ss.settled same only (inl (subst (SaysOutcome it) is says)) (λ code. absurd (outcome_code o it.status says.status code))
  says_outcome law ss same only stands o is (Err e) says silently = tt

  -- none yet
  says_suspended : EndIsKept → Sessions L O true waits m n old new → n.session ≡ m.session → Only new.seen new.may_leave → StandsFor L O command false m (records old.seen) D → (it : Said) → SaysStatus status.Suspended it
      → (silently : DoneSilently old new) → SaysEnd L O command m waits D new silently.done it
  says_suspended law ss same only stands it says silently =
      let rest = paused_of true waits n ss.done refl ss.ends in
      let done = same_done true ss silently in
      let there = subst (λ E. StandsFor L O command false n (records new.seen) (D ++ E)) done (ss.went.stands command false D stands) in
      says_of law it silently.done there ss.settled same only (inr (rest.active, sym (ap polls done) ∙ rest.polls, says)) (λ code. rest.still)

-- ## Going on
both_said : (r : Result Said Silence) (P Q : Said → Type 0) → IfOk r (λ it. P it × Q it) → IfOk r P × IfOk r Q
both_said (Ok it) P Q both = both
both_said (Err e) P Q both = (tt, tt)

pub going : (L : Language) (O : Outside) (command : kept.Command) (m : Memory) (waits : ℕ) (D : List Deed) (old new : World) (r : Result Said Silence) → LeavesOnly old new (Moment old (KeptAt L O command false m waits (records old.seen) D)) → CountsNow new → new.may_leave new.seen
    → (m.config.outcome ≢ Active → Unwritten old new × (new.deeds ≡ old.deeds)) → ((silently : DoneSilently old new) → IfOk r (SaysEnd L O command m waits D new silently.done)) → Going L O command m waits D old new r
going L O command m waits D old new r moments counts reads finished says =
    let silently = silently_of L O command m waits D old new moments counts reads in
    let both = both_said r _ _ (says silently) in
    record { moments = moments; silently = silently; said = both.0; ends = both.1; finished = finished }

-- ## Faults
abbrev pub IsOfSession : EngineFault → Type 0
IsOfSession f = (f ≡ engine.DiskFault) ⊎ (f ≡ engine.PollFault) ⊎ (f ≡ engine.Suspended) ⊎ (f ≡ engine.Closed) ⊎ (f ≡ engine.OutOfMemory)

-- of these just one says something
said_of_fault : (f : EngineFault) (it : Said) → IsOfSession f → SaysFault f (Ok it) → (f ≡ engine.Suspended) × SaysStatus status.Suspended it
said_of_fault f it (inl is) says = absurd (let no : Ok it ≡ Err silence.DiskFault = subst (λ x. SaysFault x (Ok it)) is says in cc no)
said_of_fault f it (inr (inl is)) says = absurd (let no : Ok it ≡ Err silence.PollFault = subst (λ x. SaysFault x (Ok it)) is says in cc no)
said_of_fault f it (inr (inr (inl is))) says = (is, subst (λ x. SaysFault x (Ok it)) is says)
said_of_fault f it (inr (inr (inr (inl is)))) says = absurd (let no : Ok it ≡ Err silence.OutOfMemory = subst (λ x. SaysFault x (Ok it)) is says in cc no)
said_of_fault f it (inr (inr (inr (inr is)))) says = absurd (let no : Ok it ≡ Err silence.OutOfMemory = subst (λ x. SaysFault x (Ok it)) is says in cc no)

pub fault_said : (L : Language) (O : Outside) (command : kept.Command) (m n : Memory) (waits : ℕ) (D : List Deed) (old new : World) (f : EngineFault) (r : Result Said Silence) → EndIsKept → IsOfSession f → SaysFault f r
    → (f ≡ engine.Suspended → Sessions L O true waits m n old new) → n.session ≡ m.session → (f ≡ engine.Suspended → Only new.seen new.may_leave) → StandsFor L O command false m (records old.seen) D
    → (silently : DoneSilently old new) → IfOk r (SaysEnd L O command m waits D new silently.done)
fault_said L O command m n waits D old new f (Ok it) law is says ss same only stands silently =
    let that = said_of_fault f it is says in says_suspended L O command m n waits D old new law (ss that.0) same (only that.0) stands it that.1 silently
fault_said L O command m n waits D old new f (Err e) law is says ss same only stands silently = tt
