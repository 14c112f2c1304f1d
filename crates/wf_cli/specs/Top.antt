-- What the top call promises: how a command may end, and a row for each status, in the order in which causes are looked at.
--     Ends          how the call ends, and what it printed
--     Exactly       a status with its cause and its line
use Rattle.std.specs.Prelude.{◌≡◌, ◌≢◌, ◌⊎◌, ◌<◌, ◌≤◌, ℕ, true, false, List, [], ◌∷◌, ◌++◌, Contains, Some, None, Ok, codes, decimal}
use Rattle.std.specs.List.{AllByRecursion}
use Rattle.wf_cli.specs.Reports.{the_reports}
use Rattle.wf_deeds.specs.Deeds.{IsSmall, polls}
use Rattle.wf_host.specs.Printing.{AllPrints, printed}
use Rattle.wf_engine.specs.Printed as end
use Rattle.wf_engine.specs.Printed.{Scene, found_by, uses_source, executes, status_of, outcome_text, accepted_text, uses_journal, tells_history}
pub use Rattle.wf_engine.specs.Printed.{IsLine, IsBadLine, IsBadArgument, IsLineOf, IsRefused, IsChecked, HasOtherMagic, IsStarted, IsNotStarted}
use Rattle.wf_engine.specs.Safe.{IsFit, Since, SafeAt, LateAt}
use Rattle.wf_engine.specs.TheOutside.{InTheOutside}
use Rattle.wf_host.specs.Source.{IsFirst, WhereTold}
use Rattle.wf_host.specs.World.{World, Faults, Told, LeavesOnly, Rose}
use Rattle.wf_host.specs.declared.data.Deed.{Deed}
use Rattle.wf_host.specs.declared.data.Deed.TheVariants.{Print}
use Rattle.wf_journal.specs.Records.{records}
use Rattle.wf_args.specs.Lines.{PlainLine, waits_of}
use Rattle.wf_args.specs.declared.command.Command.TheVariants.{Check, Format, Resume}
use Rattle.wf_model.specs.Config.{Outcome, Active}
use Rattle.wf_deeds.specs.History.{Standing}
use Rattle.wf_deeds.specs.Language.{Language}
use Rattle.wf_replay.specs.TheLanguage.{the_language}
use Rattle.wf_source.specs.Sources.{read_tree}
use Rattle.wf_status.specs.Refusals.{refusal_text}
use Rattle.wf_status.specs.Statuses.{line_end, rank}
use Rattle.wf_status.specs.declared.Refusal.{Refusal}
use Rattle.wf_status.specs.declared.Status.{Status}
use Rattle.wf_status.specs.declared.Status.TheVariants as status
use Rattle.wf_tree.specs.Trees.{Tree}
use Rattle.wf_yaml.specs.Reading.{reading}
use Rattle.wf_yaml_write.specs.Layout.{written}

-- a call of the top function: what it met, the host before and behind it, the counts, and its end
pub record Call : Type 1 where
  pub scene : Scene
  pub old : World
  pub new : World
  pub reads_old : ℕ
  pub reads_new : ℕ
  pub faults_old : Faults
  pub faults_new : Faults
  pub status : Status

-- ## Causes
abbrev pub IsNoHistory : Language → Scene → ℕ → Type 0
IsNoHistory L s n = end.IsNoHistory L the_reports s n

abbrev pub HasOutcome : Language → Scene → List ℕ → Outcome → Type 0
HasOutcome L s image o = end.HasOutcome L the_reports s image o

abbrev pub Reported : Scene → List ℕ → Type 0
Reported s text = end.Reported the_reports s text

abbrev pub TellsHistory : Language → Scene → List ℕ → Type 0
TellsHistory L s text = end.TellsHistory L the_reports s text

abbrev pub IsSuspended : Language → Scene → List ℕ → List Deed → Type 0
IsSuspended L s image D = end.IsSuspended L the_reports s image D

abbrev pub MayPrint : Language → Scene → List ℕ → List Deed → Status → List ℕ → Type 0
MayPrint L s image D st text = end.MayPrint L the_reports s image D st text

-- where the source tells, it isn't refused
abbrev pub IsAccepted : Scene → Type 0
IsAccepted s = WhereTold s.source ((r : Refusal) → ¬ IsRefused s r)

-- neither its argument nor its source is refused
pub record IsTaken (s : Scene) : Type 0 where
  pub argument : ¬ IsBadArgument s
  pub source : IsAccepted s

-- ## Layouts
-- the source has this tree, which is read back from its layout
pub record ComesBack (s : Scene) (t : Tree) : Type 0 where
  pub bytes : List ℕ
  pub first : IsFirst 131073 s.source bytes
  pub tree : read_tree bytes ≡ Ok t
  pub back : reading (written t) ≡ Ok t

-- under `format` the text is the layout of such a tree
abbrev pub ReadsBack : Scene → List ℕ → Type 0
ReadsBack s text = IsLineOf s (λ c. c ≡ Format) → (t : Tree) × ComesBack s t × (text ≡ written t)

-- ## What a command has to say
-- a status that the file decides
abbrev pub IsOfFile : Status → Type 0
IsOfFile st = (st ≡ status.NotAJournal) ⊎ (st ≡ status.AlreadyStarted) ⊎ (st ≡ status.NotStarted) ⊎ ((n : ℕ) × (st ≡ status.NotAHistory n)) ⊎ (st ≡ status.Suspended) ⊎ (st ≡ status.Done) ⊎ (st ≡ status.Raised)

-- the causes of the file that are looked at before this status didn't come
pub record IsPassed (L : Language) (s : Scene) (st : Status) : Type 0 where
  pub magic : rank status.NotAJournal < rank st → ¬ HasOtherMagic s
  pub started : rank status.AlreadyStarted < rank st → ¬ IsStarted s
  pub not_started : rank status.NotStarted < rank st → ¬ IsNotStarted s
  pub history : (n : ℕ) → rank (status.NotAHistory n) < rank st → ¬ IsNoHistory L s n

-- no cause of the file holds
pub record HasNoCauseInFile (L : Language) (s : Scene) : Type 0 where
  pub magic : ¬ HasOtherMagic s
  pub started : ¬ IsStarted s
  pub not_started : ¬ IsNotStarted s
  pub history : (n : ℕ) → ¬ IsNoHistory L s n

-- a status and its text; one that the file decides is told in the language, of the file that the call leaves and of its deeds
pub data HasToSay (s : Scene) (old new : World) : Status → List ℕ → Type 0 where
  bad_line : (n : ℕ) → IsBadLine s n → HasToSay s old new (status.BadLine n) (line_end (codes "bad line at word " ++ decimal n))
  bad_argument : IsBadArgument s → HasToSay s old new status.BadArgument (line_end (codes "bad argument"))
  refused : (r : Refusal) → IsRefused s r → ¬ IsBadArgument s → HasToSay s old new (status.Refused r) (line_end (refusal_text r))
  reported : (text : List ℕ) → Reported s text → ReadsBack s text → HasToSay s old new status.Done text
  of_file : (st : Status) (text : List ℕ) → IsOfFile st → IsLineOf s (λ c. uses_journal c ≡ true) → IsTaken s → Told old (Since old new.deeds (λ D. MayPrint the_language s new.seen D st text) × IsPassed the_language s st) → HasToSay s old new st text

-- what the status tells was read behind the opening's sync
abbrev pub IsBehindSync : Scene → Status → Type 0
IsBehindSync s status.Done = IsLineOf s (λ c. uses_journal c ≡ true)
IsBehindSync s status.Raised = IsLineOf s (λ c. executes c ≡ true)
IsBehindSync s status.AlreadyStarted = Unit {0}
IsBehindSync s status.NotStarted = Unit {0}
IsBehindSync s (status.NotAHistory n) = Unit {0}
IsBehindSync s status.Suspended = Unit {0}
IsBehindSync s st = ⊥

-- ## How the call ends
module _ (x : Call) where
  -- the deeds of this call
  abbrev pub Deeds : (List Deed → Type 0) → Type 0
  Deeds P = (D : List Deed) × (x.new.deeds ≡ x.old.deeds ++ D) × P D

  -- just this was printed
  abbrev pub Prints : List ℕ → Type 0
  Prints text = Told x.old (Deeds (λ D. printed D ≡ text))

  -- a front of the text was printed, and at least one byte of it wasn't
  abbrev pub PrintsSome : List ℕ → Type 0
  PrintsSome text = Told x.old (Deeds (λ D. (b : ℕ) × (rest : List ℕ) × (text ≡ printed D ++ b ∷ rest)))

  -- a print took no byte
  abbrev pub TookNothing : Type 0
  TookNothing = Told x.old (Deeds (λ D. Contains D (Print [])))

  -- The call ends in one of six ways: with a status and its text printed whole; with a text of which some is left, since a print failed or
  -- took nothing; without a source, since a read failed; without the file, since the disk failed; without hearing, since a poll failed; or
  -- without memory.
  pub data Ends : Type 0 where
    said : (text : List ℕ) → HasToSay x.scene x.old x.new x.status text → Prints text → Ends
    cut : (st : Status) (text : List ℕ) → x.status ≡ status.PrintFault → HasToSay x.scene x.old x.new st text → Rose x.faults_old.print x.faults_new.print ⊎ TookNothing → PrintsSome text → Ends
    unread : x.status ≡ status.ReadFault → IsLineOf x.scene (λ c. uses_source c ≡ true) → ¬ IsBadArgument x.scene → Rose x.reads_old x.reads_new → Prints [] → Ends
    failed : x.status ≡ status.DiskFault → IsLineOf x.scene (λ c. uses_journal c ≡ true) → IsTaken x.scene → Rose x.faults_old.disk x.faults_new.disk → Prints [] → Ends
    unheard : x.status ≡ status.PollFault → IsLineOf x.scene (λ c. executes c ≡ true) → IsTaken x.scene → Told x.old (IsPassed the_language x.scene status.PollFault) → Rose x.faults_old.poll x.faults_new.poll → Prints [] → Ends
    no_memory : x.status ≡ status.OutOfMemory → Prints [] → Ends

  -- it is this status, or an earlier cause came, or the text wasn't printed whole, or memory ran out
  abbrev pub IsOrYields : Status → Type 0
  IsOrYields st = (x.status ≡ st) ⊎ (rank x.status < rank st) ⊎ (x.status ≡ status.PrintFault) ⊎ (x.status ≡ status.OutOfMemory)

  -- the status comes exactly where the cause holds, and then this line was printed whole
  pub record Exactly (st : Status) (cause : Type 0) (text : List ℕ) : Type 0 where
    pub comes : x.status ≡ st → cause
    pub only : cause → IsOrYields st
    pub prints : x.status ≡ st → Prints text

  -- ## The rows, in the order of `rank`
  abbrev pub BadLineRow : Type 0
  BadLineRow = (n : ℕ) → Exactly (status.BadLine n) (IsBadLine x.scene n) (line_end (codes "bad line at word " ++ decimal n))

  abbrev pub BadArgumentRow : Type 0
  BadArgumentRow = Exactly status.BadArgument (IsBadArgument x.scene) (line_end (codes "bad argument"))

  abbrev pub ReadFaultRow : Type 0
  ReadFaultRow = x.status ≡ status.ReadFault → Rose x.reads_old x.reads_new

  abbrev pub RefusedRow : Type 0
  RefusedRow = WhereTold x.scene.source ((r : Refusal) → Exactly (status.Refused r) (IsRefused x.scene r) (line_end (refusal_text r)))

  abbrev pub DiskFaultRow : Type 0
  DiskFaultRow = x.status ≡ status.DiskFault → Rose x.faults_old.disk x.faults_new.disk

  abbrev pub PollFaultRow : Type 0
  PollFaultRow = x.status ≡ status.PollFault → Rose x.faults_old.poll x.faults_new.poll

  abbrev pub NotAJournalRow : Type 0
  NotAJournalRow = Exactly status.NotAJournal (HasOtherMagic x.scene) (line_end (codes "not a journal"))

  abbrev pub AlreadyStartedRow : Type 0
  AlreadyStartedRow = Exactly status.AlreadyStarted (IsStarted x.scene) (line_end (codes "already started"))

  abbrev pub NotStartedRow : Type 0
  NotStartedRow = Exactly status.NotStarted (IsNotStarted x.scene) (line_end (codes "not started"))

module _ (L : Language) (x : Call) where
  abbrev pub NotAHistoryRow : Type 0
  NotAHistoryRow = (n : ℕ) → Exactly x (status.NotAHistory n) (IsNoHistory L x.scene n) (line_end (codes "not a history at record " ++ decimal n))

  -- at the end the journal has no outcome, and the call has polled as often as it may
  abbrev pub WaitsNoMore : Type 0
  WaitsNoMore = Deeds x (λ D. IsSuspended L x.scene x.new.seen D)

  abbrev pub SuspendedRow : Type 0
  SuspendedRow = Exactly x status.Suspended WaitsNoMore (line_end (codes "suspended"))

  -- of a command that executes: the outcome that the journal has at the end
  pub record OutcomeRow : Type 0 where
    pub comes : IsLineOf x.scene (λ c. executes c ≡ true) → (x.status ≡ status.Done) ⊎ (x.status ≡ status.Raised)
        → (o : Outcome) × HasOutcome L x.scene x.new.seen o × (status_of o ≡ Some x.status) × Prints x (outcome_text o)
    pub only : (o : Outcome) (st : Status) → status_of o ≡ Some st → HasOutcome L x.scene x.new.seen o → IsOrYields x st

module _ (x : Call) where
  -- of a command that uses no journal: its report
  pub record DoneRow : Type 0 where
    pub comes : IsLineOf x.scene (λ c. uses_journal c ≡ false) → x.status ≡ status.Done → (text : List ℕ) × Reported x.scene text × Prints x text
    pub only : (text : List ℕ) → Reported x.scene text → IsOrYields x status.Done

  -- of `check`: just `accepted`, exactly of a source that is a program which the checker accepts; else the row of refused sources
  pub record AcceptedRow : Type 0 where
    pub comes : IsLineOf x.scene (λ c. c ≡ Check) → x.status ≡ status.Done → IsChecked x.scene × Prints x accepted_text
    pub only : IsChecked x.scene → IsOrYields x status.Done

  -- of `format`: just the layout of the source's tree, which is read back from it
  abbrev pub ComesBackRow : Type 0
  ComesBackRow = IsLineOf x.scene (λ c. c ≡ Format) → x.status ≡ status.Done → (t : Tree) × ComesBack x.scene t × Prints x (written t)

  abbrev pub PrintFaultRow : Type 0
  PrintFaultRow = x.status ≡ status.PrintFault → Rose x.faults_old.print x.faults_new.print ⊎ TookNothing x

module _ (L : Language) (x : Call) where
  -- of a command that tells of a history: what is told of the one that was found
  pub record TellingRow : Type 0 where
    pub comes : IsLineOf x.scene (λ c. tells_history c ≡ true) → x.status ≡ status.Done → (text : List ℕ) × TellsHistory L x.scene text × Prints x text
    pub only : (text : List ℕ) → TellsHistory L x.scene text → IsOrYields x status.Done

-- ## Completeness
module _ (L : Language) (x : Call) where
  -- no status has a cause but Suspended, Done, Raised and OutOfMemory
  pub record HasNoCause : Type 0 where
    -- the words are a line
    pub line : (l : PlainLine) × IsLine x.scene l
    -- no call of the source or of the host failed, and no print took nothing
    pub reads : ¬ Rose x.reads_old x.reads_new
    pub disk : ¬ Rose x.faults_old.disk x.faults_new.disk
    pub polls : ¬ Rose x.faults_old.poll x.faults_new.poll
    pub prints : ¬ Rose x.faults_old.print x.faults_new.print
    pub took : ¬ TookNothing x
    -- `run` has no argument, or one that isn't refused
    pub argument : ¬ IsBadArgument x.scene
    -- the command takes no source, or one that isn't refused
    pub source : (r : Refusal) → ¬ IsRefused x.scene r
    pub file : HasNoCauseInFile L x.scene

  -- then the command does its work, or there is no memory
  pub record Completes : Type 0 where
    -- and it may be suspended, but not where the journal has an outcome at the end
    pub any : HasNoCause → (x.status ≡ status.Done) ⊎ (x.status ≡ status.Raised) ⊎ (x.status ≡ status.Suspended) ⊎ (x.status ≡ status.OutOfMemory)
    pub outcome : HasNoCause → ¬ WaitsNoMore L x → (x.status ≡ status.Done) ⊎ (x.status ≡ status.Raised) ⊎ (x.status ≡ status.OutOfMemory)
    pub report : HasNoCause → IsLineOf x.scene (λ c. executes c ≡ false) → (x.status ≡ status.Done) ⊎ (x.status ≡ status.OutOfMemory)

module _ (x : Call) where
  -- ## What isn't written
  -- a crash leaves what one at entry may, and the file reads as it did
  abbrev pub WritesNothing : Type 0
  WritesNothing = LeavesOnly x.old x.new (λ c d. x.old.may_leave c) × (x.new.seen ≡ x.old.seen)

  -- nothing is written, and nothing but prints is done
  abbrev pub OnlyPrints : Type 0
  OnlyPrints = WritesNothing × Deeds x AllPrints

  -- a command that executes nothing
  abbrev pub ReportsStay : Type 0
  ReportsStay = IsLineOf x.scene (λ c. executes c ≡ false) → OnlyPrints

  pub record SilentStays : Type 0 where
    -- where the words are no line
    pub bad_line : (n : ℕ) → IsBadLine x.scene n → OnlyPrints
    -- where the argument is refused
    pub bad_argument : IsBadArgument x.scene → OnlyPrints
    -- where the source is refused
    pub refused : WhereTold x.scene.source ((r : Refusal) → IsRefused x.scene r → OnlyPrints)
    -- where it couldn't be read: nothing was begun
    pub unread : x.status ≡ status.ReadFault → OnlyPrints

  -- ## How often it polls
  -- never more often than its line says, whatever the status
  pub record PollsWithin : Type 0 where
    -- by any moment
    pub moments : (l : PlainLine) → IsLine x.scene l → LeavesOnly x.old x.new (λ image all. Since x.old all (λ D. polls D ≤ waits_of l))
    -- and at the end
    pub at_end : (l : PlainLine) → IsLine x.scene l → Deeds x (λ D. polls D ≤ waits_of l)

module _ (L : Language) (x : Call) where
  -- a finished journal isn't written, and nothing but prints is done
  abbrev pub FinishedStays : Type 0
  FinishedStays = (s : Standing) → IsLineOf x.scene (λ c. c ≡ Resume) → found_by L Resume (records x.scene.found) ≡ Ok s → s.config.outcome ≢ Active → OnlyPrints x

  -- a journal that is refused isn't written, and nothing but prints and readings of the clock is done
  abbrev pub RefusedStays : Type 0
  RefusedStays = (HasOtherMagic x.scene ⊎ IsStarted x.scene ⊎ IsNotStarted x.scene ⊎ ((n : ℕ) × IsNoHistory L x.scene n))
      → WritesNothing x × Deeds x (λ D. AllByRecursion IsSmall D)

  -- ## Crashes
  -- a crash at any moment leaves a file that is safe with what was done by then
  abbrev pub SafeThroughout : Type 0
  SafeThroughout = IsFit L x.scene.found → InTheOutside (λ O. LeavesOnly x.old x.new (SafeAt L O the_reports x.scene None x.old))

  -- and so does one behind its end
  abbrev pub SafeAtEnd : Type 0
  SafeAtEnd = IsFit L x.scene.found → InTheOutside (λ O. (image : List ℕ) → x.new.may_leave image → SafeAt L O the_reports x.scene (Some x.status) x.old image x.new.deeds)

  -- one of these statuses comes behind the opening's sync, and what is safe then is safe as from then on
  abbrev pub LateAtEnd : Type 0
  LateAtEnd = IsBehindSync x.scene x.status → IsFit L x.scene.found
      → InTheOutside (λ O. (image : List ℕ) → x.new.may_leave image → LateAt L O the_reports x.scene (Some x.status) x.old image x.new.deeds)
