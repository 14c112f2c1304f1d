-- What the code of a command has found out before it prints.
use Rattle.std.specs.Prelude.{◌≡◌, ◌≢◌, ◌⊎◌, ◌≤◌, ℕ, true, false, List, [], ◌∷◌, ◌++◌, length, take, Contains, Option, Some, None, Result, Ok, Err, IfOk, IfErr, OnOk, IsErrOf, String, string_bytes}
use Rattle.std.specs.List.{AllByRecursion}
use Rattle.wf_ast.specs.Tree.{Program}
use Rattle.wf_cli.specs.Reports.{the_reports}
use Rattle.wf_cli.specs.Top.{IsTaken, IsBadArgument, IsLineOf, HasOtherMagic, IsStarted, IsNotStarted, IsNoHistory, IsPassed, HasNoCauseInFile, IsBehindSync, MayPrint, HasToSay}
use Rattle.wf_cli.specs.declared.argument.ArgumentFault.{ArgumentFault}
use Rattle.wf_cli.specs.declared.argument.ArgumentFault.TheVariants as argument
use Rattle.wf_cli.specs.declared.end.Said.{Said}
use Rattle.wf_cli.specs.declared.end.Silence.{Silence}
use Rattle.wf_cli.specs.declared.end.Silence.TheVariants as silence
use Rattle.wf_deeds.specs.Clauses.{AreAdded, KeptAt}
use Rattle.wf_deeds.specs.Deeds.{IsSmall, polls, nows}
use Rattle.wf_deeds.specs.Kept as kept
use Rattle.wf_deeds.specs.Memory.{Memory, StandsFor, session as session_of}
use Rattle.wf_deeds.specs.Outside.{Outside}
use Rattle.wf_deeds.specs.Rules.{MayEnd}
use Rattle.wf_engine.specs.Engine.{memory}
use Rattle.wf_engine.specs.Printed as end
use Rattle.wf_engine.specs.Printed.{Scene, uses_source, uses_journal, executes, status_of, outcome_text, accepted_text}
use Rattle.wf_engine.specs.Safe.{IsFit, Since, SafeAt, LateAt, command_by, session}
use Rattle.wf_engine.specs.Starts.{start_of}
use Rattle.wf_engine.specs.declared.engine.Engine.{Engine}
use Rattle.wf_history.specs.Kinds.{first_record}
use Rattle.wf_events.specs.Spelling.{record_bytes}
use Rattle.wf_host.specs.Source.{Rest, IsFirst}
use Rattle.wf_host.specs.World.{World, Faults, Told, Only, LeavesOnly, Rose}
use Rattle.wf_host.specs.declared.ReadFault.{ReadFault}
use Rattle.wf_host.specs.declared.ReadFault.TheVariants as fault
use Rattle.wf_host.specs.declared.data.Deed.{Deed}
use Rattle.wf_journal.specs.Journal.{IsJournal}
use Rattle.wf_journal.specs.Records.{magic, records}
use Rattle.wf_journal.specs.Steps.{Moment}
use Rattle.wf_args.specs.Lines.{PlainLine, line_of, waits_of}
use Rattle.wf_args.specs.declared.command.Command.{Command}
use Rattle.wf_args.specs.declared.command.Command.TheVariants.{Resume, Log}
use Rattle.wf_args.specs.declared.read.LineFault.{LineFault}
use Rattle.wf_args.specs.declared.read.LineFault.TheVariants as words
use Rattle.wf_machine.specs.Outcome.{IsResult}
use Rattle.wf_model.specs.Config.{Config, Outcome, Active}
use Rattle.wf_host.specs.Printing.{PrintsFront, PrintsWhole, LeavesSome, TookNothing, PrintedSoFar, printed}
use Rattle.wf_deeds.specs.At.{journal, next_session}
use Rattle.wf_deeds.specs.History.{Standing, history, opens}
use Rattle.wf_deeds.specs.Language.{Language}
use Rattle.wf_deeds.specs.HistoryLaws.{IsHistory}
use Rattle.wf_report.specs.Texts.{logged, shown}
use Rattle.std.specs.declared.alloc.Global.{Global}
use Rattle.wf_replay.specs.TheLanguage.{the_language}
use Rattle.wf_replay.specs.declared.engine_fault.EngineFault.TheVariants as engine
use Rattle.wf_replay.specs.declared.engine_fault.EngineFault.{EngineFault}
use Rattle.wf_status.specs.Statuses.{status_code, status_text}
use Rattle.wf_source.specs.Programs.{IsRefusalOf, IsSourceOf}
use Rattle.wf_source.specs.Sources.{read_tree}
use Rattle.wf_source.specs.declared.fault.SourceFault.{SourceFault}
use Rattle.wf_source.specs.declared.fault.SourceFault.TheVariants as source
use Rattle.wf_status.specs.declared.Refusal.{Refusal}
use Rattle.wf_status.specs.declared.Status.{Status}
use Rattle.wf_status.specs.declared.Status.TheVariants as status
use Rattle.wf_tree.specs.Trees.{Tree}
use Rattle.wf_value.specs.declared.json_text.JsonFault.{JsonFault}
use Rattle.wf_value.specs.declared.json_text.JsonFault.TheVariants as json
use Rattle.wf_yaml.specs.Reading.{reading}
use Rattle.wf_yaml_write.specs.Layout.{written}

-- the status and the text of an outcome
pub record SaysOutcome (said : Said) (o : Outcome) : Type 0 where
  pub status : status_of o ≡ Some said.status
  pub text : said.text.items ≡ outcome_text o

-- a status, and the line that it prints
pub record SaysStatus (st : Status) (said : Said) : Type 0 where
  pub status : said.status ≡ st
  pub text : (line : List ℕ) → status_text st ≡ Some line → said.text.items ≡ line

-- a failed read as a cause of silence
abbrev pub silence_of : ReadFault → Silence
silence_of fault.Failed = silence.Unread
silence_of fault.OutOfMemory = silence.OutOfMemory

-- the status of a fault, or want of memory
abbrev pub SaysOrLacks : Status → Result Said Silence → Type 0
SaysOrLacks st (Ok said) = SaysStatus st said
SaysOrLacks st (Err s) = s ≡ silence.OutOfMemory

-- a text of the program, or want of memory
abbrev pub SaysReport : List ℕ → Result Said Silence → Type 0
SaysReport text (Ok said) = (said.status ≡ status.Done) × (said.text.items ≡ text)
SaysReport text (Err s) = s ≡ silence.OutOfMemory

-- what is said of a source that isn't taken
abbrev pub SaysSource : SourceFault → Result Said Silence → Type 0
SaysSource (source.Refused r) said = SaysOrLacks (status.Refused r) said
SaysSource source.OutOfMemory said = said ≡ Err silence.OutOfMemory

-- what is said of a source that is checked: that it is a program which the checker accepts, or why it is refused
abbrev pub SaysVerdict : List ℕ → Said → Type 0
SaysVerdict bytes said = ((p : Program) × IsSourceOf bytes p × (said.status ≡ status.Done) × (said.text.items ≡ accepted_text))
    ⊎ ((r : Refusal) × IsRefusalOf bytes r × SaysStatus (status.Refused r) said)

-- the source was read and checked, or a read failed, or memory ran out
abbrev pub SaysChecked : Rest → ℕ → ℕ → Result Said Silence → Type 0
SaysChecked left reads reads2 (Ok said) = (bytes : List ℕ) × IsFirst 131073 left bytes × SaysVerdict bytes said
SaysChecked left reads reads2 (Err silence.Unread) = Rose reads reads2
SaysChecked left reads reads2 (Err silence.DiskFault) = ⊥
SaysChecked left reads reads2 (Err silence.PollFault) = ⊥
SaysChecked left reads reads2 (Err silence.OutOfMemory) = Unit {0}

-- what is said of a source that is to be laid out: the layout of its tree, from which the tree is read back, or why it is refused
abbrev pub SaysTree : Result Tree Refusal → Said → Type 0
SaysTree (Ok t) said = (said.status ≡ status.Done) × (said.text.items ≡ written t) × (reading (written t) ≡ Ok t)
SaysTree (Err r) said = SaysStatus (status.Refused r) said

-- the source was read and laid out, or a read failed, or memory ran out
abbrev pub SaysLayout : Rest → ℕ → ℕ → Result Said Silence → Type 0
SaysLayout left reads reads2 (Ok said) = (bytes : List ℕ) × IsFirst 131073 left bytes × SaysTree (read_tree bytes) said
SaysLayout left reads reads2 (Err silence.Unread) = Rose reads reads2
SaysLayout left reads reads2 (Err silence.DiskFault) = ⊥
SaysLayout left reads reads2 (Err silence.PollFault) = ⊥
SaysLayout left reads reads2 (Err silence.OutOfMemory) = Unit {0}

-- what is said of words that are no line
abbrev pub SaysBadLine : LineFault → Result Said Silence → Type 0
SaysBadLine (words.BadLine n) r = SaysOrLacks (status.BadLine n) r
SaysBadLine words.OutOfMemory r = r ≡ Err silence.OutOfMemory

-- what is said of an argument that isn't taken
abbrev pub SaysArgument : ArgumentFault → Result Said Silence → Type 0
SaysArgument argument.Bad r = SaysOrLacks status.BadArgument r
SaysArgument argument.OutOfMemory r = r ≡ Err silence.OutOfMemory

-- a fault of reading the argument
abbrev pub argument_fault : JsonFault → ArgumentFault
argument_fault json.OutOfMemory = argument.OutOfMemory
argument_fault e = argument.Bad

-- what is said of a fault of the engine
abbrev pub SaysFault : EngineFault → Result Said Silence → Type 0
SaysFault engine.DiskFault r = r ≡ Err silence.DiskFault
SaysFault engine.PollFault r = r ≡ Err silence.PollFault
SaysFault engine.NotAJournal r = SaysOrLacks status.NotAJournal r
SaysFault (engine.NotAHistory n) r = SaysOrLacks (status.NotAHistory n) r
SaysFault engine.AlreadyStarted r = SaysOrLacks status.AlreadyStarted r
SaysFault engine.NotStarted r = SaysOrLacks status.NotStarted r
SaysFault engine.Suspended r = SaysOrLacks status.Suspended r
SaysFault engine.Closed r = r ≡ Err silence.OutOfMemory
SaysFault engine.OutOfMemory r = r ≡ Err silence.OutOfMemory

-- ## An execution that is opened
-- nothing was written: a crash leaves what one at entry may, and the file reads as it did
abbrev pub Unwritten : World → World → Type 0
Unwritten old new = LeavesOnly old new (λ c d. old.may_leave c) × (new.seen ≡ old.seen)

-- by any moment it has polled at most so often
abbrev pub PolledAtMost : World → World → ℕ → Type 0
PolledAtMost old new most = LeavesOnly old new (λ image all. Since old all (λ D. polls D ≤ most))

-- its deeds have printed nothing
pub record DoneSilently (old new : World) : Type 0 where
  pub done : List Deed
  pub deeds : new.deeds ≡ old.deeds ++ done
  pub silent : printed done ≡ []

-- what a crash at any moment by now may leave is safe
abbrev pub SafeSince : Language → Outside → Scene → World → World → Type 0
SafeSince L O s old new = IsFit L s.found → LeavesOnly old new (SafeAt L O the_reports s None old)

-- what a crash leaves now is safe as it is behind the opening's sync
abbrev pub LateNow : Language → Outside → Scene → World → World → Type 0
LateNow L O s old new = IsFit L s.found → (image : List ℕ) → new.may_leave image → LateAt L O the_reports s None old image new.deeds

-- the command may end now with this status, whatever a crash leaves
abbrev pub MayEndNow : Language → Outside → Scene → World → World → Status → Type 0
MayEndNow L O s old new st = (image : List ℕ) → new.may_leave image → Since old new.deeds (λ D. MayEnd L O (session L O the_reports s None image D) (status_code st))

-- where none was found, the records are the start of the line, of the source that was read and of the clock
abbrev pub HasStartOfLine : Scene → List Deed → List (List ℕ) → Type 0
HasStartOfLine s done J = records s.found ≡ [] → (l : PlainLine) × (bytes : List ℕ) × end.Reads s l bytes
    × ((t : ℕ) × Contains (nows done) t × (J ≡ record_bytes (first_record (start_of l bytes t)) ∷ []))

-- an engine that stands for what was found, and for the start of the line where it was begun
pub record IsOpened (L : Language) (O : Outside) (command : kept.Command) (s : Scene) (done : List Deed) (new : World) (e : Engine) : Type 0 where
  pub stands : StandsFor L O command false (memory e) (records new.seen) done
  pub unpolled : polls done ≡ 0
  pub number : (memory e).session ≡ next_session (journal L (records s.found))
  pub added : List (List ℕ)
  pub keeps : records new.seen ≡ records s.found ++ added
  pub own : AreAdded L (records s.found) (memory e).session added
  pub start : HasStartOfLine s done (records new.seen)
  pub is_of : command_by (line_of s.words) ≡ command
  pub causes : HasNoCauseInFile L s

-- why a file isn't opened
abbrev pub FaultHolds : Language → Scene → EngineFault → Type 0
FaultHolds L s engine.DiskFault = Unit {0}
FaultHolds L s engine.PollFault = ⊥
FaultHolds L s engine.NotAJournal = HasOtherMagic s × IsPassed L s status.NotAJournal
FaultHolds L s (engine.NotAHistory n) = IsNoHistory L s n × IsPassed L s (status.NotAHistory n)
FaultHolds L s engine.AlreadyStarted = IsStarted s × IsPassed L s status.AlreadyStarted
FaultHolds L s engine.NotStarted = IsNotStarted s × IsPassed L s status.NotStarted
FaultHolds L s engine.Suspended = ⊥
FaultHolds L s engine.Closed = Unit {0}
FaultHolds L s engine.OutOfMemory = Unit {0}

-- the opening of a file, where the host tells
pub record Opening (O : Outside) (command : kept.Command) (s : Scene) (old new : World) (r : Result Engine EngineFault) : Type 0 where
  pub silently : DoneSilently old new
  pub safe : SafeSince the_language O s old new
  -- by any moment, and now, nothing was sent or awaited
  pub small : LeavesOnly old new (λ image all. Since old all (λ D. AllByRecursion IsSmall D))
  pub small_now : AllByRecursion IsSmall silently.done
  pub opened : IfOk r (IsOpened the_language O command s silently.done new)
  pub fault : IfErr r (FaultHolds the_language s)
  pub late : IfErr r (λ f. (f ≡ engine.AlreadyStarted) ⊎ (f ≡ engine.NotStarted) → LateNow the_language O s old new)
  -- what is refused or only gone on with isn't written by this
  pub refused : HasOtherMagic s ⊎ IsStarted s ⊎ IsNotStarted s ⊎ ((n : ℕ) × IsNoHistory the_language s n) → Unwritten old new
  pub resumed : command ≡ kept.Resume → Unwritten old new
  pub finished : (st : Standing) → IsLineOf s (λ c. c ≡ Resume) → end.found_by the_language Resume (records s.found) ≡ Ok st → st.config.outcome ≢ Active → new.deeds ≡ old.deeds

-- ## Telling of a history
-- the text of a history that leads to this configuration, under `show` and `log`
abbrev pub text_by : Command → Option (List ℕ) → Config → List ℕ
text_by Log grep c = logged grep c.log
text_by k grep c = shown c

-- what is said of a history that was read, or why nothing is told of it
abbrev pub SaysTelling : Result (String Global) EngineFault → Result Said Silence → Type 0
SaysTelling (Ok text) r = SaysReport (string_bytes text) r
SaysTelling (Err f) r = SaysFault f r

-- a text of a line that tells of a history, where these are the records that are found
abbrev pub IsToldOf : PlainLine → List (List ℕ) → List ℕ → Type 0
IsToldOf l J text = (s : Scene) → end.IsLine s l → records s.found ≡ J → end.TellsHistory the_language the_reports s text

-- A journal was read for a report, where the host tells: the text, or why there is none. Nothing else was done.
pub record ReadsJournal (l : PlainLine) (old new : World) (r : Result (String Global) EngineFault) : Type 0 where
  pub told : IfOk r (λ text. IsToldOf l (records old.seen) (string_bytes text))
  pub begins : OnOk r (take 4 old.seen ≡ magic)
  pub is_history : OnOk r (IsHistory the_language (records old.seen))
  pub not_a_journal : IsErrOf r engine.NotAJournal → (5 ≤ length old.seen) × (take 4 old.seen ≢ magic)
  pub not_started : IsErrOf r engine.NotStarted → (records old.seen ≡ []) × IsJournal old.seen
  pub not_a_history : IfErr r (λ e. (n : ℕ) → e ≡ engine.NotAHistory n → (history the_language (records old.seen) ≡ Err n) × (records old.seen ≢ []) × (take 4 old.seen ≡ magic))
  pub settled : OnOk r (Only new.seen new.may_leave)
  pub settled_empty : IsErrOf r engine.NotStarted → Only new.seen new.may_leave
  pub seen : new.seen ≡ old.seen
  pub any_moment : LeavesOnly old new (λ c d. old.may_leave c × (d ≡ old.deeds))
  pub deeds : new.deeds ≡ old.deeds

-- ## Going on to the outcome
-- an outcome is said, or that there is none yet, or the disk failed, or there was no memory
abbrev pub SaysResult : Faults → Faults → Result Said Silence → Type 0
SaysResult faults faults2 (Ok said) = ((o : Outcome) × IsResult o × SaysOutcome said o) ⊎ SaysStatus status.Suspended said
SaysResult faults faults2 (Err silence.Unread) = ⊥
SaysResult faults faults2 (Err silence.DiskFault) = Rose faults.disk faults2.disk
SaysResult faults faults2 (Err silence.PollFault) = Rose faults.poll faults2.poll
SaysResult faults faults2 (Err silence.OutOfMemory) = Unit {0}

-- an outcome is said, or there is none, and the command waits no more: it polled as often as it may
abbrev pub SaysStanding : ℕ → Said → Outcome → List Deed → Type 0
SaysStanding waits said o done = SaysOutcome said o ⊎ ((o ≡ Active) × (polls done ≡ waits) × SaysStatus status.Suspended said)

-- what is said is what the history of the file comes to, and a crash leaves just this
pub record SaysHistory (L : Language) (waits : ℕ) (new : World) (done : List Deed) (said : Said) : Type 0 where
  pub standing : Standing
  pub history : opens L (records new.seen) ≡ Ok standing
  pub says : SaysStanding waits said standing.config.outcome done
  pub settled : Only new.seen new.may_leave

-- an execution that goes on to its outcome, and by any moment has polled at most so often, where the host tells
pub record Going (L : Language) (O : Outside) (command : kept.Command) (m : Memory) (waits : ℕ) (D : List Deed) (old new : World) (r : Result Said Silence) : Type 0 where
  pub moments : LeavesOnly old new (Moment old (KeptAt L O command false m waits (records old.seen) D))
  pub silently : DoneSilently old new
  pub said : IfOk r (SaysHistory L waits new silently.done)
  pub ends : IfOk r (λ said. MayEnd L O (session_of command false m (records new.seen) (D ++ silently.done)) (status_code said.status))
  pub finished : m.config.outcome ≢ Active → Unwritten old new × (new.deeds ≡ old.deeds)

-- ## What a command has done before it prints
-- a text with its cause, or why there is none
abbrev pub IsEnd : Scene → World → World → ℕ → ℕ → Faults → Faults → Result Said Silence → Type 0
IsEnd s old new reads reads2 faults faults2 (Ok said) = HasToSay s old new said.status said.text.items
IsEnd s old new reads reads2 faults faults2 (Err silence.Unread) = IsLineOf s (λ c. uses_source c ≡ true) × ¬ IsBadArgument s × Rose reads reads2
IsEnd s old new reads reads2 faults faults2 (Err silence.DiskFault) = IsLineOf s (λ c. uses_journal c ≡ true) × IsTaken s × Rose faults.disk faults2.disk
IsEnd s old new reads reads2 faults faults2 (Err silence.PollFault) = IsLineOf s (λ c. executes c ≡ true) × IsTaken s × Told old (IsPassed the_language s status.PollFault) × Rose faults.poll faults2.poll
IsEnd s old new reads reads2 faults faults2 (Err silence.OutOfMemory) = Unit {0}

-- the line executes, and neither its argument nor its source is refused
abbrev pub MayWrite : Scene → Type 0
MayWrite s = IsLineOf s (λ c. executes c ≡ true) × IsTaken s

-- The work of a command, where the host tells: what a crash by then may leave is safe, the text is given for each file that one may leave now,
-- the command may end with the status, and where nothing is to be written nothing was, nor done.
pub record Worked (O : Outside) (s : Scene) (old new : World) (r : Result Said Silence) : Type 0 where
  pub silently : DoneSilently old new
  pub safe : SafeSince the_language O s old new
  pub gives : IfOk r (λ said. (image : List ℕ) → new.may_leave image → MayPrint the_language s image silently.done said.status said.text.items)
  pub ends : IfOk r (λ said. MayEndNow the_language O s old new said.status)
  pub late : IfOk r (λ said. IsBehindSync s said.status → LateNow the_language O s old new)
  pub finished : (st : Standing) → IsLineOf s (λ c. c ≡ Resume) → end.found_by the_language Resume (records s.found) ≡ Ok st → st.config.outcome ≢ Active → Unwritten old new × (new.deeds ≡ old.deeds)
  pub refused : HasOtherMagic s ⊎ IsStarted s ⊎ IsNotStarted s ⊎ ((n : ℕ) × IsNoHistory the_language s n) → Unwritten old new × AllByRecursion IsSmall silently.done
  pub writes : Unwritten old new ⊎ MayWrite s
  pub idle : ¬ MayWrite s → new.deeds ≡ old.deeds
  pub unread : IsErrOf r silence.Unread → Unwritten old new × (new.deeds ≡ old.deeds)
  pub polled : (l : PlainLine) → end.IsLine s l → PolledAtMost old new (waits_of l)

-- ## Printing
-- what is printed of it
abbrev pub text_of : Result Said Silence → List ℕ
text_of (Ok said) = said.text.items
text_of (Err s) = []

-- the status of a silence
abbrev pub silent_status : Silence → Status
silent_status silence.Unread = status.ReadFault
silent_status silence.DiskFault = status.DiskFault
silent_status silence.PollFault = status.PollFault
silent_status silence.OutOfMemory = status.OutOfMemory

-- the text was printed whole, or some of it is left, or nothing was done
abbrev pub PrintsSaid : Result Said Silence → World → World → Faults → Faults → Status → Type 0
PrintsSaid (Ok said) old new faults faults2 st = ((st ≡ said.status) × Told old (PrintsWhole old new said.text.items))
    ⊎ ((st ≡ status.PrintFault) × (Rose faults.print faults2.print ⊎ Told old (TookNothing old new)) × Told old (LeavesSome old new said.text.items))
PrintsSaid (Err s) old new faults faults2 st = (st ≡ silent_status s) × Told old (new.deeds ≡ old.deeds)

-- a front of the text was printed and nothing else done, at each moment and at the end
pub record Printing (text : List ℕ) (old new : World) : Type 0 where
  pub printed : PrintsFront old new text
  pub moments : LeavesOnly old new (PrintedSoFar old text)
  pub seen : new.seen ≡ old.seen
