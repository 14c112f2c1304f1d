-- The statuses that print a text, each with its cause.
--     Scene     what a command meets
--     found_by  where the records lead that a command finds
--     MayPrint  a status whose cause holds, with its text, for the image and the deeds of a moment
use Rattle.std.specs.Prelude.{◌≡◌, ◌≢◌, ◌≤◌, ℕ, Bool, true, false, List, [], ◌++◌, length, take, Option, Some, None, Result, Ok, Err, codes, decimal}
use Rattle.wf_ast.specs.Tree.{Program}
use Rattle.wf_deeds.specs.Deeds.{polls}
use Rattle.wf_host.specs.Source.{Rest, IsFirst}
use Rattle.wf_host.specs.declared.data.Deed.{Deed}
use Rattle.wf_journal.specs.Records.{magic, records}
use Rattle.wf_args.specs.Lines.{PlainLine, line_of, turn_of, waits_of, word_of}
use Rattle.wf_args.specs.declared.command.Command.{Command}
use Rattle.wf_args.specs.declared.command.Command.TheVariants.{Check, Format, Run, Resume, Show, At, Log, Help, Version}
use Rattle.wf_args.specs.declared.option.OptionName.TheVariants.{Grep}
use Rattle.wf_model.specs.Config.{Config, Outcome, Active, Returned, Raised, Cancelled}
use Rattle.wf_engine.specs.Starts.{HasArgument}
use Rattle.wf_deeds.specs.History.{Standing, front_of, opens, plays}
use Rattle.wf_deeds.specs.Language.{Language}
use Rattle.wf_source.specs.Programs.{IsRefusalOf, IsSourceOf}
use Rattle.wf_source.specs.Sources.{read_tree}
use Rattle.wf_status.specs.Refusals.{refusal_text}
use Rattle.wf_status.specs.Statuses.{line_end}
use Rattle.wf_status.specs.declared.Refusal.{Refusal}
use Rattle.wf_status.specs.declared.Status.{Status}
use Rattle.wf_status.specs.declared.Status.TheVariants as status
use Rattle.wf_value.specs.Json.{json_text}

-- what a command meets: its words, what its source has left, and the file that it finds
pub record Scene : Type 0 where
  pub words : List (List ℕ)
  pub source : Rest
  pub found : List ℕ

-- what is told of trees, of executions and of the program by other parts
pub record Reports : Type 0 where
  -- the tree of a source in one layout, where it has one
  pub formatted : List ℕ → Option (List ℕ)
  -- what an execution has come to, and what it has logged, all or what holds a text
  pub shown : Config → List ℕ
  pub logged : Option (List ℕ) → Config → List ℕ
  pub help : List ℕ
  pub version : List ℕ

-- ## What a command uses
abbrev pub uses_source : Command → Bool
uses_source Check = true
uses_source Format = true
uses_source Run = true
uses_source c = false

abbrev pub uses_journal : Command → Bool
uses_journal Run = true
uses_journal Resume = true
uses_journal Show = true
uses_journal At = true
uses_journal Log = true
uses_journal c = false

-- it tells of the history that it finds
abbrev pub tells_history : Command → Bool
tells_history Show = true
tells_history At = true
tells_history Log = true
tells_history c = false

-- it finds a history, and goes on with it or tells of it
abbrev pub needs_history : Command → Bool
needs_history Resume = true
needs_history c = tells_history c

-- it goes on to an outcome
abbrev pub executes : Command → Bool
executes Run = true
executes Resume = true
executes c = false

-- this refusal of a source that the command doesn't take speaks first: `format` takes what has a tree, and `check` and
-- `run` what is a program that the checker accepts
abbrev pub refuses : Command → List ℕ → Refusal → Type 0
refuses Check bytes r = IsRefusalOf bytes r
refuses Format bytes r = read_tree bytes ≡ Err r
refuses Run bytes r = IsRefusalOf bytes r
refuses c bytes r = ⊥

-- ## Outcomes
-- the status of an outcome, and the line that is printed of it
abbrev pub status_of : Outcome → Option Status
status_of Active = None
status_of (Returned v) = Some status.Done
status_of (Raised e) = Some status.Raised
status_of Cancelled = None

abbrev pub outcome_text : Outcome → List ℕ
outcome_text Active = []
outcome_text (Returned v) = line_end (json_text v)
outcome_text (Raised e) = line_end (json_text e)
outcome_text Cancelled = []

-- ## Causes
module _ (s : Scene) where
  abbrev pub IsLine : PlainLine → Type 0
  IsLine l = line_of s.words ≡ Ok l

  abbrev pub IsBadLine : ℕ → Type 0
  IsBadLine n = line_of s.words ≡ Err n

  -- the word of `--args` says no value, or one past its limit
  abbrev pub IsBadArgument : Type 0
  IsBadArgument = (l : PlainLine) × IsLine l × (l.command ≡ Run) × ¬ HasArgument l

  -- the source, read to its end or to 131,073 bytes
  abbrev pub Reads : PlainLine → List ℕ → Type 0
  Reads l bytes = IsLine l × (uses_source l.command ≡ true) × IsFirst 131073 s.source bytes

  abbrev pub IsRefused : Refusal → Type 0
  IsRefused r = (l : PlainLine) × (bytes : List ℕ) × Reads l bytes × refuses l.command bytes r

  -- a line that goes on with a journal, or begins one
  abbrev pub IsLineOf : (Command → Type 0) → Type 0
  IsLineOf P = (l : PlainLine) × IsLine l × P l.command

  -- the line is `check`, and its source a program that the checker accepts
  abbrev pub IsChecked : Type 0
  IsChecked = (l : PlainLine) × (bytes : List ℕ) × (p : Program) × Reads l bytes × (l.command ≡ Check) × IsSourceOf bytes p

  abbrev pub HasOtherMagic : Type 0
  HasOtherMagic = IsLineOf (λ c. uses_journal c ≡ true) × (5 ≤ length s.found) × (take 4 s.found ≢ magic)

  abbrev pub IsStarted : Type 0
  IsStarted = IsLineOf (λ c. c ≡ Run) × (records s.found ≢ [])

  abbrev pub IsNotStarted : Type 0
  IsNotStarted = IsLineOf (λ c. needs_history c ≡ true) × (records s.found ≡ [])

-- the line that `check` prints of such a source
abbrev pub accepted_text : List ℕ
accepted_text = line_end (codes "accepted")

-- what a command prints that uses no journal
pub data Reported (R : Reports) (s : Scene) : List ℕ → Type 0 where
  accepted : IsChecked s → Reported R s accepted_text
  formatted : (l : PlainLine) (bytes text : List ℕ) → Reads s l bytes → l.command ≡ Format → R.formatted bytes ≡ Some text → Reported R s text
  helped : IsLineOf s (λ c. c ≡ Help) → Reported R s R.help
  versioned : IsLineOf s (λ c. c ≡ Version) → Reported R s R.version

-- the command has polled as often as its line says
abbrev pub HasPolled : Scene → List Deed → Type 0
HasPolled s D = (l : PlainLine) × IsLine s l × (polls D ≡ waits_of l)

-- where the records lead that a command finds, or the number that it tells: `at` plays them from their start, each other command opens them
abbrev pub found_by : Language → Command → List (List ℕ) → Result Standing ℕ
found_by L At J = plays L J
found_by L c J = opens L J

-- ## In a language
module _ (L : Language) (R : Reports) (s : Scene) where
  abbrev pub IsNoHistory : ℕ → Type 0
  IsNoHistory n = IsLineOf s (λ c. (needs_history c ≡ true) × (found_by L c (records s.found) ≡ Err n))

  -- what is told of the history that was found: where it leads, where a front of it leads, or what it has logged
  pub data TellsHistory : List ℕ → Type 0 where
    shown : (t : Standing) → IsLineOf s (λ c. c ≡ Show) → found_by L Show (records s.found) ≡ Ok t → TellsHistory (R.shown t.config)
    stood : (l : PlainLine) (whole t : Standing) → IsLine s l → l.command ≡ At → found_by L At (records s.found) ≡ Ok whole → found_by L At (front_of (turn_of l) (records s.found)) ≡ Ok t → TellsHistory (R.shown t.config)
    logged : (l : PlainLine) (t : Standing) → IsLine s l → l.command ≡ Log → found_by L Log (records s.found) ≡ Ok t → TellsHistory (R.logged (word_of Grep l) t.config)

  -- the records of an image give this outcome
  abbrev pub HasOutcome : List ℕ → Outcome → Type 0
  HasOutcome image o = IsLineOf s (λ c. executes c ≡ true) × ((c : Standing) × (opens L (records image) ≡ Ok c) × (c.config.outcome ≡ o))

  -- they give none, and the command waits no more for what may come: it polled as often as its line says
  abbrev pub IsSuspended : List ℕ → List Deed → Type 0
  IsSuspended image D = HasOutcome image Active × HasPolled s D

  pub data MayPrint (image : List ℕ) (D : List Deed) : Status → List ℕ → Type 0 where
    bad_line : (n : ℕ) → IsBadLine s n → MayPrint image D (status.BadLine n) (line_end (codes "bad line at word " ++ decimal n))
    bad_argument : IsBadArgument s → MayPrint image D status.BadArgument (line_end (codes "bad argument"))
    refused : (r : Refusal) → IsRefused s r → MayPrint image D (status.Refused r) (line_end (refusal_text r))
    not_a_journal : HasOtherMagic s → MayPrint image D status.NotAJournal (line_end (codes "not a journal"))
    already_started : IsStarted s → MayPrint image D status.AlreadyStarted (line_end (codes "already started"))
    not_started : IsNotStarted s → MayPrint image D status.NotStarted (line_end (codes "not started"))
    not_a_history : (n : ℕ) → IsNoHistory n → MayPrint image D (status.NotAHistory n) (line_end (codes "not a history at record " ++ decimal n))
    suspended : IsSuspended image D → MayPrint image D status.Suspended (line_end (codes "suspended"))
    ended : (o : Outcome) (st : Status) → HasOutcome image o → status_of o ≡ Some st → MayPrint image D st (outcome_text o)
    done : (text : List ℕ) → Reported R s text → MayPrint image D status.Done text
    told : (text : List ℕ) → TellsHistory text → MayPrint image D status.Done text
