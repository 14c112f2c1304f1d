-- What a crash at a moment of a command may leave, and what was done by then.
--     Safe      six facts of a pair of an image and the deeds of the command
--     SafeAt    the same over a host
--     LateAt    behind the opening's sync
use Rattle.std.specs.Prelude.{◌≡◌, ◌⊎◌, ◌≤◌, ℕ, List, [], ◌∷◌, ◌++◌, length, take, Contains, Option, option_map, Result, Ok, Err, false}
use Rattle.std.specs.List.{AllByRecursion}
use Rattle.wf_deeds.specs.Clauses.{AreAdded}
use Rattle.wf_deeds.specs.Deeds.{nows, IsSmall}
use Rattle.wf_host.specs.Printing.{printed}
use Rattle.wf_deeds.specs.Kept as kept
use Rattle.wf_deeds.specs.Kept.{Session, Kept}
use Rattle.wf_deeds.specs.Outside.{Outside}
use Rattle.wf_engine.specs.Printed.{Scene, Reports, Reads, MayPrint}
use Rattle.wf_engine.specs.Starts.{start_of}
use Rattle.wf_events.specs.Spelling.{record_bytes}
use Rattle.wf_history.specs.Kinds.{first_record}
use Rattle.wf_host.specs.Source.{Rest}
use Rattle.wf_host.specs.World.{World}
use Rattle.wf_host.specs.declared.data.Deed.{Deed}
use Rattle.wf_journal.specs.Records.{magic, records}
use Rattle.wf_args.specs.Lines.{PlainLine, line_of}
use Rattle.wf_args.specs.declared.command.Command as line
use Rattle.wf_args.specs.declared.command.Command.TheVariants.{Run}
use Rattle.wf_deeds.specs.At.{journal, next_session}
use Rattle.wf_deeds.specs.History.{Standing, history}
use Rattle.wf_deeds.specs.Language.{Language}
use Rattle.wf_status.specs.Statuses.{status_code}
use Rattle.wf_status.specs.declared.Status.{Status}

-- one text begins with another
abbrev pub IsPrefix : List ℕ → List ℕ → Type 0
IsPrefix front text = (rest : List ℕ) × (text ≡ front ++ rest)

-- every command but `run` counts as one that goes on
abbrev pub command_of : line.Command → kept.Command
command_of Run = kept.Run
command_of c = kept.Resume

abbrev pub command_by : Result PlainLine ℕ → kept.Command
command_by (Ok l) = command_of l.command
command_by (Err n) = kept.Resume

-- a file that is new, has the magic and no record, or is a history
abbrev pub IsFit : Language → List ℕ → Type 0
IsFit L image = (length image ≤ 4) ⊎ ((take 4 image ≡ magic) × (records image ≡ [])) ⊎ ((take 4 image ≡ magic) × ((st : Standing) × (history L (records image) ≡ Ok st)))

module _ (L : Language) (O : Outside) (R : Reports) (s : Scene) (end : Option Status) where
  -- the session of a moment: its records, and its number from the records found
  abbrev pub session : List ℕ → List Deed → Session
  session image D = record {
    payloads = records image;
    number = next_session (journal L (records s.found));
    deeds = D;
    command = command_by (line_of s.words);
    end = option_map status_code end;
    handed = false;
  }

  -- the records found at opening stand in front
  abbrev pub ImageKeepsRecords : List ℕ → Type 0
  ImageKeepsRecords image = (added : List (List ℕ)) × (records image ≡ records s.found ++ added)

  -- what stands behind them was added by this command's session
  abbrev pub AddedTurnsAreOwn : List ℕ → Type 0
  AddedTurnsAreOwn image = (added : List (List ℕ)) → records image ≡ records s.found ++ added
      → AreAdded L (records s.found) (next_session (journal L (records s.found))) added

  -- a first record that this command added is the start of its line, of the source and of the clock
  abbrev pub StartIsOfTheLine : List ℕ → List Deed → Type 0
  StartIsOfTheLine image D = (first : List ℕ) (rest : List (List ℕ)) → records s.found ≡ [] → records image ≡ first ∷ rest
      → (l : PlainLine) × (bytes : List ℕ) × Reads s l bytes × ((t : ℕ) × Contains (nows D) t × (first ≡ record_bytes (first_record (start_of l bytes t))))

  -- what was printed is the front of a text that the command has cause to print
  abbrev pub PrintedIsOutcome : List ℕ → List Deed → Type 0
  PrintedIsOutcome image D = (printed D ≡ []) ⊎ ((st : Status) × (text : List ℕ) × MayPrint L R s image D st text × IsPrefix (printed D) text)

  -- before the opening's sync: nothing is sent, the clock is read at most once, and the image is one that a crash at entry might leave
  pub record IsEarly (entry : List ℕ → Type 0) (image : List ℕ) (D : List Deed) : Type 0 where
    pub small : AllByRecursion IsSmall D
    pub clock : length (nows D) ≤ 1
    pub at_entry : entry image
    pub printed : PrintedIsOutcome image D

  -- from its success on
  pub record IsLate (image : List ℕ) (D : List Deed) : Type 0 where
    pub history : IsFit L image
    pub keeps : ImageKeepsRecords image
    pub own : AddedTurnsAreOwn image
    pub start : StartIsOfTheLine image D
    pub deeds : Kept L O (session image D)
    pub printed : PrintedIsOutcome image D

  abbrev pub Safe : (List ℕ → Type 0) → List ℕ → List Deed → Type 0
  Safe entry image D = IsEarly entry image D ⊎ IsLate image D

-- ## Over a host
-- what a command finds: its words, its source, and the file as it reads
abbrev pub scene : List (List ℕ) → Rest → World → Scene
scene words source w = record { words = words; source = source; found = w.seen }

-- the deeds since a moment
abbrev pub Since : World → List Deed → (List Deed → Type 0) → Type 0
Since old all P = (D : List Deed) × (all ≡ old.deeds ++ D) × P D

-- a pair of an image and the deeds by then, of a moment of a command, is safe
abbrev pub SafeAt : Language → Outside → Reports → Scene → Option Status → World → List ℕ → List Deed → Type 0
SafeAt L O R s end old image all = Since old all (λ D. Safe L O R s end old.may_leave image D)

-- and it is one behind the opening's sync
abbrev pub LateAt : Language → Outside → Reports → Scene → Option Status → World → List ℕ → List Deed → Type 0
LateAt L O R s end old image all = Since old all (λ D. IsLate L O R s end image D)
