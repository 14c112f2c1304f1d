-- Lives: lists of commands, each on what the one before left.
--     Life           from a file that is fit
--     PairsAreStays  what a moment of a command leaves is a stay of a life
--     OneRequest, ClosedIsNotStarted, RecordsStay, OneLine, PrintsByACause, PrintsOneLine     what holds over all commands of a life
use Rattle.std.specs.Prelude.{◌≡◌, ◌≢◌, ◌⊎◌, ◌≤◌, ℕ, List, [], ◌∷◌, ◌++◌, length, Contains, Option, Some, Ok}
use Rattle.wf_host.specs.Printing.{printed}
use Rattle.wf_deeds.specs.Kept.{IsOpen}
use Rattle.wf_deeds.specs.Outside.{Outside}
use Rattle.wf_engine.specs.Printed.{Scene, Reports, Reported, TellsHistory, MayPrint, HasOutcome, outcome_text}
use Rattle.wf_engine.specs.Safe.{Safe, SafeAt, IsFit, IsPrefix, scene}
use Rattle.wf_host.specs.Source.{Rest}
use Rattle.wf_host.specs.World.{World, Only}
use Rattle.wf_host.specs.declared.data.Address.{Address}
use Rattle.wf_host.specs.declared.data.Deed.{Deed}
use Rattle.wf_host.specs.declared.data.Deed.TheVariants.{Start}
use Rattle.wf_journal.specs.Records.{records}
use Rattle.wf_model.specs.Config.{Outcome, Active}
use Rattle.wf_deeds.specs.History.{Standing, history}
use Rattle.wf_deeds.specs.Language.{Language}
use Rattle.wf_status.specs.Statuses.{status_text}
use Rattle.wf_status.specs.declared.Status.{Status}

-- a command, the file that it opened, what it did, how it ended if it did, and the file that was left then
pub record Stay : Type 0 where
  pub opened : List ℕ
  pub words : List (List ℕ)
  pub source : Rest
  pub deeds : List Deed
  pub end : Option Status
  pub left : List ℕ

abbrev pub stay_scene : Stay → Scene
stay_scene x = record { words = x.words; source = x.source; found = x.opened }

-- what it left is a pair of a moment of its command, on a disk that reads and crashes to what it opened
abbrev pub IsStay : Language → Outside → Reports → Stay → Type 0
IsStay L O R x = Safe L O R (stay_scene x) x.end (λ i. i ≡ x.opened) x.left x.deeds

-- a pair of a moment of a command that began in this world is a stay, where the disk read and crashed to one image then
abbrev pub PairsAreStays : World → Type 0
PairsAreStays w = (L : Language) (O : Outside) (R : Reports) (words : List (List ℕ)) (source : Rest) (end : Option Status) (image : List ℕ) (all : List Deed)
    → Only w.seen w.may_leave → SafeAt L O R (scene words source w) end w image all
    → (D : List Deed) × (all ≡ w.deeds ++ D)
    × IsStay L O R (record { opened = w.seen; words = words; source = source; deeds = D; end = end; left = image })

-- each opens what the one before left
abbrev pub IsLifeFrom : Language → Outside → Reports → List ℕ → List Stay → Type 0
IsLifeFrom L O R image [] = Unit {0}
IsLifeFrom L O R image (x ∷ xs) = (x.opened ≡ image) × IsStay L O R x × IsLifeFrom L O R x.left xs

pub record Life (L : Language) (O : Outside) (R : Reports) (first : List ℕ) (xs : List Stay) : Type 0 where
  pub fit : IsFit L first
  pub chain : IsLifeFrom L O R first xs

-- call k was issued, and is answered or timed out by the records of an image
abbrev pub IsClosed : Language → List ℕ → ℕ → Type 0
IsClosed L image k = (st : Standing) × (history L (records image) ≡ Ok st) × (1 ≤ k) × (k ≤ length st.config.calls) × ¬ IsOpen st.config k

-- the line of an outcome that the records of what it left give
abbrev pub IsOutcomeText : Language → Reports → Stay → List ℕ → Type 0
IsOutcomeText L R x text = (o : Outcome) × HasOutcome L R (stay_scene x) x.left o × (o ≢ Active) × (text ≡ outcome_text o)

-- what was printed is of an outcome: a front of the line that the records of what was left give
abbrev pub PrintsOutcome : Language → Reports → Stay → Type 0
PrintsOutcome L R x = (text : List ℕ) × IsOutcomeText L R x text × IsPrefix (printed x.deeds) text

-- or a front of another text that has its cause: that of a status, the report of a command that uses no journal, or what is told of a history
abbrev pub PrintsOther : Language → Reports → Stay → Type 0
PrintsOther L R x = (st : Status) × (text : List ℕ) × MayPrint L R (stay_scene x) x.left x.deeds st text × IsPrefix (printed x.deeds) text
    × ((status_text st ≡ Some text) ⊎ Reported R (stay_scene x) text ⊎ TellsHistory L R (stay_scene x) text)

-- ## What holds over all commands of a life
-- all starts of one number have one address and one request
abbrev pub OneRequest : Type 0
OneRequest = (L : Language) (O : Outside) (R : Reports) (first : List ℕ) (xs : List Stay) (x y : Stay) (k : ℕ) (a b : Address) (p q : List ℕ) → Life L O R first xs → Contains xs x → Contains xs y
    → Contains x.deeds (Start k a p) → Contains y.deeds (Start k b q) → (a ≡ b) × (p ≡ q)

-- a call that is answered or timed out when a command opens isn't started by it
abbrev pub ClosedIsNotStarted : Type 0
ClosedIsNotStarted = (L : Language) (O : Outside) (R : Reports) (first : List ℕ) (xs : List Stay) (x : Stay) (k : ℕ) (a : Address) (p : List ℕ) → Life L O R first xs → Contains xs x
    → IsClosed L x.opened k → ¬ Contains x.deeds (Start k a p)

-- each file that is left is new, has the magic and no record, or is a history, as a command asks of the file that it opens
abbrev pub FilesStayFit : Type 0
FilesStayFit = (L : Language) (O : Outside) (R : Reports) (first : List ℕ) (xs : List Stay) (x : Stay) → Life L O R first xs → Contains xs x → IsFit L x.left

-- records are kept
abbrev pub RecordsStay : Type 0
RecordsStay = (L : Language) (O : Outside) (R : Reports) (first : List ℕ) (xs : List Stay) (x : Stay) → Life L O R first xs → Contains xs x → (added : List (List ℕ)) × (records x.left ≡ records x.opened ++ added)

-- what is printed of an outcome is one line
abbrev pub OneLine : Type 0
OneLine = (L : Language) (O : Outside) (R : Reports) (first : List ℕ) (xs : List Stay) (x y : Stay) (s t : List ℕ) → Life L O R first xs → Contains xs x → Contains xs y
    → IsOutcomeText L R x s → IsOutcomeText L R y t → s ≡ t

-- each prints nothing, or a front of an outcome's line, or of another text that has its cause
abbrev pub PrintsByACause : Type 0
PrintsByACause = (L : Language) (O : Outside) (R : Reports) (first : List ℕ) (xs : List Stay) (x : Stay) → Life L O R first xs → Contains xs x
    → (printed x.deeds ≡ []) ⊎ PrintsOutcome L R x ⊎ PrintsOther L R x

-- what was printed of outcomes, also where a print was cut off, are fronts of one line
abbrev pub PrintsOneLine : Type 0
PrintsOneLine = (L : Language) (O : Outside) (R : Reports) (first : List ℕ) (xs : List Stay) (x y : Stay) → Life L O R first xs → Contains xs x → Contains xs y
    → PrintsOutcome L R x → PrintsOutcome L R y → (line : List ℕ) × IsPrefix (printed x.deeds) line × IsPrefix (printed y.deeds) line
