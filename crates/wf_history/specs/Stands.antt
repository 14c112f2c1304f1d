-- What a history knows of its file.
use Rattle.std.specs.Prelude.{◌≡◌, ◌⊎◌, ℕ, Bool, List, [], ◌∷◌, ◌++◌, length, Option, Some, None}
use Rattle.wf_events.specs.Reading.{meaning}
use Rattle.wf_events.specs.Records.{Record, Turned, Packed}
use Rattle.wf_history.specs.Faults.{told}
use Rattle.wf_history.specs.declared.history.History.{History}
use Rattle.wf_host.specs.World.{World}
use Rattle.wf_host.specs.declared.data.Deed.{Deed}
use Rattle.wf_journal.specs.Journal.{IsJournal}
use Rattle.wf_journal.specs.Records.{records}
use Rattle.wf_journal.specs.Stands as journal

-- whether the file has no magic yet
abbrev pub is_new : History → Bool
is_new h = journal.is_new h.journal

-- whether the first gate that isn't open was reached
abbrev pub at_end : History → Bool
at_end h = journal.at_end h.journal

-- whether the disk failed in an earlier call
abbrev pub is_closed : History → Bool
is_closed h = journal.is_closed h.journal

-- the number of the record that comes next
abbrev pub place : History → ℕ
place h = h.place

-- the session and the waits of the last turn
abbrev pub last : History → Option (ℕ × ℕ)
last h = h.last

-- the bytes that are left to read, by the length that the file had when it was opened
abbrev pub unread : History → ℕ
unread h = journal.unread h.journal

-- the payloads that come next
abbrev pub ahead : History → List ℕ → List (List ℕ)
ahead h file = journal.ahead h.journal file

-- the file reads as it did at the end of the last call, a crash leaves just this, and so many payloads are passed
pub record Stands (h : History) (w : World) : Type 0 where
  pub journal : journal.Stands h.journal w
  pub passed : List (List ℕ)
  pub all : records w.seen ≡ passed ++ ahead h w.seen
  pub counted : h.place ≡ length passed

-- a turn is the last one from then on
abbrev pub last_after : Option (ℕ × ℕ) → Record → Option (ℕ × ℕ)
last_after before (Turned t) = Some (t.session, t.waits)
last_after before (Packed t) = Some (t.session, t.waits)
last_after before r = before

-- no record, or this one alone, and no deed
abbrev pub HasNoneOrThis : World → List ℕ → List ℕ → List Deed → Type 0
HasNoneOrThis old payload c d = IsJournal c × ((records c ≡ []) ⊎ (records c ≡ payload ∷ [])) × (d ≡ old.deeds)

-- the payload that comes next is no record, and this is its number
pub record IsBadAt (n place : ℕ) (ahead : List (List ℕ)) : Type 0 where
  pub payload : List ℕ
  pub rest : List (List ℕ)
  pub next : ahead ≡ payload ∷ rest
  pub bad : meaning payload ≡ None
  pub number : n ≡ told place
