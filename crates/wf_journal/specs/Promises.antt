-- What the calls on a journal promise: each fact by its name. `before` and `after` are the journal, `entry` and `exit` the host.
use Rattle.std.specs.Borrow.{Bor}
use Rattle.std.specs.Prelude.{◌≡◌, ◌↔◌, ◌⊎◌, ◌<◌, ◌≤◌, ◌++◌, [], ◌∷◌, ℕ, true, false, List, length, Option, IfOk, OnOk, OnErr, IfNone, IfSome, IsErrOf, MatchOption, Result}
use Rattle.wf_host.specs.Calls.{AtAnyMoment, DiskFailed, DoesNoDeed, NoCountFalls, OnlyErrors, ReadsAsBefore, TellsAsBefore}
use Rattle.wf_host.specs.World.{World, Faults, Only, Told}
use Rattle.wf_journal.specs.Journal.{HasNone, IsBeforeOrAfter, IsJournal, Stays}
use Rattle.wf_journal.specs.Reading.{BlockFits, IsBlock}
use Rattle.wf_journal.specs.Records.{records}
use Rattle.wf_journal.specs.Stands.{is_new, at_end, is_closed, ahead, unread, Stands}
use Rattle.wf_journal.specs.declared.fault.JournalFault.{JournalFault}
use Rattle.wf_journal.specs.declared.fault.JournalFault.TheVariants as fault
use Rattle.wf_journal.specs.declared.journal.Journal.{Journal}
use Rattle.wf_journal.specs.declared.reading.Block.{Block}

pub record Opens {H : Type 0} (world : H → World) (faults : H → Faults) (entry exit : H) (result : Result Journal JournalFault) : Type 0 where
  -- ## The journal
  -- it stands for its file
  pub stands : Told (world entry) (IfOk result (λ j. Stands j (world exit)))
  -- it isn't closed
  pub «open» : IfOk result (λ j. is_closed j ≡ false)
  -- all records come next
  pub first : Told (world entry) (IfOk result (λ j. ahead j (world exit).seen ≡ records (world exit).seen))
  -- it is new exactly where the file has at most 4 bytes
  pub fresh : Told (world entry) (IfOk result (λ j. (is_new j ≡ true) ↔ (length (world exit).seen ≤ 4)))
  -- and then it is at its end, else not yet
  pub fresh_end : IfOk result (λ j. at_end j ≡ is_new j)
  -- ## The file
  -- it reads as before
  pub seen : ReadsAsBefore world entry exit
  -- a crash leaves what one before the call may have left, and no deed
  pub any_moment : AtAnyMoment world entry exit (λ c d. (world entry).may_leave c × (d ≡ (world entry).deeds))
  -- ## The errors
  -- only where a disk call failed
  pub disk_fault : IsErrOf result fault.DiskFault → DiskFailed faults entry exit
  -- only where the file has at least 5 bytes and another magic
  pub not_a_journal : Told (world entry) (IsErrOf result fault.NotAJournal → ¬ IsJournal (world entry).seen)
  -- and an Ok only of another file
  pub a_journal : Told (world entry) (OnOk result (IsJournal (world entry).seen))
  -- `TooLong` never comes
  pub too_long : ¬ IsErrOf result fault.TooLong
  -- nor `Closed`
  pub closed : ¬ IsErrOf result fault.Closed
  -- nor `OutOfMemory`
  pub no_memory : ¬ IsErrOf result fault.OutOfMemory
  -- ## The host
  -- nothing was done that others can notice
  pub deeds : DoesNoDeed world entry exit
  -- whether it tells stays
  pub tells : TellsAsBefore world entry exit
  -- no count of failed calls falls
  pub counts : NoCountFalls faults entry exit

pub record Lends {H : Type 0} (world : H → World) (faults : H → Faults) (before after : Journal) (entry exit : H) (result : Result (Option (Bor (List ℕ))) JournalFault) : Type 0 where
  -- ## The payload
  -- it comes next, and behind it what comes next now; nothing is lent where nothing comes next
  pub payload : Told (world entry) (IfOk result (λ found. MatchOption found (ahead before (world entry).seen ≡ []) (λ payload. ahead before (world entry).seen ≡ payload.now ∷ ahead after (world entry).seen)))
  -- where nothing is lent the end is reached
  pub ended : IfOk result (λ found. IfNone found (at_end after ≡ true))
  -- where a payload is lent it isn't
  pub not_ended : IfOk result (λ found. IfSome found (λ _. at_end after ≡ false))
  -- with each payload fewer bytes are unread, over any host
  pub shorter : IfOk result (λ found. IfSome found (λ _. unread after < unread before))
  -- where nothing is lent nothing comes next
  pub none_ahead : Told (world entry) (IfOk result (λ found. IfNone found (ahead after (world exit).seen ≡ [])))
  -- ## The journal
  -- it stands for its file, unless it is closed
  pub stands : is_closed after ≡ false → Told (world entry) (Stands after (world exit))
  -- an Ok leaves it open
  pub «open» : OnOk result (is_closed after ≡ false)
  -- only a fault of the disk closes it
  pub closes : (is_closed after ≡ true) ↔ ((is_closed before ≡ true) ⊎ IsErrOf result fault.DiskFault)
  -- whether it is new stays
  pub new : is_new after ≡ is_new before
  -- ## The file
  -- it reads as before
  pub seen : ReadsAsBefore world entry exit
  -- a crash leaves just it, and no deed
  pub any_moment : is_closed before ≡ false → AtAnyMoment world entry exit (Stays (world entry))
  -- ## The errors
  -- only where a disk call failed
  pub disk_fault : IsErrOf result fault.DiskFault → DiskFailed faults entry exit
  -- exactly where the journal was closed before
  pub closed : IsErrOf result fault.Closed ↔ (is_closed before ≡ true)
  -- and then nothing changes
  pub idle : IsErrOf result fault.Closed → (after ≡ before) × (exit ≡ entry)
  -- without memory the journal stays as it was
  pub unchanged : IsErrOf result fault.OutOfMemory → after ≡ before
  -- `NotAJournal` never comes
  pub not_asked : ¬ IsErrOf result fault.NotAJournal
  -- nor `TooLong`
  pub too_long : ¬ IsErrOf result fault.TooLong
  -- ## The host
  -- nothing was done that others can notice
  pub deeds : DoesNoDeed world entry exit
  -- whether it tells stays
  pub tells : TellsAsBefore world entry exit
  -- no count of failed calls falls
  pub counts : NoCountFalls faults entry exit

pub record Begins {H : Type 0} (world : H → World) (faults : H → Faults) (before after : Journal) (entry exit : H) (result : Result (Unit {0}) JournalFault) : Type 0 where
  -- ## The journal
  -- it stands for its file, unless it is closed
  pub stands : is_closed after ≡ false → Told (world entry) (Stands after (world exit))
  -- an Ok leaves it open
  pub «open» : OnOk result (is_closed after ≡ false)
  -- and at its end
  pub ended : OnOk result (at_end after ≡ true)
  -- and no longer new
  pub begun : OnOk result (is_new after ≡ false)
  -- an error leaves it new
  pub still_new : OnErr result (is_new after ≡ true)
  -- only a fault of the disk closes it
  pub closes : (is_closed after ≡ true) ↔ ((is_closed before ≡ true) ⊎ IsErrOf result fault.DiskFault)
  -- ## The file
  -- an Ok leaves it without a record
  pub none : Told (world entry) (OnOk result (records (world exit).seen ≡ []))
  -- a crash leaves a new file, or the magic and no record; and no deed
  pub any_moment : is_closed before ≡ false → AtAnyMoment world entry exit (HasNone (world entry))
  -- ## The errors
  -- only where a disk call failed
  pub disk_fault : IsErrOf result fault.DiskFault → DiskFailed faults entry exit
  -- exactly where the journal was closed before
  pub closed : IsErrOf result fault.Closed ↔ (is_closed before ≡ true)
  -- and then nothing changes
  pub idle : IsErrOf result fault.Closed → (after ≡ before) × (exit ≡ entry)
  -- `NotAJournal` never comes
  pub not_asked : ¬ IsErrOf result fault.NotAJournal
  -- nor `TooLong`
  pub too_long : ¬ IsErrOf result fault.TooLong
  -- nor `OutOfMemory`
  pub no_memory : ¬ IsErrOf result fault.OutOfMemory
  -- ## The host
  -- nothing was done that others can notice
  pub deeds : DoesNoDeed world entry exit
  -- whether it tells stays
  pub tells : TellsAsBefore world entry exit
  -- no count of failed calls falls
  pub counts : NoCountFalls faults entry exit

pub record Appends {H : Type 0} (world : H → World) (faults : H → Faults) (before after : Journal) (entry exit : H) (payload : List ℕ) (result : Result (Unit {0}) JournalFault) : Type 0 where
  -- ## The journal
  -- it stands for its file, unless it is closed
  pub stands : is_closed after ≡ false → Told (world entry) (Stands after (world exit))
  -- an Ok leaves it open
  pub «open» : OnOk result (is_closed after ≡ false)
  -- it is still at its end
  pub still_ended : at_end after ≡ true
  -- and isn't new
  pub still_begun : is_new after ≡ false
  -- only a fault of the disk closes it
  pub closes : (is_closed after ≡ true) ↔ ((is_closed before ≡ true) ⊎ IsErrOf result fault.DiskFault)
  -- ## The file
  -- an Ok adds the record
  pub added : Told (world entry) (OnOk result (records (world exit).seen ≡ records (world entry).seen ++ payload ∷ []))
  -- a crash leaves the records before, or these and this one; and no deed
  pub any_moment : is_closed before ≡ false → AtAnyMoment world entry exit (IsBeforeOrAfter (world entry) payload)
  -- ## The errors
  -- only where a disk call failed
  pub disk_fault : IsErrOf result fault.DiskFault → DiskFailed faults entry exit
  -- exactly where the journal was open and the payload has more than 16,777,215 bytes
  pub too_long : IsErrOf result fault.TooLong ↔ (is_closed before ≡ false) × (16777215 < length payload)
  -- and then nothing changes
  pub unchanged : IsErrOf result fault.TooLong → (after ≡ before) × (exit ≡ entry)
  -- exactly where the journal was closed before
  pub closed : IsErrOf result fault.Closed ↔ (is_closed before ≡ true)
  -- and then nothing changes
  pub idle : IsErrOf result fault.Closed → (after ≡ before) × (exit ≡ entry)
  -- `NotAJournal` never comes
  pub not_asked : ¬ IsErrOf result fault.NotAJournal
  -- nor `OutOfMemory`
  pub no_memory : ¬ IsErrOf result fault.OutOfMemory
  -- ## The host
  -- nothing was done that others can notice
  pub deeds : DoesNoDeed world entry exit
  -- whether it tells stays
  pub tells : TellsAsBefore world entry exit
  -- no count of failed calls falls
  pub counts : NoCountFalls faults entry exit

-- what reading the block at a gate promises; `room` is what stands in the room then
pub record ReadsBlock {H : Type 0} (world : H → World) (faults : H → Faults) (gate size : ℕ) (room : List ℕ) (entry exit : H) (result : Result Block JournalFault) : Type 0 where
  -- ## The block
  -- it is what stands at the gate, and the room has its payload
  pub block : Told (world entry) (IfOk result (λ b. IsBlock (world entry).seen gate room b))
  -- a payload and the next gate lie in a file of this size
  pub fits : IfOk result (λ b. BlockFits size gate b)
  -- ## The file
  -- it reads as before
  pub seen : ReadsAsBefore world entry exit
  -- a crash behind the call leaves just it
  pub settled : Told (world entry) (Only (world entry).seen (world exit).may_leave)
  -- and one at any moment of the call, and no deed
  pub any_moment : AtAnyMoment world entry exit (Stays (world entry))
  -- ## The errors
  -- a fault of the disk and want of memory alone
  pub only : OnlyErrors result (fault.DiskFault ∷ fault.OutOfMemory ∷ [])
  -- the first only where a disk call failed
  pub disk_fault : IsErrOf result fault.DiskFault → DiskFailed faults entry exit
  -- ## The host
  -- nothing was done that others can notice
  pub deeds : DoesNoDeed world entry exit
  -- whether it tells stays
  pub tells : TellsAsBefore world entry exit
  -- no count of failed calls falls
  pub counts : NoCountFalls faults entry exit
