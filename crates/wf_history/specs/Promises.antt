-- What the calls on a history promise: each fact by its name. `before` and `after` are the history, `entry` and `exit` the host.
use Rattle.std.specs.Prelude.{◌≡◌, ◌≢◌, ◌↔◌, ◌⊎◌, ◌<◌, ◌≤◌, ◌++◌, [], ◌∷◌, ℕ, suc, true, false, List, length, take, Option, Some, None, IfOk, IfErr, OnOk, OnErr, IfNone, IfSome, IsErrOf, MatchOption, Result}
use Rattle.wf_events.specs.Reading.{meaning}
use Rattle.wf_events.specs.Spelling.{record_bytes}
use Rattle.wf_events.specs.View.{record_view, start_view, turn_view}
use Rattle.wf_events.specs.declared.data.Record.{Record}
use Rattle.wf_events.specs.declared.data.Start.{Start}
use Rattle.wf_events.specs.declared.data.Turn.{Turn}
use Rattle.wf_history.specs.Kinds.{added_record, first_record}
use Rattle.wf_history.specs.Stands as history
use Rattle.wf_history.specs.Stands.{is_new, at_end, is_closed, ahead, unread, Stands, last_after, HasNoneOrThis, IsBadAt}
use Rattle.wf_history.specs.declared.fault.HistoryFault.{HistoryFault}
use Rattle.wf_history.specs.declared.fault.HistoryFault.TheVariants as fault
use Rattle.wf_history.specs.declared.history.History.{History}
use Rattle.wf_host.specs.Calls.{AtAnyMoment, DiskFailed, DoesNoDeed, NoCountFalls, OnlyErrors, ReadsAsBefore, TellsAsBefore}
use Rattle.wf_host.specs.World.{World, Faults, Told}
use Rattle.wf_journal.specs.Journal.{IsBeforeOrAfter, IsJournal, Stays}
use Rattle.wf_journal.specs.Records.{magic, records}

pub record Opens {H : Type 0} (world : H → World) (faults : H → Faults) (entry exit : H) (result : Result History HistoryFault) : Type 0 where
  -- ## The history
  -- it stands for its file
  pub stands : Told (world entry) (IfOk result (λ h. Stands h (world exit)))
  -- it isn't closed
  pub «open» : IfOk result (λ h. is_closed h ≡ false)
  -- all records come next
  pub first : Told (world entry) (IfOk result (λ h. ahead h (world exit).seen ≡ records (world exit).seen))
  -- it is new exactly where the file has at most 4 bytes
  pub fresh : Told (world entry) (IfOk result (λ h. (is_new h ≡ true) ↔ (length (world exit).seen ≤ 4)))
  -- and then it is at its end, else not yet
  pub fresh_end : IfOk result (λ h. at_end h ≡ is_new h)
  -- no record is passed
  pub place : IfOk result (λ h. history.place h ≡ 0)
  -- and no turn was seen
  pub last : IfOk result (λ h. history.last h ≡ None)
  -- ## The file
  -- it reads as before
  pub seen : ReadsAsBefore world entry exit
  -- a crash leaves what one before the call may have left, and no deed
  pub any_moment : AtAnyMoment world entry exit (λ c d. (world entry).may_leave c × (d ≡ (world entry).deeds))
  -- ## The errors
  -- only where a disk call failed
  pub disk_fault : IsErrOf result fault.DiskFault → DiskFailed faults entry exit
  -- only where the file has at least 5 bytes and another magic
  pub not_a_journal : Told (world entry) (IsErrOf result fault.NotAJournal → (5 ≤ length (world entry).seen) × (take 4 (world entry).seen ≢ magic))
  -- and an Ok only of another file
  pub a_journal : Told (world entry) (OnOk result (IsJournal (world entry).seen))
  -- no other error comes
  pub only : OnlyErrors result (fault.DiskFault ∷ fault.NotAJournal ∷ [])
  -- ## The host
  -- nothing was done that others can notice
  pub deeds : DoesNoDeed world entry exit
  -- whether it tells stays
  pub tells : TellsAsBefore world entry exit
  -- no count of failed calls falls
  pub counts : NoCountFalls faults entry exit

pub record ReadsNext {H : Type 0} (world : H → World) (faults : H → Faults) (before after : History) (entry exit : H) (result : Result (Option Record) HistoryFault) : Type 0 where
  -- ## The record
  -- the payload that comes next means it, and behind that comes what comes next now; none is given where nothing comes next
  pub «record» : Told (world entry) (IfOk result (λ found. MatchOption found (ahead before (world entry).seen ≡ []) (λ r. (payload : List ℕ) × (ahead before (world entry).seen ≡ payload ∷ ahead after (world entry).seen) × (meaning payload ≡ Some (record_view r)))))
  -- with each record the place rises by one
  pub place : Told (world entry) (IfOk result (λ found. MatchOption found (history.place after ≡ history.place before) (λ _. history.place after ≡ suc (history.place before))))
  -- and a turn becomes the last one
  pub last : IfOk result (λ found. MatchOption found (history.last after ≡ history.last before) (λ r. history.last after ≡ last_after (history.last before) (record_view r)))
  -- where none is given the end is reached
  pub ended : IfOk result (λ found. IfNone found (at_end after ≡ true))
  -- with each record fewer bytes are unread, over any host
  pub shorter : IfOk result (λ found. IfSome found (λ _. unread after < unread before))
  -- ## The history
  -- it stands for its file, unless it is closed
  pub stands : is_closed after ≡ false → Told (world entry) (Stands after (world exit))
  -- only a fault of the disk closes it
  pub closes : (is_closed after ≡ true) ↔ ((is_closed before ≡ true) ⊎ IsErrOf result fault.DiskFault)
  -- whether it is new stays
  pub new : is_new after ≡ is_new before
  -- ## The file
  -- it reads as before
  pub seen : ReadsAsBefore world entry exit
  -- a crash leaves just it, and no deed
  pub any_moment : is_closed before ≡ false → AtAnyMoment world entry exit (Stays (world entry))
  -- ## The errors
  -- only where the payload that comes next means no record, with its number
  pub bad_record : Told (world entry) (IfErr result (λ e. (n : ℕ) → e ≡ fault.BadRecord n → IsBadAt n (history.place before) (ahead before (world entry).seen)))
  -- only where a disk call failed
  pub disk_fault : IsErrOf result fault.DiskFault → DiskFailed faults entry exit
  -- exactly where the history was closed before
  pub closed : IsErrOf result fault.Closed ↔ (is_closed before ≡ true)
  -- and then nothing changes
  pub idle : IsErrOf result fault.Closed → (after ≡ before) × (exit ≡ entry)
  -- on each error but a fault of the disk the history stays as it was
  pub unchanged : OnErr result (IsErrOf result fault.DiskFault ⊎ (after ≡ before))
  -- `NotAJournal` never comes
  pub not_asked : IsErrOf result fault.NotAJournal → ⊥
  -- ## The host
  -- nothing was done that others can notice
  pub deeds : DoesNoDeed world entry exit
  -- whether it tells stays
  pub tells : TellsAsBefore world entry exit
  -- no count of failed calls falls
  pub counts : NoCountFalls faults entry exit

pub record Begins {H : Type 0} (world : H → World) (faults : H → Faults) (before after : History) (entry exit : H) (start : Start) (result : Result (Unit {0}) HistoryFault) : Type 0 where
  -- ## The history
  -- it stands for its file, unless it is closed
  pub stands : is_closed after ≡ false → Told (world entry) (Stands after (world exit))
  -- an Ok leaves it open
  pub «open» : OnOk result (is_closed after ≡ false)
  -- and no longer new
  pub begun : OnOk result (is_new after ≡ false)
  -- the start is passed
  pub place : OnOk result (history.place after ≡ 1)
  -- the last turn stays
  pub last : history.last after ≡ history.last before
  -- an Ok leaves it at its end
  pub still_ended : OnOk result (at_end after ≡ true)
  -- only a fault of the disk closes it
  pub closes : (is_closed after ≡ true) ↔ ((is_closed before ≡ true) ⊎ IsErrOf result fault.DiskFault)
  -- ## The file
  -- an Ok leaves the start alone
  pub added : Told (world entry) (OnOk result (records (world exit).seen ≡ record_bytes (first_record (start_view start)) ∷ []))
  -- a crash leaves no record, or the start alone; and no deed
  pub any_moment : is_closed before ≡ false → AtAnyMoment world entry exit (HasNoneOrThis (world entry) (record_bytes (first_record (start_view start))))
  -- ## The errors
  -- only where a disk call failed
  pub disk_fault : IsErrOf result fault.DiskFault → DiskFailed faults entry exit
  -- exactly where the history was closed before
  pub closed : IsErrOf result fault.Closed ↔ (is_closed before ≡ true)
  -- and then nothing changes
  pub idle : IsErrOf result fault.Closed → (after ≡ before) × (exit ≡ entry)
  -- nor does anything without memory
  pub unchanged : IsErrOf result fault.OutOfMemory → (after ≡ before) × (exit ≡ entry)
  -- no other error comes
  pub only : OnlyErrors result (fault.DiskFault ∷ fault.Closed ∷ fault.OutOfMemory ∷ [])
  -- ## The host
  -- nothing was done that others can notice
  pub deeds : DoesNoDeed world entry exit
  -- whether it tells stays
  pub tells : TellsAsBefore world entry exit
  -- no count of failed calls falls
  pub counts : NoCountFalls faults entry exit

pub record Adds {H : Type 0} (world : H → World) (faults : H → Faults) (before after : History) (entry exit : H) (turn : Turn) (result : Result (Unit {0}) HistoryFault) : Type 0 where
  -- ## The history
  -- it stands for its file, unless it is closed
  pub stands : is_closed after ≡ false → Told (world entry) (Stands after (world exit))
  -- an Ok leaves it open
  pub «open» : OnOk result (is_closed after ≡ false)
  -- and with one record more passed
  pub place : Told (world entry) (OnOk result (history.place after ≡ suc (history.place before)))
  -- and the turn is the last one
  pub last : OnOk result (history.last after ≡ Some (turn.session, turn.waits))
  -- it is still at its end
  pub still_ended : at_end after ≡ true
  -- and isn't new
  pub still_begun : is_new after ≡ false
  -- only a fault of the disk closes it
  pub closes : (is_closed after ≡ true) ↔ ((is_closed before ≡ true) ⊎ IsErrOf result fault.DiskFault)
  -- ## The file
  -- an Ok adds the turn
  pub added : Told (world entry) (OnOk result (records (world exit).seen ≡ records (world entry).seen ++ record_bytes (added_record (turn_view turn)) ∷ []))
  -- a crash leaves the records before, or these and the turn; and no deed
  pub any_moment : is_closed before ≡ false → AtAnyMoment world entry exit (IsBeforeOrAfter (world entry) (record_bytes (added_record (turn_view turn))))
  -- ## The errors
  -- only where a disk call failed
  pub disk_fault : IsErrOf result fault.DiskFault → DiskFailed faults entry exit
  -- exactly where the history was closed before
  pub closed : IsErrOf result fault.Closed ↔ (is_closed before ≡ true)
  -- and then nothing changes
  pub idle : IsErrOf result fault.Closed → (after ≡ before) × (exit ≡ entry)
  -- nor does anything without memory
  pub unchanged : IsErrOf result fault.OutOfMemory → (after ≡ before) × (exit ≡ entry)
  -- no other error comes
  pub only : OnlyErrors result (fault.DiskFault ∷ fault.Closed ∷ fault.OutOfMemory ∷ [])
  -- ## The host
  -- nothing was done that others can notice
  pub deeds : DoesNoDeed world entry exit
  -- whether it tells stays
  pub tells : TellsAsBefore world entry exit
  -- no count of failed calls falls
  pub counts : NoCountFalls faults entry exit
