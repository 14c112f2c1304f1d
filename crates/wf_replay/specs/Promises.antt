-- What replaying promises: each fact by its name. `before` and `after` are the history, `entry` and `exit` the host, `counted` and `count`
-- the steps.
use Rattle.std.specs.Prelude.{◌≡◌, ◌≢◌, ◌↔◌, ◌⊎◌, ◌+◌, [], ◌∷◌, ℕ, true, false, drop, take, List, Some, Ok, Err, IfOk, IfErr, OnOk, IsErrOf, Result}
use Rattle.wf_deeds.specs.At.{applied_by, to_apply}
use Rattle.wf_deeds.specs.History.{first_standing, goes_to, opens}
use Rattle.wf_events.specs.Reading.{meaning}
use Rattle.wf_history.specs.Stands.{ahead, at_end, is_closed, is_new, Stands}
use Rattle.wf_history.specs.declared.history.History.{History}
use Rattle.wf_host.specs.Calls.{AtAnyMoment, DiskFailed, DoesNoDeed, NoCountFalls, OnlyErrorsOr, ReadsAsBefore, TellsAsBefore}
use Rattle.wf_host.specs.World.{World, Faults, Told}
use Rattle.wf_journal.specs.Journal.{Stays}
use Rattle.wf_machine.specs.Seen.{state_of}
use Rattle.wf_machine.specs.declared.machine.Machine.{Machine}
use Rattle.wf_replay.specs.Openings.{NoFirst}
use Rattle.wf_replay.specs.Standing.{standing}
use Rattle.wf_replay.specs.TheLanguage.{the_language}
use Rattle.wf_replay.specs.declared.engine_fault.EngineFault.{EngineFault}
use Rattle.wf_replay.specs.declared.engine_fault.EngineFault.TheVariants as engine
use Rattle.wf_replay.specs.declared.fault.ReplayFault.{ReplayFault}
use Rattle.wf_replay.specs.declared.fault.ReplayFault.TheVariants as fault

pub record Replays {H : Type 0} (world : H → World) (faults : H → Faults) (before after : History) (entry exit : H) (machine : Machine) (counted count : ℕ) (result : Result Machine ReplayFault) : Type 0 where
  -- ## The machine
  -- it stands where all records that come next lead
  pub replayed : Told (world entry) (IfOk result (λ m. goes_to the_language (standing before machine) (ahead before (world entry).seen) ≡ Ok (standing after m)))
  -- each event of theirs is one step
  pub steps : Told (world entry) (OnOk result (count ≡ counted + applied_by (ahead before (world entry).seen)))
  -- it isn't broken
  pub whole : IfOk result (λ m. (state_of m).broken ≡ false)
  -- ## The history
  -- an Ok leaves it at its end
  pub ended : OnOk result (at_end after ≡ true)
  -- it stands for its file, unless it is closed
  pub stands : is_closed after ≡ false → Told (world entry) (Stands after (world exit))
  -- only a fault of the disk closes it
  pub closes : (is_closed after ≡ true) ↔ ((is_closed before ≡ true) ⊎ IsErrOf result fault.DiskFault)
  -- whether it is new stays
  pub new : is_new after ≡ is_new before
  -- ## The file
  -- it reads as before
  pub seen : ReadsAsBefore world entry exit
  -- a crash leaves just it, and no deed
  pub any_moment : is_closed before ≡ false → AtAnyMoment world entry exit (Stays (world entry))
  -- ## The errors
  -- only where this record is the first that doesn't go on
  pub bad_event : Told (world entry) (IfErr result (λ e. (n : ℕ) → e ≡ fault.BadEvent n → goes_to the_language (standing before machine) (ahead before (world entry).seen) ≡ Err n))
  -- only where a disk call failed
  pub disk_fault : IsErrOf result fault.DiskFault → DiskFailed faults entry exit
  -- exactly where the history was closed before
  pub closed : IsErrOf result fault.Closed ↔ (is_closed before ≡ true)
  -- and then nothing changes
  pub idle : IsErrOf result fault.Closed → (after ≡ before) × (exit ≡ entry)
  -- ## The host
  -- nothing was done that others can notice
  pub deeds : DoesNoDeed world entry exit
  -- whether it tells stays
  pub tells : TellsAsBefore world entry exit
  -- no count of failed calls falls
  pub counts : NoCountFalls faults entry exit

pub record ReplaysTurns {H : Type 0} (world : H → World) (faults : H → Faults) (before after : History) (entry exit : H) (machine : Machine) (turns counted count : ℕ) (result : Result Machine ReplayFault) : Type 0 where
  -- ## The machine
  -- it stands where so many of the records that come next lead, or all where there are fewer
  pub replayed : Told (world entry) (IfOk result (λ m. goes_to the_language (standing before machine) (take turns (ahead before (world entry).seen)) ≡ Ok (standing after m)))
  -- each event of theirs is one step
  pub steps : Told (world entry) (OnOk result (count + applied_by (ahead after (world entry).seen) ≡ counted + applied_by (ahead before (world entry).seen)))
  -- it isn't broken
  pub whole : IfOk result (λ m. (state_of m).broken ≡ false)
  -- ## The history
  -- the other records come next
  pub left : Told (world entry) (OnOk result (ahead after (world entry).seen ≡ drop turns (ahead before (world entry).seen)))
  -- it stands for its file, unless it is closed
  pub stands : is_closed after ≡ false → Told (world entry) (Stands after (world exit))
  -- only a fault of the disk closes it
  pub closes : (is_closed after ≡ true) ↔ ((is_closed before ≡ true) ⊎ IsErrOf result fault.DiskFault)
  -- whether it is new stays
  pub new : is_new after ≡ is_new before
  -- ## The file
  -- it reads as before
  pub seen : ReadsAsBefore world entry exit
  -- a crash leaves just it, and no deed
  pub any_moment : is_closed before ≡ false → AtAnyMoment world entry exit (Stays (world entry))
  -- ## The errors
  -- only where this record is the first of all that come next that doesn't go on
  pub bad_event : Told (world entry) (IfErr result (λ e. (n : ℕ) → e ≡ fault.BadEvent n → goes_to the_language (standing before machine) (ahead before (world entry).seen) ≡ Err n))
  -- only where a disk call failed
  pub disk_fault : IsErrOf result fault.DiskFault → DiskFailed faults entry exit
  -- exactly where the history was closed before
  pub closed : IsErrOf result fault.Closed ↔ (is_closed before ≡ true)
  -- and then nothing changes
  pub idle : IsErrOf result fault.Closed → (after ≡ before) × (exit ≡ entry)
  -- ## The host
  -- nothing was done that others can notice
  pub deeds : DoesNoDeed world entry exit
  -- whether it tells stays
  pub tells : TellsAsBefore world entry exit
  -- no count of failed calls falls
  pub counts : NoCountFalls faults entry exit

pub record MakesFirst {H : Type 0} (world : H → World) (faults : H → Faults) (before after : History) (entry exit : H) (result : Result Machine EngineFault) : Type 0 where
  -- ## The machine
  -- it stands where the first record leads, behind which the others come next
  pub leads : Told (world entry) (IfOk result (λ m. (payload : List ℕ) × (ahead before (world entry).seen ≡ payload ∷ ahead after (world entry).seen) × (first_standing the_language (meaning payload) ≡ Some (standing after m))))
  -- so there is a record
  pub some : Told (world entry) (OnOk result (ahead before (world entry).seen ≢ []))
  -- it isn't broken
  pub whole : IfOk result (λ m. (state_of m).broken ≡ false)
  -- ## The history
  -- it stands for its file, unless it is closed
  pub stands : is_closed after ≡ false → Told (world entry) (Stands after (world exit))
  -- an Ok leaves it open
  pub still_open : OnOk result (is_closed after ≡ false)
  -- whether it is new stays
  pub new : is_new after ≡ is_new before
  -- ## The file
  -- it reads as before
  pub seen : ReadsAsBefore world entry exit
  -- a crash leaves just it, and no deed
  pub any_moment : AtAnyMoment world entry exit (Stays (world entry))
  -- ## The errors
  -- only where a disk call failed
  pub disk_fault : IsErrOf result engine.DiskFault → DiskFailed faults entry exit
  -- only where there is no record
  pub not_started : Told (world entry) (IsErrOf result engine.NotStarted → ahead before (world entry).seen ≡ [])
  -- only where the first record is no start of a program, with its number
  pub not_a_history : Told (world entry) (IfErr result (λ e. (n : ℕ) → e ≡ engine.NotAHistory n → NoFirst the_language n (ahead before (world entry).seen)))
  -- no other error comes
  pub only : OnlyErrorsOr engine.NotAHistory result (engine.DiskFault ∷ engine.NotStarted ∷ engine.OutOfMemory ∷ [])
  -- ## The host
  -- nothing was done that others can notice
  pub deeds : DoesNoDeed world entry exit
  -- whether it tells stays
  pub tells : TellsAsBefore world entry exit
  -- no count of failed calls falls
  pub counts : NoCountFalls faults entry exit

pub record MakesLast {H : Type 0} (world : H → World) (faults : H → Faults) (before after : History) (entry exit : H) (counted count : ℕ) (result : Result Machine EngineFault) : Type 0 where
  -- ## The machine
  -- it stands where all records lead
  pub leads : Told (world entry) (IfOk result (λ m. opens the_language (ahead before (world entry).seen) ≡ Ok (standing after m)))
  -- each event of theirs is one step
  pub steps : Told (world entry) (OnOk result (count ≡ counted + to_apply (ahead before (world entry).seen)))
  -- there is a record
  pub some : Told (world entry) (OnOk result (ahead before (world entry).seen ≢ []))
  -- it isn't broken
  pub whole : IfOk result (λ m. (state_of m).broken ≡ false)
  -- ## The history
  -- an Ok leaves it at its end
  pub ended : OnOk result (at_end after ≡ true)
  -- and standing for its file
  pub stands : Told (world entry) (OnOk result (Stands after (world exit)))
  -- and open
  pub still_open : OnOk result (is_closed after ≡ false)
  -- whether it is new stays
  pub new : is_new after ≡ is_new before
  -- ## The file
  -- it reads as before
  pub seen : ReadsAsBefore world entry exit
  -- a crash leaves just it, and no deed
  pub any_moment : AtAnyMoment world entry exit (Stays (world entry))
  -- ## The errors
  -- only where a disk call failed
  pub disk_fault : IsErrOf result engine.DiskFault → DiskFailed faults entry exit
  -- only where there is no record
  pub not_started : Told (world entry) (IsErrOf result engine.NotStarted → ahead before (world entry).seen ≡ [])
  -- only where the records don't open, with the number that is told
  pub not_a_history : Told (world entry) (IfErr result (λ e. (n : ℕ) → e ≡ engine.NotAHistory n → (opens the_language (ahead before (world entry).seen) ≡ Err n) × (ahead before (world entry).seen ≢ [])))
  -- no other error comes
  pub only : OnlyErrorsOr engine.NotAHistory result (engine.DiskFault ∷ engine.NotStarted ∷ engine.OutOfMemory ∷ [])
  -- ## The host
  -- nothing was done that others can notice
  pub deeds : DoesNoDeed world entry exit
  -- whether it tells stays
  pub tells : TellsAsBefore world entry exit
  -- no count of failed calls falls
  pub counts : NoCountFalls faults entry exit
