-- What the calls that open a journal promise: each fact by its name. A host is old and new, and steps are counted before and behind; `world`
-- and `faults` are what a host stands for and its counts of faults.
use Rattle.std.specs.Prelude.{◌≡◌, ◌≢◌, ◌≤◌, ◌+◌, ℕ, false, [], ◌∷◌, length, take, string_bytes, Result, String, Err, IfOk, IfErr, OnOk, IsErrOf}
use Rattle.std.specs.declared.alloc.Global.{Global}
use Rattle.wf_deeds.specs.At.{applied_by, to_apply}
use Rattle.wf_deeds.specs.History.{opens, plays}
use Rattle.wf_host.specs.Calls.{AtAnyMoment, DiskFailed, DoesNoDeed, NoCountFalls, OnlyErrorsOr, ReadsAsBefore, TellsAsBefore}
use Rattle.wf_host.specs.World.{World, Faults, Told, Only}
use Rattle.wf_journal.specs.Journal.{IsJournal}
use Rattle.wf_journal.specs.Records.{magic, records}
use Rattle.wf_machine.specs.Seen.{state_of}
use Rattle.wf_machine.specs.declared.machine.Machine.{Machine}
use Rattle.wf_replay.specs.TheLanguage.{the_language}
use Rattle.wf_replay.specs.declared.engine_fault.EngineFault.{EngineFault}
use Rattle.wf_replay.specs.declared.engine_fault.EngineFault.TheVariants as fault
use Rattle.wf_report.specs.Journals.{Reaches, Shows}

-- of `last_state`
pub record ReadsTheLastState {H : Type 0} (world : H → World) (faults : H → Faults) (before behind : ℕ) (old new : H) (r : Result Machine EngineFault) : Type 0 where
  -- the machine stands where all records of the file lead
  pub leads : Told (world old) (IfOk r (λ m. Reaches the_language (records (world old).seen) (state_of m).config))
  -- each of their events is one step
  pub steps : Told (world old) (OnOk r (behind ≡ before + to_apply (records (world old).seen)))
  -- the machine isn't broken
  pub whole : IfOk r (λ m. (state_of m).broken ≡ false)
  -- on Ok the file has the magic
  pub begins : Told (world old) (OnOk r (take 4 (world old).seen ≡ magic))
  -- nothing is written
  pub seen : ReadsAsBefore world old new
  -- a crash leaves what one at entry may have left
  pub any_moment : AtAnyMoment world old new (λ c d. (world old).may_leave c × (d ≡ (world old).deeds))
  -- DiskFault comes only where the count of failed disk calls rose
  pub disk_fault : IsErrOf r fault.DiskFault → DiskFailed faults old new
  -- NotAJournal comes only where the file has another magic
  pub not_a_journal : Told (world old) (IsErrOf r fault.NotAJournal → (5 ≤ length (world old).seen) × (take 4 (world old).seen ≢ magic))
  -- NotStarted comes only where it has no record
  pub not_started : Told (world old) (IsErrOf r fault.NotStarted → (records (world old).seen ≡ []) × IsJournal (world old).seen)
  -- what was found was read behind the opening's sync: a crash leaves just this
  pub settled : Told (world old) (OnOk r (Only (world new).seen (world new).may_leave))
  -- and so was that there is no record
  pub settled_empty : Told (world old) (IsErrOf r fault.NotStarted → Only (world new).seen (world new).may_leave)
  -- NotAHistory comes only where the records don't open, with that number
  pub not_a_history : Told (world old) (IfErr r (λ e. (n : ℕ) → e ≡ fault.NotAHistory n → (opens the_language (records (world old).seen) ≡ Err n) × (records (world old).seen ≢ []) × (take 4 (world old).seen ≡ magic)))
  -- no other fault comes
  pub only : OnlyErrorsOr fault.NotAHistory r (fault.DiskFault ∷ fault.NotAJournal ∷ fault.NotStarted ∷ fault.OutOfMemory ∷ [])
  -- no deed is done
  pub deeds : DoesNoDeed world old new
  -- whether the host tells stays
  pub tells : TellsAsBefore world old new
  -- no count of faults falls
  pub counts : NoCountFalls faults old new

-- of `state_at`, of so many turns
pub record ReadsAnEarlierState {H : Type 0} (world : H → World) (faults : H → Faults) (before behind : ℕ) (old new : H) (turns : ℕ) (r : Result (String Global) EngineFault) : Type 0 where
  -- the text shows where the start and so many turns lead, or all where there are fewer
  pub shows : Told (world old) (IfOk r (λ text. Shows the_language (records (world old).seen) turns (string_bytes text)))
  -- each event of all records is one step
  pub steps : Told (world old) (OnOk r (behind ≡ before + applied_by (records (world old).seen)))
  -- on Ok the file has the magic
  pub begins : Told (world old) (OnOk r (take 4 (world old).seen ≡ magic))
  -- nothing is written
  pub seen : ReadsAsBefore world old new
  -- a crash leaves what one at entry may have left
  pub any_moment : AtAnyMoment world old new (λ c d. (world old).may_leave c × (d ≡ (world old).deeds))
  -- DiskFault comes only where the count of failed disk calls rose
  pub disk_fault : IsErrOf r fault.DiskFault → DiskFailed faults old new
  -- NotAJournal comes only where the file has another magic
  pub not_a_journal : Told (world old) (IsErrOf r fault.NotAJournal → (5 ≤ length (world old).seen) × (take 4 (world old).seen ≢ magic))
  -- NotStarted comes only where it has no record
  pub not_started : Told (world old) (IsErrOf r fault.NotStarted → (records (world old).seen ≡ []) × IsJournal (world old).seen)
  -- what was found was read behind the opening's sync: a crash leaves just this
  pub settled : Told (world old) (OnOk r (Only (world new).seen (world new).may_leave))
  -- and so was that there is no record
  pub settled_empty : Told (world old) (IsErrOf r fault.NotStarted → Only (world new).seen (world new).may_leave)
  -- NotAHistory comes only where the records don't play, with that number
  pub not_a_history : Told (world old) (IfErr r (λ e. (n : ℕ) → e ≡ fault.NotAHistory n → (plays the_language (records (world old).seen) ≡ Err n) × (records (world old).seen ≢ []) × (take 4 (world old).seen ≡ magic)))
  -- no other fault comes
  pub only : OnlyErrorsOr fault.NotAHistory r (fault.DiskFault ∷ fault.NotAJournal ∷ fault.NotStarted ∷ fault.OutOfMemory ∷ [])
  -- no deed is done
  pub deeds : DoesNoDeed world old new
  -- whether the host tells stays
  pub tells : TellsAsBefore world old new
  -- no count of faults falls
  pub counts : NoCountFalls faults old new
