-- What the calls of an engine promise: each fact by its name. An engine stands before and behind a call, and its host is old and new; `world`
-- and `faults` are what a host stands for and its counts of faults.
use Rattle.std.specs.Prelude.{◌≡◌, ◌≢◌, ◌⊎◌, ◌↔◌, ◌≤◌, ◌<◌, ◌+◌, ◌++◌, ℕ, Bool, true, false, [], ◌∷◌, length, take, max, Result, Ok, Err, IfOk, IfErr, OnOk, OnErr, IsErrOf}
use Rattle.wf_deeds.specs.At.{journal, next_session, to_apply}
use Rattle.wf_deeds.specs.Clauses.{AddsTurn, KeptThroughout, KeptWithin, Opened, SendsOpen, Sessions, Takes}
use Rattle.wf_deeds.specs.History.{Standing, opens}
use Rattle.wf_deeds.specs.Kept.{Run}
use Rattle.wf_deeds.specs.Memory.{AllIsSent, IsSettled, StandsFor}
use Rattle.wf_deeds.specs.Turns.{turn_of}
use Rattle.wf_engine.specs.Engine.{Holds, OpeningMoment, held, is_closed, memory, spent}
use Rattle.wf_engine.specs.Hearing.{SameBut}
use Rattle.wf_engine.specs.Sending.{SameButSent}
use Rattle.wf_engine.specs.TheOutside.{InTheOutside}
use Rattle.wf_engine.specs.declared.engine.Engine.{Engine}
use Rattle.wf_events.specs.Spelling.{record_bytes}
use Rattle.wf_history.specs.Kinds.{first_record}
use Rattle.wf_history.specs.Stands.{HasNoneOrThis}
use Rattle.wf_host.specs.Calls.{AtAnyMoment, DiskFailed, DoesNoDeed, NoCountFalls, OnlyErrors, OnlyErrorsOr, ReadsAsBefore, TellsAsBefore}
use Rattle.wf_host.specs.World.{World, Faults, Told, LeavesOnly, Only, Rose}
use Rattle.wf_host.specs.declared.data.Deed.TheVariants.{Now}
use Rattle.wf_host.specs.declared.data.Heard.{Heard}
use Rattle.wf_journal.specs.Journal.{IsJournal}
use Rattle.wf_journal.specs.Records.{magic, records}
use Rattle.wf_machine.specs.Counts.{counts_of}
use Rattle.wf_machine.specs.Outcome.{IsResult}
use Rattle.wf_model.specs.Config.{Active}
use Rattle.wf_replay.specs.TheLanguage.{the_language}
use Rattle.wf_replay.specs.declared.engine_fault.EngineFault.{EngineFault}
use Rattle.wf_replay.specs.declared.engine_fault.EngineFault.TheVariants as fault
use Rattle.wf_value.specs.Events.{Start}

-- ## Openings
-- of `begin`, with a start
pub record BeginsAnExecution {H : Type 0} (world : H → World) (faults : H → Faults) (start : Start) (old new : H) (r : Result Engine EngineFault) : Type 0 where
  -- the file is as the engine left it
  pub holds : Told (world old) (IfOk r (λ e. Holds e (world new)))
  -- it stands for its start, under the start's reading
  pub stands : InTheOutside (λ O. Told (world old) (IfOk r (λ e. (handed : Bool) → StandsFor the_language O Run handed (memory e) (records (world new).seen) (Now start.reading ∷ []))))
  -- it can go on
  pub «open» : IfOk r (λ e. is_closed e ≡ false)
  -- its session is the first
  pub session : IfOk r (λ e. (memory e).session ≡ 1)
  -- which hasn't polled
  pub waits : IfOk r (λ e. (memory e).waits ≡ 0)
  -- the start alone stands in the file
  pub started : Told (world old) (OnOk r (records (world new).seen ≡ record_bytes (first_record start) ∷ []))
  -- a crash leaves what one at entry may have left; or no record, or the start alone, where there was no record
  pub any_moment : AtAnyMoment world old new (λ c d. ((world old).may_leave c × (d ≡ (world old).deeds)) ⊎ ((records (world old).seen ≡ []) × HasNoneOrThis (world old) (record_bytes (first_record start)) c d))
  -- of a file with another magic or a record a crash leaves what one at entry may have left
  pub refused_stays : Told (world old) (((5 ≤ length (world old).seen) × (take 4 (world old).seen ≢ magic)) ⊎ (records (world old).seen ≢ []) → LeavesOnly (world old) (world new) (λ c d. (world old).may_leave c × (d ≡ (world old).deeds)))
  -- and it reads as before
  pub refused_reads : Told (world old) (((5 ≤ length (world old).seen) × (take 4 (world old).seen ≢ magic)) ⊎ (records (world old).seen ≢ []) → (world new).seen ≡ (world old).seen)
  -- DiskFault comes only where the count of failed disk calls rose
  pub disk_fault : IsErrOf r fault.DiskFault → DiskFailed faults old new
  -- NotAJournal comes only where the file has another magic
  pub not_a_journal : Told (world old) (IsErrOf r fault.NotAJournal → (5 ≤ length (world old).seen) × (take 4 (world old).seen ≢ magic))
  -- on Ok it was new or had the magic
  pub a_journal : Told (world old) (OnOk r (IsJournal (world old).seen))
  -- AlreadyStarted comes only where it has a first record
  pub already_started : Told (world old) (IsErrOf r fault.AlreadyStarted → (records (world old).seen ≢ []) × IsJournal (world old).seen)
  -- which was read behind the opening's sync: a crash leaves just this
  pub settled : Told (world old) (IsErrOf r fault.AlreadyStarted → Only (world new).seen (world new).may_leave)
  -- on Ok it had no record
  pub fresh : Told (world old) (OnOk r (records (world old).seen ≡ []))
  -- no other fault comes
  pub only : OnlyErrors r (fault.DiskFault ∷ fault.NotAJournal ∷ fault.AlreadyStarted ∷ fault.OutOfMemory ∷ [])
  -- no deed is done
  pub deeds : DoesNoDeed world old new
  -- whether the host tells stays
  pub tells : TellsAsBefore world old new
  -- no count of faults falls
  pub counts : NoCountFalls faults old new

-- of `open`, with the count of steps before and behind
pub record OpensAnExecution {H : Type 0} (world : H → World) (faults : H → Faults) (before behind : ℕ) (old new : H) (r : Result Engine EngineFault) : Type 0 where
  -- the file is as the engine left it
  pub holds : Told (world old) (IfOk r (λ e. Holds e (world new)))
  -- it stands for the records found; with an outcome it has done nothing, and else it has read the clock once
  pub opened : InTheOutside (λ O. Told (world old) (IfOk r (λ e. Opened the_language O (memory e) (world old) (world new))))
  -- each event of these records is one step
  pub steps : Told (world old) (OnOk r (behind ≡ before + to_apply (records (world old).seen)))
  -- it can go on
  pub «open» : IfOk r (λ e. is_closed e ≡ false)
  -- its session is the next one
  pub session : Told (world old) (IfOk r (λ e. (memory e).session ≡ next_session (journal the_language (records (world old).seen))))
  -- which hasn't polled
  pub waits : IfOk r (λ e. (memory e).waits ≡ 0)
  -- on Ok the file has the magic
  pub begins : Told (world old) (OnOk r (take 4 (world old).seen ≡ magic))
  -- nothing is written
  pub seen : ReadsAsBefore world old new
  -- a crash leaves what one at entry may have left, and no deed or one reading of the clock
  pub any_moment : AtAnyMoment world old new (OpeningMoment (world old))
  -- DiskFault comes only where the count of failed disk calls rose
  pub disk_fault : IsErrOf r fault.DiskFault → DiskFailed faults old new
  -- NotAJournal comes only where the file has another magic
  pub not_a_journal : Told (world old) (IsErrOf r fault.NotAJournal → (5 ≤ length (world old).seen) × (take 4 (world old).seen ≢ magic))
  -- NotStarted comes only where it has no record
  pub not_started : Told (world old) (IsErrOf r fault.NotStarted → (records (world old).seen ≡ []) × IsJournal (world old).seen)
  -- which was read behind the opening's sync: a crash leaves just this
  pub settled : Told (world old) (IsErrOf r fault.NotStarted → Only (world new).seen (world new).may_leave)
  -- NotAHistory comes only where its records don't open, with that number
  pub not_a_history : Told (world old) (IfErr r (λ e. (n : ℕ) → e ≡ fault.NotAHistory n → (opens the_language (records (world old).seen) ≡ Err n) × (records (world old).seen ≢ []) × (take 4 (world old).seen ≡ magic)))
  -- no other fault comes
  pub only : OnlyErrorsOr fault.NotAHistory r (fault.DiskFault ∷ fault.NotAJournal ∷ fault.NotStarted ∷ fault.OutOfMemory ∷ [])
  -- the clock is read at most once, and nothing else is done
  pub deeds : Told (world old) (((world new).deeds ≡ (world old).deeds) ⊎ ((t : ℕ) × ((world new).deeds ≡ (world old).deeds ++ Now t ∷ [])))
  -- with an outcome nothing is done
  pub finished : Told (world old) ((s : Standing) → opens the_language (records (world old).seen) ≡ Ok s → s.config.outcome ≢ Active → (world new).deeds ≡ (world old).deeds)
  -- whether the host tells stays
  pub tells : TellsAsBefore world old new
  -- no count of faults falls
  pub counts : NoCountFalls faults old new

-- ## Turns and sessions
-- of `turn`
pub record TakesATurn {H : Type 0} (world : H → World) (faults : H → Faults) (before behind : Engine) (old new : H) (r : Result (Unit {0}) EngineFault) : Type 0 where
  -- the file is as the engine left it
  pub holds : is_closed behind ≡ false → Told (world old) (Holds behind (world new))
  -- the turn is added to the records, and the engine stands for them
  pub adds : InTheOutside (λ O. Told (world old) (OnOk r (AddsTurn the_language O (memory before) (memory behind) (world old) (world new))))
  -- a crash leaves a history that goes on from the records before, under the rules
  pub any_moment : InTheOutside (λ O. is_closed before ≡ false → Told (world old) (KeptThroughout the_language O (memory before) (world old) (world new)))
  -- it is settled then, or its turns come to an end: what may still come has fallen
  pub goes_on : OnOk r (IsSettled (memory behind) ⊎ (spent (memory behind).config < spent (memory before).config))
  -- the turn's events are counted
  pub counted : OnOk r ((memory behind).config.moves ≡ (memory before).config.moves + counts_of (turn_of (memory before).program (memory before).config (memory before).reading (memory before).taken))
  -- never more are
  pub most : OnOk r ((memory behind).config.moves ≤ 100000)
  -- the session stays
  pub session : (memory behind).session ≡ (memory before).session
  -- its count of polls stays
  pub waits : (memory behind).waits ≡ (memory before).waits
  -- its reading stays
  pub reading : (memory behind).reading ≡ (memory before).reading
  -- DiskFault comes only where the count of failed disk calls rose
  pub disk_fault : IsErrOf r fault.DiskFault → DiskFailed faults old new
  -- Closed comes exactly where an earlier call has failed
  pub closed : IsErrOf r fault.Closed ↔ (is_closed before ≡ true)
  -- a fault closes it
  pub closes : OnErr r (is_closed behind ≡ true)
  -- what was closed changes nothing
  pub idle : IsErrOf r fault.Closed → (behind ≡ before) × (new ≡ old)
  -- on Ok it can go on
  pub «open» : OnOk r (is_closed behind ≡ false)
  -- no other fault comes
  pub only : OnlyErrors r (fault.DiskFault ∷ fault.Closed ∷ fault.OutOfMemory ∷ [])
  -- whether the host tells stays
  pub tells : TellsAsBefore world old new
  -- no count of faults falls
  pub counts : NoCountFalls faults old new

-- of `session`, which polls at most so often
pub record RunsASession {H : Type 0} (world : H → World) (faults : H → Faults) (before behind : Engine) (old new : H) (bound : ℕ) (r : Result (Unit {0}) EngineFault) : Type 0 where
  -- the file is as the engine left it
  pub holds : is_closed behind ≡ false → Told (world old) (Holds behind (world new))
  -- it went on to an outcome, and stands for what was added, sent and heard
  pub ended : InTheOutside (λ O. Told (world old) (OnOk r (Sessions the_language O false bound (memory before) (memory behind) (world old) (world new))))
  -- it polled so often and nothing can move, and it stands for what was added, sent and heard
  pub suspended : InTheOutside (λ O. Told (world old) (IsErrOf r fault.Suspended → Sessions the_language O true bound (memory before) (memory behind) (world old) (world new)))
  -- the outcome is a value or an error
  pub result : OnOk r (IsResult (memory behind).config.outcome)
  -- a crash leaves a history that goes on from the records before, under the rules; and however it ends, at no moment it has polled more often
  pub any_moment : InTheOutside (λ O. is_closed before ≡ false → Told (world old) (KeptWithin the_language O bound (memory before) (world old) (world new)))
  -- with an outcome at entry nothing is touched
  pub finished : Told (world old) ((memory before).config.outcome ≢ Active → new ≡ old)
  -- the session stays
  pub session : (memory behind).session ≡ (memory before).session
  -- DiskFault comes only where the count of failed disk calls rose
  pub disk_fault : IsErrOf r fault.DiskFault → DiskFailed faults old new
  -- PollFault comes only where the count of failed polls rose
  pub poll_fault : IsErrOf r fault.PollFault → Rose (faults old).poll (faults new).poll
  -- Closed comes exactly where an earlier call has failed
  pub closed : IsErrOf r fault.Closed ↔ (is_closed before ≡ true)
  -- a fault but Suspended closes it
  pub closes : OnErr r (IsErrOf r fault.Suspended ⊎ (is_closed behind ≡ true))
  -- what was closed changes nothing
  pub idle : IsErrOf r fault.Closed → (behind ≡ before) × (new ≡ old)
  -- on Ok it can go on
  pub «open» : OnOk r (is_closed behind ≡ false)
  -- what is suspended can go on
  pub still_open : IsErrOf r fault.Suspended → is_closed behind ≡ false
  -- no other fault comes
  pub only : OnlyErrors r (fault.DiskFault ∷ fault.PollFault ∷ fault.Suspended ∷ fault.Closed ∷ fault.OutOfMemory ∷ [])
  -- whether the host tells stays
  pub tells : TellsAsBefore world old new
  -- no count of faults falls
  pub counts : NoCountFalls faults old new

-- ## Calls
-- of `send_open`
pub record SendsTheCalls {H : Type 0} (world : H → World) (faults : H → Faults) (before behind : Engine) (old new : H) (r : Result (Unit {0}) EngineFault) : Type 0 where
  -- the file is as the engine left it
  pub holds : is_closed behind ≡ false → Told (world old) (Holds behind (world new))
  -- each started call that timed out is dropped, and then each open call that wasn't started is; with an outcome nothing is done
  pub sends : InTheOutside (λ O. Told (world old) (OnOk r (SendsOpen the_language O (memory before) (memory behind) (world old) (world new))))
  -- a crash leaves a history that goes on from the records before, under the rules
  pub any_moment : InTheOutside (λ O. is_closed before ≡ false → Told (world old) (KeptThroughout the_language O (memory before) (world old) (world new)))
  -- without an outcome all is sent then
  pub all_sent : OnOk r ((memory before).config.outcome ≡ Active → AllIsSent (memory behind))
  -- all but the calls stays
  pub same : OnOk r (SameButSent (memory before) (memory behind))
  -- it is settled still
  pub settled : OnOk r (IsSettled (memory behind))
  -- the session stays
  pub session : (memory behind).session ≡ (memory before).session
  -- nothing is written
  pub seen : ReadsAsBefore world old new
  -- Closed comes exactly where an earlier call has failed
  pub closed : IsErrOf r fault.Closed ↔ (is_closed before ≡ true)
  -- a fault closes it
  pub closes : OnErr r (is_closed behind ≡ true)
  -- what was closed changes nothing
  pub idle : IsErrOf r fault.Closed → (behind ≡ before) × (new ≡ old)
  -- on Ok it can go on
  pub «open» : OnOk r (is_closed behind ≡ false)
  -- no other fault comes
  pub only : OnlyErrors r (fault.Closed ∷ fault.OutOfMemory ∷ [])
  -- whether the host tells stays
  pub tells : TellsAsBefore world old new
  -- no count of faults falls
  pub counts : NoCountFalls faults old new

-- of `take`, of what was heard
pub record TakesWhatIsHeard (before behind : Engine) (heard : Heard) (r : Result (Unit {0}) EngineFault) : Type 0 where
  -- it stands for the poll that heard it; an answer that is whole waits for the next turn
  pub takes : InTheOutside (λ O. OnOk r (Takes the_language O (memory before) (memory behind) heard))
  -- the greater reading is the session's
  pub reading : OnOk r ((memory behind).reading ≡ max (memory before).reading heard.reading)
  -- it has waited once more
  pub waits : OnOk r ((memory behind).waits ≡ (memory before).waits + 1)
  -- the execution stays, and the calls that were sent
  pub same : OnOk r (SameBut (memory before) (memory behind))
  -- the session stays
  pub session : (memory behind).session ≡ (memory before).session
  -- the history stays
  pub holds : held behind ≡ held before
  -- Closed comes exactly where an earlier call has failed
  pub closed : IsErrOf r fault.Closed ↔ (is_closed before ≡ true)
  -- a fault closes it
  pub closes : OnErr r (is_closed behind ≡ true)
  -- what was closed stays
  pub idle : IsErrOf r fault.Closed → behind ≡ before
  -- on Ok it can go on
  pub «open» : OnOk r (is_closed behind ≡ false)
  -- no other fault comes
  pub only : OnlyErrors r (fault.Closed ∷ fault.OutOfMemory ∷ [])
