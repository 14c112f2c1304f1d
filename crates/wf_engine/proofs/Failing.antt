-- Calls that fail: of an error most of what is promised is plain.
--     is_err                             an error that is handed on
--     session_failed                     of `session`
--     begin_failed, open_failed          of `begin` and `open`
use Rattle.std.proofs.Common.{ap, inl, inr, subst, sym, ◌∙◌}
use Rattle.std.specs.Prelude.{◌≡◌, ◌≢◌, ◌⊎◌, ◌≤◌, ◌++◌, ℕ, true, false, [], ◌∷◌, length, take, Result, Ok, Err, IsErr, IsErrAnd, IsErrOf}
use Rattle.wf_lemmas.proofs.Bools.{clash}
use Rattle.wf_deeds.specs.Clauses.{KeptWithin}
use Rattle.wf_deeds.specs.History.{Standing, history}
use Rattle.wf_engine.specs.Engine.{OpeningMoment, is_closed, memory}
use Rattle.wf_engine.specs.Promises.{BeginsAnExecution, OpensAnExecution, RunsASession}
use Rattle.wf_engine.specs.TheOutside.{InTheOutside}
use Rattle.wf_engine.specs.declared.engine.Engine.{Engine}
use Rattle.wf_events.specs.Records.{Started}
use Rattle.wf_events.specs.Spelling.{record_bytes}
use Rattle.wf_history.specs.Stands.{HasNoneOrThis}
use Rattle.wf_host.specs.Calls.{AtAnyMoment, DiskFailed, DoesNoDeed, NoCountFalls, OneOf, OneOfOr, ReadsAsBefore, TellsAsBefore}
use Rattle.wf_host.specs.World.{World, Faults, LeavesOnly, Only, Rose, Told}
use Rattle.wf_host.specs.declared.data.Deed.TheVariants.{Now}
use Rattle.wf_journal.specs.Journal.{IsJournal}
use Rattle.wf_journal.specs.Records.{magic, records}
use Rattle.wf_model.specs.Config.{Active}
use Rattle.wf_replay.specs.TheLanguage.{the_language}
use Rattle.wf_replay.specs.declared.engine_fault.EngineFault.{EngineFault}
use Rattle.wf_replay.specs.declared.engine_fault.EngineFault.TheVariants as fault
use Rattle.wf_value.specs.Events.{Start}

pub is_err : {T E : Type 0} (r : Result T E) (cause : E) → IsErr r × IsErrAnd r (λ x. x ≡ cause) → r ≡ Err cause
is_err (Ok x) cause gives = absurd cc
is_err (Err f) cause gives = ap Err gives.1

same_fault : {A : Type 0} (e f : EngineFault) → IsErrOf {T = A} (Err e) f → e ≡ f
same_fault e f is = cc is

-- ## Of a session
-- the faults of its turns and of its waits
pub of_turns : (e : EngineFault) → OneOf e (fault.DiskFault ∷ fault.OutOfMemory ∷ []) → OneOf e (fault.DiskFault ∷ fault.PollFault ∷ fault.OutOfMemory ∷ [])
of_turns e (inl disk) = inl disk
of_turns e (inr memory) = inr (inr memory)

pub of_waits : (e : EngineFault) → OneOf e (fault.PollFault ∷ fault.OutOfMemory ∷ []) → OneOf e (fault.DiskFault ∷ fault.PollFault ∷ fault.OutOfMemory ∷ [])
of_waits e (inl poll) = inr (inl poll)
of_waits e (inr memory) = inr (inr memory)

pub no_poll : (e : EngineFault) → OneOf e (fault.DiskFault ∷ fault.OutOfMemory ∷ []) → e ≡ fault.PollFault → ⊥
no_poll e (inl disk) is = let no : fault.DiskFault ≡ fault.PollFault = sym disk ∙ is in cc no
no_poll e (inr memory) is = let no : fault.OutOfMemory ≡ fault.PollFault = sym memory ∙ is in cc no

pub no_disk : (e : EngineFault) → OneOf e (fault.PollFault ∷ fault.OutOfMemory ∷ []) → e ≡ fault.DiskFault → ⊥
no_disk e (inl poll) is = let no : fault.PollFault ≡ fault.DiskFault = sym poll ∙ is in cc no
no_disk e (inr memory) is = let no : fault.OutOfMemory ≡ fault.DiskFault = sym memory ∙ is in cc no

not_closed : (e : EngineFault) → OneOf e (fault.DiskFault ∷ fault.PollFault ∷ fault.OutOfMemory ∷ []) → e ≡ fault.Closed → ⊥
not_closed e (inl disk) is = let no : fault.DiskFault ≡ fault.Closed = sym disk ∙ is in cc no
not_closed e (inr (inl poll)) is = let no : fault.PollFault ≡ fault.Closed = sym poll ∙ is in cc no
not_closed e (inr (inr memory)) is = let no : fault.OutOfMemory ≡ fault.Closed = sym memory ∙ is in cc no

not_suspended : (e : EngineFault) → OneOf e (fault.DiskFault ∷ fault.PollFault ∷ fault.OutOfMemory ∷ []) → e ≡ fault.Suspended → ⊥
not_suspended e (inl disk) is = let no : fault.DiskFault ≡ fault.Suspended = sym disk ∙ is in cc no
not_suspended e (inr (inl poll)) is = let no : fault.PollFault ≡ fault.Suspended = sym poll ∙ is in cc no
not_suspended e (inr (inr memory)) is = let no : fault.OutOfMemory ≡ fault.Suspended = sym memory ∙ is in cc no

of_session : (e : EngineFault) → OneOf e (fault.DiskFault ∷ fault.PollFault ∷ fault.OutOfMemory ∷ []) → OneOf e (fault.DiskFault ∷ fault.PollFault ∷ fault.Suspended ∷ fault.Closed ∷ fault.OutOfMemory ∷ [])
of_session e (inl disk) = inl disk
of_session e (inr (inl poll)) = inr (inl poll)
of_session e (inr (inr memory)) = inr (inr (inr (inr memory)))

pub session_failed : {H : Type 0} (world : H → World) (faults : H → Faults) (before behind : Engine) (old new : H) (bound : ℕ) (e : EngineFault) (r : Result (Unit {0}) EngineFault)
    → r ≡ Err e → is_closed before ≡ false → is_closed behind ≡ true → OneOf e (fault.DiskFault ∷ fault.PollFault ∷ fault.OutOfMemory ∷ [])
    → (e ≡ fault.DiskFault → DiskFailed faults old new) → (e ≡ fault.PollFault → Rose (faults old).poll (faults new).poll)
    → InTheOutside (λ O. is_closed before ≡ false → Told (world old) (KeptWithin the_language O bound (memory before) (world old) (world new)))
    → Told (world old) ((memory before).config.outcome ≢ Active → new ≡ old)
    → (memory behind).session ≡ (memory before).session → TellsAsBefore world old new → NoCountFalls faults old new
    → RunsASession world faults before behind old new bound r
session_failed world faults before behind old new bound e r is went shut one disk poll moments finished session tells counts =
    subst (λ x. RunsASession world faults before behind old new bound x) (sym is) record {
      holds = λ still told. absurd (clash (is_closed behind) still shut);
      ended = λ O told. tt;
      suspended = λ O told so. absurd (not_suspended e one (same_fault e fault.Suspended so));
      result = tt;
      any_moment = moments;
      finished = finished;
      session = session;
      disk_fault = λ so. disk (same_fault e fault.DiskFault so);
      poll_fault = λ so. poll (same_fault e fault.PollFault so);
      closed = (λ so. absurd (not_closed e one (same_fault e fault.Closed so)), λ was. absurd (clash (is_closed before) went was));
      closes = inr shut;
      idle = λ so. absurd (not_closed e one (same_fault e fault.Closed so));
      «open» = tt;
      still_open = λ so. absurd (not_suspended e one (same_fault e fault.Suspended so));
      only = of_session e one;
      tells = tells;
      counts = counts;
    }

-- ## Of beginnings
pub begin_failed : {H : Type 0} (world : H → World) (faults : H → Faults) (start : Start) (old new : H) (e : EngineFault) (r : Result Engine EngineFault)
    → r ≡ Err e → OneOf e (fault.DiskFault ∷ fault.NotAJournal ∷ fault.AlreadyStarted ∷ fault.OutOfMemory ∷ [])
    → (e ≡ fault.DiskFault → DiskFailed faults old new) → Told (world old) (e ≡ fault.NotAJournal → (5 ≤ length (world old).seen) × (take 4 (world old).seen ≢ magic))
    → Told (world old) (e ≡ fault.AlreadyStarted → (records (world old).seen ≢ []) × IsJournal (world old).seen)
    → Told (world old) (e ≡ fault.AlreadyStarted → Only (world new).seen (world new).may_leave)
    → AtAnyMoment world old new (λ c d. ((world old).may_leave c × (d ≡ (world old).deeds)) ⊎ ((records (world old).seen ≡ []) × HasNoneOrThis (world old) (record_bytes (Started start)) c d))
    → Told (world old) (((5 ≤ length (world old).seen) × (take 4 (world old).seen ≢ magic)) ⊎ (records (world old).seen ≢ []) → LeavesOnly (world old) (world new) (λ c d. (world old).may_leave c × (d ≡ (world old).deeds)))
    → Told (world old) (((5 ≤ length (world old).seen) × (take 4 (world old).seen ≢ magic)) ⊎ (records (world old).seen ≢ []) → (world new).seen ≡ (world old).seen)
    → DoesNoDeed world old new → TellsAsBefore world old new → NoCountFalls faults old new
    → BeginsAnExecution world faults start old new r
begin_failed world faults start old new e r is one disk other started settled moments stays reads deeds tells counts =
    subst (λ x. BeginsAnExecution world faults start old new x) (sym is) record {
      holds = λ told. tt;
      stands = λ O told. tt;
      «open» = tt;
      session = tt;
      waits = tt;
      started = λ told. tt;
      any_moment = moments;
      refused_stays = stays;
      refused_reads = reads;
      disk_fault = λ so. disk (same_fault e fault.DiskFault so);
      not_a_journal = λ told so. other told (same_fault e fault.NotAJournal so);
      a_journal = λ told. tt;
      already_started = λ told so. started told (same_fault e fault.AlreadyStarted so);
      settled = λ told so. settled told (same_fault e fault.AlreadyStarted so);
      fresh = λ told. tt;
      only = one;
      deeds = deeds;
      tells = tells;
      counts = counts;
    }

-- ## Of openings
not_other : (e : EngineFault) → OneOfOr e fault.NotAHistory (fault.DiskFault ∷ fault.NotStarted ∷ fault.OutOfMemory ∷ []) → e ≡ fault.NotAJournal → ⊥
not_other e (inl disk) is = let no : fault.DiskFault ≡ fault.NotAJournal = sym disk ∙ is in cc no
not_other e (inr (inl none)) is = let no : fault.NotStarted ≡ fault.NotAJournal = sym none ∙ is in cc no
not_other e (inr (inr (inl numbered))) is = let no : fault.NotAHistory numbered.0 ≡ fault.NotAJournal = sym numbered.1 ∙ is in cc no
not_other e (inr (inr (inr memory))) is = let no : fault.OutOfMemory ≡ fault.NotAJournal = sym memory ∙ is in cc no

of_open : (e : EngineFault) → OneOfOr e fault.NotAHistory (fault.DiskFault ∷ fault.NotStarted ∷ fault.OutOfMemory ∷ []) → OneOfOr e fault.NotAHistory (fault.DiskFault ∷ fault.NotAJournal ∷ fault.NotStarted ∷ fault.OutOfMemory ∷ [])
of_open e (inl disk) = inl disk
of_open e (inr rest) = inr (inr rest)

pub open_failed : {H : Type 0} (world : H → World) (faults : H → Faults) (before behind : ℕ) (old new : H) (e : EngineFault) (r : Result Engine EngineFault)
    → r ≡ Err e → OneOfOr e fault.NotAHistory (fault.DiskFault ∷ fault.NotStarted ∷ fault.OutOfMemory ∷ [])
    → (e ≡ fault.DiskFault → DiskFailed faults old new)
    → Told (world old) (e ≡ fault.NotStarted → (records (world old).seen ≡ []) × IsJournal (world old).seen)
    → Told (world old) (e ≡ fault.NotStarted → Only (world new).seen (world new).may_leave)
    → Told (world old) ((n : ℕ) → e ≡ fault.NotAHistory n → (history the_language (records (world old).seen) ≡ Err n) × (records (world old).seen ≢ []) × (take 4 (world old).seen ≡ magic))
    → ReadsAsBefore world old new → AtAnyMoment world old new (OpeningMoment (world old))
    → Told (world old) (((world new).deeds ≡ (world old).deeds) ⊎ ((t : ℕ) × ((world new).deeds ≡ (world old).deeds ++ Now t ∷ [])))
    → Told (world old) ((s : Standing) → history the_language (records (world old).seen) ≡ Ok s → s.config.outcome ≢ Active → (world new).deeds ≡ (world old).deeds)
    → TellsAsBefore world old new → NoCountFalls faults old new
    → OpensAnExecution world faults before behind old new r
open_failed world faults before behind old new e r is one disk none settled no_history seen moments deeds finished tells counts =
    subst (λ x. OpensAnExecution world faults before behind old new x) (sym is) record {
      holds = λ told. tt;
      opened = λ O told. tt;
      steps = λ told. tt;
      «open» = tt;
      session = λ told. tt;
      waits = tt;
      begins = λ told. tt;
      seen = seen;
      any_moment = moments;
      disk_fault = λ so. disk (same_fault e fault.DiskFault so);
      not_a_journal = λ told so. absurd (not_other e one (same_fault e fault.NotAJournal so));
      not_started = λ told so. none told (same_fault e fault.NotStarted so);
      settled = λ told so. settled told (same_fault e fault.NotStarted so);
      not_a_history = no_history;
      only = of_open e one;
      deeds = deeds;
      finished = finished;
      tells = tells;
      counts = counts;
    }
