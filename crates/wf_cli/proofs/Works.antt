-- What a command has done, from the opening of its file and the way to the outcome.
use Rattle.std.proofs.Common.{◌≡◌, ◌⊎◌, ◌≢◌, ◌≤◌, inl, inr, ⊎_elim, ℕ, Bool, true, false, List, [], ◌++◌, None, Some, Result, Ok, Err, IfOk, IsErr, IsErrAnd, refl, sym, ◌∙◌, ap, subst, append_assoc, arith}
use Rattle.std.specs.List.{AllByRecursion}
use Rattle.std.specs.Prelude.{IsErrOf, codes, decimal}
use Rattle.std.proofs.lemmas.List.{append-nil}
use Rattle.wf_lemmas.proofs.Options.{same_some}
use Rattle.wf_ast.specs.Tree.{Program}
use Rattle.wf_cli.proofs.Causes.{same_ok, same_err, both, not_both, executes_line, not_both_journals, no_argument, good_argument, argument_line, one_command, reported_line, none_found, none_needed}
use Rattle.wf_cli.proofs.Deeds.{polls_both, printed_both, small_polls}
use Rattle.wf_cli.proofs.Safe.{of_command, IsPlainEnd, plain_end, still_end}
use Rattle.wf_cli.proofs.Together.{where_told, same_bytes}
use Rattle.wf_cli.proofs.Moments.{early_nothing, late_going, safe_late}
use Rattle.wf_cli.proofs.Opens.{passed_all}
use Rattle.wf_cli.specs.Reports.{layout_of, the_reports}
use Rattle.wf_cli.specs.Said.{PolledAtMost, SaysStatus, SaysFault, SaysReport, SaysBadLine, SaysArgument, SaysSource, SaysTree, SaysLayout, SaysVerdict, SaysChecked, DoneSilently, SafeSince, LateNow, MayEndNow, Unwritten, FaultHolds, Opening, SaysResult, SaysHistory, Going, IsEnd, Worked}
use Rattle.wf_cli.specs.Top.{IsLineOf, IsBadLine, IsBadArgument, IsRefused, IsChecked, HasOtherMagic, IsStarted, IsNotStarted, IsNoHistory, Reported, IsAccepted, IsTaken, IsOfFile, IsPassed, HasNoCauseInFile, IsBehindSync, HasOutcome, MayPrint, ReadsBack, HasToSay, bad_line, bad_argument, refused, reported, of_file}
use Rattle.wf_cli.specs.declared.argument.ArgumentFault.{ArgumentFault}
use Rattle.wf_cli.specs.declared.argument.ArgumentFault.TheVariants as argument
use Rattle.wf_cli.specs.declared.end.Said.{Said}
use Rattle.wf_cli.specs.declared.end.Silence.{Silence}
use Rattle.wf_cli.specs.declared.end.Silence.TheVariants as silence
use Rattle.wf_deeds.specs.Clauses.{KeptAt}
use Rattle.wf_deeds.specs.Deeds.{IsSmall, polls}
use Rattle.wf_host.specs.Printing.{printed}
use Rattle.wf_deeds.specs.Kept as kept
use Rattle.wf_deeds.specs.Memory.{session as session_of}
use Rattle.wf_deeds.specs.Outside.{Outside}
use Rattle.wf_deeds.specs.Rules.{MayEnd}
use Rattle.wf_engine.specs.Engine.{memory}
use Rattle.wf_engine.specs.Printed as end
use Rattle.wf_engine.specs.Printed.{Scene, uses_source, uses_journal, executes, status_of, accepted_text}
use Rattle.wf_engine.specs.Safe.{IsFit, Since, SafeAt, session}
use Rattle.wf_engine.specs.Starts.{HasArgument}
use Rattle.wf_engine.specs.declared.engine.Engine.{Engine}
use Rattle.wf_host.specs.Moments.{CountsNow, started, joined, weaker}
use Rattle.wf_host.specs.World.{World, Faults, LeavesOnly, Told, Rose}
use Rattle.wf_host.specs.declared.data.Deed.{Deed}
use Rattle.wf_journal.specs.Records.{records}
use Rattle.wf_journal.specs.Standing.{new_none}
use Rattle.wf_journal.specs.Steps.{Moment}
use Rattle.wf_args.specs.Help.{help, version}
use Rattle.wf_args.specs.Lines.{PlainLine, line_of, waits_of}
use Rattle.wf_args.specs.declared.command.Command.{Command}
use Rattle.wf_args.specs.declared.command.Command.TheVariants.{Check, Format, Run, Resume, Help, Version}
use Rattle.wf_args.specs.declared.read.LineFault.{LineFault}
use Rattle.wf_args.specs.declared.read.LineFault.TheVariants as words
use Rattle.wf_model.specs.Config.{Outcome, Active, Returned, Raised, Cancelled}
use Rattle.wf_deeds.specs.At.{journal, next_session}
use Rattle.wf_deeds.specs.History.{Standing, history}
use Rattle.wf_deeds.specs.Language.{Language}
use Rattle.wf_replay.specs.TheLanguage.{the_language}
use Rattle.wf_replay.specs.declared.engine_fault.EngineFault.TheVariants as engine
use Rattle.wf_replay.specs.declared.engine_fault.EngineFault.{EngineFault}
use Rattle.wf_source.specs.Laws.{NotBoth}
use Rattle.wf_source.specs.Programs.{IsRefusalOf, IsSourceOf}
use Rattle.wf_source.specs.Sources.{read_tree}
use Rattle.wf_source.specs.Views.{TellsOf}
use Rattle.wf_source.specs.declared.fault.SourceFault.{SourceFault}
use Rattle.wf_source.specs.declared.fault.SourceFault.TheVariants as source_fault
use Rattle.wf_status.specs.Refusals.{refusal_text}
use Rattle.wf_status.specs.Statuses.{line_end, status_code, status_text}
use Rattle.wf_status.specs.declared.Refusal.{Refusal}
use Rattle.wf_status.specs.declared.Status.{Status}
use Rattle.wf_status.specs.declared.Status.TheVariants as status
use Rattle.wf_tree.specs.Trees.{Tree}
use Rattle.wf_yaml_write.specs.Layout.{written}

-- ## A status that prints a line
-- what is said with a line has its cause
says_line : (s : Scene) (old new : World) (st : Status) (line : List ℕ) (it : Said) → HasToSay s old new st line → status_text st ≡ Some line → SaysStatus st it → HasToSay s old new it.status it.text.items
says_line s old new st line it says is that = subst (λ t. HasToSay s old new it.status t) (sym (that.text line is)) (subst (λ x. HasToSay s old new x line) (sym that.status) says)

gives_line : (L : Language) (s : Scene) (image : List ℕ) (D : List Deed) (st : Status) (line : List ℕ) (it : Said) → MayPrint L s image D st line → status_text st ≡ Some line → SaysStatus st it → MayPrint L s image D it.status it.text.items
gives_line L s image D st line it gives is that = subst (λ t. MayPrint L s image D it.status t) (sym (that.text line is)) (subst (λ x. MayPrint L s image D x line) (sym that.status) gives)

-- ## A command that touches no file
-- it did nothing
abbrev still : (w : World) → DoneSilently w w
still w = record { done = []; deeds = sym (append-nil w.deeds); silent = refl }

nothing_done : (O : Outside) (s : Scene) (w : World) → ((c : List ℕ) (d : List Deed) → w.left_since w.moment c d → w.may_leave c × (d ≡ w.deeds)) → SafeSince the_language O s w w
nothing_done O s w only fit = started w (SafeAt the_language O the_reports s None w) only (λ c may. early_nothing the_language O s w c w.deeds may refl)

pub still_unwritten : (w : World) → ((c : List ℕ) (d : List Deed) → w.left_since w.moment c d → w.may_leave c × (d ≡ w.deeds)) → Unwritten w w
still_unwritten w only = (started w (λ c d. w.may_leave c) only (λ c may. may), refl)

-- a status of a suspended command has its number alone
suspended_code : (st : Status) → status_code st ≡ 13 → st ≡ status.Suspended
suspended_code status.Done is = absurd (let no : ⊥ = omega (arith, is) in no)
suspended_code status.Raised is = absurd (let no : ⊥ = omega (arith, is) in no)
suspended_code (status.BadLine n) is = absurd (let no : ⊥ = omega (arith, is) in no)
suspended_code (status.Refused r) is = absurd (let no : ⊥ = omega (arith, is) in no)
suspended_code status.BadArgument is = absurd (let no : ⊥ = omega (arith, is) in no)
suspended_code status.AlreadyStarted is = absurd (let no : ⊥ = omega (arith, is) in no)
suspended_code status.NotStarted is = absurd (let no : ⊥ = omega (arith, is) in no)
suspended_code status.ReadFault is = absurd (let no : ⊥ = omega (arith, is) in no)
suspended_code status.PrintFault is = absurd (let no : ⊥ = omega (arith, is) in no)
suspended_code status.DiskFault is = absurd (let no : ⊥ = omega (arith, is) in no)
suspended_code status.PollFault is = absurd (let no : ⊥ = omega (arith, is) in no)
suspended_code status.NotAJournal is = absurd (let no : ⊥ = omega (arith, is) in no)
suspended_code (status.NotAHistory n) is = absurd (let no : ⊥ = omega (arith, is) in no)
suspended_code status.Suspended is = refl
suspended_code status.OutOfMemory is = absurd (let no : ⊥ = omega (arith, is) in no)

-- where nothing was done a command may end, but as suspended
ends_still : (O : Outside) (s : Scene) (w : World) (st : Status) → ¬ IsBehindSync s st → MayEndNow the_language O s w w st
ends_still O s w st early image may =
    ([], sym (append-nil w.deeds), still_end the_language O (records image) _ _ (status_code st) (λ is. early (subst (IsBehindSync s) (sym (suspended_code st is)) tt)))

pub worked_nothing : (O : Outside) (s : Scene) (w : World) (r : Result Said Silence) → ((c : List ℕ) (d : List Deed) → w.left_since w.moment c d → w.may_leave c × (d ≡ w.deeds))
    → IfOk r (λ it. (image : List ℕ) (D : List Deed) → MayPrint the_language s image D it.status it.text.items) → IfOk r (λ it. ¬ IsBehindSync s it.status) → Worked O s w w r
worked_nothing O s w r only gives early = record {
  silently = still w;
  safe = nothing_done O s w only;
  gives = every r gives;
  ends = may_end r early;
  late = none_late r early;
  finished = λ st line is ended. (still_unwritten w only, refl);
  refused = λ why. (still_unwritten w only, tt);
  writes = inl (still_unwritten w only);
  idle = λ never. refl;
  unread = λ is. (still_unwritten w only, refl);
  polled = λ l is. started w (λ image all. Since w all (λ D. polls D ≤ waits_of l)) only (λ c may. ([], sym (append-nil w.deeds), omega arith));
}
  where
    every : (q : Result Said Silence) → IfOk q (λ it. (image : List ℕ) (D : List Deed) → MayPrint the_language s image D it.status it.text.items) → IfOk q (λ it. (image : List ℕ) → w.may_leave image → MayPrint the_language s image [] it.status it.text.items)
    every (Ok it) gives = λ image may. gives image []
    every (Err e) gives = tt

    may_end : (q : Result Said Silence) → IfOk q (λ it. ¬ IsBehindSync s it.status) → IfOk q (λ it. MayEndNow the_language O s w w it.status)
    may_end (Ok it) early = ends_still O s w it.status early
    may_end (Err e) early = tt

    none_late : (q : Result Said Silence) → IfOk q (λ it. ¬ IsBehindSync s it.status) → IfOk q (λ it. IsBehindSync s it.status → LateNow the_language O s w w)
    none_late (Ok it) early = λ behind. absurd (early behind)
    none_late (Err e) early = tt

-- words that are no line
pub gives_bad_line : (L : Language) (s : Scene) (n : ℕ) (r : Result Said Silence) → IsBadLine s n → IfOk r (SaysStatus (status.BadLine n)) → IfOk r (λ it. (image : List ℕ) (D : List Deed) → MayPrint L s image D it.status it.text.items)
gives_bad_line L s n (Ok it) bad says = λ image D. gives_line L s image D (status.BadLine n) (line_end (codes "bad line at word " ++ decimal n)) it (end.bad_line n bad) refl says
gives_bad_line L s n (Err e) bad says = tt

pub end_bad_line : (s : Scene) (old new : World) (a b : ℕ) (f g : Faults) (n : ℕ) (it : Said) → IsBadLine s n → SaysStatus (status.BadLine n) it → IsEnd s old new a b f g (Ok it)
end_bad_line s old new a b f g n it bad says = says_line s old new (status.BadLine n) (line_end (codes "bad line at word " ++ decimal n)) it (bad_line n bad) refl says

-- an argument that is bad
gives_bad_argument : (L : Language) (s : Scene) (it : Said) → IsBadArgument s → SaysStatus status.BadArgument it → (image : List ℕ) (D : List Deed) → MayPrint L s image D it.status it.text.items
gives_bad_argument L s it bad says = λ image D. gives_line L s image D status.BadArgument (line_end (codes "bad argument")) it (end.bad_argument bad) refl says

end_bad_argument : (s : Scene) (old new : World) (a b : ℕ) (f g : Faults) (it : Said) → IsBadArgument s → SaysStatus status.BadArgument it → IsEnd s old new a b f g (Ok it)
end_bad_argument s old new a b f g it bad says = says_line s old new status.BadArgument (line_end (codes "bad argument")) it (bad_argument bad) refl says

-- a source that is refused
pub gives_refused : (L : Language) (s : Scene) (why : Refusal) (it : Said) → IsRefused s why → SaysStatus (status.Refused why) it → (image : List ℕ) (D : List Deed) → MayPrint L s image D it.status it.text.items
gives_refused L s why it is says = λ image D. gives_line L s image D (status.Refused why) (line_end (refusal_text why)) it (end.refused why is) refl says

pub end_refused : (s : Scene) (old new : World) (a b : ℕ) (f g : Faults) (why : Refusal) (it : Said) → IsRefused s why → ¬ IsBadArgument s → SaysStatus (status.Refused why) it → IsEnd s old new a b f g (Ok it)
end_refused s old new a b f g why it is fine says = says_line s old new (status.Refused why) (line_end (refusal_text why)) it (refused why is fine) refl says

-- a report
pub gives_report : (L : Language) (s : Scene) (text : List ℕ) (it : Said) → Reported s text → (it.status ≡ status.Done) × (it.text.items ≡ text) → (image : List ℕ) (D : List Deed) → MayPrint L s image D it.status it.text.items
gives_report L s text it report says = λ image D. subst (λ t. MayPrint L s image D it.status t) (sym says.1) (subst (λ x. MayPrint L s image D x text) (sym says.0) (end.done text report))

pub end_report : (s : Scene) (old new : World) (a b : ℕ) (f g : Faults) (text : List ℕ) (it : Said) → Reported s text → ReadsBack s text → (it.status ≡ status.Done) × (it.text.items ≡ text) → IsEnd s old new a b f g (Ok it)
end_report s old new a b f g text it report back says = subst (λ t. HasToSay s old new it.status t) (sym says.1) (subst (λ x. HasToSay s old new x text) (sym says.0) (reported text report back))

-- ## A file that isn't opened
-- an end of such a status
plain_code : (it : Said) (st : Status) → it.status ≡ st → IsPlainEnd (status_code st) → IsPlainEnd (status_code it.status)
plain_code it st is plain = subst (λ x. IsPlainEnd (status_code x)) (sym is) plain

-- the status and the line of a fault, of which the rules ask nothing at the end
pub fault_gives : (L : Language) (s : Scene) (f : EngineFault) (it : Said) → FaultHolds L s f → SaysFault f (Ok it) → ((image : List ℕ) (D : List Deed) → MayPrint L s image D it.status it.text.items) × IsPassed L s it.status × IsPlainEnd (status_code it.status)
fault_gives L s engine.DiskFault it holds says = absurd (cc says)
fault_gives L s engine.PollFault it holds says = absurd holds
fault_gives L s engine.NotAJournal it holds says =
    (λ image D. gives_line L s image D status.NotAJournal (line_end (codes "not a journal")) it (end.not_a_journal holds.0) refl says, subst (IsPassed L s) (sym says.status) holds.1, plain_code it status.NotAJournal says.status (omega arith, omega arith, omega arith))
fault_gives L s (engine.NotAHistory n) it holds says =
    (λ image D. gives_line L s image D (status.NotAHistory n) (line_end (codes "not a history at record " ++ decimal n)) it (end.not_a_history n holds.0) refl says, subst (IsPassed L s) (sym says.status) holds.1, plain_code it (status.NotAHistory n) says.status (omega arith, omega arith, omega arith))
fault_gives L s engine.AlreadyStarted it holds says =
    (λ image D. gives_line L s image D status.AlreadyStarted (line_end (codes "already started")) it (end.already_started holds.0) refl says, subst (IsPassed L s) (sym says.status) holds.1, plain_code it status.AlreadyStarted says.status (omega arith, omega arith, omega arith))
fault_gives L s engine.NotStarted it holds says =
    (λ image D. gives_line L s image D status.NotStarted (line_end (codes "not started")) it (end.not_started holds.0) refl says, subst (IsPassed L s) (sym says.status) holds.1, plain_code it status.NotStarted says.status (omega arith, omega arith, omega arith))
fault_gives L s engine.Suspended it holds says = absurd holds
fault_gives L s engine.Closed it holds says = absurd (cc says)
fault_gives L s engine.OutOfMemory it holds says = absurd (cc says)

-- records that are no history aren't those of a fit file
no_fit : (L : Language) (s : Scene) (n : ℕ) → IsNoHistory L s n → IsPassed L s (status.NotAHistory n) → IsFit L s.found → ⊥
no_fit L s n why passed (inl short) = passed.not_started (omega arith) (none_needed L s n why, new_none s.found short)
no_fit L s n why passed (inr (inl (begins, none))) = passed.not_started (omega arith) (none_needed L s n why, none)
no_fit L s n why passed (inr (inr (begins, (st, is)))) = not_both (history L (records s.found)) st n is (none_found L s n why)

-- what a status behind the opening's sync tells
pub fault_late : (O : Outside) (s : Scene) (old new : World) (f : EngineFault) (it : Said) → FaultHolds the_language s f → ((f ≡ engine.AlreadyStarted) ⊎ (f ≡ engine.NotStarted) → LateNow the_language O s old new) → SaysFault f (Ok it) → IsBehindSync s it.status → LateNow the_language O s old new
fault_late O s old new engine.DiskFault it holds late says behind = absurd (cc says)
fault_late O s old new engine.PollFault it holds late says behind = absurd holds
fault_late O s old new engine.NotAJournal it holds late says behind = absurd (subst (IsBehindSync s) says.status behind)
fault_late O s old new (engine.NotAHistory n) it holds late says behind = λ fit. absurd (no_fit the_language s n holds.0 holds.1 fit)
fault_late O s old new engine.AlreadyStarted it holds late says behind = late (inl refl)
fault_late O s old new engine.NotStarted it holds late says behind = late (inr refl)
fault_late O s old new engine.Suspended it holds late says behind = absurd holds
fault_late O s old new engine.Closed it holds late says behind = absurd (cc says)
fault_late O s old new engine.OutOfMemory it holds late says behind = absurd (cc says)

-- a fault is of the file, whether or not the host tells
fault_of_file : (f : EngineFault) (it : Said) → SaysFault f (Ok it) → IsOfFile it.status
fault_of_file engine.DiskFault it says = absurd (cc says)
fault_of_file engine.PollFault it says = absurd (cc says)
fault_of_file engine.NotAJournal it says = inl says.status
fault_of_file (engine.NotAHistory n) it says = inr (inr (inr (inl (n, says.status))))
fault_of_file engine.AlreadyStarted it says = inr (inl says.status)
fault_of_file engine.NotStarted it says = inr (inr (inl says.status))
fault_of_file engine.Suspended it says = inr (inr (inr (inr (inl says.status))))
fault_of_file engine.Closed it says = absurd (cc says)
fault_of_file engine.OutOfMemory it says = absurd (cc says)

abbrev as_err : Silence → Result Said Silence
as_err e = Err e

err_is : (e g : Silence) → as_err e ≡ as_err g → e ≡ g
err_is e g is = same_err (as_err e) e g refl is

-- a silence of a fault is the disk's, a poll's or memory's
pub fault_silence : (f : EngineFault) (e : Silence) → SaysFault f (Err e) → ((f ≡ engine.DiskFault) × (e ≡ silence.DiskFault)) ⊎ ((f ≡ engine.PollFault) × (e ≡ silence.PollFault)) ⊎ (e ≡ silence.OutOfMemory)
fault_silence engine.DiskFault e says = inl (refl, err_is e silence.DiskFault says)
fault_silence engine.PollFault e says = inr (inl (refl, err_is e silence.PollFault says))
fault_silence engine.NotAJournal e says = inr (inr says)
fault_silence (engine.NotAHistory n) e says = inr (inr says)
fault_silence engine.AlreadyStarted e says = inr (inr says)
fault_silence engine.NotStarted e says = inr (inr says)
fault_silence engine.Suspended e says = inr (inr says)
fault_silence engine.Closed e says = inr (inr (err_is e silence.OutOfMemory says))
fault_silence engine.OutOfMemory e says = inr (inr (err_is e silence.OutOfMemory says))

-- and so no failed read
pub not_unread : (f : EngineFault) (r : Result Said Silence) → SaysFault f r → IsErrOf r silence.Unread → ⊥
not_unread f (Ok it) says is = cc is
not_unread f (Err e) says is = by (fault_silence f e says) (err_is e silence.Unread is)
  where
    by : ((f ≡ engine.DiskFault) × (e ≡ silence.DiskFault)) ⊎ ((f ≡ engine.PollFault) × (e ≡ silence.PollFault)) ⊎ (e ≡ silence.OutOfMemory) → e ≡ silence.Unread → ⊥
    by (inl (which, disk)) unread = let no : silence.DiskFault ≡ silence.Unread = sym disk ∙ unread in cc no
    by (inr (inl (which, poll))) unread = let no : silence.PollFault ≡ silence.Unread = sym poll ∙ unread in cc no
    by (inr (inr lack)) unread = let no : silence.OutOfMemory ≡ silence.Unread = sym lack ∙ unread in cc no

-- where nothing was sent or awaited by any moment, no poll was made
small_polled : (old new : World) (n : ℕ) → LeavesOnly old new (λ image all. Since old all (λ D. AllByRecursion IsSmall D)) → PolledAtMost old new n
small_polled old new n moments =
    weaker old new (λ image all. Since old all (λ D. AllByRecursion IsSmall D)) (λ image all. Since old all (λ D. polls D ≤ n)) moments (λ c d (D, is, small). (D, is, let none = small_polls D small in omega (arith, none)))

pub end_fault : (s : Scene) (old new : World) (a b : ℕ) (f g : Faults) (why : EngineFault) (r : Result Said Silence) → SaysFault why r → IsLineOf s (λ c. uses_journal c ≡ true) → IsTaken s → Told old (FaultHolds the_language s why) → Told old (DoneSilently old new)
    → (why ≡ engine.DiskFault → Rose f.disk g.disk) → why ≢ engine.PollFault → IsEnd s old new a b f g r
end_fault s old new a b f g why (Ok it) says line taken holds silently rose heard =
    of_file it.status it.text.items (fault_of_file why it says) line taken (λ told. let x = fault_gives the_language s why it (holds told) says in let did = silently told in ((did.done, did.deeds, x.0 new.seen did.done), x.1))
end_fault s old new a b f g why (Err e) says line taken holds silently rose heard =
    ⊎_elim (λ disk. subst (λ x. IsEnd s old new a b f g (Err x)) (sym disk.1) (line, taken, rose disk.0))
    (λ other. ⊎_elim (λ poll. absurd (heard poll.0)) (λ lack. subst (λ x. IsEnd s old new a b f g (Err x)) (sym lack) tt) other) (fault_silence why e says)

pub worked_fault : (O : Outside) (s : Scene) (command : kept.Command) (old new : World) (why : EngineFault) (r : Result Said Silence) → Opening O command s old new (Err why) → SaysFault why r → IsLineOf s (λ c. executes c ≡ true)
    → IsTaken s → (IsLineOf s (λ c. c ≡ Resume) → command ≡ kept.Resume) → Worked O s old new r
worked_fault O s command old new why r o says line taken which = record {
  silently = o.silently;
  safe = o.safe;
  gives = given r says;
  ends = may_end r says;
  late = late_if r says;
  finished = λ st line2 is ended. (o.resumed (which line2), o.finished st line2 is ended);
  refused = λ why. (o.refused why, o.small_now);
  writes = inr (line, taken);
  idle = λ never. absurd (never (line, taken));
  unread = λ is. absurd (not_unread why r says is);
  polled = λ l is. small_polled old new (waits_of l) o.small;
}
  where
    given : (q : Result Said Silence) → SaysFault why q → IfOk q (λ it. (image : List ℕ) → new.may_leave image → MayPrint the_language s image o.silently.done it.status it.text.items)
    given (Ok it) says = λ image may. (fault_gives the_language s why it o.fault says).0 image o.silently.done
    given (Err e) says = tt

    may_end : (q : Result Said Silence) → SaysFault why q → IfOk q (λ it. MayEndNow the_language O s old new it.status)
    may_end (Ok it) says = λ image may. (o.silently.done, o.silently.deeds, plain_end the_language O (session the_language O the_reports s None image o.silently.done) (status_code it.status) (fault_gives the_language s why it o.fault says).2)
    may_end (Err e) says = tt

    late_if : (q : Result Said Silence) → SaysFault why q → IfOk q (λ it. IsBehindSync s it.status → LateNow the_language O s old new)
    late_if (Ok it) says = λ behind. fault_late O s old new why it o.fault o.late says behind
    late_if (Err e) says = tt

-- ## The outcome
-- a status that is said of an outcome is of the file
outcome_of_file : (o : Outcome) (st : Status) → status_of o ≡ Some st → IsOfFile st
outcome_of_file Active st is = let no : None ≡ Some st = is in absurd (cc no)
outcome_of_file (Returned v) st is = inr (inr (inr (inr (inr (inl (sym (same_some (Some status.Done) status.Done st refl is)))))))
outcome_of_file (Raised e) st is = inr (inr (inr (inr (inr (inr (sym (same_some (Some status.Raised) status.Raised st refl is)))))))
outcome_of_file Cancelled st is = let no : None ≡ Some st = is in absurd (cc no)

-- the outcome of what stands there
history_gives : (L : Language) (s : Scene) (l : PlainLine) (new : World) (D done : List Deed) (it : Said) → line_of s.words ≡ Ok l → IsLineOf s (λ c. executes c ≡ true) → polls D ≡ 0 → SaysHistory L (waits_of l) new done it → (image : List ℕ) → new.may_leave image
    → MayPrint L s image (D ++ done) it.status it.text.items
history_gives L s l new D done it is line unpolled says image may =
    let here : HasOutcome L s image says.standing.config.outcome = (line, (says.standing, subst (λ f. history L (records f) ≡ Ok says.standing) (sym (says.settled image may)) says.history, refl)) in
    ⊎_elim (λ that. subst (λ t. MayPrint L s image (D ++ done) it.status t) (sym that.text) (end.ended says.standing.config.outcome it.status here that.status))
    (λ (active, polled, that).
    let all : polls (D ++ done) ≡ waits_of l = (let both = polls_both D done in omega (arith, both, unpolled, polled)) in
    gives_line L s image (D ++ done) status.Suspended (line_end (codes "suspended")) it (end.suspended (subst (λ o. HasOutcome L s image o) active here, (l, is, all))) refl that)
    says.says

module _ (O : Outside) (s : Scene) (l : PlainLine) (is_line : line_of s.words ≡ Ok l) (command : kept.Command) (old mid new : World) (e : Engine) (r : Result Said Silence) (line : IsLineOf s (λ c. executes c ≡ true)) (taken : IsTaken s) (which : IsLineOf s (λ c. c ≡ Resume) → command ≡ kept.Resume) (found : old.seen ≡ s.found)
    (counts : CountsNow mid) (counts_new : CountsNow new) (o : Opening O command s old mid (Ok e)) (g : Going the_language O command (memory e) (waits_of l) o.silently.done mid new r) (read : IsErrOf r silence.Unread → ⊥) where
  -- the deeds of the opening and those of the session
  abbrev all : List Deed
  all = o.silently.done ++ g.silently.done

  all_done : new.deeds ≡ old.deeds ++ all
  all_done = g.silently.deeds ∙ ap (λ l. l ++ g.silently.done) o.silently.deeds ∙ append_assoc old.deeds o.silently.done g.silently.done

  given : (L : Language) (q : Result Said Silence) → IfOk q (SaysHistory L (waits_of l) new g.silently.done) → IfOk q (λ it. (image : List ℕ) → new.may_leave image → MayPrint L s image all it.status it.text.items)
  given L (Ok it) says = history_gives L s l new o.silently.done g.silently.done it is_line line o.opened.unpolled says
  given L (Err x) says = tt

  -- a crash leaves just what was read, so the command may end with it
  may_end : (q : Result Said Silence) → IfOk q (SaysHistory the_language (waits_of l) new g.silently.done) → IfOk q (λ it. MayEnd the_language O (session_of command false (memory e) (records new.seen) all) (status_code it.status)) → IfOk q (λ it. MayEndNow the_language O s old new it.status)
  may_end (Ok it) says ends = λ image may. (
    all,
    all_done,
    subst (λ f. MayEnd the_language O (session the_language O the_reports s None f all) (status_code it.status)) (sym (says.settled image may))
        (subst (λ k. MayEnd the_language O (of_command (records new.seen) (next_session (journal the_language (records s.found))) all k None) (status_code it.status)) (sym o.opened.is_of)
        (subst (λ n. MayEnd the_language O (of_command (records new.seen) n all command None) (status_code it.status)) o.opened.number ends)),
  )
  may_end (Err x) says ends = tt

  late_now : (q : Result Said Silence) → IfOk q (λ it. IsBehindSync s it.status → LateNow the_language O s old new)
  late_now (Ok it) = λ behind fit image may. late_going the_language O s command (waits_of l) old mid o.silently.done e image new.deeds o.opened o.silently.deeds o.silently.silent (g.moments.each image new.deeds (counts_new mid.moment image g.moments.later may))
  late_now (Err x) = tt

  no_cause : HasOtherMagic s ⊎ IsStarted s ⊎ IsNotStarted s ⊎ ((n : ℕ) × IsNoHistory the_language s n) → ⊥
  no_cause (inl why) = o.opened.causes.magic why
  no_cause (inr (inl why)) = o.opened.causes.started why
  no_cause (inr (inr (inl why))) = o.opened.causes.not_started why
  no_cause (inr (inr (inr (n, why)))) = o.opened.causes.history n why

  had_outcome : (st : Standing) → history the_language (records s.found) ≡ Ok st → st.config.outcome ≢ Active → Unwritten old mid → (memory e).config.outcome ≢ Active
  had_outcome st is ended stays active =
      let leads = o.opened.stands.leads in
      let here : history the_language (records s.found) ≡ Ok leads.standing = subst (λ f. history the_language (records f) ≡ Ok leads.standing) (stays.1 ∙ found) leads.history in
      let same : leads.standing ≡ st = same_ok (history the_language (records s.found)) leads.standing st here is in
      ended (ap (λ (k : Standing). k.config.outcome) (sym same) ∙ ap (λ c. c.outcome) leads.config ∙ active)

  both_unwritten : Unwritten old mid → Unwritten mid new → Unwritten old new
  both_unwritten first second = (
    joined old mid new (λ c d. old.may_leave c) (λ c d. mid.may_leave c) first.0 second.0 (λ c d may. first.0.each c mid.deeds (counts old.moment c first.0.later may)),
    second.1 ∙ first.1,
  )

  -- the opening polls nothing, and the session no more often than the line says
  polled_then : (c : List ℕ) (d : List Deed) → Moment mid (KeptAt the_language O command false (memory e) (waits_of l) (records mid.seen) o.silently.done) c d → Since old d (λ D. polls D ≤ waits_of l)
  polled_then c d (E, is, begins, k) = (
    o.silently.done ++ E,
    is ∙ ap (λ l. l ++ E) o.silently.deeds ∙ append_assoc old.deeds o.silently.done E,
    let sum = polls_both o.silently.done E in
        let few = k.polled in omega (arith, sum, few, o.opened.unpolled),
  )

  polled_going : PolledAtMost old new (waits_of l)
  polled_going =
      joined old mid new (λ image all. Since old all (λ D. polls D ≤ waits_of l)) (Moment mid (KeptAt the_language O command false (memory e) (waits_of l) (records mid.seen) o.silently.done)) (small_polled old mid (waits_of l) o.small) g.moments
      polled_then

  pub worked_going : Worked O s old new r
  worked_going = record {
    silently = record { done = all; deeds = all_done; silent = printed_both o.silently.done g.silently.done ∙ ap (λ l. l ++ printed g.silently.done) o.silently.silent ∙ g.silently.silent };
    safe = λ fit.
        joined old mid new (SafeAt the_language O the_reports s None old) (Moment mid (KeptAt the_language O command false (memory e) (waits_of l) (records mid.seen) o.silently.done)) (o.safe fit) g.moments
        (λ c d now. safe_late the_language O s old c d (late_going the_language O s command (waits_of l) old mid o.silently.done e c d o.opened o.silently.deeds o.silently.silent now));
    gives = given the_language r g.said;
    ends = may_end r g.said g.ends;
    late = late_now r;
    finished = λ st line2 is ended.
        let stays = o.resumed (which line2) in
        let over = g.finished (had_outcome st is ended stays) in
        (both_unwritten stays over.0, over.1 ∙ o.finished st line2 is ended);
    refused = λ why. absurd (no_cause why);
    writes = inr (line, taken);
    idle = λ never. absurd (never (line, taken));
    unread = λ is. absurd (read is);
    polled = λ m is. subst (λ k. PolledAtMost old new (waits_of k)) (same_ok (line_of s.words) l m is_line is) polled_going;
  }

-- a session ends with no failed read
pub result_not_unread : (f g : Faults) (r : Result Said Silence) → SaysResult f g r → IsErrOf r silence.Unread → ⊥
result_not_unread f g (Ok it) says is = cc is
result_not_unread f g (Err silence.Unread) says is = says
result_not_unread f g (Err silence.DiskFault) says is = cc is
result_not_unread f g (Err silence.PollFault) says is = cc is
result_not_unread f g (Err silence.OutOfMemory) says is = cc is

pub end_going : (s : Scene) (old new : World) (a b : ℕ) (f g h : Faults) (r : Result Said Silence) → SaysResult g h r → IsLineOf s (λ c. executes c ≡ true) → IsTaken s
    → Told old (HasNoCauseInFile the_language s × IfOk r (λ it. Since old new.deeds (λ D. MayPrint the_language s new.seen D it.status it.text.items))) → (Rose g.disk h.disk → Rose f.disk h.disk) → (Rose g.poll h.poll → Rose f.poll h.poll) → IsEnd s old new a b f h r
end_going s old new a b f g h (Ok it) says line taken gives rose heard =
    of_file it.status it.text.items (⊎_elim (λ (o, result, that). outcome_of_file o it.status that.status) (λ that. inr (inr (inr (inr (inl that.status))))) says) (executes_line s line) taken (λ told. let x = gives told in (x.1, passed_all the_language s it.status x.0))
end_going s old new a b f g h (Err silence.Unread) says line taken gives rose heard = absurd says
end_going s old new a b f g h (Err silence.DiskFault) says line taken gives rose heard = (executes_line s line, taken, rose says)
end_going s old new a b f g h (Err silence.PollFault) says line taken gives rose heard = (line, taken, (λ told. passed_all the_language s status.PollFault (gives told).0), heard says)
end_going s old new a b f g h (Err silence.OutOfMemory) says line taken gives rose heard = tt

-- ## Commands that touch nothing
abbrev pub OnlyNow : World → Type 0
OnlyNow w = (c : List ℕ) (d : List Deed) → w.left_since w.moment c d → w.may_leave c × (d ≡ w.deeds)

lack_end : (s : Scene) (w : World) (a b : ℕ) (f g : Faults) (e : Silence) → e ≡ silence.OutOfMemory → IsEnd s w w a b f g (Err e)
lack_end s w a b f g e is = subst (λ x. IsEnd s w w a b f g (Err x)) (sym is) tt

lack_worked : (O : Outside) (s : Scene) (w : World) (e : Silence) → OnlyNow w → Worked O s w w (Err e)
lack_worked O s w e only = worked_nothing O s w (Err e) only tt tt

-- a report
pub report_end : (s : Scene) (w : World) (a b : ℕ) (f g : Faults) (text : List ℕ) (r : Result Said Silence) → Reported s text → ReadsBack s text → SaysReport text r → IsEnd s w w a b f g r
report_end s w a b f g text (Ok it) report back says = end_report s w w a b f g text it report back says
report_end s w a b f g text (Err e) report back says = lack_end s w a b f g e says

pub report_worked : (O : Outside) (s : Scene) (w : World) (text : List ℕ) (r : Result Said Silence) → Reported s text → SaysReport text r → OnlyNow w → Worked O s w w r
report_worked O s w text (Ok it) report says only =
    worked_nothing O s w (Ok it) only (gives_report the_language s text it report says) (λ behind. not_both_journals s (subst (IsBehindSync s) says.0 behind) (reported_line s text report))
report_worked O s w text (Err e) report says only = lack_worked O s w e only

-- words that are no line
pub bad_line_end : (s : Scene) (w : World) (a b : ℕ) (f g : Faults) (why : LineFault) (r : Result Said Silence) → SaysBadLine why r → ((n : ℕ) → why ≡ words.BadLine n → IsBadLine s n) → IsEnd s w w a b f g r
bad_line_end s w a b f g (words.BadLine n) (Ok it) says bad = end_bad_line s w w a b f g n it (bad n refl) says
bad_line_end s w a b f g (words.BadLine n) (Err e) says bad = lack_end s w a b f g e says
bad_line_end s w a b f g words.OutOfMemory r says bad = subst (λ q. IsEnd s w w a b f g q) (sym says) tt

pub bad_line_worked : (O : Outside) (s : Scene) (w : World) (why : LineFault) (r : Result Said Silence) → SaysBadLine why r → ((n : ℕ) → why ≡ words.BadLine n → IsBadLine s n) → OnlyNow w → Worked O s w w r
bad_line_worked O s w (words.BadLine n) (Ok it) says bad only = worked_nothing O s w (Ok it) only (gives_bad_line the_language s n (Ok it) (bad n refl) says) (λ behind. subst (IsBehindSync s) says.status behind)
bad_line_worked O s w (words.BadLine n) (Err e) says bad only = lack_worked O s w e only
bad_line_worked O s w words.OutOfMemory r says bad only = subst (λ q. Worked O s w w q) (sym says) (lack_worked O s w silence.OutOfMemory only)

-- an argument that isn't taken
pub argument_end : (s : Scene) (w : World) (a b : ℕ) (f g : Faults) (why : ArgumentFault) (r : Result Said Silence) → SaysArgument why r → (why ≡ argument.Bad → IsBadArgument s) → IsEnd s w w a b f g r
argument_end s w a b f g argument.Bad (Ok it) says bad = end_bad_argument s w w a b f g it (bad refl) says
argument_end s w a b f g argument.Bad (Err e) says bad = lack_end s w a b f g e says
argument_end s w a b f g argument.OutOfMemory r says bad = subst (λ q. IsEnd s w w a b f g q) (sym says) tt

pub argument_worked : (O : Outside) (s : Scene) (w : World) (why : ArgumentFault) (r : Result Said Silence) → SaysArgument why r → (why ≡ argument.Bad → IsBadArgument s) → OnlyNow w → Worked O s w w r
argument_worked O s w argument.Bad (Ok it) says bad only =
    worked_nothing O s w (Ok it) only (gives_bad_argument the_language s it (bad refl) says) (λ behind. subst (IsBehindSync s) says.status behind)
argument_worked O s w argument.Bad (Err e) says bad only = lack_worked O s w e only
argument_worked O s w argument.OutOfMemory r says bad only = subst (λ q. Worked O s w w q) (sym says) (lack_worked O s w silence.OutOfMemory only)

-- a source that is refused, and one that isn't read
pub refused_worked : (O : Outside) (s : Scene) (w : World) (why : Refusal) (it : Said) → IsRefused s why → SaysStatus (status.Refused why) it → OnlyNow w → Worked O s w w (Ok it)
refused_worked O s w why it is says only = worked_nothing O s w (Ok it) only (gives_refused the_language s why it is says) (λ behind. subst (IsBehindSync s) says.status behind)

pub silent_worked : (O : Outside) (s : Scene) (w : World) (e : Silence) → OnlyNow w → Worked O s w w (Err e)
silent_worked O s w e only = lack_worked O s w e only

-- any answer without a text
pub failed_worked : (O : Outside) (s : Scene) (w : World) (r : Result Said Silence) → IsErr r → OnlyNow w → Worked O s w w r
failed_worked O s w (Ok it) is only = absurd (cc is)
failed_worked O s w (Err e) is only = silent_worked O s w e only

-- a command that takes just programs
abbrev pub TakesPrograms : Command → Type 0
TakesPrograms c = (bytes : List ℕ) (why : Refusal) → IsRefusalOf bytes why → end.refuses c bytes why

pub run_takes : (c : Command) → c ≡ Run → TakesPrograms c
run_takes c is = λ bytes why no. subst (λ d. end.refuses d bytes why) (sym is) no

pub check_takes : (c : Command) → c ≡ Check → TakesPrograms c
check_takes c is = λ bytes why no. subst (λ d. end.refuses d bytes why) (sym is) no

-- a refusal of bytes that were read
pub is_refused : (s : Scene) (l : PlainLine) (bytes : List ℕ) (why : Refusal) → end.Reads s l bytes → TakesPrograms l.command → IsRefusalOf bytes why → IsRefused s why
is_refused s l bytes why reads takes is = (l, bytes, reads, takes bytes why is)

-- bytes that are accepted are no others that are refused
is_accepted : NotBoth → (s : Scene) (l : PlainLine) (bytes : List ℕ) (p : Program) → end.Reads s l bytes → l.command ≡ Run → IsSourceOf bytes p → IsAccepted s
is_accepted apart s l bytes p reads command is =
    where_told s.source _ (λ left told why (m, other, (line, uses, first), refuses).
    let runs : m.command ≡ Run = ap (λ (k : PlainLine). k.command) (same_ok (line_of s.words) m l line reads.0) ∙ command in
    apart bytes p why is (subst (λ b. IsRefusalOf b why) (same_bytes s.source left other bytes told first reads.2) (subst (λ c. end.refuses c other why) runs refuses)))

pub is_taken : NotBoth → (s : Scene) (l : PlainLine) (bytes : List ℕ) (p : Program) → end.Reads s l bytes → l.command ≡ Run → IsSourceOf bytes p → HasArgument l → IsTaken s
is_taken apart s l bytes p reads command is has = record { argument = good_argument s l reads.0 has; source = is_accepted apart s l bytes p reads command is }

-- a line that uses no source is accepted
resume_accepted : (s : Scene) → IsLineOf s (λ c. c ≡ Resume) → IsAccepted s
resume_accepted s line = where_told s.source _ (λ left told why (m, other, (is, uses, first), refuses). absurd (not_both_uses (both s (λ c. c ≡ Resume) (λ c. uses_source c ≡ true) line (m, is, uses))))
  where
    not_both_uses : (c : Command) × (c ≡ Resume) × (uses_source c ≡ true) → ⊥
    not_both_uses (c, is, uses) = let no : false ≡ true = ap uses_source (sym is) ∙ uses in cc no

pub resume_taken : (s : Scene) → IsLineOf s (λ c. c ≡ Resume) → IsTaken s
resume_taken s line = record {
  argument = λ bad. let no : Run ≡ Resume = one_command s Run Resume (argument_line s bad) line in cc no;
  source = resume_accepted s line;
}

-- what is said of each file that a crash may leave is said of the one that reads
pub given_seen : (L : Language) (s : Scene) (old new : World) (r : Result Said Silence) (did : DoneSilently old new) → IfOk r (λ it. (image : List ℕ) → new.may_leave image → MayPrint L s image did.done it.status it.text.items) → new.may_leave new.seen
    → IfOk r (λ it. Since old new.deeds (λ D. MayPrint L s new.seen D it.status it.text.items))
given_seen L s old new (Ok it) did gives may = (did.done, did.deeds, gives new.seen may)
given_seen L s old new (Err e) did gives may = tt

pub no_said : (r : Result Said Silence) (P : Said → Type 0) → IsErr r → IfOk r P
no_said (Ok it) P is = absurd (cc is)
no_said (Err e) P is = tt

-- a failure for want of memory
pub lacks_engine : (O : Outside) (command : kept.Command) (s : Scene) (old new : World) (r : Result Engine EngineFault) → IsErr r × IsErrAnd r (λ f. f ≡ engine.OutOfMemory) → ((f : EngineFault) → f ≡ engine.OutOfMemory → Opening O command s old new (Err f)) → Opening O command s old new r
lacks_engine O command s old new (Ok e) is all = let no : false ≡ true = is.0 in absurd (cc no)
lacks_engine O command s old new (Err f) is all = all f is.1

-- what is said of a source that isn't taken
pub source_end : (s : Scene) (l : PlainLine) (w : World) (a b : ℕ) (f g : Faults) (bytes : List ℕ) (fault : SourceFault) (r : Result Said Silence) → end.Reads s l bytes → TakesPrograms l.command → ¬ IsBadArgument s → TellsOf (IsRefusalOf bytes) fault → SaysSource fault r
    → IsEnd s w w a b f g r
source_end s l w a b f g bytes (source_fault.Refused why) (Ok it) reads takes fine tells says = end_refused s w w a b f g why it (is_refused s l bytes why reads takes tells) fine says
source_end s l w a b f g bytes (source_fault.Refused why) (Err e) reads takes fine tells says = lack_end s w a b f g e says
source_end s l w a b f g bytes source_fault.OutOfMemory r reads takes fine tells says = subst (λ q. IsEnd s w w a b f g q) (sym says) tt

pub source_worked : (O : Outside) (s : Scene) (l : PlainLine) (w : World) (bytes : List ℕ) (fault : SourceFault) (r : Result Said Silence) → end.Reads s l bytes → TakesPrograms l.command → TellsOf (IsRefusalOf bytes) fault → SaysSource fault r
    → OnlyNow w → Worked O s w w r
source_worked O s l w bytes (source_fault.Refused why) (Ok it) reads takes tells says only = refused_worked O s w why it (is_refused s l bytes why reads takes tells) says only
source_worked O s l w bytes (source_fault.Refused why) (Err e) reads takes tells says only = lack_worked O s w e only
source_worked O s l w bytes source_fault.OutOfMemory r reads takes tells says only = subst (λ q. Worked O s w w q) (sym says) (lack_worked O s w silence.OutOfMemory only)

-- a command that lays out a source
abbrev pub lays_out : Command → Bool
lays_out Format = true
lays_out c = false

-- a line of another command lays none out
pub no_layout : (s : Scene) (l : PlainLine) (text : List ℕ) → line_of s.words ≡ Ok l → lays_out l.command ≡ false → ReadsBack s text
no_layout s l text is none (m, js, format) =
    let command : l.command ≡ Format = ap (λ (k : PlainLine). k.command) (same_ok (line_of s.words) l m is js) ∙ format in
    let no : true ≡ false = sym (ap lays_out command) ∙ none in
    absurd (cc no)

-- ## A source that is checked
-- commands that take no argument
check_is_not_run : (c : Command) → c ≡ Check → c ≡ Run → ⊥
check_is_not_run c is run = let no : Check ≡ Run = sym is ∙ run in cc no

format_is_not_run : (c : Command) → c ≡ Format → c ≡ Run → ⊥
format_is_not_run c is run = let no : Format ≡ Run = sym is ∙ run in cc no

-- what is said of it is a report or a refusal
verdict_said : (s : Scene) (l : PlainLine) (bytes : List ℕ) (it : Said) → end.Reads s l bytes → l.command ≡ Check → SaysVerdict bytes it
    → (IsChecked s × ((it.status ≡ status.Done) × (it.text.items ≡ accepted_text))) ⊎ ((why : Refusal) × IsRefused s why × SaysStatus (status.Refused why) it)
verdict_said s l bytes it reads command (inl (p, is, done, text)) = inl ((l, bytes, p, reads, command, is), (done, text))
verdict_said s l bytes it reads command (inr (why, is, says)) = inr (why, is_refused s l bytes why reads (check_takes l.command command) is, says)

pub checked_end : (s : Scene) (l : PlainLine) (w : World) (a b : ℕ) (f g : Faults) (r : Result Said Silence) → line_of s.words ≡ Ok l → l.command ≡ Check → SaysChecked s.source a b r → IsEnd s w w a b f g r
checked_end s l w a b f g (Ok it) is command (bytes, first, says) =
    ⊎_elim (λ (checked, that). end_report s w w a b f g accepted_text it (end.accepted checked) (no_layout s l accepted_text is (ap lays_out command)) that)
    (λ (why, refuses, that). end_refused s w w a b f g why it refuses (no_argument s l is (check_is_not_run l.command command)) that)
    (verdict_said s l bytes it (is, ap uses_source command, first) command says)
checked_end s l w a b f g (Err silence.Unread) is command rose = ((l, is, ap uses_source command), no_argument s l is (check_is_not_run l.command command), rose)
checked_end s l w a b f g (Err silence.DiskFault) is command never = absurd never
checked_end s l w a b f g (Err silence.PollFault) is command never = absurd never
checked_end s l w a b f g (Err silence.OutOfMemory) is command lacks = tt

pub checked_worked : (O : Outside) (s : Scene) (l : PlainLine) (w : World) (a b : ℕ) (r : Result Said Silence) → line_of s.words ≡ Ok l → l.command ≡ Check → SaysChecked s.source a b r → OnlyNow w → Worked O s w w r
checked_worked O s l w a b (Ok it) is command (bytes, first, says) only =
    ⊎_elim (λ (checked, that). report_worked O s w accepted_text (Ok it) (end.accepted checked) that only) (λ (why, refuses, that). refused_worked O s w why it refuses that only)
    (verdict_said s l bytes it (is, ap uses_source command, first) command says)
checked_worked O s l w a b (Err e) is command says only = silent_worked O s w e only

-- ## The layout of a source
-- what is said of a tree is a report from which the tree is read back, and what is said of a refusal a refusal
tree_said : (s : Scene) (l : PlainLine) (bytes : List ℕ) (r : Result Tree Refusal) (it : Said) → end.Reads s l bytes → l.command ≡ Format → read_tree bytes ≡ r → SaysTree r it
    → ((text : List ℕ) × Reported s text × ReadsBack s text × ((it.status ≡ status.Done) × (it.text.items ≡ text))) ⊎ ((why : Refusal) × IsRefused s why × SaysStatus (status.Refused why) it)
unfolding the_reports
tree_said s l bytes (Ok t) it reads command is says =
    inl (written t, end.formatted l bytes (written t) reads command (ap layout_of is), (λ line. (t, record { bytes = bytes; first = reads.2; tree = is; back = says.2 }, refl)), (says.0, says.1))
tree_said s l bytes (Err why) it reads command is says = inr (why, (l, bytes, reads, subst (λ c. end.refuses c bytes why) (sym command) is), says)

pub layout_end : (s : Scene) (l : PlainLine) (w : World) (a b : ℕ) (f g : Faults) (r : Result Said Silence) → line_of s.words ≡ Ok l → l.command ≡ Format → SaysLayout s.source a b r → IsEnd s w w a b f g r
layout_end s l w a b f g (Ok it) is command (bytes, first, says) =
    ⊎_elim (λ (text, report, back, that). end_report s w w a b f g text it report back that) (λ (why, refuses, that). end_refused s w w a b f g why it refuses (no_argument s l is (format_is_not_run l.command command)) that)
    (tree_said s l bytes (read_tree bytes) it (is, ap uses_source command, first) command refl says)
layout_end s l w a b f g (Err silence.Unread) is command rose = ((l, is, ap uses_source command), no_argument s l is (format_is_not_run l.command command), rose)
layout_end s l w a b f g (Err silence.DiskFault) is command never = absurd never
layout_end s l w a b f g (Err silence.PollFault) is command never = absurd never
layout_end s l w a b f g (Err silence.OutOfMemory) is command lacks = tt

pub layout_worked : (O : Outside) (s : Scene) (l : PlainLine) (w : World) (a b : ℕ) (r : Result Said Silence) → line_of s.words ≡ Ok l → l.command ≡ Format → SaysLayout s.source a b r → OnlyNow w → Worked O s w w r
layout_worked O s l w a b (Ok it) is command (bytes, first, says) only =
    ⊎_elim (λ (text, report, back, that). report_worked O s w text (Ok it) report that only) (λ (why, refuses, that). refused_worked O s w why it refuses that only)
    (tree_said s l bytes (read_tree bytes) it (is, ap uses_source command, first) command refl says)
layout_worked O s l w a b (Err e) is command says only = silent_worked O s w e only

-- a line that asks for a text of the program
pub help_reported : (s : Scene) (l : PlainLine) (text : List ℕ) → line_of s.words ≡ Ok l → l.command ≡ Help → text ≡ help → Reported s text
unfolding the_reports
help_reported s l text is command same = subst (λ t. Reported s t) (sym same) (end.helped (l, is, command))

pub version_reported : (s : Scene) (l : PlainLine) (text : List ℕ) → line_of s.words ≡ Ok l → l.command ≡ Version → text ≡ version → Reported s text
unfolding the_reports
version_reported s l text is command same = subst (λ t. Reported s t) (sym same) (end.versioned (l, is, command))
