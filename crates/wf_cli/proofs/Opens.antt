-- The opening of a file for a line.
use Rattle.std.proofs.Common.{◌≡◌, ◌≤◌, ◌⊎◌, ◌≢◌, inl, inr, ℕ, true, false, List, [], ◌∷◌, ◌++◌, length, take, None, Result, Ok, Err, IfOk, IfErr, OnOk, IsErrOf, refl, sym, ◌∙◌, ap, subst, arith}
use Rattle.std.specs.List.{AllByRecursion}
use Rattle.std.proofs.lemmas.List.{append-nil, append_cancel_left}
use Rattle.wf_cli.proofs.Causes.{not_both, not_run_and_needs, not_run_and_resume, resume_needs, is_no_history, none_found, none_needed}
use Rattle.wf_cli.proofs.Moments.{early_nothing, early_now, kept_now, kept_still, late_found, no_turns_of_none, reads_none_of_none}
use Rattle.wf_cli.proofs.Safe.{of_command}
use Rattle.wf_cli.specs.Reports.{the_reports}
use Rattle.wf_cli.specs.Said.{DoneSilently, IsOpened, FaultHolds, LateNow, Opening, Unwritten}
use Rattle.wf_cli.specs.Top.{IsLineOf, HasOtherMagic, IsStarted, IsNotStarted, IsNoHistory, IsPassed, HasNoCauseInFile}
use Rattle.wf_deeds.specs.Clauses.{Opened}
use Rattle.wf_deeds.specs.Deeds.{IsSmall, polls}
use Rattle.wf_host.specs.Printing.{printed}
use Rattle.wf_deeds.specs.Kept as kept
use Rattle.wf_deeds.specs.Kept.{Kept}
use Rattle.wf_deeds.specs.Laws.{OnlyReadings}
use Rattle.wf_deeds.specs.Memory.{StandsFor}
use Rattle.wf_deeds.specs.Outside.{Outside}
use Rattle.wf_engine.specs.Engine.{memory, OpeningMoment}
use Rattle.wf_engine.specs.Printed.{Scene, uses_journal}
use Rattle.wf_engine.specs.Safe.{SafeAt, Since, command_of, command_by}
use Rattle.wf_engine.specs.declared.engine.Engine.{Engine}
use Rattle.wf_host.specs.Moments.{weaker}
use Rattle.wf_host.specs.World.{World, LeavesOnly, Only}
use Rattle.wf_host.specs.declared.data.Deed.{Deed}
use Rattle.wf_host.specs.declared.data.Deed.TheVariants.{Now}
use Rattle.wf_journal.specs.Journal.{IsJournal}
use Rattle.wf_journal.specs.Records.{magic, records}
use Rattle.wf_args.specs.Lines.{line_of}
use Rattle.wf_args.specs.declared.command.Command.TheVariants.{Run, Resume}
use Rattle.wf_model.specs.Config.{Active}
use Rattle.wf_deeds.specs.At.{journal, next_session}
use Rattle.wf_deeds.specs.History.{Standing, history}
use Rattle.wf_deeds.specs.Language.{Language}
use Rattle.wf_replay.specs.TheLanguage.{the_language}
use Rattle.wf_replay.specs.declared.engine_fault.EngineFault.TheVariants as engine
use Rattle.wf_replay.specs.declared.engine_fault.EngineFault.{EngineFault}
use Rattle.wf_status.specs.declared.Status.{Status}
use Rattle.wf_status.specs.declared.Status.TheVariants as status

-- ## Causes
pub no_magic : (s : Scene) → IsJournal s.found → ¬ HasOtherMagic s
no_magic s (inl short) why = let long = why.1 in omega (arith, short, long)
no_magic s (inr begins) why = why.2 begins

pub not_started_by_resume : (s : Scene) → IsLineOf s (λ c. c ≡ Resume) → ¬ IsStarted s
not_started_by_resume s line why = not_run_and_resume s why.0 line

pub not_resumed_by_run : (s : Scene) → IsLineOf s (λ c. c ≡ Run) → ¬ IsNotStarted s
not_resumed_by_run s line why = not_run_and_needs s line why.0

pub no_history_by_run : (L : Language) (s : Scene) (n : ℕ) → IsLineOf s (λ c. c ≡ Run) → ¬ IsNoHistory L s n
no_history_by_run L s n line why = not_run_and_needs s line (none_needed L s n why)

-- what is passed over before each status
pub passed_magic : (L : Language) (s : Scene) → IsPassed L s status.NotAJournal
passed_magic L s = record {
  magic = λ low. absurd (let no : ⊥ = omega (arith, low) in no);
  started = λ low. absurd (let no : ⊥ = omega (arith, low) in no);
  not_started = λ low. absurd (let no : ⊥ = omega (arith, low) in no);
  history = λ n low. absurd (let no : ⊥ = omega (arith, low) in no);
}

pub passed_started : (L : Language) (s : Scene) → ¬ HasOtherMagic s → IsPassed L s status.AlreadyStarted
passed_started L s none = record {
  magic = λ low. none;
  started = λ low. absurd (let no : ⊥ = omega (arith, low) in no);
  not_started = λ low. absurd (let no : ⊥ = omega (arith, low) in no);
  history = λ n low. absurd (let no : ⊥ = omega (arith, low) in no);
}

pub passed_not_started : (L : Language) (s : Scene) → ¬ HasOtherMagic s → ¬ IsStarted s → IsPassed L s status.NotStarted
passed_not_started L s none none2 = record {
  magic = λ low. none;
  started = λ low. none2;
  not_started = λ low. absurd (let no : ⊥ = omega (arith, low) in no);
  history = λ n low. absurd (let no : ⊥ = omega (arith, low) in no);
}

pub passed_history : (L : Language) (s : Scene) (m : ℕ) → ¬ HasOtherMagic s → ¬ IsStarted s → ¬ IsNotStarted s → IsPassed L s (status.NotAHistory m)
passed_history L s m none none2 none3 = record {
  magic = λ low. none;
  started = λ low. none2;
  not_started = λ low. none3;
  history = λ n low. absurd (let no : ⊥ = omega (arith, low) in no);
}

pub passed_all : (L : Language) (s : Scene) (st : Status) → HasNoCauseInFile L s → IsPassed L s st
passed_all L s st none = record { magic = λ low. none.magic; started = λ low. none.started; not_started = λ low. none.not_started; history = λ n low. none.history n }

pub resume_uses : (s : Scene) → IsLineOf s (λ c. c ≡ Resume) → IsLineOf s (λ c. uses_journal c ≡ true)
resume_uses s (l, is, it) = (l, is, ap uses_journal it)

pub run_uses : (s : Scene) → IsLineOf s (λ c. c ≡ Run) → IsLineOf s (λ c. uses_journal c ≡ true)
run_uses s (l, is, it) = (l, is, ap uses_journal it)

pub resume_command : (s : Scene) → IsLineOf s (λ c. c ≡ Resume) → command_by (line_of s.words) ≡ kept.Resume
resume_command s (l, is, it) = ap command_by is ∙ ap command_of it

pub run_command : (s : Scene) → IsLineOf s (λ c. c ≡ Run) → command_by (line_of s.words) ≡ kept.Run
run_command s (l, is, it) = ap command_by is ∙ ap command_of it

-- ## Deeds
abbrev pub nothing_silently : (old new : World) → new.deeds ≡ old.deeds → DoneSilently old new
nothing_silently old new is = record { done = []; deeds = is ∙ sym (append-nil old.deeds); silent = refl }

abbrev pub read_silently : (old new : World) (t : ℕ) → new.deeds ≡ old.deeds ++ Now t ∷ [] → DoneSilently old new
read_silently old new t is = record { done = Now t ∷ []; deeds = is; silent = refl }

-- by a moment of an opening nothing was sent or awaited
pub opening_small : (old : World) (c : List ℕ) (d : List Deed) → OpeningMoment old c d → Since old d (λ D. AllByRecursion IsSmall D)
opening_small old c d (may, inl is) = ([], is ∙ sym (append-nil old.deeds), tt)
opening_small old c d (may, inr (t, is)) = (Now t ∷ [], is, (tt, tt))

-- the first records of what is found are those of an empty front
pub no_record_no_history : (L : Language) (J : List (List ℕ)) (st : Standing) → history L J ≡ Ok st → J ≡ [] → ⊥
unfolding history
no_record_no_history L J st is none = let no : Err 0 ≡ Ok st = ap (history L) (sym none) ∙ is in cc no

-- ## Resuming
-- an opening polls nothing
pub not_of_polls : (f : EngineFault) → (f ≡ engine.DiskFault) ⊎ (f ≡ engine.NotAJournal) ⊎ (f ≡ engine.NotStarted) ⊎ ((n : ℕ) × (f ≡ engine.NotAHistory n)) ⊎ (f ≡ engine.OutOfMemory) → f ≢ engine.PollFault
not_of_polls f (inl is) poll = let no : engine.DiskFault ≡ engine.PollFault = sym is ∙ poll in cc no
not_of_polls f (inr (inl is)) poll = let no : engine.NotAJournal ≡ engine.PollFault = sym is ∙ poll in cc no
not_of_polls f (inr (inr (inl is))) poll = let no : engine.NotStarted ≡ engine.PollFault = sym is ∙ poll in cc no
not_of_polls f (inr (inr (inr (inl (n, is))))) poll = let no : engine.NotAHistory n ≡ engine.PollFault = sym is ∙ poll in cc no
not_of_polls f (inr (inr (inr (inr is)))) poll = let no : engine.OutOfMemory ≡ engine.PollFault = sym is ∙ poll in cc no

-- what an opening promises
pub record Clauses (O : Outside) (old new : World) (r : Result Engine EngineFault) : Type 0 where
  pub opened : IfOk r (λ e. Opened the_language O (memory e) old new)
  pub session : IfOk r (λ e. (memory e).session ≡ next_session (journal the_language (records old.seen)))
  pub begins : OnOk r (take 4 old.seen ≡ magic)
  pub seen : new.seen ≡ old.seen
  pub any_moment : LeavesOnly old new (OpeningMoment old)
  pub not_a_journal : IsErrOf r engine.NotAJournal → (5 ≤ length old.seen) × (take 4 old.seen ≢ magic)
  pub not_started : IsErrOf r engine.NotStarted → (records old.seen ≡ []) × IsJournal old.seen
  pub settled : IsErrOf r engine.NotStarted → Only new.seen new.may_leave
  pub not_a_history : IfErr r (λ e. (n : ℕ) → e ≡ engine.NotAHistory n → (history the_language (records old.seen) ≡ Err n) × (records old.seen ≢ []) × (take 4 old.seen ≡ magic))
  pub only : IfErr r (λ e. (e ≡ engine.DiskFault) ⊎ (e ≡ engine.NotAJournal) ⊎ (e ≡ engine.NotStarted) ⊎ ((n : ℕ) × (e ≡ engine.NotAHistory n)) ⊎ (e ≡ engine.OutOfMemory))
  pub deeds : (new.deeds ≡ old.deeds) ⊎ ((t : ℕ) × (new.deeds ≡ old.deeds ++ Now t ∷ []))
  pub finished : (s : Standing) → history the_language (records old.seen) ≡ Ok s → s.config.outcome ≢ Active → new.deeds ≡ old.deeds

module _ (O : Outside) (s : Scene) (old new : World) (line : IsLineOf s (λ c. c ≡ Resume)) (found : old.seen ≡ s.found) where
  moment_safe : (L : Language) (c : List ℕ) (d : List Deed) → OpeningMoment old c d → SafeAt L O the_reports s None old c d
  moment_safe L c d (may, inl is) = early_nothing L O s old c d may is
  moment_safe L c d (may, inr (t, is)) = early_now L O s old c d t may is

  silently_of : (new.deeds ≡ old.deeds) ⊎ ((t : ℕ) × (new.deeds ≡ old.deeds ++ Now t ∷ [])) → DoneSilently old new
  silently_of (inl is) = nothing_silently old new is
  silently_of (inr (t, is)) = read_silently old new t is

  small_of : (one : (new.deeds ≡ old.deeds) ⊎ ((t : ℕ) × (new.deeds ≡ old.deeds ++ Now t ∷ []))) → AllByRecursion IsSmall (silently_of one).done
  unfolding silently_of
  small_of (inl is) = tt
  small_of (inr (t, is)) = (tt, tt)

  -- an opening polls nothing
  unpolled_of : (D : List Deed) → (new.deeds ≡ old.deeds) ⊎ ((t : ℕ) × (new.deeds ≡ old.deeds ++ Now t ∷ [])) → new.deeds ≡ old.deeds ++ D → polls D ≡ 0
  unpolled_of D (inl is) deeds = ap polls (append_cancel_left old.deeds D [] (sym deeds ∙ is ∙ sym (append-nil old.deeds)))
  unpolled_of D (inr (t, is)) deeds = ap polls (append_cancel_left old.deeds D (Now t ∷ []) (sym deeds ∙ is))

  causes_of : (L : Language) → take 4 s.found ≡ magic → (st : Standing) → history L (records s.found) ≡ Ok st → HasNoCauseInFile L s
  causes_of L begins st is = record {
    magic = no_magic s (inr begins);
    started = not_started_by_resume s line;
    not_started = λ why. no_record_no_history L (records s.found) st is why.1;
    history = λ n why. not_both (history L (records s.found)) st n is (none_found L s n why);
  }

  opened_of : (e : Engine) (done : List Deed) → new.deeds ≡ old.deeds ++ done → Clauses O old new (Ok e) → IsOpened the_language O kept.Resume s done new e
  opened_of e done deeds k =
      let o = k.opened in
      let same : o.done ≡ done = append_cancel_left old.deeds o.done done (sym o.deeds ∙ deeds) in
      let stays : records new.seen ≡ records s.found = ap records (k.seen ∙ found) in
      let leads = o.leads in
      let is : history the_language (records s.found) ≡ Ok leads.standing = subst (λ J. history the_language J ≡ Ok leads.standing) stays leads.history in
      record {
        stands = subst (λ D. StandsFor the_language O kept.Resume false (memory e) (records new.seen) D) same (o.stands (leads.standing, leads.history) false);
        unpolled = unpolled_of done k.deeds deeds;
        number = k.session ∙ ap (λ f. next_session (journal the_language (records f))) found;
        added = [];
        own = tt;
        keeps = stays ∙ sym (append-nil (records s.found));
        start = λ none. absurd (no_record_no_history the_language (records s.found) leads.standing is none);
        is_of = resume_command s line;
        causes = causes_of the_language (subst (λ f. take 4 f ≡ magic) found k.begins) leads.standing is;
      }

  fault_of : (f : EngineFault) → Clauses O old new (Err f) → FaultHolds the_language s f
  fault_of engine.DiskFault k = tt
  fault_of engine.PollFault k = absurd (none k.only)
    where
      none : (engine.PollFault ≡ engine.DiskFault) ⊎ (engine.PollFault ≡ engine.NotAJournal) ⊎ (engine.PollFault ≡ engine.NotStarted) ⊎ ((n : ℕ) × (engine.PollFault ≡ engine.NotAHistory n)) ⊎ (engine.PollFault ≡ engine.OutOfMemory) → ⊥
      none (inl is) = cc is
      none (inr (inl is)) = cc is
      none (inr (inr (inl is))) = cc is
      none (inr (inr (inr (inl (n, is))))) = cc is
      none (inr (inr (inr (inr is)))) = cc is
  fault_of engine.NotAJournal k =
      let why = subst (λ f. (5 ≤ length f) × (take 4 f ≢ magic)) found (k.not_a_journal refl) in
      ((resume_uses s line, why.0, why.1), passed_magic the_language s)
  fault_of (engine.NotAHistory n) k =
      let why = subst (λ f. (history the_language (records f) ≡ Err n) × (records f ≢ []) × (take 4 f ≡ magic)) found (k.not_a_history n refl) in
      (is_no_history the_language s n (resume_needs s line) why.0, passed_history the_language s n (no_magic s (inr why.2)) (not_started_by_resume s line) (λ no. why.1 no.1))
  fault_of engine.AlreadyStarted k = absurd (none k.only)
    where
      none : (engine.AlreadyStarted ≡ engine.DiskFault) ⊎ (engine.AlreadyStarted ≡ engine.NotAJournal) ⊎ (engine.AlreadyStarted ≡ engine.NotStarted) ⊎ ((n : ℕ) × (engine.AlreadyStarted ≡ engine.NotAHistory n)) ⊎ (engine.AlreadyStarted ≡ engine.OutOfMemory) → ⊥
      none (inl is) = cc is
      none (inr (inl is)) = cc is
      none (inr (inr (inl is))) = cc is
      none (inr (inr (inr (inl (n, is))))) = cc is
      none (inr (inr (inr (inr is)))) = cc is
  fault_of engine.NotStarted k =
      let why = subst (λ f. (records f ≡ []) × IsJournal f) found (k.not_started refl) in
      ((resume_needs s line, why.0), passed_not_started the_language s (no_magic s why.1) (not_started_by_resume s line))
  fault_of engine.Suspended k = absurd (none k.only)
    where
      none : (engine.Suspended ≡ engine.DiskFault) ⊎ (engine.Suspended ≡ engine.NotAJournal) ⊎ (engine.Suspended ≡ engine.NotStarted) ⊎ ((n : ℕ) × (engine.Suspended ≡ engine.NotAHistory n)) ⊎ (engine.Suspended ≡ engine.OutOfMemory) → ⊥
      none (inl is) = cc is
      none (inr (inl is)) = cc is
      none (inr (inr (inl is))) = cc is
      none (inr (inr (inr (inl (n, is))))) = cc is
      none (inr (inr (inr (inr is)))) = cc is
  fault_of engine.Closed k = tt
  fault_of engine.OutOfMemory k = tt

  opened_if : (r : Result Engine EngineFault) (done : List Deed) → new.deeds ≡ old.deeds ++ done → Clauses O old new r → IfOk r (IsOpened the_language O kept.Resume s done new)
  opened_if (Ok e) done deeds k = opened_of e done deeds k
  opened_if (Err f) done deeds k = tt

  fault_if : (r : Result Engine EngineFault) → Clauses O old new r → IfErr r (FaultHolds the_language s)
  fault_if (Ok e) k = tt
  fault_if (Err f) k = fault_of f k

  -- a file without a record is there as it was found
  one_reading : (L : Language) (D : List Deed) → OnlyReadings → records s.found ≡ [] → (new.deeds ≡ old.deeds) ⊎ ((t : ℕ) × (new.deeds ≡ old.deeds ++ Now t ∷ [])) → new.deeds ≡ old.deeds ++ D
      → (printed D ≡ []) × Kept L O (of_command (records s.found) (next_session (journal L (records s.found))) D kept.Resume None)
  one_reading L D only none (inl is) deeds =
      let number = next_session (journal L (records s.found)) in
      let same : [] ≡ D = append_cancel_left old.deeds [] D (append-nil old.deeds ∙ sym is ∙ deeds) in
      (ap printed (sym same), subst (λ E. Kept L O (of_command (records s.found) number E kept.Resume None)) same (kept_still L O kept.Resume (records s.found) number only (no_turns_of_none L (records s.found) number none)))
  one_reading L D only none (inr (t, is)) deeds =
      let number = next_session (journal L (records s.found)) in
      let same : Now t ∷ [] ≡ D = append_cancel_left old.deeds (Now t ∷ []) D (sym is ∙ deeds) in (
        ap printed (sym same),
        subst (λ E. Kept L O (of_command (records s.found) number E kept.Resume None)) same
            (kept_now L O kept.Resume (records s.found) number t only (no_turns_of_none L (records s.found) number none) (reads_none_of_none L kept.Resume (records s.found) number (Now t ∷ []) none)),
      )

  late_of : OnlyReadings → (f : EngineFault) → Clauses O old new (Err f) → (f ≡ engine.AlreadyStarted) ⊎ (f ≡ engine.NotStarted) → LateNow the_language O s old new
  late_of only f k (inl is) = absurd (not_started_by_resume s line (fault_of engine.AlreadyStarted (subst (λ x. Clauses O old new (Err x)) is k)).0)
  late_of only f k (inr is) = λ fit image may.
      let silently = silently_of k.deeds in
      let none : records s.found ≡ [] = ap records (sym found) ∙ (k.not_started (ap Err is)).0 in
      let rules = one_reading the_language silently.done only none k.deeds silently.deeds in
      late_found the_language O s old kept.Resume silently.done image new.deeds (resume_command s line) fit (k.settled (ap Err is) image may ∙ k.seen ∙ found) silently.deeds rules.0 rules.1

  late_if : OnlyReadings → (r : Result Engine EngineFault) → Clauses O old new r → IfErr r (λ f. (f ≡ engine.AlreadyStarted) ⊎ (f ≡ engine.NotStarted) → LateNow the_language O s old new)
  late_if only (Ok e) k = tt
  late_if only (Err f) k = late_of only f k

  pub opening_by_resume : OnlyReadings → (r : Result Engine EngineFault) → Clauses O old new r → Opening O kept.Resume s old new r
  opening_by_resume only r k =
      let silently = silently_of k.deeds in
      let unwritten : Unwritten old new = (weaker old new (OpeningMoment old) (λ c d. old.may_leave c) k.any_moment (λ c d now. now.0), k.seen) in
      record {
        silently = silently;
        safe = λ fit. weaker old new (OpeningMoment old) (SafeAt the_language O the_reports s None old) k.any_moment (λ c d now. moment_safe the_language c d now);
        small = weaker old new (OpeningMoment old) (λ image all. Since old all (λ D. AllByRecursion IsSmall D)) k.any_moment (opening_small old);
        small_now = small_of k.deeds;
        opened = opened_if r silently.done silently.deeds k;
        fault = fault_if r k;
        late = late_if only r k;
        refused = λ why. unwritten;
        resumed = λ is. unwritten;
        finished = λ st line2 is ended. k.finished st (subst (λ f. history the_language (records f) ≡ Ok st) (sym found) is) ended;
      }
