-- The beginning of an execution for a line.
use Rattle.std.proofs.Common.{◌≡◌, ◌≤◌, ◌⊎◌, ◌≢◌, inl, inr, ⊎_elim, ℕ, Bool, false, List, [], ◌∷◌, ◌++◌, length, take, None, Result, Ok, Err, IfOk, IfErr, OnOk, IsErrOf, refl, sym, ◌∙◌, ap, subst, arith}
use Rattle.std.specs.List.{AllByRecursion}
use Rattle.wf_ast.specs.Tree.{Program}
use Rattle.wf_cli.proofs.Moments.{early_nothing, early_now, no_turn_of_start, no_turns_next, kept_now, StartOfLine, late_start, late_found}
use Rattle.wf_cli.proofs.Opens.{no_magic, not_resumed_by_run, no_history_by_run, passed_magic, passed_started, run_uses, run_command, nothing_silently, opening_small, read_silently}
use Rattle.wf_cli.specs.Reports.{the_reports}
use Rattle.wf_cli.specs.Said.{DoneSilently, IsOpened, FaultHolds, LateNow, Opening}
use Rattle.wf_cli.specs.Top.{IsLineOf, HasOtherMagic, IsStarted, IsNotStarted, IsNoHistory}
use Rattle.wf_cli.proofs.Causes.{not_run_and_resume}
use Rattle.wf_deeds.specs.Deeds.{IsSmall}
use Rattle.wf_deeds.specs.Memory.{StandsFor}
use Rattle.wf_engine.specs.Engine.{memory, OpeningMoment}
use Rattle.wf_deeds.specs.Kept as kept
use Rattle.wf_deeds.specs.Laws.{OnlyReadings}
use Rattle.wf_deeds.specs.Outside.{Outside}
use Rattle.wf_engine.specs.Printed.{Scene, uses_source}
use Rattle.wf_engine.specs.Starts.{start_of}
use Rattle.wf_events.specs.Laws.{MeaningOfSpelling}
use Rattle.wf_events.specs.Records.{Started}
use Rattle.wf_events.specs.Spelling.{record_bytes, HasSpelling}
use Rattle.wf_host.specs.Source.{IsFirst}
use Rattle.wf_args.specs.Lines.{PlainLine, line_of}
use Rattle.wf_alone.proofs.Begun.{initial_to}
use Rattle.wf_deeds.specs.Language.{Language}
use Rattle.wf_deeds.specs.HistoryLaws.{StartIsAHistory}
use Rattle.wf_deeds.specs.Moments.{NoTurnsBehind, NextBehindHistory}
use Rattle.wf_engine.specs.Safe.{SafeAt, Since}
use Rattle.wf_source.specs.Function.{SourceIsIt}
use Rattle.wf_source.specs.Programs.{IsSourceOf}
use Rattle.wf_engine.specs.declared.engine.Engine.{Engine}
use Rattle.wf_history.specs.Stands.{HasNoneOrThis}
use Rattle.wf_host.specs.Moments.{CountsNow, started, goes_on, goes_on_same, same_deeds, joined, weaker}
use Rattle.wf_host.specs.World.{World, LeavesOnly, Only, Elapses, Same}
use Rattle.wf_host.specs.declared.data.Deed.{Deed}
use Rattle.wf_host.specs.declared.data.Deed.TheVariants.{Now}
use Rattle.wf_journal.specs.Journal.{IsJournal}
use Rattle.wf_journal.specs.Records.{magic, records}
use Rattle.wf_args.specs.declared.command.Command.TheVariants.{Run}
use Rattle.wf_deeds.specs.At.{journal, next_session}
use Rattle.wf_replay.proofs.Language.{of_program}
use Rattle.wf_replay.specs.TheLanguage.{the_language}
use Rattle.wf_replay.specs.declared.engine_fault.EngineFault.TheVariants as engine
use Rattle.wf_replay.specs.declared.engine_fault.EngineFault.{EngineFault}

-- ## The first reading of the clock
-- since this moment there is no other pair
abbrev pub OnlyNow : World → Type 0
OnlyNow w = (c : List ℕ) (d : List Deed) → w.left_since w.moment c d → w.may_leave c × (d ≡ w.deeds)

-- a call that writes nothing leaves no other file
within : (old new : World) (deed : List Deed) → CountsNow new → Elapses Same deed old new → (c : List ℕ) → new.may_leave c → old.may_leave c
within old new deed counts time c may =
    let left = time.during c new.deeds (counts old.moment c time.later may) in subst old.may_leave (sym left.0.2) left.0.1

before_now : (old : World) → OnlyNow old → LeavesOnly old old (OpeningMoment old)
before_now old only = started old (OpeningMoment old) only (λ c may. (may, inl refl))

now_moments : (old mid : World) (t : ℕ) → OnlyNow old → Elapses Same (Now t ∷ []) old mid → LeavesOnly old mid (OpeningMoment old)
now_moments old mid t only time =
    goes_on old old mid (OpeningMoment old) Same (Now t ∷ []) (before_now old only) time
    (λ c d left deeds. (subst old.may_leave (sym left.2) left.1, ⊎_elim (λ is. inl is) (λ is. inr (t, is ∙ time.deeds)) deeds))

-- ## An execution that isn't begun
module _ (O : Outside) (s : Scene) (old : World) (line : IsLineOf s (λ c. c ≡ Run)) where
  -- the opening did nothing but read the clock, and memory ran out
  pub lacking : (f : EngineFault) (new : World) (silently : DoneSilently old new) → AllByRecursion IsSmall silently.done → LeavesOnly old new (OpeningMoment old) → new.seen ≡ old.seen → f ≡ engine.OutOfMemory → Opening O kept.Run s old new (Err f)
  lacking f new silently small moments seen is = record {
    silently = silently;
    safe = λ fit. weaker old new (OpeningMoment old) (SafeAt the_language O the_reports s None old) moments (λ c d now. moment_safe c d now);
    small = weaker old new (OpeningMoment old) (λ image all. Since old all (λ D. AllByRecursion IsSmall D)) moments (opening_small old);
    small_now = small;
    opened = tt;
    fault = subst (FaultHolds the_language s) (sym is) tt;
    late = λ which. absurd (⊎_elim (λ other. let no : engine.OutOfMemory ≡ engine.AlreadyStarted = sym is ∙ other in cc no) (λ other. let no : engine.OutOfMemory ≡ engine.NotStarted = sym is ∙ other in cc no) which);
    refused = λ why. (weaker old new (OpeningMoment old) (λ c d. old.may_leave c) moments (λ c d now. now.0), seen);
    resumed = λ no. absurd (cc no);
    finished = λ st line2 h ended. absurd (not_run_and_resume s line line2);
  }
    where
      moment_safe : (c : List ℕ) (d : List Deed) → OpeningMoment old c d → SafeAt the_language O the_reports s None old c d
      moment_safe c d (may, inl is) = early_nothing the_language O s old c d may is
      moment_safe c d (may, inr (t, is)) = early_now the_language O s old c d t may is

  pub no_clock : (f : EngineFault) (new : World) → OnlyNow old → CountsNow old → Elapses Same [] old new → new.seen ≡ old.seen → f ≡ engine.OutOfMemory → Opening O kept.Run s old new (Err f)
  no_clock f new only counts time seen is =
      lacking f new (nothing_silently old new (same_deeds old new Same time)) tt (goes_on_same old old new (OpeningMoment old) (before_now old only) counts time) seen is

  pub no_start : (f : EngineFault) (new : World) (t : ℕ) → OnlyNow old → Elapses Same (Now t ∷ []) old new → new.seen ≡ old.seen → f ≡ engine.OutOfMemory → Opening O kept.Run s old new (Err f)
  no_start f new t only time seen is = lacking f new (read_silently old new t time.deeds) (tt, tt) (now_moments old new t only time) seen is

-- ## Beginning
-- what a beginning promises
pub record Clauses (O : Outside) (old new : World) (t : ℕ) (payload : List ℕ) (r : Result Engine EngineFault) : Type 0 where
  pub stands : IfOk r (λ e. (handed : Bool) → StandsFor the_language O kept.Run handed (memory e) (records new.seen) (Now t ∷ []))
  pub session : IfOk r (λ e. (memory e).session ≡ 1)
  pub started : OnOk r (records new.seen ≡ payload ∷ [])
  pub any_moment : LeavesOnly old new (λ c d. (old.may_leave c × (d ≡ old.deeds)) ⊎ ((records old.seen ≡ []) × HasNoneOrThis old payload c d))
  pub refused_stays : ((5 ≤ length old.seen) × (take 4 old.seen ≢ magic)) ⊎ (records old.seen ≢ []) → LeavesOnly old new (λ c d. old.may_leave c × (d ≡ old.deeds))
  pub not_a_journal : IsErrOf r engine.NotAJournal → (5 ≤ length old.seen) × (take 4 old.seen ≢ magic)
  pub a_journal : OnOk r (IsJournal old.seen)
  pub already_started : IsErrOf r engine.AlreadyStarted → (records old.seen ≢ []) × IsJournal old.seen
  pub settled : IsErrOf r engine.AlreadyStarted → Only new.seen new.may_leave
  pub fresh : OnOk r (records old.seen ≡ [])
  pub only : IfErr r (λ e. (e ≡ engine.DiskFault) ⊎ (e ≡ engine.NotAJournal) ⊎ (e ≡ engine.AlreadyStarted) ⊎ (e ≡ engine.OutOfMemory))
  pub deeds : new.deeds ≡ old.deeds

module _ (O : Outside) (s : Scene) (old mid new : World) (t : ℕ) (payload : List ℕ) (line : IsLineOf s (λ c. c ≡ Run)) (found : old.seen ≡ s.found) (only_now : OnlyNow old) (counts : CountsNow mid) (time : Elapses Same (Now t ∷ []) old mid) (same : mid.seen ≡ old.seen)
    (start : StartOfLine s t payload) (law : OnlyReadings) where
  found_is : mid.seen ≡ s.found
  found_is = same ∙ found

  safe_begin : (c : List ℕ) (d : List Deed) → (mid.may_leave c × (d ≡ mid.deeds)) ⊎ ((records mid.seen ≡ []) × HasNoneOrThis mid payload c d) → SafeAt the_language O the_reports s None old c d
  safe_begin c d (inl (may, is)) = early_now the_language O s old c d t (within old mid (Now t ∷ []) counts time c may) (is ∙ time.deeds)
  safe_begin c d (inr (none, (file, has, is))) = late_start O s old t payload c d law start (ap records (sym found_is) ∙ none) (is ∙ time.deeds) file has

  small_begin : (c : List ℕ) (d : List Deed) → (mid.may_leave c × (d ≡ mid.deeds)) ⊎ ((records mid.seen ≡ []) × HasNoneOrThis mid payload c d) → Since old d (λ D. AllByRecursion IsSmall D)
  small_begin c d (inl (may, is)) = (Now t ∷ [], is ∙ time.deeds, (tt, tt))
  small_begin c d (inr (none, (file, has, is))) = (Now t ∷ [], is ∙ time.deeds, (tt, tt))

  safe_now : (L : Language) (c : List ℕ) (d : List Deed) → OpeningMoment old c d → SafeAt L O the_reports s None old c d
  safe_now L c d (may, inl is) = early_nothing L O s old c d may is
  safe_now L c d (may, inr (u, is)) = early_now L O s old c d u may is

  opened_of : (e : Engine) → Clauses O mid new t payload (Ok e) → IsOpened the_language O kept.Run s (Now t ∷ []) new e
  opened_of e k =
      let none : records s.found ≡ [] = ap records (sym found_is) ∙ k.fresh in
      record {
        stands = k.stands false;
        unpolled = refl;
        number = k.session ∙ ap (λ J. next_session (journal the_language J)) (sym none);
        added = payload ∷ [];
        own = (no_turn_of_start payload start.line start.bytes t (memory e).session start.means, tt);
        keeps = k.started ∙ ap (λ J. J ++ payload ∷ []) (sym none);
        start = λ is. (start.line, start.bytes, start.reads, (t, (0, omega arith, refl), k.started ∙ ap (λ p. p ∷ []) start.is_start));
        is_of = start.command;
        causes = record {
          magic = no_magic s (subst IsJournal found_is k.a_journal);
          started = λ why. why.1 none;
          not_started = not_resumed_by_run s line;
          history = λ n why. no_history_by_run the_language s n line why;
        };
      }

  fault_of : (f : EngineFault) → Clauses O mid new t payload (Err f) → FaultHolds the_language s f
  fault_of engine.DiskFault k = tt
  fault_of engine.PollFault k = absurd (none k.only)
    where
      none : (engine.PollFault ≡ engine.DiskFault) ⊎ (engine.PollFault ≡ engine.NotAJournal) ⊎ (engine.PollFault ≡ engine.AlreadyStarted) ⊎ (engine.PollFault ≡ engine.OutOfMemory) → ⊥
      none (inl is) = cc is
      none (inr (inl is)) = cc is
      none (inr (inr (inl is))) = cc is
      none (inr (inr (inr is))) = cc is
  fault_of engine.NotAJournal k =
      let why = subst (λ f. (5 ≤ length f) × (take 4 f ≢ magic)) found_is (k.not_a_journal refl) in
      ((run_uses s line, why.0, why.1), passed_magic the_language s)
  fault_of (engine.NotAHistory n) k = absurd (none k.only)
    where
      none : (engine.NotAHistory n ≡ engine.DiskFault) ⊎ (engine.NotAHistory n ≡ engine.NotAJournal) ⊎ (engine.NotAHistory n ≡ engine.AlreadyStarted) ⊎ (engine.NotAHistory n ≡ engine.OutOfMemory) → ⊥
      none (inl is) = cc is
      none (inr (inl is)) = cc is
      none (inr (inr (inl is))) = cc is
      none (inr (inr (inr is))) = cc is
  fault_of engine.AlreadyStarted k =
      let why = subst (λ f. (records f ≢ []) × IsJournal f) found_is (k.already_started refl) in
      ((line, why.0), passed_started the_language s (no_magic s why.1))
  fault_of engine.NotStarted k = absurd (none k.only)
    where
      none : (engine.NotStarted ≡ engine.DiskFault) ⊎ (engine.NotStarted ≡ engine.NotAJournal) ⊎ (engine.NotStarted ≡ engine.AlreadyStarted) ⊎ (engine.NotStarted ≡ engine.OutOfMemory) → ⊥
      none (inl is) = cc is
      none (inr (inl is)) = cc is
      none (inr (inr (inl is))) = cc is
      none (inr (inr (inr is))) = cc is
  fault_of engine.Suspended k = absurd (none k.only)
    where
      none : (engine.Suspended ≡ engine.DiskFault) ⊎ (engine.Suspended ≡ engine.NotAJournal) ⊎ (engine.Suspended ≡ engine.AlreadyStarted) ⊎ (engine.Suspended ≡ engine.OutOfMemory) → ⊥
      none (inl is) = cc is
      none (inr (inl is)) = cc is
      none (inr (inr (inl is))) = cc is
      none (inr (inr (inr is))) = cc is
  fault_of engine.Closed k = tt
  fault_of engine.OutOfMemory k = tt

  opened_if : (r : Result Engine EngineFault) → Clauses O mid new t payload r → IfOk r (IsOpened the_language O kept.Run s (Now t ∷ []) new)
  opened_if (Ok e) k = opened_of e k
  opened_if (Err f) k = tt

  fault_if : (r : Result Engine EngineFault) → Clauses O mid new t payload r → IfErr r (FaultHolds the_language s)
  fault_if (Ok e) k = tt
  fault_if (Err f) k = fault_of f k

  -- a file that was begun before is there as it was found
  late_of : NoTurnsBehind → NextBehindHistory → (f : EngineFault) → (refused_seen : ((5 ≤ length mid.seen) × (take 4 mid.seen ≢ magic)) ⊎ (records mid.seen ≢ []) → new.seen ≡ mid.seen) → Clauses O mid new t payload (Err f)
      → (f ≡ engine.AlreadyStarted) ⊎ (f ≡ engine.NotStarted) → LateNow the_language O s old new
  late_of turns next f seen k (inl is) = λ fit image may.
      let some : records mid.seen ≢ [] = (k.already_started (ap Err is)).0 in
      let there : records s.found ≢ [] = subst (λ i. records i ≢ []) found_is some in
      late_found the_language O s old kept.Run (Now t ∷ []) image new.deeds (run_command s line) fit (k.settled (ap Err is) image may ∙ seen (inr some) ∙ found_is) (k.deeds ∙ time.deeds) refl
      (kept_now the_language O kept.Run (records s.found) (next_session (journal the_language (records s.found))) t law (no_turns_next turns next the_language s.found fit there) (λ c resumes was ended. absurd (cc resumes)))
  late_of turns next f seen k (inr is) = absurd (not_resumed_by_run s line (fault_of engine.NotStarted (subst (λ x. Clauses O mid new t payload (Err x)) is k)).0)

  late_if : NoTurnsBehind → NextBehindHistory → (r : Result Engine EngineFault) → (refused_seen : ((5 ≤ length mid.seen) × (take 4 mid.seen ≢ magic)) ⊎ (records mid.seen ≢ []) → new.seen ≡ mid.seen) → Clauses O mid new t payload r
      → IfErr r (λ f. (f ≡ engine.AlreadyStarted) ⊎ (f ≡ engine.NotStarted) → LateNow the_language O s old new)
  late_if turns next (Ok e) seen k = tt
  late_if turns next (Err f) seen k = late_of turns next f seen k

  stays_where : (L : Language) → HasOtherMagic s ⊎ IsStarted s ⊎ IsNotStarted s ⊎ ((n : ℕ) × IsNoHistory L s n) → ((5 ≤ length s.found) × (take 4 s.found ≢ magic)) ⊎ (records s.found ≢ [])
  stays_where L (inl why) = inl (why.1, why.2)
  stays_where L (inr (inl why)) = inr why.1
  stays_where L (inr (inr (inl why))) = absurd (not_resumed_by_run s line why)
  stays_where L (inr (inr (inr (n, why)))) = absurd (no_history_by_run L s n line why)

  pub opening_by_run : NoTurnsBehind → NextBehindHistory → (r : Result Engine EngineFault) → (refused_seen : ((5 ≤ length mid.seen) × (take 4 mid.seen ≢ magic)) ⊎ (records mid.seen ≢ []) → new.seen ≡ mid.seen) → Clauses O mid new t payload r → Opening O kept.Run s old new r
  opening_by_run turns next r seen k = record {
    silently = read_silently old new t (k.deeds ∙ time.deeds);
    safe = λ fit.
        joined old mid new (SafeAt the_language O the_reports s None old) _ (weaker old mid (OpeningMoment old) (SafeAt the_language O the_reports s None old) (now_moments old mid t only_now time) (λ c d now. safe_now the_language c d now)) k.any_moment
        (λ c d now. safe_begin c d now);
    small =
        joined old mid new (λ image all. Since old all (λ D. AllByRecursion IsSmall D)) _ (weaker old mid (OpeningMoment old) (λ image all. Since old all (λ D. AllByRecursion IsSmall D)) (now_moments old mid t only_now time) (opening_small old)) k.any_moment
        small_begin;
    small_now = (tt, tt);
    opened = opened_if r k;
    fault = fault_if r k;
    late = late_if turns next r seen k;
    refused = λ why.
        let stays = subst (λ f. ((5 ≤ length f) × (take 4 f ≢ magic)) ⊎ (records f ≢ [])) (sym found_is) (stays_where the_language why) in (
          joined old mid new (λ c d. old.may_leave c) (λ c d. mid.may_leave c × (d ≡ mid.deeds)) (weaker old mid (OpeningMoment old) (λ c d. old.may_leave c) (now_moments old mid t only_now time) (λ c d now. now.0)) (k.refused_stays stays)
              (λ c d now. within old mid (Now t ∷ []) counts time c now.0),
          seen stays ∙ same,
        );
    resumed = λ no. absurd (cc no);
    finished = λ st line2 h ended. absurd (not_run_and_resume s line line2);
  }

-- ## The start of a line
pub start_of_line : SourceIsIt → (s : Scene) (l : PlainLine) (source : List ℕ) (p : Program) (t : ℕ) → line_of s.words ≡ Ok l → l.command ≡ Run → IsFirst 131073 s.source source → IsSourceOf source p
    → HasSpelling (Started (start_of l source t)) → MeaningOfSpelling → StartIsAHistory → StartOfLine s t (record_bytes (Started (start_of l source t)))
start_of_line once s l source p t is command first reads spelled meaning_of law =
    let st = start_of l source t in
    let means = meaning_of (Started st) spelled tt in
    let accepted = of_program once source p reads in
    let begins = (initial_to p st).1 in
    record {
      line = l;
      bytes = source;
      reads = (is, ap uses_source command, first);
      is_start = refl;
      means = means;
      program = p;
      accepted = accepted;
      history = (_, law the_language (record_bytes (Started st)) (Started st) st false p _ means refl refl accepted begins);
      command = run_command s (l, is, command);
    }
