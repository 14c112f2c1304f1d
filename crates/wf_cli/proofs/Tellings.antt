-- What is told of a history that was found: nothing is written, and nothing done before it is printed.
use Rattle.std.proofs.Common.{◌≡◌, ◌≤◌, ◌⊎◌, ◌≢◌, inl, inr, ℕ, true, false, List, [], length, take, None, Result, Ok, Err, IfOk, refl, sym, ◌∙◌, ap, subst, arith}
use Rattle.std.specs.Prelude.{IfErr, IsErrOf, String, string_bytes}
use Rattle.std.proofs.lemmas.List.{append-nil}
use Rattle.std.specs.declared.alloc.Global.{Global}
use Rattle.wf_cli.proofs.Causes.{both, not_both, needs_line, not_run_and_needs, tells_line, argument_line, is_no_history, none_found}
use Rattle.wf_cli.proofs.Moments.{early_nothing, kept_still, late_found, no_turns_next, no_turns_of_none}
use Rattle.wf_cli.proofs.Opens.{no_magic, no_record_no_history, not_of_polls, nothing_silently, passed_all, passed_history, passed_magic, passed_not_started}
use Rattle.wf_cli.proofs.Safe.{still_end, plain_end}
use Rattle.wf_cli.proofs.Together.{where_told}
use Rattle.wf_cli.proofs.Works.{end_fault, fault_gives, fault_late}
use Rattle.wf_cli.specs.Reports.{the_reports}
use Rattle.wf_cli.specs.Said.{FaultHolds, IsEnd, LateNow, MayEndNow, ReadsJournal, SaysTelling, Unwritten, Worked}
use Rattle.wf_cli.specs.Top.{HasNoCauseInFile, IsAccepted, IsBehindSync, IsLineOf, IsStarted, IsTaken, MayPrint, TellsHistory, of_file}
use Rattle.wf_cli.specs.declared.end.Said.{Said}
use Rattle.wf_cli.specs.declared.end.Silence.{Silence}
use Rattle.wf_deeds.specs.Deeds.{polls}
use Rattle.wf_deeds.specs.Laws.{OnlyReadings}
use Rattle.wf_deeds.specs.Outside.{Outside}
use Rattle.wf_engine.specs.Printed as end
use Rattle.wf_engine.specs.Printed.{Scene, uses_source, needs_history, tells_history}
use Rattle.wf_engine.specs.Safe.{SafeAt, Since, command_by, session}
use Rattle.wf_host.specs.Moments.{weaker}
use Rattle.wf_host.specs.World.{World, Faults, Told, Only, Rose}
use Rattle.wf_host.specs.declared.data.Deed.{Deed}
use Rattle.wf_journal.specs.Journal.{IsJournal}
use Rattle.wf_journal.specs.Records.{magic, records}
use Rattle.wf_deeds.specs.At.{journal, next_session, session_turns}
use Rattle.wf_deeds.specs.History.{history}
use Rattle.wf_deeds.specs.HistoryLaws.{IsHistory}
use Rattle.wf_deeds.specs.Moments.{NextBehindHistory, NoTurnsBehind}
use Rattle.wf_args.specs.Lines.{PlainLine, line_of, waits_of}
use Rattle.wf_args.specs.declared.command.Command.{Command}
use Rattle.wf_args.specs.declared.command.Command.TheVariants.{Check, Format, Run, Resume, Show, At, Log, Help, Version}
use Rattle.wf_replay.specs.TheLanguage.{the_language}
use Rattle.wf_replay.specs.declared.engine_fault.EngineFault.TheVariants as engine
use Rattle.wf_replay.specs.declared.engine_fault.EngineFault.{EngineFault}
use Rattle.wf_status.specs.Statuses.{status_code}
use Rattle.wf_status.specs.declared.Status.TheVariants as status

-- ## The line
-- a command that needs a history takes no source
sourceless : (c : Command) → needs_history c ≡ true → uses_source c ≡ true → ⊥
sourceless Check needs uses = let no : false ≡ true = needs in cc no
sourceless Format needs uses = let no : false ≡ true = needs in cc no
sourceless Run needs uses = let no : false ≡ true = needs in cc no
sourceless Resume needs uses = let no : false ≡ true = uses in cc no
sourceless Show needs uses = let no : false ≡ true = uses in cc no
sourceless At needs uses = let no : false ≡ true = uses in cc no
sourceless Log needs uses = let no : false ≡ true = uses in cc no
sourceless Help needs uses = let no : false ≡ true = uses in cc no
sourceless Version needs uses = let no : false ≡ true = uses in cc no

tells_not_resume : (c : Command) → tells_history c ≡ true → c ≡ Resume → ⊥
tells_not_resume c tells is = let no : false ≡ true = sym (ap tells_history is) ∙ tells in cc no

-- what reading a journal ends with where it fails
abbrev pub IsReadFault : EngineFault → Type 0
IsReadFault f = (f ≡ engine.DiskFault) ⊎ (f ≡ engine.NotAJournal) ⊎ (f ≡ engine.NotStarted) ⊎ ((n : ℕ) × (f ≡ engine.NotAHistory n)) ⊎ (f ≡ engine.OutOfMemory)

module _ (s : Scene) (l : PlainLine) (is_line : line_of s.words ≡ Ok l) (tells : tells_history l.command ≡ true) where
  telling : IsLineOf s (λ c. tells_history c ≡ true)
  telling = (l, is_line, tells)

  needs : IsLineOf s (λ c. needs_history c ≡ true)
  needs = tells_line s telling

  never_started : ¬ IsStarted s
  never_started why = not_run_and_needs s why.0 needs

  accepted : IsAccepted s
  accepted = where_told s.source _ (λ left told why (m, other, (is, uses, first), refuses).
      let it = both s (λ c. needs_history c ≡ true) (λ c. uses_source c ≡ true) needs (m, is, uses) in absurd (sourceless it.0 it.1 it.2))

  pub taken : IsTaken s
  taken = record { argument = λ bad. not_run_and_needs s (argument_line s bad) needs; source = accepted }

  module _ (old new : World) (found : old.seen ≡ s.found) where
    -- ## Faults
    fault_of : (f : EngineFault) → IsReadFault f → ReadsJournal l old new (Err f) → FaultHolds the_language s f
    fault_of engine.DiskFault is k = tt
    fault_of engine.PollFault is k = absurd (none is)
      where
        none : IsReadFault engine.PollFault → ⊥
        none (inl isnt) = cc isnt
        none (inr (inl isnt)) = cc isnt
        none (inr (inr (inl isnt))) = cc isnt
        none (inr (inr (inr (inl (n, isnt))))) = cc isnt
        none (inr (inr (inr (inr isnt)))) = cc isnt
    fault_of engine.NotAJournal is k =
        let why = subst (λ f. (5 ≤ length f) × (take 4 f ≢ magic)) found (k.not_a_journal refl) in
        ((needs_line s needs, why.0, why.1), passed_magic the_language s)
    fault_of (engine.NotAHistory n) is k =
        let why = subst (λ f. (history the_language (records f) ≡ Err n) × (records f ≢ []) × (take 4 f ≡ magic)) found (k.not_a_history n refl) in
        (is_no_history the_language s n needs why.0, passed_history the_language s n (no_magic s (inr why.2)) never_started (λ no. why.1 no.1))
    fault_of engine.AlreadyStarted is k = absurd (none is)
      where
        none : IsReadFault engine.AlreadyStarted → ⊥
        none (inl isnt) = cc isnt
        none (inr (inl isnt)) = cc isnt
        none (inr (inr (inl isnt))) = cc isnt
        none (inr (inr (inr (inl (n, isnt))))) = cc isnt
        none (inr (inr (inr (inr isnt)))) = cc isnt
    fault_of engine.NotStarted is k =
        let why = subst (λ f. (records f ≡ []) × IsJournal f) found (k.not_started refl) in
        ((needs, why.0), passed_not_started the_language s (no_magic s why.1) never_started)
    fault_of engine.Suspended is k = absurd (none is)
      where
        none : IsReadFault engine.Suspended → ⊥
        none (inl isnt) = cc isnt
        none (inr (inl isnt)) = cc isnt
        none (inr (inr (inl isnt))) = cc isnt
        none (inr (inr (inr (inl (n, isnt))))) = cc isnt
        none (inr (inr (inr (inr isnt)))) = cc isnt
    fault_of engine.Closed is k = tt
    fault_of engine.OutOfMemory is k = tt

    -- ## A history
    causes : (text : String Global) → ReadsJournal l old new (Ok text) → HasNoCauseInFile the_language s
    causes text k =
        let begins = subst (λ f. take 4 f ≡ magic) found k.begins in
        let is : IsHistory the_language (records s.found) = subst (λ f. IsHistory the_language (records f)) found k.is_history in
        record {
          magic = no_magic s (inr begins);
          started = never_started;
          not_started = λ why. no_record_no_history the_language (records s.found) is.0 is.1 why.1;
          history = λ n why. not_both (history the_language (records s.found)) is.0 n is.1 (none_found the_language s n why);
        }

    tells_of : (text : String Global) → ReadsJournal l old new (Ok text) → TellsHistory the_language s (string_bytes text)
    tells_of text k = k.told s is_line (ap records (sym found))

    gives_telling : (text : List ℕ) (it : Said) → TellsHistory the_language s text → (it.status ≡ status.Done) × (it.text.items ≡ text) → (image : List ℕ) (D : List Deed) → MayPrint the_language s image D it.status it.text.items
    gives_telling text it told says = λ image D. subst (λ t. MayPrint the_language s image D it.status t) (sym says.1) (subst (λ x. MayPrint the_language s image D x text) (sym says.0) (end.told text told))

    -- ## The end
    -- the text or the line of a fault, each with its cause and with what is passed before it
    pub telling_end : (a b : ℕ) (f g : Faults) (q : Result (String Global) EngineFault) (r : Result Said Silence) → Told old (ReadsJournal l old new q) → IfErr q IsReadFault → SaysTelling q r → (IsErrOf q engine.DiskFault → Rose f.disk g.disk)
        → IsEnd s old new a b f g r
    telling_end a b f g (Ok text) (Ok it) reads only says rose =
        of_file it.status it.text.items (inr (inr (inr (inr (inr (inl says.0)))))) (needs_line s needs) taken (λ told.
        let k = reads told in
        (([], k.deeds ∙ sym (append-nil old.deeds), gives_telling (string_bytes text) it (tells_of text k) says new.seen []), passed_all the_language s it.status (causes text k)))
    telling_end a b f g (Ok text) (Err e) reads only says rose = subst (λ x. IsEnd s old new a b f g (Err x)) (sym says) tt
    telling_end a b f g (Err fault) r reads only says rose =
        end_fault s old new a b f g fault r says (needs_line s needs) taken (λ told. fault_of fault only (reads told)) (λ told. nothing_silently old new (reads told).deeds) (λ is. rose (ap Err is)) (not_of_polls fault only)

    -- ## The work
    module _ (O : Outside) where
      gives_if : (q : Result (String Global) EngineFault) (r : Result Said Silence) → ReadsJournal l old new q → IfErr q IsReadFault → SaysTelling q r → IfOk r (λ it. (image : List ℕ) → new.may_leave image → MayPrint the_language s image [] it.status it.text.items)
      gives_if (Ok text) (Ok it) k only says = λ image may. gives_telling (string_bytes text) it (tells_of text k) says image []
      gives_if (Ok text) (Err e) k only says = tt
      gives_if (Err f) (Ok it) k only says = λ image may. (fault_gives the_language s f it (fault_of f only k) says).0 image []
      gives_if (Err f) (Err e) k only says = tt

      ends_if : (q : Result (String Global) EngineFault) (r : Result Said Silence) → ReadsJournal l old new q → IfErr q IsReadFault → SaysTelling q r → IfOk r (λ it. MayEndNow the_language O s old new it.status)
      ends_if (Ok text) (Ok it) k only says = λ image may. (
        [],
        k.deeds ∙ sym (append-nil old.deeds),
        still_end the_language O (records image) _ _ (status_code it.status) (λ is. let no : status_code status.Done ≡ 13 = ap status_code (sym says.0) ∙ is in omega (arith, no)),
      )
      ends_if (Ok text) (Err e) k only says = tt
      ends_if (Err f) (Ok it) k only says = λ image may. (
        [],
        k.deeds ∙ sym (append-nil old.deeds),
        plain_end the_language O (session the_language O the_reports s None image []) (status_code it.status) (fault_gives the_language s f it (fault_of f only k) says).2,
      )
      ends_if (Err f) (Err e) k only says = tt

      -- a file that was read is left as it was found
      left : OnlyReadings → session_turns (journal the_language (records s.found)) (next_session (journal the_language (records s.found))) ≡ [] → Only new.seen new.may_leave → new.seen ≡ old.seen → new.deeds ≡ old.deeds → LateNow the_language O s old new
      left readings none settled seen deeds = λ fit image may.
          late_found the_language O s old (command_by (line_of s.words)) [] image new.deeds refl fit (settled image may ∙ seen ∙ found) (deeds ∙ sym (append-nil old.deeds)) refl
          (kept_still the_language O (command_by (line_of s.words)) (records s.found) (next_session (journal the_language (records s.found))) readings none)

      left_history : OnlyReadings → NoTurnsBehind → NextBehindHistory → (text : String Global) → ReadsJournal l old new (Ok text) → LateNow the_language O s old new
      left_history readings behind next text k = λ fit.
          let is : IsHistory the_language (records s.found) = subst (λ f. IsHistory the_language (records f)) found k.is_history in
          left readings (no_turns_next behind next the_language s.found fit (λ none. no_record_no_history the_language (records s.found) is.0 is.1 none)) k.settled k.seen k.deeds fit

      left_fault : OnlyReadings → (f : EngineFault) → IsReadFault f → ReadsJournal l old new (Err f) → (f ≡ engine.AlreadyStarted) ⊎ (f ≡ engine.NotStarted) → LateNow the_language O s old new
      left_fault readings f only k (inl is) = absurd (never_started (fault_of engine.AlreadyStarted (subst IsReadFault is only) (subst (λ x. ReadsJournal l old new (Err x)) is k)).0)
      left_fault readings f only k (inr is) =
          let none : records s.found ≡ [] = ap records (sym found) ∙ (k.not_started (ap Err is)).0 in
          left readings (no_turns_of_none the_language (records s.found) (next_session (journal the_language (records s.found))) none) (k.settled_empty (ap Err is)) k.seen k.deeds

      late_if : OnlyReadings → NoTurnsBehind → NextBehindHistory → (q : Result (String Global) EngineFault) (r : Result Said Silence) → ReadsJournal l old new q → IfErr q IsReadFault → SaysTelling q r → IfOk r (λ it. IsBehindSync s it.status → LateNow the_language O s old new)
      late_if readings behind next (Ok text) (Ok it) k only says = λ late. left_history readings behind next text k
      late_if readings behind next (Ok text) (Err e) k only says = tt
      late_if readings behind next (Err f) (Ok it) k only says = λ late. fault_late O s old new f it (fault_of f only k) (λ which. left_fault readings f only k which) says late
      late_if readings behind next (Err f) (Err e) k only says = tt

      pub telling_worked : OnlyReadings → NoTurnsBehind → NextBehindHistory → (q : Result (String Global) EngineFault) (r : Result Said Silence) → ReadsJournal l old new q → IfErr q IsReadFault → SaysTelling q r → Worked O s old new r
      telling_worked readings behind next q r k only says =
          let unwritten : Unwritten old new = (weaker old new (λ c d. old.may_leave c × (d ≡ old.deeds)) (λ c d. old.may_leave c) k.any_moment (λ c d now. now.0), k.seen) in
          record {
            silently = nothing_silently old new k.deeds;
            safe = λ fit. weaker old new (λ c d. old.may_leave c × (d ≡ old.deeds)) (SafeAt the_language O the_reports s None old) k.any_moment (λ c d now. early_nothing the_language O s old c d now.0 now.1);
            gives = gives_if q r k only says;
            ends = ends_if q r k only says;
            late = late_if readings behind next q r k only says;
            finished = λ st line is ended. absurd (let it = both s (λ c. tells_history c ≡ true) (λ c. c ≡ Resume) telling line in tells_not_resume it.0 it.1 it.2);
            refused = λ why. (unwritten, tt);
            writes = inl unwritten;
            idle = λ never. k.deeds;
            unread = λ is. (unwritten, k.deeds);
            polled = λ m is. weaker old new (λ c d. old.may_leave c × (d ≡ old.deeds)) (λ image all. Since old all (λ D. polls D ≤ waits_of m)) k.any_moment (λ c d now. ([], now.1 ∙ sym (append-nil old.deeds), omega arith));
          }
