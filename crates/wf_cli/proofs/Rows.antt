-- The rows of the statuses, each from how the call ended.
use Rattle.std.proofs.Common.{◌≡◌, ◌<◌, ◌⊎◌, inl, inr, ⊎_elim, IsTrue, ℕ, Bool, true, false, List, ◌++◌, None, Some, refl, sym, ◌∙◌, ap, subst, arith}
use Rattle.std.specs.Prelude.{codes, decimal}
use Rattle.wf_lemmas.proofs.Options.{same_some}
use Rattle.wf_cli.proofs.Causes.{same_ok, no_bad_line, one_command, executing, not_both_journals, check_reports, executes_line, format_reports, idle_tells, needs_line, run_executes, reported_idle, reported_line, telling_line, tells_line, Cause, says_cause, says_text, EarlyCause, says_early, text_early, not_said}
use Rattle.wf_cli.proofs.Together.{IsOrBefore, where_bad_line, where_bad_argument, where_told, when_told, where_refused, where_of_file, where_no_history, at_magic, at_started, at_not_started}
use Rattle.wf_cli.specs.Top.{Call, IsLineOf, IsBadArgument, IsRefused, IsChecked, HasOutcome, IsSuspended, Reported, MayPrint, IsTaken, IsOfFile, ComesBack, HasToSay, bad_line, bad_argument, refused, reported, of_file, Ends, said, cut, unread, failed, unheard, no_memory, Prints, IsOrYields, Exactly, BadLineRow, BadArgumentRow, ReadFaultRow, RefusedRow, DiskFaultRow, NotAJournalRow, AlreadyStartedRow, NotStartedRow, NotAHistoryRow, WaitsNoMore, SuspendedRow, OutcomeRow, DoneRow, TellingRow, TellsHistory, AcceptedRow, ComesBackRow, PrintFaultRow, PollFaultRow, IsPassed}
use Rattle.wf_engine.specs.Printed as end
use Rattle.wf_engine.specs.Printed.{Scene, uses_source, uses_journal, executes, status_of, tells_history, outcome_text, accepted_text}
use Rattle.wf_engine.specs.Safe.{Since}
use Rattle.wf_host.specs.World.{World, Told}
use Rattle.wf_host.specs.declared.data.Deed.{Deed}
use Rattle.wf_journal.specs.Records.{records}
use Rattle.wf_args.specs.declared.command.Command.TheVariants.{Check, Format, Help, Version}
use Rattle.wf_model.specs.Config.{Outcome, Active, Returned, Raised, Cancelled}
use Rattle.wf_deeds.specs.History.{Standing, history}
use Rattle.wf_deeds.specs.Language.{Language}
use Rattle.wf_replay.specs.TheLanguage.{the_language}
use Rattle.wf_source.specs.Laws.{OneRefusal, NotBoth}
use Rattle.wf_status.specs.Refusals.{refusal_text}
use Rattle.wf_status.specs.Statuses.{line_end, rank, status_text}
use Rattle.wf_status.specs.declared.Refusal.{Refusal}
use Rattle.wf_status.specs.declared.Status.{Status}
use Rattle.wf_status.specs.declared.Status.TheVariants as status
use Rattle.wf_tree.specs.Trees.{Tree}
use Rattle.wf_yaml_write.specs.Layout.{written}

-- ## What a status has
-- a status that comes with each end, unless an earlier cause came
pub yields : (x : Call) (st : Status) → Ends x → ((other : Status) (text : List ℕ) → HasToSay x.scene x.old x.new other text → IsOrBefore st other) → (IsLineOf x.scene (λ c. uses_source c ≡ true) → ¬ IsBadArgument x.scene → 2 < rank st)
    → (IsLineOf x.scene (λ c. uses_journal c ≡ true) → IsTaken x.scene → 4 < rank st) → (IsLineOf x.scene (λ c. executes c ≡ true) → IsTaken x.scene → Told x.old (IsPassed the_language x.scene status.PollFault) → 9 < rank st) → IsOrYields x st
yields x st (said text says prints) one reads disk polls = ⊎_elim (λ is. inl is) (λ low. inr (inl low)) (one x.status text says)
yields x st (cut other text is says why some) one reads disk polls = inr (inr (inl is))
yields x st (unread is line fine rose prints) one reads disk polls = inr (inl (subst (λ s. rank s < rank st) (sym is) (reads line fine)))
yields x st (failed is line accepted rose prints) one reads disk polls = inr (inl (subst (λ s. rank s < rank st) (sym is) (disk line accepted)))
yields x st (unheard is line accepted passed rose prints) one reads disk polls = inr (inl (subst (λ s. rank s < rank st) (sym is) (polls line accepted passed)))
yields x st (no_memory is prints) one reads disk polls = inr (inr (inr is))

-- a status that prints a line of its own
abbrev pub IsTexted : Status → List ℕ → Type 0
IsTexted st line = status_text st ≡ Some line

pub no_text : (st other : Status) (line : List ℕ) → IsTexted st line → st ≡ other → status_text other ≡ None → ⊥
no_text st other line texted is none = let no : Some line ≡ None = sym texted ∙ ap status_text is ∙ none in cc no

-- comes with its cause where the host tells
cause_told : (x : Call) (line : List ℕ) → IsTrue x.old.tells → Ends x → IsTexted x.status line → Cause the_language x.scene x.status
cause_told x line told (said text says prints) texted = says_cause x.scene x.old x.new x.status text told says
cause_told x line told (cut other text is says why some) texted = absurd (no_text x.status status.PrintFault line texted is refl)
cause_told x line told (unread is rline fine rose prints) texted = absurd (no_text x.status status.ReadFault line texted is refl)
cause_told x line told (failed is rline accepted rose prints) texted = absurd (no_text x.status status.DiskFault line texted is refl)
cause_told x line told (unheard is rline accepted passed rose prints) texted = absurd (no_text x.status status.PollFault line texted is refl)
cause_told x line told (no_memory is prints) texted = absurd (no_text x.status status.OutOfMemory line texted is refl)

-- and one of the words or of the source in any case
cause_early : (x : Call) (line : List ℕ) → rank x.status < 5 → Ends x → IsTexted x.status line → EarlyCause x.scene x.status
cause_early x line low (said text says prints) texted = says_early x.scene x.old x.new x.status text low says
cause_early x line low (cut other text is says why some) texted = absurd (no_text x.status status.PrintFault line texted is refl)
cause_early x line low (unread is rline fine rose prints) texted = absurd (no_text x.status status.ReadFault line texted is refl)
cause_early x line low (failed is rline accepted rose prints) texted = absurd (no_text x.status status.DiskFault line texted is refl)
cause_early x line low (unheard is rline accepted passed rose prints) texted = absurd (no_text x.status status.PollFault line texted is refl)
cause_early x line low (no_memory is prints) texted = absurd (no_text x.status status.OutOfMemory line texted is refl)

-- and then just its line is printed
line_printed : (x : Call) (line : List ℕ) → Ends x → IsTexted x.status line → Prints x line
line_printed x line (said text says prints) texted = λ told. subst (λ t. Prints x t) (says_text x.scene x.old x.new x.status text line told says texted) prints told
line_printed x line (cut other text is says why some) texted = absurd (no_text x.status status.PrintFault line texted is refl)
line_printed x line (unread is rline fine rose prints) texted = absurd (no_text x.status status.ReadFault line texted is refl)
line_printed x line (failed is rline accepted rose prints) texted = absurd (no_text x.status status.DiskFault line texted is refl)
line_printed x line (unheard is rline accepted passed rose prints) texted = absurd (no_text x.status status.PollFault line texted is refl)
line_printed x line (no_memory is prints) texted = absurd (no_text x.status status.OutOfMemory line texted is refl)

-- in any case where it is of the words or of the source
line_early : (x : Call) (line : List ℕ) → rank x.status < 5 → Ends x → IsTexted x.status line → Prints x line
line_early x line low (said text says prints) texted = λ told. subst (λ t. Prints x t) (text_early x.scene x.old x.new x.status text line low says texted) prints told
line_early x line low (cut other text is says why some) texted = absurd (no_text x.status status.PrintFault line texted is refl)
line_early x line low (unread is rline fine rose prints) texted = absurd (no_text x.status status.ReadFault line texted is refl)
line_early x line low (failed is rline accepted rose prints) texted = absurd (no_text x.status status.DiskFault line texted is refl)
line_early x line low (unheard is rline accepted passed rose prints) texted = absurd (no_text x.status status.PollFault line texted is refl)
line_early x line low (no_memory is prints) texted = absurd (no_text x.status status.OutOfMemory line texted is refl)

-- of a status that prints this line
pub texted_as : (x : Call) (st : Status) (line : List ℕ) → status_text st ≡ Some line → x.status ≡ st → IsTexted x.status line
texted_as x st line is same = ap status_text same ∙ is

-- ## The rows
pub bad_line_row : (x : Call) → Ends x → BadLineRow x
bad_line_row x ends n =
    let line = line_end (codes "bad line at word " ++ decimal n) in
    record {
      comes = λ is. subst (EarlyCause x.scene) is (cause_early x line (subst (λ s. rank s < 5) (sym is) (omega arith)) ends (texted_as x (status.BadLine n) line refl is));
      only = λ bad. yields x (status.BadLine n) ends (λ other text says. where_bad_line x.scene x.old x.new n other text bad says) (λ run fine. absurd (no_bad_line x.scene (λ c. uses_source c ≡ true) n run bad))
          (λ uses accepted. absurd (no_bad_line x.scene (λ c. uses_journal c ≡ true) n uses bad)) (λ runs accepted passed. absurd (no_bad_line x.scene (λ c. executes c ≡ true) n runs bad));
      prints = λ is. line_early x line (subst (λ s. rank s < 5) (sym is) (omega arith)) ends (texted_as x (status.BadLine n) line refl is);
    }

pub bad_argument_row : (x : Call) → Ends x → BadArgumentRow x
bad_argument_row x ends =
    let line = line_end (codes "bad argument") in
    record {
      comes = λ is. subst (EarlyCause x.scene) is (cause_early x line (subst (λ s. rank s < 5) (sym is) (omega arith)) ends (texted_as x status.BadArgument line refl is));
      only = λ bad. yields x status.BadArgument ends (λ other text says. where_bad_argument x.scene x.old x.new other text bad says) (λ run fine. absurd (fine bad)) (λ runs taken. absurd (taken.argument bad)) (λ runs taken passed. absurd (taken.argument bad));
      prints = λ is. line_early x line (subst (λ s. rank s < 5) (sym is) (omega arith)) ends (texted_as x status.BadArgument line refl is);
    }

pub refused_row : OneRefusal → NotBoth → (x : Call) → Ends x → RefusedRow x
refused_row law apart x ends =
    where_told x.scene.source _ (λ left told r.
    let line = line_end (refusal_text r) in
    record {
      comes = λ is. subst (EarlyCause x.scene) is (cause_early x line (subst (λ s. rank s < 5) (sym is) (omega arith)) ends (texted_as x (status.Refused r) line refl is));
      only = λ why. yields x (status.Refused r) ends (λ other text says. where_refused law apart x.scene x.old x.new left r other text told why says) (λ run fine. omega arith)
          (λ runs taken. absurd (when_told x.scene.source left ((q : Refusal) → ¬ IsRefused x.scene q) told taken.source r why))
          (λ runs taken passed. absurd (when_told x.scene.source left ((q : Refusal) → ¬ IsRefused x.scene q) told taken.source r why));
      prints = λ is. line_early x line (subst (λ s. rank s < 5) (sym is) (omega arith)) ends (texted_as x (status.Refused r) line refl is);
    })

-- of a status of the file
file_row : (x : Call) (st : Status) (line : List ℕ) → IsTrue x.old.tells → Ends x → status_text st ≡ Some line → 4 < rank st
    → ((other : Status) (text : List ℕ) → Cause the_language x.scene st → HasToSay x.scene x.old x.new other text → IsOrBefore st other) → (IsPassed the_language x.scene status.PollFault → ¬ Cause the_language x.scene st) → Exactly x st (Cause the_language x.scene st) line
file_row x st line told ends texted low before never = record {
  comes = λ is. subst (Cause the_language x.scene) is (cause_told x line told ends (texted_as x st line texted is));
  only = λ why. yields x st ends (λ other text says. before other text why says) (λ run fine. omega (arith, low)) (λ runs taken. low) (λ runs taken passed. absurd (never (passed told) why));
  prints = λ is. line_printed x line ends (texted_as x st line texted is);
}

pub not_a_journal_row : (x : Call) → IsTrue x.old.tells → Ends x → NotAJournalRow x
not_a_journal_row x told ends =
    file_row x status.NotAJournal _ told ends refl (omega arith) (λ other text why says.
    where_of_file x.scene x.old x.new status.NotAJournal other text told (omega arith) why.0 (λ q passed low. passed.magic low why) at_magic says) (λ passed. passed.magic (omega arith))

pub already_started_row : (x : Call) → IsTrue x.old.tells → Ends x → AlreadyStartedRow x
already_started_row x told ends =
    file_row x status.AlreadyStarted _ told ends refl (omega arith) (λ other text why says.
    where_of_file x.scene x.old x.new status.AlreadyStarted other text told (omega arith) (executes_line x.scene (run_executes x.scene why.0)) (λ q passed low. passed.started low why) at_started says) (λ passed. passed.started (omega arith))

pub not_started_row : (x : Call) → IsTrue x.old.tells → Ends x → NotStartedRow x
not_started_row x told ends =
    file_row x status.NotStarted _ told ends refl (omega arith) (λ other text why says.
    where_of_file x.scene x.old x.new status.NotStarted other text told (omega arith) (needs_line x.scene why.0) (λ q passed low. passed.not_started low why) at_not_started says) (λ passed. passed.not_started (omega arith))

pub not_a_history_row : (x : Call) → IsTrue x.old.tells → Ends x → NotAHistoryRow the_language x
not_a_history_row x told ends n =
    file_row x (status.NotAHistory n) _ told ends refl (omega arith) (λ other text why says. where_no_history x.scene x.old x.new n other text told why says) (λ passed. passed.history n (omega arith))

-- ## Faults
pub read_fault_row : (x : Call) → Ends x → ReadFaultRow x
read_fault_row x (said text says prints) = λ is. absurd (not_said x.scene x.old x.new x.status status.ReadFault text says is refl)
read_fault_row x (cut other text is says why some) = λ it. let no : status.PrintFault ≡ status.ReadFault = sym is ∙ it in absurd (cc no)
read_fault_row x (unread is line fine rose prints) = λ it. rose
read_fault_row x (failed is line accepted rose prints) = λ it. let no : status.DiskFault ≡ status.ReadFault = sym is ∙ it in absurd (cc no)
read_fault_row x (unheard is line accepted passed rose prints) = λ it. let no : status.PollFault ≡ status.ReadFault = sym is ∙ it in absurd (cc no)
read_fault_row x (no_memory is prints) = λ it. let no : status.OutOfMemory ≡ status.ReadFault = sym is ∙ it in absurd (cc no)

pub disk_fault_row : (x : Call) → Ends x → DiskFaultRow x
disk_fault_row x (said text says prints) = λ is. absurd (not_said x.scene x.old x.new x.status status.DiskFault text says is refl)
disk_fault_row x (cut other text is says why some) = λ it. let no : status.PrintFault ≡ status.DiskFault = sym is ∙ it in absurd (cc no)
disk_fault_row x (unread is line fine rose prints) = λ it. let no : status.ReadFault ≡ status.DiskFault = sym is ∙ it in absurd (cc no)
disk_fault_row x (failed is line accepted rose prints) = λ it. rose
disk_fault_row x (unheard is line accepted passed rose prints) = λ it. let no : status.PollFault ≡ status.DiskFault = sym is ∙ it in absurd (cc no)
disk_fault_row x (no_memory is prints) = λ it. let no : status.OutOfMemory ≡ status.DiskFault = sym is ∙ it in absurd (cc no)

pub poll_fault_row : (x : Call) → Ends x → PollFaultRow x
poll_fault_row x (said text says prints) = λ is. absurd (not_said x.scene x.old x.new x.status status.PollFault text says is refl)
poll_fault_row x (cut other text is says why some) = λ it. let no : status.PrintFault ≡ status.PollFault = sym is ∙ it in absurd (cc no)
poll_fault_row x (unread is line fine rose prints) = λ it. let no : status.ReadFault ≡ status.PollFault = sym is ∙ it in absurd (cc no)
poll_fault_row x (failed is line accepted rose prints) = λ it. let no : status.DiskFault ≡ status.PollFault = sym is ∙ it in absurd (cc no)
poll_fault_row x (unheard is line accepted passed rose prints) = λ it. rose
poll_fault_row x (no_memory is prints) = λ it. let no : status.OutOfMemory ≡ status.PollFault = sym is ∙ it in absurd (cc no)

pub print_fault_row : (x : Call) → Ends x → PrintFaultRow x
print_fault_row x (said text says prints) = λ is. absurd (not_said x.scene x.old x.new x.status status.PrintFault text says is refl)
print_fault_row x (cut other text is says why some) = λ it. why
print_fault_row x (unread is line fine rose prints) = λ it. let no : status.ReadFault ≡ status.PrintFault = sym is ∙ it in absurd (cc no)
print_fault_row x (failed is line accepted rose prints) = λ it. let no : status.DiskFault ≡ status.PrintFault = sym is ∙ it in absurd (cc no)
print_fault_row x (unheard is line accepted passed rose prints) = λ it. let no : status.PollFault ≡ status.PrintFault = sym is ∙ it in absurd (cc no)
print_fault_row x (no_memory is prints) = λ it. let no : status.OutOfMemory ≡ status.PrintFault = sym is ∙ it in absurd (cc no)

-- ## Outcomes
-- a status that is said of an outcome
abbrev pub is_outcome : Status → Bool
is_outcome status.Done = true
is_outcome status.Raised = true
is_outcome st = false

outcome_status : (o : Outcome) (st : Status) → status_of o ≡ Some st → is_outcome st ≡ true
outcome_status Active st is = let no : None ≡ Some st = is in absurd (cc no)
outcome_status (Returned v) st is = ap is_outcome (sym (same_some (Some status.Done) status.Done st refl is))
outcome_status (Raised e) st is = ap is_outcome (sym (same_some (Some status.Raised) status.Raised st refl is))
outcome_status Cancelled st is = let no : None ≡ Some st = is in absurd (cc no)

outcome_rank : (st : Status) → is_outcome st ≡ true → rank st ≡ 11
outcome_rank status.Done is = refl
outcome_rank status.Raised is = refl
outcome_rank (status.BadLine n) is = let no : false ≡ true = is in absurd (cc no)
outcome_rank (status.Refused r) is = let no : false ≡ true = is in absurd (cc no)
outcome_rank status.BadArgument is = let no : false ≡ true = is in absurd (cc no)
outcome_rank status.AlreadyStarted is = let no : false ≡ true = is in absurd (cc no)
outcome_rank status.NotStarted is = let no : false ≡ true = is in absurd (cc no)
outcome_rank status.ReadFault is = let no : false ≡ true = is in absurd (cc no)
outcome_rank status.PrintFault is = let no : false ≡ true = is in absurd (cc no)
outcome_rank status.DiskFault is = let no : false ≡ true = is in absurd (cc no)
outcome_rank status.PollFault is = let no : false ≡ true = is in absurd (cc no)
outcome_rank status.NotAJournal is = let no : false ≡ true = is in absurd (cc no)
outcome_rank (status.NotAHistory n) is = let no : false ≡ true = is in absurd (cc no)
outcome_rank status.Suspended is = let no : false ≡ true = is in absurd (cc no)
outcome_rank status.OutOfMemory is = let no : false ≡ true = is in absurd (cc no)

-- Done and Raised are told of an outcome, where a command executes
outcome_of_gives : (L : Language) (s : Scene) (image : List ℕ) (D : List Deed) (st : Status) (text : List ℕ) → IsLineOf s (λ c. executes c ≡ true) → MayPrint L s image D st text → is_outcome st ≡ true
    → (o : Outcome) × HasOutcome L s image o × (status_of o ≡ Some st) × (text ≡ outcome_text o)
outcome_of_gives L s image D _ _ line (end.bad_line n bad) is = let no : false ≡ true = is in absurd (cc no)
outcome_of_gives L s image D _ _ line (end.bad_argument why) is = let no : false ≡ true = is in absurd (cc no)
outcome_of_gives L s image D _ _ line (end.refused r why) is = let no : false ≡ true = is in absurd (cc no)
outcome_of_gives L s image D _ _ line (end.not_a_journal why) is = let no : false ≡ true = is in absurd (cc no)
outcome_of_gives L s image D _ _ line (end.already_started why) is = let no : false ≡ true = is in absurd (cc no)
outcome_of_gives L s image D _ _ line (end.not_started why) is = let no : false ≡ true = is in absurd (cc no)
outcome_of_gives L s image D _ _ line (end.not_a_history n why) is = let no : false ≡ true = is in absurd (cc no)
outcome_of_gives L s image D _ _ line (end.suspended why) is = let no : false ≡ true = is in absurd (cc no)
outcome_of_gives L s image D _ _ line (end.ended o st has which) is = (o, has, which, refl)
outcome_of_gives L s image D _ _ line (end.done text report) is = absurd (executing s line (reported_idle s text report))
outcome_of_gives L s image D _ _ line (end.told text tells) is = absurd (executing s line (idle_tells s (telling_line L s text tells)))

outcome_of_says : (s : Scene) (old new : World) (st : Status) (text : List ℕ) → IsTrue old.tells → IsLineOf s (λ c. executes c ≡ true) → HasToSay s old new st text → is_outcome st ≡ true
    → (o : Outcome) × HasOutcome the_language s new.seen o × (status_of o ≡ Some st) × (text ≡ outcome_text o)
outcome_of_says s old new _ _ told line (bad_line n bad) is = let no : false ≡ true = is in absurd (cc no)
outcome_of_says s old new _ _ told line (bad_argument why) is = let no : false ≡ true = is in absurd (cc no)
outcome_of_says s old new _ _ told line (refused r why fine) is = let no : false ≡ true = is in absurd (cc no)
outcome_of_says s old new _ _ told line (reported text report back) is = absurd (executing s line (reported_idle s text report))
outcome_of_says s old new _ _ told line (of_file st text isf line2 accepted gives) is = let g = (gives told).0 in outcome_of_gives the_language s new.seen g.0 st text line g.2 is

outcome_comes : (x : Call) → IsTrue x.old.tells → Ends x → IsLineOf x.scene (λ c. executes c ≡ true) → is_outcome x.status ≡ true
    → (o : Outcome) × HasOutcome the_language x.scene x.new.seen o × (status_of o ≡ Some x.status) × Prints x (outcome_text o)
outcome_comes x told (said text says prints) line is =
    let it = outcome_of_says x.scene x.old x.new x.status text told line says is in
    (it.0, it.1, it.2, subst (λ t. Prints x t) it.3 prints)
outcome_comes x told (cut other text it says why some) line is = let no : false ≡ true = sym (ap is_outcome it) ∙ is in absurd (cc no)
outcome_comes x told (unread it rline fine rose prints) line is = let no : false ≡ true = sym (ap is_outcome it) ∙ is in absurd (cc no)
outcome_comes x told (failed it rline accepted rose prints) line is = let no : false ≡ true = sym (ap is_outcome it) ∙ is in absurd (cc no)
outcome_comes x told (unheard it rline accepted passed rose prints) line is = let no : false ≡ true = sym (ap is_outcome it) ∙ is in absurd (cc no)
outcome_comes x told (no_memory it prints) line is = let no : false ≡ true = sym (ap is_outcome it) ∙ is in absurd (cc no)

-- one outcome of the records, and one status of it
one_status : (L : Language) (s : Scene) (image : List ℕ) (o p : Outcome) (st other : Status) → HasOutcome L s image o → HasOutcome L s image p → status_of o ≡ Some st → status_of p ≡ Some other → other ≡ st
one_status L s image o p st other (line, (c, is, has)) (line2, (d, is2, has2)) which which2 =
    let same : p ≡ o = sym has2 ∙ ap (λ (k : Standing). k.config.outcome) (same_ok (history L (records image)) d c is2 is) ∙ has in
    same_some (status_of p) other st which2 (ap status_of same ∙ which)

low_or_outcome : (other st : Status) → IsOfFile other → rank st ≡ 11 → (rank other < rank st) ⊎ (is_outcome other ≡ true)
low_or_outcome other st (inl is) equal = inl (let r = ap rank is in omega (arith, r, equal))
low_or_outcome other st (inr (inl is)) equal = inl (let r = ap rank is in omega (arith, r, equal))
low_or_outcome other st (inr (inr (inl is))) equal = inl (let r = ap rank is in omega (arith, r, equal))
low_or_outcome other st (inr (inr (inr (inl (n, is))))) equal = inl (let r = ap rank is in omega (arith, r, equal))
low_or_outcome other st (inr (inr (inr (inr (inl is))))) equal = inl (let r = ap rank is in omega (arith, r, equal))
low_or_outcome other st (inr (inr (inr (inr (inr (inl is)))))) equal = inr (ap is_outcome is)
low_or_outcome other st (inr (inr (inr (inr (inr (inr is)))))) equal = inr (ap is_outcome is)

where_outcome : (s : Scene) (old new : World) (o : Outcome) (st other : Status) (text : List ℕ) → IsTrue old.tells → status_of o ≡ Some st → HasOutcome the_language s new.seen o → HasToSay s old new other text → IsOrBefore st other
where_outcome s old new o st _ _ told which has (bad_line n bad) = inr (let r = outcome_rank st (outcome_status o st which) in omega (arith, r))
where_outcome s old new o st _ _ told which has (bad_argument why) = inr (let r = outcome_rank st (outcome_status o st which) in omega (arith, r))
where_outcome s old new o st _ _ told which has (refused q why fine) = inr (let r = outcome_rank st (outcome_status o st which) in omega (arith, r))
where_outcome s old new o st _ _ told which has (reported text report back) = absurd (executing s has.0 (reported_idle s text report))
where_outcome s old new o st _ _ told which has (of_file other text is line accepted gives) =
    ⊎_elim (λ low. inr low)
    (λ ends. let g = (gives told).0 in let it = outcome_of_gives the_language s new.seen g.0 other text has.0 g.2 ends in inl (one_status the_language s new.seen o it.0 st other has it.1 which it.2))
    (low_or_outcome other st is (outcome_rank st (outcome_status o st which)))

pub outcome_row : (x : Call) → IsTrue x.old.tells → Ends x → OutcomeRow the_language x
outcome_row x told ends = record {
  comes = λ line is. outcome_comes x told ends line (⊎_elim (λ done. ap is_outcome done) (λ raised. ap is_outcome raised) is);
  only = λ o st which has.
      let r = outcome_rank st (outcome_status o st which) in
      yields x st ends (λ other text says. where_outcome x.scene x.old x.new o st other text told which has says) (λ run fine. omega (arith, r)) (λ runs taken. omega (arith, r)) (λ runs taken passed. omega (arith, r));
}

-- ## No outcome
-- what is said where there is none tells of the file and of the deeds
suspended_of_gives : (L : Language) (s : Scene) (image : List ℕ) (D : List Deed) (st : Status) (text : List ℕ) → MayPrint L s image D st text → st ≡ status.Suspended → IsSuspended L s image D
suspended_of_gives L s image D _ _ (end.bad_line n bad) is = absurd (cc is)
suspended_of_gives L s image D _ _ (end.bad_argument why) is = absurd (cc is)
suspended_of_gives L s image D _ _ (end.refused r why) is = absurd (cc is)
suspended_of_gives L s image D _ _ (end.not_a_journal why) is = absurd (cc is)
suspended_of_gives L s image D _ _ (end.already_started why) is = absurd (cc is)
suspended_of_gives L s image D _ _ (end.not_started why) is = absurd (cc is)
suspended_of_gives L s image D _ _ (end.not_a_history n why) is = absurd (cc is)
suspended_of_gives L s image D _ _ (end.suspended why) is = why
suspended_of_gives L s image D _ _ (end.ended o st has which) is = let no : false ≡ true = ap is_outcome (sym is) ∙ outcome_status o st which in absurd (cc no)
suspended_of_gives L s image D _ _ (end.done text report) is = absurd (cc is)
suspended_of_gives L s image D _ _ (end.told text tells) is = absurd (cc is)

suspended_of_says : (s : Scene) (old new : World) (st : Status) (text : List ℕ) → IsTrue old.tells → HasToSay s old new st text → st ≡ status.Suspended → Since old new.deeds (λ D. IsSuspended the_language s new.seen D)
suspended_of_says s old new _ _ told (bad_line n bad) is = absurd (cc is)
suspended_of_says s old new _ _ told (bad_argument why) is = absurd (cc is)
suspended_of_says s old new _ _ told (refused r why fine) is = absurd (cc is)
suspended_of_says s old new _ _ told (reported text report back) is = absurd (cc is)
suspended_of_says s old new _ _ told (of_file st text isf line accepted gives) is = let g = (gives told).0 in (g.0, g.1, suspended_of_gives the_language s new.seen g.0 st text g.2 is)

suspended_comes : (x : Call) → IsTrue x.old.tells → Ends x → x.status ≡ status.Suspended → WaitsNoMore the_language x
suspended_comes x told (said text says prints) is = suspended_of_says x.scene x.old x.new x.status text told says is
suspended_comes x told (cut other text it says why some) is = let no : status.PrintFault ≡ status.Suspended = sym it ∙ is in absurd (cc no)
suspended_comes x told (unread it line fine rose prints) is = let no : status.ReadFault ≡ status.Suspended = sym it ∙ is in absurd (cc no)
suspended_comes x told (failed it line accepted rose prints) is = let no : status.DiskFault ≡ status.Suspended = sym it ∙ is in absurd (cc no)
suspended_comes x told (unheard it line accepted passed rose prints) is = let no : status.PollFault ≡ status.Suspended = sym it ∙ is in absurd (cc no)
suspended_comes x told (no_memory it prints) is = let no : status.OutOfMemory ≡ status.Suspended = sym it ∙ is in absurd (cc no)

-- without an outcome no outcome is told
not_an_outcome : (L : Language) (s : Scene) (image : List ℕ) (o : Outcome) (st : Status) → HasOutcome L s image Active → HasOutcome L s image o → status_of o ≡ Some st → ⊥
not_an_outcome L s image o st (line, (c, is, has)) (line2, (d, is2, has2)) which =
    let active : o ≡ Active = sym has2 ∙ ap (λ (k : Standing). k.config.outcome) (same_ok (history L (records image)) d c is2 is) ∙ has in
    let no : None ≡ Some st = ap status_of (sym active) ∙ which in cc no

low_suspended_or_outcome : (other : Status) → IsOfFile other → IsOrBefore status.Suspended other ⊎ (is_outcome other ≡ true)
low_suspended_or_outcome other (inl is) = inl (inr (let r = ap rank is in omega (arith, r)))
low_suspended_or_outcome other (inr (inl is)) = inl (inr (let r = ap rank is in omega (arith, r)))
low_suspended_or_outcome other (inr (inr (inl is))) = inl (inr (let r = ap rank is in omega (arith, r)))
low_suspended_or_outcome other (inr (inr (inr (inl (n, is))))) = inl (inr (let r = ap rank is in omega (arith, r)))
low_suspended_or_outcome other (inr (inr (inr (inr (inl is))))) = inl (inl is)
low_suspended_or_outcome other (inr (inr (inr (inr (inr (inl is)))))) = inr (ap is_outcome is)
low_suspended_or_outcome other (inr (inr (inr (inr (inr (inr is)))))) = inr (ap is_outcome is)

where_suspended : (s : Scene) (old new : World) (D : List Deed) (other : Status) (text : List ℕ) → IsTrue old.tells → IsSuspended the_language s new.seen D → HasToSay s old new other text → IsOrBefore status.Suspended other
where_suspended s old new D _ _ told why (bad_line n bad) = inr (omega arith)
where_suspended s old new D _ _ told why (bad_argument bad) = inr (omega arith)
where_suspended s old new D _ _ told why (refused q is fine) = inr (omega arith)
where_suspended s old new D _ _ told why (reported text report back) = absurd (executing s why.0.0 (reported_idle s text report))
where_suspended s old new D _ _ told why (of_file other text is line accepted gives) =
    ⊎_elim (λ here. here)
    (λ over. let g = (gives told).0 in let it = outcome_of_gives the_language s new.seen g.0 other text why.0.0 g.2 over in absurd (not_an_outcome the_language s new.seen it.0 other why.0 it.1 it.2))
    (low_suspended_or_outcome other is)

pub suspended_row : (x : Call) → IsTrue x.old.tells → Ends x → SuspendedRow the_language x
suspended_row x told ends =
    let line = line_end (codes "suspended") in
    record {
      comes = λ is. suspended_comes x told ends is;
      only = λ why. yields x status.Suspended ends (λ other text says. where_suspended x.scene x.old x.new why.0 other text told why.2 says) (λ run fine. omega arith) (λ runs taken. omega arith) (λ runs taken passed. omega arith);
      prints = λ is. line_printed x line ends (texted_as x status.Suspended line refl is);
    }

-- ## Reports
report_of_says : (s : Scene) (old new : World) (st : Status) (text : List ℕ) → HasToSay s old new st text → IsLineOf s (λ c. uses_journal c ≡ false) → st ≡ status.Done → Reported s text
report_of_says s old new _ _ (bad_line n bad) line is = absurd (cc is)
report_of_says s old new _ _ (bad_argument why) line is = absurd (cc is)
report_of_says s old new _ _ (refused r why fine) line is = absurd (cc is)
report_of_says s old new _ _ (reported text report back) line is = report
report_of_says s old new _ _ (of_file st text isf line2 accepted gives) line is = absurd (not_both_journals s line2 line)

done_comes : (x : Call) → Ends x → IsLineOf x.scene (λ c. uses_journal c ≡ false) → x.status ≡ status.Done → (text : List ℕ) × Reported x.scene text × Prints x text
done_comes x (said text says prints) line is = (text, report_of_says x.scene x.old x.new x.status text says line is, prints)
done_comes x (cut other text it says why some) line is = let no : status.PrintFault ≡ status.Done = sym it ∙ is in absurd (cc no)
done_comes x (unread it rline fine rose prints) line is = let no : status.ReadFault ≡ status.Done = sym it ∙ is in absurd (cc no)
done_comes x (failed it rline accepted rose prints) line is = let no : status.DiskFault ≡ status.Done = sym it ∙ is in absurd (cc no)
done_comes x (unheard it rline accepted passed rose prints) line is = let no : status.PollFault ≡ status.Done = sym it ∙ is in absurd (cc no)
done_comes x (no_memory it prints) line is = let no : status.OutOfMemory ≡ status.Done = sym it ∙ is in absurd (cc no)

where_reported : (s : Scene) (old new : World) (shown : List ℕ) (other : Status) (text : List ℕ) → Reported s shown → HasToSay s old new other text → IsOrBefore status.Done other
where_reported s old new shown _ _ report (bad_line n bad) = inr (omega arith)
where_reported s old new shown _ _ report (bad_argument why) = inr (omega arith)
where_reported s old new shown _ _ report (refused q why fine) = inr (omega arith)
where_reported s old new shown _ _ report (reported text report2 back) = inl refl
where_reported s old new shown _ _ report (of_file st text is line accepted gives) = absurd (not_both_journals s line (reported_line s shown report))

pub done_row : (x : Call) → Ends x → DoneRow x
done_row x ends = record {
  comes = λ line is. done_comes x ends line is;
  only = λ shown report. yields x status.Done ends (λ other text says. where_reported x.scene x.old x.new shown other text report says) (λ run fine. omega arith) (λ runs taken. omega arith) (λ runs taken passed. omega arith);
}

-- ## Histories that are told of
telling_of_gives : (L : Language) (s : Scene) (image : List ℕ) (D : List Deed) (st : Status) (text : List ℕ) → IsLineOf s (λ c. tells_history c ≡ true) → MayPrint L s image D st text → is_outcome st ≡ true → TellsHistory L s text × (st ≡ status.Done)
telling_of_gives L s image D _ _ line (end.bad_line n bad) is = let no : false ≡ true = is in absurd (cc no)
telling_of_gives L s image D _ _ line (end.bad_argument why) is = let no : false ≡ true = is in absurd (cc no)
telling_of_gives L s image D _ _ line (end.refused r why) is = let no : false ≡ true = is in absurd (cc no)
telling_of_gives L s image D _ _ line (end.not_a_journal why) is = let no : false ≡ true = is in absurd (cc no)
telling_of_gives L s image D _ _ line (end.already_started why) is = let no : false ≡ true = is in absurd (cc no)
telling_of_gives L s image D _ _ line (end.not_started why) is = let no : false ≡ true = is in absurd (cc no)
telling_of_gives L s image D _ _ line (end.not_a_history n why) is = let no : false ≡ true = is in absurd (cc no)
telling_of_gives L s image D _ _ line (end.suspended why) is = let no : false ≡ true = is in absurd (cc no)
telling_of_gives L s image D _ _ line (end.ended o st has which) is = absurd (executing s has.0 (idle_tells s line))
telling_of_gives L s image D _ _ line (end.done text report) is = absurd (not_both_journals s (needs_line s (tells_line s line)) (reported_line s text report))
telling_of_gives L s image D _ _ line (end.told text tells) is = (tells, refl)

telling_of_says : (s : Scene) (old new : World) (st : Status) (text : List ℕ) → IsTrue old.tells → IsLineOf s (λ c. tells_history c ≡ true) → HasToSay s old new st text → st ≡ status.Done → TellsHistory the_language s text
telling_of_says s old new _ _ told line (bad_line n bad) is = absurd (cc is)
telling_of_says s old new _ _ told line (bad_argument why) is = absurd (cc is)
telling_of_says s old new _ _ told line (refused r why fine) is = absurd (cc is)
telling_of_says s old new _ _ told line (reported text report back) is = absurd (not_both_journals s (needs_line s (tells_line s line)) (reported_line s text report))
telling_of_says s old new _ _ told line (of_file st text isf line2 accepted gives) is = let g = (gives told).0 in (telling_of_gives the_language s new.seen g.0 st text line g.2 (ap is_outcome is)).0

telling_comes : (x : Call) → IsTrue x.old.tells → Ends x → IsLineOf x.scene (λ c. tells_history c ≡ true) → x.status ≡ status.Done → (text : List ℕ) × TellsHistory the_language x.scene text × Prints x text
telling_comes x told (said text says prints) line is = (text, telling_of_says x.scene x.old x.new x.status text told line says is, prints)
telling_comes x told (cut other text it says why some) line is = let no : status.PrintFault ≡ status.Done = sym it ∙ is in absurd (cc no)
telling_comes x told (unread it rline fine rose prints) line is = let no : status.ReadFault ≡ status.Done = sym it ∙ is in absurd (cc no)
telling_comes x told (failed it rline accepted rose prints) line is = let no : status.DiskFault ≡ status.Done = sym it ∙ is in absurd (cc no)
telling_comes x told (unheard it rline accepted passed rose prints) line is = let no : status.PollFault ≡ status.Done = sym it ∙ is in absurd (cc no)
telling_comes x told (no_memory it prints) line is = let no : status.OutOfMemory ≡ status.Done = sym it ∙ is in absurd (cc no)

where_telling : (s : Scene) (old new : World) (shown : List ℕ) (other : Status) (text : List ℕ) → IsTrue old.tells → TellsHistory the_language s shown → HasToSay s old new other text → IsOrBefore status.Done other
where_telling s old new shown _ _ told tells (bad_line n bad) = inr (omega arith)
where_telling s old new shown _ _ told tells (bad_argument why) = inr (omega arith)
where_telling s old new shown _ _ told tells (refused q why fine) = inr (omega arith)
where_telling s old new shown _ _ told tells (reported text report back) = inl refl
where_telling s old new shown _ _ told tells (of_file other text is line accepted gives) =
    ⊎_elim (λ low. inr low)
    (λ ends. let g = (gives told).0 in inl (telling_of_gives the_language s new.seen g.0 other text (telling_line the_language s shown tells) g.2 ends).1)
    (low_or_outcome other status.Done is refl)

pub telling_row : (x : Call) → IsTrue x.old.tells → Ends x → TellingRow the_language x
telling_row x told ends = record {
  comes = λ line is. telling_comes x told ends line is;
  only = λ shown tells. yields x status.Done ends (λ other text says. where_telling x.scene x.old x.new shown other text told tells says) (λ run fine. omega arith) (λ runs taken. omega arith) (λ runs taken passed. omega arith);
}

-- ## Sources that are accepted
-- what `check` reports
checked_of_report : (s : Scene) (text : List ℕ) → IsLineOf s (λ c. c ≡ Check) → Reported s text → IsChecked s × (text ≡ accepted_text)
checked_of_report s _ line (end.accepted checked) = (checked, refl)
checked_of_report s text line (end.formatted l bytes text2 (is, uses, first) command laid) = let no : Check ≡ Format = one_command s Check Format line (l, is, command) in absurd (cc no)
checked_of_report s _ line (end.helped other) = let no : Check ≡ Help = one_command s Check Help line other in absurd (cc no)
checked_of_report s _ line (end.versioned other) = let no : Check ≡ Version = one_command s Check Version line other in absurd (cc no)

pub accepted_row : (x : Call) → Ends x → AcceptedRow x
accepted_row x ends = record {
  comes = λ line is.
      let done = done_comes x ends (check_reports x.scene line) is in
      let it = checked_of_report x.scene done.0 line done.1 in
      (it.0, subst (λ t. Prints x t) it.1 done.2);
  only = λ checked. (done_row x ends).only accepted_text (end.accepted checked);
}

-- ## Layouts
layout_of_says : (s : Scene) (old new : World) (st : Status) (text : List ℕ) → HasToSay s old new st text → IsLineOf s (λ c. c ≡ Format) → st ≡ status.Done → (t : Tree) × ComesBack s t × (text ≡ written t)
layout_of_says s old new _ _ (bad_line n bad) line is = absurd (cc is)
layout_of_says s old new _ _ (bad_argument why) line is = absurd (cc is)
layout_of_says s old new _ _ (refused r why fine) line is = absurd (cc is)
layout_of_says s old new _ _ (reported text report back) line is = back line
layout_of_says s old new _ _ (of_file st text isf line2 accepted gives) line is = absurd (not_both_journals s line2 (format_reports s line))

pub comes_back_row : (x : Call) → Ends x → ComesBackRow x
comes_back_row x (said text says prints) line is =
    let it = layout_of_says x.scene x.old x.new x.status text says line is in
    (it.0, it.1, subst (λ t. Prints x t) it.2 prints)
comes_back_row x (cut other text it says why some) line is = let no : status.PrintFault ≡ status.Done = sym it ∙ is in absurd (cc no)
comes_back_row x (unread it rline fine rose prints) line is = let no : status.ReadFault ≡ status.Done = sym it ∙ is in absurd (cc no)
comes_back_row x (failed it rline accepted rose prints) line is = let no : status.DiskFault ≡ status.Done = sym it ∙ is in absurd (cc no)
comes_back_row x (unheard it rline accepted passed rose prints) line is = let no : status.PollFault ≡ status.Done = sym it ∙ is in absurd (cc no)
comes_back_row x (no_memory it prints) line is = let no : status.OutOfMemory ≡ status.Done = sym it ∙ is in absurd (cc no)
