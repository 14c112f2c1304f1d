-- The causes of statuses, and which of them come together.
use Rattle.std.proofs.Common.{◌≡◌, ◌<◌, inl, inr, IsTrue, ℕ, Bool, true, false, List, None, Some, Result, Ok, Err, refl, sym, ◌∙◌, ap, subst, arith}
use Rattle.wf_lemmas.proofs.Options.{same_some}
use Rattle.wf_cli.specs.Top.{IsLineOf, IsBadLine, IsBadArgument, IsRefused, HasOtherMagic, IsStarted, IsNotStarted, IsNoHistory, Reported, TellsHistory, MayPrint, IsOfFile, HasToSay, bad_line, bad_argument, refused, reported, of_file}
use Rattle.wf_engine.specs.Printed as end
use Rattle.wf_engine.specs.Printed.{Scene, found_by, uses_source, uses_journal, executes, needs_history, status_of, tells_history}
use Rattle.wf_engine.specs.Starts.{HasArgument}
use Rattle.wf_host.specs.World.{World}
use Rattle.wf_host.specs.declared.data.Deed.{Deed}
use Rattle.wf_args.specs.Lines.{PlainLine, line_of}
use Rattle.wf_args.specs.declared.command.Command.{Command}
use Rattle.wf_args.specs.declared.command.Command.TheVariants.{Check, Format, Run, Resume, Show, At, Log, Help, Version}
use Rattle.wf_model.specs.Config.{Outcome, Active, Returned, Raised, Cancelled}
use Rattle.wf_deeds.proofs.Playing.{played_is_history}
use Rattle.wf_deeds.specs.History.{history}
use Rattle.wf_deeds.specs.Language.{Language}
use Rattle.wf_journal.specs.Records.{records}
use Rattle.wf_replay.specs.TheLanguage.{the_language}
use Rattle.wf_status.specs.Statuses.{rank, status_text}
use Rattle.wf_status.specs.declared.Refusal.{Refusal}
use Rattle.wf_status.specs.declared.Status.{Status}
use Rattle.wf_status.specs.declared.Status.TheVariants as status

-- ## Results
abbrev is_ok_shape : {A B : Type 0} → Result A B → Bool
is_ok_shape (Ok a) = true
is_ok_shape (Err b) = false

pub not_both : {A B : Type 0} (r : Result A B) (a : A) (b : B) → r ≡ Ok a → r ≡ Err b → ⊥
not_both r a b is_ok is_err = let no : true ≡ false = ap is_ok_shape (sym is_ok ∙ is_err) in cc no

pub same_err : {A B : Type 0} (r : Result A B) (b c : B) → r ≡ Err b → r ≡ Err c → b ≡ c
same_err r b c is js = ap (err_value b) (sym is ∙ js)
  where
    err_value : {A B : Type 0} → B → Result A B → B
    err_value d (Ok a) = d
    err_value d (Err e) = e

pub same_ok : {A B : Type 0} (r : Result A B) (a b : A) → r ≡ Ok a → r ≡ Ok b → a ≡ b
same_ok r a b is js = ap (ok_value a) (sym is ∙ js)
  where
    ok_value : {A B : Type 0} → A → Result A B → A
    ok_value d (Ok c) = c
    ok_value d (Err e) = d

-- ## Lines
-- two facts of the line's command are of one command
pub both : (s : Scene) (P Q : Command → Type 0) → IsLineOf s P → IsLineOf s Q → (c : Command) × P c × Q c
both s P Q (l, is, p) (m, js, q) = (l.command, p, subst (λ (k : PlainLine). Q k.command) (same_ok (line_of s.words) m l js is) q)

pub no_bad_line : (s : Scene) (P : Command → Type 0) (n : ℕ) → IsLineOf s P → IsBadLine s n → ⊥
no_bad_line s P n (l, is, p) bad = not_both (line_of s.words) l n is bad

-- what a command needs that does one or the other
never : (P : Type 0) → false ≡ true → P
never P isnt = absurd (cc isnt)

executes_uses : (c : Command) → executes c ≡ true → uses_journal c ≡ true
executes_uses Check is = never (uses_journal Check ≡ true) is
executes_uses Format is = never (uses_journal Format ≡ true) is
executes_uses Run is = refl
executes_uses Resume is = refl
executes_uses Show is = refl
executes_uses At is = refl
executes_uses Log is = refl
executes_uses Help is = never (uses_journal Help ≡ true) is
executes_uses Version is = never (uses_journal Version ≡ true) is

needs_uses : (c : Command) → needs_history c ≡ true → uses_journal c ≡ true
needs_uses Check is = never (uses_journal Check ≡ true) is
needs_uses Format is = never (uses_journal Format ≡ true) is
needs_uses Run is = refl
needs_uses Resume is = refl
needs_uses Show is = refl
needs_uses At is = refl
needs_uses Log is = refl
needs_uses Help is = never (uses_journal Help ≡ true) is
needs_uses Version is = never (uses_journal Version ≡ true) is

tells_needs : (c : Command) → tells_history c ≡ true → needs_history c ≡ true
tells_needs Resume is = refl
tells_needs Check is = is
tells_needs Format is = is
tells_needs Run is = is
tells_needs Show is = is
tells_needs At is = is
tells_needs Log is = is
tells_needs Help is = is
tells_needs Version is = is

tells_idle : (c : Command) → tells_history c ≡ true → executes c ≡ false
tells_idle Check is = refl
tells_idle Format is = refl
tells_idle Run is = never (executes Run ≡ false) is
tells_idle Resume is = never (executes Resume ≡ false) is
tells_idle Show is = refl
tells_idle At is = refl
tells_idle Log is = refl
tells_idle Help is = refl
tells_idle Version is = refl

unused_idle : (c : Command) → uses_journal c ≡ false → executes c ≡ false
unused_idle Check is = refl
unused_idle Format is = refl
unused_idle Run is = never (executes Run ≡ false) (sym is)
unused_idle Resume is = never (executes Resume ≡ false) (sym is)
unused_idle Show is = refl
unused_idle At is = refl
unused_idle Log is = refl
unused_idle Help is = refl
unused_idle Version is = refl

-- a line that executes, and one that doesn't
pub executing : (s : Scene) → IsLineOf s (λ c. executes c ≡ true) → IsLineOf s (λ c. executes c ≡ false) → ⊥
executing s a b =
    let it = both s (λ c. executes c ≡ true) (λ c. executes c ≡ false) a b in
    let no : true ≡ false = sym it.1 ∙ it.2 in cc no

-- one that uses a journal, and one that doesn't
pub not_both_journals : (s : Scene) → IsLineOf s (λ c. uses_journal c ≡ true) → IsLineOf s (λ c. uses_journal c ≡ false) → ⊥
not_both_journals s a b =
    let it = both s (λ c. uses_journal c ≡ true) (λ c. uses_journal c ≡ false) a b in
    let no : true ≡ false = sym it.1 ∙ it.2 in cc no

pub line_is : (s : Scene) (P Q : Command → Type 0) → ((c : Command) → P c → Q c) → IsLineOf s P → IsLineOf s Q
line_is s P Q within (l, is, p) = (l, is, within l.command p)

pub run_executes : (s : Scene) → IsLineOf s (λ c. c ≡ Run) → IsLineOf s (λ c. executes c ≡ true)
run_executes s line = line_is s (λ c. c ≡ Run) (λ c. executes c ≡ true) (λ c is. ap executes is) line

pub resume_executes : (s : Scene) → IsLineOf s (λ c. c ≡ Resume) → IsLineOf s (λ c. executes c ≡ true)
resume_executes s line = line_is s (λ c. c ≡ Resume) (λ c. executes c ≡ true) (λ c is. ap executes is) line

pub executes_line : (s : Scene) → IsLineOf s (λ c. executes c ≡ true) → IsLineOf s (λ c. uses_journal c ≡ true)
executes_line s line = line_is s (λ c. executes c ≡ true) (λ c. uses_journal c ≡ true) executes_uses line

pub needs_line : (s : Scene) → IsLineOf s (λ c. needs_history c ≡ true) → IsLineOf s (λ c. uses_journal c ≡ true)
needs_line s line = line_is s (λ c. needs_history c ≡ true) (λ c. uses_journal c ≡ true) needs_uses line

pub tells_line : (s : Scene) → IsLineOf s (λ c. tells_history c ≡ true) → IsLineOf s (λ c. needs_history c ≡ true)
tells_line s line = line_is s (λ c. tells_history c ≡ true) (λ c. needs_history c ≡ true) tells_needs line

pub idle_tells : (s : Scene) → IsLineOf s (λ c. tells_history c ≡ true) → IsLineOf s (λ c. executes c ≡ false)
idle_tells s line = line_is s (λ c. tells_history c ≡ true) (λ c. executes c ≡ false) tells_idle line

pub idle_line : (s : Scene) → IsLineOf s (λ c. uses_journal c ≡ false) → IsLineOf s (λ c. executes c ≡ false)
idle_line s line = line_is s (λ c. uses_journal c ≡ false) (λ c. executes c ≡ false) unused_idle line

pub check_reports : (s : Scene) → IsLineOf s (λ c. c ≡ Check) → IsLineOf s (λ c. uses_journal c ≡ false)
check_reports s line = line_is s (λ c. c ≡ Check) (λ c. uses_journal c ≡ false) (λ c is. ap uses_journal is) line

pub format_reports : (s : Scene) → IsLineOf s (λ c. c ≡ Format) → IsLineOf s (λ c. uses_journal c ≡ false)
format_reports s line = line_is s (λ c. c ≡ Format) (λ c. uses_journal c ≡ false) (λ c is. ap uses_journal is) line

pub reported_line : (s : Scene) (text : List ℕ) → Reported s text → IsLineOf s (λ c. uses_journal c ≡ false)
reported_line s _ (end.accepted (l, bytes, p, (is, uses, first), command, source)) = (l, is, ap uses_journal command)
reported_line s text (end.formatted l bytes text2 (is, uses, first) command laid) = (l, is, ap uses_journal command)
reported_line s _ (end.helped line) = line_is s (λ c. c ≡ Help) (λ c. uses_journal c ≡ false) (λ c is. ap uses_journal is) line
reported_line s _ (end.versioned line) = line_is s (λ c. c ≡ Version) (λ c. uses_journal c ≡ false) (λ c is. ap uses_journal is) line

pub reported_idle : (s : Scene) (text : List ℕ) → Reported s text → IsLineOf s (λ c. executes c ≡ false)
reported_idle s text report = idle_line s (reported_line s text report)

-- what is told of a history is told by a line that does so
pub telling_line : (L : Language) (s : Scene) (text : List ℕ) → TellsHistory L s text → IsLineOf s (λ c. tells_history c ≡ true)
telling_line L s _ (end.shown t line is) = line_is s (λ c. c ≡ Show) (λ c. tells_history c ≡ true) (λ c is. ap tells_history is) line
telling_line L s _ (end.stood l whole t is command history front) = (l, is, ap tells_history command)
telling_line L s _ (end.logged l t is command history) = (l, is, ap tells_history command)

pub refused_line : (s : Scene) (r : Refusal) → IsRefused s r → IsLineOf s (λ c. uses_source c ≡ true)
refused_line s r (l, bytes, (is, uses, first), why) = (l, is, uses)

-- a line is of one command
pub one_command : (s : Scene) (c d : Command) → IsLineOf s (λ x. x ≡ c) → IsLineOf s (λ x. x ≡ d) → c ≡ d
one_command s c d a b = let it = both s (λ x. x ≡ c) (λ x. x ≡ d) a b in sym it.1 ∙ it.2

pub not_run_and_resume : (s : Scene) → IsLineOf s (λ c. c ≡ Run) → IsLineOf s (λ c. c ≡ Resume) → ⊥
not_run_and_resume s a b = let no : Run ≡ Resume = one_command s Run Resume a b in cc no

pub not_run_and_needs : (s : Scene) → IsLineOf s (λ c. c ≡ Run) → IsLineOf s (λ c. needs_history c ≡ true) → ⊥
not_run_and_needs s a b =
    let it = both s (λ c. c ≡ Run) (λ c. needs_history c ≡ true) a b in
    let no : false ≡ true = sym (ap needs_history it.1) ∙ it.2 in cc no

pub resume_needs : (s : Scene) → IsLineOf s (λ c. c ≡ Resume) → IsLineOf s (λ c. needs_history c ≡ true)
resume_needs s line = line_is s (λ c. c ≡ Resume) (λ c. needs_history c ≡ true) (λ c is. ap needs_history is) line

-- ## No history
-- each command finds where a history leads
found_history : (L : Language) (c : Command) (J : List (List ℕ)) → found_by L c J ≡ history L J
found_history L Check J = refl
found_history L Format J = refl
found_history L Run J = refl
found_history L Resume J = refl
found_history L Show J = refl
found_history L At J = played_is_history L J
found_history L Log J = refl
found_history L Help J = refl
found_history L Version J = refl

pub none_found : (L : Language) (s : Scene) (n : ℕ) → IsNoHistory L s n → history L (records s.found) ≡ Err n
none_found L s n (l, is, (needs, found)) = sym (found_history L l.command (records s.found)) ∙ found

pub none_needed : (L : Language) (s : Scene) (n : ℕ) → IsNoHistory L s n → IsLineOf s (λ c. needs_history c ≡ true)
none_needed L s n (l, is, (needs, found)) = (l, is, needs)

pub is_no_history : (L : Language) (s : Scene) (n : ℕ) → IsLineOf s (λ c. needs_history c ≡ true) → history L (records s.found) ≡ Err n → IsNoHistory L s n
is_no_history L s n (l, is, needs) found = (l, is, (needs, found_history L l.command (records s.found) ∙ found))

-- ## Arguments
-- just `run` has one
pub argument_line : (s : Scene) → IsBadArgument s → IsLineOf s (λ c. c ≡ Run)
argument_line s (l, is, command, none) = (l, is, command)

pub no_argument : (s : Scene) (l : PlainLine) → line_of s.words ≡ Ok l → (l.command ≡ Run → ⊥) → ¬ IsBadArgument s
no_argument s l is other (m, js, command, none) = other (ap (λ (k : PlainLine). k.command) (same_ok (line_of s.words) l m is js) ∙ command)

-- a line that has an argument has no bad one
pub good_argument : (s : Scene) (l : PlainLine) → line_of s.words ≡ Ok l → HasArgument l → ¬ IsBadArgument s
good_argument s l is has (m, js, command, none) = none (subst HasArgument (same_ok (line_of s.words) l m is js) has)

pub no_bad_argument : (s : Scene) → IsLineOf s (λ c. executes c ≡ false) → ¬ IsBadArgument s
no_bad_argument s line bad = executing s (run_executes s (argument_line s bad)) line

-- ## The cause of a status that prints a line
abbrev pub Cause : Language → Scene → Status → Type 0
Cause L s (status.BadLine n) = IsBadLine s n
Cause L s status.BadArgument = IsBadArgument s
Cause L s (status.Refused r) = IsRefused s r
Cause L s status.NotAJournal = HasOtherMagic s
Cause L s status.AlreadyStarted = IsStarted s
Cause L s status.NotStarted = IsNotStarted s
Cause L s (status.NotAHistory n) = IsNoHistory L s n
Cause L s st = Unit {0}

outcome_cause : (L : Language) (s : Scene) (o : Outcome) (st : Status) → status_of o ≡ Some st → Cause L s st
outcome_cause L s Active st is = let no : None ≡ Some st = is in cc no
outcome_cause L s (Returned v) st is = subst (Cause L s) (same_some (Some status.Done) status.Done st refl is) tt
outcome_cause L s (Raised e) st is = subst (Cause L s) (same_some (Some status.Raised) status.Raised st refl is) tt
outcome_cause L s Cancelled st is = let no : None ≡ Some st = is in cc no

pub gives_cause : (L : Language) (s : Scene) (image : List ℕ) (D : List Deed) (st : Status) (text : List ℕ) → MayPrint L s image D st text → Cause L s st
gives_cause L s image D _ _ (end.bad_line n bad) = bad
gives_cause L s image D _ _ (end.bad_argument why) = why
gives_cause L s image D _ _ (end.refused r why) = why
gives_cause L s image D _ _ (end.not_a_journal why) = why
gives_cause L s image D _ _ (end.already_started why) = why
gives_cause L s image D _ _ (end.not_started why) = why
gives_cause L s image D _ _ (end.not_a_history n why) = why
gives_cause L s image D _ _ (end.suspended why) = tt
gives_cause L s image D _ _ (end.ended o st has is) = outcome_cause L s o st is
gives_cause L s image D _ _ (end.done text report) = tt
gives_cause L s image D _ _ (end.told text tells) = tt

pub says_cause : (s : Scene) (old new : World) (st : Status) (text : List ℕ) → IsTrue old.tells → HasToSay s old new st text → Cause the_language s st
says_cause s old new _ _ told (bad_line n bad) = bad
says_cause s old new _ _ told (bad_argument why) = why
says_cause s old new _ _ told (refused r why fine) = why
says_cause s old new _ _ told (reported text report back) = tt
says_cause s old new _ _ told (of_file st text is line accepted gives) = let g = (gives told).0 in gives_cause the_language s new.seen g.0 st text g.2

-- ## Lines that are printed
-- of a result no line is printed by the status itself
outcome_untexted : (o : Outcome) (st : Status) (line : List ℕ) → status_of o ≡ Some st → status_text st ≡ Some line → ⊥
outcome_untexted Active st line is texted = let no : None ≡ Some st = is in cc no
outcome_untexted (Returned v) st line is texted = let no : None ≡ Some line = subst (λ x. status_text x ≡ Some line) (sym (same_some (Some status.Done) status.Done st refl is)) texted in cc no
outcome_untexted (Raised e) st line is texted = let no : None ≡ Some line = subst (λ x. status_text x ≡ Some line) (sym (same_some (Some status.Raised) status.Raised st refl is)) texted in cc no
outcome_untexted Cancelled st line is texted = let no : None ≡ Some st = is in cc no

pub gives_text : (L : Language) (s : Scene) (image : List ℕ) (D : List Deed) (st : Status) (text line : List ℕ) → MayPrint L s image D st text → status_text st ≡ Some line → text ≡ line
gives_text L s image D _ _ line (end.bad_line n bad) is = same_some (status_text (status.BadLine n)) _ line refl is
gives_text L s image D _ _ line (end.bad_argument why) is = same_some (status_text status.BadArgument) _ line refl is
gives_text L s image D _ _ line (end.refused r why) is = same_some (status_text (status.Refused r)) _ line refl is
gives_text L s image D _ _ line (end.not_a_journal why) is = same_some (status_text status.NotAJournal) _ line refl is
gives_text L s image D _ _ line (end.already_started why) is = same_some (status_text status.AlreadyStarted) _ line refl is
gives_text L s image D _ _ line (end.not_started why) is = same_some (status_text status.NotStarted) _ line refl is
gives_text L s image D _ _ line (end.not_a_history n why) is = same_some (status_text (status.NotAHistory n)) _ line refl is
gives_text L s image D _ _ line (end.suspended why) is = same_some (status_text status.Suspended) _ line refl is
gives_text L s image D _ _ line (end.ended o st has which) is = absurd (outcome_untexted o st line which is)
gives_text L s image D _ _ line (end.done text report) is = let no : None ≡ Some line = is in cc no
gives_text L s image D _ _ line (end.told text tells) is = let no : None ≡ Some line = is in cc no

pub says_text : (s : Scene) (old new : World) (st : Status) (text line : List ℕ) → IsTrue old.tells → HasToSay s old new st text → status_text st ≡ Some line → text ≡ line
says_text s old new _ _ line told (bad_line n bad) is = same_some (status_text (status.BadLine n)) _ line refl is
says_text s old new _ _ line told (bad_argument why) is = same_some (status_text status.BadArgument) _ line refl is
says_text s old new _ _ line told (refused r why fine) is = same_some (status_text (status.Refused r)) _ line refl is
says_text s old new _ _ line told (reported text report back) is = let no : None ≡ Some line = is in cc no
says_text s old new _ _ line told (of_file st text isf rline accepted gives) is = let g = (gives told).0 in gives_text the_language s new.seen g.0 st text line g.2 is

-- ## Statuses that are said
abbrev pub is_said : Status → Bool
is_said status.ReadFault = false
is_said status.PrintFault = false
is_said status.DiskFault = false
is_said status.PollFault = false
is_said status.OutOfMemory = false
is_said st = true

file_said : (st : Status) → IsOfFile st → is_said st ≡ true
file_said st (inl is) = ap is_said is
file_said st (inr (inl is)) = ap is_said is
file_said st (inr (inr (inl is))) = ap is_said is
file_said st (inr (inr (inr (inl (n, is))))) = ap is_said is
file_said st (inr (inr (inr (inr (inl is))))) = ap is_said is
file_said st (inr (inr (inr (inr (inr (inl is)))))) = ap is_said is
file_said st (inr (inr (inr (inr (inr (inr is)))))) = ap is_said is

pub says_said : (s : Scene) (old new : World) (st : Status) (text : List ℕ) → HasToSay s old new st text → is_said st ≡ true
says_said s old new _ _ (bad_line n bad) = refl
says_said s old new _ _ (bad_argument why) = refl
says_said s old new _ _ (refused r why fine) = refl
says_said s old new _ _ (reported text report back) = refl
says_said s old new _ _ (of_file st text is line accepted gives) = file_said st is

-- a status that is said is none of the others
pub not_said : (s : Scene) (old new : World) (st other : Status) (text : List ℕ) → HasToSay s old new st text → st ≡ other → is_said other ≡ false → ⊥
not_said s old new st other text says is isnt = let no : true ≡ false = sym (says_said s old new st text says) ∙ ap is_said is ∙ isnt in cc no

-- ## Ranks
pub file_rank : (st : Status) → IsOfFile st → (4 < rank st) × (rank st < 12)
file_rank st (inl is) = subst (λ x. (4 < rank x) × (rank x < 12)) (sym is) (omega arith, omega arith)
file_rank st (inr (inl is)) = subst (λ x. (4 < rank x) × (rank x < 12)) (sym is) (omega arith, omega arith)
file_rank st (inr (inr (inl is))) = subst (λ x. (4 < rank x) × (rank x < 12)) (sym is) (omega arith, omega arith)
file_rank st (inr (inr (inr (inl (n, is))))) = subst (λ x. (4 < rank x) × (rank x < 12)) (sym is) (omega arith, omega arith)
file_rank st (inr (inr (inr (inr (inl is))))) = subst (λ x. (4 < rank x) × (rank x < 12)) (sym is) (omega arith, omega arith)
file_rank st (inr (inr (inr (inr (inr (inl is)))))) = subst (λ x. (4 < rank x) × (rank x < 12)) (sym is) (omega arith, omega arith)
file_rank st (inr (inr (inr (inr (inr (inr is)))))) = subst (λ x. (4 < rank x) × (rank x < 12)) (sym is) (omega arith, omega arith)

-- what is said of words or of a source doesn't depend on the file
abbrev pub EarlyCause : Scene → Status → Type 0
EarlyCause s (status.BadLine n) = IsBadLine s n
EarlyCause s status.BadArgument = IsBadArgument s
EarlyCause s (status.Refused r) = IsRefused s r
EarlyCause s st = Unit {0}

pub says_early : (s : Scene) (old new : World) (st : Status) (text : List ℕ) → rank st < 5 → HasToSay s old new st text → EarlyCause s st
says_early s old new _ _ low (bad_line n bad) = bad
says_early s old new _ _ low (bad_argument why) = why
says_early s old new _ _ low (refused r why fine) = why
says_early s old new _ _ low (reported text report back) = tt
says_early s old new _ _ low (of_file st text is line accepted gives) = absurd (let r = file_rank st is in let no : ⊥ = omega (arith, r.0, low) in no)

pub text_early : (s : Scene) (old new : World) (st : Status) (text line : List ℕ) → rank st < 5 → HasToSay s old new st text → status_text st ≡ Some line → text ≡ line
text_early s old new _ _ line low (bad_line n bad) is = same_some (status_text (status.BadLine n)) _ line refl is
text_early s old new _ _ line low (bad_argument why) is = same_some (status_text status.BadArgument) _ line refl is
text_early s old new _ _ line low (refused r why fine) is = same_some (status_text (status.Refused r)) _ line refl is
text_early s old new _ _ line low (reported text report back) is = let no : None ≡ Some line = is in cc no
text_early s old new _ _ line low (of_file st text isf rline accepted gives) is = absurd (let r = file_rank st isf in let no : ⊥ = omega (arith, r.0, low) in no)
