-- A journal that is read for a report.
use Rattle.std.proofs.Common.{◌≡◌, ◌≤◌, ◌≢◌, ℕ, true, false, List, [], length, take, Option, Result, Ok, Err, IfOk, refl, sym, ◌∙◌, ap, subst}
use Rattle.std.specs.Prelude.{IfErr, IsErr, IsErrAnd, IsErrOf, OnOk, String, string_bytes}
use Rattle.std.specs.declared.alloc.Global.{Global}
use Rattle.wf_cli.specs.Reports.{the_reports}
use Rattle.wf_cli.specs.Said.{ReadsJournal, IsToldOf, text_by}
use Rattle.wf_engine.specs.Printed as end
use Rattle.wf_engine.specs.Printed.{TellsHistory, tells_history}
use Rattle.wf_host.specs.World.{World, Only, LeavesOnly}
use Rattle.wf_journal.specs.Journal.{IsJournal}
use Rattle.wf_journal.specs.Records.{magic, records}
use Rattle.wf_deeds.proofs.Playing.{played_is_history}
use Rattle.wf_deeds.specs.History.{front_of, history, plays}
use Rattle.wf_deeds.specs.HistoryLaws.{IsHistory}
use Rattle.wf_args.specs.Lines.{PlainLine, turn_of, word_of}
use Rattle.wf_args.specs.declared.command.Command.{Command}
use Rattle.wf_args.specs.declared.command.Command.TheVariants.{Check, Format, Run, Resume, Show, At, Log, Help, Version}
use Rattle.wf_args.specs.declared.option.OptionName.TheVariants.{Grep}
use Rattle.wf_model.specs.Config.{Config}
use Rattle.wf_replay.specs.TheLanguage.{the_language}
use Rattle.wf_replay.specs.declared.engine_fault.EngineFault.TheVariants as engine
use Rattle.wf_replay.specs.declared.engine_fault.EngineFault.{EngineFault}
use Rattle.wf_report.specs.Journals.{Reaches, Shows}
use Rattle.wf_report.specs.Texts as texts

-- ## What is told
-- the lines of a configuration, of the whole history and of a front of it, and those of its log
tells_shown : (l : PlainLine) (J : List (List ℕ)) (c : Config) (text : List ℕ) → l.command ≡ Show → Reaches the_language J c → text ≡ texts.shown c → IsToldOf l J text
unfolding the_reports
tells_shown l J c text command (st, is, same) shows = λ s line found.
    subst (TellsHistory the_language the_reports s) (sym (shows ∙ ap texts.shown (sym same))) (end.shown st (l, line, command) (subst (λ K. history the_language K ≡ Ok st) (sym found) is))

pub tells_stood : (l : PlainLine) (J : List (List ℕ)) (text : List ℕ) → l.command ≡ At → Shows the_language J (turn_of l) text → IsToldOf l J text
unfolding the_reports
tells_stood l J text command (c, stands, shows) = λ s line found.
    let front = stands.front in
    subst (TellsHistory the_language the_reports s) (sym (shows ∙ ap texts.shown (sym front.2)))
    (end.stood l stands.whole front.0 line command (subst (λ K. plays the_language K ≡ Ok stands.whole) (sym found) stands.played) (subst (λ K. plays the_language (front_of (turn_of l) K) ≡ Ok front.0) (sym found) front.1))

tells_logged : (l : PlainLine) (J : List (List ℕ)) (c : Config) (text : List ℕ) → l.command ≡ Log → Reaches the_language J c → text ≡ texts.logged (word_of Grep l) c.log → IsToldOf l J text
unfolding the_reports
tells_logged l J c text command (st, is, same) logs = λ s line found.
    subst (TellsHistory the_language the_reports s) (sym (logs ∙ ap (λ (d : Config). texts.logged (word_of Grep l) d.log) (sym same))) (end.logged l st line command (subst (λ K. history the_language K ≡ Ok st) (sym found) is))

-- of the two commands that tell of the whole
tells_by : (k : Command) (l : PlainLine) (J : List (List ℕ)) (c : Config) (text : List ℕ) → l.command ≡ k → tells_history k ≡ true → k ≢ At → Reaches the_language J c → text ≡ text_by k (word_of Grep l) c → IsToldOf l J text
tells_by Check l J c text is tells other leads says = let no : false ≡ true = tells in absurd (cc no)
tells_by Format l J c text is tells other leads says = let no : false ≡ true = tells in absurd (cc no)
tells_by Run l J c text is tells other leads says = let no : false ≡ true = tells in absurd (cc no)
tells_by Resume l J c text is tells other leads says = let no : false ≡ true = tells in absurd (cc no)
tells_by Show l J c text is tells other leads says = tells_shown l J c text is leads says
tells_by At l J c text is tells other leads says = absurd (other refl)
tells_by Log l J c text is tells other leads says = tells_logged l J c text is leads says
tells_by Help l J c text is tells other leads says = let no : false ≡ true = tells in absurd (cc no)
tells_by Version l J c text is tells other leads says = let no : false ≡ true = tells in absurd (cc no)

pub tells_whole : (l : PlainLine) (J : List (List ℕ)) (c : Config) (text : List ℕ) → tells_history l.command ≡ true → l.command ≢ At → Reaches the_language J c → text ≡ text_by l.command (word_of Grep l) c → IsToldOf l J text
tells_whole l J c text tells other leads says = tells_by l.command l J c text refl tells other leads says

-- ## How it was read
-- what reading a file leaves, and why there is nothing, where the host tells; of what was read
pub record ReadsFile {T : Type 0} (old new : World) (r : Result T EngineFault) : Type 0 where
  pub begins : OnOk r (take 4 old.seen ≡ magic)
  pub not_a_journal : IsErrOf r engine.NotAJournal → (5 ≤ length old.seen) × (take 4 old.seen ≢ magic)
  pub not_started : IsErrOf r engine.NotStarted → (records old.seen ≡ []) × IsJournal old.seen
  pub not_a_history : IfErr r (λ e. (n : ℕ) → e ≡ engine.NotAHistory n → (history the_language (records old.seen) ≡ Err n) × (records old.seen ≢ []) × (take 4 old.seen ≡ magic))
  pub settled : OnOk r (Only new.seen new.may_leave)
  pub settled_empty : IsErrOf r engine.NotStarted → Only new.seen new.may_leave
  pub seen : new.seen ≡ old.seen
  pub any_moment : LeavesOnly old new (λ c d. old.may_leave c × (d ≡ old.deeds))
  pub deeds : new.deeds ≡ old.deeds

abbrev as_err : {T : Type 0} → EngineFault → Result T EngineFault
as_err e = Err e

-- a fault that is passed on
fault_read : {T : Type 0} (l : PlainLine) (old new : World) (f : EngineFault) → ReadsFile old new (as_err {T = T} f) → ReadsJournal l old new (Err f)
fault_read l old new f k = record {
  told = tt;
  begins = tt;
  is_history = tt;
  not_a_journal = λ is. let same : f ≡ engine.NotAJournal = cc is in k.not_a_journal (ap Err same);
  not_started = λ is. let same : f ≡ engine.NotStarted = cc is in k.not_started (ap Err same);
  not_a_history = k.not_a_history;
  settled = tt;
  settled_empty = λ is. let same : f ≡ engine.NotStarted = cc is in k.settled_empty (ap Err same);
  seen = k.seen;
  any_moment = k.any_moment;
  deeds = k.deeds;
}

pub passed_read : {T : Type 0} (l : PlainLine) (old new : World) (q : Result T EngineFault) (f : EngineFault) (r : Result (String Global) EngineFault) → ReadsFile old new q → q ≡ Err f → IsErr r × IsErrAnd r (λ e. e ≡ f) → ReadsJournal l old new r
passed_read l old new q f (Ok x) k is gives = absurd gives.1
passed_read l old new q f (Err e) k is gives = subst (λ x. ReadsJournal l old new (Err x)) (sym gives.1) (fault_read l old new f (subst (ReadsFile old new) is k))

-- where there was no memory for the text
pub lacks_read : {T : Type 0} (l : PlainLine) (old new : World) (q : Result T EngineFault) (r : Result (String Global) EngineFault) → ReadsFile old new q → IsErr r × IsErrAnd r (λ e. e ≡ engine.OutOfMemory) → ReadsJournal l old new r
lacks_read l old new q (Ok x) k gives = absurd gives.1
lacks_read l old new q (Err e) k gives = record {
  told = tt;
  begins = tt;
  is_history = tt;
  not_a_journal = λ is. let no : engine.OutOfMemory ≡ engine.NotAJournal = sym gives.1 ∙ cc is in absurd (cc no);
  not_started = λ is. let no : engine.OutOfMemory ≡ engine.NotStarted = sym gives.1 ∙ cc is in absurd (cc no);
  not_a_history = λ n is. let no : engine.OutOfMemory ≡ engine.NotAHistory n = sym gives.1 ∙ is in absurd (cc no);
  settled = tt;
  settled_empty = λ is. let no : engine.OutOfMemory ≡ engine.NotStarted = sym gives.1 ∙ cc is in absurd (cc no);
  seen = k.seen;
  any_moment = k.any_moment;
  deeds = k.deeds;
}

-- and where there is one
pub text_read : {T : Type 0} (l : PlainLine) (old new : World) (q : Result T EngineFault) (x : T) (text : String Global) → ReadsFile old new q → q ≡ Ok x → IsHistory the_language (records old.seen) → IsToldOf l (records old.seen) (string_bytes text) → ReadsJournal l old new (Ok text)
text_read l old new q x text k is history tells =
    let j = subst (ReadsFile old new) is k in
    record {
      told = tells;
      begins = j.begins;
      is_history = history;
      not_a_journal = λ no. absurd (cc no);
      not_started = λ no. absurd (cc no);
      not_a_history = tt;
      settled = j.settled;
      settled_empty = λ no. absurd (cc no);
      seen = k.seen;
      any_moment = k.any_moment;
      deeds = k.deeds;
    }

-- records that don't play are no history
pub no_play_read : {T : Type 0} (file : List ℕ) (r : Result T EngineFault)
    → IfErr r (λ e. (n : ℕ) → e ≡ engine.NotAHistory n → (plays the_language (records file) ≡ Err n) × (records file ≢ []) × (take 4 file ≡ magic))
    → IfErr r (λ e. (n : ℕ) → e ≡ engine.NotAHistory n → (history the_language (records file) ≡ Err n) × (records file ≢ []) × (take 4 file ≡ magic))
no_play_read file (Ok x) h = tt
no_play_read file (Err e) h = λ n is. let it = h n is in (sym (played_is_history the_language (records file)) ∙ it.0, it.1, it.2)

-- a text of a front of it
pub front_read : (l : PlainLine) (old new : World) (q : Result (String Global) EngineFault) → ReadsFile old new q → l.command ≡ At → IfOk q (λ text. Shows the_language (records old.seen) (turn_of l) (string_bytes text)) → ReadsJournal l old new q
front_read l old new (Ok text) k command shows =
    text_read l old new (Ok text) text text k refl (let stands = shows.1 in (stands.whole, sym (played_is_history the_language (records old.seen)) ∙ stands.played)) (tells_stood l (records old.seen) (string_bytes text) command shows)
front_read l old new (Err f) k command shows = fault_read l old new f k

-- ## The texts
text_by_other : (k : Command) (grep : Option (List ℕ)) (c : Config) → k ≢ Log → text_by k grep c ≡ texts.shown c
text_by_other Check grep c other = refl
text_by_other Format grep c other = refl
text_by_other Run grep c other = refl
text_by_other Resume grep c other = refl
text_by_other Show grep c other = refl
text_by_other At grep c other = refl
text_by_other Log grep c other = absurd (other refl)
text_by_other Help grep c other = refl
text_by_other Version grep c other = refl

pub shows_by : {E : Type 0} (k : Command) (grep : Option (List ℕ)) (c : Config) (id : List ℕ) (r : Result (String Global) E) → k ≢ Log → id ≡ c.facts.id → IfOk r (λ t. string_bytes t ≡ texts.shown_as id c) → IfOk r (λ t. string_bytes t ≡ text_by k grep c)
shows_by k grep c id (Ok t) other same is = is ∙ ap (λ i. texts.shown_as i c) same ∙ sym (text_by_other k grep c other)
shows_by k grep c id (Err e) other same is = tt

pub logs_by : {E : Type 0} (k : Command) (grep word : Option (List ℕ)) (c : Config) (r : Result (String Global) E) → k ≡ Log → word ≡ grep → IfOk r (λ t. string_bytes t ≡ texts.logged word c.log) → IfOk r (λ t. string_bytes t ≡ text_by k grep c)
logs_by k grep word c (Ok t) command same is = is ∙ ap (λ w. texts.logged w c.log) same ∙ ap (λ q. text_by q grep c) (sym command)
logs_by k grep word c (Err e) command same is = tt
