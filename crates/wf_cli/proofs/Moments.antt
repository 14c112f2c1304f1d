-- Moments of a command that are safe.
use Rattle.std.proofs.Common.{◌≡◌, ◌≢◌, ◌≤◌, ◌⊎◌, inl, inr, ⊎_elim, ℕ, true, false, List, [], ◌∷◌, ◌++◌, All, Contains, Option, None, Some, option_map, refl, sym, ◌∙◌, ap, subst, append_assoc, arith}
use Rattle.std.specs.List.{AllByRecursion}
use Rattle.std.proofs.lemmas.List.{append-nil, append_cancel_left}
use Rattle.std.proofs.lemmas.List.Elements.{All-nil, Contains-append_left}
use Rattle.wf_lemmas.proofs.Lists.{all_at, all_both}
use Rattle.wf_cli.proofs.Deeds.{nows_both, printed_both}
use Rattle.wf_cli.proofs.Safe.{no_start, no_deed, of_command}
use Rattle.wf_cli.specs.Reports.{the_reports}
use Rattle.wf_cli.specs.Said.{IsOpened}
use Rattle.wf_deeds.specs.Clauses.{IsOfSession, KeptAt}
use Rattle.wf_deeds.specs.Deeds.{nows, IsSmall}
use Rattle.wf_host.specs.Printing.{printed}
use Rattle.wf_engine.specs.Engine.{memory}
use Rattle.wf_deeds.specs.Kept as kept
use Rattle.wf_deeds.specs.Kept.{Kept, own}
use Rattle.wf_deeds.specs.Laws.{OnlyReadings}
use Rattle.wf_deeds.specs.Outside.{Outside}
use Rattle.wf_engine.specs.Printed.{Scene, Reads}
use Rattle.wf_engine.specs.Safe.{IsFit, SafeAt, LateAt, command_by}
use Rattle.wf_engine.specs.Starts.{start_of}
use Rattle.wf_engine.specs.declared.engine.Engine.{Engine}
use Rattle.wf_events.specs.Reading.{meaning}
use Rattle.wf_events.specs.Records.{Started}
use Rattle.wf_events.specs.Spelling.{record_bytes}
use Rattle.wf_history.specs.Kinds.{turn_in}
use Rattle.wf_host.specs.World.{World}
use Rattle.wf_host.specs.declared.data.Deed.{Deed}
use Rattle.wf_host.specs.declared.data.Deed.TheVariants.{Now}
use Rattle.wf_journal.specs.Journal.{IsJournal}
use Rattle.wf_journal.specs.Records.{records}
use Rattle.wf_journal.specs.Standing.{magic_of_records, new_none}
use Rattle.wf_journal.specs.Steps.{Moment}
use Rattle.wf_args.specs.Lines.{PlainLine, line_of}
use Rattle.wf_model.specs.Config.{Config, Active}
use Rattle.wf_deeds.specs.At.{journal, begins, config_before, next_session, session_turns}
use Rattle.wf_deeds.specs.History.{history}
use Rattle.wf_deeds.specs.Language.{Language}
use Rattle.wf_deeds.specs.HistoryLaws.{IsHistory}
use Rattle.wf_deeds.specs.Moments.{NoTurnsBehind, NextBehindHistory}
use Rattle.wf_ast.specs.Tree.{Program}
use Rattle.wf_replay.specs.TheLanguage.{the_language}
use Rattle.wf_value.specs.Events.{Turn, Start}

-- a moment at which nothing was opened yet: a file as at entry, and no deed or one reading of the clock
pub early_nothing : (L : Language) (O : Outside) (s : Scene) (old : World) (c : List ℕ) (d : List Deed) → old.may_leave c → d ≡ old.deeds → SafeAt L O the_reports s None old c d
early_nothing L O s old c d may is = ([], is ∙ sym (append-nil old.deeds), inl (record { small = tt; clock = omega arith; at_entry = may; printed = inl refl }))

pub early_now : (L : Language) (O : Outside) (s : Scene) (old : World) (c : List ℕ) (d : List Deed) (t : ℕ) → old.may_leave c → d ≡ old.deeds ++ Now t ∷ [] → SafeAt L O the_reports s None old c d
early_now L O s old c d t may is = (Now t ∷ [], is, inl (record { small = (tt, tt); clock = omega arith; at_entry = may; printed = inl refl }))

-- ## The start alone
no_place : (es ls : List Turn) (u : Turn) → [] ≡ es ++ u ∷ ls → ⊥
no_place [] ls u is = cc is
no_place (e ∷ es) ls u is = cc is

-- the rule on a clock that isn't to be read
abbrev pub ReadsNone : Language → kept.Command → List (List ℕ) → ℕ → List Deed → Type 0
ReadsNone L command payloads number D = (c : Config) → command ≡ kept.Resume → config_before (journal L payloads) number ≡ Some c → c.outcome ≢ Active → nows D ≡ []

-- one reading of the clock, and no turn
pub kept_now : (L : Language) (O : Outside) (command : kept.Command) (payloads : List (List ℕ)) (number t : ℕ) → OnlyReadings → own L O (of_command payloads number (Now t ∷ []) command None) ≡ []
    → ReadsNone L command payloads number (Now t ∷ []) → Kept L O (of_command payloads number (Now t ∷ []) command None)
kept_now L O command payloads number t only none quiet =
    let x = of_command payloads number (Now t ∷ []) command None in
    only L O x (tt, tt) none (λ no. cc no) (record {
      waits = subst (λ ts. All (λ (u : Turn). u.waits ≤ 0) ts) (sym none) (All-nil (λ (u : Turn). u.waits ≤ 0));
      readings = λ u e r p is. absurd (no_place p.earlier p.later u (sym none ∙ p.turn));
      once = λ some. refl;
      first = λ before behind d comes starts. absurd (no_start d (all_at IsSmall before d behind (subst (λ l. AllByRecursion IsSmall l) comes (tt, tt))) starts);
      at_most = omega arith;
      none = quiet;
    })

-- no deed, and no turn
pub kept_still : (L : Language) (O : Outside) (command : kept.Command) (payloads : List (List ℕ)) (number : ℕ) → OnlyReadings → own L O (of_command payloads number [] command None) ≡ [] → Kept L O (of_command payloads number [] command None)
kept_still L O command payloads number only none =
    let x = of_command payloads number [] command None in
    only L O x tt none (λ no. cc no) (record {
      waits = subst (λ ts. All (λ (u : Turn). u.waits ≤ 0) ts) (sym none) (All-nil (λ (u : Turn). u.waits ≤ 0));
      readings = λ u e r p is. absurd (no_place p.earlier p.later u (sym none ∙ p.turn));
      once = λ some. absurd (⊎_elim (λ turned. turned none) (λ polled. let no : false ≡ true = polled in cc no) some);
      first = λ before behind d comes starts. absurd (no_deed before behind d comes);
      at_most = omega arith;
      none = λ c resumes was ended. refl;
    })

pub no_turns_of_none : (L : Language) (J : List (List ℕ)) (n : ℕ) → J ≡ [] → session_turns (journal L J) n ≡ []
no_turns_of_none L J n is = ap (λ K. session_turns (journal L K) n) is

no_turns_of_start : (L : Language) (payload : List ℕ) (st : Start) (p : Program) (n : ℕ) → meaning payload ≡ Some (Started st) → L.source st.source ≡ Some p → session_turns (journal L (payload ∷ [])) n ≡ []
no_turns_of_start L payload st p n means accepted =
    ap (λ m. session_turns (begins L m []) n) means
    ∙ ap (λ o. session_turns (option_map (λ q. record { start = st; program = q; turns = [] }) o) n) accepted

-- what is known of the start of a line
pub record StartOfLine (s : Scene) (t : ℕ) (payload : List ℕ) : Type 0 where
  pub line : PlainLine
  pub bytes : List ℕ
  pub reads : Reads s line bytes
  pub is_start : payload ≡ record_bytes (Started (start_of line bytes t))
  pub means : meaning payload ≡ Some (Started (start_of line bytes t))
  pub program : Program
  pub accepted : the_language.source bytes ≡ Some program
  pub history : IsHistory the_language (payload ∷ [])
  pub command : command_by (line_of s.words) ≡ kept.Run

-- a start is no turn
pub no_turn_of_start : (payload : List ℕ) (l : PlainLine) (bytes : List ℕ) (t number : ℕ) → meaning payload ≡ Some (Started (start_of l bytes t)) → IsOfSession number payload
no_turn_of_start payload l bytes t number means u is = let no : ◌≡◌ {A = Option Turn} None (Some u) = ap turn_in (sym means) ∙ is in absurd (cc no)

-- records behind some, which are these
own_behind : (number : ℕ) (before those added : List (List ℕ)) → before ++ those ≡ before ++ added → AllByRecursion (IsOfSession number) those → AllByRecursion (IsOfSession number) added
own_behind number before those added same theirs = subst (λ l. AllByRecursion (IsOfSession number) l) (append_cancel_left before those added same) theirs

head_is : (a b : List ℕ) (x y : List (List ℕ)) → a ∷ x ≡ b ∷ y → a ≡ b
head_is a b x y is = ap (λ l. first_of a l) is
  where
    first_of : List ℕ → List (List ℕ) → List ℕ
    first_of d [] = d
    first_of d (e ∷ l) = e

-- no record yet, or the start alone, behind one reading of the clock
pub late_start : (O : Outside) (s : Scene) (old : World) (t : ℕ) (payload : List ℕ) (c : List ℕ) (d : List Deed) → OnlyReadings → StartOfLine s t payload → records s.found ≡ [] → d ≡ old.deeds ++ Now t ∷ [] → IsJournal c
    → (records c ≡ []) ⊎ (records c ≡ payload ∷ []) → SafeAt the_language O the_reports s None old c d
late_start O s old t payload c d only start none is file has = (
  Now t ∷ [],
  is,
  inr (record {
    history = ⊎_elim empty this has;
    keeps = (records c, ap (λ J. J ++ records c) (sym none));
    own = λ added behind. own_behind (next_session (journal the_language (records s.found))) (records s.found) (records c) added (ap (λ J. J ++ records c) none ∙ behind) (own_start (next_session (journal the_language (records s.found))) has);
    start = λ first rest found is_first. (start.line, start.bytes, start.reads, (t, (0, omega arith, refl), ⊎_elim (λ no. absurd (nothing first rest (sym no ∙ is_first))) (λ this. head_is first payload rest [] (sym is_first ∙ this) ∙ start.is_start) has));
    deeds =
        subst (λ k. Kept the_language O (of_command (records c) (next_session (journal the_language (records s.found))) (Now t ∷ []) k None)) (sym start.command)
        (kept_now the_language O kept.Run (records c) (next_session (journal the_language (records s.found))) t only (no_turns (next_session (journal the_language (records s.found))) has) (λ d resumes was ended. absurd (cc resumes)));
    printed = inl refl;
  }),
)
  where
    nothing : (first : List ℕ) (rest : List (List ℕ)) → [] ≡ first ∷ rest → ⊥
    nothing first rest never = cc never

    own_start : (n : ℕ) → (records c ≡ []) ⊎ (records c ≡ payload ∷ []) → AllByRecursion (IsOfSession n) (records c)
    own_start n (inl empty) = subst (λ l. AllByRecursion (IsOfSession n) l) (sym empty) tt
    own_start n (inr this) = subst (λ l. AllByRecursion (IsOfSession n) l) (sym this) (no_turn_of_start payload start.line start.bytes t n start.means, tt)

    no_turns : (n : ℕ) → (records c ≡ []) ⊎ (records c ≡ payload ∷ []) → session_turns (journal the_language (records c)) n ≡ []
    no_turns n (inl empty) = no_turns_of_none the_language (records c) n empty
    no_turns n (inr this) = ap (λ J. session_turns (journal the_language J) n) this ∙ no_turns_of_start the_language payload (start_of start.line start.bytes t) start.program n start.means start.accepted

    empty : records c ≡ [] → IsFit the_language c
    empty none = ⊎_elim (λ short. inl short) (λ begins. inr (inl (begins, none))) file

    this : records c ≡ payload ∷ [] → IsFit the_language c
    this one = inr (inr (magic_of_records c file (λ no. nothing payload [] (sym no ∙ one)), (start.history.0, ap (history the_language) one ∙ start.history.1)))

-- ## Going on
-- a moment of an execution that was opened
pub late_going : (L : Language) (O : Outside) (s : Scene) (command : kept.Command) (waits : ℕ) (old mid : World) (done : List Deed) (e : Engine) (c : List ℕ) (d : List Deed) → IsOpened L O command s done mid e → mid.deeds ≡ old.deeds ++ done → printed done ≡ []
    → Moment mid (KeptAt L O command false (memory e) waits (records mid.seen) done) c d → LateAt L O the_reports s None old c d
late_going L O s command waits old mid done e c d opened deeds silent (E, is, begins, k) = (
  done ++ E,
  is ∙ ap (λ l. l ++ E) deeds ∙ append_assoc old.deeds done E,
  record {
    history = inr (inr (begins, k.history));
    keeps = (opened.added ++ k.added, keeps);
    own = λ added behind. own_behind (next_session (journal L (records s.found))) (records s.found) (opened.added ++ k.added) added (sym keeps ∙ behind)
        (subst (λ n. AllByRecursion (IsOfSession n) (opened.added ++ k.added)) opened.number (all_both (IsOfSession (memory e).session) opened.added k.added opened.own k.own));
    start = λ first rest found is_first. again first rest is_first (opened.start found);
    deeds =
        subst (λ n. Kept L O (of_command (records c) n (done ++ E) (command_by (line_of s.words)) None)) opened.number
        (subst (λ q. Kept L O (of_command (records c) (memory e).session (done ++ E) q None)) (sym opened.is_of) k.kept);
    printed = inl (printed_both done E ∙ ap (λ l. l ++ printed E) silent ∙ k.silent);
  },
)
  where
    keeps : records c ≡ records s.found ++ (opened.added ++ k.added)
    keeps = k.records ∙ ap (λ J. J ++ k.added) opened.keeps ∙ append_assoc (records s.found) opened.added k.added

    again : (first : List ℕ) (rest : List (List ℕ)) → records c ≡ first ∷ rest
        → (l : PlainLine) × (bytes : List ℕ) × Reads s l bytes × ((t : ℕ) × Contains (nows done) t × (records mid.seen ≡ record_bytes (Started (start_of l bytes t)) ∷ []))
        → (l : PlainLine) × (bytes : List ℕ) × Reads s l bytes × ((t : ℕ) × Contains (nows (done ++ E)) t × (first ≡ record_bytes (Started (start_of l bytes t))))
    again first rest is_first (l, bytes, reads, (t, among, one)) = (
      l,
      bytes,
      reads,
      (
        t,
        subst (λ ts. Contains ts t) (sym (nows_both done E)) (Contains-append_left (nows done) (nows E) t among),
        head_is first (record_bytes (Started (start_of l bytes t))) rest k.added (sym is_first ∙ k.records ∙ ap (λ J. J ++ k.added) one),
      ),
    )

-- such a moment is safe
pub safe_late : (L : Language) (O : Outside) (s : Scene) (old : World) (c : List ℕ) (d : List Deed) → LateAt L O the_reports s None old c d → SafeAt L O the_reports s None old c d
safe_late L O s old c d (D, is, late) = (D, is, inr late)

-- ## A file that was only read
-- what was found is there still, behind an opening that did nothing or read the clock
pub late_found : (L : Language) (O : Outside) (s : Scene) (old : World) (command : kept.Command) (D : List Deed) (image : List ℕ) (d : List Deed) → command_by (line_of s.words) ≡ command → IsFit L s.found → image ≡ s.found → d ≡ old.deeds ++ D → printed D ≡ []
    → Kept L O (of_command (records s.found) (next_session (journal L (records s.found))) D command None) → LateAt L O the_reports s None old image d
late_found L O s old command D image d is_of fit same is silent rules =
    let number = next_session (journal L (records s.found)) in
    let here : LateAt L O the_reports s None old s.found d = (
      D,
      is,
      record {
        history = fit;
        keeps = ([], sym (append-nil (records s.found)));
        own = λ added behind. own_behind number (records s.found) [] added (append-nil (records s.found) ∙ behind) tt;
        start = λ first rest none is_first. absurd (let no : [] ≡ first ∷ rest = sym none ∙ is_first in cc no);
        deeds = subst (λ k. Kept L O (of_command (records s.found) number D k None)) (sym is_of) rules;
        printed = inl silent;
      },
    ) in
    subst (λ i. LateAt L O the_reports s None old i d) (sym same) here

-- a journal with a record, which is a history, has no turn of the next session
pub no_turns_next : NoTurnsBehind → NextBehindHistory → (L : Language) (file : List ℕ) → IsFit L file → records file ≢ [] → session_turns (journal L (records file)) (next_session (journal L (records file))) ≡ []
no_turns_next behind next L file (inl short) some = absurd (some (new_none file short))
no_turns_next behind next L file (inr (inl (begins, none))) some = absurd (some none)
no_turns_next behind next L file (inr (inr (begins, (st, is)))) some = let number = next L (records file) st is in behind L (records file) st (next_session (journal L (records file))) is (omega (arith, number))

-- and one without a record has none, and no configuration
pub reads_none_of_none : (L : Language) (command : kept.Command) (J : List (List ℕ)) (number : ℕ) (D : List Deed) → J ≡ [] → ReadsNone L command J number D
reads_none_of_none L command J number D none c resumes was ended = absurd (let no : None ≡ Some c = ap (λ K. config_before (journal L K) number) (sym none) ∙ was in cc no)
