-- What is safe is safe with prints behind, and at the end of a command.
use Rattle.std.proofs.Common.{◌≡◌, ◌≤◌, ◌⊎◌, ◌≢◌, inl, inr, ⊎_elim, IsTrue, ℕ, true, false, List, [], ◌∷◌, ◌++◌, length, take, Contains, Option, None, Some, option_map, refl, sym, ◌∙◌, ap, subst, append_assoc}
use Rattle.std.specs.List.{AllByRecursion}
use Rattle.std.proofs.lemmas.List.{append-nil}
use Rattle.wf_lemmas.proofs.Lists.{all_both}
use Rattle.wf_cli.proofs.Deeds.{nows_behind, polls_behind, poll_readings_behind, printed_both, poll_is_no_print, prints_small, before_prints, replied_behind}
use Rattle.wf_deeds.specs.Deeds.{polls, nows, poll_readings, greatest, reading_by, starts_or_polls, was_replied, before_poll, IsSmall}
use Rattle.wf_host.specs.Printing.{IsPrint, printed}
use Rattle.wf_deeds.specs.Kept.{Command, Session, Kept, Answers, Decides, config, last_of}
use Rattle.wf_deeds.specs.Outside.{Outside}
use Rattle.wf_deeds.specs.Rules.{AnswersStand, RepliesAreMade, MayEnd, DeedKeepsRules, EndKeepsRules}
use Rattle.wf_engine.specs.Printed.{Scene, Reports, Reads, MayPrint, bad_line, bad_argument, refused, not_a_journal, already_started, not_started, not_a_history, suspended, ended, done, told}
use Rattle.wf_engine.specs.Safe.{IsPrefix, session, StartIsOfTheLine, PrintedIsOutcome, IsLate, Safe}
use Rattle.wf_engine.specs.Starts.{start_of}
use Rattle.wf_events.specs.Records.{Started}
use Rattle.wf_events.specs.Spelling.{record_bytes}
use Rattle.wf_host.specs.declared.data.Deed.{Deed}
use Rattle.wf_host.specs.declared.data.Deed.TheVariants.{Start, Poll, Now, Reply, Drop, Print}
use Rattle.wf_args.specs.Lines.{PlainLine}
use Rattle.wf_deeds.specs.At.{journal, config_before}
use Rattle.wf_deeds.specs.Language.{Language}
use Rattle.wf_model.specs.Ready.{quiet}
use Rattle.wf_status.specs.Statuses.{status_code}
use Rattle.wf_status.specs.declared.Status.{Status}

-- ## Small deeds
-- a small deed is no start and no poll
pub no_start : (d : Deed) → IsSmall d → IsTrue (starts_or_polls (d ∷ [])) → ⊥
no_start (Start k a b) small is = small
no_start (Poll u h) small is = small
no_start (Now t) small is = let no : false ≡ true = is in cc no
no_start (Reply n b) small is = small
no_start (Drop k) small is = small
no_start (Print b) small is = let no : false ≡ true = is in cc no

-- no deed is among none
pub no_deed : (before behind : List Deed) (d : Deed) → [] ≡ before ++ d ∷ behind → ⊥
no_deed [] behind d is = cc is
no_deed (e ∷ before) behind d is = cc is

abbrev pub of_command : List (List ℕ) → ℕ → List Deed → Command → Option ℕ → Session
of_command payloads number D command end = record { payloads = payloads; number = number; deeds = D; command = command; end = end; handed = false }

-- ## Ends
-- an end of which the rules ask nothing: neither with an outcome nor suspended
abbrev pub IsPlainEnd : ℕ → Type 0
IsPlainEnd n = (n ≢ 0) × (n ≢ 1) × (n ≢ 13)

pub plain_end : (L : Language) (O : Outside) (x : Session) (n : ℕ) → IsPlainEnd n → MayEnd L O x n
plain_end L O x n plain = (λ which. absurd (⊎_elim plain.0 (λ other. ⊎_elim plain.1 plain.2 other) which), λ is. absurd (plain.2 is))

-- where nothing was done every end may come, but that of a suspended command
pub still_end : (L : Language) (O : Outside) (payloads : List (List ℕ)) (number : ℕ) (command : Command) (n : ℕ) → n ≢ 13 → MayEnd L O (of_command payloads number [] command None) n
still_end L O payloads number command n other =
    (λ which. (λ before behind until h k a c comes ans at still. absurd (no_deed before behind (Poll until h) comes), λ before behind until h d v comes dec. absurd (no_deed before behind (Poll until h) comes)), λ is. absurd (other is))

reading_behind : (last : ℕ) (D P : List Deed) (w : ℕ) → AllByRecursion IsPrint P → reading_by last (D ++ P) w ≡ reading_by last D w
reading_behind last D P w prints =
    ap (λ l. greatest (last ∷ l ++ take w (poll_readings (D ++ P)))) (nows_behind D P prints)
    ∙ ap (λ l. greatest (last ∷ nows D ++ take w l)) (poll_readings_behind D P prints)

module _ (L : Language) (O : Outside) (payloads : List (List ℕ)) (number : ℕ) (D P : List Deed) (command : Command) (prints : AllByRecursion IsPrint P) where
  abbrev without : Session
  without = of_command payloads number D command None

  abbrev behind : Session
  behind = of_command payloads number (D ++ P) command None

  answers_behind : AnswersStand L O without → AnswersStand L O behind
  answers_behind stand front back until h k a c comes ans at still =
      let there = before_prints D P front back (Poll until h) prints (poll_is_no_print until h) comes in
      let same : Answers L O without front (Poll until h) h.what k a = record { of_call = ans.of_call; now = ans.now; not_yet = ans.not_yet } in
      stand front there.0 until h k a c there.1 same at still

  replies_behind : RepliesAreMade L O without → RepliesAreMade L O behind
  replies_behind made front back until h d v comes dec =
      let there = before_prints D P front back (Poll until h) prints (poll_is_no_print until h) comes in
      let same : Decides L O without front h.what d v = record { decides = dec.decides; config = dec.config; at = dec.at; verdict = dec.verdict } in
      subst (λ l. was_replied d.visit (before_poll l) ≡ true) (sym there.2) (replied_behind d.visit there.0 P (made front there.0 until h d v there.1 same))

  -- a command may end with prints behind as it may without them
  pub may_end_behind : (n : ℕ) → MayEnd L O without n → MayEnd L O behind n
  may_end_behind n may = (
    λ which. let well = may.0 which in (answers_behind well.0, replies_behind well.1),
    λ is.
        let rest = may.1 is in
        let last = last_of (config_before (journal L payloads) number) in
        let reads : reading_by last D (polls D) ≡ reading_by last (D ++ P) (polls (D ++ P)) = sym (ap (λ w. reading_by last (D ++ P) w) (polls_behind D P prints) ∙ reading_behind last D P (polls D) prints) in
        (rest.0, ap (λ w. config L O without w) (polls_behind D P prints) ∙ rest.1, subst (λ r. IsTrue (quiet rest.0 r)) reads rest.2),
  )

-- ## The rules
prints_kept : DeedKeepsRules → (L : Language) (O : Outside) (payloads : List (List ℕ)) (number : ℕ) (D P : List Deed) (command : Command) → AllByRecursion IsPrint P → Kept L O (of_command payloads number D command None) → Kept L O (of_command payloads number (D ++ P) command None)
prints_kept law L O payloads number D [] command prints kept = subst (λ E. Kept L O (of_command payloads number E command None)) (sym (append-nil D)) kept
prints_kept law L O payloads number D (d ∷ P) command prints kept =
    let (b, is) = prints.0 in
    let one = subst (λ e. Kept L O (of_command payloads number (D ++ e ∷ []) command None)) (sym is) (law L O (of_command payloads number D command None) (Print b) kept refl tt) in
    subst (λ E. Kept L O (of_command payloads number E command None)) (append_assoc D (d ∷ []) P) (prints_kept law L O payloads number (D ++ d ∷ []) P command prints.1 one)

-- a command that goes on, or may end with this status
abbrev pub MayEndBy : Language → Outside → Session → Option Status → Type 0
MayEndBy L O x None = Unit {0}
MayEndBy L O x (Some st) = MayEnd L O x (status_code st)

kept_behind : DeedKeepsRules → EndKeepsRules → (L : Language) (O : Outside) (payloads : List (List ℕ)) (number : ℕ) (D P : List Deed) (command : Command) (e : Option Status) → AllByRecursion IsPrint P
    → MayEndBy L O (of_command payloads number D command None) e → Kept L O (of_command payloads number D command None) → Kept L O (of_command payloads number (D ++ P) command (option_map status_code e))
kept_behind deed end L O payloads number D P command None prints may kept = prints_kept deed L O payloads number D P command prints kept
kept_behind deed end L O payloads number D P command (Some st) prints may kept =
    end L O (of_command payloads number (D ++ P) command None) (status_code st) (prints_kept deed L O payloads number D P command prints kept) refl (may_end_behind L O payloads number D P command prints (status_code st) may)

-- ## What is printed
-- a cause holds with prints behind too
pub gives_behind : (L : Language) (R : Reports) (s : Scene) (image : List ℕ) (D P : List Deed) (st : Status) (text : List ℕ) → AllByRecursion IsPrint P → MayPrint L R s image D st text → MayPrint L R s image (D ++ P) st text
gives_behind L R s image D P _ _ prints (bad_line n why) = bad_line n why
gives_behind L R s image D P _ _ prints (bad_argument why) = bad_argument why
gives_behind L R s image D P _ _ prints (refused r why) = refused r why
gives_behind L R s image D P _ _ prints (not_a_journal why) = not_a_journal why
gives_behind L R s image D P _ _ prints (already_started why) = already_started why
gives_behind L R s image D P _ _ prints (not_started why) = not_started why
gives_behind L R s image D P _ _ prints (not_a_history n why) = not_a_history n why
gives_behind L R s image D P _ _ prints (suspended why) = suspended (why.0, (why.1.0, why.1.1, polls_behind D P prints ∙ why.1.2))
gives_behind L R s image D P _ _ prints (ended o st has is) = ended o st has is
gives_behind L R s image D P _ _ prints (done text report) = done text report
gives_behind L R s image D P _ _ prints (told text tells) = told text tells

-- what these prints printed is the front of a text that the command has cause to print behind these deeds
abbrev pub IsFront : Language → Reports → Scene → List ℕ → List Deed → List Deed → Type 0
IsFront L R s image D P = (printed P ≡ []) ⊎ ((st : Status) × (text : List ℕ) × MayPrint L R s image D st text × IsPrefix (printed P) text)

-- ## Safe moments
module _ (L : Language) (O : Outside) (R : Reports) (s : Scene) (e : Option Status) (deed : DeedKeepsRules) (end : EndKeepsRules) where
  printed_behind : (image : List ℕ) (D P : List Deed) → printed D ≡ [] → AllByRecursion IsPrint P → IsFront L R s image D P → PrintedIsOutcome L O R s e image (D ++ P)
  printed_behind image D P silent prints is =
      let same : printed P ≡ printed (D ++ P) = sym (printed_both D P ∙ ap (λ l. l ++ printed P) silent) in
      ⊎_elim (λ none. inl (sym same ∙ none)) (λ (st, text, gives, front). inr (st, text, gives_behind L R s image D P st text prints gives, subst (λ t. IsPrefix t text) same front)) is

  start_behind : (image : List ℕ) (D P : List Deed) → AllByRecursion IsPrint P → StartIsOfTheLine L O R s None image D → StartIsOfTheLine L O R s e image (D ++ P)
  start_behind image D P prints start first rest none is = again first (start first rest none is)
    where
      again : (first : List ℕ) → (l : PlainLine) × (bytes : List ℕ) × Reads s l bytes × ((t : ℕ) × Contains (nows D) t × (first ≡ record_bytes (Started (start_of l bytes t))))
          → (l : PlainLine) × (bytes : List ℕ) × Reads s l bytes × ((t : ℕ) × Contains (nows (D ++ P)) t × (first ≡ record_bytes (Started (start_of l bytes t))))
      again first (l, bytes, reads, (t, among, at)) = (l, bytes, reads, (t, subst (λ ts. Contains ts t) (sym (nows_behind D P prints)) among, at))

  pub late_behind : (image : List ℕ) (D P : List Deed) → MayEndBy L O (session L O R s None image D) e → printed D ≡ [] → AllByRecursion IsPrint P → IsFront L R s image D P → IsLate L O R s None image D → IsLate L O R s e image (D ++ P)
  late_behind image D P may silent prints is late = record {
    history = late.history;
    keeps = late.keeps;
    own = late.own;
    start = start_behind image D P prints late.start;
    deeds = kept_behind deed end L O _ _ D P _ e prints may late.deeds;
    printed = printed_behind image D P silent prints is;
  }

  pub safe_behind : (entry : List ℕ → Type 0) (image : List ℕ) (D P : List Deed) → MayEndBy L O (session L O R s None image D) e → printed D ≡ [] → AllByRecursion IsPrint P → IsFront L R s image D P → Safe L O R s None entry image D
      → Safe L O R s e entry image (D ++ P)
  safe_behind entry image D P may silent prints is (inl early) = inl (record {
    small = all_both IsSmall D P early.small (prints_small P prints);
    clock = subst (λ n. n ≤ 1) (sym (ap length (nows_behind D P prints))) early.clock;
    at_entry = early.at_entry;
    printed = printed_behind image D P silent prints is;
  })
  safe_behind entry image D P may silent prints is (inr late) = inr (late_behind image D P may silent prints is late)
