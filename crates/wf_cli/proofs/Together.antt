-- What is said where a cause holds: the status of this cause, or one that is looked at before.
use Rattle.std.proofs.Common.{◌≡◌, ◌<◌, ◌⊎◌, inl, inr, ⊎_elim, IsTrue, ℕ, true, false, List, None, Some, Result, Err, refl, sym, ◌∙◌, ap, subst, arith}
use Rattle.std.proofs.lemmas.Bool.{cases_lt}
use Rattle.wf_cli.proofs.Causes.{same_ok, same_err, both, no_bad_line, not_both_journals, run_executes, needs_line, reported_idle, reported_line, refused_line, argument_line, no_bad_argument, Cause, gives_cause, none_found, none_needed}
use Rattle.wf_cli.specs.Reports.{layout_of, the_reports}
use Rattle.wf_cli.specs.Top.{IsLineOf, IsBadLine, IsBadArgument, IsRefused, IsNoHistory, Reported, MayPrint, IsOfFile, IsPassed, HasToSay, bad_line, bad_argument, refused, reported, of_file}
use Rattle.wf_engine.specs.Printed as end
use Rattle.wf_engine.specs.Printed.{Scene, uses_source, uses_journal, executes, refuses}
use Rattle.wf_host.specs.Source.{Rest, IsFirst, WhereTold}
use Rattle.wf_host.specs.World.{World}
use Rattle.wf_host.specs.declared.data.Deed.{Deed}
use Rattle.wf_journal.specs.Records.{records}
use Rattle.wf_args.specs.Lines.{PlainLine, line_of}
use Rattle.wf_args.specs.declared.command.Command.{Command}
use Rattle.wf_args.specs.declared.command.Command.TheVariants.{Check, Format, Run, Resume, Show, At, Log, Help, Version}
use Rattle.wf_deeds.specs.History.{history}
use Rattle.wf_deeds.specs.Language.{Language}
use Rattle.wf_replay.specs.TheLanguage.{the_language}
use Rattle.wf_status.specs.Statuses.{rank}
use Rattle.wf_status.specs.declared.Refusal.{Refusal}
use Rattle.wf_status.specs.declared.Status.{Status}
use Rattle.wf_status.specs.declared.Status.TheVariants as status
use Rattle.wf_source.specs.Laws.{OneRefusal, NotBoth}
use Rattle.wf_source.specs.Sources.{read_tree}
use Rattle.wf_tree.specs.Trees.{Tree}

-- this status, or one that is looked at before it
abbrev pub IsOrBefore : Status → Status → Type 0
IsOrBefore st other = (other ≡ st) ⊎ (rank other < rank st)

-- ## Words that are no line
pub where_bad_line : (s : Scene) (old new : World) (n : ℕ) (other : Status) (text : List ℕ) → IsBadLine s n → HasToSay s old new other text → IsOrBefore (status.BadLine n) other
where_bad_line s old new n _ _ bad (bad_line m is) = inl (ap status.BadLine (same_err (line_of s.words) m n is bad))
where_bad_line s old new n _ _ bad (bad_argument why) = absurd (no_bad_line s (λ c. executes c ≡ true) n (run_executes s (argument_line s why)) bad)
where_bad_line s old new n _ _ bad (refused r why fine) = absurd (no_bad_line s (λ c. uses_source c ≡ true) n (refused_line s r why) bad)
where_bad_line s old new n _ _ bad (reported text report back) = absurd (no_bad_line s (λ c. uses_journal c ≡ false) n (reported_line s text report) bad)
where_bad_line s old new n _ _ bad (of_file st text is line accepted gives) = absurd (no_bad_line s (λ c. uses_journal c ≡ true) n line bad)

-- ## An argument that is bad
pub where_bad_argument : (s : Scene) (old new : World) (other : Status) (text : List ℕ) → IsBadArgument s → HasToSay s old new other text → IsOrBefore status.BadArgument other
where_bad_argument s old new _ _ bad (bad_line m is) = inr (omega arith)
where_bad_argument s old new _ _ bad (bad_argument why) = inl refl
where_bad_argument s old new _ _ bad (refused r why fine) = absurd (fine bad)
where_bad_argument s old new _ _ bad (reported text report back) = absurd (no_bad_argument s (reported_idle s text report) bad)
where_bad_argument s old new _ _ bad (of_file st text is line taken gives) = absurd (taken.argument bad)

-- ## A source that is refused
-- of a source that tells, the bytes that were read are these
pub same_bytes : (source : Rest) (left a b : List ℕ) → source ≡ Some left → IsFirst 131073 source a → IsFirst 131073 source b → a ≡ b
same_bytes source left a b told is js = subst (λ r. IsFirst 131073 r a) told is ∙ sym (subst (λ r. IsFirst 131073 r b) told js)

pub where_told : (source : Rest) (P : Type 0) → ((left : List ℕ) → source ≡ Some left → P) → WhereTold source P
where_told None P f = tt
where_told (Some left) P f = f left refl

pub when_told : (source : Rest) (left : List ℕ) (P : Type 0) → source ≡ Some left → WhereTold source P → P
when_told source left P told is = subst (λ r. WhereTold r P) told is

-- a command that refuses uses the source, and `check` and `run` refuse by the law of programs
refuses_once : OneRefusal → (c : Command) (bytes : List ℕ) (q r : Refusal) → refuses c bytes q → refuses c bytes r → q ≡ r
refuses_once law Check bytes q r is js = law bytes q r is js
refuses_once law Format bytes q r is js = same_err (read_tree bytes) q r is js
refuses_once law Run bytes q r is js = law bytes q r is js
refuses_once law Resume bytes q r is js = absurd is
refuses_once law Show bytes q r is js = absurd is
refuses_once law At bytes q r is js = absurd is
refuses_once law Log bytes q r is js = absurd is
refuses_once law Help bytes q r is js = absurd is
refuses_once law Version bytes q r is js = absurd is

one_refusal : OneRefusal → (s : Scene) (left : List ℕ) (q r : Refusal) → s.source ≡ Some left → IsRefused s q → IsRefused s r → q ≡ r
one_refusal law s left q r told (l, bytes, (is, uses, first), why) (m, bytes2, (is2, uses2, first2), why2) =
    let line : l ≡ m = same_ok (line_of s.words) l m is is2 in
    let here : refuses l.command bytes r =
    subst (λ b. refuses l.command b r) (sym (same_bytes s.source left bytes bytes2 told first first2)) (subst (λ (k : PlainLine). refuses k.command bytes2 r) (sym line) why2) in
    refuses_once law l.command bytes q r why here

-- what is laid out isn't refused
not_both_answers : (t : Result Tree Refusal) (r : Refusal) (text : List ℕ) → t ≡ Err r → layout_of t ≡ Some text → ⊥
not_both_answers t r text why laid = let no : None ≡ Some text = sym (ap layout_of why) ∙ laid in cc no

laid_or_refused : (bytes text : List ℕ) (r : Refusal) → refuses Format bytes r → the_reports.formatted bytes ≡ Some text → ⊥
unfolding the_reports
laid_or_refused bytes text r why laid = not_both_answers (read_tree bytes) r text why laid

no_source : (s : Scene) (r : Refusal) (c : Command) → uses_source c ≡ false → IsRefused s r → IsLineOf s (λ d. d ≡ c) → ⊥
no_source s r c none why line =
    let it = both s (λ d. uses_source d ≡ true) (λ d. d ≡ c) (refused_line s r why) line in
    let no : true ≡ false = sym it.1 ∙ ap uses_source it.2 ∙ none in cc no

refused_or_reported : NotBoth → (s : Scene) (left : List ℕ) (r : Refusal) (text : List ℕ) → s.source ≡ Some left → IsRefused s r → Reported s text → ⊥
refused_or_reported apart s left r _ told (l, bytes, (is, uses, first), why) (end.accepted (m, bytes2, p, (is2, uses2, first2), command, source)) =
    let line : l ≡ m = same_ok (line_of s.words) l m is is2 in
    let here : refuses Check bytes2 r =
    subst (λ b. refuses Check b r) (same_bytes s.source left bytes bytes2 told first first2) (subst (λ c. refuses c bytes r) (ap (λ (k : PlainLine). k.command) line ∙ command) why) in
    apart bytes2 p r source here
refused_or_reported apart s left r text told (l, bytes, (is, uses, first), why) (end.formatted m bytes2 text2 (is2, uses2, first2) command laid) =
    let line : l ≡ m = same_ok (line_of s.words) l m is is2 in
    let here : refuses Format bytes2 r =
    subst (λ b. refuses Format b r) (same_bytes s.source left bytes bytes2 told first first2) (subst (λ c. refuses c bytes r) (ap (λ (k : PlainLine). k.command) line ∙ command) why) in
    laid_or_refused bytes2 text r here laid
refused_or_reported apart s left r _ told why (end.helped line) = no_source s r Help refl why line
refused_or_reported apart s left r _ told why (end.versioned line) = no_source s r Version refl why line

pub where_refused : OneRefusal → NotBoth → (s : Scene) (old new : World) (left : List ℕ) (r : Refusal) (other : Status) (text : List ℕ) → s.source ≡ Some left → IsRefused s r → HasToSay s old new other text → IsOrBefore (status.Refused r) other
where_refused law apart s old new left r _ _ told why (bad_line m is) = inr (omega arith)
where_refused law apart s old new left r _ _ told why (bad_argument bad) = inr (omega arith)
where_refused law apart s old new left r _ _ told why (refused q why2 fine) = inl (ap status.Refused (one_refusal law s left q r told why2 why))
where_refused law apart s old new left r _ _ told why (reported text report back) = absurd (refused_or_reported apart s left r text told why report)
where_refused law apart s old new left r _ _ told why (of_file st text is line taken gives) =
    absurd (when_told s.source left ((q : Refusal) → ¬ IsRefused s q) told taken.source r why)

-- ## A cause of the file
-- whichever of two ranks is lower
pub ordered : (st other : Status) → IsOfFile other → (rank st < rank other → ⊥) → (rank other ≡ rank st → other ≡ st) → IsOrBefore st other
ordered st other is never same = elim (three (rank other) (rank st)) [
  | inl low ↦ inr low
  | inr (inl equal) ↦ inl (same equal)
  | inr (inr high) ↦ absurd (never high)
]
  where
    three : (a b : ℕ) → (a < b) ⊎ (a ≡ b) ⊎ (b < a)
    three a b = ⊎_elim (λ low. inl low) (λ ge. ⊎_elim (λ high. inr (inr high)) (λ le. inr (inl (omega (arith, ge, le)))) (cases_lt b a)) (cases_lt a b)

-- a status of another rank
off : (other x : Status) (n : ℕ) → other ≡ x → rank other ≡ n → (rank x ≡ n → ⊥) → ⊥
off other x n is equal never = never (ap rank (sym is) ∙ equal)

pub at_magic : (other : Status) → IsOfFile other → rank other ≡ 5 → other ≡ status.NotAJournal
at_magic other (inl is) equal = is
at_magic other (inr (inl is)) equal = absurd (off other status.AlreadyStarted 5 is equal (λ no. cc no))
at_magic other (inr (inr (inl is))) equal = absurd (off other status.NotStarted 5 is equal (λ no. cc no))
at_magic other (inr (inr (inr (inl (n, is))))) equal = absurd (off other (status.NotAHistory n) 5 is equal (λ no. cc no))
at_magic other (inr (inr (inr (inr (inl is))))) equal = absurd (off other status.Suspended 5 is equal (λ no. cc no))
at_magic other (inr (inr (inr (inr (inr (inl is)))))) equal = absurd (off other status.Done 5 is equal (λ no. cc no))
at_magic other (inr (inr (inr (inr (inr (inr is)))))) equal = absurd (off other status.Raised 5 is equal (λ no. cc no))

pub at_started : (other : Status) → IsOfFile other → rank other ≡ 6 → other ≡ status.AlreadyStarted
at_started other (inl is) equal = absurd (off other status.NotAJournal 6 is equal (λ no. cc no))
at_started other (inr (inl is)) equal = is
at_started other (inr (inr (inl is))) equal = absurd (off other status.NotStarted 6 is equal (λ no. cc no))
at_started other (inr (inr (inr (inl (n, is))))) equal = absurd (off other (status.NotAHistory n) 6 is equal (λ no. cc no))
at_started other (inr (inr (inr (inr (inl is))))) equal = absurd (off other status.Suspended 6 is equal (λ no. cc no))
at_started other (inr (inr (inr (inr (inr (inl is)))))) equal = absurd (off other status.Done 6 is equal (λ no. cc no))
at_started other (inr (inr (inr (inr (inr (inr is)))))) equal = absurd (off other status.Raised 6 is equal (λ no. cc no))

pub at_not_started : (other : Status) → IsOfFile other → rank other ≡ 7 → other ≡ status.NotStarted
at_not_started other (inl is) equal = absurd (off other status.NotAJournal 7 is equal (λ no. cc no))
at_not_started other (inr (inl is)) equal = absurd (off other status.AlreadyStarted 7 is equal (λ no. cc no))
at_not_started other (inr (inr (inl is))) equal = is
at_not_started other (inr (inr (inr (inl (n, is))))) equal = absurd (off other (status.NotAHistory n) 7 is equal (λ no. cc no))
at_not_started other (inr (inr (inr (inr (inl is))))) equal = absurd (off other status.Suspended 7 is equal (λ no. cc no))
at_not_started other (inr (inr (inr (inr (inr (inl is)))))) equal = absurd (off other status.Done 7 is equal (λ no. cc no))
at_not_started other (inr (inr (inr (inr (inr (inr is)))))) equal = absurd (off other status.Raised 7 is equal (λ no. cc no))

at_history : (other : Status) → IsOfFile other → rank other ≡ 8 → (n : ℕ) × (other ≡ status.NotAHistory n)
at_history other (inl is) equal = absurd (off other status.NotAJournal 8 is equal (λ no. cc no))
at_history other (inr (inl is)) equal = absurd (off other status.AlreadyStarted 8 is equal (λ no. cc no))
at_history other (inr (inr (inl is))) equal = absurd (off other status.NotStarted 8 is equal (λ no. cc no))
at_history other (inr (inr (inr (inl (n, is))))) equal = (n, is)
at_history other (inr (inr (inr (inr (inl is))))) equal = absurd (off other status.Suspended 8 is equal (λ no. cc no))
at_history other (inr (inr (inr (inr (inr (inl is)))))) equal = absurd (off other status.Done 8 is equal (λ no. cc no))
at_history other (inr (inr (inr (inr (inr (inr is)))))) equal = absurd (off other status.Raised 8 is equal (λ no. cc no))

-- of this rank there is one status of the file, and one number of a record
same_history : (L : Language) (s : Scene) (image : List ℕ) (D : List Deed) (text : List ℕ) (n : ℕ) (other : Status) → IsNoHistory L s n → IsOfFile other → MayPrint L s image D other text → rank other ≡ 8 → other ≡ status.NotAHistory n
same_history L s image D text n other why is gives equal =
    let found = at_history other is equal in
    let why2 : IsNoHistory L s found.0 = subst (Cause L s) found.1 (gives_cause L s image D other text gives) in
    found.1 ∙ ap status.NotAHistory (same_err (history L (records s.found)) found.0 n (none_found L s found.0 why2) (none_found L s n why))

-- where a cause of the file holds, and the host tells: nothing behind it comes, and no other status of its rank
pub where_of_file : (s : Scene) (old new : World) (st other : Status) (text : List ℕ) → IsTrue old.tells → 4 < rank st → IsLineOf s (λ c. uses_journal c ≡ true) → ((q : Status) → IsPassed the_language s q → rank st < rank q → ⊥)
    → ((q : Status) → IsOfFile q → rank q ≡ rank st → q ≡ st) → HasToSay s old new other text → IsOrBefore st other
where_of_file s old new st _ _ told low line never alone (bad_line m is) = inr (omega (arith, low))
where_of_file s old new st _ _ told low line never alone (bad_argument why) = inr (omega (arith, low))
where_of_file s old new st _ _ told low line never alone (refused q is fine) = inr (omega (arith, low))
where_of_file s old new st _ _ told low line never alone (reported text report back) = absurd (not_both_journals s line (reported_line s text report))
where_of_file s old new st _ _ told low line never alone (of_file other text is runs accepted gives) = ordered st other is (λ high. never other (gives told).1 high) (alone other is)

-- where the records are no history, and the host tells
pub where_no_history : (s : Scene) (old new : World) (n : ℕ) (other : Status) (text : List ℕ) → IsTrue old.tells → IsNoHistory the_language s n → HasToSay s old new other text → IsOrBefore (status.NotAHistory n) other
where_no_history s old new n _ _ told why (bad_line m is) = inr (omega arith)
where_no_history s old new n _ _ told why (bad_argument bad) = inr (omega arith)
where_no_history s old new n _ _ told why (refused q is fine) = inr (omega arith)
where_no_history s old new n _ _ told why (reported text report back) = absurd (not_both_journals s (needs_line s (none_needed the_language s n why)) (reported_line s text report))
where_no_history s old new n _ _ told why (of_file other text is line accepted gives) =
    let g = (gives told).0 in
    ordered (status.NotAHistory n) other is (λ low. (gives told).1.history n low why) (same_history the_language s new.seen g.0 text n other why is g.2)
