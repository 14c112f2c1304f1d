-- Each text begins with a piece, may come to it, or never does: the pieces of a head.
use Rattle.std.proofs.Common.{◌≡◌, ◌≢◌, ◌⊎◌, ℕ, zero, suc, ◌<◌, ◌≤◌, ◌==◌, Bool, true, false, List, [], ◌∷◌, ◌++◌, length, refl, sym, ap, ◌∙◌, subst, arith, append_assoc, append-nil, length-append, inl, inr}
use Rattle.std.proofs.lemmas.Bool.{eqb-true, eqb-false}
use Rattle.std.proofs.lemmas.List.Elements.{All-nil, All-cons}
use Rattle.std.specs.List.{flat_map}
use Rattle.httparse.specs.Grammar.{is_token_byte, is_value_byte, AllPass, LineEnd, crlf, lf, print_end, print_blank, Field, IsField, print_field}
use Rattle.httparse.specs.Pieces.{Piece, Begins, Then, Refutes, NotYet, Never, Completes, Stops, is_newline, Newline, BlankLines, Blank, Word, Text, FieldLine, FieldLines, Section}
use Rattle.httparse.proofs.RunLemmas.{run_unique, run_unstopped, Stops-append}
use Rattle.httparse.proofs.PieceLemmas.{IsDeterministic, Refutes_by, Never_intro, Never_elim, NotYet_intro, Refutes_first, Refutes_next, front-append, Stops_value, FieldLine_parts, Name_deterministic, colon_ends_token, newline_not_stopped, Stops-FieldLine, Section_skip, Section_line, FieldLines-append, print_field-append}
use Rattle.httparse.proofs.OpenLemmas.{Completes_first, Completes_next, some_newline, Word_cut, FieldLine_of_row, Section_after_lines, Section_of_line, letter_is_token}
use Rattle.httparse.proofs.ReadLemmas.{Blank_after, Blank_open, Blank_newline, FieldLine_done, BeginsLine_either}

pub data Read {A : Type 0} (G : Piece A) (s : List ℕ) : Type 0 where
  whole : (a : A) (rest : List ℕ) → G a s rest → Read G s
  part : NotYet (Begins G) s → Completes G s → Read G s
  never : Never (Begins G) s → Read G s

-- ## Rows
pub then_reads : {A B : Type 0} {G : Piece A} {H : Piece B} → IsDeterministic G → Completes H [] → (s : List ℕ) → Read G s → ((t : List ℕ) → Read H t) → Read (Then G H) s
then_reads {A} {B} {G} {H} det some s (never none) h = never (Refutes_first G H none)
then_reads {A} {B} {G} {H} det some s (part none more) h = part (Refutes_first G H none) (Completes_first more some)
then_reads {A} {B} {G} {H} det some s (whole a t read) h = next (h t)
  where
    next : Read H t → Read (Then G H) s
    next (whole b rest x) = whole (a, b) rest (t, read, x)
    next (part none more) = part (Refutes_next H det {a = a} read none) (Completes_next det {a = a} read more)
    next (never none) = never (Refutes_next H det {a = a} read none)

-- ## Runs
pub record RunOf (test : ℕ → Bool) (s : List ℕ) : Type 0 where
  pub word : List ℕ
  pub rest : List ℕ
  pub same : s ≡ word ++ rest
  pub pass : AllPass test word
  pub ends : (rest ≡ []) ⊎ Stops test rest

pub run_of : (test : ℕ → Bool) (s : List ℕ) → RunOf test s
run_of test [] = record { word = []; rest = []; same = refl; pass = All-nil _; ends = inl refl }
run_of test (b ∷ s) = at (test b) refl (run_of test s)
  where
    at : (t : Bool) → test b ≡ t → RunOf test s → RunOf test (b ∷ s)
    at true is r = record { word = b ∷ r.word; rest = r.rest; same = ap (λ (x : List ℕ). b ∷ x) r.same; pass = All-cons (λ v. test v ≡ true) b r.word is r.pass; ends = r.ends }
    at false is r = record { word = []; rest = b ∷ s; same = refl; pass = All-nil _; ends = inr is }

pub all_of : (test : ℕ → Bool) (s word rest : List ℕ) → s ≡ word ++ rest → AllPass test word → rest ≡ [] → AllPass test s
all_of test s word rest same pass none = subst (AllPass test) (sym (same ∙ ap (λ (x : List ℕ). word ++ x) none ∙ append-nil word)) pass

-- ## Words
module _ (test : ℕ → Bool) (stop : ℕ) (fails : test stop ≡ false) where
  pub word_never : (s word rest : List ℕ) → s ≡ word ++ rest → AllPass test word → Stops test rest → ((t : List ℕ) → rest ≡ stop ∷ t → 0 < length word → ⊥) → Never (Begins (Word test stop)) s
  word_never s word [] same pass stops wrong = absurd stops
  word_never s word (b ∷ t) same pass stops wrong = Never_intro λ more h.
      let one = run_unique test word h.0 (b ∷ (t ++ more)) (stop ∷ h.1) pass h.2.1 stops fails (sym (front-append s word (b ∷ t) more same) ∙ h.2.2) in
      let byte : b ≡ stop = cc one.1 in
      wrong t (ap (λ (x : ℕ). x ∷ t) byte) (subst (λ (w : List ℕ). 0 < length w) (sym one.0) h.2.0)

  pub word_reads : (letter : ℕ) → test letter ≡ true → (s : List ℕ) → Read (Word test stop) s
  word_reads letter passes s = by_run (run_of test s)
    where
      stopped : (word rest : List ℕ) → s ≡ word ++ rest → AllPass test word → Stops test rest → Read (Word test stop) s
      stopped word [] same pass stops = absurd stops
      stopped [] (b ∷ t) same pass stops = never (word_never s [] (b ∷ t) same pass stops (λ u is some. omega (arith, some)))
      stopped (w ∷ ws) (b ∷ t) same pass stops = at (b == stop) refl
        where
          at : (x : Bool) → (b == stop) ≡ x → Read (Word test stop) s
          at true is = let byte = eqb-true b stop is in whole (w ∷ ws) t (omega arith, pass, same ∙ ap (λ (y : ℕ). (w ∷ ws) ++ y ∷ t) byte)
          at false is = never (word_never s (w ∷ ws) (b ∷ t) same pass stops (λ u eq some. let byte : b ≡ stop = cc eq in eqb-false b stop is byte))

      by_run : RunOf test s → Read (Word test stop) s
      by_run r = ends r.ends
        where
          ends : (r.rest ≡ []) ⊎ Stops test r.rest → Read (Word test stop) s
          ends (inl none) =
              let all = all_of test s r.word r.rest r.same r.pass none in
              part (NotYet_intro λ h. run_unstopped test h.0 (stop ∷ h.1) (subst (AllPass test) h.2.2 all) fails) (Word_cut test stop letter passes all)
          ends (inr stops) = stopped r.word r.rest r.same r.pass stops

-- ## Line ends
newline_byte : (e : LineEnd) (b : ℕ) (t r : List ℕ) → b ∷ t ≡ print_end e ++ r → (b ≡ 13) ⊎ (b ≡ 10)
newline_byte crlf b t r is = inl (cc is)
newline_byte lf b t r is = inr (cc is)

cr_alone : (e : LineEnd) (r : List ℕ) → 13 ∷ [] ≡ print_end e ++ r → ⊥
cr_alone crlf r is = let n = ap length is in omega (arith, n)
cr_alone lf r is = let b : ◌≡◌ {A = ℕ} 13 10 = cc is in omega (arith, b)

cr_other : (e : LineEnd) (c : ℕ) (t r : List ℕ) → c ≢ 10 → 13 ∷ c ∷ t ≡ print_end e ++ r → ⊥
cr_other crlf c t r other is = let b : c ≡ 10 = cc is in other b
cr_other lf c t r other is = let b : ◌≡◌ {A = ℕ} 13 10 = cc is in omega (arith, b)

no_newline : (e : LineEnd) (r : List ℕ) → [] ≡ print_end e ++ r → ⊥
no_newline crlf r is = let n = ap length is in omega (arith, n)
no_newline lf r is = let n = ap length is in omega (arith, n)

behind_cr : (t : List ℕ) → Read Newline (13 ∷ t)
behind_cr [] = part (NotYet_intro λ h. cr_alone h.0 h.1 h.2) (record { more = 10 ∷ []; tree = crlf; reads = λ rest. refl })
behind_cr (c ∷ t) = at (c == 10) refl
  where
    at : (x : Bool) → (c == 10) ≡ x → Read Newline (13 ∷ c ∷ t)
    at true is = let byte = eqb-true c 10 is in whole crlf t (ap (λ (y : ℕ). 13 ∷ y ∷ t) byte)
    at false is = never (Never_intro λ more h. cr_other h.0 c (t ++ more) h.1 (eqb-false c 10 is) h.2)

pub newline_reads : (s : List ℕ) → Read Newline s
newline_reads [] = part (NotYet_intro λ h. no_newline h.0 h.1 h.2) some_newline
newline_reads (b ∷ t) = at (b == 13) refl (b == 10) refl
  where
    at : (x : Bool) → (b == 13) ≡ x → (y : Bool) → (b == 10) ≡ y → Read Newline (b ∷ t)
    at true is y or = let byte = eqb-true b 13 is in subst (λ (c : ℕ). Read Newline (c ∷ t)) (sym byte) (behind_cr t)
    at false is true or = let byte = eqb-true b 10 or in whole lf t (ap (λ (c : ℕ). c ∷ t) byte)
    at false is false or = never (Never_intro λ more h. either (newline_byte h.0 b (t ++ more) h.1 h.2))
      where
        either : (b ≡ 13) ⊎ (b ≡ 10) → ⊥
        either (inl e) = eqb-false b 13 is e
        either (inr e) = eqb-false b 10 or e

-- ## Empty lines
pub data BlankRead (s : List ℕ) : Type 0 where
  passed : (ends : List LineEnd) (rest : List ℕ) → Blank ends s rest → BlankRead s
  passing : NotYet (Begins Blank) s → Completes BlankLines s → BlankRead s
  blocked : Never (Begins Blank) s → BlankRead s

one_blank : (e : LineEnd) (s t : List ℕ) → s ≡ print_end e ++ t → s ≡ print_blank (e ∷ []) ++ t
one_blank e s t is = is ∙ ap (λ (x : List ℕ). x ++ t) (sym (append-nil (print_end e)))

pub blank_reads : (n : ℕ) (s : List ℕ) → length s ≤ n → BlankRead s
blank_reads n [] few = passing (Blank_open [] 0 (omega arith)) (record { more = []; tree = []; reads = λ rest. refl })
blank_reads zero (b ∷ t) few = absurd (omega (arith, few))
blank_reads (suc n) (b ∷ t) few = at (is_newline b) refl (newline_reads (b ∷ t)) (λ e rest is. blank_reads n rest (shorter e rest is))
  where
    shorter : (e : LineEnd) (rest : List ℕ) → b ∷ t ≡ print_end e ++ rest → length rest ≤ n
    shorter crlf rest is = let m = ap length is in omega (arith, m, few)
    shorter lf rest is = let m = ap length is in omega (arith, m, few)

    behind : (e : LineEnd) (rest : List ℕ) → b ∷ t ≡ print_end e ++ rest → BlankRead rest → BlankRead (b ∷ t)
    behind e rest is (passed ends r x) = passed (e ∷ ends) r (is ∙ ap (λ (y : List ℕ). print_end e ++ y) x.0 ∙ sym (append_assoc (print_end e) (print_blank ends) r), x.1)
    behind e rest is (passing none more) = passing (Blank_after (e ∷ []) (one_blank e (b ∷ t) rest is) none) (record {
      more = more.more;
      tree = e ∷ more.tree;
      reads = λ r. front-append (b ∷ t) (print_end e) rest (more.more ++ r) is ∙ ap (λ (y : List ℕ). print_end e ++ y) (more.reads r) ∙ sym (append_assoc (print_end e) (print_blank more.tree) r);
    })
    behind e rest is (blocked none) = blocked (Blank_after (e ∷ []) (one_blank e (b ∷ t) rest is) none)

    at : (x : Bool) → is_newline b ≡ x → Read Newline (b ∷ t) → ((e : LineEnd) (rest : List ℕ) → b ∷ t ≡ print_end e ++ rest → BlankRead rest) → BlankRead (b ∷ t)
    at false is r again = passed [] (b ∷ t) (refl, is)
    at true is (whole e rest x) again = behind e rest x (again e rest x)
    at true is (part none more) again = passing (Blank_newline (b ∷ t) 0 (omega arith) is none) (record { more = more.more; tree = more.tree ∷ []; reads = λ r. more.reads r ∙ ap (λ (y : List ℕ). y ++ r) (sym (append-nil (print_end more.tree))) })
    at true is (never none) again = blocked (Blank_newline (b ∷ t) 0 (omega arith) is none)

-- ## The value of a field and its line end
text_refutes : {M : List ℕ → Type 0} (s word rest : List ℕ) → s ≡ word ++ rest → AllPass is_value_byte word → Stops is_value_byte rest → Refutes M (Begins Newline) rest → Refutes M (Begins Text) s
text_refutes s word rest same pass stops = Refutes_by λ more h.
    let one = run_unique is_value_byte word h.0.0 (rest ++ more) (print_end h.0.1 ++ h.1) pass h.2.0 (Stops-append is_value_byte rest more stops) (Stops_value h.0.1 h.1) (sym (front-append s word rest more same) ∙ h.2.1) in
    (h.0.1, h.1, one.1)

pub text_reads : (s : List ℕ) → Read Text s
text_reads s = by_run (run_of is_value_byte s)
  where
    by_run : RunOf is_value_byte s → Read Text s
    by_run r = at r.ends (newline_reads r.rest)
      where
        onward : Completes Newline r.rest → Completes Text s
        onward c = record {
          more = c.more;
          tree = (r.word, c.tree);
          reads = λ rest. (r.pass, front-append s r.word r.rest (c.more ++ rest) r.same ∙ ap (λ (y : List ℕ). r.word ++ y) (c.reads rest));
        }

        at : (r.rest ≡ []) ⊎ Stops is_value_byte r.rest → Read Newline r.rest → Read Text s
        at x (whole e rest n) = whole (r.word, e) rest (r.pass, r.same ∙ ap (λ (y : List ℕ). r.word ++ y) n)
        at (inl none) (part off c) =
            let all = all_of is_value_byte s r.word r.rest r.same r.pass none in
            part (NotYet_intro λ h. run_unstopped is_value_byte h.0.0 (print_end h.0.1 ++ h.1) (subst (AllPass is_value_byte) h.2.1 all) (Stops_value h.0.1 h.1)) (onward c)
        at (inr stops) (part off c) = part (text_refutes s r.word r.rest r.same r.pass stops off) (onward c)
        at (inl none) (never off) = absurd (Never_elim off (10 ∷ []) (lf, [], ap (λ (y : List ℕ). y ++ 10 ∷ []) none))
        at (inr stops) (never off) = never (text_refutes s r.word r.rest r.same r.pass stops off)

some_text : Completes Text []
some_text = record { more = 10 ∷ []; tree = ([], lf); reads = λ rest. (All-nil _, refl) }

-- ## Field lines
row_of : {M : List ℕ → Type 0} {s : List ℕ} → Refutes M (Begins (Then (Word is_token_byte 58) Text)) s → Refutes M (Begins FieldLine) s
row_of {M} {s} = Refutes_by λ more h. ((h.0.name, (h.0.raw, h.0.end)), h.1, FieldLine_parts h.0 (s ++ more) h.1 h.2)

pub line_reads : (s : List ℕ) → Read FieldLine s
line_reads s = at (then_reads Name_deterministic some_text s (word_reads is_token_byte 58 colon_ends_token 65 letter_is_token s) text_reads)
  where
    at : Read (Then (Word is_token_byte 58) Text) s → Read FieldLine s
    at (whole x rest y) = whole (record { name = x.0; raw = x.1.0; end = x.1.1 }) rest (FieldLine_done x.0 x.1.0 x.1.1 s y.0 rest y.1 y.2)
    at (part none more) = part (row_of none) (FieldLine_of_row more)
    at (never none) = never (row_of none)

-- ## Sections
line_some : (f : Field) (s rest : List ℕ) → FieldLine f s rest → length rest < length s
line_some f s rest x =
    let n = ap length (x.1 ∙ print_field-append f rest) in
    let k = length-append f.name (58 ∷ (f.raw ++ (print_end f.end ++ rest))) in
    let m = length-append f.raw (print_end f.end ++ rest) in
    let j = length-append (print_end f.end) rest in
    let some = x.0.name.0 in
    omega (arith, n, k, m, j, some)

lines_one : (f : Field) (s rest : List ℕ) → FieldLine f s rest → FieldLines (f ∷ []) s rest
lines_one f s rest x = (All-cons IsField f [] x.0 (All-nil _), x.1 ∙ ap (λ (y : List ℕ). y ++ rest) (sym (append-nil (print_field f))))

regroup : (a b c r : List ℕ) → a ++ ((b ++ c) ++ r) ≡ ((a ++ b) ++ c) ++ r
regroup a b c r = simp append_assoc

section_after : {M : List ℕ → Type 0} (f : Field) (s rest : List ℕ) → FieldLine f s rest → Refutes M (Begins Section) rest → Refutes M (Begins Section) s
section_after f s rest x = Refutes_by λ more h.
    let skipped = Section_skip (f ∷ []) h.0.0 h.0.1 (s ++ more) (rest ++ more) h.1 (FieldLines-append (f ∷ []) s rest more (lines_one f s rest x)) h.2 in
    ((skipped.0, h.0.1), h.1, skipped.2)

no_line : {M : List ℕ → Type 0} {s : List ℕ} → Refutes M (Begins Newline) s → Refutes M (Begins FieldLine) s → Refutes M (Begins Section) s
no_line {M} {s} a b = Refutes_by (λ more h. Section_line h.0 (s ++ more) h.1 h.2) (BeginsLine_either a b)

not_yet : {H : List ℕ → Type 0} {s : List ℕ} → Never H s → NotYet H s
not_yet off = record { none = λ more empty h. off.none more tt h }

-- a text that may come to a line end begins no field line
apart : (f : Field) (s rest : List ℕ) → FieldLine f s rest → Completes Newline s → ⊥
apart f s rest x c = newline_not_stopped c.tree [] (s ++ (c.more ++ [])) (sym (c.reads [])) (Stops-append is_newline s (c.more ++ []) (Stops-FieldLine f s rest x))

pub section_reads : (n : ℕ) (s : List ℕ) → length s < n → Read Section s
section_reads zero s few = absurd (omega (arith, few))
section_reads (suc n) s few = by_end (newline_reads s) (line_reads s) (λ f rest x. let less = line_some f s rest x in section_reads n rest (omega (arith, less, few)))
  where
    behind : (f : Field) (rest : List ℕ) → FieldLine f s rest → Read Section rest → Read Section s
    behind f rest x (whole t r y) = whole (f ∷ t.0, t.1) r (All-cons IsField f t.0 x.0 y.0, x.1 ∙ ap (λ (z : List ℕ). print_field f ++ z) y.1 ∙ regroup (print_field f) (flat_map print_field t.0) (print_end t.1) r)
    behind f rest x (part none c) = part (section_after f s rest x none) (Section_after_lines (f ∷ []) (lines_one f s rest x) c)
    behind f rest x (never none) = never (section_after f s rest x none)

    by_end : Read Newline s → Read FieldLine s → ((f : Field) (rest : List ℕ) → FieldLine f s rest → Read Section rest) → Read Section s
    by_end (whole e rest x) l again = whole ([], e) rest (All-nil _, x)
    by_end (part off c) (whole f rest x) again = absurd (apart f s rest x c)
    by_end (part off c) (part none d) again = part (no_line off none) (Section_of_line (inl c))
    by_end (part off c) (never none) again = part (no_line off (not_yet none)) (Section_of_line (inl c))
    by_end (never off) (whole f rest x) again = behind f rest x (again f rest x)
    by_end (never off) (part none d) again = part (no_line (not_yet off) none) (Section_of_line (inr d))
    by_end (never off) (never none) again = never (no_line off none)
