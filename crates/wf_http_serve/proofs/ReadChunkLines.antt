-- Each text begins with the line of a chunk, may come to one, or never does.
use Rattle.std.proofs.Common.{◌≡◌, ◌≢◌, ◌⊎◌, ℕ, ◌<◌, ◌≤◌, ◌==◌, Bool, true, false, List, [], ◌∷◌, ◌++◌, length, refl, sym, ap, ◌∙◌, subst, arith, inl, inr, Option, Some, None}
use Rattle.std.proofs.lemmas.Bool.{eqb-true, eqb-false, cases_lt}
use Rattle.std.proofs.lemmas.List.Elements.{All-head, All-tail}
use Rattle.std.specs.Char.{is_ascii_hexdigit}
use Rattle.httparse.specs.Grammar.{is_ows, is_extension_byte, AllPass, crlf, print_end, ChunkLine, ReadsChunkLine, HasNoChunkLine, NeverHasChunkLine, MayBecomeChunkLine}
use Rattle.httparse.specs.Pieces.{Begins, Then, Refutes, Never, Completes, Stops, Bytes, Run, HexDigits, Extension, Chunk}
use Rattle.httparse.proofs.RunLemmas.{run_unique, run_unstopped, Stops-append}
use Rattle.httparse.proofs.PieceLemmas.{Refutes_by, Never_intro, Never_elim, NotYet_intro, Refutes_first, Refutes_next, front-append}
use Rattle.httparse.proofs.OpenLemmas.{Completes_next, some_bytes, Extension_without, padding_cut, digits_cut, chunk_may}
use Rattle.httparse.proofs.ChunkLemmas.{Run_deterministic, HexDigits_deterministic, chunk_line, chunk_from_pieces, HasNoChunkLine_intro, NeverHasChunkLine_intro}
use Rattle.wf_http_serve.proofs.ReadHeads.{bytes_reads}
use Rattle.wf_http_serve.proofs.ReadPieces.{Read, whole, part, never, RunOf, run_of, all_of}

-- ## Extensions
after_semicolon : (e : Option (List ℕ)) (text rest : List ℕ) → Extension e (59 ∷ text) rest → (x : List ℕ) × AllPass is_extension_byte x × (text ≡ x ++ (print_end crlf ++ rest))
after_semicolon None text rest h = let b : ◌≡◌ {A = ℕ} 59 13 = cc h.1 in absurd (omega (arith, b))
after_semicolon (Some x) text rest h = (x, h.0, cc h.1)

without_semicolon : (e : Option (List ℕ)) (b : ℕ) (text rest : List ℕ) → b ≢ 59 → Extension e (b ∷ text) rest → b ∷ text ≡ print_end crlf ++ rest
without_semicolon None b text rest other h = h.1
without_semicolon (Some x) b text rest other h = let is : b ≡ 59 = cc h.1 in absurd (other is)

of_nothing : (e : Option (List ℕ)) (rest : List ℕ) → Extension e [] rest → ⊥
of_nothing None rest h = let n = ap length h.1 in omega (arith, n)
of_nothing (Some x) rest h = let n = ap length h.1 in omega (arith, n)

plain : {M : List ℕ → Type 0} (b : ℕ) (t : List ℕ) → b ≢ 59 → Refutes M (Begins (Bytes (print_end crlf))) (b ∷ t) → Refutes M (Begins Extension) (b ∷ t)
plain {M} b t other = Refutes_by λ more h. (tt, h.1, without_semicolon h.0 b (t ++ more) h.1 other h.2)

extended : {M : List ℕ → Type 0} (v word rest : List ℕ) → v ≡ word ++ rest → AllPass is_extension_byte word → Stops is_extension_byte rest → Refutes M (Begins (Bytes (print_end crlf))) rest → Refutes M (Begins Extension) (59 ∷ v)
extended {M} v word rest same pass stops = Refutes_by λ more h.
    let x = after_semicolon h.0 (v ++ more) h.1 h.2 in
    let one = run_unique is_extension_byte word x.0 (rest ++ more) (print_end crlf ++ h.1) pass x.1 (Stops-append is_extension_byte rest more stops) refl (sym (front-append v word rest more same) ∙ x.2) in
    (tt, h.1, one.1)

behind_semicolon : (v : List ℕ) → Read Extension (59 ∷ v)
behind_semicolon v = by_run (run_of is_extension_byte v)
  where
    by_run : RunOf is_extension_byte v → Read Extension (59 ∷ v)
    by_run r = at r.ends (bytes_reads (print_end crlf) r.rest)
      where
        onward : Completes (Bytes (print_end crlf)) r.rest → Completes Extension (59 ∷ v)
        onward c = record {
          more = c.more;
          tree = Some r.word;
          reads = λ rest. (r.pass, ap (λ (y : List ℕ). 59 ∷ y) (front-append v r.word r.rest (c.more ++ rest) r.same ∙ ap (λ (y : List ℕ). r.word ++ y) (c.reads rest)));
        }

        at : (r.rest ≡ []) ⊎ Stops is_extension_byte r.rest → Read (Bytes (print_end crlf)) r.rest → Read Extension (59 ∷ v)
        at x (whole u w e) = whole (Some r.word) w (r.pass, ap (λ (y : List ℕ). 59 ∷ y) (r.same ∙ ap (λ (y : List ℕ). r.word ++ y) e))
        at (inl none) (part off c) =
            let all = all_of is_extension_byte v r.word r.rest r.same r.pass none in
            part (NotYet_intro λ h. let x = after_semicolon h.0 v h.1 h.2 in run_unstopped is_extension_byte x.0 (print_end crlf ++ h.1) (subst (AllPass is_extension_byte) x.2 all) refl) (onward c)
        at (inr stops) (part off c) = part (extended v r.word r.rest r.same r.pass stops off) (onward c)
        at (inl none) (never off) = absurd (Never_elim off (print_end crlf) (tt, [], ap (λ (y : List ℕ). y ++ print_end crlf) none))
        at (inr stops) (never off) = never (extended v r.word r.rest r.same r.pass stops off)

extension_reads : (s : List ℕ) → Read Extension s
extension_reads [] = part (NotYet_intro λ h. of_nothing h.0 h.1 h.2) (Extension_without (some_bytes (print_end crlf)))
extension_reads (b ∷ t) = at (b == 59) refl (bytes_reads (print_end crlf) (b ∷ t))
  where
    at : (x : Bool) → (b == 59) ≡ x → Read (Bytes (print_end crlf)) (b ∷ t) → Read Extension (b ∷ t)
    at true is r = subst (λ (c : ℕ). Read Extension (c ∷ t)) (sym (eqb-true b 59 is)) (behind_semicolon t)
    at false is (whole u w e) = whole None w (tt, e)
    at false is (part none c) = part (plain b t (eqb-false b 59 is) none) (Extension_without c)
    at false is (never none) = never (plain b t (eqb-false b 59 is) none)

-- ## Blanks and digits
padded_reads : (s : List ℕ) → Read (Then (Run is_ows) Extension) s
padded_reads s = by_run (run_of is_ows s)
  where
    by_run : RunOf is_ows s → Read (Then (Run is_ows) Extension) s
    by_run r = at r.ends (extension_reads r.rest)
      where
        at : (r.rest ≡ []) ⊎ Stops is_ows r.rest → Read Extension r.rest → Read (Then (Run is_ows) Extension) s
        at (inl none) e =
            let all = all_of is_ows s r.word r.rest r.same r.pass none in
            part (Refutes_first (Run is_ows) Extension (NotYet_intro λ h. run_unstopped is_ows h.0 h.1 (subst (AllPass is_ows) h.2.1 all) h.2.2)) (padding_cut all)
        at (inr stops) (whole e w x) = whole (r.word, e) w (r.rest, (r.pass, r.same, stops), x)
        at (inr stops) (part none c) = part (Refutes_next Extension (Run_deterministic is_ows) {a = r.word} (r.pass, r.same, stops) none) (Completes_next (Run_deterministic is_ows) {a = r.word} (r.pass, r.same, stops) c)
        at (inr stops) (never none) = never (Refutes_next Extension (Run_deterministic is_ows) {a = r.word} (r.pass, r.same, stops) none)

-- a run covers the bytes in front that pass
covers : (test : ℕ → Bool) (s more a r : List ℕ) → AllPass test s → Stops test r → s ++ more ≡ a ++ r → length s ≤ length a
covers test [] more a r all stops e = omega arith
covers test (x ∷ s) more [] [] all stops e = absurd stops
covers test (x ∷ s) more [] (y ∷ r) all stops e =
    let passes = All-head (λ v. test v ≡ true) x s all in
    let one : x ≡ y = cc e in
    let off : true ≡ false = sym passes ∙ ap test one ∙ stops in
    absurd (let f : true ≡ false = off in cc f)
covers test (x ∷ s) more (y ∷ a) r all stops e =
    let tail : s ++ more ≡ a ++ r = cc e in
    let le = covers test s more a r (All-tail (λ v. test v ≡ true) x s all) stops tail in
    omega (arith, le)

chunk_reads : (s : List ℕ) → Read Chunk s
chunk_reads s = by_run (run_of is_ascii_hexdigit s)
  where
    by_run : RunOf is_ascii_hexdigit s → Read Chunk s
    by_run r = at r.ends
      where
        wrong : Stops is_ascii_hexdigit r.rest → (0 < length r.word → 16 < length r.word) → Never (Begins HexDigits) s
        wrong stops off = Never_intro λ more h.
            let one = run_unique is_ascii_hexdigit r.word h.0 (r.rest ++ more) h.1 r.pass h.2.0.0 (Stops-append is_ascii_hexdigit r.rest more stops) h.2.0.2 (sym (front-append s r.word r.rest more r.same) ∙ h.2.0.1) in
            let size = ap length one.0 in
            let some = h.2.1 in
            let few = h.2.2 in
            let many = off (omega (arith, size, some)) in
            omega (arith, size, some, few, many)

        digits : Stops is_ascii_hexdigit r.rest → 0 < length r.word → length r.word ≤ 16 → Read (Then (Run is_ows) Extension) r.rest → Read Chunk s
        digits stops some few (whole t w x) = whole (r.word, t) w (r.rest, ((r.pass, r.same, stops), some, few), x)
        digits stops some few (part none c) = part (Refutes_next (Then (Run is_ows) Extension) HexDigits_deterministic {a = r.word} ((r.pass, r.same, stops), some, few) none) (Completes_next HexDigits_deterministic {a = r.word} ((r.pass, r.same, stops), some, few) c)
        digits stops some few (never none) = never (Refutes_next (Then (Run is_ows) Extension) HexDigits_deterministic {a = r.word} ((r.pass, r.same, stops), some, few) none)

        counted : Stops is_ascii_hexdigit r.rest → (0 < length r.word) ⊎ (length r.word ≤ 0) → (16 < length r.word) ⊎ (length r.word ≤ 16) → Read Chunk s
        counted stops (inr none) x = never (Refutes_first HexDigits (Then (Run is_ows) Extension) (wrong stops (λ some. absurd (omega (arith, none, some)))))
        counted stops (inl some) (inl many) = never (Refutes_first HexDigits (Then (Run is_ows) Extension) (wrong stops (λ _. many)))
        counted stops (inl some) (inr few) = digits stops some few (padded_reads r.rest)

        unstopped : AllPass is_ascii_hexdigit s → (16 < length s) ⊎ (length s ≤ 16) → Read Chunk s
        unstopped all (inr few) = part (Refutes_first HexDigits (Then (Run is_ows) Extension) (NotYet_intro λ h. run_unstopped is_ascii_hexdigit h.0 h.1 (subst (AllPass is_ascii_hexdigit) h.2.0.1 all) h.2.0.2)) (digits_cut s all few)
        unstopped all (inl many) = never (Refutes_first HexDigits (Then (Run is_ows) Extension) (Never_intro λ more h.
            let le = covers is_ascii_hexdigit s more h.0 h.1 all h.2.0.2 h.2.0.1 in
            let few = h.2.2 in
            omega (arith, le, few, many)))

        at : (r.rest ≡ []) ⊎ Stops is_ascii_hexdigit r.rest → Read Chunk s
        at (inl none) = unstopped (all_of is_ascii_hexdigit s r.word r.rest r.same r.pass none) (cases_lt 16 (length s))
        at (inr stops) = counted stops (cases_lt 0 (length r.word)) (cases_lt 16 (length r.word))

-- ## Lines
pub data LineRead (s : List ℕ) : Type 0 where
  line_whole : (l : ChunkLine) (rest : List ℕ) → ReadsChunkLine s l rest → LineRead s
  line_part : HasNoChunkLine s → MayBecomeChunkLine s → LineRead s
  line_never : NeverHasChunkLine s → LineRead s

pub line_reads : (s : List ℕ) → LineRead s
line_reads s = at (chunk_reads s)
  where
    at : Read Chunk s → LineRead s
    at (whole t rest x) = line_whole (chunk_line t) rest (chunk_from_pieces s t rest x)
    at (part none c) = line_part (HasNoChunkLine_intro none) (chunk_may c)
    at (never none) = line_never (NeverHasChunkLine_intro none)
