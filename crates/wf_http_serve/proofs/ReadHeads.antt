-- Each text begins with the head of a request, may come to one, or never does.
use Rattle.std.proofs.Common.{◌≡◌, ◌≢◌, ◌⊎◌, ℕ, suc, ◌+◌, ◌==◌, Bool, true, false, List, [], ◌∷◌, ◌++◌, length, refl, sym, ap, ◌∙◌, subst, arith, inl, inr, codes, IsUtf8}
use Rattle.std.specs.Str.{is_utf8}
use Rattle.std.proofs.lemmas.Bool.{eqb-true, eqb-false}
use Rattle.std.proofs.lemmas.List.{append_cancel_left}
use Rattle.std.proofs.lemmas.Str.{IsUtf8-from_is_utf8, is_utf8-from_IsUtf8}
use Rattle.httparse.specs.Grammar.{is_token_byte, is_uri_byte, AllPass, LineEnd}
use Rattle.httparse.specs.Pieces.{Piece, Begins, Then, Refutes, NotYet, Never, Stops, Bytes, Newline, Blank, Method, Target, Version, Section, RequestStart, MayBecomeRequestStart}
use Rattle.httparse.proofs.RunLemmas.{run_unique, run_unstopped}
use Rattle.httparse.proofs.PieceLemmas.{Refutes_by, Never_intro, NotYet_intro, Refutes_first, Refutes_next, front-append, Blank_deterministic, Method_deterministic, Target_deterministic, Version_deterministic, RequestStart_deterministic, space_ends_token}
use Rattle.httparse.proofs.OpenLemmas.{Completes_next, some_newline, some_bytes, letter_is_token, Version_after_bytes, Version_before_digit, line_blank, line_method, ends_in_target, line_version, request_may, request_may_from_line}
use Rattle.httparse.proofs.ReadLemmas.{Version_bytes, Target_word}
use Rattle.httparse.proofs.GrammarLemmas.{request_head, request_from_pieces}
use Rattle.httparse.proofs.HeadLemmas.{request_not_yet, request_never}
use Rattle.wf_http_serve.specs.HeadsRead.{ReadRequest, EachTextIsRead}
use Rattle.wf_http_serve.specs.HeadsRead as request
use Rattle.wf_http_serve.proofs.ReadPieces.{Read, whole, part, never, then_reads, RunOf, run_of, word_never, word_reads, newline_reads, blank_reads, BlankRead, passed, passing, blocked, all_of, section_reads}

-- ## Fixed bytes
bytes_tail : {M : List ℕ → Type 0} (x : ℕ) (xs s : List ℕ) → Refutes M (Begins (Bytes xs)) s → Refutes M (Begins (Bytes (x ∷ xs))) (x ∷ s)
bytes_tail x xs s = Refutes_by λ more h. (tt, h.1, cc h.2)

pub bytes_reads : (bytes s : List ℕ) → Read (Bytes bytes) s
bytes_reads [] s = whole tt s refl
bytes_reads (x ∷ xs) [] = part (NotYet_intro λ h. let n = ap length h.2 in omega (arith, n)) (some_bytes (x ∷ xs))
bytes_reads (x ∷ xs) (b ∷ s) = at (b == x) refl (bytes_reads xs s)
  where
    same : Read (Bytes xs) s → Read (Bytes (x ∷ xs)) (x ∷ s)
    same (whole u rest e) = whole tt rest (ap (λ (y : List ℕ). x ∷ y) e)
    same (part none c) = part (bytes_tail x xs s none) (record { more = c.more; tree = tt; reads = λ rest. ap (λ (y : List ℕ). x ∷ y) (c.reads rest) })
    same (never none) = never (bytes_tail x xs s none)

    at : (t : Bool) → (b == x) ≡ t → Read (Bytes xs) s → Read (Bytes (x ∷ xs)) (b ∷ s)
    at true is r = subst (λ (c : ℕ). Read (Bytes (x ∷ xs)) (c ∷ s)) (sym (eqb-true b x is)) (same r)
    at false is r = never (Never_intro λ more h. let byte : b ≡ x = cc h.2 in eqb-false b x is byte)

-- ## The version
version_reads : (s : List ℕ) → Read Version s
version_reads s = by_bytes (bytes_reads (codes "HTTP/1.") s)
  where
    digit : (t : List ℕ) → s ≡ codes "HTTP/1." ++ t → Read Version s
    digit [] e = part (NotYet_intro λ h. let rest = append_cancel_left (codes "HTTP/1.") [] ((48 + h.0) ∷ h.1) (sym e ∙ h.2.1) in let n = ap length rest in omega (arith, n)) (Version_before_digit e refl)
    digit (d ∷ t) e = at (d == 48) refl (d == 49) refl
      where
        other : d ≢ 48 → d ≢ 49 → Never (Begins Version) s
        other p q = Never_intro λ more h.
            let rest = append_cancel_left (codes "HTTP/1.") (d ∷ (t ++ more)) ((48 + h.0) ∷ h.1) (sym (front-append s (codes "HTTP/1.") (d ∷ t) more e) ∙ h.2.1) in
            let byte : d ≡ 48 + h.0 = cc rest in
            let most = h.2.0 in
            omega (arith, byte, most, p, q)

        at : (x : Bool) → (d == 48) ≡ x → (y : Bool) → (d == 49) ≡ y → Read Version s
        at true is y or = let byte = eqb-true d 48 is in whole 0 t (omega arith, e ∙ ap (λ (c : ℕ). codes "HTTP/1." ++ c ∷ t) byte)
        at false is true or = let byte = eqb-true d 49 or in whole 1 t (omega arith, e ∙ ap (λ (c : ℕ). codes "HTTP/1." ++ c ∷ t) byte)
        at false is false or = never (other (eqb-false d 48 is) (eqb-false d 49 or))

    by_bytes : Read (Bytes (codes "HTTP/1.")) s → Read Version s
    by_bytes (whole u t e) = digit t e
    by_bytes (part none c) = part (Version_bytes none) (Version_after_bytes c)
    by_bytes (never none) = never (Version_bytes none)

-- ## The target
data TargetRead (s : List ℕ) : Type 0 where
  found : (target rest : List ℕ) → Target target s rest → TargetRead s
  inside : AllPass is_uri_byte s → NotYet (Begins Target) s → TargetRead s
  wrong : Never (Begins Target) s → TargetRead s

target_reads : (s : List ℕ) → TargetRead s
target_reads s = by_run (run_of is_uri_byte s)
  where
    not_text : (word t : List ℕ) → s ≡ word ++ 32 ∷ t → AllPass is_uri_byte word → is_utf8 word ≡ false → Never (Begins Target) s
    not_text word t same pass is = Never_intro λ more h.
        let one = run_unique is_uri_byte word h.0 (32 ∷ (t ++ more)) (32 ∷ h.1) pass h.2.0.1 refl refl (sym (front-append s word (32 ∷ t) more same) ∙ h.2.0.2) in
        let valid = is_utf8-from_IsUtf8 word (subst IsUtf8 (sym one.0) h.2.1) in
        let off : true ≡ false = sym valid ∙ is in cc off

    stopped : (word rest : List ℕ) → s ≡ word ++ rest → AllPass is_uri_byte word → Stops is_uri_byte rest → TargetRead s
    stopped word [] same pass stops = absurd stops
    stopped [] (b ∷ t) same pass stops = wrong (Target_word (word_never is_uri_byte 32 refl s [] (b ∷ t) same pass stops (λ u is some. omega (arith, some))))
    stopped (w ∷ ws) (b ∷ t) same pass stops = at (b == 32) refl (is_utf8 (w ∷ ws)) refl
      where
        at : (x : Bool) → (b == 32) ≡ x → (y : Bool) → is_utf8 (w ∷ ws) ≡ y → TargetRead s
        at false is y or = wrong (Target_word (word_never is_uri_byte 32 refl s (w ∷ ws) (b ∷ t) same pass stops (λ u eq some. let byte : b ≡ 32 = cc eq in eqb-false b 32 is byte)))
        at true is true or = let byte = eqb-true b 32 is in found (w ∷ ws) t ((omega arith, pass, same ∙ ap (λ (c : ℕ). (w ∷ ws) ++ c ∷ t) byte), IsUtf8-from_is_utf8 (w ∷ ws) or)
        at true is false or = let byte = eqb-true b 32 is in wrong (not_text (w ∷ ws) t (same ∙ ap (λ (c : ℕ). (w ∷ ws) ++ c ∷ t) byte) pass or)

    by_run : RunOf is_uri_byte s → TargetRead s
    by_run r = ends r.ends
      where
        ends : (r.rest ≡ []) ⊎ Stops is_uri_byte r.rest → TargetRead s
        ends (inl none) =
            let all = all_of is_uri_byte s r.word r.rest r.same r.pass none in
            inside all (Target_word (NotYet_intro λ h. run_unstopped is_uri_byte h.0 (32 ∷ h.1) (subst (AllPass is_uri_byte) h.2.2 all) refl))
        ends (inr stops) = stopped r.word r.rest r.same r.pass stops

-- ## The request line
data StartRead (s : List ℕ) : Type 0 where
  begun : (t : List LineEnd × (List ℕ × (List ℕ × (ℕ × LineEnd)))) (rest : List ℕ) → RequestStart t s rest → StartRead s
  begins : NotYet (Begins RequestStart) s → MayBecomeRequestStart s → StartRead s
  fails : Never (Begins RequestStart) s → StartRead s

abbrev Tail : Piece (ℕ × LineEnd)
Tail = Then Version Newline

start_reads : (s : List ℕ) → StartRead s
start_reads s = by_blank (blank_reads (length s) s (omega arith))
  where
    by_tail : (es : List LineEnd) (t m u p v : List ℕ) → Blank es s t → Method m t u → Target p u v → Read Tail v → StartRead s
    by_tail es t m u p v b x y (whole k rest z) = begun (es, (m, (p, k))) rest (t, b, (u, x, (v, y, z)))
    by_tail es t m u p v b x y (part none c) = begins (Refutes_next _ Blank_deterministic {a = es} b (Refutes_next _ Method_deterministic {a = m} x (Refutes_next Tail Target_deterministic {a = p} y none))) (inl (line_version es m p b x y c))
    by_tail es t m u p v b x y (never none) = fails (Refutes_next _ Blank_deterministic {a = es} b (Refutes_next _ Method_deterministic {a = m} x (Refutes_next Tail Target_deterministic {a = p} y none)))

    by_target : (es : List LineEnd) (t m u : List ℕ) → Blank es s t → Method m t u → TargetRead u → StartRead s
    by_target es t m u b x (found p v y) = by_tail es t m u p v b x y (then_reads Version_deterministic some_newline v (version_reads v) newline_reads)
    by_target es t m u b x (inside all none) = begins (Refutes_next _ Blank_deterministic {a = es} b (Refutes_next _ Method_deterministic {a = m} x (Refutes_first Target Tail none))) (inr (ends_in_target es m u b x all))
    by_target es t m u b x (wrong none) = fails (Refutes_next _ Blank_deterministic {a = es} b (Refutes_next _ Method_deterministic {a = m} x (Refutes_first Target Tail none)))

    by_method : (es : List LineEnd) (t : List ℕ) → Blank es s t → Read Method t → StartRead s
    by_method es t b (whole m u x) = by_target es t m u b x (target_reads u)
    by_method es t b (part none c) = begins (Refutes_next _ Blank_deterministic {a = es} b (Refutes_first Method (Then Target Tail) none)) (inl (line_method es b c))
    by_method es t b (never none) = fails (Refutes_next _ Blank_deterministic {a = es} b (Refutes_first Method (Then Target Tail) none))

    by_blank : BlankRead s → StartRead s
    by_blank (passed es t b) = by_method es t b (word_reads is_token_byte 32 space_ends_token 65 letter_is_token t)
    by_blank (passing none c) = begins (Refutes_first Blank (Then Method (Then Target Tail)) none) (inl (line_blank c))
    by_blank (blocked none) = fails (Refutes_first Blank (Then Method (Then Target Tail)) none)

-- ## Heads
pub each_text_is_read : EachTextIsRead
each_text_is_read s = by_start (start_reads s)
  where
    by_section : (t : List LineEnd × (List ℕ × (List ℕ × (ℕ × LineEnd)))) (u : List ℕ) → RequestStart t s u → Read Section u → ReadRequest s
    by_section t u st (whole x rest y) = request.whole (request_head (t, x)) rest (request_from_pieces s (t, x) rest (u, st, y))
    by_section t u st (part none c) = request.part (request_not_yet (Refutes_next Section RequestStart_deterministic {a = t} st none)) (request_may (Completes_next RequestStart_deterministic {a = t} st c))
    by_section t u st (never none) = request.never (request_never (Refutes_next Section RequestStart_deterministic {a = t} st none))

    by_start : StartRead s → ReadRequest s
    by_start (begun t u st) = by_section t u st (section_reads (suc (length u)) u (omega arith))
    by_start (begins none may) = request.part (request_not_yet (Refutes_first RequestStart Section none)) (request_may_from_line may)
    by_start (fails none) = request.never (request_never (Refutes_first RequestStart Section none))
