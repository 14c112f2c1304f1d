-- Each body is in one of its states.
use Rattle.std.proofs.Common.{◌≡◌, ◌⊎◌, ℕ, zero, suc, ◌+◌, ◌<◌, ◌≤◌, ◌==◌, min, Bool, true, false, List, [], ◌∷◌, ◌++◌, length, take, drop, refl, sym, ap, ◌∙◌, subst, arith, inl, inr, length-append, length-take, take-append-drop, if◌then◌else◌}
use Rattle.std.proofs.lemmas.Bool.{eqb-true, eqb-false, cases_lt}
use Rattle.std.proofs.lemmas.List.{drop_all}
use Rattle.std.proofs.lemmas.List.Elements.{All-nil}
use Rattle.std.specs.Prelude.{nat_lt, nat_le}
use Rattle.httparse.specs.Grammar.{print_section, ChunkLine, chunk_size, print_chunk_line}
use Rattle.httparse.specs.Pieces.{Section}
use Rattle.httparse.proofs.GrammarLemmas.{section_unique}
use Rattle.httparse.proofs.ChunkLemmas.{chunk_line_unique}
use Rattle.httparse.proofs.HeadLemmas.{section_not_yet, section_never}
use Rattle.httparse.proofs.OpenLemmas.{section_may}
use Rattle.wf_value.specs.HttpBody.{Close, Open, Ended, Broke, BodyState, Complete, Waiting, Malformed, Oversize, Chunk, print_chunk, content_of, HasChunks, IsChunk, ReadsLine, line_limit, trailer_limit, field_limit, EndsWrong, unless_closed, length_state, at_close, end_state, Framing, NoBody, OfLength, InChunks, ToTheEnd, BadFraming}
use Rattle.wf_http_body.specs.Chunks.{IsChunkedBody, IsOpenChunked, IsBadSection, BeginsEnd}
use Rattle.wf_http_body.proofs.Chunking.{long_without, one_more, regroup}
use Rattle.wf_http_serve.specs.Visits.{IsVisitBody, visit_limit}
use Rattle.wf_http_serve.proofs.ReadPieces.{Read, whole, part, never, section_reads}
use Rattle.wf_http_serve.proofs.ReadChunkLines.{LineRead, line_whole, line_part, line_never, line_reads}

not_ended : Ended ≡ Open → ⊥
not_ended e = cc e

not_broke : Broke ≡ Open → ⊥
not_broke e = cc e

abbrev State : ℕ → Close → List ℕ → Type 0
State limit close b = (s : BodyState) × IsChunkedBody limit close b s

closing : (limit : ℕ) (close : Close) (b : List ℕ) → IsOpenChunked limit b → State limit close b
closing limit Open b x = (Waiting, (refl, x))
closing limit Ended b x = (Malformed, inr (not_ended, x))
closing limit Broke b x = (Malformed, inr (not_broke, x))

-- ## The end of a chunk
abbrev Whole : List ℕ → Type 0
Whole e = (v : List ℕ) × (e ≡ 13 ∷ 10 ∷ v)

ends_read : (e : List ℕ) → BeginsEnd e ⊎ (Whole e ⊎ EndsWrong e)
ends_read [] = inl (13 ∷ 10 ∷ [], omega arith, refl)
ends_read (a ∷ []) = at (a == 13) refl
  where
    at : (x : Bool) → (a == 13) ≡ x → BeginsEnd (a ∷ []) ⊎ (Whole (a ∷ []) ⊎ EndsWrong (a ∷ []))
    at true is = let byte = eqb-true a 13 is in inl (10 ∷ [], omega arith, ap (λ (n : ℕ). n ∷ 10 ∷ []) byte)
    at false is = inr (inr (omega arith, λ e. let byte : 13 ≡ a = cc e in eqb-false a 13 is (sym byte)))
ends_read (a ∷ c ∷ v) = at (a == 13) refl (c == 10) refl
  where
    at : (x : Bool) → (a == 13) ≡ x → (y : Bool) → (c == 10) ≡ y → BeginsEnd (a ∷ c ∷ v) ⊎ (Whole (a ∷ c ∷ v) ⊎ EndsWrong (a ∷ c ∷ v))
    at true is true or = let one = eqb-true a 13 is in let two = eqb-true c 10 or in inr (inl (v, cc (one, two)))
    at false is y or = inr (inr (omega arith, λ e. let byte : 13 ≡ a = cc e in eqb-false a 13 is (sym byte)))
    at true is false or = inr (inr (omega arith, λ e. let byte : 10 ≡ c = cc e in eqb-false c 10 or (sym byte)))

-- ## Bodies in chunks
module _ (limit : ℕ) (close : Close) (b : List ℕ) (cs : List Chunk) (rest : List ℕ) (has : HasChunks limit b cs rest) where
  abbrev Again : Type 0
  Again = (ds : List Chunk) (left : List ℕ) → HasChunks limit b ds left → length left < length rest → State limit close b

  by_trailer : (l : ChunkLine) (u : List ℕ) → ReadsLine rest l u → chunk_size l ≡ 0 → Read Section u → State limit close b
  by_trailer l u reads size (whole t v x) = by_short (cases_lt trailer_limit (length (print_section t.0 t.1))) (cases_lt field_limit (length t.0))
    where
      bad : IsBadSection u → State limit close b
      bad why = (Malformed, inl (cs, rest, has, inr (inr (record { line = l; section = u; reads = reads; size = size; bad = why }))))

      by_short : (trailer_limit < length (print_section t.0 t.1)) ⊎ (length (print_section t.0 t.1) ≤ trailer_limit) → (field_limit < length t.0) ⊎ (length t.0 ≤ field_limit) → State limit close b
      by_short (inl long) y = bad (inr (inl (record {
        heard = let n = ap length x.1 in let m = length-append (print_section t.0 t.1) v in omega (arith, n, m, long);
        sections = λ fields end more z.
            let same = section_unique u fields t.0 end t.1 more v z x in
            let size_is : length (print_section fields end) ≡ length (print_section t.0 t.1) = ap length (cc (same.0, same.1)) in
            omega (arith, size_is, long);
      })))
      by_short (inr short) (inl many) = bad (inr (inr (t.0, t.1, v, x, many)))
      by_short (inr short) (inr few) = (Complete (content_of cs), (cs, rest, has, record { line = l; section = u; rest = v; fields = t.0; end = t.1; reads = reads; size = size; trailer = x; short = short; few = few }, refl))
  by_trailer l u reads size (part none c) = by_heard (cases_lt trailer_limit (length u))
    where
      by_heard : (trailer_limit < length u) ⊎ (length u ≤ trailer_limit) → State limit close b
      by_heard (inl long) = (Malformed, inl (cs, rest, has, inr (inr (record { line = l; section = u; reads = reads; size = size; bad = inr (inl (record { heard = long; sections = λ fields end more z. absurd (section_not_yet none fields end more z) })) }))))
      by_heard (inr short) = closing limit close b (cs, rest, has, inr (inr (record { line = l; section = u; reads = reads; size = size; none = section_not_yet none; possible = section_may c; short = short })))
  by_trailer l u reads size (never none) = (Malformed, inl (cs, rest, has, inr (inr (record { line = l; section = u; reads = reads; size = size; bad = inl (section_never none) }))))

  by_content : (l : ChunkLine) (u : List ℕ) → ReadsLine rest l u → 0 < chunk_size l → Again → State limit close b
  by_content l u reads some again = by_sum (cases_lt limit (length (content_of cs) + min (chunk_size l) (length u))) (cases_lt (length u) (chunk_size l))
    where
      opened : length (content_of cs) + min (chunk_size l) (length u) ≤ limit → BeginsEnd (drop (chunk_size l) u) → State limit close b
      opened within end = closing limit close b (cs, rest, has, inr (inl (record { line = l; content = u; reads = reads; size = some; within = within; end = end })))

      by_end : length (content_of cs) + min (chunk_size l) (length u) ≤ limit → chunk_size l ≤ length u → BeginsEnd (drop (chunk_size l) u) ⊎ (Whole (drop (chunk_size l) u) ⊎ EndsWrong (drop (chunk_size l) u)) → State limit close b
      by_end within enough (inl begins) = opened within begins
      by_end within enough (inr (inr wrong)) = (Malformed, inl (cs, rest, has, inr (inl (l, u, reads, some, enough, omega (arith, within, enough), wrong))))
      by_end within enough (inr (inl (v, is))) =
          let size = length-take (chunk_size l) u in
          let c : Chunk = record { line = l; content = take (chunk_size l) u } in
          let chunk : IsChunk c = record { line = reads.0.0; short = reads.1; size = some; content = omega (arith, size, enough) } in
          let parts : u ≡ take (chunk_size l) u ++ (13 ∷ 10 ∷ v) = sym (take-append-drop (chunk_size l) u) ∙ ap (λ (y : List ℕ). take (chunk_size l) u ++ y) is in
          let bytes : rest ≡ print_chunk c ++ v = reads.0.1 ∙ ap (λ (y : List ℕ). print_chunk_line l ++ y) parts ∙ regroup (print_chunk_line l) (take (chunk_size l) u) v in
          let all = ap length reads.0.1 in
          let sum = length-append (print_chunk_line l) u in
          let inner = ap length parts in
          let more = length-append (take (chunk_size l) u) (13 ∷ 10 ∷ v) in
          again (cs ++ c ∷ []) v (one_more limit b rest v cs c has chunk bytes (omega (arith, within, enough, size))) (omega (arith, all, sum, inner, more))

      by_sum : (limit < length (content_of cs) + min (chunk_size l) (length u)) ⊎ (length (content_of cs) + min (chunk_size l) (length u) ≤ limit) → (length u < chunk_size l) ⊎ (chunk_size l ≤ length u) → State limit close b
      by_sum (inl over) y = (Oversize, (cs, rest, has, record { line = l; content = u; reads = reads; over = over }))
      by_sum (inr within) (inl less) = opened within (subst BeginsEnd (sym (drop_all (chunk_size l) u (omega (arith, less)))) (13 ∷ 10 ∷ [], omega arith, refl))
      by_sum (inr within) (inr enough) = by_end within enough (ends_read (drop (chunk_size l) u))

  by_line : LineRead rest → Again → State limit close b
  by_line (line_never none) again = (Malformed, inl (cs, rest, has, inl (inl none)))
  by_line (line_part none may) again = by_heard (cases_lt line_limit (length rest))
    where
      by_heard : (line_limit < length rest) ⊎ (length rest ≤ line_limit) → State limit close b
      by_heard (inl long) = (Malformed, inl (cs, rest, has, inl (inr (long_without rest none long))))
      by_heard (inr short) = closing limit close b (cs, rest, has, inl (record { none = none; possible = may; short = short }))
  by_line (line_whole l u x) again = by_length (cases_lt line_limit (length (print_chunk_line l))) (cases_lt 0 (chunk_size l))
    where
      by_length : (line_limit < length (print_chunk_line l)) ⊎ (length (print_chunk_line l) ≤ line_limit) → (0 < chunk_size l) ⊎ (chunk_size l ≤ 0) → State limit close b
      by_length (inl long) y = (
        Malformed,
        inl (
          cs,
          rest,
          has,
          inl (inr (record {
            heard = let n = ap length x.1 in let m = length-append (print_chunk_line l) u in omega (arith, n, m, long);
            lines = λ k r z.
                let same = chunk_line_unique rest k l r u z x in
                let size_is : length (print_chunk_line k) ≡ length (print_chunk_line l) = ap (λ (j : ChunkLine). length (print_chunk_line j)) same.0 in
                omega (arith, size_is, long);
          })),
        ),
      )
      by_length (inr short) (inl some) = by_content l u (x, short) some again
      by_length (inr short) (inr none) = by_trailer l u (x, short) (omega (arith, none)) (section_reads (suc (length u)) u (omega arith))

chunked_from : (limit : ℕ) (close : Close) (b : List ℕ) (n : ℕ) (cs : List Chunk) (rest : List ℕ) → HasChunks limit b cs rest → length rest < n → State limit close b
chunked_from limit close b zero cs rest has few = absurd (omega (arith, few))
chunked_from limit close b (suc n) cs rest has few = by_line limit close b cs rest has (line_reads rest) (λ ds left more less. chunked_from limit close b n ds left more (omega (arith, less, few)))

pub chunked_state : (limit : ℕ) (close : Close) (b : List ℕ) → State limit close b
chunked_state limit close b = chunked_from limit close b (suc (length b)) [] b (record { chunks = All-nil IsChunk; bytes = refl; within = omega arith }) (omega arith)

-- ## Any body
-- one that waits is told so only while the connection is open
pub record BodyOf (f : Framing) (close : Close) (b : List ℕ) : Type 0 where
  pub state : BodyState
  pub body : IsVisitBody f close b state
  pub waits : state ≡ Waiting → close ≡ Open

unless_open : (close : Close) → unless_closed close ≡ Waiting → close ≡ Open
unless_open Open is = refl
unless_open Ended is = let f : Malformed ≡ Waiting = is in absurd (cc f)
unless_open Broke is = let f : Malformed ≡ Waiting = is in absurd (cc f)

length_open : (limit : ℕ) (close : Close) (b : List ℕ) (n : ℕ) (over enough : Bool) → (if over then Oversize else (if enough then Complete (take n b) else unless_closed close)) ≡ Waiting → close ≡ Open
length_open limit close b n true y is = let f : Oversize ≡ Waiting = is in absurd (cc f)
length_open limit close b n false true is = let f : Complete (take n b) ≡ Waiting = is in absurd (cc f)
length_open limit close b n false false is = unless_open close is

at_open : (close : Close) (b : List ℕ) → at_close close b ≡ Waiting → close ≡ Open
at_open Open b is = refl
at_open Ended b is = let f : Complete b ≡ Waiting = is in absurd (cc f)
at_open Broke b is = let f : Malformed ≡ Waiting = is in absurd (cc f)

end_open : (close : Close) (b : List ℕ) (over : Bool) → (if over then Oversize else at_close close b) ≡ Waiting → close ≡ Open
end_open close b true is = let f : Oversize ≡ Waiting = is in absurd (cc f)
end_open close b false is = at_open close b is

chunks_open : (close : Close) (b : List ℕ) (s : BodyState) → IsChunkedBody visit_limit close b s → s ≡ Waiting → close ≡ Open
chunks_open close b s x is = (subst (IsChunkedBody visit_limit close b) is x).0

pub body_of : (f : Framing) (close : Close) (b : List ℕ) → BodyOf f close b
body_of NoBody close b = record { state = Complete []; body = refl; waits = λ is. let f : Complete [] ≡ Waiting = is in absurd (cc f) }
body_of (OfLength n) close b = record { state = length_state visit_limit close b n; body = refl; waits = length_open visit_limit close b n (nat_lt visit_limit n) (nat_le n (length b)) }
body_of InChunks close b = let s = chunked_state visit_limit close b in record { state = s.0; body = s.1; waits = chunks_open close b s.0 s.1 }
body_of ToTheEnd close b = record { state = end_state visit_limit close b; body = refl; waits = end_open close b (nat_lt visit_limit (length b)) }
body_of BadFraming close b = record { state = Malformed; body = refl; waits = λ is. let f : Malformed ≡ Waiting = is in absurd (cc f) }
