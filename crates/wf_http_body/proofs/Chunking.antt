-- Chunks, one by one.
use Rattle.std.proofs.Common.{◌≡◌, ◌≢◌, ℕ, ◌==◌, true, ◌+◌, ◌-◌, ◌<◌, ◌≤◌, List, [], ◌∷◌, ◌++◌, length, get_or, drop, refl, sym, ap, ◌∙◌, arith, append_assoc, append-nil, length-append}
use Rattle.std.specs.List.{flat_map}
use Rattle.std.proofs.lemmas.Bool.{false≢true, ne_eqb}
use Rattle.std.proofs.lemmas.List.Concat.{flat_map-append}
use Rattle.std.proofs.lemmas.List.Elements.{All-append, All-cons, All-nil}
use Rattle.httparse.specs.Grammar.{ChunkLine, IsChunkLine, crlf, print_chunk_line, print_end, print_extension, HasNoChunkLine}
use Rattle.httparse.specs.Spans.{IsChunkLineAt}
use Rattle.httparse.proofs.ChunkLemmas.{chunk_line_unique}
use Rattle.wf_value.specs.HttpBody.{Chunk, IsChunk, print_chunk, content_of, HasChunks, line_limit}
use Rattle.wf_http_body.specs.Chunks.{IsLongLine, BeginsEnd}

pub content_more : (cs : List Chunk) (c : Chunk) → content_of (cs ++ c ∷ []) ≡ content_of cs ++ c.content
content_more cs c = flat_map-append (λ (d : Chunk). d.content) cs (c ∷ []) ∙ ap (λ (s : List ℕ). content_of cs ++ s) (append-nil c.content)

print_more : (cs : List Chunk) (c : Chunk) → flat_map print_chunk (cs ++ c ∷ []) ≡ flat_map print_chunk cs ++ print_chunk c
print_more cs c = flat_map-append print_chunk cs (c ∷ []) ∙ ap (λ (s : List ℕ). flat_map print_chunk cs ++ s) (append-nil (print_chunk c))

-- one chunk more
pub one_more : (limit : ℕ) (b rest behind : List ℕ) (cs : List Chunk) (c : Chunk) → HasChunks limit b cs rest → IsChunk c
    → rest ≡ print_chunk c ++ behind → length (content_of cs) + length c.content ≤ limit → HasChunks limit b (cs ++ c ∷ []) behind
one_more limit b rest behind cs c has is e within = record {
  chunks = All-append IsChunk cs (c ∷ []) has.chunks (All-cons IsChunk c [] is (All-nil IsChunk));
  bytes = has.bytes ∙ ap (λ (s : List ℕ). flat_map print_chunk cs ++ s) e ∙ sym (append_assoc (flat_map print_chunk cs) (print_chunk c) behind) ∙ ap (λ (s : List ℕ). s ++ behind) (sym (print_more cs c));
  within = let size = ap length (content_more cs c) in let sum = length-append (content_of cs) c.content in omega arith;
}

-- ## Lines
pub line_within : (b : List ℕ) (start size : ℕ) (l : ChunkLine) → IsChunkLineAt b start size l → start ≤ length b
line_within b start size l x =
    let all = ap length x.reads.1 in
    let sum = length-append (print_chunk_line l) (drop start b) in
    let is = x.len_is in
    omega arith

pub long_line : (b : List ℕ) (start size : ℕ) (l : ChunkLine) → IsChunkLineAt b start size l → line_limit < start → IsLongLine b
long_line b start size l x long = record {
  heard = let le = line_within b start size l x in omega arith;
  lines = λ k rest y.
      let same : length (print_chunk_line k) ≡ length (print_chunk_line l) = ap (λ (m : ChunkLine). length (print_chunk_line m)) (chunk_line_unique b k l rest (drop start b) y x.reads).0 in
      let is = x.len_is in
      omega arith;
}

pub long_without : (b : List ℕ) → HasNoChunkLine b → line_limit < length b → IsLongLine b
long_without b none long = record { heard = long; lines = λ l rest x. absurd (none l rest x) }

-- it takes bytes
pub line_some : (l : ChunkLine) → IsChunkLine l → 0 < length (print_chunk_line l)
unfolding print_chunk_line
line_some l is =
    let some = is.digits.0 in
    let sum = length-append (l.digits ++ l.pad ++ print_extension l.extension) (print_end crlf) in
    let sum_front = length-append (l.digits ++ l.pad) (print_extension l.extension) in
    let sum_digits = length-append l.digits l.pad in
    omega arith

pub line_takes : (b : List ℕ) (start size : ℕ) (l : ChunkLine) → IsChunkLineAt b start size l → (0 < start) × (start ≤ length b)
line_takes b start size l x =
    let le = line_within b start size l x in
    let is = x.len_is in
    let some = line_some l x.reads.0 in
    (omega arith, le)

-- ## Ends

-- at the end of what was heard
pub begins_at_end : (b : List ℕ) → true ≡ (length b == 0) → BeginsEnd b
begins_at_end [] is = (13 ∷ 10 ∷ [], omega arith, refl)
begins_at_end (a ∷ b) is = absurd (false≢true (sym (ne_eqb (length (a ∷ b)) 0 (omega arith)) ∙ sym is))

pub begins_before : (b : List ℕ) → length b ≡ 1 → get_or b 0 0 ≡ 13 → BeginsEnd b
begins_before [] is cr = absurd (omega arith)
begins_before (a ∷ []) is cr = (10 ∷ [], omega arith, ap (λ (n : ℕ). n ∷ 10 ∷ []) cr)
begins_before (a ∷ b ∷ s) is cr = absurd (omega arith)

-- ## Content
pub regroup : (a c rest : List ℕ) → a ++ (c ++ 13 ∷ 10 ∷ rest) ≡ (a ++ c ++ 13 ∷ 10 ∷ []) ++ rest
regroup a c rest = sym (append_assoc (a ++ c) (13 ∷ 10 ∷ []) rest ∙ append_assoc a c (13 ∷ 10 ∷ rest))
