-- From one place of a body in chunks to the next.
use Rattle.std.proofs.Common.{◌≡◌, ℕ, ◌+◌, ◌-◌, ◌<◌, min, List, [], ◌∷◌, ◌++◌, length, drop, sym, ap, ◌∙◌, subst, arith, inl, inr, length-append, Result, Ok, Err}
use Rattle.std.specs.Prelude.{IfOk}
use Rattle.std.proofs.lemmas.List.{drop_at}
use Rattle.httparse.specs.Grammar.{chunk_size, print_chunk_line}
use Rattle.wf_value.specs.HttpBody.{Complete, Malformed, Oversize, Chunk, content_of, EndsWrong, IsWholeChunked}
use Rattle.wf_http_body.specs.declared.chunk.Place.{Place}
use Rattle.wf_http_body.specs.declared.chunk.Place.TheVariants as place
use Rattle.wf_http_body.specs.declared.chunk.Step.{Step}
use Rattle.wf_http_body.specs.Chunks.{IsBadLine, IsBadSection}
use Rattle.wf_http_body.specs.Found.{IsWholeSection, Steps}
use Rattle.wf_http_body.specs.Parts.{IsAtLine, IsInChunk, IsAtTrailer, Stays}
use Rattle.wf_http_body.proofs.Chunking.{content_more, one_more, regroup}
use Rattle.wf_http_body.proofs.Lasting.{whole_chunked, over_chunked, bad_chunked}

-- ## Lines
pub bad_line : (limit : ℕ) (all heard content : List ℕ) → IsAtLine limit all heard content → IsBadLine heard → Stays limit all Malformed
bad_line limit all heard content at bad more close = inl (bad_chunked limit all heard more at.chunks at.has (inl bad))

-- ## Content
sizes : (limit : ℕ) (all heard content : List ℕ) (left : ℕ) (at : IsInChunk limit all heard content left) → length content ≡ length (content_of at.chunks) + length at.part
sizes limit all heard content left at = ap length at.content_is ∙ length-append (content_of at.chunks) at.part

pub over : (limit room : ℕ) (all heard content : List ℕ) (left : ℕ) → IsInChunk limit all heard content left → length content + room ≡ limit
    → room < min left (length heard) → Stays limit all Oversize
over limit room all heard content left at sum big more close =
    let size = at.size in
    let joined = length-append at.part heard in
    let whole = sizes limit all heard content left at in
    over_chunked limit all at.rest more at.chunks at.has (record { line = at.line; content = at.part ++ heard; reads = at.reads; over = omega arith })

-- ## Ends
pub whole_chunk : (limit : ℕ) (all heard content : List ℕ) → IsInChunk limit all heard content 0 → heard ≡ 13 ∷ 10 ∷ drop 2 heard → IsAtLine limit all (drop 2 heard) content
whole_chunk limit all heard content at is =
    let size = at.size in
    let fits = at.within in
    let whole = sizes limit all heard content 0 at in
    let chunk : Chunk = record { line = at.line; content = at.part } in
    record {
      chunks = at.chunks ++ chunk ∷ [];
      has = one_more limit all at.rest (drop 2 heard) at.chunks chunk at.has
          (record { line = at.reads.0.0; short = at.reads.1; size = at.some; content = omega arith })
          (at.reads.0.1 ∙ ap (λ (s : List ℕ). print_chunk_line at.line ++ (at.part ++ s)) is ∙ regroup (print_chunk_line at.line) at.part (drop 2 heard))
          (omega arith);
      content_is = at.content_is ∙ sym (content_more at.chunks chunk);
    }

pub bad_end : (limit : ℕ) (all heard content : List ℕ) → IsInChunk limit all heard content 0 → EndsWrong heard → Stays limit all Malformed
bad_end limit all heard content at wrong more close =
    let size = at.size in
    let fits = at.within in
    let joined = length-append at.part heard in
    let whole = sizes limit all heard content 0 at in
    let behind = drop_at at.part heard (chunk_size at.line) (omega arith) in
    inl (bad_chunked limit all at.rest more at.chunks at.has
    (inr (inl (at.line, at.part ++ heard, at.reads, at.some, omega arith, omega arith, subst EndsWrong (sym behind) wrong))))

-- ## The last chunk
pub last_chunk : (limit : ℕ) (all heard content : List ℕ) → IsAtTrailer limit all heard content → IsWholeSection heard → Stays limit all (Complete content)
last_chunk limit all heard content at whole more close =
    subst (IsWholeChunked limit (all ++ more)) (sym at.content_is)
    (whole_chunked limit all at.rest more at.chunks at.has (record {
      line = at.line;
      section = heard;
      rest = whole.rest;
      fields = whole.fields;
      end = whole.end;
      reads = at.reads;
      size = at.size;
      trailer = whole.reads;
      short = whole.short;
      few = whole.few;
    }))

pub bad_trailer : (limit : ℕ) (all heard content : List ℕ) → IsAtTrailer limit all heard content → IsBadSection heard → Stays limit all Malformed
bad_trailer limit all heard content at bad more close =
    inl (bad_chunked limit all at.rest more at.chunks at.has (inr (inr (record { line = at.line; section = heard; reads = at.reads; size = at.size; bad = bad }))))

-- at the place that the code is at
pub last_steps : {E : Type 0} (result : Result Step E) (p : Place) (heard : List ℕ) (room : ℕ) → p ≡ place.Trailer
    → IfOk result (λ s. (r : ℕ) → Steps place.Trailer heard r s) → IfOk result (Steps p heard room)
last_steps (Ok s) p heard room is steps = subst (λ (q : Place). Steps q heard room s) (sym is) (steps room)
last_steps (Err e) p heard room is steps = tt
