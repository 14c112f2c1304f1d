-- What is settled of a body in chunks stays so, whatever is heard behind it.
use Rattle.std.proofs.Common.{◌≡◌, ℕ, zero, suc, ◌-◌, List, [], ◌∷◌, ◌++◌, length, take, drop, refl, sym, subst, arith, inl, inr, append_assoc, length-append}
use Rattle.std.specs.List.{flat_map}
use Rattle.std.proofs.lemmas.List.{drop-append-le}
use Rattle.std.proofs.lemmas.Bool.{cases_lt}
use Rattle.httparse.specs.Grammar.{print_section, ReadsSection, NeverHasSection, chunk_size, print_chunk_line, ReadsChunkLine, NeverHasChunkLine}
use Rattle.httparse.proofs.GrammarLemmas.{ReadsSection-append}
use Rattle.httparse.proofs.ChunkLemmas.{ReadsChunkLine-append}
use Rattle.httparse.proofs.PieceLemmas.{front-append}
use Rattle.wf_value.specs.HttpBody.{Chunk, print_chunk, content_of, HasChunks, IsLast, IsOver, EndsWrong, IsBadEnd, IsWholeChunked, IsOverChunked}
use Rattle.wf_http_body.specs.Chunks.{IsBadLine, IsBadSection, IsBadRest, IsBadChunked}
use Rattle.wf_http_body.proofs.Fronts.{front_of}

pub chunks_stay : (limit : ℕ) (b more rest : List ℕ) (cs : List Chunk) → HasChunks limit b cs rest → HasChunks limit (b ++ more) cs (rest ++ more)
chunks_stay limit b more rest cs x = record { chunks = x.chunks; bytes = front-append b (flat_map print_chunk cs) rest more x.bytes; within = x.within }

pub last_stays : (b more : List ℕ) → IsLast b → IsLast (b ++ more)
last_stays b more x = record {
  line = x.line;
  section = x.section ++ more;
  rest = x.rest ++ more;
  fields = x.fields;
  end = x.end;
  reads = (ReadsChunkLine-append b x.line x.section more x.reads.0, x.reads.1);
  size = x.size;
  trailer = ReadsSection-append x.section x.fields x.end x.rest more x.trailer;
  short = x.short;
  few = x.few;
}

pub over_stays : (limit : ℕ) (b more : List ℕ) (cs : List Chunk) → IsOver limit cs b → IsOver limit cs (b ++ more)
over_stays limit b more cs x = record {
  line = x.line;
  content = x.content ++ more;
  reads = (ReadsChunkLine-append b x.line x.content more x.reads.0, x.reads.1);
  over = let size = length-append x.content more in let over = x.over in omega arith;
}

never_line_stays : (b more : List ℕ) → NeverHasChunkLine b → NeverHasChunkLine (b ++ more)
never_line_stays b more never extra l rest x = never (more ++ extra) l rest (subst (λ (s : List ℕ). ReadsChunkLine s l rest) (append_assoc b more extra) x)

bad_line_stays : (b more : List ℕ) → IsBadLine b → IsBadLine (b ++ more)
bad_line_stays b more (inl never) = inl (never_line_stays b more never)
bad_line_stays b more (inr long) = inr (record {
  heard = let size = length-append b more in let big = long.heard in omega arith;
  lines = λ l rest x. elim (cases_lt (length b) (length (print_chunk_line l))) [
    | inl lt ↦ let big = long.heard in omega arith
    | inr le ↦ long.lines l (take (length b - length (print_chunk_line l)) rest) (x.0, front_of b more (print_chunk_line l) rest x.1 le)
  ];
})

never_section_stays : (s more : List ℕ) → NeverHasSection s → NeverHasSection (s ++ more)
never_section_stays s more never extra fields end rest x = never (more ++ extra) fields end rest (subst (λ (b : List ℕ). ReadsSection b fields end rest) (append_assoc s more extra) x)

bad_section_stays : (s more : List ℕ) → IsBadSection s → IsBadSection (s ++ more)
bad_section_stays s more (inl never) = inl (never_section_stays s more never)
bad_section_stays s more (inr (inl long)) = inr (inl (record {
  heard = let size = length-append s more in let big = long.heard in omega arith;
  sections = λ fields end rest x. elim (cases_lt (length s) (length (print_section fields end))) [
    | inl lt ↦ let big = long.heard in omega arith
    | inr le ↦ long.sections fields end (take (length s - length (print_section fields end)) rest) (x.0, front_of s more (print_section fields end) rest x.1 le)
  ];
}))
bad_section_stays s more (inr (inr (fields, end, rest, x, many))) = inr (inr (fields, end, rest ++ more, ReadsSection-append s fields end rest more x, many))

pub take_none : (n : ℕ) → take {A = ℕ} n [] ≡ []
take_none zero = refl
take_none (suc n) = refl

ends_wrong_stays : (s more : List ℕ) → EndsWrong s → EndsWrong (s ++ more)
ends_wrong_stays [] more wrong = absurd (omega (arith, wrong.0))
ends_wrong_stays (a ∷ []) more wrong = (omega arith, λ e. wrong.1 (cc e))
ends_wrong_stays (a ∷ b ∷ s) more wrong = (omega arith, λ e. wrong.1 (cc (e, take_none (length s))))

bad_end_stays : (limit : ℕ) (b more : List ℕ) (cs : List Chunk) → IsBadEnd limit cs b → IsBadEnd limit cs (b ++ more)
bad_end_stays limit b more cs (l, rest, reads, some, le, within, wrong) = (
  l,
  rest ++ more,
  (ReadsChunkLine-append b l rest more reads.0, reads.1),
  some,
  (let size = length-append rest more in omega arith),
  within,
  subst EndsWrong (sym (drop-append-le (chunk_size l) rest more le)) (ends_wrong_stays (drop (chunk_size l) rest) more wrong),
)

bad_rest_stays : (limit : ℕ) (b more : List ℕ) (cs : List Chunk) → IsBadRest limit cs b → IsBadRest limit cs (b ++ more)
bad_rest_stays limit b more cs (inl line) = inl (bad_line_stays b more line)
bad_rest_stays limit b more cs (inr (inl end)) = inr (inl (bad_end_stays limit b more cs end))
bad_rest_stays limit b more cs (inr (inr x)) = inr (inr (record {
  line = x.line;
  section = x.section ++ more;
  reads = (ReadsChunkLine-append b x.line x.section more x.reads.0, x.reads.1);
  size = x.size;
  bad = bad_section_stays x.section more x.bad;
}))

pub whole_chunked : (limit : ℕ) (b rest more : List ℕ) (cs : List Chunk) → HasChunks limit b cs rest → IsLast rest → IsWholeChunked limit (b ++ more) (content_of cs)
whole_chunked limit b rest more cs has last = (cs, rest ++ more, chunks_stay limit b more rest cs has, last_stays rest more last, refl)

pub over_chunked : (limit : ℕ) (b rest more : List ℕ) (cs : List Chunk) → HasChunks limit b cs rest → IsOver limit cs rest → IsOverChunked limit (b ++ more)
over_chunked limit b rest more cs has over = (cs, rest ++ more, chunks_stay limit b more rest cs has, over_stays limit rest more cs over)

pub bad_chunked : (limit : ℕ) (b rest more : List ℕ) (cs : List Chunk) → HasChunks limit b cs rest → IsBadRest limit cs rest → IsBadChunked limit (b ++ more)
bad_chunked limit b rest more cs has bad = (cs, rest ++ more, chunks_stay limit b more rest cs has, bad_rest_stays limit rest more cs bad)
