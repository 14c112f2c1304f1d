-- The same bytes of a body in chunks come to one state.
use Rattle.std.proofs.Common.{◌≡◌, ◌≢◌, ℕ, ◌+◌, ◌<◌, ◌≤◌, min, List, [], ◌∷◌, ◌++◌, length, take, drop, refl, sym, ap, ap₂, ◌∙◌, subst, arith, inl, inr, append_assoc, append-nil, length-append}
use Rattle.std.proofs.lemmas.List.{append_cancel_left, drop_at, take_at}
use Rattle.std.proofs.lemmas.List.Concat.{flat_map-append}
use Rattle.httparse.specs.Grammar.{ChunkLine, print_chunk_line, chunk_size, ReadsChunkLine, HasNoChunkLine, NeverHasChunkLine, MayBecomeChunkLine, NeverHasSection, MayBecomeSection}
use Rattle.httparse.proofs.GrammarLemmas.{section_unique}
use Rattle.httparse.proofs.ChunkLemmas.{chunk_line_unique}
use Rattle.wf_value.specs.HttpBody.{Close, Open, Ended, Broke, BodyState, Complete, Waiting, Malformed, Oversize, unless_closed, Chunk, IsChunk, print_chunk, content_of, HasChunks, ReadsLine, IsLast, IsOver, IsBadEnd, EndsWrong}
use Rattle.wf_http_body.specs.Chunks.{IsBadLine, IsOpenLine, IsBadSection, IsBadTrailer, IsOpenTrailer, BeginsEnd, IsOpenChunk, IsBadRest, IsOpenRest, IsChunkedBody}
use Rattle.wf_http_body.specs.Found.{IsWholeSection}
use Rattle.wf_http_body.specs.Parts.{IsOpenSection}
use Rattle.wf_http_body.proofs.Fronts.{never_is_no_section}
use Rattle.wf_http_body.proofs.Lasting.{take_none}
use Rattle.wf_http_body.proofs.Printed.{GoesOn, Compares, compare}

-- ## Whole chunks
content_reads : (c : Chunk) (r : List ℕ) → IsChunk c → ReadsChunkLine (print_chunk c ++ r) c.line (c.content ++ 13 ∷ 10 ∷ r)
content_reads c r is = (
  is.line,
  append_assoc (print_chunk_line c.line ++ c.content) (13 ∷ 10 ∷ []) r ∙ append_assoc (print_chunk_line c.line) c.content (13 ∷ 10 ∷ r),
)

same_content : (a b r q : List ℕ) → length a ≡ length b → a ++ 13 ∷ 10 ∷ r ≡ b ++ 13 ∷ 10 ∷ q → (a ≡ b) × (r ≡ q)
same_content a b r q same e =
    let front = sym (take_at a (13 ∷ 10 ∷ r) (length a) refl) ∙ ap (take (length a)) e ∙ take_at b (13 ∷ 10 ∷ q) (length a) (sym same) in
    let behind = sym (drop_at a (13 ∷ 10 ∷ r) (length a) refl) ∙ ap (drop (length a)) e ∙ drop_at b (13 ∷ 10 ∷ q) (length a) (sym same) in
    (front, append_cancel_left (13 ∷ 10 ∷ []) r q behind)

one_chunk : (c d : Chunk) (r q : List ℕ) → IsChunk c → IsChunk d → print_chunk c ++ r ≡ print_chunk d ++ q → (c ≡ d) × (r ≡ q)
one_chunk c d r q x y e =
    let reads = subst (λ (s : List ℕ). ReadsChunkLine s c.line (c.content ++ 13 ∷ 10 ∷ r)) e (content_reads c r x) in
    let line = chunk_line_unique (print_chunk d ++ q) c.line d.line (c.content ++ 13 ∷ 10 ∷ r) (d.content ++ 13 ∷ 10 ∷ q) reads (content_reads d q y) in
    let content = same_content c.content d.content r q (x.content ∙ ap chunk_size line.0 ∙ sym y.content) line.1 in
    (ap₂ (λ (l : ChunkLine) (s : List ℕ). record { line = l; content = s }) line.0 content.0, content.1)

-- ## The line at the front
abbrev Reads : (ChunkLine → List ℕ → Type 0) → List ℕ → Type 0
Reads P b = (l : ChunkLine) × (rest : List ℕ) × ReadsLine b l rest × P l rest

abbrev ReadsNone : List ℕ → Type 0
ReadsNone b = (l : ChunkLine) (rest : List ℕ) → ReadsLine b l rest → ⊥

exclude : (b : List ℕ) (P Q : ChunkLine → List ℕ → Type 0) → Reads P b → Reads Q b → ((l : ChunkLine) (rest : List ℕ) → P l rest → Q l rest → ⊥) → ⊥
exclude b P Q (l, rest, reads, p) (k, other, again, q) apart =
    let same = chunk_line_unique b l k rest other reads.0 again.0 in
    apart k other (subst (λ (m : ChunkLine). P m other) same.0 (subst (λ (s : List ℕ). P l s) same.1 p)) q

none_reads : (b : List ℕ) (P : ChunkLine → List ℕ → Type 0) → ReadsNone b → Reads P b → ⊥
none_reads b P none (l, rest, reads, p) = none l rest reads

-- what is told of a chunk's line and the bytes behind it, where the chunks before come to n bytes
abbrev Over : ℕ → ℕ → ChunkLine → List ℕ → Type 0
Over limit n l rest = limit < n + min (chunk_size l) (length rest)

abbrev Ends : (List ℕ → Type 0) → ℕ → ℕ → ChunkLine → List ℕ → Type 0
Ends P limit n l rest = (0 < chunk_size l) × (n + min (chunk_size l) (length rest) ≤ limit) × P (drop (chunk_size l) rest)

abbrev Last : (List ℕ → Type 0) → ChunkLine → List ℕ → Type 0
Last P l rest = (chunk_size l ≡ 0) × P rest

abbrev IsWholeEnd : List ℕ → Type 0
IsWholeEnd s = (behind : List ℕ) × (s ≡ 13 ∷ 10 ∷ behind)

-- ## What excludes what
whole_section : (s : List ℕ) → IsWholeSection s → IsBadSection s → ⊥
whole_section s x (inl never) = never_is_no_section s never x.fields x.end x.rest x.reads
whole_section s x (inr (inl long)) =
    let big = long.sections x.fields x.end x.rest x.reads in
    let small = x.short in
    omega arith
whole_section s x (inr (inr (fields, end, rest, reads, many))) =
    let same = section_unique s x.fields fields x.end end x.rest rest x.reads reads in
    let size = ap length same.0 in
    let few = x.few in
    omega arith

whole_or_open : (s : List ℕ) → IsWholeSection s → IsOpenSection s → ⊥
whole_or_open s x open_section = open_section.none x.fields x.end x.rest x.reads

never_or_may : (s : List ℕ) → NeverHasSection s → MayBecomeSection s → ⊥
never_or_may s never (more, fields, end, reads) = never more fields end [] reads

bad_or_open : (s : List ℕ) → IsBadSection s → IsOpenSection s → ⊥
bad_or_open s (inl never) x = never_or_may s never x.possible
bad_or_open s (inr (inl long)) x = let big = long.heard in let small = x.short in omega arith
bad_or_open s (inr (inr (fields, end, rest, reads, many))) x = x.none fields end rest reads

wrong_or_begun : (s : List ℕ) → EndsWrong s → BeginsEnd s → ⊥
wrong_or_begun [] wrong begun = omega (arith, wrong.0)
wrong_or_begun (a ∷ []) wrong (more, some, is) = wrong.1 (cc is)
wrong_or_begun (a ∷ b ∷ s) wrong (more, some, is) =
    let size = ap length is ∙ refl in
    omega (arith, some, length-append s more)

wrong_or_whole : (s : List ℕ) → EndsWrong s → IsWholeEnd s → ⊥
wrong_or_whole s wrong (behind, is) = (subst EndsWrong is wrong).1 (cc (take_none (length behind)))

begun_or_whole : (s : List ℕ) → BeginsEnd s → IsWholeEnd s → ⊥
begun_or_whole s (more, some, begins) (behind, is) =
    let size = ap length begins ∙ refl in
    let here = ap length is in
    omega (arith, some, length-append s more)

never_or_may_line : (b : List ℕ) → NeverHasChunkLine b → MayBecomeChunkLine b → ⊥
never_or_may_line b never (more, l, reads) = never more l [] reads

-- ## The states behind whole chunks
bad_line_reads : (b : List ℕ) → IsBadLine b → ReadsNone b
bad_line_reads b (inl never) l rest reads = subst HasNoChunkLine (append-nil b) (never []) l rest reads.0
bad_line_reads b (inr long) l rest reads = let big = long.lines l rest reads.0 in let small = reads.1 in omega arith

open_line_reads : (b : List ℕ) → IsOpenLine b → ReadsNone b
open_line_reads b x l rest reads = x.none l rest reads.0

last_reads : (b : List ℕ) → IsLast b → Reads (Last IsWholeSection) b
last_reads b x = (x.line, x.section, x.reads, (x.size, record { fields = x.fields; end = x.end; rest = x.rest; reads = x.trailer; short = x.short; few = x.few }))

over_reads : (limit : ℕ) (cs : List Chunk) (b : List ℕ) → IsOver limit cs b → Reads (Over limit (length (content_of cs))) b
over_reads limit cs b x = (x.line, x.content, x.reads, x.over)

bad_end_reads : (limit : ℕ) (cs : List Chunk) (b : List ℕ) → IsBadEnd limit cs b → Reads (Ends EndsWrong limit (length (content_of cs))) b
bad_end_reads limit cs b (l, rest, reads, some, le, within, wrong) = (l, rest, reads, (some, omega arith, wrong))

bad_trailer_reads : (b : List ℕ) → IsBadTrailer b → Reads (Last IsBadSection) b
bad_trailer_reads b x = (x.line, x.section, x.reads, (x.size, x.bad))

open_chunk_reads : (limit : ℕ) (cs : List Chunk) (b : List ℕ) → IsOpenChunk limit cs b → Reads (Ends BeginsEnd limit (length (content_of cs))) b
open_chunk_reads limit cs b x = (x.line, x.content, x.reads, (x.size, x.within, x.end))

open_trailer_reads : (b : List ℕ) → IsOpenTrailer b → Reads (Last IsOpenSection) b
open_trailer_reads b x = (x.line, x.section, x.reads, (x.size, record { none = x.none; possible = x.possible; short = x.short }))

-- one more whole chunk
abbrev IsNext : ℕ → List Chunk → List ℕ → Type 0
IsNext limit cs b = Reads (Ends IsWholeEnd limit (length (content_of cs))) b

zero_or_some : (P Q : List ℕ → Type 0) (limit n : ℕ) (l : ChunkLine) (rest : List ℕ) → Last P l rest → Ends Q limit n l rest → ⊥
zero_or_some P Q limit n l rest (zero, p) (some, within, q) = omega arith

zero_or_over : (P : List ℕ → Type 0) (limit n : ℕ) (l : ChunkLine) (rest : List ℕ) → n ≤ limit → Last P l rest → Over limit n l rest → ⊥
zero_or_over P limit n l rest fits (zero, p) over = omega arith

over_or_within : (Q : List ℕ → Type 0) (limit n : ℕ) (l : ChunkLine) (rest : List ℕ) → Over limit n l rest → Ends Q limit n l rest → ⊥
over_or_within Q limit n l rest over (some, within, q) = omega arith

both_last : (P Q : List ℕ → Type 0) (b : List ℕ) → ((s : List ℕ) → P s → Q s → ⊥) → Reads (Last P) b → Reads (Last Q) b → ⊥
both_last P Q b apart x y = exclude b (Last P) (Last Q) x y λ l rest p q. apart rest p.1 q.1

both_end : (P Q : List ℕ → Type 0) (limit n : ℕ) (b : List ℕ) → ((s : List ℕ) → P s → Q s → ⊥) → Reads (Ends P limit n) b → Reads (Ends Q limit n) b → ⊥
both_end P Q limit n b apart x y = exclude b (Ends P limit n) (Ends Q limit n) x y λ l rest p q. apart (drop (chunk_size l) rest) p.2 q.2

last_or_end : (P Q : List ℕ → Type 0) (limit n : ℕ) (b : List ℕ) → Reads (Last P) b → Reads (Ends Q limit n) b → ⊥
last_or_end P Q limit n b x y = exclude b (Last P) (Ends Q limit n) x y (zero_or_some P Q limit n)

last_or_over : (P : List ℕ → Type 0) (limit n : ℕ) (b : List ℕ) → n ≤ limit → Reads (Last P) b → Reads (Over limit n) b → ⊥
last_or_over P limit n b fits x y = exclude b (Last P) (Over limit n) x y λ l rest p q. zero_or_over P limit n l rest fits p q

over_or_end : (Q : List ℕ → Type 0) (limit n : ℕ) (b : List ℕ) → Reads (Over limit n) b → Reads (Ends Q limit n) b → ⊥
over_or_end Q limit n b x y = exclude b (Over limit n) (Ends Q limit n) x y (over_or_within Q limit n)

-- what is told of the bytes behind whole chunks
data Kind : Type 0 where
  whole over bad yet : Kind

abbrev IsKind : ℕ → Kind → List Chunk → List ℕ → Type 0
IsKind limit whole cs b = IsLast b
IsKind limit over cs b = IsOver limit cs b
IsKind limit bad cs b = IsBadRest limit cs b
IsKind limit yet cs b = IsOpenRest limit cs b

last_over : (limit : ℕ) (cs : List Chunk) (b : List ℕ) → length (content_of cs) ≤ limit → IsLast b → IsOver limit cs b → ⊥
last_over limit cs b fits x y = last_or_over IsWholeSection limit (length (content_of cs)) b fits (last_reads b x) (over_reads limit cs b y)

last_bad : (limit : ℕ) (cs : List Chunk) (b : List ℕ) → IsLast b → IsBadRest limit cs b → ⊥
last_bad limit cs b x (inl line) = none_reads b (Last IsWholeSection) (bad_line_reads b line) (last_reads b x)
last_bad limit cs b x (inr (inl end)) = last_or_end IsWholeSection EndsWrong limit (length (content_of cs)) b (last_reads b x) (bad_end_reads limit cs b end)
last_bad limit cs b x (inr (inr trailer)) = both_last IsWholeSection IsBadSection b whole_section (last_reads b x) (bad_trailer_reads b trailer)

last_open : (limit : ℕ) (cs : List Chunk) (b : List ℕ) → IsLast b → IsOpenRest limit cs b → ⊥
last_open limit cs b x (inl line) = none_reads b (Last IsWholeSection) (open_line_reads b line) (last_reads b x)
last_open limit cs b x (inr (inl chunk)) = last_or_end IsWholeSection BeginsEnd limit (length (content_of cs)) b (last_reads b x) (open_chunk_reads limit cs b chunk)
last_open limit cs b x (inr (inr trailer)) = both_last IsWholeSection IsOpenSection b whole_or_open (last_reads b x) (open_trailer_reads b trailer)

over_bad : (limit : ℕ) (cs : List Chunk) (b : List ℕ) → length (content_of cs) ≤ limit → IsOver limit cs b → IsBadRest limit cs b → ⊥
over_bad limit cs b fits x (inl line) = none_reads b (Over limit (length (content_of cs))) (bad_line_reads b line) (over_reads limit cs b x)
over_bad limit cs b fits x (inr (inl end)) = over_or_end EndsWrong limit (length (content_of cs)) b (over_reads limit cs b x) (bad_end_reads limit cs b end)
over_bad limit cs b fits x (inr (inr trailer)) = last_or_over IsBadSection limit (length (content_of cs)) b fits (bad_trailer_reads b trailer) (over_reads limit cs b x)

over_open : (limit : ℕ) (cs : List Chunk) (b : List ℕ) → length (content_of cs) ≤ limit → IsOver limit cs b → IsOpenRest limit cs b → ⊥
over_open limit cs b fits x (inl line) = none_reads b (Over limit (length (content_of cs))) (open_line_reads b line) (over_reads limit cs b x)
over_open limit cs b fits x (inr (inl chunk)) = over_or_end BeginsEnd limit (length (content_of cs)) b (over_reads limit cs b x) (open_chunk_reads limit cs b chunk)
over_open limit cs b fits x (inr (inr trailer)) = last_or_over IsOpenSection limit (length (content_of cs)) b fits (open_trailer_reads b trailer) (over_reads limit cs b x)

bad_or_open_line : (b : List ℕ) → IsBadLine b → IsOpenLine b → ⊥
bad_or_open_line b (inl never) x = never_or_may_line b never x.possible
bad_or_open_line b (inr long) x = let big = long.heard in let small = x.short in omega arith

bad_open : (limit : ℕ) (cs : List Chunk) (b : List ℕ) → IsBadRest limit cs b → IsOpenRest limit cs b → ⊥
bad_open limit cs b (inl line) (inl begun) = bad_or_open_line b line begun
bad_open limit cs b (inl line) (inr (inl chunk)) = none_reads b (Ends BeginsEnd limit (length (content_of cs))) (bad_line_reads b line) (open_chunk_reads limit cs b chunk)
bad_open limit cs b (inl line) (inr (inr trailer)) = none_reads b (Last IsOpenSection) (bad_line_reads b line) (open_trailer_reads b trailer)
bad_open limit cs b (inr (inl end)) (inl begun) = none_reads b (Ends EndsWrong limit (length (content_of cs))) (open_line_reads b begun) (bad_end_reads limit cs b end)
bad_open limit cs b (inr (inl end)) (inr (inl chunk)) =
    both_end EndsWrong BeginsEnd limit (length (content_of cs)) b wrong_or_begun (bad_end_reads limit cs b end) (open_chunk_reads limit cs b chunk)
bad_open limit cs b (inr (inl end)) (inr (inr trailer)) =
    last_or_end IsOpenSection EndsWrong limit (length (content_of cs)) b (open_trailer_reads b trailer) (bad_end_reads limit cs b end)
bad_open limit cs b (inr (inr last)) (inl begun) = none_reads b (Last IsBadSection) (open_line_reads b begun) (bad_trailer_reads b last)
bad_open limit cs b (inr (inr last)) (inr (inl chunk)) =
    last_or_end IsBadSection BeginsEnd limit (length (content_of cs)) b (bad_trailer_reads b last) (open_chunk_reads limit cs b chunk)
bad_open limit cs b (inr (inr last)) (inr (inr trailer)) = both_last IsBadSection IsOpenSection b bad_or_open (bad_trailer_reads b last) (open_trailer_reads b trailer)

-- behind them stands no whole chunk
stops : (limit : ℕ) (k : Kind) (cs : List Chunk) (b : List ℕ) → length (content_of cs) ≤ limit → IsKind limit k cs b → IsNext limit cs b → ⊥
stops limit whole cs b fits x next = last_or_end IsWholeSection IsWholeEnd limit (length (content_of cs)) b (last_reads b x) next
stops limit over cs b fits x next = over_or_end IsWholeEnd limit (length (content_of cs)) b (over_reads limit cs b x) next
stops limit bad cs b fits (inl line) next = none_reads b (Ends IsWholeEnd limit (length (content_of cs))) (bad_line_reads b line) next
stops limit bad cs b fits (inr (inl end)) next = both_end EndsWrong IsWholeEnd limit (length (content_of cs)) b wrong_or_whole (bad_end_reads limit cs b end) next
stops limit bad cs b fits (inr (inr trailer)) next = last_or_end IsBadSection IsWholeEnd limit (length (content_of cs)) b (bad_trailer_reads b trailer) next
stops limit yet cs b fits (inl line) next = none_reads b (Ends IsWholeEnd limit (length (content_of cs))) (open_line_reads b line) next
stops limit yet cs b fits (inr (inl chunk)) next = both_end BeginsEnd IsWholeEnd limit (length (content_of cs)) b begun_or_whole (open_chunk_reads limit cs b chunk) next
stops limit yet cs b fits (inr (inr trailer)) next = last_or_end IsOpenSection IsWholeEnd limit (length (content_of cs)) b (open_trailer_reads b trailer) next

one_kind : (limit : ℕ) (k j : Kind) (cs : List Chunk) (b : List ℕ) → length (content_of cs) ≤ limit → IsKind limit k cs b → IsKind limit j cs b → k ≡ j
one_kind limit whole whole cs b fits x y = refl
one_kind limit whole over cs b fits x y = absurd (last_over limit cs b fits x y)
one_kind limit whole bad cs b fits x y = absurd (last_bad limit cs b x y)
one_kind limit whole yet cs b fits x y = absurd (last_open limit cs b x y)
one_kind limit over whole cs b fits x y = absurd (last_over limit cs b fits y x)
one_kind limit over over cs b fits x y = refl
one_kind limit over bad cs b fits x y = absurd (over_bad limit cs b fits x y)
one_kind limit over yet cs b fits x y = absurd (over_open limit cs b fits x y)
one_kind limit bad whole cs b fits x y = absurd (last_bad limit cs b y x)
one_kind limit bad over cs b fits x y = absurd (over_bad limit cs b fits y x)
one_kind limit bad bad cs b fits x y = refl
one_kind limit bad yet cs b fits x y = absurd (bad_open limit cs b x y)
one_kind limit yet whole cs b fits x y = absurd (last_open limit cs b y x)
one_kind limit yet over cs b fits x y = absurd (over_open limit cs b fits y x)
one_kind limit yet bad cs b fits x y = absurd (bad_open limit cs b y x)
one_kind limit yet yet cs b fits x y = refl

-- ## The whole body
next_stands : (limit : ℕ) (b : List ℕ) (cs ds : List Chunk) (rest other : List ℕ) → HasChunks limit b ds other → GoesOn IsChunk print_chunk cs ds rest → IsNext limit cs rest
next_stands limit b cs ds rest other has on =
    let c = on.next in
    let is = on.next_is in
    let content = ap content_of on.all ∙ flat_map-append (λ (d : Chunk). d.content) cs (c ∷ on.more) in
    let size = ap length content ∙ length-append (content_of cs) (c.content ++ content_of on.more) in
    let sum = length-append c.content (content_of on.more) in
    let fits = has.within in
    let same = is.content in (
      c.line,
      c.content ++ 13 ∷ 10 ∷ on.behind,
      (subst (λ (s : List ℕ). ReadsChunkLine s c.line (c.content ++ 13 ∷ 10 ∷ on.behind)) (sym on.bytes) (content_reads c on.behind is), is.short),
      (is.size, omega arith, (on.behind, drop_at c.content (13 ∷ 10 ∷ on.behind) (chunk_size c.line) is.content)),
    )

same_chunks : (limit : ℕ) (b : List ℕ) (k j : Kind) (cs ds : List Chunk) (rest other : List ℕ) → HasChunks limit b cs rest → HasChunks limit b ds other
    → IsKind limit k cs rest → IsKind limit j ds other → Compares IsChunk print_chunk cs ds rest other → (cs ≡ ds) × (rest ≡ other)
same_chunks limit b k j cs ds rest other x y p q (inl same) = same
same_chunks limit b k j cs ds rest other x y p q (inr (inl on)) = absurd (stops limit k cs rest x.within p (next_stands limit b cs ds rest other y on))
same_chunks limit b k j cs ds rest other x y p q (inr (inr on)) = absurd (stops limit j ds other y.within q (next_stands limit b ds cs other rest x on))

abbrev state_of : Close → Kind → List Chunk → BodyState
state_of close whole cs = Complete (content_of cs)
state_of close over cs = Oversize
state_of close bad cs = Malformed
state_of close yet cs = unless_closed close

record IsTold (limit : ℕ) (close : Close) (b : List ℕ) (s : BodyState) : Type 0 where
  kind : Kind
  chunks : List Chunk
  rest : List ℕ
  has : HasChunks limit b chunks rest
  kind_is : IsKind limit kind chunks rest
  state_is : s ≡ state_of close kind chunks

one_told : (limit : ℕ) (close : Close) (b : List ℕ) (s t : BodyState) → IsTold limit close b s → IsTold limit close b t → s ≡ t
one_told limit close b s t x y =
    let ways = compare IsChunk print_chunk one_chunk x.chunks y.chunks x.rest y.rest x.has.chunks y.has.chunks (sym x.has.bytes ∙ y.has.bytes) in
    let same = same_chunks limit b x.kind y.kind x.chunks y.chunks x.rest y.rest x.has y.has x.kind_is y.kind_is ways in
    let there = subst (λ (cs : List Chunk). IsKind limit x.kind cs y.rest) same.0 (subst (λ (r : List ℕ). IsKind limit x.kind x.chunks r) same.1 x.kind_is) in
    let kind = one_kind limit x.kind y.kind y.chunks y.rest y.has.within there y.kind_is in
    x.state_is ∙ ap₂ (state_of close) kind same.0 ∙ sym y.state_is

closed_state : (close : Close) → close ≢ Open → Malformed ≡ unless_closed close
closed_state Open not = absurd (not refl)
closed_state Ended not = refl
closed_state Broke not = refl

told : (limit : ℕ) (close : Close) (b : List ℕ) (s : BodyState) → IsChunkedBody limit close b s → IsTold limit close b s
told limit close b (Complete body) (cs, rest, has, last, is) =
    record { kind = whole; chunks = cs; rest = rest; has = has; kind_is = last; state_is = ap Complete is }
told limit close b Oversize (cs, rest, has, x) = record { kind = over; chunks = cs; rest = rest; has = has; kind_is = x; state_is = refl }
told limit close b Malformed (inl (cs, rest, has, x)) = record { kind = bad; chunks = cs; rest = rest; has = has; kind_is = x; state_is = refl }
told limit close b Malformed (inr (not, (cs, rest, has, x))) =
    record { kind = yet; chunks = cs; rest = rest; has = has; kind_is = x; state_is = closed_state close not }
told limit close b Waiting (open_is, (cs, rest, has, x)) =
    record { kind = yet; chunks = cs; rest = rest; has = has; kind_is = x; state_is = ap unless_closed (sym open_is) }

pub one_body : (limit : ℕ) (close : Close) (b : List ℕ) (s t : BodyState) → IsChunkedBody limit close b s → IsChunkedBody limit close b t → s ≡ t
one_body limit close b s t x y = one_told limit close b s t (told limit close b s x) (told limit close b t y)
