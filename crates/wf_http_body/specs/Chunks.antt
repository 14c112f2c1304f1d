-- A body in chunks, of all bytes heard of it (RFC 9112, section 7.1), under a limit on its bytes.
--     IsChunkedBody      whole, not yet whole, malformed or too large: whole chunks, and then what is told of the rest
-- Each state but `Waiting` stands, whatever is heard behind it. Whole chunks, the last one and content that is too large are those of
-- wf_value.
use Rattle.std.specs.Prelude.{◌≡◌, ℕ, ◌+◌, ◌<◌, ◌≤◌, min, ◌≢◌, ◌⊎◌, List, ◌∷◌, [], ◌++◌, length, drop}
use Rattle.httparse.specs.Grammar.{Field, LineEnd, print_section, ReadsSection, ChunkLine, chunk_size, print_chunk_line, ReadsChunkLine, NeverHasChunkLine, HasNoChunkLine, MayBecomeChunkLine, NeverHasSection, HasNoSection, MayBecomeSection}
use Rattle.wf_value.specs.HttpBody.{Close, Open, BodyState, Complete, Waiting, Malformed, Oversize, Chunk, HasChunks, ReadsLine, content_of, IsWholeChunked, IsOverChunked, IsBadEnd, line_limit, trailer_limit, field_limit}

-- ## Malformed
-- each chunk line that can still come is too long
pub record IsLongLine (b : List ℕ) : Type 0 where
  pub heard : line_limit < length b
  pub lines : (l : ChunkLine) (rest : List ℕ) → ReadsChunkLine b l rest → line_limit < length (print_chunk_line l)

abbrev pub IsBadLine : List ℕ → Type 0
IsBadLine b = NeverHasChunkLine b ⊎ IsLongLine b

-- all trailer fields that can still come are too long
pub record IsLongSection (s : List ℕ) : Type 0 where
  pub heard : trailer_limit < length s
  pub sections : (fields : List Field) (end : LineEnd) (rest : List ℕ) → ReadsSection s fields end rest
      → trailer_limit < length (print_section fields end)

abbrev pub IsCrowdedSection : List ℕ → Type 0
IsCrowdedSection s = (fields : List Field) × (end : LineEnd) × (rest : List ℕ) × ReadsSection s fields end rest × (field_limit < length fields)

abbrev pub IsBadSection : List ℕ → Type 0
IsBadSection s = NeverHasSection s ⊎ (IsLongSection s ⊎ IsCrowdedSection s)

pub record IsBadTrailer (b : List ℕ) : Type 0 where
  pub line : ChunkLine
  pub section : List ℕ
  pub reads : ReadsLine b line section
  pub size : chunk_size line ≡ 0
  pub bad : IsBadSection section

-- ## Not yet whole
pub record IsOpenLine (b : List ℕ) : Type 0 where
  pub none : HasNoChunkLine b
  pub possible : MayBecomeChunkLine b
  pub short : length b ≤ line_limit

-- a part of CR LF that isn't all of it
abbrev pub BeginsEnd : List ℕ → Type 0
BeginsEnd s = (more : List ℕ) × (0 < length more) × (s ++ more ≡ 13 ∷ 10 ∷ [])

-- content, or the CR LF behind it, isn't whole
pub record IsOpenChunk (limit : ℕ) (cs : List Chunk) (b : List ℕ) : Type 0 where
  pub line : ChunkLine
  pub content : List ℕ
  pub reads : ReadsLine b line content
  pub size : 0 < chunk_size line
  pub within : length (content_of cs) + min (chunk_size line) (length content) ≤ limit
  pub end : BeginsEnd (drop (chunk_size line) content)

pub record IsOpenTrailer (b : List ℕ) : Type 0 where
  pub line : ChunkLine
  pub section : List ℕ
  pub reads : ReadsLine b line section
  pub size : chunk_size line ≡ 0
  pub none : HasNoSection section
  pub possible : MayBecomeSection section
  pub short : length section ≤ trailer_limit

-- ## The states
-- behind the whole chunks cs
abbrev pub IsBadRest : ℕ → List Chunk → List ℕ → Type 0
IsBadRest limit cs b = IsBadLine b ⊎ (IsBadEnd limit cs b ⊎ IsBadTrailer b)

abbrev pub IsOpenRest : ℕ → List Chunk → List ℕ → Type 0
IsOpenRest limit cs b = IsOpenLine b ⊎ (IsOpenChunk limit cs b ⊎ IsOpenTrailer b)

abbrev pub IsBadChunked : ℕ → List ℕ → Type 0
IsBadChunked limit b = (cs : List Chunk) × (rest : List ℕ) × HasChunks limit b cs rest × IsBadRest limit cs rest

abbrev pub IsOpenChunked : ℕ → List ℕ → Type 0
IsOpenChunked limit b = (cs : List Chunk) × (rest : List ℕ) × HasChunks limit b cs rest × IsOpenRest limit cs rest

abbrev pub IsChunkedBody : ℕ → Close → List ℕ → BodyState → Type 0
IsChunkedBody limit close b (Complete body) = IsWholeChunked limit b body
IsChunkedBody limit close b Oversize = IsOverChunked limit b
IsChunkedBody limit close b Malformed = IsBadChunked limit b ⊎ ((close ≢ Open) × IsOpenChunked limit b)
IsChunkedBody limit close b Waiting = (close ≡ Open) × IsOpenChunked limit b

-- the same bytes come to one state
abbrev pub HasOneState : Type 0
HasOneState = (limit : ℕ) (close : Close) (b : List ℕ) (s t : BodyState) → IsChunkedBody limit close b s → IsChunkedBody limit close b t → s ≡ t
