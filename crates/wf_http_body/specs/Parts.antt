-- How far a body in chunks was read.
--     IsOpenPart    the content so far, and what is kept of a line, a line end or trailer fields that aren't whole
--     IsRead        what comes of it
use Rattle.std.specs.Prelude.{◌≡◌, ℕ, ◌+◌, ◌<◌, ◌≤◌, ◌⊎◌, List, [], ◌++◌, length}
use Rattle.httparse.specs.Grammar.{ChunkLine, chunk_size, HasNoSection, MayBecomeSection}
use Rattle.wf_value.specs.HttpBody.{Close, BodyState, Complete, Malformed, Oversize, Chunk, HasChunks, ReadsLine, content_of, trailer_limit}
use Rattle.wf_http_body.specs.declared.body.Chunks.{Chunks}
use Rattle.wf_http_body.specs.declared.body.End.{End}
use Rattle.wf_http_body.specs.declared.body.End.TheVariants as end
use Rattle.wf_http_body.specs.declared.chunk.Place.{Place}
use Rattle.wf_http_body.specs.declared.chunk.Place.TheVariants as place
use Rattle.wf_http_body.specs.Chunks.{BeginsEnd, IsOpenLine, IsChunkedBody}

-- ## Places
-- behind whole chunks
pub record IsAtLine (limit : ℕ) (all unread content : List ℕ) : Type 0 where
  pub chunks : List Chunk
  pub has : HasChunks limit all chunks unread
  pub content_is : content ≡ content_of chunks

-- behind whole chunks, a chunk's line and this part of its content, of which so many bytes are left
pub record IsInChunk (limit : ℕ) (all unread content : List ℕ) (left : ℕ) : Type 0 where
  pub chunks : List Chunk
  pub rest : List ℕ
  pub line : ChunkLine
  pub part : List ℕ
  pub has : HasChunks limit all chunks rest
  pub reads : ReadsLine rest line (part ++ unread)
  pub some : 0 < chunk_size line
  pub size : length part + left ≡ chunk_size line
  pub content_is : content ≡ content_of chunks ++ part
  pub within : length content ≤ limit

-- behind the last chunk's line
pub record IsAtTrailer (limit : ℕ) (all unread content : List ℕ) : Type 0 where
  pub chunks : List Chunk
  pub rest : List ℕ
  pub line : ChunkLine
  pub has : HasChunks limit all chunks rest
  pub reads : ReadsLine rest line unread
  pub size : chunk_size line ≡ 0
  pub content_is : content ≡ content_of chunks

-- a place, and the bytes that are to be read there
abbrev pub IsPart : ℕ → Place → (all unread content : List ℕ) → Type 0
IsPart limit place.Line all unread content = IsAtLine limit all unread content
IsPart limit (place.Content left) all unread content = IsInChunk limit all unread content left
IsPart limit place.Trailer all unread content = IsAtTrailer limit all unread content

-- ## What is kept
-- content isn't, and of the CR LF behind it at most the CR
abbrev pub IsOpenContent : ℕ → List ℕ → Type 0
IsOpenContent left unread = ((0 < left) × (unread ≡ [])) ⊎ ((left ≡ 0) × BeginsEnd unread)

pub record IsOpenSection (s : List ℕ) : Type 0 where
  pub none : HasNoSection s
  pub possible : MayBecomeSection s
  pub short : length s ≤ trailer_limit

-- what is to be read isn't whole
abbrev pub IsOpenAt : Place → List ℕ → Type 0
IsOpenAt place.Line unread = IsOpenLine unread
IsOpenAt (place.Content left) unread = IsOpenContent left unread
IsOpenAt place.Trailer unread = IsOpenSection unread

abbrev pub IsOpenPart : ℕ → Place → (all unread content : List ℕ) → Type 0
IsOpenPart limit p all unread content = IsPart limit p all unread content × IsOpenAt p unread

-- ## What comes of it
-- whatever is heard behind these bytes
abbrev pub Stays : ℕ → List ℕ → BodyState → Type 0
Stays limit all s = (more : List ℕ) (close : Close) → IsChunkedBody limit close (all ++ more) s

abbrev pub IsRead : ℕ → Place → (all unread content : List ℕ) → End → Type 0
IsRead limit p all unread content end.More = IsOpenPart limit p all unread content
IsRead limit p all unread content end.Whole = Stays limit all (Complete content)
IsRead limit p all unread content end.Bad = Stays limit all Malformed
IsRead limit p all unread content end.TooLarge = Stays limit all Oversize

-- ## Bodies
-- nothing was read
pub record IsFresh (c : Chunks) : Type 0 where
  pub place_is : c.place ≡ place.Line
  pub unread_is : c.unread.items ≡ []

-- all bytes heard of a body that isn't whole, and its content so far
abbrev pub IsOpenBody : ℕ → Chunks → (all content : List ℕ) → Type 0
IsOpenBody limit c all content = IsOpenPart limit c.place all c.unread.items content

-- the same, but for what is kept of memory
pub record IsSame (old new : Chunks) : Type 0 where
  pub place_is : new.place ≡ old.place
  pub unread_is : new.unread.items ≡ old.unread.items

-- these bytes were heard, and this comes of the body
abbrev pub ReadsBody : ℕ → Chunks → (all content : List ℕ) → End → Type 0
ReadsBody limit c all content e = IsRead limit c.place all c.unread.items content e
