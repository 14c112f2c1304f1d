-- Bodies in chunks of which nothing was heard, and those that aren't whole.
use Rattle.std.proofs.Common.{◌≡◌, ℕ, ◌+◌, min, List, [], ◌∷◌, ◌++◌, length, drop, refl, sym, ap, ◌∙◌, subst, arith, inl, inr, append-nil, length-append}
use Rattle.std.specs.Prelude.{None, codes}
use Rattle.std.specs.Char.{is_ascii_hexdigit}
use Rattle.std.proofs.lemmas.List.{drop_at, drop_all}
use Rattle.std.proofs.lemmas.List.Elements.{All-nil}
use Rattle.std.proofs.lemmas.List.Sums.{AllPass-from_list_all}
use Rattle.httparse.specs.Grammar.{ChunkLine, IsChunkLine, print_chunk_line, chunk_size, HasNoChunkLine, MayBecomeChunkLine}
use Rattle.wf_value.specs.HttpBody.{IsChunk, content_of}
use Rattle.wf_http_body.specs.declared.body.Chunks.{Chunks}
use Rattle.wf_http_body.specs.declared.chunk.Place.{Place}
use Rattle.wf_http_body.specs.declared.chunk.Place.TheVariants as place
use Rattle.wf_http_body.specs.Chunks.{BeginsEnd, IsOpenChunked, IsOpenChunk}
use Rattle.wf_http_body.specs.Parts.{IsInChunk, IsPart, IsOpenAt, IsOpenContent, IsOpenPart, IsFresh, IsOpenBody}
use Rattle.wf_http_body.proofs.Chunking.{line_some}

-- ## Nothing was heard
nothing_is_no_line : HasNoChunkLine []
nothing_is_no_line l rest x =
    let some = line_some l x.0 in
    let size : 0 ≡ length (print_chunk_line l ++ rest) = ap length x.1 in
    omega (arith, length-append (print_chunk_line l) rest)

zero_line : ChunkLine
zero_line = record { digits = codes "0"; pad = []; extension = None }

zero_is_line : IsChunkLine zero_line
unfolding zero_line
zero_is_line = record {
  digits = (omega arith, omega arith, AllPass-from_list_all is_ascii_hexdigit (codes "0") refl);
  pad = All-nil _;
  extension = tt;
}

may_begin : MayBecomeChunkLine []
may_begin = (print_chunk_line zero_line, zero_line, (zero_is_line, sym (append-nil (print_chunk_line zero_line))))

fresh_part : (limit : ℕ) → IsOpenPart limit place.Line [] [] []
fresh_part limit = (
  record { chunks = []; has = record { chunks = All-nil IsChunk; bytes = refl; within = omega arith }; content_is = refl },
  record { none = nothing_is_no_line; possible = may_begin; short = omega arith },
)

pub fresh_body : (limit : ℕ) (c : Chunks) (content : List ℕ) → IsFresh c → content ≡ [] → IsOpenBody limit c [] content
fresh_body limit c content fresh none =
    subst (λ (s : List ℕ). IsOpenPart limit c.place [] c.unread.items s) (sym none)
    (subst (λ (s : List ℕ). IsOpenPart limit c.place [] s []) (sym fresh.unread_is) (subst (λ (p : Place). IsOpenPart limit p [] [] []) (sym fresh.place_is) (fresh_part limit)))

-- ## Not yet whole
left_open : (part unread : List ℕ) (left size : ℕ) → length part + left ≡ size → IsOpenContent left unread
    → BeginsEnd (drop size (part ++ unread)) × (length part + left ≡ min size (length (part ++ unread)) + left)
left_open part unread left size is (inl (some, none)) = (
  rw (none, append-nil part, drop_all size part (omega arith)) (13 ∷ 10 ∷ [], omega arith, refl),
  rw (none, append-nil part) (omega arith),
)
left_open part unread left size is (inr (none, begins)) = (
  subst BeginsEnd (sym (drop_at part unread size (omega arith))) begins,
  (let sum = length-append part unread in omega arith),
)

open_chunk : (limit : ℕ) (all unread content : List ℕ) (left : ℕ) (at : IsInChunk limit all unread content left) → IsOpenContent left unread
    → IsOpenChunk limit at.chunks at.rest
open_chunk limit all unread content left at yet =
    let begun = left_open at.part unread left (chunk_size at.line) at.size yet in
    let size = ap length at.content_is ∙ length-append (content_of at.chunks) at.part in
    let fits = at.within in
    record {
      line = at.line;
      content = at.part ++ unread;
      reads = at.reads;
      size = at.some;
      within = (let same = begun.1 in omega arith);
      end = begun.0;
    }

open_part : (p : Place) (limit : ℕ) (all unread content : List ℕ) → IsPart limit p all unread content → IsOpenAt p unread → IsOpenChunked limit all
open_part place.Line limit all unread content at yet = (at.chunks, unread, at.has, inl yet)
open_part (place.Content left) limit all unread content at yet = (at.chunks, at.rest, at.has, inr (inl (open_chunk limit all unread content left at yet)))
open_part place.Trailer limit all unread content at yet = (
  at.chunks,
  at.rest,
  at.has,
  inr (inr (record {
    line = at.line;
    section = unread;
    reads = at.reads;
    size = at.size;
    none = yet.none;
    possible = yet.possible;
    short = yet.short;
  })),
)

pub open_body : (limit : ℕ) (c : Chunks) (all content : List ℕ) → IsOpenBody limit c all content → IsOpenChunked limit all
open_body limit c all content x = open_part c.place limit all c.unread.items content x.0 x.1
