-- Pieces of a body in chunks.
use Rattle.std.proofs.Common.{◌≡◌, ℕ, ◌+◌, ◌-◌, ◌≤◌, List, [], ◌++◌, length, take, drop, refl, sym, ap, ◌∙◌, subst, arith, ◌⊎◌, inl, inr, append_assoc, length-append, length-drop, length-take, take-append-drop}
use Rattle.std.proofs.lemmas.List.{drop-append-le, drop-drop, drop-take, take-append-le, take-take, take_all, take_min}
use Rattle.httparse.specs.Grammar.{ReadsChunkLine}
use Rattle.httparse.proofs.ChunkLemmas.{ReadsChunkLine-append}
use Rattle.wf_value.specs.HttpBody.{BodyState, Complete, Malformed, Oversize}
use Rattle.wf_http_body.specs.declared.body.End.{End}
use Rattle.wf_http_body.specs.declared.body.End.TheVariants as end
use Rattle.wf_http_body.specs.declared.chunk.Place.{Place}
use Rattle.wf_http_body.specs.declared.chunk.Place.TheVariants as place
use Rattle.wf_http_body.specs.Chunks.{IsChunkedBody}
use Rattle.wf_http_body.specs.Parts.{IsPart, IsOpenPart, IsRead, Stays}
use Rattle.wf_http_body.proofs.Lasting.{chunks_stay}

-- what is heard behind is still to be read
pub part_grows : (p : Place) (limit : ℕ) (all unread content piece : List ℕ) → IsPart limit p all unread content → IsPart limit p (all ++ piece) (unread ++ piece) content
part_grows place.Line limit all unread content piece at = record { chunks = at.chunks; has = chunks_stay limit all piece unread at.chunks at.has; content_is = at.content_is }
part_grows (place.Content left) limit all unread content piece at = record {
  chunks = at.chunks;
  rest = at.rest ++ piece;
  line = at.line;
  part = at.part;
  has = chunks_stay limit all piece at.rest at.chunks at.has;
  reads = (
    subst (λ (s : List ℕ). ReadsChunkLine (at.rest ++ piece) at.line s) (append_assoc at.part unread piece)
        (ReadsChunkLine-append at.rest at.line (at.part ++ unread) piece at.reads.0),
    at.reads.1,
  );
  some = at.some;
  size = at.size;
  content_is = at.content_is;
  within = at.within;
}
part_grows place.Trailer limit all unread content piece at = record {
  chunks = at.chunks;
  rest = at.rest ++ piece;
  line = at.line;
  has = chunks_stay limit all piece at.rest at.chunks at.has;
  reads = (ReadsChunkLine-append at.rest at.line unread piece at.reads.0, at.reads.1);
  size = at.size;
  content_is = at.content_is;
}

stays_more : (limit : ℕ) (all piece : List ℕ) (s : BodyState) → Stays limit all s → Stays limit (all ++ piece) s
stays_more limit all piece s stays more close = subst (λ (b : List ℕ). IsChunkedBody limit close b s) (sym (append_assoc all piece more)) (stays (piece ++ more) close)

-- what is settled stays so
pub settled_more : (e : End) (p next : Place) (limit : ℕ) (all piece unread left content : List ℕ) → (e ≡ end.More → ⊥) → IsRead limit p all unread content e
    → IsRead limit next (all ++ piece) left content e
settled_more end.More p next limit all piece unread left content other read = absurd (other refl)
settled_more end.Whole p next limit all piece unread left content other read = stays_more limit all piece (Complete content) read
settled_more end.Bad p next limit all piece unread left content other read = stays_more limit all piece Malformed read
settled_more end.TooLarge p next limit all piece unread left content other read = stays_more limit all piece Oversize read

-- settled, or not
pub is_settled : (e : End) → ((e ≡ end.Whole) ⊎ ((e ≡ end.Bad) ⊎ (e ≡ end.TooLarge))) → e ≡ end.More → ⊥
is_settled e (inl is) more = absurd (cc (is, more))
is_settled e (inr (inl is)) more = absurd (cc (is, more))
is_settled e (inr (inr is)) more = absurd (cc (is, more))

-- ## Fronts of a piece
pub take_further : (n m : ℕ) (piece : List ℕ) → take (n + m) piece ≡ take n piece ++ take m (drop n piece)
take_further n m piece =
    sym (take-append-drop n (take (n + m) piece)) ∙ ap (λ (s : List ℕ). s ++ drop n (take (n + m) piece)) (take-take n (n + m) piece (omega arith))
    ∙ ap (λ (s : List ℕ). take n piece ++ s) (drop-take n m piece)

-- a front is as long as it is
pub own_front : (front rest piece : List ℕ) (k heard : ℕ) → front ≡ take k rest → rest ≡ drop heard piece → front ≡ take (length front) (drop heard piece)
own_front front rest piece k heard is begins =
    let size = ap length is ∙ length-take k rest in
    is ∙ sym (take_min k rest) ∙ ap (λ (n : ℕ). take n rest) (sym size) ∙ ap (take (length front)) begins

pub front_within : (front rest piece : List ℕ) (k heard : ℕ) → front ≡ take k rest → rest ≡ drop heard piece → heard ≤ length piece → heard + length front ≤ length piece
front_within front rest piece k heard is begins le =
    let size = ap length is ∙ length-take k rest in
    let left = ap length begins ∙ length-drop heard piece in
    omega arith

pub read_within : (unread front joined begun : List ℕ) (used more : ℕ) → used ≤ length unread → joined ≡ unread ++ front → begun ≡ drop used joined → more ≤ length begun
    → used + more ≤ length joined
read_within unread front joined begun used more le joins begins within =
    let size = ap length begins ∙ length-drop used joined in
    let sum = ap length joins ∙ length-append unread front in
    omega arith

-- what `read_parts` says
abbrev pub Reads : ℕ → Place → (heard content : List ℕ) → Place → ℕ → (new : List ℕ) → End → Type 0
Reads limit p heard content next used new e = (all : List ℕ) → IsPart limit p all heard content → IsRead limit next all (drop used heard) new e

-- a front of the piece is read behind the unread bytes
pub front_read : (limit : ℕ) (p next : Place) (all unread content piece rest front joined begun new : List ℕ) (used heard more k : ℕ) (e : End)
    → IsOpenPart limit p (all ++ take heard piece) (drop used unread) content → used ≤ length unread → front ≡ take k rest → rest ≡ drop heard piece
    → joined ≡ unread ++ front → begun ≡ drop used joined → Reads limit p begun content next more new e
    → IsRead limit next (all ++ take (heard + length front) piece) (drop (used + more) joined) new e
front_read limit p next all unread content piece rest front joined begun new used heard more k e at le is stands joins opens reads =
    let grown = part_grows p limit (all ++ take heard piece) (drop used unread) content front at.0 in
    let begun_is : begun ≡ drop used unread ++ front = opens ∙ ap (drop used) joins ∙ drop-append-le used unread front le in
    let read = reads ((all ++ take heard piece) ++ front) (subst (λ (s : List ℕ). IsPart limit p ((all ++ take heard piece) ++ front) s content) (sym begun_is) grown) in
    let all_is : (all ++ take heard piece) ++ front ≡ all ++ take (heard + length front) piece =
    append_assoc all (take heard piece) front ∙ ap (λ (s : List ℕ). all ++ s) (ap (λ (s : List ℕ). take heard piece ++ s) (own_front front rest piece k heard is stands) ∙ sym (take_further heard (length front) piece)) in
    let left_is : drop more begun ≡ drop (used + more) joined = ap (drop more) opens ∙ drop-drop more used joined in
    subst (λ (s : List ℕ). IsRead limit next s (drop (used + more) joined) new e) all_is
    (subst (λ (s : List ℕ). IsRead limit next ((all ++ take heard piece) ++ front) s new e) left_is read)

-- ## The rest of a piece
-- the rest is read where it stands
pub rest_read : (limit : ℕ) (p next : Place) (all unread content piece rest behind joined new : List ℕ) (used heard more : ℕ) (e : End)
    → IsOpenPart limit p (all ++ take heard piece) (drop used unread) content → used ≤ length unread → drop used unread ≡ [] → rest ≡ drop heard piece
    → behind ≡ drop more rest → joined ≡ unread ++ behind → Reads limit p rest content next more new e
    → IsRead limit next (all ++ piece) (drop used joined) new e
rest_read limit p next all unread content piece rest behind joined new used heard more e at le none is leaves joins reads =
    let grown = part_grows p limit (all ++ take heard piece) (drop used unread) content rest at.0 in
    let read = reads ((all ++ take heard piece) ++ rest) (subst (λ (s : List ℕ). IsPart limit p ((all ++ take heard piece) ++ rest) (s ++ rest) content) none grown) in
    let all_is : (all ++ take heard piece) ++ rest ≡ all ++ piece =
    append_assoc all (take heard piece) rest ∙ ap (λ (s : List ℕ). all ++ s) (ap (λ (s : List ℕ). take heard piece ++ s) is ∙ take-append-drop heard piece) in
    let left_is : drop more rest ≡ drop used joined =
    sym leaves ∙ sym (ap (drop used) joins ∙ drop-append-le used unread behind le ∙ ap (λ (s : List ℕ). s ++ behind) none) in
    subst (λ (s : List ℕ). IsRead limit next s (drop used joined) new e) all_is
    (subst (λ (s : List ℕ). IsRead limit next ((all ++ take heard piece) ++ rest) s new e) left_is read)

-- nothing more of the piece is there
pub all_heard : (limit : ℕ) (p : Place) (all unread content piece : List ℕ) (heard : ℕ) (e : End) → length piece ≤ heard
    → IsRead limit p (all ++ take heard piece) unread content e → IsRead limit p (all ++ piece) unread content e
all_heard limit p all unread content piece heard e le read = subst (λ (s : List ℕ). IsRead limit p (all ++ s) unread content e) (take_all heard piece le) read

-- the body is settled before the piece ends
pub settled_before : (limit : ℕ) (p : Place) (all unread content piece : List ℕ) (heard : ℕ) (e : End) → ((e ≡ end.Whole) ⊎ ((e ≡ end.Bad) ⊎ (e ≡ end.TooLarge)))
    → IsRead limit p (all ++ take heard piece) unread content e → IsRead limit p (all ++ piece) unread content e
settled_before limit p all unread content piece heard e done read =
    let all_is : (all ++ take heard piece) ++ drop heard piece ≡ all ++ piece = append_assoc all (take heard piece) (drop heard piece) ∙ ap (λ (s : List ℕ). all ++ s) (take-append-drop heard piece) in
    subst (λ (s : List ℕ). IsRead limit p s unread content e) all_is (settled_more e p p limit (all ++ take heard piece) (drop heard piece) unread unread content (is_settled e done) read)

-- ## Growth
pub grown_more : (old content x new : List ℕ) → take (length old) content ≡ old → new ≡ content ++ x → take (length old) new ≡ old
grown_more old content x new grown is =
    let size = ap length grown in
    let short = length-take (length old) content in
    ap (take (length old)) is ∙ take-append-le (length old) content x (omega arith) ∙ grown

-- a list that keeps the front that was there keeps what was its front before
pub grown_twice : (old content new : List ℕ) → take (length old) content ≡ old → take (length content) new ≡ content → take (length old) new ≡ old
grown_twice old content new grown again =
    let size = ap length grown in
    let short = length-take (length old) content in
    sym (take-take (length old) (length content) new (omega arith)) ∙ ap (take (length old)) again ∙ grown
