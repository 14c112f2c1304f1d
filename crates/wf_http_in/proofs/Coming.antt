-- From what was read to the answer.
use Rattle.std.proofs.Common.{◌≡◌, ℕ, ◌+◌, ◌-◌, ◌<◌, ◌≤◌, ◌⊎◌, List, [], ◌∷◌, ◌++◌, length, take, drop, true, refl, sym, ap, ◌∙◌, subst, arith, inl, inr, append_assoc, append-nil, length-append, length-drop}
use Rattle.std.proofs.lemmas.Bool.{cases_lt, false≢true}
use Rattle.std.proofs.lemmas.List.{drop-append-le, drop-drop, take_all}
use Rattle.std.proofs.lemmas.List.Elements.{All-head, All-nil}
use Rattle.std.specs.List.{flat_map}
use Rattle.std.specs.Prelude.{IsTrue, IsFalse, ◌≢◌, Some, None}
use Rattle.wf_lemmas.proofs.Lists.{drop_past, piece_joined}
use Rattle.httparse.specs.Grammar.{ResponseHead, IsResponseHead, ReadsResponse, HasNoResponse, print_response}
use Rattle.wf_value.specs.Events.{Reply, Response, Broken, TooLong}
use Rattle.wf_value.specs.HttpBody as plain
use Rattle.wf_value.specs.HttpBody.{Close, Open, Ended, Broke, Complete, Malformed, Oversize, BodyState, unless_closed}
use Rattle.wf_http_body.specs.declared.body.Chunks.{Chunks}
use Rattle.wf_http_body.specs.declared.body.End.{End}
use Rattle.wf_http_body.specs.declared.body.End.TheVariants as end
use Rattle.wf_http_body.specs.Chunks.{IsOpenChunked, IsChunkedBody}
use Rattle.wf_http_body.specs.Parts.{IsFresh}
use Rattle.wf_http_body.proofs.Fronts.{front_of}
use Rattle.wf_http_body.proofs.Opening.{fresh_body, open_body}
use Rattle.wf_http_body.proofs.Reading.{read_within, take_further}
use Rattle.wf_http_in.specs.declared.framing.Framing.{Framing}
use Rattle.wf_http_in.specs.declared.framing.Framing.TheVariants as framing
use Rattle.wf_http_in.specs.declared.heads.Heading.{Heading}
use Rattle.wf_http_in.specs.declared.heads.Heading.TheVariants as heading
use Rattle.wf_http_in.specs.declared.stage.Stage.{Stage}
use Rattle.wf_http_in.specs.declared.stage.Stage.TheVariants as stage
use Rattle.wf_http_in.specs.AnswerOf as answer
use Rattle.wf_http_in.specs.AnswerOf.{AnswerOf, HasBody}
use Rattle.wf_http_in.specs.Bodies.{answer_limit, IsBody}
use Rattle.wf_http_in.specs.Found.{IsHeading, IsFinal, IsInterim, IsFramed, IsHeadFound, IsWholeHead, is_settled}
use Rattle.wf_http_in.specs.HeadData.{HeadData}
use Rattle.wf_http_in.specs.Heads.{IsPassed, BehindInterim, SkipsHeads, IsHeadless, IsSmallResponse, is_interim_code}
use Rattle.wf_http_in.specs.Stages.{IsPartOf, IsOpenPart, IsRead, KeepsLittle, Leaves, StaysBody, Stays, IsBehind, IsStage, settled, unfinished}
use Rattle.wf_http_in.proofs.BodyStates.{length_open}
use Rattle.wf_http_in.proofs.Lasting.{skips_stay, head_stays, again, bad_heads, further, one_more}
use Rattle.wf_http_in.proofs.Sizes.{head_some, may_begin, nothing_is_no_head}

-- ## More is heard
-- what is decided stays, whatever comes
whole_stays : (s : Stage) (r : HeadData) (unread : List ℕ) (c : Chunks) (content heard piece : List ℕ) → s ≡ stage.Whole r → IsStage s unread c content heard
    → IsStage s unread c content (heard ++ piece)
whole_stays s r unread c content heard piece is at =
    subst (λ (t : Stage). IsStage t unread c content (heard ++ piece)) (sym is)
    (again heard piece (Response r.code r.fields content) (subst (λ (t : Stage). IsStage t unread c content heard) is at))

bad_stays : (s : Stage) (unread : List ℕ) (c : Chunks) (content heard piece : List ℕ) → s ≡ stage.Bad → IsStage s unread c content heard
    → IsStage s unread c content (heard ++ piece)
bad_stays s unread c content heard piece is at =
    subst (λ (t : Stage). IsStage t unread c content (heard ++ piece)) (sym is)
    (again heard piece Broken (subst (λ (t : Stage). IsStage t unread c content heard) is at))

too_long_stays : (s : Stage) (unread : List ℕ) (c : Chunks) (content heard piece : List ℕ) → s ≡ stage.TooLong → IsStage s unread c content heard
    → IsStage s unread c content (heard ++ piece)
too_long_stays s unread c content heard piece is at =
    subst (λ (t : Stage). IsStage t unread c content (heard ++ piece)) (sym is)
    (again heard piece TooLong (subst (λ (t : Stage). IsStage t unread c content heard) is at))

pub decided_stays : (s : Stage) (unread : List ℕ) (c : Chunks) (content heard piece : List ℕ) → (((r : HeadData) × (s ≡ stage.Whole r)) ⊎ ((s ≡ stage.Bad) ⊎ (s ≡ stage.TooLong)))
    → IsStage s unread c content heard → IsStage s unread c content (heard ++ piece)
decided_stays s unread c content heard piece (inl (r, is)) at = whole_stays s r unread c content heard piece is at
decided_stays s unread c content heard piece (inr (inl is)) at = bad_stays s unread c content heard piece is at
decided_stays s unread c content heard piece (inr (inr is)) at = too_long_stays s unread c content heard piece is at

behind_grows : (heard : List ℕ) (r : HeadData) (f : Framing) (all piece : List ℕ) → IsBehind heard r f all → IsBehind (heard ++ piece) r f (all ++ piece)
behind_grows heard r f all piece x = record { head = x.head; has = head_stays heard piece x.head all x.has; taken = x.taken }

-- ## What was read
-- a body that stays makes an answer that stays
with_body : (heard : List ℕ) (r : HeadData) (f : Framing) (all : List ℕ) (s : BodyState) (x : IsBehind heard r f all) → StaysBody (answer.framing x.head) all s
    → (more : List ℕ) (close : Close) → HasBody (heard ++ more) close x.head s
with_body heard r f all s x stays more close = (all ++ more, head_stays heard more x.head all x.has, stays more close)

-- from what was read of a body to the stage
comes : (e : End) (r : HeadData) (f : Framing) (c : Chunks) (heard all unread content : List ℕ) (x : IsBehind heard r f all)
    → IsRead f (answer.framing x.head) c all content e → IsStage (settled e (stage.Body r f)) unread c content heard
comes end.More r f c heard all unread content x read = (all, x, read)
comes end.Whole r f c heard all unread content x read = λ more close.
    (x.head, with_body heard r f all (Complete content) x read more close, x.taken.head.code, x.taken.head.fields)
comes end.Bad r f c heard all unread content x read = λ more close. inl (x.head, with_body heard r f all Malformed x read more close)
comes end.TooLarge r f c heard all unread content x read = λ more close. (x.head, with_body heard r f all Oversize x read more close)

-- nothing of a body was read
nothing_read : (f : Framing) (c : Chunks) (content : List ℕ) → content ≡ [] → IsFresh c → IsPartOf f c [] content
nothing_read framing.Empty c content none fresh = none
nothing_read (framing.OfLength n) c content none fresh = (sym none, (let size = ap length none in omega arith))
nothing_read framing.TooLong c content none fresh = none
nothing_read framing.InChunks c content none fresh = fresh_body answer_limit c content fresh none
nothing_read framing.ToTheEnd c content none fresh = (sym none, (let size = ap length none in omega arith))
nothing_read framing.Bad c content none fresh = none

-- a body that isn't whole
open_is_part : (f : Framing) (c : Chunks) (all content : List ℕ) → IsOpenPart f c all content → IsPartOf f c all content
open_is_part framing.Empty c all content part = absurd part
open_is_part (framing.OfLength n) c all content part = (part.0, (let short = part.1 in omega arith))
open_is_part framing.TooLong c all content part = absurd part
open_is_part framing.InChunks c all content part = part
open_is_part framing.ToTheEnd c all content part = part
open_is_part framing.Bad c all content part = absurd part

-- what `read_body` says
abbrev pub Reads : Framing → Chunks → (content piece : List ℕ) → Chunks → (new : List ℕ) → End → Type 0
Reads f was content piece c new e = (g : plain.Framing) (all : List ℕ) → IsFramed f g → IsPartOf f was all content → IsRead f g c (all ++ piece) new e

-- what is kept is enough for the stage
is_left : (e : End) (r : HeadData) (f : Framing) (left : List ℕ) (was c : Chunks) (grown new heard : List ℕ) → Leaves e was c grown new → IsStage (settled e (stage.Body r f)) left was grown heard
    → IsStage (settled e (stage.Body r f)) left c new heard
is_left end.More r f left was c grown new heard (same, is) at =
    subst (λ (d : Chunks). IsStage (stage.Body r f) left d new heard) (sym same) (subst (λ (b : List ℕ). IsStage (stage.Body r f) left was b heard) (sym is) at)
is_left end.Whole r f left was c grown new heard is at = subst (λ (b : List ℕ). Stays heard (Response r.code r.fields b)) (sym is) at
is_left end.Bad r f left was c grown new heard leaves at = at
is_left end.TooLarge r f left was c grown new heard leaves at = at

-- the stage that the code is at
at_stage : (next : Stage) (e : End) (r : HeadData) (f : Framing) (left : List ℕ) (was c : Chunks) (grown new heard : List ℕ) → next ≡ settled e (stage.Body r f) → Leaves e was c grown new
    → IsStage (settled e (stage.Body r f)) left was grown heard → IsStage next left c new heard
at_stage next e r f left was c grown new heard goes leaves at =
    subst (λ (t : Stage). IsStage t left c new heard) (sym goes) (is_left e r f left was c grown new heard leaves at)

pub body_read : (s next : Stage) (r : HeadData) (f : Framing) (heard unread left content piece grown new : List ℕ) (was read now : Chunks) (e : End)
    → s ≡ stage.Body r f → IsStage s unread was content heard → Reads f was content piece read grown e
    → next ≡ settled e s → Leaves e read now grown new → IsStage next left now new (heard ++ piece)
unfolding behind_grows
body_read s next r f heard unread left content piece grown new was read now e is at reads goes leaves =
    let body = subst (λ (t : Stage). IsStage t unread was content heard) is at in
    let behind = body.1 in
    let told = reads (answer.framing behind.head) body.0 behind.taken.framed (open_is_part f was body.0 content body.2) in
    at_stage next e r f left read now grown new (heard ++ piece) (goes ∙ ap (settled e) is) leaves
    (comes e r f read (heard ++ piece) (body.0 ++ piece) left grown (behind_grows heard r f body.0 piece behind) told)

-- ## What is kept
pub head_little : (s : Stage) (unread content : List ℕ) (c : Chunks) → s ≡ stage.Head → KeepsLittle s unread c content
head_little s unread content c is = subst (λ (t : Stage). KeepsLittle t unread c content) (sym is) tt

-- of a body that comes
pub body_little : (s : Stage) (r : HeadData) (f : Framing) (unread content new : List ℕ) (was c : Chunks) → s ≡ stage.Body r f → ((f ≢ framing.InChunks) → c ≡ was)
    → KeepsLittle s unread was content → KeepsLittle s unread c new
body_little s r f unread content new was c is same little =
    let kept = subst (λ (t : Stage). KeepsLittle t unread was content) is little in
    subst (λ (t : Stage). KeepsLittle t unread c new) (sym is) (kept.0, λ other. subst IsFresh (sym (same other)) (kept.1 other))

whole_kept : (s : Stage) (unread content : List ℕ) (was c : Chunks) → IsFresh c → KeepsLittle s unread was content → KeepsLittle (settled end.Whole s) unread c content
whole_kept stage.Head unread content was c fresh little = tt
whole_kept (stage.Body r f) unread content was c fresh little = (little.0, fresh)
whole_kept (stage.Whole r) unread content was c fresh little = (little.0, fresh)
whole_kept stage.Bad unread content was c fresh little = (little.0, fresh, little.2)
whole_kept stage.TooLong unread content was c fresh little = (little.0, fresh, little.2)

pub whole_little : (s next : Stage) (unread content : List ℕ) (was c : Chunks) → next ≡ settled end.Whole s → IsFresh c → KeepsLittle s unread was content → KeepsLittle next unread c content
whole_little s next unread content was c goes fresh little = subst (λ (t : Stage). KeepsLittle t unread c content) (sym goes) (whole_kept s unread content was c fresh little)

-- of an answer that is refused
pub refused_little : (s next : Stage) (unread content : List ℕ) (c : Chunks) → next ≡ s → ((s ≡ stage.Bad) ⊎ (s ≡ stage.TooLong)) → unread ≡ [] → IsFresh c → content ≡ []
    → KeepsLittle next unread c content
refused_little s next unread content c goes (inl bad) none fresh empty = subst (λ (t : Stage). KeepsLittle t unread c content) (sym (goes ∙ bad)) (none, fresh, empty)
refused_little s next unread content c goes (inr long) none fresh empty = subst (λ (t : Stage). KeepsLittle t unread c content) (sym (goes ∙ long)) (none, fresh, empty)

-- ## Heads
-- the head of the answer stands behind interim ones
has_head : (heard rest : List ℕ) (hs : List ResponseHead) (r : HeadData) (f : Framing) (len : ℕ) (skips : SkipsHeads heard hs rest) (whole : IsWholeHead rest r f len)
    → IsFalse (is_interim_code r.code) → IsBehind heard r f (drop len rest)
has_head heard rest hs r f len skips whole final = record {
  head = whole.head;
  has = record { interim = hs; rest = rest; skips = skips; reads = whole.reads; final = subst (λ (c : ℕ). IsFalse (is_interim_code c)) whole.taken.head.code final; small = whole.small };
  taken = whole.taken;
}

-- interim heads behind those that were passed before
joined_heads : (heard unread piece joined : List ℕ) (n : ℕ) (h : Heading) (found : IsHeadFound unread piece joined n h) → BehindInterim heard (λ rest. (rest ≡ unread) × IsHeadless unread)
    → (hs : List ResponseHead) × SkipsHeads (heard ++ take found.front piece) hs (drop n joined)
joined_heads heard unread piece joined n h found (hs, rest, skips, (is, less)) =
    let grown = skips_stay heard (take found.front piece) rest hs skips in
    let joined_is : rest ++ take found.front piece ≡ joined = ap (λ (s : List ℕ). s ++ take found.front piece) is ∙ sym found.heard_is in (
      hs ++ found.passed.0,
      further (heard ++ take found.front piece) joined (drop n joined) hs found.passed.0
          (subst (λ (s : List ℕ). SkipsHeads (heard ++ take found.front piece) hs s) joined_is grown) found.passed.1,
    )

behind_head : (unread piece joined : List ℕ) (front n len : ℕ) → joined ≡ unread ++ take front piece → length unread ≤ n + len → n + len ≤ length joined
    → drop len (drop n joined) ++ drop front piece ≡ drop (n + len - length unread) piece
behind_head unread piece joined front n len is past within =
    ap (λ (s : List ℕ). s ++ drop front piece) (drop-drop len n joined) ∙ sym (drop-append-le (n + len) joined (drop front piece) within)
    ∙ ap (λ (s : List ℕ). drop (n + len) (s ++ drop front piece)) is ∙ ap (drop (n + len)) (piece_joined unread piece front) ∙ drop_past (n + len) unread piece past

-- no head is whole in bytes of which none was
first_past : (unread more joined rest : List ℕ) (h : ResponseHead) → joined ≡ unread ++ more → HasNoResponse unread → ReadsResponse joined h rest → length unread < length (print_response h)
first_past unread more joined rest h is none x = elim (cases_lt (length unread) (length (print_response h))) [
  | inl lt ↦ lt
  | inr le ↦ absurd (none h _ (x.0, front_of unread more (print_response h) rest (sym is ∙ x.1) le))
]

head_past : (unread more joined : List ℕ) (n len : ℕ) (r : HeadData) (f : Framing) (gs : List ResponseHead) → joined ≡ unread ++ more → HasNoResponse unread → n ≤ length joined
    → SkipsHeads joined gs (drop n joined) → IsWholeHead (drop n joined) r f len → length unread ≤ n + len
head_past unread more joined n len r f [] is none le skips whole =
    let reads = subst (λ (s : List ℕ). ReadsResponse s whole.head (drop len (drop n joined))) (sym skips.bytes) whole.reads in
    let past = first_past unread more joined (drop len (drop n joined)) whole.head is none reads in
    let size = ap length whole.reads.1 ∙ length-append (print_response whole.head) (drop len (drop n joined)) in
    let left = length-drop len (drop n joined) in
    let here = whole.within in
    omega arith
head_past unread more joined n len r f (g ∷ gs) is none le skips whole =
    let rest = flat_map print_response gs ++ drop n joined in
    let bytes = skips.bytes ∙ append_assoc (print_response g) (flat_map print_response gs) (drop n joined) in
    let past = first_past unread more joined rest g is none (All-head IsResponseHead g gs skips.heads, bytes) in
    let size = ap length bytes ∙ length-append (print_response g) rest in
    let sum = length-append (flat_map print_response gs) (drop n joined) in
    let left = length-drop n joined in
    omega arith

abbrev IsAtHead : (unread : List ℕ) → Chunks → (content heard : List ℕ) → Type 0
IsAtHead unread c content heard = BehindInterim heard (λ rest. (rest ≡ unread) × IsHeadless unread) × (content ≡ []) × IsFresh c

pub head_read : (next : Stage) (h : Heading) (r : HeadData) (f : Framing) (n len : ℕ) (heard unread piece joined rest left content grown new : List ℕ) (was read now : Chunks) (e : End)
    → IsAtHead unread was content heard → h ≡ heading.Whole r f len → IsHeadFound unread piece joined n h → rest ≡ drop (n + len - length unread) piece
    → Reads f was content rest read grown e → next ≡ settled e (stage.Body r f) → Leaves e read now grown new → IsStage next left now new (heard ++ piece)
head_read next h r f n len heard unread piece joined rest left content grown new was read now e (behind_interim, none, fresh) is_whole found same_rest reads goes leaves =
    let whole = subst (IsHeading (drop n joined)) is_whole found.heading_is in
    let final = subst IsFinal is_whole found.final in
    let heads = joined_heads heard unread piece joined n h found behind_interim in
    let behind = has_head (heard ++ take found.front piece) (drop n joined) heads.0 r f len heads.1 whole final in
    let all = behind_grows (heard ++ take found.front piece) r f (drop len (drop n joined)) (drop found.front piece) behind in
    let past = head_past unread (take found.front piece) joined n len r f found.passed.0 found.heard_is behind_interim.3.1.none found.within found.passed.1 whole in
    let here = whole.within in
    let left_size = length-drop n joined in
    let passed = found.within in
    let some = head_some whole.head whole.reads.0 in
    let rest_is : drop len (drop n joined) ++ drop found.front piece ≡ rest = behind_head unread piece joined found.front n len found.heard_is past (omega arith) ∙ sym same_rest in
    let at : IsBehind (heard ++ piece) r f rest = subst (IsBehind (heard ++ piece) r f) rest_is
    (subst (λ (s : List ℕ). IsBehind s r f (drop len (drop n joined) ++ drop found.front piece)) (piece_joined heard piece found.front) all) in
    let told = reads (answer.framing at.head) [] at.taken.framed (nothing_read f was content none fresh) in
    at_stage next e r f left read now grown new (heard ++ piece) goes leaves (comes e r f read (heard ++ piece) rest left grown at told)

pub head_bad : (next : Stage) (h : Heading) (n : ℕ) (heard unread piece joined left content new : List ℕ) (was now : Chunks) → IsAtHead unread was content heard → h ≡ heading.Bad
    → IsHeadFound unread piece joined n h → next ≡ stage.Bad → IsStage next left now new (heard ++ piece)
head_bad next h n heard unread piece joined left content new was now (behind_interim, none, fresh) is_bad found goes =
    let heads = joined_heads heard unread piece joined n h found behind_interim in
    let bad = bad_heads (heard ++ take found.front piece) (heads.0, drop n joined, heads.1, subst (IsHeading (drop n joined)) is_bad found.heading_is) in
    subst (λ (t : Stage). IsStage t left now new (heard ++ piece)) (sym goes)
    (subst (λ (s : List ℕ). Stays s Broken) (piece_joined heard piece found.front) (again (heard ++ take found.front piece) (drop found.front piece) Broken bad))

pub head_open : (next : Stage) (h : Heading) (n : ℕ) (heard unread piece joined left content new : List ℕ) (was now : Chunks) → IsAtHead unread was content heard → h ≡ heading.NotYet
    → IsHeadFound unread piece joined n h → next ≡ stage.Head → left ≡ drop n joined → now ≡ was → new ≡ content → IsStage next left now new (heard ++ piece)
head_open next h n heard unread piece joined left content new was now (behind_interim, none, fresh) is_open found goes leaves same added =
    let heads = joined_heads heard unread piece joined n h found behind_interim in
    let skips = subst (λ (s : List ℕ). SkipsHeads (heard ++ s) heads.0 (drop n joined)) (found.all is_open) heads.1 in
    let headless = subst (IsHeading (drop n joined)) is_open found.heading_is in
    subst (λ (t : Stage). IsStage t left now new (heard ++ piece)) (sym goes) (
      (heads.0, drop n joined, skips, (sym leaves, subst IsHeadless (sym leaves) headless)),
      added ∙ none,
      subst IsFresh (sym same) fresh,
    )

-- nothing was heard
pub fresh : (unread content : List ℕ) (c : Chunks) → unread ≡ [] → content ≡ [] → IsFresh c → IsStage stage.Head unread c content []
fresh unread content c none empty is_fresh = (
  (
    [],
    [],
    record { heads = All-nil IsResponseHead; codes = All-nil _; small = All-nil IsSmallResponse; bytes = refl },
    (sym none, subst IsHeadless (sym none) (record { none = nothing_is_no_head; possible = may_begin; short = omega arith })),
  ),
  empty,
  is_fresh,
)

-- no byte is a whole head, and each head may still come
pub none_yet : AnswerOf [] Open None
none_yet = (
  refl,
  inr (
    [],
    [],
    record { heads = All-nil IsResponseHead; codes = All-nil _; small = All-nil IsSmallResponse; bytes = refl },
    record { none = nothing_is_no_head; possible = may_begin; short = omega arith },
  ),
)

-- ## Finding heads
-- more of a piece was added to heads
pub passed_stay : (begun more : List ℕ) (n : ℕ) → n ≤ length begun → IsPassed begun n → IsPassed (begun ++ more) n
passed_stay begun more n le (hs, skips) = (hs, subst (λ (s : List ℕ). SkipsHeads (begun ++ more) hs s) (sym (drop-append-le n begun more le)) (skips_stay begun more (drop n begun) hs skips))

-- and more interim heads were passed behind those
pub passed_further : (heard rest : List ℕ) (n more : ℕ) → rest ≡ drop n heard → IsPassed heard n → IsPassed rest more → IsPassed heard (n + more)
passed_further heard rest n more is (hs, skips) (gs, further_skips) = (
  hs ++ gs,
  subst (λ (s : List ℕ). SkipsHeads heard (hs ++ gs) s) (drop-drop more n heard)
      (further heard (drop n heard) (drop more (drop n heard)) hs gs skips (subst (λ (s : List ℕ). SkipsHeads s gs (drop more s)) is further_skips)),
)

pub heard_more : (begun piece was front heard : List ℕ) (used k : ℕ) → was ≡ begun ++ take used piece → front ≡ take k (drop used piece) → heard ≡ was ++ front
    → heard ≡ begun ++ take (used + k) piece
heard_more begun piece was front heard used k was_is front_is heard_is =
    heard_is ∙ ap (λ (s : List ℕ). s ++ front) was_is ∙ append_assoc begun (take used piece) front
    ∙ ap (λ (s : List ℕ). begun ++ s) (ap (λ (s : List ℕ). take used piece ++ s) front_is ∙ sym (take_further used k piece))

pub passed_behind : (was front heard rest : List ℕ) (n more : ℕ) → heard ≡ was ++ front → n ≤ length was → IsPassed was n → rest ≡ drop n heard → IsPassed rest more → IsPassed heard (n + more)
passed_behind was front heard rest n more heard_is le passed rest_is passed_more =
    passed_further heard rest n more rest_is (subst (λ (s : List ℕ). IsPassed s n) (sym heard_is) (passed_stay was front n le passed)) passed_more

pub head_found : (begun piece was front heard rest : List ℕ) (used k n more : ℕ) (h : Heading) → was ≡ begun ++ take used piece → front ≡ take k (drop used piece)
    → heard ≡ was ++ front → n ≤ length was → IsPassed was n → rest ≡ drop n heard → more ≤ length rest → IsPassed rest more → IsHeading (drop more rest) h → IsFinal h
    → ((used + k ≡ length piece) ⊎ (is_settled h ≡ true)) → IsHeadFound begun piece heard (n + more) h
head_found begun piece was front heard rest used k n more h was_is front_is heard_is le passed rest_is within passed_more told final done =
    record {
      front = used + k;
      heard_is = heard_more begun piece was front heard used k was_is front_is heard_is;
      within = read_within was front heard rest n more le heard_is rest_is within;
      passed = passed_behind was front heard rest n more heard_is le passed rest_is passed_more;
      heading_is = subst (λ (s : List ℕ). IsHeading s h) (ap (drop more) rest_is ∙ drop-drop more n heard) told;
      final = final;
      all = λ is_open. elim done [
        | inl whole ↦ take_all (used + k) piece (omega (arith, whole))
        | inr settles ↦ absurd (false≢true (sym (ap is_settled is_open) ∙ settles))
      ];
    }

-- one interim head is passed
pub passed_more : (heard : List ℕ) (used len n : ℕ) (r : HeadData) (f : Framing) → IsPassed heard used → IsWholeHead (drop used heard) r f len
    → IsTrue (is_interim_code r.code) → n ≡ len → IsPassed heard (used + n)
passed_more heard used len n r f (hs, skips) whole interim is = (
  hs ++ whole.head ∷ [],
  subst (λ (s : List ℕ). SkipsHeads heard (hs ++ whole.head ∷ []) s) (drop-drop len used heard ∙ ap (λ (k : ℕ). drop (used + k) heard) (sym is))
      (one_more heard (drop used heard) (drop len (drop used heard)) hs whole.head skips whole.reads (subst (λ (c : ℕ). IsTrue (is_interim_code c)) whole.taken.head.code interim) whole.small),
)

-- a head has bytes
pub head_takes : (rest : List ℕ) (r : HeadData) (f : Framing) (len : ℕ) → IsWholeHead rest r f len → 0 < len
head_takes rest r f len whole =
    let some = head_some whole.head whole.reads.0 in
    let size = ap length whole.reads.1 in
    omega (arith, length-append (print_response whole.head) (drop len rest), length-drop len rest, whole.within)

pub interim_step : (heard rest : List ℕ) (used n : ℕ) (h : Heading) → rest ≡ drop used heard → used ≤ length heard → IsPassed heard used → IsHeading rest h → IsInterim h n
    → (0 < n) × (used + n ≤ length heard) × IsPassed heard (used + n)
interim_step heard rest used n heading.NotYet same le passed told interim = absurd interim
interim_step heard rest used n heading.Bad same le passed told interim = absurd interim
interim_step heard rest used n (heading.Whole r f len) same le passed told interim =
    let whole = subst (λ (s : List ℕ). IsWholeHead s r f len) same told in
    let some = head_takes (drop used heard) r f len whole in
    let within = whole.within in (
      omega (arith, some, interim.1),
      omega (arith, within, interim.1, le, length-drop used heard),
      passed_more heard used len n r f passed whole interim.0 interim.1,
    )

pub smaller : (a p n : ℕ) → 0 < n → p + n ≤ a → a - (p + n) < a - p
smaller a p n some le = omega arith

-- ## What is known
-- now, and whatever comes
known : (heard : List ℕ) (close : Close) (a : Reply) → Stays heard a → AnswerOf heard close (Some a)
known heard close a stays = subst (λ (b : List ℕ). AnswerOf b close (Some a)) (append-nil heard) (stays [] close)

pub is_whole : (s : Stage) (r : HeadData) (unread : List ℕ) (c : Chunks) (content heard : List ℕ) (close : Close) → s ≡ stage.Whole r → IsStage s unread c content heard → AnswerOf heard close (Some (Response r.code r.fields content))
is_whole s r unread c content heard close is at = known heard close (Response r.code r.fields content) (subst (λ (t : Stage). IsStage t unread c content heard) is at)

pub is_bad : (s : Stage) (unread : List ℕ) (c : Chunks) (content heard : List ℕ) (close : Close) → s ≡ stage.Bad → IsStage s unread c content heard → AnswerOf heard close (Some Broken)
is_bad s unread c content heard close is at = known heard close Broken (subst (λ (t : Stage). IsStage t unread c content heard) is at)

pub is_too_long : (s : Stage) (unread : List ℕ) (c : Chunks) (content heard : List ℕ) (close : Close) → s ≡ stage.TooLong → IsStage s unread c content heard → AnswerOf heard close (Some TooLong)
is_too_long s unread c content heard close is at = known heard close TooLong (subst (λ (t : Stage). IsStage t unread c content heard) is at)

ended_ne : Ended ≢ Open
ended_ne e = cc e

broke_ne : Broke ≢ Open
broke_ne e = cc e

-- a body isn't whole
no_body : (heard : List ℕ) (h : ResponseHead) (close : Close) → HasBody heard close h (unless_closed close) → AnswerOf heard close (unfinished close)
no_body heard h Open x = (refl, inl (h, x))
no_body heard h Ended x = inl (h, x)
no_body heard h Broke x = inl (h, x)

in_chunks : (all : List ℕ) (close : Close) → IsOpenChunked answer_limit all → IsChunkedBody answer_limit close all (unless_closed close)
in_chunks all Open x = (refl, x)
in_chunks all Ended x = inr (ended_ne, x)
in_chunks all Broke x = inr (broke_ne, x)

open_body_at : (f : Framing) (g : plain.Framing) (c : Chunks) (all content : List ℕ) (close : Close) → (f ≡ framing.ToTheEnd → ⊥) → IsOpenPart f c all content → IsFramed f g
    → IsBody answer_limit g close all (unless_closed close)
open_body_at framing.Empty g c all content close other part framed = absurd part
open_body_at (framing.OfLength n) g c all content close other (is, short) framed =
    subst (λ (k : plain.Framing). IsBody answer_limit k close all (unless_closed close)) (sym framed.0)
    (sym (length_open answer_limit n close all framed.1 (omega (arith, short, ap length is))))
open_body_at framing.TooLong g c all content close other part framed = absurd part
open_body_at framing.InChunks g c all content close other part framed =
    subst (λ (k : plain.Framing). IsBody answer_limit k close all (unless_closed close)) (sym framed) (in_chunks all close (open_body answer_limit c all content part))
open_body_at framing.ToTheEnd g c all content close other part framed = absurd (other refl)
open_body_at framing.Bad g c all content close other part framed = absurd part

pub is_open_body : (s : Stage) (r : HeadData) (f : Framing) (unread : List ℕ) (c : Chunks) (content heard : List ℕ) (close : Close) → s ≡ stage.Body r f → (f ≡ framing.ToTheEnd → ⊥)
    → IsStage s unread c content heard → AnswerOf heard close (unfinished close)
is_open_body s r f unread c content heard close is other at =
    let body = subst (λ (t : Stage). IsStage t unread c content heard) is at in
    let x = body.1 in
    no_body heard x.head close (body.0, x.has, open_body_at f (answer.framing x.head) c body.0 content close other body.2 x.taken.framed)
