-- From what was read to what is known of a visit.
use Rattle.std.proofs.Common.{◌≡◌, ℕ, ◌-◌, ◌<◌, ◌≤◌, List, [], ◌++◌, length, take, drop, Result, Ok, Err, Bool, true, false, refl, sym, ap, ◌∙◌, subst, arith, ◌⊎◌, inl, inr, append-nil, length-append, length-drop}
use Rattle.std.proofs.lemmas.Bool.{cases_lt, false≢true, le-ltb, lt-leb}
use Rattle.std.proofs.lemmas.List.{drop-append-le}
use Rattle.std.specs.Prelude.{◌≢◌, IfOk}
use Rattle.wf_lemmas.proofs.Lists.{drop_past, piece_joined}
use Rattle.httparse.specs.Grammar.{HasNoRequest, print_request}
use Rattle.wf_value.specs.HttpBody as plain
use Rattle.wf_value.specs.HttpBody.{Close, Open, Ended, Broke, length_state, unless_closed, Complete, Malformed, Oversize, BodyState, headers_of}
use Rattle.wf_http_body.specs.declared.body.Chunks.{Chunks}
use Rattle.wf_http_body.specs.declared.body.End.{End}
use Rattle.wf_http_body.specs.declared.body.End.TheVariants as end
use Rattle.wf_http_body.specs.Chunks.{IsOpenChunked, IsChunkedBody}
use Rattle.wf_http_body.specs.Lengths.{IsLengthPart, IsLengthRead}
use Rattle.wf_http_body.specs.Parts.{IsFresh, IsOpenBody, ReadsBody}
use Rattle.wf_http_body.proofs.Fronts.{front_of}
use Rattle.wf_http_body.proofs.Opening.{fresh_body, open_body}
use Rattle.wf_http_serve.specs.declared.head.Heading.{Heading}
use Rattle.wf_http_serve.specs.declared.head.Heading.TheVariants as heading
use Rattle.wf_http_serve.specs.declared.framing.Framing.{Framing}
use Rattle.wf_http_serve.specs.declared.framing.Framing.TheVariants as framing
use Rattle.wf_http_serve.specs.declared.request.Request.{Request}
use Rattle.wf_http_serve.specs.declared.stage.Stage.{Stage}
use Rattle.wf_http_serve.specs.declared.stage.Stage.TheVariants as stage
use Rattle.wf_http_serve.specs.Found.{IsHeading, IsHeadFound, IsWholeHead}
use Rattle.wf_http_serve.specs.Plain.{IsFramed, close_of}
use Rattle.wf_http_serve.specs.Stages.{IsPartOf, IsOpenPart, IsRead, KeepsLittle, Leaves, StaysBody, Stays, IsBehind, IsStage, settled}
use Rattle.wf_http_serve.specs.Visits as visits
use Rattle.wf_http_serve.specs.Visits.{visit_limit, VisitOf, HasBody, HasSomeBody, IsHeadless, IsVisitBody, HasHead}
use Rattle.wf_http_serve.proofs.Lasting.{head_stays, again, bad_heads}
use Rattle.wf_http_serve.proofs.Sizes.{nothing_is_no_head}

-- ## More is heard
-- what is decided stays, whatever comes
asked_stays : (s : Stage) (r : Request) (unread : List ℕ) (c : Chunks) (content heard piece : List ℕ) → s ≡ stage.Asked r → IsStage s unread c content heard
    → IsStage s unread c content (heard ++ piece)
asked_stays s r unread c content heard piece is at =
    subst (λ (t : Stage). IsStage t unread c content (heard ++ piece)) (sym is)
    (again heard piece (visits.Asks r.method r.target r.fields content) (subst (λ (t : Stage). IsStage t unread c content heard) is at))

bad_stays : (s : Stage) (unread : List ℕ) (c : Chunks) (content heard piece : List ℕ) → s ≡ stage.Bad → IsStage s unread c content heard
    → IsStage s unread c content (heard ++ piece)
bad_stays s unread c content heard piece is at =
    subst (λ (t : Stage). IsStage t unread c content (heard ++ piece)) (sym is)
    (again heard piece visits.Bad (subst (λ (t : Stage). IsStage t unread c content heard) is at))

too_large_stays : (s : Stage) (unread : List ℕ) (c : Chunks) (content heard piece : List ℕ) → s ≡ stage.TooLarge → IsStage s unread c content heard
    → IsStage s unread c content (heard ++ piece)
too_large_stays s unread c content heard piece is at =
    subst (λ (t : Stage). IsStage t unread c content (heard ++ piece)) (sym is)
    (again heard piece visits.TooLarge (subst (λ (t : Stage). IsStage t unread c content heard) is at))

pub decided_stays : (s : Stage) (unread : List ℕ) (c : Chunks) (content heard piece : List ℕ) → (((r : Request) × (s ≡ stage.Asked r)) ⊎ ((s ≡ stage.Bad) ⊎ (s ≡ stage.TooLarge)))
    → IsStage s unread c content heard → IsStage s unread c content (heard ++ piece)
decided_stays s unread c content heard piece (inl (r, is)) at = asked_stays s r unread c content heard piece is at
decided_stays s unread c content heard piece (inr (inl is)) at = bad_stays s unread c content heard piece is at
decided_stays s unread c content heard piece (inr (inr is)) at = too_large_stays s unread c content heard piece is at

behind_grows : (heard : List ℕ) (r : Request) (f : Framing) (all piece : List ℕ) → IsBehind heard r f all → IsBehind (heard ++ piece) r f (all ++ piece)
behind_grows heard r f all piece x = record { head = x.head; has = head_stays heard piece x.head all x.has; taken = x.taken }

-- ## What was read
-- a body that stays makes a visit that stays
with_body : (heard : List ℕ) (r : Request) (f : Framing) (all : List ℕ) (s : BodyState) (x : IsBehind heard r f all) → StaysBody (visits.framing (headers_of x.head.fields)) all s
    → (more : List ℕ) (close : Close) → HasBody (heard ++ more) close x.head s
with_body heard r f all s x stays more close = record { rest = all ++ more; head = head_stays heard more x.head all x.has; body = stays more close }

-- from what was read of a body to the stage
comes : (e : End) (r : Request) (f : Framing) (c : Chunks) (heard all unread content : List ℕ) (x : IsBehind heard r f all)
    → IsRead f (visits.framing (headers_of x.head.fields)) c all content e → IsStage (settled e (stage.Body r f)) unread c content heard
comes end.More r f c heard all unread content x read = (all, x, read)
comes end.Whole r f c heard all unread content x read = λ more close.
    (x.head, with_body heard r f all (Complete content) x read more close, x.taken.asked.method, x.taken.asked.target, x.taken.asked.fields)
comes end.Bad r f c heard all unread content x read = λ more close. inl (x.head, with_body heard r f all Malformed x read more close)
comes end.TooLarge r f c heard all unread content x read = λ more close. (x.head, with_body heard r f all Oversize x read more close)

-- nothing of a body was read
nothing_read : (f : Framing) (c : Chunks) (content : List ℕ) → content ≡ [] → IsFresh c → IsPartOf f c [] content
nothing_read framing.Empty c content none fresh = none
nothing_read (framing.OfLength n) c content none fresh = (sym none, (let size = ap length none in omega arith))
nothing_read framing.TooLarge c content none fresh = none
nothing_read framing.InChunks c content none fresh = fresh_body visit_limit c content fresh none
nothing_read framing.Bad c content none fresh = none

-- a body that isn't whole
open_is_part : (f : Framing) (c : Chunks) (all content : List ℕ) → IsOpenPart f c all content → IsPartOf f c all content
open_is_part framing.Empty c all content part = absurd part
open_is_part (framing.OfLength n) c all content part = (part.0, (let short = part.1 in omega arith))
open_is_part framing.TooLarge c all content part = absurd part
open_is_part framing.InChunks c all content part = part
open_is_part framing.Bad c all content part = absurd part

-- what `read_body` says
abbrev pub Reads : Framing → Chunks → (content piece : List ℕ) → Chunks → (new : List ℕ) → End → Type 0
Reads f was content piece c new e = (g : plain.Framing) (all : List ℕ) → IsFramed f g → IsPartOf f was all content → IsRead f g c (all ++ piece) new e

-- what is kept is enough for the stage
is_left : (e : End) (r : Request) (f : Framing) (left : List ℕ) (was c : Chunks) (grown new heard : List ℕ) → Leaves e was c grown new → IsStage (settled e (stage.Body r f)) left was grown heard
    → IsStage (settled e (stage.Body r f)) left c new heard
is_left end.More r f left was c grown new heard (same, is) at =
    subst (λ (d : Chunks). IsStage (stage.Body r f) left d new heard) (sym same) (subst (λ (b : List ℕ). IsStage (stage.Body r f) left was b heard) (sym is) at)
is_left end.Whole r f left was c grown new heard is at = subst (λ (b : List ℕ). Stays heard (visits.Asks r.method r.target r.fields b)) (sym is) at
is_left end.Bad r f left was c grown new heard leaves at = at
is_left end.TooLarge r f left was c grown new heard leaves at = at

-- the stage that the code is at
at_stage : (next : Stage) (e : End) (r : Request) (f : Framing) (left : List ℕ) (was c : Chunks) (grown new heard : List ℕ) → next ≡ settled e (stage.Body r f) → Leaves e was c grown new
    → IsStage (settled e (stage.Body r f)) left was grown heard → IsStage next left c new heard
at_stage next e r f left was c grown new heard goes leaves at =
    subst (λ (t : Stage). IsStage t left c new heard) (sym goes) (is_left e r f left was c grown new heard leaves at)

pub body_read : (s next : Stage) (r : Request) (f : Framing) (heard unread left content piece grown new : List ℕ) (was read now : Chunks) (e : End)
    → s ≡ stage.Body r f → IsStage s unread was content heard → Reads f was content piece read grown e
    → next ≡ settled e s → Leaves e read now grown new → IsStage next left now new (heard ++ piece)
unfolding behind_grows
body_read s next r f heard unread left content piece grown new was read now e is at reads goes leaves =
    let body = subst (λ (t : Stage). IsStage t unread was content heard) is at in
    let behind = body.1 in
    let told = reads (visits.framing (headers_of behind.head.fields)) body.0 behind.taken.framed (open_is_part f was body.0 content body.2) in
    at_stage next e r f left read now grown new (heard ++ piece) (goes ∙ ap (settled e) is) leaves
    (comes e r f read (heard ++ piece) (body.0 ++ piece) left grown (behind_grows heard r f body.0 piece behind) told)

-- ## What is kept

-- of a body that comes
pub body_little : (s : Stage) (r : Request) (f : Framing) (unread content new : List ℕ) (was c : Chunks) → s ≡ stage.Body r f → ((f ≢ framing.InChunks) → c ≡ was)
    → KeepsLittle s unread was content → KeepsLittle s unread c new
body_little s r f unread content new was c is same little =
    let kept = subst (λ (t : Stage). KeepsLittle t unread was content) is little in
    subst (λ (t : Stage). KeepsLittle t unread c new) (sym is) (kept.0, λ other. subst IsFresh (sym (same other)) (kept.1 other))

whole_kept : (s : Stage) (unread content : List ℕ) (was c : Chunks) → IsFresh c → KeepsLittle s unread was content → KeepsLittle (settled end.Whole s) unread c content
whole_kept stage.Head unread content was c fresh little = tt
whole_kept (stage.Body r f) unread content was c fresh little = (little.0, fresh)
whole_kept (stage.Asked r) unread content was c fresh little = (little.0, fresh)
whole_kept stage.Bad unread content was c fresh little = (little.0, fresh, little.2)
whole_kept stage.TooLarge unread content was c fresh little = (little.0, fresh, little.2)

pub whole_little : (s next : Stage) (unread content : List ℕ) (was c : Chunks) → next ≡ settled end.Whole s → IsFresh c → KeepsLittle s unread was content → KeepsLittle next unread c content
whole_little s next unread content was c goes fresh little = subst (λ (t : Stage). KeepsLittle t unread c content) (sym goes) (whole_kept s unread content was c fresh little)

-- of a request that is refused
pub refused_little : (s next : Stage) (unread content : List ℕ) (c : Chunks) → next ≡ s → ((s ≡ stage.Bad) ⊎ (s ≡ stage.TooLarge)) → unread ≡ [] → IsFresh c → content ≡ []
    → KeepsLittle next unread c content
refused_little s next unread content c goes (inl bad) none fresh empty = subst (λ (t : Stage). KeepsLittle t unread c content) (sym (goes ∙ bad)) (none, fresh, empty)
refused_little s next unread content c goes (inr large) none fresh empty = subst (λ (t : Stage). KeepsLittle t unread c content) (sym (goes ∙ large)) (none, fresh, empty)

-- ## Bodies
length_read : (n : ℕ) (f : plain.Framing) (c : Chunks) (all content : List ℕ) (e : End) → f ≡ plain.OfLength n → IsLengthRead visit_limit n all content e
    → IsRead (framing.OfLength n) f c all content e
length_read n f c all content end.More is read = read
length_read n f c all content end.Whole is read = λ more close. subst (λ (g : plain.Framing). IsVisitBody g close (all ++ more) (Complete content)) (sym is) (read more close)
length_read n f c all content end.Bad is read = absurd read
length_read n f c all content end.TooLarge is read = absurd read

pub sized : {E : Type 0} (code : Framing) (n : ℕ) (was c : Chunks) (piece old new : List ℕ) (result : Result End E) → code ≡ framing.OfLength n
    → IfOk result (λ e. (limit : ℕ) (all : List ℕ) → n ≤ limit → IsLengthPart n all old → IsLengthRead limit n (all ++ piece) new e)
    → IfOk result (λ e. (f : plain.Framing) (all : List ℕ) → IsFramed code f → IsPartOf code was all old → IsRead code f c (all ++ piece) new e)
sized code n was c piece old new (Ok e) is read = λ f all framed part.
    let told = subst (λ (g : Framing). IsFramed g f) is framed in
    let begun = subst (λ (g : Framing). IsPartOf g was all old) is part in
    subst (λ (g : Framing). IsRead g f c (all ++ piece) new e) (sym is) (length_read n f c (all ++ piece) new e told.0 (read visit_limit all told.1 begun))
sized code n was c piece old new (Err x) is read = tt

in_chunks : (f : plain.Framing) (c : Chunks) (all content : List ℕ) (e : End) → f ≡ plain.InChunks → ReadsBody visit_limit c all content e → IsRead framing.InChunks f c all content e
in_chunks f c all content end.More is read = read
in_chunks f c all content end.Whole is read = λ more close. subst (λ (g : plain.Framing). IsVisitBody g close (all ++ more) (Complete content)) (sym is) (read more close)
in_chunks f c all content end.Bad is read = λ more close. subst (λ (g : plain.Framing). IsVisitBody g close (all ++ more) Malformed) (sym is) (read more close)
in_chunks f c all content end.TooLarge is read = λ more close. subst (λ (g : plain.Framing). IsVisitBody g close (all ++ more) Oversize) (sym is) (read more close)

pub chunked : {E : Type 0} (code : Framing) (was c : Chunks) (piece old new : List ℕ) (result : Result End E) → code ≡ framing.InChunks
    → IfOk result (λ e. (all : List ℕ) → IsOpenBody visit_limit was all old → ReadsBody visit_limit c (all ++ piece) new e)
    → IfOk result (λ e. (f : plain.Framing) (all : List ℕ) → IsFramed code f → IsPartOf code was all old → IsRead code f c (all ++ piece) new e)
chunked code was c piece old new (Ok e) is read = λ f all framed part.
    subst (λ (g : Framing). IsRead g f c (all ++ piece) new e) (sym is)
    (in_chunks f c (all ++ piece) new e (subst (λ (g : Framing). IsFramed g f) is framed) (read all (subst (λ (g : Framing). IsPartOf g was all old) is part)))
chunked code was c piece old new (Err x) is read = tt

-- ## Heads

behind_head : (unread piece joined : List ℕ) (front len : ℕ) → joined ≡ unread ++ take front piece → length unread ≤ len → len ≤ length joined
    → drop len joined ++ drop front piece ≡ drop (len - length unread) piece
behind_head unread piece joined front len is past within =
    sym (drop-append-le len joined (drop front piece) within) ∙ ap (λ (s : List ℕ). drop len (s ++ drop front piece)) is
    ∙ ap (drop len) (piece_joined unread piece front) ∙ drop_past len unread piece past

-- no head is whole in bytes of which none was
head_past : (unread more joined : List ℕ) (len : ℕ) (r : Request) (f : Framing) → joined ≡ unread ++ more → HasNoRequest unread → IsWholeHead joined r f len → length unread ≤ len
head_past unread more joined len r f is none whole = elim (cases_lt (length unread) (length (print_request whole.head))) [
  | inl lt ↦
      let size = ap length whole.has.reads.1 ∙ length-append (print_request whole.head) (drop len joined) in
      let left = length-drop len joined in
      let here = whole.within in
      omega arith
  | inr le ↦ absurd (none whole.head _ (whole.has.reads.0, front_of unread more (print_request whole.head) (drop len joined) (sym is ∙ whole.has.reads.1) le))
]

abbrev IsAtHead : (unread : List ℕ) → Chunks → (content heard : List ℕ) → Type 0
IsAtHead unread c content heard = (unread ≡ heard) × (content ≡ []) × IsFresh c × IsHeadless heard

pub head_read : (next : Stage) (h : Heading) (r : Request) (f : Framing) (len : ℕ) (heard unread piece joined rest left content grown new : List ℕ) (was read now : Chunks) (e : End)
    → IsAtHead unread was content heard → h ≡ heading.Whole r f len → IsHeadFound unread piece joined h → rest ≡ drop (len - length unread) piece
    → Reads f was content rest read grown e → next ≡ settled e (stage.Body r f) → Leaves e read now grown new → IsStage next left now new (heard ++ piece)
head_read next h r f len heard unread piece joined rest left content grown new was read now e (same_heard, none, fresh, less) is_whole found same_rest reads goes leaves =
    let whole = subst (IsHeading joined) is_whole found.heading_is in
    let past = head_past unread (take found.front piece) joined len r f found.heard_is (subst HasNoRequest (sym same_heard) less.none) whole in
    let rest_is : drop len joined ++ drop found.front piece ≡ rest = behind_head unread piece joined found.front len found.heard_is past whole.within ∙ sym same_rest in
    let joined_is : joined ++ drop found.front piece ≡ heard ++ piece =
    ap (λ (s : List ℕ). s ++ drop found.front piece) found.heard_is ∙ piece_joined unread piece found.front ∙ ap (λ (s : List ℕ). s ++ piece) same_heard in
    let at : IsBehind (heard ++ piece) r f rest = record {
      head = whole.head;
      has = subst (λ (s : List ℕ). HasHead s whole.head rest) joined_is
          (subst (λ (b : List ℕ). HasHead (joined ++ drop found.front piece) whole.head b) rest_is (head_stays joined (drop found.front piece) whole.head (drop len joined) whole.has));
      taken = whole.taken;
    } in
    let told = reads (visits.framing (headers_of at.head.fields)) [] at.taken.framed (nothing_read f was content none fresh) in
    at_stage next e r f left read now grown new (heard ++ piece) goes leaves (comes e r f read (heard ++ piece) rest left grown at told)

pub head_bad : (next : Stage) (h : Heading) (heard unread piece joined left content new : List ℕ) (was now : Chunks) → IsAtHead unread was content heard → h ≡ heading.Bad
    → IsHeadFound unread piece joined h → next ≡ stage.Bad → IsStage next left now new (heard ++ piece)
head_bad next h heard unread piece joined left content new was now (same_heard, none, fresh, less) is_bad found goes =
    let joined_is : joined ++ drop found.front piece ≡ heard ++ piece =
    ap (λ (s : List ℕ). s ++ drop found.front piece) found.heard_is ∙ piece_joined unread piece found.front ∙ ap (λ (s : List ℕ). s ++ piece) same_heard in
    subst (λ (t : Stage). IsStage t left now new (heard ++ piece)) (sym goes)
    (subst (λ (b : List ℕ). Stays b visits.Bad) joined_is
    (again joined (drop found.front piece) visits.Bad (bad_heads joined (subst (IsHeading joined) is_bad found.heading_is))))

-- nothing was heard
pub fresh : (unread content : List ℕ) (c : Chunks) → unread ≡ [] → content ≡ [] → IsFresh c → IsStage stage.Head unread c content []
fresh unread content c none empty is_fresh = (none, empty, is_fresh, record { none = nothing_is_no_head; possible = λ line. absurd (false≢true line); short = omega arith })

-- ## What is known
-- now, and whatever comes
known : (heard : List ℕ) (close : Close) (s : visits.VisitState) → Stays heard s → VisitOf heard close s
known heard close s stays = subst (λ (b : List ℕ). VisitOf b close s) (append-nil heard) (stays [] close)

pub is_asked : (s : Stage) (r : Request) (unread : List ℕ) (c : Chunks) (content heard : List ℕ) (close : Close) → s ≡ stage.Asked r → IsStage s unread c content heard
    → VisitOf heard close (visits.Asks r.method r.target r.fields content)
is_asked s r unread c content heard close is at = known heard close (visits.Asks r.method r.target r.fields content) (subst (λ (t : Stage). IsStage t unread c content heard) is at)

pub is_bad : (s : Stage) (unread : List ℕ) (c : Chunks) (content heard : List ℕ) (close : Close) → s ≡ stage.Bad → IsStage s unread c content heard → VisitOf heard close visits.Bad
is_bad s unread c content heard close is at = known heard close visits.Bad (subst (λ (t : Stage). IsStage t unread c content heard) is at)

pub is_too_large : (s : Stage) (unread : List ℕ) (c : Chunks) (content heard : List ℕ) (close : Close) → s ≡ stage.TooLarge → IsStage s unread c content heard → VisitOf heard close visits.TooLarge
is_too_large s unread c content heard close is at = known heard close visits.TooLarge (subst (λ (t : Stage). IsStage t unread c content heard) is at)

-- ## Not yet whole
length_open : (limit n : ℕ) (close : Close) (b : List ℕ) → n ≤ limit → length b < n → length_state limit close b n ≡ unless_closed close
length_open limit n close b fits short = rw (le-ltb limit n fits, lt-leb n (length b) short) refl

ended_ne : Ended ≢ Open
ended_ne e = cc e

broke_ne : Broke ≢ Open
broke_ne e = cc e

open_chunked : (all : List ℕ) (close : Close) → IsOpenChunked visit_limit all → IsChunkedBody visit_limit close all (unless_closed close)
open_chunked all Open x = (refl, x)
open_chunked all Ended x = inr (ended_ne, x)
open_chunked all Broke x = inr (broke_ne, x)

open_body_at : (f : Framing) (g : plain.Framing) (c : Chunks) (all content : List ℕ) (close : Close) → IsOpenPart f c all content → IsFramed f g → IsVisitBody g close all (unless_closed close)
open_body_at framing.Empty g c all content close part framed = absurd part
open_body_at (framing.OfLength n) g c all content close (is, short) framed =
    subst (λ (k : plain.Framing). IsVisitBody k close all (unless_closed close)) (sym framed.0)
    (sym (length_open visit_limit n close all framed.1 (omega (arith, short, ap length is))))
open_body_at framing.TooLarge g c all content close part framed = absurd part
open_body_at framing.InChunks g c all content close part framed =
    subst (λ (k : plain.Framing). IsVisitBody k close all (unless_closed close)) (sym framed) (open_chunked all close (open_body visit_limit c all content part))
open_body_at framing.Bad g c all content close part framed = absurd part

-- a head or a body isn't whole
abbrev pub IsGoing : Stage → Type 0
IsGoing s = (s ≡ stage.Head) ⊎ ((r : Request) × (f : Framing) × (s ≡ stage.Body r f))

open_at : (s : Stage) (unread : List ℕ) (c : Chunks) (content heard : List ℕ) (close : Close) → IsGoing s → IsStage s unread c content heard
    → HasSomeBody heard close (unless_closed close) ⊎ IsHeadless heard
open_at s unread c content heard close (inl is) at = inr (subst (λ (t : Stage). IsStage t unread c content heard) is at).3
open_at s unread c content heard close (inr (r, f, is)) at =
    let body = subst (λ (t : Stage). IsStage t unread c content heard) is at in
    let x = body.1 in
    inl (x.head, record { rest = body.0; head = x.has; body = open_body_at f (visits.framing (headers_of x.head.fields)) c body.0 content close body.2 x.taken.framed })

pub is_not_yet : (s : Stage) (unread : List ℕ) (c : Chunks) (content heard : List ℕ) (close : Close) (ended : Bool) → ended ≡ false → close ≡ close_of ended → IsGoing s
    → IsStage s unread c content heard → VisitOf heard close visits.NotYet
is_not_yet s unread c content heard close ended e same going at =
    subst (λ (k : Close). VisitOf heard k visits.NotYet) (sym (same ∙ ap close_of e)) (refl, open_at s unread c content heard Open going at)

pub is_cut : (s : Stage) (unread : List ℕ) (c : Chunks) (content heard : List ℕ) (close : Close) (ended : Bool) → ended ≡ true → close ≡ close_of ended → IsGoing s
    → IsStage s unread c content heard → VisitOf heard close visits.Bad
is_cut s unread c content heard close ended e same going at =
    subst (λ (k : Close). VisitOf heard k visits.Bad) (sym (same ∙ ap close_of e)) (elim (open_at s unread c content heard Ended going at) [
      | inl x ↦ inl x
      | inr less ↦ inr (inr (ended_ne, less))
    ])
