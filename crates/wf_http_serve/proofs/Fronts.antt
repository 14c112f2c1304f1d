-- What the first bytes say of all of them.
use Rattle.std.proofs.Common.{◌≡◌, ℕ, ◌-◌, ◌<◌, ◌≤◌, List, [], ◌++◌, length, take, drop, sym, ap, ◌∙◌, subst, arith, inl, inr, ◌⊎◌, append-nil, length-append, take-append-drop, length-take}
use Rattle.std.proofs.lemmas.List.{drop-append-le}
use Rattle.httparse.specs.Grammar.{RequestHead, print_request, ReadsRequest, HasNoRequest, NeverHasRequest, MayBecomeRequest}
use Rattle.httparse.specs.Spans.{RequestOverflows, IsRequestOf}
use Rattle.httparse.specs.declared.spans.HeaderSpan.{HeaderSpan}
use Rattle.httparse.specs.declared.spans.RequestSpans.{RequestSpans}
use Rattle.httparse.proofs.GrammarLemmas.{ReadsRequest-append}
use Rattle.wf_value.specs.HttpBody.{head_limit}
use Rattle.wf_http_body.proofs.Fronts.{past}
use Rattle.wf_http_serve.specs.declared.framing.Framing.{Framing}
use Rattle.wf_http_serve.specs.declared.head.Look.{Look}
use Rattle.wf_http_serve.specs.declared.head.Look.TheVariants as look
use Rattle.wf_http_serve.specs.declared.request.Request.{Request}
use Rattle.wf_http_serve.specs.Found.{IsLook, IsWholeHead, IsWholeLook}
use Rattle.wf_http_serve.specs.Visits.{IsLongHead, IsCrowdedHead, IsBadHead, IsHeadless}
use Rattle.wf_http_serve.proofs.Targets.{not_never}

pub whole_head : (n len : ℕ) (heard : List ℕ) (h : RequestHead) → len ≤ length (take n heard)
    → ReadsRequest (take n heard) h (drop len (take n heard)) → ReadsRequest heard h (drop len heard)
whole_head n len heard h le x =
    let all = ReadsRequest-append (take n heard) h (drop len (take n heard)) (drop n heard) x in
    let rest : drop len (take n heard) ++ drop n heard ≡ drop len heard =
    sym (drop-append-le len (take n heard) (drop n heard) le) ∙ ap (drop len) (take-append-drop n heard) in
    subst (λ (r : List ℕ). ReadsRequest heard h r) rest (subst (λ (b : List ℕ). ReadsRequest b h (drop len (take n heard) ++ drop n heard)) (take-append-drop n heard) all)

pub crowded_head : (n : ℕ) (heard : List ℕ) → IsCrowdedHead (take n heard) → IsCrowdedHead heard
crowded_head n heard (h, b, x, many) =
    (h, b ++ drop n heard, subst (λ (s : List ℕ). ReadsRequest s h (b ++ drop n heard)) (take-append-drop n heard) (ReadsRequest-append (take n heard) h b (drop n heard) x), many)

pub too_long_head : (n : ℕ) (heard : List ℕ) → n ≡ head_limit → n < length heard → HasNoRequest (take n heard) → IsLongHead heard
too_long_head n heard is lt none = record {
  heard_more = omega arith;
  heads = λ h b x. subst (λ (m : ℕ). m < length (print_request h)) is
      (past n heard (print_request h) b (omega arith) x.1 (λ front. none h (take (length (take n heard) - length (print_request h)) b) (x.0, front)));
}

pub never_is_none : (buf : List ℕ) → NeverHasRequest buf → HasNoRequest buf
never_is_none buf never = subst HasNoRequest (append-nil buf) (never [])

-- ## Too many fields
pub crowded_by : (front : List ℕ) (spans : List HeaderSpan) (r : RequestSpans) → RequestOverflows 100 front → IsRequestOf front spans r → IsCrowdedHead front
crowded_by front spans r many (h, at) =
    (h, drop r.len front, at.reads, many [] h (drop r.len front) (subst (λ (s : List ℕ). ReadsRequest s h (drop r.len front)) (sym (append-nil front)) at.reads))

-- more bytes than the limit, and no whole head within it
pub past_head : (n : ℕ) (s : List ℕ) (g : Look) → n ≡ head_limit → n < length s → IsLook (take n s) g
    → ((g ≡ look.Crowded) ⊎ ((g ≡ look.NotYet) ⊎ (g ≡ look.Never))) → IsBadHead s
past_head n s g is lt x (inl e) = inr (inr (crowded_head n s (subst (IsLook (take n s)) e x)))
past_head n s g is lt x (inr (inl e)) = inr (inl (too_long_head n s is lt (subst (IsLook (take n s)) e x).0))
past_head n s g is lt x (inr (inr e)) = inr (inl (too_long_head n s is lt (never_is_none (take n s) (subst (IsLook (take n s)) e x))))

pub whole_within_head : (n len : ℕ) (s : List ℕ) (r : Request) (f : Framing) → n ≡ head_limit → n ≤ length s → IsWholeLook (take n s) r f len → IsWholeHead s r f len
whole_within_head n len s r f is le x =
    let size = length-take n s in
    let within = x.within in
    let all = ap length x.reads.1 in
    let sum = length-append (print_request x.head) (drop len (take n s)) in
    record {
      head = x.head;
      has = record { reads = whole_head n len s x.head x.within x.reads; small = record { short = omega arith; few = x.few } };
      within = omega arith;
      taken = x.taken;
    }

pub whole_short_head : (s : List ℕ) (len : ℕ) (r : Request) (f : Framing) → length s ≤ head_limit → IsWholeLook s r f len → IsWholeHead s r f len
whole_short_head s len r f short x =
    let all = ap length x.reads.1 in
    let sum = length-append (print_request x.head) (drop len s) in
    record {
      head = x.head;
      has = record { reads = x.reads; small = record { short = omega arith; few = x.few } };
      within = x.within;
      taken = x.taken;
    }

pub headless_yet : (s : List ℕ) → length s ≤ head_limit → HasNoRequest s → MayBecomeRequest s → IsHeadless s
headless_yet s short none may = record { none = none; possible = not_never s may; short = short }
