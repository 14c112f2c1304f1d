-- What the first bytes say of a head.
use Rattle.std.proofs.Common.{◌≡◌, ℕ, ◌-◌, ◌<◌, ◌≤◌, List, [], ◌++◌, length, take, drop, sym, ap, ◌∙◌, subst, arith, inl, inr, ◌⊎◌, append-nil, length-append, take-append-drop, length-take}
use Rattle.std.proofs.lemmas.List.{drop-append-le}
use Rattle.httparse.specs.Grammar.{ResponseHead, print_response, ReadsResponse, HasNoResponse, NeverHasResponse}
use Rattle.httparse.specs.Spans.{ResponseOverflows, IsResponseOf}
use Rattle.httparse.specs.declared.spans.HeaderSpan.{HeaderSpan}
use Rattle.httparse.specs.declared.spans.ResponseSpans.{ResponseSpans}
use Rattle.httparse.proofs.GrammarLemmas.{ReadsResponse-append}
use Rattle.wf_value.specs.HttpBody.{head_limit}
use Rattle.wf_http_body.proofs.Fronts.{past}
use Rattle.wf_http_in.specs.declared.framing.Framing.{Framing}
use Rattle.wf_http_in.specs.declared.heads.Look.{Look}
use Rattle.wf_http_in.specs.declared.heads.Look.TheVariants as look
use Rattle.wf_http_in.specs.Found.{IsLook, IsWholeHead, IsWholeLook}
use Rattle.wf_http_in.specs.HeadData.{HeadData}
use Rattle.wf_http_in.specs.Heads.{IsLongHead, IsCrowdedHead, IsBadHead}

whole_head : (n len : ℕ) (heard : List ℕ) (h : ResponseHead) → len ≤ length (take n heard)
    → ReadsResponse (take n heard) h (drop len (take n heard)) → ReadsResponse heard h (drop len heard)
whole_head n len heard h le x =
    let all = ReadsResponse-append (take n heard) h (drop len (take n heard)) (drop n heard) x in
    let rest : drop len (take n heard) ++ drop n heard ≡ drop len heard =
    sym (drop-append-le len (take n heard) (drop n heard) le) ∙ ap (drop len) (take-append-drop n heard) in
    subst (λ (r : List ℕ). ReadsResponse heard h r) rest (subst (λ (b : List ℕ). ReadsResponse b h (drop len (take n heard) ++ drop n heard)) (take-append-drop n heard) all)

crowded_head : (n : ℕ) (heard : List ℕ) → IsCrowdedHead (take n heard) → IsCrowdedHead heard
crowded_head n heard (h, b, x, many) =
    (h, b ++ drop n heard, subst (λ (s : List ℕ). ReadsResponse s h (b ++ drop n heard)) (take-append-drop n heard) (ReadsResponse-append (take n heard) h b (drop n heard) x), many)

too_long_head : (n : ℕ) (heard : List ℕ) → n ≡ head_limit → n < length heard → HasNoResponse (take n heard) → IsLongHead heard
too_long_head n heard is lt none = record {
  heard = omega arith;
  heads = λ h b x. subst (λ (m : ℕ). m < length (print_response h)) is
      (past n heard (print_response h) b (omega arith) x.1 (λ front. none h (take (length (take n heard) - length (print_response h)) b) (x.0, front)));
}

never_is_none : (buf : List ℕ) → NeverHasResponse buf → HasNoResponse buf
never_is_none buf never = subst HasNoResponse (append-nil buf) (never [])

pub crowded_by : (front : List ℕ) (spans : List HeaderSpan) (r : ResponseSpans) → ResponseOverflows 100 front → IsResponseOf front spans r → IsCrowdedHead front
crowded_by front spans r many (h, at) =
    (h, drop r.len front, at.reads, many [] h (drop r.len front) (subst (λ (s : List ℕ). ReadsResponse s h (drop r.len front)) (sym (append-nil front)) at.reads))

-- more bytes than the limit, and no whole head within it
pub past_head : (n : ℕ) (s : List ℕ) (g : Look) → n ≡ head_limit → n < length s → IsLook (take n s) g
    → ((g ≡ look.Crowded) ⊎ ((g ≡ look.NotYet) ⊎ (g ≡ look.Never))) → IsBadHead s
past_head n s g is lt x (inl e) = inr (inr (crowded_head n s (subst (IsLook (take n s)) e x)))
past_head n s g is lt x (inr (inl e)) = inr (inl (too_long_head n s is lt (subst (IsLook (take n s)) e x).0))
past_head n s g is lt x (inr (inr e)) = inr (inl (too_long_head n s is lt (never_is_none (take n s) (subst (IsLook (take n s)) e x))))

pub whole_within_head : (n len : ℕ) (s : List ℕ) (r : HeadData) (f : Framing) → n ≡ head_limit → n ≤ length s → IsWholeLook (take n s) r f len → IsWholeHead s r f len
whole_within_head n len s r f is le x =
    let size = length-take n s in
    let within = x.within in
    let all = ap length x.reads.1 in
    let sum = length-append (print_response x.head) (drop len (take n s)) in
    record {
      head = x.head;
      reads = whole_head n len s x.head x.within x.reads;
      within = omega arith;
      small = record { short = omega arith; few = x.few };
      taken = x.taken;
    }

pub whole_short_head : (s : List ℕ) (len : ℕ) (r : HeadData) (f : Framing) → length s ≤ head_limit → IsWholeLook s r f len → IsWholeHead s r f len
whole_short_head s len r f short x =
    let all = ap length x.reads.1 in
    let sum = length-append (print_response x.head) (drop len s) in
    record {
      head = x.head;
      reads = x.reads;
      within = x.within;
      small = record { short = omega arith; few = x.few };
      taken = x.taken;
    }
