-- The same bytes have one answer, by how the connection stands.
use Rattle.std.proofs.Common.{◌≡◌, ◌≢◌, ℕ, List, [], ◌∷◌, ◌++◌, length, All, Option, Some, None, IsTrue, IsFalse, true, false, true≢false, refl, sym, ap, ap₂, ◌∙◌, subst, arith, inl, inr, append-nil}
use Rattle.std.proofs.lemmas.List.{drop_at}
use Rattle.std.proofs.lemmas.List.Elements.{All-head, All-drop}
use Rattle.httparse.specs.Grammar.{ResponseHead, IsResponseHead, print_response, ReadsResponse, status_code, NeverHasResponse, HasNoResponse, MayBecomeResponse}
use Rattle.httparse.proofs.GrammarLemmas.{response_unique}
use Rattle.wf_value.specs.Events.{Reply, Response, Broken, TooLong}
use Rattle.wf_value.specs.HttpBody.{Close, Open, Ended, Broke, BodyState, Complete, Waiting, Malformed, Oversize, Framing, NoBody, OfLength, InChunks, ToTheEnd, BadFraming, headers_of}
use Rattle.wf_http_body.proofs.OneBody.{one_body}
use Rattle.wf_http_body.proofs.Printed.{GoesOn, Compares, compare}
use Rattle.wf_http_in.specs.AnswerOf.{AnswerOf, HasBody, framing}
use Rattle.wf_http_in.specs.Bodies.{answer_limit, IsBody}
use Rattle.wf_http_in.specs.Heads.{is_interim, IsSmallResponse, SkipsHeads, BehindInterim, IsHeadless, IsBadHead}
use Rattle.wf_http_in.specs.Stages.{unfinished}

-- ## One head
one_response : (h k : ResponseHead) (r q : List ℕ) → IsResponseHead h → IsResponseHead k → print_response h ++ r ≡ print_response k ++ q → (h ≡ k) × (r ≡ q)
one_response h k r q x y e = response_unique (print_response h ++ r) h k r q (x, refl) (y, e)

never_or_may : (b : List ℕ) → NeverHasResponse b → MayBecomeResponse b → ⊥
never_or_may b never (more, h, reads) = never more h [] reads

-- a whole head within the limits, and the bytes behind it
pub record IsWhole (b : List ℕ) (h : ResponseHead) (behind : List ℕ) : Type 0 where
  pub reads : ReadsResponse b h behind
  pub small : IsSmallResponse h

whole_or_headless : (b : List ℕ) (h : ResponseHead) (behind : List ℕ) → IsWhole b h behind → IsHeadless b → ⊥
whole_or_headless b h behind x less = less.none h behind x.reads

whole_or_bad : (b : List ℕ) (h : ResponseHead) (behind : List ℕ) → IsWhole b h behind → IsBadHead b → ⊥
whole_or_bad b h behind x (inl never) = subst HasNoResponse (append-nil b) (never []) h behind x.reads
whole_or_bad b h behind x (inr (inl long)) =
    let big = long.heads h behind x.reads in
    let small = x.small.short in
    omega arith
whole_or_bad b h behind x (inr (inr (k, rest, reads, many))) =
    let same = response_unique b h k behind rest x.reads reads in
    let few = x.small.few in
    let size = ap (λ (g : ResponseHead). length g.fields) same.0 in
    omega arith

bad_or_headless : (b : List ℕ) → IsBadHead b → IsHeadless b → ⊥
bad_or_headless b (inl never) x = never_or_may b never x.possible
bad_or_headless b (inr (inl long)) x = let big = long.heard in let small = x.short in omega arith
bad_or_headless b (inr (inr (h, rest, reads, many))) x = x.none h rest reads

-- ## What stands behind the interim heads
pub data Found : Type 0 where
  final : ResponseHead → List ℕ → Found
  bad yet : Found

abbrev pub IsFound : Found → List ℕ → Type 0
IsFound (final h behind) b = IsWhole b h behind × IsFalse (is_interim h)
IsFound bad b = IsBadHead b
IsFound yet b = IsHeadless b

-- an interim head more
record IsNext (b : List ℕ) : Type 0 where
  head : ResponseHead
  behind : List ℕ
  whole : IsWhole b head behind
  interim : IsTrue (is_interim head)

final_or_next : (b behind : List ℕ) (h : ResponseHead) → IsWhole b h behind → IsFalse (is_interim h) → IsNext b → ⊥
final_or_next b behind h x last next =
    let same = response_unique b h next.head behind next.behind x.reads next.whole.reads in
    true≢false (sym (subst (λ (g : ResponseHead). IsTrue (is_interim g)) (sym same.0) next.interim) ∙ last)

stops : (f : Found) (b : List ℕ) → IsFound f b → IsNext b → ⊥
stops (final h behind) b x next = final_or_next b behind h x.0 x.1 next
stops bad b x next = whole_or_bad b next.head next.behind next.whole x
stops yet b x next = whole_or_headless b next.head next.behind next.whole x

same_final : (b : List ℕ) (h k : ResponseHead) (r q : List ℕ) → IsWhole b h r → IsWhole b k q → final h r ≡ final k q
same_final b h k r q x y = let same = response_unique b h k r q x.reads y.reads in ap₂ final same.0 same.1

one_found : (f g : Found) (b : List ℕ) → IsFound f b → IsFound g b → f ≡ g
one_found (final h r) (final k q) b x y = same_final b h k r q x.0 y.0
one_found (final h r) bad b x y = absurd (whole_or_bad b h r x.0 y)
one_found (final h r) yet b x y = absurd (whole_or_headless b h r x.0 y)
one_found bad (final k q) b x y = absurd (whole_or_bad b k q y.0 x)
one_found bad bad b x y = refl
one_found bad yet b x y = absurd (bad_or_headless b x y)
one_found yet (final k q) b x y = absurd (whole_or_headless b k q y.0 x)
one_found yet bad b x y = absurd (bad_or_headless b y x)
one_found yet yet b x y = refl

all_behind : {A : Type 0} (P : A → Type 0) (xs ys : List A) → All P (xs ++ ys) → All P ys
all_behind P xs ys all = subst (All P) (drop_at xs ys (length xs) refl) (All-drop P (length xs) (xs ++ ys) all)

abbrev IsInterim : ResponseHead → Type 0
IsInterim h = IsTrue (is_interim h)

next_stands : (heard rest other : List ℕ) (hs gs : List ResponseHead) → SkipsHeads heard gs other → GoesOn IsResponseHead print_response hs gs rest → IsNext rest
next_stands heard rest other hs gs skips on = record {
  head = on.next;
  behind = on.behind;
  whole = record {
    reads = (on.next_is, on.bytes);
    small = All-head IsSmallResponse on.next on.more (all_behind IsSmallResponse hs (on.next ∷ on.more) (subst (All IsSmallResponse) on.all skips.small));
  };
  interim = All-head IsInterim on.next on.more (all_behind IsInterim hs (on.next ∷ on.more) (subst (All IsInterim) on.all skips.codes));
}

same_rest : (heard : List ℕ) (f g : Found) (hs gs : List ResponseHead) (rest other : List ℕ) → SkipsHeads heard hs rest → SkipsHeads heard gs other
    → IsFound f rest → IsFound g other → Compares IsResponseHead print_response hs gs rest other → rest ≡ other
same_rest heard f g hs gs rest other x y p q (inl same) = same.1
same_rest heard f g hs gs rest other x y p q (inr (inl on)) = absurd (stops f rest p (next_stands heard rest other hs gs y on))
same_rest heard f g hs gs rest other x y p q (inr (inr on)) = absurd (stops g other q (next_stands heard other rest gs hs x on))

pub one_head : (heard : List ℕ) (f g : Found) → BehindInterim heard (IsFound f) → BehindInterim heard (IsFound g) → f ≡ g
one_head heard f g (hs, rest, x, p) (gs, other, y, q) =
    let ways = compare IsResponseHead print_response one_response hs gs rest other x.heads y.heads (sym x.bytes ∙ y.bytes) in
    let same = same_rest heard f g hs gs rest other x y p q ways in
    one_found f g other (subst (IsFound f) same p) q

-- ## One body
pub one_state : (f : Framing) (close : Close) (b : List ℕ) (s t : BodyState) → IsBody answer_limit f close b s → IsBody answer_limit f close b t → s ≡ t
one_state NoBody close b s t x y = x ∙ sym y
one_state (OfLength n) close b s t x y = x ∙ sym y
one_state InChunks close b s t x y = one_body answer_limit close b s t x y
one_state ToTheEnd close b s t x y = x ∙ sym y
one_state BadFraming close b s t x y = x ∙ sym y

-- ## One answer
abbrev reply_of : ResponseHead → BodyState → Option Reply
reply_of h (Complete body) = Some (Response (status_code h) (headers_of h.fields) body)
reply_of h Waiting = None
reply_of h Malformed = Some Broken
reply_of h Oversize = Some TooLong

-- an answer, by what stands behind the interim heads
abbrev IsAnswer : Close → Found → Option Reply → Type 0
IsAnswer close (final h b) a = (s : BodyState) × IsBody answer_limit (framing h) close b s × (a ≡ reply_of h s)
IsAnswer close bad a = a ≡ Some Broken
IsAnswer close yet a = a ≡ unfinished close

record IsTold (heard : List ℕ) (close : Close) (a : Option Reply) : Type 0 where
  found : Found
  behind : BehindInterim heard (IsFound found)
  answer_is : IsAnswer close found a

same_answer : (close : Close) (f : Found) (a b : Option Reply) → IsAnswer close f a → IsAnswer close f b → a ≡ b
same_answer close (final h behind) a b (s, x, p) (t, y, q) = p ∙ ap (reply_of h) (one_state (framing h) close behind s t x y) ∙ sym q
same_answer close bad a b p q = p ∙ sym q
same_answer close yet a b p q = p ∙ sym q

told_body : (heard : List ℕ) (close : Close) (a : Option Reply) (h : ResponseHead) (s : BodyState) → HasBody heard close h s → a ≡ reply_of h s → IsTold heard close a
told_body heard close a h s (b, has, body) is = record {
  found = final h b;
  behind = (has.interim, has.rest, has.skips, (record { reads = has.reads; small = has.small }, has.final));
  answer_is = (s, body, is);
}

told_bad : (heard : List ℕ) (close : Close) (a : Option Reply) → BehindInterim heard IsBadHead → a ≡ Some Broken → IsTold heard close a
told_bad heard close a behind is = record { found = bad; behind = behind; answer_is = is }

told_yet : (heard : List ℕ) (close : Close) (a : Option Reply) → BehindInterim heard IsHeadless → a ≡ unfinished close → IsTold heard close a
told_yet heard close a behind is = record { found = yet; behind = behind; answer_is = is }

closed_answer : (close : Close) → close ≢ Open → Some Broken ≡ unfinished close
closed_answer Open not = absurd (not refl)
closed_answer Ended not = refl
closed_answer Broke not = refl

response_is : (h : ResponseHead) (code : ℕ) (fields : _) (body : List ℕ) → code ≡ status_code h → fields ≡ headers_of h.fields
    → Some (Response code fields body) ≡ reply_of h (Complete body)
response_is h code fields body p q = ap₂ (λ n f. Some (Response n f body)) p q

told : (heard : List ℕ) (close : Close) (a : Option Reply) → AnswerOf heard close a → IsTold heard close a
told heard close (Some (Response code fields body)) (h, has, p, q) = told_body heard close _ h (Complete body) has (response_is h code fields body p q)
told heard close (Some TooLong) (h, has) = told_body heard close _ h Oversize has refl
told heard close (Some Broken) (inl (h, has)) = told_body heard close _ h Malformed has refl
told heard close (Some Broken) (inr (inl behind)) = told_bad heard close _ behind refl
told heard close (Some Broken) (inr (inr (not, behind))) = told_yet heard close _ behind (closed_answer close not)
told heard close None (open_is, inl (h, has)) = told_body heard close _ h Waiting has refl
told heard close None (open_is, inr behind) = told_yet heard close _ behind (ap unfinished (sym open_is))

one_told : (heard : List ℕ) (close : Close) (a b : Option Reply) → IsTold heard close a → IsTold heard close b → a ≡ b
one_told heard close a b x y =
    let same = one_head heard x.found y.found x.behind y.behind in
    same_answer close y.found a b (subst (λ (f : Found). IsAnswer close f a) same x.answer_is) y.answer_is

pub one_answer : (heard : List ℕ) (close : Close) (a b : Option Reply) → AnswerOf heard close a → AnswerOf heard close b → a ≡ b
one_answer heard close a b x y = one_told heard close a b (told heard close a x) (told heard close b y)
