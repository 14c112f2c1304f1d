-- The same bytes of a visit come to one state, by how the connection stands.
use Rattle.std.proofs.Common.{◌≡◌, ◌≢◌, ℕ, List, length, refl, sym, ap, ap₂, ◌∙◌, subst, arith, inl, inr}
use Rattle.httparse.specs.Grammar.{RequestHead}
use Rattle.httparse.proofs.GrammarLemmas.{request_unique}
use Rattle.wf_value.specs.Events.{Headers}
use Rattle.wf_value.specs.HttpBody.{Close, Open, Ended, Broke, BodyState, Complete, Waiting, Malformed, Oversize, Framing, NoBody, OfLength, InChunks, ToTheEnd, BadFraming, headers_of}
use Rattle.wf_value.specs.Pairs.{Text}
use Rattle.wf_http_body.proofs.OneBody.{one_body}
use Rattle.wf_http_serve.specs.Visits.{VisitState, VisitOf, NotYet, Bad, TooLarge, Asks, HasHead, HasBody, IsBadHead, IsHeadless, IsVisitBody, framing, visit_limit}
use Rattle.wf_http_serve.proofs.Fronts.{never_is_none}

-- ## One head
whole_or_bad : (heard : List ℕ) (h : RequestHead) (b : List ℕ) → HasHead heard h b → IsBadHead heard → ⊥
whole_or_bad heard h b x (inl (line, never)) = never_is_none heard never h b x.reads
whole_or_bad heard h b x (inr (inl long)) =
    let big = long.heads h b x.reads in
    let small = x.small.short in
    omega arith
whole_or_bad heard h b x (inr (inr (k, rest, reads, many))) =
    let same = request_unique heard h k b rest x.reads reads in
    let few = x.small.few in
    let size = ap (λ (g : RequestHead). length g.fields) same.0 in
    omega arith

bad_or_headless : (heard : List ℕ) → IsBadHead heard → IsHeadless heard → ⊥
bad_or_headless heard (inl (line, never)) x = x.possible line never
bad_or_headless heard (inr (inl long)) x = let big = long.heard_more in let small = x.short in omega arith
bad_or_headless heard (inr (inr (h, b, reads, many))) x = x.none h b reads

-- what stands at the front
pub data Found : Type 0 where
  head : RequestHead → List ℕ → Found
  wrong yet : Found

abbrev pub IsFound : Found → List ℕ → Type 0
IsFound (head h b) heard = HasHead heard h b
IsFound wrong heard = IsBadHead heard
IsFound yet heard = IsHeadless heard

same_head : (heard : List ℕ) (h k : RequestHead) (b c : List ℕ) → HasHead heard h b → HasHead heard k c → head h b ≡ head k c
same_head heard h k b c x y = let same = request_unique heard h k b c x.reads y.reads in ap₂ head same.0 same.1

pub one_head : (f g : Found) (heard : List ℕ) → IsFound f heard → IsFound g heard → f ≡ g
one_head (head h b) (head k c) heard x y = same_head heard h k b c x y
one_head (head h b) wrong heard x y = absurd (whole_or_bad heard h b x y)
one_head (head h b) yet heard x y = absurd (y.none h b x.reads)
one_head wrong (head k c) heard x y = absurd (whole_or_bad heard k c y x)
one_head wrong wrong heard x y = refl
one_head wrong yet heard x y = absurd (bad_or_headless heard x y)
one_head yet (head k c) heard x y = absurd (x.none k c y.reads)
one_head yet wrong heard x y = absurd (bad_or_headless heard y x)
one_head yet yet heard x y = refl

-- ## One body
pub one_visit_body : (f : Framing) (close : Close) (b : List ℕ) (s t : BodyState) → IsVisitBody f close b s → IsVisitBody f close b t → s ≡ t
one_visit_body NoBody close b s t x y = x ∙ sym y
one_visit_body (OfLength n) close b s t x y = x ∙ sym y
one_visit_body InChunks close b s t x y = one_body visit_limit close b s t x y
one_visit_body ToTheEnd close b s t x y = x ∙ sym y
one_visit_body BadFraming close b s t x y = x ∙ sym y

-- ## One state
abbrev state_of : RequestHead → BodyState → VisitState
state_of h (Complete body) = Asks h.method h.target (headers_of h.fields) body
state_of h Waiting = NotYet
state_of h Malformed = Bad
state_of h Oversize = TooLarge

abbrev unfinished : Close → VisitState
unfinished Open = NotYet
unfinished Ended = Bad
unfinished Broke = Bad

-- a state, by what stands at the front
abbrev IsState : Close → Found → VisitState → Type 0
IsState close (head h b) v = (s : BodyState) × IsVisitBody (framing (headers_of h.fields)) close b s × (v ≡ state_of h s)
IsState close wrong v = v ≡ Bad
IsState close yet v = v ≡ unfinished close

record IsTold (heard : List ℕ) (close : Close) (v : VisitState) : Type 0 where
  found : Found
  front : IsFound found heard
  state_is : IsState close found v

same_state : (close : Close) (f : Found) (v w : VisitState) → IsState close f v → IsState close f w → v ≡ w
same_state close (head h b) v w (s, x, p) (t, y, q) = p ∙ ap (state_of h) (one_visit_body (framing (headers_of h.fields)) close b s t x y) ∙ sym q
same_state close wrong v w p q = p ∙ sym q
same_state close yet v w p q = p ∙ sym q

told_body : (heard : List ℕ) (close : Close) (v : VisitState) (h : RequestHead) (s : BodyState) → HasBody heard close h s → v ≡ state_of h s → IsTold heard close v
told_body heard close v h s x is = record { found = head h x.rest; front = x.head; state_is = (s, x.body, is) }

closed_state : (close : Close) → close ≢ Open → Bad ≡ unfinished close
closed_state Open not = absurd (not refl)
closed_state Ended not = refl
closed_state Broke not = refl

asks_is : (h : RequestHead) (method target : Text) (fields : Headers) (body : List ℕ) → method ≡ h.method → target ≡ h.target → fields ≡ headers_of h.fields
    → Asks method target fields body ≡ state_of h (Complete body)
asks_is h method target fields body p q r = cc (p, q, r)

told : (heard : List ℕ) (close : Close) (v : VisitState) → VisitOf heard close v → IsTold heard close v
told heard close (Asks method target fields body) (h, has, p, q, r) = told_body heard close _ h (Complete body) has (asks_is h method target fields body p q r)
told heard close TooLarge (h, has) = told_body heard close _ h Oversize has refl
told heard close Bad (inl (h, has)) = told_body heard close _ h Malformed has refl
told heard close Bad (inr (inl x)) = record { found = wrong; front = x; state_is = refl }
told heard close Bad (inr (inr (not, x))) = record { found = yet; front = x; state_is = closed_state close not }
told heard close NotYet (open_is, inl (h, has)) = told_body heard close _ h Waiting has refl
told heard close NotYet (open_is, inr x) = record { found = yet; front = x; state_is = ap unfinished (sym open_is) }

one_told : (heard : List ℕ) (close : Close) (v w : VisitState) → IsTold heard close v → IsTold heard close w → v ≡ w
one_told heard close v w x y =
    let same = one_head x.found y.found heard x.front y.front in
    same_state close y.found v w (subst (λ (f : Found). IsState close f v) same x.state_is) y.state_is

pub one_state : (heard : List ℕ) (close : Close) (v w : VisitState) → VisitOf heard close v → VisitOf heard close w → v ≡ w
one_state heard close v w x y = one_told heard close v w (told heard close v x) (told heard close w y)
