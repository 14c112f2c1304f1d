-- What is asked stays, whatever is heard behind it.
use Rattle.std.proofs.Common.{◌≡◌, ◌≤◌, ℕ, Bool, true, false, nat_lt, nat_le, if◌then◌else◌, List, [], ◌∷◌, ◌++◌, length, take, codes, refl, sym, subst, arith, length-append}
use Rattle.std.proofs.lemmas.List.{take-append-le}
use Rattle.std.proofs.lemmas.Bool.{leb-true, le-leb}
use Rattle.wf_value.specs.Events.{Headers}
use Rattle.wf_value.specs.HttpBody.{Close, Open, Ended, Broke, Complete, Oversize, Framing, NoBody, OfLength, InChunks, ToTheEnd, BadFraming, headers_of, by_length, lengths_in, is_chunked, length_state, unless_closed}
use Rattle.wf_value.specs.HttpText.{values_of}
use Rattle.wf_http_body.proofs.Lasting.{chunks_stay, last_stays}
use Rattle.wf_http_serve.proofs.Lasting.{head_stays}
use Rattle.wf_http_serve.proofs.OneVisit.{one_state}
use Rattle.wf_http_serve.specs.Visits.{VisitState, VisitOf, IsVisitBody, framing, visit_limit}
use Rattle.wf_http_serve.specs.VisitLaws.{AskedStays, AskedOfAFront, FrontsAskOne}

-- ## A visit's body never goes to the end
abbrev NotToTheEnd : Framing → Type 0
NotToTheEnd ToTheEnd = ⊥
NotToTheEnd f = Unit {0}

length_not : (b : Bool) (n : ℕ) → NotToTheEnd (if b then OfLength n else BadFraming)
length_not true n = tt
length_not false n = tt

by_length_not : (vs : List (List ℕ)) → NotToTheEnd (by_length NoBody vs)
by_length_not [] = tt
by_length_not (v ∷ vs) = length_not _ _

chunked_not : (b : Bool) → NotToTheEnd (if b then InChunks else BadFraming)
chunked_not true = tt
chunked_not false = tt

coded_not : (cs ls : List (List ℕ)) → NotToTheEnd (elim cs [ [] ↦ by_length NoBody ls | v ∷ vs ↦ if is_chunked (v ∷ vs) then InChunks else BadFraming ])
coded_not [] ls = by_length_not ls
coded_not (v ∷ vs) ls = chunked_not _

either_not : (b : Bool) (f : Framing) → NotToTheEnd f → NotToTheEnd (if b then BadFraming else f)
either_not true f not = tt
either_not false f not = not

framing_not : (fs : Headers) → NotToTheEnd (framing fs)
framing_not fs = either_not _ _ (coded_not (values_of (codes "transfer-encoding") fs) (lengths_in fs))

-- ## Bodies
closed_not : (close : Close) (body : List ℕ) → unless_closed close ≡ Complete body → ⊥
closed_not Open body e = cc e
closed_not Ended body e = cc e
closed_not Broke body e = cc e

-- whether the length is told to be over the limit, and whether it was heard
by_tests : (over heard heard2 : Bool) (close later : Close) (b c body : List ℕ) → (heard ≡ true → (heard2 ≡ true) × (c ≡ b))
    → Complete body ≡ (if over then Oversize else (if heard then Complete b else unless_closed close))
    → Complete body ≡ (if over then Oversize else (if heard2 then Complete c else unless_closed later))
by_tests true heard heard2 close later b c body stays e = absurd cc
by_tests false false heard2 close later b c body stays e = absurd (closed_not close body (sym e))
by_tests false true heard2 close later b c body stays e = let s = stays refl in rw (s.0, s.1) e

length_stays : (n : ℕ) (close later : Close) (b more body : List ℕ) → Complete body ≡ length_state visit_limit close b n → Complete body ≡ length_state visit_limit later (b ++ more) n
length_stays n close later b more body e =
    by_tests (nat_lt visit_limit n) (nat_le n (length b)) (nat_le n (length (b ++ more))) close later (take n b) (take n (b ++ more)) body (λ heard.
    let le : n ≤ length b = leb-true n (length b) heard in
    let size = length-append b more in
    (le-leb n (length (b ++ more)) (omega (arith, le, size)), take-append-le n b more le)) e

body_stays : (f : Framing) (close later : Close) (b more body : List ℕ) → NotToTheEnd f → IsVisitBody f close b (Complete body) → IsVisitBody f later (b ++ more) (Complete body)
body_stays NoBody close later b more body not x = x
body_stays (OfLength n) close later b more body not x = length_stays n close later b more body x
body_stays InChunks close later b more body not (cs, rest, chunks, last, is) = (cs, rest ++ more, chunks_stay visit_limit b more rest cs chunks, last_stays rest more last, is)
body_stays ToTheEnd close later b more body not x = absurd not
body_stays BadFraming close later b more body not x = x

pub asked_stays : AskedStays
asked_stays heard more close later name target fs body (h, has, p, q, r) = (
  h,
  record { rest = has.rest ++ more; head = head_stays heard more h has.rest has.head; body = body_stays (framing (headers_of h.fields)) close later has.rest more body (framing_not (headers_of h.fields)) has.body },
  p,
  q,
  r,
)

-- it is asked of all of the text then
of_all : (text : List ℕ) (asked : VisitState) → AskedOfAFront text asked → VisitOf text Open asked
of_all text asked h =
    let stays = asked_stays h.front h.rest h.close Open h.method h.target h.fields h.body (subst (VisitOf h.front h.close) h.is h.heard) in
    subst (λ (t : List ℕ). VisitOf t Open asked) (sym h.parts) (subst (VisitOf (h.front ++ h.rest) Open) (sym h.is) stays)

pub fronts_ask_one : FrontsAskOne
fronts_ask_one text one other h k = one_state text Open one other (of_all text one h) (of_all text other k)
