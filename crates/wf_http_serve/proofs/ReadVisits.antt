-- The bytes of each visit come to a state.
use Rattle.std.proofs.Common.{◌≡◌, ◌⊎◌, ℕ, ◌<◌, ◌≤◌, Bool, true, false, List, length, refl, sym, ap, ◌∙◌, subst, arith, inl, inr, length-append}
use Rattle.std.proofs.lemmas.Bool.{cases_lt}
use Rattle.httparse.specs.Grammar.{RequestHead, ReadsRequest, print_request, HasNoRequest, NeverHasRequest}
use Rattle.httparse.proofs.GrammarLemmas.{request_unique}
use Rattle.wf_value.specs.HttpBody.{Close, Open, Ended, Broke, BodyState, Complete, Waiting, Malformed, Oversize, headers_of, head_limit, field_limit}
use Rattle.wf_http_serve.specs.Visits.{VisitState, NotYet, Bad, TooLarge, Asks, VisitOf, HasHead, HasBody, IsBadHead, IsHeadless, has_first_line, framing, IsVisitBody}
use Rattle.wf_http_serve.proofs.Fronts.{never_is_none, headless_yet}
use Rattle.wf_http_serve.specs.HeadsRead.{ReadRequest}
use Rattle.wf_http_serve.specs.HeadsRead as request
use Rattle.wf_http_serve.specs.VisitLaws.{EachVisitHasAState}
use Rattle.wf_http_serve.proofs.ReadBodies.{BodyOf, body_of}
use Rattle.wf_http_serve.proofs.ReadHeads.{each_text_is_read}

ended_apart : Ended ≡ Open → ⊥
ended_apart e = cc e

broke_apart : Broke ≡ Open → ⊥
broke_apart e = cc e

module _ (heard : List ℕ) where
  abbrev Told : Close → Type 0
  Told close = (s : VisitState) × VisitOf heard close s

  -- a head isn't whole
  headless : (close : Close) → IsHeadless heard → Told close
  headless Open x = (NotYet, (refl, inr x))
  headless Ended x = (Bad, inr (inr (ended_apart, x)))
  headless Broke x = (Bad, inr (inr (broke_apart, x)))

  bad_head : (close : Close) → IsBadHead heard → Told close
  bad_head close x = (Bad, inr (inl x))

  -- no head is whole, and more than its limit was heard
  no_head : (close : Close) → HasNoRequest heard → head_limit < length heard → Told close
  no_head close none long = bad_head close (inr (inl (record { heard_more = long; heads = λ h b x. absurd (none h b x) })))

  by_body : (close : Close) (h : RequestHead) (rest : List ℕ) → HasHead heard h rest → BodyOf (framing (headers_of h.fields)) close rest → Told close
  by_body close h rest head x = at x.state refl
    where
      has : (s : BodyState) → x.state ≡ s → HasBody heard close h s
      has s is = record { rest = rest; head = head; body = subst (IsVisitBody (framing (headers_of h.fields)) close rest) is x.body }

      at : (s : BodyState) → x.state ≡ s → Told close
      at (Complete body) is = (Asks h.method h.target (headers_of h.fields) body, (h, has (Complete body) is, refl, refl, refl))
      at Waiting is = (NotYet, (x.waits is, inl (h, has Waiting is)))
      at Malformed is = (Bad, inl (h, has Malformed is))
      at Oversize is = (TooLarge, (h, has Oversize is))

  by_head : (close : Close) (h : RequestHead) (rest : List ℕ) → ReadsRequest heard h rest → (head_limit < length (print_request h)) ⊎ (length (print_request h) ≤ head_limit) → (field_limit < length h.fields) ⊎ (length h.fields ≤ field_limit) → Told close
  by_head close h rest x (inl long) y = bad_head close (inr (inl (record {
    heard_more = let n = ap length x.1 in let m = length-append (print_request h) rest in omega (arith, n, m, long);
    heads = λ k b z.
        let same = request_unique heard k h b rest z x in
        let size : length (print_request k) ≡ length (print_request h) = ap (λ (g : RequestHead). length (print_request g)) same.0 in
        omega (arith, size, long);
  })))
  by_head close h rest x (inr short) (inl many) = bad_head close (inr (inr (h, rest, x, many)))
  by_head close h rest x (inr short) (inr few) = by_body close h rest (record { reads = x; small = record { short = short; few = few } }) (body_of (framing (headers_of h.fields)) close rest)

  by_line : (close : Close) → NeverHasRequest heard → (t : Bool) → has_first_line heard ≡ t → (head_limit < length heard) ⊎ (length heard ≤ head_limit) → Told close
  by_line close off true is y = bad_head close (inl (is, off))
  by_line close off false is (inl long) = no_head close (never_is_none heard off) long
  by_line close off false is (inr short) = headless close (record { none = never_is_none heard off; possible = λ line. let f : true ≡ false = sym line ∙ is in absurd (cc f); short = short })

  by_read : (close : Close) → ReadRequest heard → Told close
  by_read close (request.whole h rest x) = by_head close h rest x (cases_lt head_limit (length (print_request h))) (cases_lt field_limit (length h.fields))
  by_read close (request.part none may) = by_heard (cases_lt head_limit (length heard))
    where
      by_heard : (head_limit < length heard) ⊎ (length heard ≤ head_limit) → Told close
      by_heard (inl long) = no_head close none long
      by_heard (inr short) = headless close (headless_yet heard short none may)
  by_read close (request.never off) = by_line close off (has_first_line heard) refl (cases_lt head_limit (length heard))

pub each_visit_has_a_state : EachVisitHasAState
each_visit_has_a_state heard close = by_read heard close (each_text_is_read heard)
