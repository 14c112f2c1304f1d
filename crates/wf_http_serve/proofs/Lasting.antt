-- What is settled stays so, whatever is heard behind it.
use Rattle.std.proofs.Common.{◌≡◌, ℕ, ◌-◌, List, [], ◌∷◌, ◌++◌, length, take, Bool, true, false, ◌==◌, if◌then◌else◌, refl, sym, subst, arith, inl, inr, append_assoc, length-append}
use Rattle.std.specs.List.{list_any}
use Rattle.std.proofs.lemmas.List.Folds.{list_any-append}
use Rattle.std.proofs.lemmas.Bool.{cases_lt, false≢true}
use Rattle.httparse.specs.Grammar.{RequestHead, print_request, ReadsRequest, NeverHasRequest}
use Rattle.httparse.specs.Pieces.{is_newline}
use Rattle.httparse.proofs.GrammarLemmas.{ReadsRequest-append}
use Rattle.wf_http_serve.specs.Visits.{has_first_line, HasHead, IsLongHead, IsBadHead, VisitState, VisitOf}
use Rattle.wf_http_serve.specs.Stages.{Stays}
use Rattle.wf_http_body.proofs.Fronts.{front_of}

-- ## Heads
pub head_stays : (heard more : List ℕ) (h : RequestHead) (b : List ℕ) → HasHead heard h b → HasHead (heard ++ more) h (b ++ more)
head_stays heard more h b x = record { reads = ReadsRequest-append heard h b more x.reads; small = x.small }

never_stays : (heard more : List ℕ) → NeverHasRequest heard → NeverHasRequest (heard ++ more)
never_stays heard more never extra h rest x = never (more ++ extra) h rest (subst (λ (s : List ℕ). ReadsRequest s h rest) (append_assoc heard more extra) x)

line_step : (t : Bool) (heard more : List ℕ) → (has_first_line heard ≡ true → has_first_line (heard ++ more) ≡ true)
    → (if t then has_first_line heard else list_any (λ c. c == 10) heard) ≡ true → (if t then has_first_line (heard ++ more) else list_any (λ c. c == 10) (heard ++ more)) ≡ true
line_step true heard more stays e = stays e
line_step false heard more stays e = rw (list_any-append (λ c. c == 10) heard more, e) refl

line_stays : (heard more : List ℕ) → has_first_line heard ≡ true → has_first_line (heard ++ more) ≡ true
line_stays [] more h = absurd (false≢true h)
line_stays (b ∷ heard) more h = line_step (is_newline b) heard more (line_stays heard more) h

long_head_stays : (heard more : List ℕ) → IsLongHead heard → IsLongHead (heard ++ more)
long_head_stays heard more long = record {
  heard_more = let size = length-append heard more in let big = long.heard_more in omega arith;
  heads = λ h b x. elim (cases_lt (length heard) (length (print_request h))) [
    | inl lt ↦ let big = long.heard_more in omega arith
    | inr le ↦ long.heads h (take (length heard - length (print_request h)) b) (x.0, front_of heard more (print_request h) b x.1 le)
  ];
}

bad_head_stays : (heard more : List ℕ) → IsBadHead heard → IsBadHead (heard ++ more)
bad_head_stays heard more (inl (line, never)) = inl (line_stays heard more line, never_stays heard more never)
bad_head_stays heard more (inr (inl long)) = inr (inl (long_head_stays heard more long))
bad_head_stays heard more (inr (inr (h, b, x, many))) = inr (inr (h, b ++ more, ReadsRequest-append heard h b more x, many))

pub bad_heads : (heard : List ℕ) → IsBadHead heard → Stays heard VisitState.Bad
bad_heads heard bad more close = inr (inl (bad_head_stays heard more bad))

pub again : (heard piece : List ℕ) (s : VisitState) → Stays heard s → Stays (heard ++ piece) s
again heard piece s stays more close = subst (λ (b : List ℕ). VisitOf b close s) (sym (append_assoc heard piece more)) (stays (piece ++ more) close)
