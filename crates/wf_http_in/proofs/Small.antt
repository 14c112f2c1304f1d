-- Answers are within the limits on heads and bodies.
use Rattle.std.proofs.Common.{◌≡◌, ℕ, ◌+◌, ◌≤◌, true, false, List, [], ◌∷◌, ◌++◌, length, map, reverse, sym, subst, arith, inl, inr, length-append, length-take}
use Rattle.std.specs.List.{flat_map}
use Rattle.std.proofs.lemmas.Bool.{cases_lt, le-leb, lt-ltb, le-ltb, lt-leb}
use Rattle.std.proofs.lemmas.List.{length-map, length-reverse}
use Rattle.std.proofs.lemmas.List.Sums.{sum_by-cons}
use Rattle.std.specs.Prelude.{if◌then◌else◌}
use Rattle.wf_lemmas.proofs.Lists.{end_length}
use Rattle.httparse.specs.Grammar.{ResponseHead, print_response, print_section, print_field, print_end, print_blank, print_version, print_reason, Field, field_value, is_ows, skip_ows, trim_ows}
use Rattle.wf_value.specs.Events.{Response, Broken, TooLong}
use Rattle.wf_value.specs.HttpBody.{Close, Open, Ended, Broke, BodyState, Complete, Framing, NoBody, OfLength, InChunks, ToTheEnd, BadFraming, unless_closed, at_close, length_state, end_state, name_and_value, headers_of}
use Rattle.wf_http_in.specs.AnswerOf.{AnswersAreSmall, framing, fields_size}
use Rattle.wf_http_in.specs.Bodies.{answer_limit, IsBody}
use Rattle.wf_http_in.proofs.Codes.{three_digits}

-- ## Fields
skip_less : (bytes : List ℕ) → length (skip_ows bytes) ≤ length bytes
skip_less [] = omega arith
skip_less (b ∷ bytes) = elim (is_ows b) as (λ t. length (if t then skip_ows bytes else b ∷ bytes) ≤ length (b ∷ bytes)) [
  | true ↦ let less = skip_less bytes in omega arith
  | false ↦ omega arith
]

trim_less : (bytes : List ℕ) → length (trim_ows bytes) ≤ length bytes
unfolding trim_ows
trim_less bytes =
    let front = skip_less bytes in
    let back = skip_less (reverse (skip_ows bytes)) in
    omega (arith, front, back, length-reverse (skip_ows bytes), length-reverse (skip_ows (reverse (skip_ows bytes))))

field_less : (f : Field) → length f.name + length (field_value f) ≤ length (print_field f)
field_less f =
    let value = trim_less f.raw in
    omega (arith, value, length-append (f.name ++ 58 ∷ f.raw) (print_end f.end), length-append f.name (58 ∷ f.raw))

section_less : (fs : List Field) → fields_size (headers_of fs) ≤ length (flat_map print_field fs)
section_less [] = omega arith
section_less (f ∷ fs) =
    let here = field_less f in
    let later = section_less fs in
    let size : fields_size (headers_of (f ∷ fs)) ≡ (length f.name + length (field_value f)) + fields_size (headers_of fs) =
    sum_by-cons (λ g. length g.0 + length g.1) (name_and_value f) (headers_of fs) in
    let bytes : length (flat_map print_field (f ∷ fs)) ≡ length (print_field f) + length (flat_map print_field fs) =
    length-append (print_field f) (flat_map print_field fs) in
    omega (arith, here, later, size, bytes)

head_less : (h : ResponseHead) → fields_size (headers_of h.fields) ≤ length (print_response h)
unfolding print_response
head_less h =
    let fields = section_less h.fields in
    let section = length-append (flat_map print_field h.fields) (print_end h.last) in
    let more = end_length (print_blank h.blank ++ print_version h.minor ++ 32 ∷ h.digits ++ print_reason h.reason ++ print_end h.line_end) (print_section h.fields h.last) in
    omega (arith, fields, section, more)

-- ## Bodies
abbrev Within : ℕ → BodyState → Type 0
Within limit (Complete body) = length body ≤ limit
Within limit s = Unit {0}

abbrev open_within : (limit : ℕ) (close : Close) → Within limit (unless_closed close)
open_within limit Open = tt
open_within limit Ended = tt
open_within limit Broke = tt

close_within : (limit : ℕ) (close : Close) (b : List ℕ) → length b ≤ limit → Within limit (at_close close b)
close_within limit Open b le = tt
close_within limit Ended b le = le
close_within limit Broke b le = tt

length_within : (limit : ℕ) (close : Close) (b : List ℕ) (n : ℕ) → Within limit (length_state limit close b n)
length_within limit close b n = elim (cases_lt limit n) [
  | inl over ↦ rw (lt-ltb limit n over) tt
  | inr fits ↦ rw (le-ltb limit n fits) (elim (cases_lt (length b) n) [
    | inl short ↦ rw (lt-leb n (length b) short) (open_within limit close)
    | inr whole ↦ rw (le-leb n (length b) whole) (let size = length-take n b in omega (arith, size, fits))
  ])
]

end_within : (limit : ℕ) (close : Close) (b : List ℕ) → Within limit (end_state limit close b)
end_within limit close b = elim (cases_lt limit (length b)) [
  | inl over ↦ rw (lt-ltb limit (length b) over) tt
  | inr fits ↦ rw (le-ltb limit (length b) fits) (close_within limit close b fits)
]

body_within : (limit : ℕ) (f : Framing) (close : Close) (b body : List ℕ) → IsBody limit f close b (Complete body) → length body ≤ limit
body_within limit NoBody close b body is = subst (Within limit) (sym is) (omega arith)
body_within limit (OfLength n) close b body is = subst (Within limit) (sym is) (length_within limit close b n)
body_within limit InChunks close b body (cs, rest, has, last, is) = rw is has.within
body_within limit ToTheEnd close b body is = subst (Within limit) (sym is) (end_within limit close b)
body_within limit BadFraming close b body is = cc is

-- ## Answers
pub answers_are_small : AnswersAreSmall
answers_are_small heard close (Response code fields body) (h, (b, has, state), code_is, fields_are) = record {
  code_most = let digits = three_digits h has.reads.0 in omega (arith, digits, code_is);
  few = let few = has.small.few in rw fields_are (omega (arith, few, length-map h.fields name_and_value));
  short = let head = head_less h in let short = has.small.short in rw fields_are (omega (arith, head, short));
  body_most = body_within answer_limit (framing h) close b body state;
}
answers_are_small heard close Broken x = tt
answers_are_small heard close TooLong x = tt
