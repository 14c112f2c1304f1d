-- Requests are within the limits on heads and bodies.
use Rattle.std.proofs.Common.{◌≡◌, ℕ, ◌+◌, ◌≤◌, true, false, List, [], ◌∷◌, ◌++◌, length, map, filter, cond, Bool, reverse, sym, ap, subst, arith, inl, inr, length-append, length-take}
use Rattle.std.specs.List.{flat_map}
use Rattle.std.proofs.lemmas.Bool.{cases_lt, le-leb, lt-ltb, le-ltb, lt-leb}
use Rattle.std.proofs.lemmas.List.{length-map, length-reverse}
use Rattle.std.proofs.lemmas.List.Sums.{sum_by-cons}
use Rattle.std.specs.Prelude.{if◌then◌else◌}
use Rattle.wf_lemmas.proofs.Lists.{end_length, same_head}
use Rattle.httparse.specs.Grammar.{RequestHead, print_request, print_section, print_field, print_end, print_blank, print_version, Field, field_value, is_ows, skip_ows, trim_ows}
use Rattle.wf_value.specs.Events.{Headers}
use Rattle.wf_value.specs.HttpText.{values_of, is_field_named}
use Rattle.wf_value.specs.HttpBody.{Close, Open, Ended, Broke, BodyState, Complete, Framing, NoBody, OfLength, InChunks, ToTheEnd, BadFraming, unless_closed, at_close, length_state, end_state, name_and_value, headers_of}
use Rattle.wf_http_serve.specs.Visits.{IsVisitBody, visit_limit, framing}
use Rattle.wf_http_serve.specs.Small.{fields_size, VisitsAreSmall, LoneValuesAreSmall}

-- ## Fields
skip_less : (bytes : List ℕ) → length (skip_ows bytes) ≤ length bytes
skip_less [] = omega arith
skip_less (b ∷ bytes) = elim (is_ows b) as (λ t. length (if t then skip_ows bytes else b ∷ bytes) ≤ length (b ∷ bytes)) [
  | true ↦ let less = skip_less bytes in omega arith
  | false ↦ omega arith
]

trim_less : (bytes : List ℕ) → length (trim_ows bytes) ≤ length bytes
unfolding trim_ows
trim_less bytes =
    let front = skip_less bytes in
    let back = skip_less (reverse (skip_ows bytes)) in
    omega (arith, front, back, length-reverse (skip_ows bytes), length-reverse (skip_ows (reverse (skip_ows bytes))))

field_less : (f : Field) → length f.name + length (field_value f) ≤ length (print_field f)
field_less f =
    let value = trim_less f.raw in
    omega (arith, value, length-append (f.name ++ 58 ∷ f.raw) (print_end f.end), length-append f.name (58 ∷ f.raw))

section_less : (fs : List Field) → fields_size (headers_of fs) ≤ length (flat_map print_field fs)
section_less [] = omega arith
section_less (f ∷ fs) =
    let here = field_less f in
    let later = section_less fs in
    let size : fields_size (headers_of (f ∷ fs)) ≡ (length f.name + length (field_value f)) + fields_size (headers_of fs) =
    sum_by-cons (λ g. length g.0 + length g.1) (name_and_value f) (headers_of fs) in
    let bytes : length (flat_map print_field (f ∷ fs)) ≡ length (print_field f) + length (flat_map print_field fs) =
    length-append (print_field f) (flat_map print_field fs) in
    omega (arith, here, later, size, bytes)

-- ## Bodies
abbrev Within : ℕ → BodyState → Type 0
Within limit (Complete body) = length body ≤ limit
Within limit s = Unit {0}

abbrev open_within : (limit : ℕ) (close : Close) → Within limit (unless_closed close)
open_within limit Open = tt
open_within limit Ended = tt
open_within limit Broke = tt

close_within : (limit : ℕ) (close : Close) (b : List ℕ) → length b ≤ limit → Within limit (at_close close b)
close_within limit Open b le = tt
close_within limit Ended b le = le
close_within limit Broke b le = tt

length_within : (limit : ℕ) (close : Close) (b : List ℕ) (n : ℕ) → Within limit (length_state limit close b n)
length_within limit close b n = elim (cases_lt limit n) [
  | inl over ↦ rw (lt-ltb limit n over) tt
  | inr fits ↦ rw (le-ltb limit n fits) (elim (cases_lt (length b) n) [
    | inl short ↦ rw (lt-leb n (length b) short) (open_within limit close)
    | inr whole ↦ rw (le-leb n (length b) whole) (let size = length-take n b in omega (arith, size, fits))
  ])
]

end_within : (limit : ℕ) (close : Close) (b : List ℕ) → Within limit (end_state limit close b)
end_within limit close b = elim (cases_lt limit (length b)) [
  | inl over ↦ rw (lt-ltb limit (length b) over) tt
  | inr fits ↦ rw (le-ltb limit (length b) fits) (close_within limit close b fits)
]

body_within : (f : Framing) (close : Close) (b body : List ℕ) → IsVisitBody f close b (Complete body) → length body ≤ visit_limit
body_within NoBody close b body is = subst (Within visit_limit) (sym is) (omega arith)
body_within (OfLength n) close b body is = subst (Within visit_limit) (sym is) (length_within visit_limit close b n)
body_within InChunks close b body (cs, rest, has, last, is) = rw is has.within
body_within ToTheEnd close b body is = subst (Within visit_limit) (sym is) (end_within visit_limit close b)
body_within BadFraming close b body is = cc is

head_less : (h : RequestHead) → (fields_size (headers_of h.fields) ≤ length (print_request h)) × (length h.target ≤ length (print_request h))
unfolding print_request
head_less h =
    let fields = section_less h.fields in
    let section = length-append (flat_map print_field h.fields) (print_end h.last) in
    let front : List ℕ = print_blank h.blank ++ h.method ++ 32 ∷ h.target in
    let a = length-append front (32 ∷ print_version h.minor ++ print_end h.line_end ++ print_section h.fields h.last) in
    let b = length-append (print_blank h.blank ++ h.method) (32 ∷ h.target) in
    let more = end_length (print_blank h.blank ++ h.method ++ 32 ∷ h.target ++ 32 ∷ print_version h.minor ++ print_end h.line_end) (print_section h.fields h.last) in
    let last = length-append (print_blank h.blank ++ h.method ++ 32 ∷ h.target ++ 32 ∷ print_version h.minor ++ print_end h.line_end) (print_section h.fields h.last) in
    let c = length-append (print_blank h.blank ++ h.method ++ 32 ∷ h.target ++ 32 ∷ print_version h.minor) (print_end h.line_end) in
    let d = length-append (print_blank h.blank ++ h.method ++ 32 ∷ h.target) (32 ∷ print_version h.minor) in
    (omega (arith, fields, section, more), omega (arith, b, last, c, d))

pub visits_are_small : VisitsAreSmall
visits_are_small heard close name target fs body (h, has, p, q, r) =
    let less = head_less h in
    let small = has.head.small in
    record {
      target_most = let size = ap length q in omega (arith, less.1, small.short, size);
      few = let size = ap length r in let count = length-map h.fields name_and_value in omega (arith, small.few, size, count);
      short = let size = ap fields_size r in omega (arith, less.0, small.short, size);
      body_most = body_within (framing (headers_of h.fields)) close has.rest body has.body;
    }

-- ## Values
empty_not : {A : Type 0} (v : A) → [] ≡ v ∷ [] → ⊥
empty_not v h = cc h

lone_by : (x v : List ℕ) (f : List ℕ × List ℕ) (fs : Headers) (t : Bool) → map (λ (q : List ℕ × List ℕ). q.1) (cond t (f ∷ filter (is_field_named x) fs) (filter (is_field_named x) fs)) ≡ v ∷ []
    → (values_of x fs ≡ v ∷ [] → length v ≤ fields_size fs) → length v ≤ (length f.0 + length f.1) + fields_size fs
lone_by x v f fs true h later = let same : f.1 ≡ v = same_head f.1 v (values_of x fs) [] h in let size = ap length same in omega (arith, size)
lone_by x v f fs false h later = let le = later h in omega (arith, le)

pub lone_values_are_small : LoneValuesAreSmall
lone_values_are_small x v [] h = absurd (empty_not v h)
lone_values_are_small x v (f ∷ fs) h =
    let le = lone_by x v f fs (is_field_named x f) h (lone_values_are_small x v fs) in
    let size : fields_size (f ∷ fs) ≡ (length f.0 + length f.1) + fields_size fs = sum_by-cons (λ g. length g.0 + length g.1) f fs in
    omega (arith, le, size)
