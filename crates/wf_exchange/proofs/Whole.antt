-- No strict front of a call's request is a whole request.
use Rattle.std.proofs.Common.{◌≡◌, ◌≤◌, ◌<◌, ◌^◌, ℕ, Bool, true, false, nat_lt, nat_le, if◌then◌else◌, List, [], ◌∷◌, ◌++◌, length, take, codes, decimal, bytes_eq, Option, Some, None, refl, sym, ap, ap₂, subst, ◌∙◌, arith, length-append}
use Rattle.std.specs.List.{list_all}
use Rattle.std.specs.Char.{is_ascii_digit}
use Rattle.std.specs.Str.Parse.{AllDigits, digits_value}
use Rattle.std.proofs.lemmas.Bool.{leb-true, and_from, or_parts, lt-ltb}
use Rattle.std.proofs.lemmas.Fmt.{decimal_is_IsNumeral, decimal_nonempty}
use Rattle.std.proofs.lemmas.List.{nil_from_length}
use Rattle.httparse.specs.Grammar.{Field, RequestHead, ReadsRequest}
use Rattle.httparse.proofs.GrammarLemmas.{request_unique, ReadsRequest-append}
use Rattle.wf_lemmas.proofs.Texts.{digit_told}
use Rattle.wf_value.specs.Events.{Headers, Method}
use Rattle.wf_value.specs.HttpBody.{Close, Open, Ended, Broke, Complete, Oversize, Framing, NoBody, OfLength, InChunks, BadFraming, headers_of, by_length, is_number, is_chunked, length_state, unless_closed}
use Rattle.wf_value.specs.HttpRequest.{Asked, Payload, request_text, good_fields, content_types, payload, payload_bytes, own_fields, is_among}
use Rattle.wf_value.specs.HttpText.{values_of}
use Rattle.wf_value.specs.HttpUrl.{Goal}
use Rattle.wf_value.specs.Pairs.{Text}
use Rattle.wf_http_serve.specs.Visits.{IsVisitBody, framing, is_bad_framing, visit_limit}
use Rattle.wf_exchange.proofs.Reading.{field, caller, named, skips, takes, caller_none, length_fields, ending, own, fields, head, head_is, text_is, turned, trimmed, digits_url}
use Rattle.wf_exchange.specs.Requests.{call_id, NoFrontIsWhole}

-- ## The length
abbrev len : Text
len = codes "content-length"

abbrev coding : Text
coding = codes "transfer-encoding"

not_the_length : (n : List ℕ) (earlier : List Text) → is_among n (own_fields ++ earlier) ≡ false → bytes_eq len n ≡ false
not_the_length n earlier h =
    let a = or_parts (bytes_eq n (codes "host")) _ h in
    let b = or_parts (bytes_eq n (codes "connection")) _ a.1 in
    let c = or_parts (bytes_eq n len) _ b.1 in
    turned n len c.0

not_the_coding : (n : List ℕ) (earlier : List Text) → is_among n (own_fields ++ earlier) ≡ false → bytes_eq coding n ≡ false
not_the_coding n earlier h =
    let a = or_parts (bytes_eq n (codes "host")) _ h in
    let b = or_parts (bytes_eq n (codes "connection")) _ a.1 in
    let c = or_parts (bytes_eq n len) _ b.1 in
    let d = or_parts (bytes_eq n coding) _ c.1 in
    turned n coding d.0

-- a body has a length in decimal, and no coding
abbrev length_field : ℕ → Field
length_field n = field (codes "Content-Length") (decimal n)

length_of_ending : (ts : List Text) (m : Method) (p : Payload) → length p.bytes < 2 ^ 64 → named len (ending ts m (Some p)) ≡ decimal (length p.bytes) ∷ []
length_of_ending [] m p small =
    skips len (field (codes "Content-Type") p.type) (length_fields m (Some p)) refl ∙ takes len (length_field (length p.bytes)) [] refl
    ∙ ap (λ (v : List ℕ). v ∷ []) (trimmed (decimal (length p.bytes)) (digits_url (decimal (length p.bytes)) (decimal_is_IsNumeral (length p.bytes) small).0.1))
length_of_ending (t ∷ ts) m p small =
    takes len (length_field (length p.bytes)) [] refl
    ∙ ap (λ (v : List ℕ). v ∷ []) (trimmed (decimal (length p.bytes)) (digits_url (decimal (length p.bytes)) (decimal_is_IsNumeral (length p.bytes) small).0.1))

coding_of_ending : (ts : List Text) (m : Method) (p : Payload) → named coding (ending ts m (Some p)) ≡ []
coding_of_ending [] m p = skips coding (field (codes "Content-Type") p.type) (length_fields m (Some p)) refl ∙ skips coding (length_field (length p.bytes)) [] refl
coding_of_ending (t ∷ ts) m p = skips coding (length_field (length p.bytes)) [] refl

module _ (g : Goal) (a : Asked) (id : Text) (k : ℕ) (p : Payload) (h : good_fields [] a.fields ≡ true) where
  abbrev with_body : List Field
  with_body = field (codes "Host") g.authority ∷ (caller a.fields ++ own id k (content_types a.fields) a.method (Some p))

  lengths : length p.bytes < 2 ^ 64 → named len with_body ≡ decimal (length p.bytes) ∷ []
  lengths small =
      skips len (field (codes "Host") g.authority) (caller a.fields ++ own id k (content_types a.fields) a.method (Some p)) refl
      ∙ caller_none len not_the_length [] a.fields (own id k (content_types a.fields) a.method (Some p)) h
      ∙ skips len (field (codes "Connection") (codes "close")) (field (codes "X-Workflow-Call") (call_id id k) ∷ ending (content_types a.fields) a.method (Some p)) refl
      ∙ skips len (field (codes "X-Workflow-Call") (call_id id k)) (ending (content_types a.fields) a.method (Some p)) refl
      ∙ length_of_ending (content_types a.fields) a.method p small

  codings : named coding with_body ≡ []
  codings =
      skips coding (field (codes "Host") g.authority) (caller a.fields ++ own id k (content_types a.fields) a.method (Some p)) refl
      ∙ caller_none coding not_the_coding [] a.fields (own id k (content_types a.fields) a.method (Some p)) h
      ∙ skips coding (field (codes "Connection") (codes "close")) (field (codes "X-Workflow-Call") (call_id id k) ∷ ending (content_types a.fields) a.method (Some p)) refl
      ∙ skips coding (field (codes "X-Workflow-Call") (call_id id k)) (ending (content_types a.fields) a.method (Some p)) refl
      ∙ coding_of_ending (content_types a.fields) a.method p

-- ## The framing
numeral : (n : ℕ) → n < 2 ^ 64 → is_number (decimal n) ≡ true
numeral n small = and_from (nat_lt 0 (length (decimal n))) (list_all is_ascii_digit (decimal n)) (lt-ltb 0 (length (decimal n)) (decimal_nonempty n small)) (all_ascii (decimal n) (decimal_is_IsNumeral n small).0.1)
  where
    all_ascii : (ds : List ℕ) → AllDigits 10 ds → list_all is_ascii_digit ds ≡ true
    all_ascii [] all = refl
    all_ascii (d ∷ ds) all = and_from (is_ascii_digit d) (list_all is_ascii_digit ds) (digit_told d all.0) (all_ascii ds all.1)

one_length : (n : ℕ) → n < 2 ^ 64 → by_length NoBody (decimal n ∷ []) ≡ OfLength n
one_length n small =
    ap (λ b. if b then OfLength (digits_value 10 (decimal n)) else BadFraming) (and_from (is_number (decimal n)) true (numeral n small) refl)
    ∙ ap (λ m. OfLength m) (decimal_is_IsNumeral n small).1

abbrev frame : List (List ℕ) → List (List ℕ) → Framing
frame cs ls = if is_bad_framing (by_length NoBody ls) then BadFraming else elim cs [ [] ↦ by_length NoBody ls | v ∷ vs ↦ if is_chunked (v ∷ vs) then InChunks else BadFraming ]

framed : (fs : Headers) (n : ℕ) → n < 2 ^ 64 → values_of coding fs ≡ [] → values_of len fs ≡ decimal n ∷ [] → framing fs ≡ OfLength n
framed fs n small none one =
    ap₂ (λ (cs ls : List (List ℕ)). frame cs ls) none one
    ∙ ap (λ f. if is_bad_framing f then BadFraming else f) (one_length n small)

-- ## All of it
closed_not : (close : Close) (body : List ℕ) → Complete body ≡ unless_closed close → ⊥
closed_not Open body e = cc e
closed_not Ended body e = cc e
closed_not Broke body e = cc e

enough : (over heard : Bool) (close : Close) (b body : List ℕ) → Complete body ≡ (if over then Oversize else (if heard then Complete b else unless_closed close)) → heard ≡ true
enough true heard close b body e = absurd cc
enough false true close b body e = refl
enough false false close b body e = absurd (closed_not close body e)

nothing_left : (a b c : List ℕ) → a ++ b ≡ c → length c ≤ length a → b ≡ []
nothing_left a b c is le = nil_from_length b (let all = ap length is in omega (arith, all, le, length-append a b))

by_payload : (g : Goal) (a : Asked) (id : Text) (k : ℕ) (o : Option Payload) (heard rest body : List ℕ) (close : Close) → payload a.body ≡ o → good_fields [] a.fields ≡ true → length (payload_bytes o) < 2 ^ 64
    → heard ++ rest ≡ payload_bytes o → IsVisitBody (framing (headers_of (fields g a id k))) close heard (Complete body) → rest ≡ []
by_payload g a id k None heard rest body close is h small all whole = nothing_left heard rest [] all (omega arith)
by_payload g a id k (Some p) heard rest body close is h small all whole =
    let same : fields g a id k ≡ with_body g a id k p h = ap (λ o. field (codes "Host") g.authority ∷ (caller a.fields ++ own id k (content_types a.fields) a.method o)) is in
    let f : framing (headers_of (fields g a id k)) ≡ OfLength (length p.bytes) =
    ap (λ fs. framing (headers_of fs)) same ∙ framed (headers_of (with_body g a id k p h)) (length p.bytes) small (codings g a id k p h) (lengths g a id k p h small) in
    let state : Complete body ≡ length_state visit_limit close heard (length p.bytes) = subst (λ x. IsVisitBody x close heard (Complete body)) f whole in
    nothing_left heard rest p.bytes all (leb-true (length p.bytes) (length heard) (enough (nat_lt visit_limit (length p.bytes)) (nat_le (length p.bytes) (length heard)) close (take (length p.bytes) heard) body state))

pub no_front_is_whole : NoFrontIsWhole
no_front_is_whole g a id k front rest close method target fields body call small made (found, has, p, q, r) =
    let whole : ReadsRequest (request_text g a id k) found (has.rest ++ rest) = subst (λ (t : List ℕ). ReadsRequest t found (has.rest ++ rest)) (sym made) (ReadsRequest-append front found has.rest rest has.head.reads) in
    let mine : ReadsRequest (request_text g a id k) (head g a id k) (payload_bytes (payload a.body)) = (head_is g a id k call, text_is g a id k) in
    let same = request_unique (request_text g a id k) found (head g a id k) (has.rest ++ rest) (payload_bytes (payload a.body)) whole mine in
    by_payload g a id k (payload a.body) has.rest rest body close refl call.fields small same.1
    (subst (λ (t : RequestHead). IsVisitBody (framing (headers_of t.fields)) close has.rest (Complete body)) same.0 has.body)
