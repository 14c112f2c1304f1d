-- A call's request is read as it was made.
use Rattle.std.proofs.Common.{◌≡◌, ◌<◌, ◌^◌, ℕ, zero, suc, Bool, true, false, not, ◌&&◌, nat_lt, if◌then◌else◌, IsTrue, All, cond, List, [], ◌∷◌, ◌++◌, length, map, filter, reverse, codes, decimal, bytes_eq, Option, Some, None, refl, sym, ap, ap₂, subst, ◌∙◌, arith, append_assoc, append-nil}
use Rattle.std.specs.List.{flat_map, list_all, list_any}
use Rattle.std.specs.Char.{digit_value}
use Rattle.std.specs.Str.{IsAscii}
use Rattle.std.specs.Str.Parse.{AllDigits}
use Rattle.std.proofs.lemmas.Bool.{ltb-true, and_parts, and_from, or_parts, not-true}
use Rattle.std.proofs.lemmas.Bool.Decides.{nat_tests}
use Rattle.std.proofs.lemmas.Fmt.{decimal_is_IsNumeral}
use Rattle.std.proofs.lemmas.Str.{IsUtf8-from_ascii}
use Rattle.std.proofs.lemmas.Slice.Eq.{bytes_eq-Decides}
use Rattle.std.proofs.lemmas.List.{reverse-append}
use Rattle.std.proofs.lemmas.List.Elements.{All-nil, All-cons, All-append}
use Rattle.std.proofs.lemmas.List.Folds.{list_all-append}
use Rattle.http_uri.specs.ByteClasses.{lowercase}
use Rattle.httparse.specs.Grammar.{crlf, print_end, print_version, Field, IsField, IsToken, print_field, field_value, RequestHead, IsRequestHead, ReadsRequest, print_request, AllPass, is_token, is_token_byte, is_uri_byte, is_value_byte, is_ows, skip_ows, trim_ows}
use Rattle.httparse.proofs.GrammarLemmas.{request_unique, ReadsRequest-append, print_request-append, cons-append}
use Rattle.httparse.proofs.TrimLemmas.{trim_ows_space}
use Rattle.wf_lemmas.proofs.Bools.{clash, false_unless}
use Rattle.wf_value.specs.Data.{Data, null, boolean, integer, text, bytes, list, map as mapped}
use Rattle.wf_value.specs.Events.{Method, method_name, Get, Post, Put, Patch, Delete, Options}
use Rattle.wf_value.specs.HttpBody.{headers_of, name_and_value}
use Rattle.wf_value.specs.HttpRequest.{Asked, Payload, request_text, good_fields, with_query, field_line, type_line, length_line, content_types, payload, payload_bytes, own_fields, is_among, is_field_byte}
use Rattle.wf_value.specs.HttpText.{line, values_of, is_field_named}
use Rattle.wf_value.specs.HttpUrl.{Goal, is_url_byte}
use Rattle.wf_value.specs.Pairs.{Text}
use Rattle.wf_value.specs.Queues.{same_method}
use Rattle.wf_exchange.proofs.Urls.{decimal_visible}
use Rattle.wf_exchange.specs.Requests.{IsId, IsCall, call_id, RequestIsRead}

-- ## The head
abbrev pub field : Text → Text → Field
field n v = record { name = n; raw = 32 ∷ v; end = crlf }

abbrev pub caller : List (Text × Text) → List Field
caller [] = []
caller (f ∷ fs) = field f.0 f.1 ∷ caller fs

abbrev pub type_fields : List Text → Option Payload → List Field
type_fields [] (Some p) = field (codes "Content-Type") p.type ∷ []
type_fields ts p = []

abbrev pub length_fields : Method → Option Payload → List Field
length_fields m (Some p) = field (codes "Content-Length") (decimal (length p.bytes)) ∷ []
length_fields m None = if list_any (same_method m) (Post ∷ Put ∷ Patch ∷ []) then field (codes "Content-Length") (codes "0") ∷ [] else []

abbrev pub ending : List Text → Method → Option Payload → List Field
ending ts m p = type_fields ts p ++ length_fields m p

abbrev pub own : Text → ℕ → List Text → Method → Option Payload → List Field
own id k ts m p = field (codes "Connection") (codes "close") ∷ field (codes "X-Workflow-Call") (call_id id k) ∷ ending ts m p

abbrev pub fields : Goal → Asked → Text → ℕ → List Field
fields g a id k = field (codes "Host") g.authority ∷ (caller a.fields ++ own id k (content_types a.fields) a.method (payload a.body))

abbrev pub head : Goal → Asked → Text → ℕ → RequestHead
head g a id k = record {
  blank = [];
  method = method_name a.method;
  target = with_query g.target a.query;
  minor = 1;
  line_end = crlf;
  fields = fields g a id k;
  last = crlf;
}

-- ## Its text
caller_lines : (fs : List (Text × Text)) → flat_map field_line fs ≡ flat_map print_field (caller fs)
caller_lines [] = refl
caller_lines (f ∷ fs) = ap₂ (λ (a b : List ℕ). a ++ b) (one f.0 f.1) (caller_lines fs)
  where
    one : (n v : Text) → (n ++ codes ": " ++ v) ++ 13 ∷ 10 ∷ [] ≡ print_field (field n v)
    one n v = simp (append_assoc, cons-append)

type_text : (ts : List Text) (p : Option Payload) → type_line ts p ≡ flat_map print_field (type_fields ts p)
type_text [] (Some p) = simp (append_assoc, cons-append, append-nil)
type_text [] None = refl
type_text (t ∷ ts) (Some p) = refl
type_text (t ∷ ts) None = refl

zero_text : (b : Bool) → (if b then line (codes "Content-Length: 0") else []) ≡ flat_map print_field (if b then field (codes "Content-Length") (codes "0") ∷ [] else [])
zero_text true = refl
zero_text false = refl

length_text : (m : Method) (p : Option Payload) → length_line m p ≡ flat_map print_field (length_fields m p)
length_text m (Some p) = simp (append_assoc, cons-append, append-nil)
length_text m None = zero_text (list_any (same_method m) (Post ∷ Put ∷ Patch ∷ []))

print_append : (xs ys : List Field) → flat_map print_field (xs ++ ys) ≡ flat_map print_field xs ++ flat_map print_field ys
print_append [] ys = refl
print_append (x ∷ xs) ys = ap (λ (l : List ℕ). print_field x ++ l) (print_append xs ys) ∙ sym (append_assoc (print_field x) (flat_map print_field xs) (flat_map print_field ys))

-- the parts behind the first line, one by one
regroup : (m t host cs conn call ty len body : List ℕ) → line (m ++ codes " " ++ t ++ codes " HTTP/1.1") ++ host ++ cs ++ conn ++ call ++ ty ++ len ++ line [] ++ body
    ≡ [] ++ (m ++ 32 ∷ (t ++ 32 ∷ (print_version 1 ++ (print_end crlf ++ (((host ++ (cs ++ (conn ++ (call ++ (ty ++ len))))) ++ print_end crlf) ++ body)))))
regroup m t host cs conn call ty len body = simp (append_assoc, cons-append)

fields_text : (g : Goal) (a : Asked) (id : Text) (k : ℕ) → flat_map print_field (fields g a id k)
    ≡ line (codes "Host: " ++ g.authority) ++ (flat_map field_line a.fields ++ (line (codes "Connection: close") ++ (line (codes "X-Workflow-Call: " ++ id ++ codes "-" ++ decimal k)
    ++ (type_line (content_types a.fields) (payload a.body) ++ length_line a.method (payload a.body)))))
fields_text g a id k =
    let ts = content_types a.fields in
    let p = payload a.body in
    ap (λ (l : List ℕ). print_field (field (codes "Host") g.authority) ++ l)
    (print_append (caller a.fields) (own id k ts a.method p) ∙ ap₂ (λ (x y : List ℕ). x ++ y) (sym (caller_lines a.fields))
    (ap (λ (l : List ℕ). print_field (field (codes "Connection") (codes "close")) ++ (print_field (field (codes "X-Workflow-Call") (call_id id k)) ++ l))
    (print_append (type_fields ts p) (length_fields a.method p) ∙ ap₂ (λ (x y : List ℕ). x ++ y) (sym (type_text ts p)) (sym (length_text a.method p)))))

pub text_is : (g : Goal) (a : Asked) (id : Text) (k : ℕ) → request_text g a id k ≡ print_request (head g a id k) ++ payload_bytes (payload a.body)
text_is g a id k =
    let p = payload a.body in
    regroup (method_name a.method) (with_query g.target a.query) (line (codes "Host: " ++ g.authority)) (flat_map field_line a.fields) (line (codes "Connection: close"))
    (line (codes "X-Workflow-Call: " ++ id ++ codes "-" ++ decimal k)) (type_line (content_types a.fields) p) (length_line a.method p) (payload_bytes p)
    ∙ ap (λ (l : List ℕ). [] ++ (method_name a.method ++ 32 ∷ (with_query g.target a.query ++ 32 ∷ (print_version 1 ++ (print_end crlf ++ ((l ++ print_end crlf) ++ payload_bytes p)))))) (sym (fields_text g a id k))
    ∙ sym (print_request-append (head g a id k) (payload_bytes p))

-- ## Bytes
url_uri : (b : ℕ) → is_url_byte b ≡ true → is_uri_byte b ≡ true
url_uri b h = grind (arith, nat_tests, h)

url_value : (b : ℕ) → is_url_byte b ≡ true → is_value_byte b ≡ true
url_value b h = grind (arith, nat_tests, h)

field_byte_value : (b : ℕ) → is_field_byte b ≡ true → is_value_byte b ≡ true
field_byte_value b h = grind (arith, nat_tests, h)

url_solid : (b : ℕ) → is_url_byte b ≡ true → is_ows b ≡ false
url_solid b h = grind (arith, nat_tests, h)

url_ascii : (b : ℕ) → is_url_byte b ≡ true → b < 128
url_ascii b h = grind (arith, nat_tests, h)

digit_url : (c : ℕ) → digit_value c < 10 → is_url_byte c ≡ true
digit_url c h = grind (arith, nat_tests, h)

all_pass : (p q : ℕ → Bool) → ((b : ℕ) → p b ≡ true → q b ≡ true) → (xs : List ℕ) → list_all p xs ≡ true → AllPass q xs
all_pass p q says [] h = All-nil (λ b. IsTrue (q b))
all_pass p q says (b ∷ bs) h = let both = and_parts (p b) (list_all p bs) h in All-cons (λ x. IsTrue (q x)) b bs (says b both.0) (all_pass p q says bs both.1)

pub digits_url : (ds : List ℕ) → AllDigits 10 ds → list_all is_url_byte ds ≡ true
digits_url [] all = refl
digits_url (d ∷ ds) all = and_from (is_url_byte d) (list_all is_url_byte ds) (digit_url d all.0) (digits_url ds all.1)

ascii : (xs : List ℕ) → list_all is_url_byte xs ≡ true → IsAscii xs
ascii [] h zero = omega arith
ascii [] h (suc i) = omega arith
ascii (b ∷ bs) h zero = url_ascii b (and_parts (is_url_byte b) (list_all is_url_byte bs) h).0
ascii (b ∷ bs) h (suc i) = ascii bs (and_parts (is_url_byte b) (list_all is_url_byte bs) h).1 i

-- ## The identifier
call_id_visible : (id : Text) (k : ℕ) → IsId id → k < 2 ^ 64 → list_all is_url_byte (call_id id k) ≡ true
call_id_visible id k is fits =
    list_all-append is_url_byte (id ++ codes "-") (decimal k)
    ∙ ap₂ (λ (a b : Bool). a && b) (list_all-append is_url_byte id (codes "-") ∙ ap (λ a. a && true) is.bytes) (digits_url (decimal k) (decimal_is_IsNumeral k fits).0.1)

solid_front : (xs : List ℕ) → list_all is_url_byte xs ≡ true → skip_ows xs ≡ xs
solid_front [] h = refl
solid_front (b ∷ bs) h = rw (url_solid b (and_parts (is_url_byte b) (list_all is_url_byte bs) h).0) refl

reverse_visible : (xs : List ℕ) → list_all is_url_byte xs ≡ true → list_all is_url_byte (reverse xs) ≡ true
reverse_visible [] h = refl
reverse_visible (b ∷ bs) h =
    let both = and_parts (is_url_byte b) (list_all is_url_byte bs) h in
    ap (list_all is_url_byte) (reverse_push b bs) ∙ list_all-append is_url_byte (reverse bs) (b ∷ [])
    ∙ ap₂ (λ (x y : Bool). x && y) (reverse_visible bs both.1) (and_from (is_url_byte b) true both.0 refl)
  where
    reverse_push : (x : ℕ) (xs : List ℕ) → reverse (x ∷ xs) ≡ reverse xs ++ x ∷ []
    reverse_push x xs = reverse-append (x ∷ []) xs

pub trimmed : (xs : List ℕ) → list_all is_url_byte xs ≡ true → trim_ows (32 ∷ xs) ≡ xs
trimmed xs h = trim_ows_space xs (solid_front xs h) (solid_front (reverse xs) (reverse_visible xs h))

-- ## The head is one
token : (n : Text) → is_token n ≡ true → IsToken n
token n h = let both = and_parts (nat_lt 0 (length n)) (list_all is_token_byte n) h in (ltb-true 0 (length n) both.0, all_pass is_token_byte is_token_byte (λ b is. is) n both.1)

is_field : (p : ℕ → Bool) → ((b : ℕ) → p b ≡ true → is_value_byte b ≡ true) → (n v : Text) → is_token n ≡ true → list_all p v ≡ true → IsField (field n v)
is_field p says n v name value = record { name = token n name; raw = All-cons (λ b. IsTrue (is_value_byte b)) 32 v refl (all_pass p is_value_byte says v value) }

pub record IsGood (earlier : List Text) (f : Text × Text) (fs : List (Text × Text)) : Type 0 where
  pub name : is_token f.0 ≡ true
  pub not_own : is_among (lowercase f.0) (own_fields ++ earlier) ≡ false
  pub value : list_all is_field_byte f.1 ≡ true
  pub rest : good_fields (lowercase f.0 ∷ earlier) fs ≡ true

pub good : (earlier : List Text) (f : Text × Text) (fs : List (Text × Text)) → good_fields earlier (f ∷ fs) ≡ true → IsGood earlier f fs
good earlier f fs h =
    let a = and_parts (is_token f.0 && not (is_among (lowercase f.0) (own_fields ++ earlier)) && list_all is_field_byte f.1) (good_fields (lowercase f.0 ∷ earlier) fs) h in
    let b = and_parts (is_token f.0 && not (is_among (lowercase f.0) (own_fields ++ earlier))) (list_all is_field_byte f.1) a.0 in
    let c = and_parts (is_token f.0) (not (is_among (lowercase f.0) (own_fields ++ earlier))) b.0 in
    record { name = c.0; not_own = not-true (is_among (lowercase f.0) (own_fields ++ earlier)) c.1; value = b.1; rest = a.1 }

caller_good : (earlier : List Text) (fs : List (Text × Text)) → good_fields earlier fs ≡ true → All IsField (caller fs)
caller_good earlier [] h = All-nil IsField
caller_good earlier (f ∷ fs) h =
    let g = good earlier f fs h in All-cons IsField (field f.0 f.1) (caller fs) (is_field is_field_byte field_byte_value f.0 f.1 g.name g.value) (caller_good (lowercase f.0 ∷ earlier) fs g.rest)

method_token : (m : Method) → is_token (method_name m) ≡ true
unfolding is_token_byte
method_token Get = refl
method_token Post = refl
method_token Put = refl
method_token Patch = refl
method_token Delete = refl
method_token Options = refl

host_token : is_token (codes "Host") ≡ true
unfolding is_token_byte
host_token = refl

connection_token : is_token (codes "Connection") ≡ true
unfolding is_token_byte
connection_token = refl

call_token : is_token (codes "X-Workflow-Call") ≡ true
unfolding is_token_byte
call_token = refl

type_token : is_token (codes "Content-Type") ≡ true
unfolding is_token_byte
type_token = refl

length_token : is_token (codes "Content-Length") ≡ true
unfolding is_token_byte
length_token = refl

type_good : (ts : List Text) (p : Payload) → list_all is_field_byte p.type ≡ true → All IsField (type_fields ts (Some p))
type_good [] p h = All-cons IsField (field (codes "Content-Type") p.type) [] (is_field is_field_byte field_byte_value (codes "Content-Type") p.type type_token h) (All-nil IsField)
type_good (t ∷ ts) p h = All-nil IsField

some_good : (ts : List Text) (m : Method) (p : Payload) → list_all is_field_byte p.type ≡ true → All IsField (ending ts m (Some p))
some_good ts m p h =
    All-append IsField (type_fields ts (Some p)) (length_fields m (Some p)) (type_good ts p h)
    (All-cons IsField (field (codes "Content-Length") (decimal (length p.bytes))) []
    (is_field is_url_byte url_value (codes "Content-Length") (decimal (length p.bytes)) length_token (decimal_visible (length p.bytes))) (All-nil IsField))

zero_good : (b : Bool) → All IsField (if b then field (codes "Content-Length") (codes "0") ∷ [] else [])
zero_good true = All-cons IsField (field (codes "Content-Length") (codes "0")) [] (is_field is_url_byte url_value (codes "Content-Length") (codes "0") length_token refl) (All-nil IsField)
zero_good false = All-nil IsField

none_good : (ts : List Text) (m : Method) → All IsField (ending ts m None)
none_good [] m = zero_good (list_any (same_method m) (Post ∷ Put ∷ Patch ∷ []))
none_good (t ∷ ts) m = zero_good (list_any (same_method m) (Post ∷ Put ∷ Patch ∷ []))

ending_good : (ts : List Text) (m : Method) (d : Option Data) → All IsField (ending ts m (payload d))
ending_good ts m None = none_good ts m
ending_good ts m (Some (text t)) = some_good ts m _ refl
ending_good ts m (Some (bytes b)) = some_good ts m _ refl
ending_good ts m (Some null) = some_good ts m _ refl
ending_good ts m (Some (boolean b)) = some_good ts m _ refl
ending_good ts m (Some (integer n)) = some_good ts m _ refl
ending_good ts m (Some (list l)) = some_good ts m _ refl
ending_good ts m (Some (mapped l)) = some_good ts m _ refl

pub head_is : (g : Goal) (a : Asked) (id : Text) (k : ℕ) → IsCall g a id k → IsRequestHead (head g a id k)
head_is g a id k call = record {
  method = token (method_name a.method) (method_token a.method);
  target = (call.sent.some, all_pass is_url_byte is_uri_byte url_uri (with_query g.target a.query) call.sent.target);
  target_text = IsUtf8-from_ascii (with_query g.target a.query) (ascii (with_query g.target a.query) call.sent.target);
  minor = omega arith;
  fields = All-cons IsField (field (codes "Host") g.authority) (caller a.fields ++ own id k (content_types a.fields) a.method (payload a.body)) (is_field is_url_byte url_value (codes "Host") g.authority host_token call.sent.authority)
      (All-append IsField (caller a.fields) (own id k (content_types a.fields) a.method (payload a.body)) (caller_good [] a.fields call.fields)
      (All-cons IsField (field (codes "Connection") (codes "close")) (field (codes "X-Workflow-Call") (call_id id k) ∷ ending (content_types a.fields) a.method (payload a.body)) (is_field is_url_byte url_value (codes "Connection") (codes "close") connection_token refl)
      (All-cons IsField (field (codes "X-Workflow-Call") (call_id id k)) (ending (content_types a.fields) a.method (payload a.body)) (is_field is_url_byte url_value (codes "X-Workflow-Call") (call_id id k) call_token (call_id_visible id k call.of_id call.number))
      (ending_good (content_types a.fields) a.method a.body))));
}

-- ## The fields of a name
module _ (x : Text) where
  abbrev pub named : List Field → List (List ℕ)
  named fs = values_of x (headers_of fs)

  pub skips : (f : Field) (fs : List Field) → is_field_named x (name_and_value f) ≡ false → named (f ∷ fs) ≡ named fs
  skips f fs e = ap (λ b. map (λ (q : List ℕ × List ℕ). q.1) (cond b (name_and_value f ∷ filter (is_field_named x) (headers_of fs)) (filter (is_field_named x) (headers_of fs)))) e

  pub takes : (f : Field) (fs : List Field) → is_field_named x (name_and_value f) ≡ true → named (f ∷ fs) ≡ field_value f ∷ named fs
  takes f fs e = ap (λ b. map (λ (q : List ℕ × List ℕ). q.1) (cond b (name_and_value f ∷ filter (is_field_named x) (headers_of fs)) (filter (is_field_named x) (headers_of fs)))) e

  -- a name that is the request's own is none of the caller's
  pub caller_none : ((n : List ℕ) (earlier : List Text) → is_among n (own_fields ++ earlier) ≡ false → bytes_eq (lowercase x) n ≡ false)
      → (earlier : List Text) (fs : List (Text × Text)) (behind : List Field) → good_fields earlier fs ≡ true → named (caller fs ++ behind) ≡ named behind
  caller_none other earlier [] behind h = refl
  caller_none other earlier (f ∷ fs) behind h =
      let g = good earlier f fs h in
      skips (field f.0 f.1) (caller fs ++ behind) (other (lowercase f.0) earlier g.not_own) ∙ caller_none other (lowercase f.0 ∷ earlier) fs behind g.rest

pub turned : (a b : List ℕ) → bytes_eq a b ≡ false → bytes_eq b a ≡ false
turned a b e = false_unless (bytes_eq b a) (λ yes. clash (bytes_eq a b) e ((bytes_eq-Decides a b).1 (sym ((bytes_eq-Decides b a).0 yes))))

-- ## Its identifier
abbrev call_name : Text
call_name = codes "x-workflow-call"

not_the_call : (n : List ℕ) (earlier : List Text) → is_among n (own_fields ++ earlier) ≡ false → bytes_eq call_name n ≡ false
not_the_call n earlier h =
    let a = or_parts (bytes_eq n (codes "host")) _ h in
    let b = or_parts (bytes_eq n (codes "connection")) _ a.1 in
    let c = or_parts (bytes_eq n (codes "content-length")) _ b.1 in
    let d = or_parts (bytes_eq n (codes "transfer-encoding")) _ c.1 in
    let e = or_parts (bytes_eq n call_name) _ d.1 in
    turned n call_name e.0

zero_none : (b : Bool) → named call_name (if b then field (codes "Content-Length") (codes "0") ∷ [] else []) ≡ []
zero_none true = skips call_name (field (codes "Content-Length") (codes "0")) [] refl
zero_none false = refl

ending_none : (ts : List Text) (m : Method) (p : Option Payload) → named call_name (ending ts m p) ≡ []
ending_none [] m (Some p) = skips call_name (field (codes "Content-Type") p.type) (length_fields m (Some p)) refl ∙ skips call_name (field (codes "Content-Length") (decimal (length p.bytes))) [] refl
ending_none (t ∷ ts) m (Some p) = skips call_name (field (codes "Content-Length") (decimal (length p.bytes))) [] refl
ending_none [] m None = zero_none (list_any (same_method m) (Post ∷ Put ∷ Patch ∷ []))
ending_none (t ∷ ts) m None = zero_none (list_any (same_method m) (Post ∷ Put ∷ Patch ∷ []))

named_is : (g : Goal) (a : Asked) (id : Text) (k : ℕ) → IsCall g a id k → named call_name (fields g a id k) ≡ call_id id k ∷ []
named_is g a id k call =
    let ts = content_types a.fields in
    let p = payload a.body in
    skips call_name (field (codes "Host") g.authority) (caller a.fields ++ own id k ts a.method p) refl
    ∙ caller_none call_name not_the_call [] a.fields (own id k ts a.method p) call.fields
    ∙ skips call_name (field (codes "Connection") (codes "close")) (field (codes "X-Workflow-Call") (call_id id k) ∷ ending ts a.method p) refl
    ∙ takes call_name (field (codes "X-Workflow-Call") (call_id id k)) (ending ts a.method p) refl
    ∙ ap₂ (λ (v : List ℕ) (vs : List (List ℕ)). v ∷ vs) (trimmed (call_id id k) (call_id_visible id k call.of_id call.number)) (ending_none ts a.method p)

pub request_is_read : RequestIsRead
request_is_read g a id k front rest close method target fields body call made (found, has, p, q, r) =
    let whole : ReadsRequest (request_text g a id k) found (has.rest ++ rest) = subst (λ (t : List ℕ). ReadsRequest t found (has.rest ++ rest)) (sym made) (ReadsRequest-append front found has.rest rest has.head.reads) in
    let mine : ReadsRequest (request_text g a id k) (head g a id k) (payload_bytes (payload a.body)) = (head_is g a id k call, text_is g a id k) in
    let same = (request_unique (request_text g a id k) found (head g a id k) (has.rest ++ rest) (payload_bytes (payload a.body)) whole mine).0 in
    ap (values_of call_name) r ∙ ap (λ (k : RequestHead). values_of call_name (headers_of k.fields)) same ∙ named_is g a id k call
