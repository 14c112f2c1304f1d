-- What a call asks for, and the bytes of its request (RFC 9112).
--     asked             a call's arguments, or the first error of their kinds, the method and the timeout
--     request_bytes     the bytes, or why the fields or the body can't be sent
--     request           the address and the bytes of a call
use Rattle.std.specs.Prelude.{ℕ, Bool, true, false, not, ◌&&◌, ◌||◌, List, [], ◌∷◌, ◌++◌, length, ℤ, pos, negsuc, if◌then◌else◌, nat_le, ◌==◌, Some, None, Ok, Err, codes, bytes_eq, decimal, Option, Result}
use Rattle.std.specs.Prelude as seq  -- by hand
use Rattle.std.specs.Fmt.{signed_decimal}
use Rattle.std.specs.List.{list_all, list_any, flat_map}
use Rattle.http_uri.specs.ByteClasses.{lowercase, question_mark}
use Rattle.httparse.specs.Grammar.{is_token}
use Rattle.wf_value.specs.Data.{Data, null, boolean, integer, text, bytes, map, Pairs, no_pairs, pair}
use Rattle.wf_value.specs.Errors.{Answer, ◌>>=◌, or_error}
use Rattle.wf_value.specs.declared.errors.Tag.TheVariants.{TypeError, ValueError}
use Rattle.wf_value.specs.Events.{Method, Post, Put, Patch, method_name, method_named, Address, Routes}
use Rattle.wf_value.specs.HttpText.{values_of, media_type_of, json_type, line}
use Rattle.wf_value.specs.HttpUrl.{Goal, OutFault, BadHeader, BadBody, out_tag, goal}
use Rattle.wf_value.specs.Json.{json_text}
use Rattle.wf_value.specs.LibText.{joined_by, url_encoded}
use Rattle.wf_value.specs.Pairs.{Text, get}
use Rattle.wf_value.specs.Queues.{same_method}

-- what a call asks for; the timeout is in seconds
pub record Asked : Type 0 where
  pub method : Method
  pub url : Text
  pub fields : List (Text × Text)
  pub query : List (Text × Text)
  pub body : Option Data
  pub timeout : ℕ

-- ## Kinds
-- a field's value is a text or a whole number; in a query also a truth value
abbrev pub field_text : Data → Answer Text
field_text (text t) = Ok t
field_text (integer n) = Ok (signed_decimal n)
field_text v = Err TypeError

abbrev pub query_part : Data → Answer Text
query_part (boolean true) = Ok (codes "true")
query_part (boolean false) = Ok (codes "false")
query_part v = field_text v

-- the values of a map as texts
abbrev pub texts_by : (Data → Answer Text) → Pairs → Answer (List (Text × Text))
texts_by f no_pairs = Ok []
texts_by f (pair k v ps) = f v >>= λ t. texts_by f ps >>= λ ts. Ok ((k, t) ∷ ts)

abbrev pub as_text : Option Data → Answer Text
as_text (Some (text t)) = Ok t
as_text v = Err TypeError

abbrev pub pairs_by : (Data → Answer Text) → Option Data → Answer (List (Text × Text))
pairs_by f None = Ok []
pairs_by f (Some (map ps)) = texts_by f ps
pairs_by f (Some v) = Err TypeError

abbrev pub as_whole : ℤ → Option Data → Answer ℤ
as_whole absent None = Ok absent
as_whole absent (Some (integer n)) = Ok n
as_whole absent (Some v) = Err TypeError

-- ## Values
-- a whole number from the first to the second
abbrev pub whole_between : ℕ → ℕ → ℤ → Answer ℕ
whole_between low high (pos n) = if nat_le low n && nat_le n high then Ok n else Err ValueError
whole_between low high (negsuc n) = Err ValueError

-- the method of a call's name, or that of its arguments
abbrev pub method_text : Option Method → Pairs → Answer Text
method_text (Some m) args = Ok (method_name m)
method_text None args = as_text (get (codes "method") args)

-- a body that is null is none
abbrev pub sent_body : Option Data → Option Data
sent_body (Some null) = None
sent_body v = v

-- kinds first, then the method and the timeout; `auth` is accepted, of any kind, and not sent
abbrev pub asked : Option Method → Pairs → Answer Asked
asked m args =
    method_text m args >>= λ name. as_text (get (codes "url") args) >>= λ u.
    pairs_by field_text (get (codes "headers") args) >>= λ fields. pairs_by query_part (get (codes "query") args) >>= λ query.
    as_whole (pos 300) (get (codes "timeout") args) >>= λ seconds.
    or_error ValueError (method_named name) >>= λ method. whole_between 1 1800 seconds >>= λ timeout.
    Ok (record { method = method; url = u; fields = fields; query = query; body = sent_body (get (codes "body") args); timeout = timeout })

-- ## Fields
-- those that a request has by itself
abbrev pub own_fields : List Text
own_fields = codes "host" ∷ codes "connection" ∷ codes "content-length" ∷ codes "transfer-encoding" ∷ codes "x-workflow-call" ∷ []

abbrev pub is_among : Text → List Text → Bool
is_among x xs = list_any (bytes_eq x) xs

abbrev pub is_field_byte : ℕ → Bool
is_field_byte b = nat_le 32 b && nat_le b 126

-- each name is a token, none is the request's own or stands twice, and values are of visible ASCII and blanks
abbrev pub good_fields : List Text → List (Text × Text) → Bool
good_fields earlier [] = true
good_fields earlier (f ∷ fs) =
    is_token f.0 && not (is_among (lowercase f.0) (own_fields ++ earlier)) && list_all is_field_byte f.1 && good_fields (lowercase f.0 ∷ earlier) fs

-- ## Bodies
-- the bytes of a body, and the media type where the caller gives none
pub record Payload : Type 0 where
  pub type : Text
  pub bytes : List ℕ

abbrev pub payload : Option Data → Option Payload
payload None = None
payload (Some (text t)) = Some (record { type = codes "text/plain; charset=utf-8"; bytes = t })
payload (Some (bytes b)) = Some (record { type = codes "application/octet-stream"; bytes = b })
payload (Some v) = Some (record { type = codes "application/json"; bytes = json_text v })

abbrev pub is_json : Option Data → Bool
is_json None = false
is_json (Some (text t)) = false
is_json (Some (bytes b)) = false
is_json (Some v) = true

abbrev pub content_types : List (Text × Text) → List Text
content_types fs = values_of (codes "content-type") fs

-- a body that is sent as JSON stands under no other media type
abbrev pub good_body : Asked → Bool
good_body a = not (is_json a.body) || list_all (λ t. bytes_eq (media_type_of t) json_type) (content_types a.fields)

-- ## Lines
abbrev pub query_pair : Text × Text → Text
query_pair p = url_encoded p.0 ++ codes "=" ++ url_encoded p.1

abbrev pub has_query : Text → Bool
has_query target = list_any (λ b. b == question_mark) target

-- the pairs of a query behind the target's own
abbrev pub with_query : Text → List (Text × Text) → Text
with_query target [] = target
with_query target (p ∷ ps) =
    target ++ (if has_query target then codes "&" else codes "?") ++ joined_by (codes "&") (query_pair p ∷ seq.map query_pair ps)

abbrev pub field_line : Text × Text → Text
field_line f = line (f.0 ++ codes ": " ++ f.1)

abbrev pub type_line : List Text → Option Payload → Text
type_line [] (Some p) = line (codes "Content-Type: " ++ p.type)
type_line ts p = []

-- also without a body, under these methods
abbrev pub length_line : Method → Option Payload → Text
length_line m (Some p) = line (codes "Content-Length: " ++ decimal (length p.bytes))
length_line m None = if list_any (same_method m) (Post ∷ Put ∷ Patch ∷ []) then line (codes "Content-Length: 0") else []

abbrev pub payload_bytes : Option Payload → List ℕ
payload_bytes None = []
payload_bytes (Some p) = p.bytes

-- the lines and the body
abbrev pub request_text : Goal → Asked → Text → ℕ → List ℕ
request_text g a id k =
    line (method_name a.method ++ codes " " ++ with_query g.target a.query ++ codes " HTTP/1.1")
    ++ line (codes "Host: " ++ g.authority)
    ++ flat_map field_line a.fields
    ++ line (codes "Connection: close")
    ++ line (codes "X-Workflow-Call: " ++ id ++ codes "-" ++ decimal k)
    ++ type_line (content_types a.fields) (payload a.body)
    ++ length_line a.method (payload a.body)
    ++ line []
    ++ payload_bytes (payload a.body)

-- the bytes of call k of the execution
abbrev pub request_bytes : Goal → Asked → Text → ℕ → Result (List ℕ) OutFault
request_bytes g a id k =
    if not (good_fields [] a.fields) then Err BadHeader else (if not (good_body a) then Err BadBody else Ok (request_text g a id k))

-- ## The request of a call
pub record Request : Type 0 where
  pub address : Address
  pub bytes : List ℕ

abbrev pub bytes_to : Goal → Result (List ℕ) OutFault → Answer Request
bytes_to g (Err e) = Err (out_tag e)
bytes_to g (Ok b) = Ok (record { address = g.address; bytes = b })

abbrev pub request_to : Result Goal OutFault → Asked → Text → ℕ → Answer Request
request_to (Err e) a id k = Err (out_tag e)
request_to (Ok g) a id k = bytes_to g (request_bytes g a id k)

-- the request of call k, or the error of its URL, its fields or its body, in this order
abbrev pub request : Routes → Asked → Text → ℕ → Answer Request
request routes a id k = request_to (goal a.url routes) a id k
