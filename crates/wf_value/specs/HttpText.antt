-- HTTP texts: names of fields, media types, and the values that messages give.
--     reply_result, visit_result      the value of an answer and of a callback
--     reply_bytes, callback_url       what a visit is told, and where it comes
use Rattle.std.specs.Prelude.{ℕ, Bool, true, false, ◌&&◌, List, [], ◌∷◌, ◌++◌, length, pos, if◌then◌else◌, nat_lt, nat_le, ◌==◌, Some, None, Ok, Err, codes, bytes_eq, decimal, fold, filter, Option, Result}
use Rattle.std.specs.Prelude as seq  -- by hand
use Rattle.std.specs.Str.{is_utf8}
use Rattle.std.specs.Char.{to_ascii_uppercase, to_ascii_lowercase}
use Rattle.http_uri.specs.ByteClasses.{lowercase, split_once_front}
use Rattle.httparse.specs.Grammar.{trim_ows}
use Rattle.wf_value.specs.Data.{Data, null, integer, text, bytes, map, Pairs, no_pairs}
use Rattle.wf_value.specs.Decode.{json_value}
use Rattle.wf_value.specs.Errors.{error_map, http_error, Answer, as_result, nested_error}
use Rattle.wf_value.specs.declared.errors.Tag.TheVariants.{ConnectionError, ResourceLimitError, ResponseTypeError}
use Rattle.wf_value.specs.Events.{method_name, Headers, Visitor, Reply, Response, Broken, TooLong}
use Rattle.wf_value.specs.LibText.{starts_with}
use Rattle.wf_value.specs.Pairs.{Text, get, put, map_of}

-- `;`, at which a media type ends
abbrev pub semicolon_byte : ℕ
semicolon_byte = 59

abbrev pub dash_byte : ℕ
dash_byte = 45

-- a capital first and after each dash, and lower case elsewhere
abbrev pub proper_name : Bool → Text → Text
proper_name first [] = []
proper_name true (b ∷ s) = to_ascii_uppercase b ∷ proper_name (b == dash_byte) s
proper_name false (b ∷ s) = to_ascii_lowercase b ∷ proper_name (b == dash_byte) s

-- equal names are joined in order
abbrev pub joined_value : Option Data → Text → Data
joined_value (Some (text u)) v = text (u ++ codes ", " ++ v)
joined_value w v = text v

abbrev pub with_value_at : Text → Text → Pairs → Pairs
with_value_at x v ps = put x (joined_value (get x ps) v) ps

-- a field whose name or value isn't UTF-8 is left out
abbrev pub with_field : Pairs → Text × Text → Pairs
with_field ps f = if is_utf8 f.0 && is_utf8 f.1 then with_value_at (proper_name true f.0) f.1 ps else ps

-- the fields as a map
abbrev pub header_map : Headers → Pairs
header_map fs = fold with_field no_pairs fs

abbrev pub is_field_named : Text → Text × Text → Bool
is_field_named x f = bytes_eq (lowercase x) (lowercase f.0)

-- the values of the fields of a name, without case
abbrev pub values_of : Text → Headers → List (List ℕ)
values_of x fs = seq.map (λ f. f.1) (filter (is_field_named x) fs)

-- a media type, without case and up to `;`
abbrev pub media_type_of : Text → Text
media_type_of s = lowercase (trim_ows (split_once_front semicolon_byte s))

abbrev pub media_type : Option Data → Text
media_type (Some (text s)) = media_type_of s
media_type v = []

abbrev pub json_type : Text
json_type = codes "application/json"

-- ## Bodies as values
abbrev pub text_or_bytes : List ℕ → Data
text_or_bytes b = if is_utf8 b then text b else bytes b

-- JSON that has no value is an error, or is passed on where the reading is lenient
abbrev pub json_body : Bool → List ℕ → Option Data → Answer Data
json_body lenient b (Some v) = Ok v
json_body true b None = Ok (text_or_bytes b)
json_body false b None = Err ResponseTypeError

-- by the media type: JSON, a text where it is UTF-8, or bytes
abbrev pub typed_body : Bool → Text → List ℕ → Answer Data
typed_body lenient t b = elim (bytes_eq t json_type) [ true ↦ json_body lenient b (json_value b) | false ↦ if starts_with (codes "text/") t then Ok (text_or_bytes b) else Ok (bytes b) ]

-- the media type that a message tells
abbrev pub content_type : Headers → Text
content_type fs = media_type (get (codes "Content-Type") (header_map fs))

-- an empty body is null, and one with a Content-Encoding is bytes
abbrev pub body_value : Bool → Headers → List ℕ → Answer Data
body_value lenient fs [] = Ok null
body_value lenient fs (b ∷ bs) =
    elim (values_of (codes "content-encoding") fs) [ [] ↦ typed_body lenient (content_type fs) (b ∷ bs) | v ∷ vs ↦ Ok (bytes (b ∷ bs)) ]

-- ## What a call and a callback give
abbrev pub result_map : ℕ → Data → Data → Data
result_map code headers body =
    map (map_of ((codes "body", body) ∷ (codes "code", integer (pos code)) ∷ (codes "headers", headers) ∷ []))

-- a code of 400 or more is raised
abbrev pub response_result : ℕ → Data → Answer Data → Result Data Data
response_result code headers (Err t) = Err (error_map t)
response_result code headers (Ok body) = if nat_lt code 400 then as_result (result_map code headers body) else Err (nested_error (http_error code headers body))

-- the value of an answer, or the error that it raises
abbrev pub reply_result : Reply → Result Data Data
reply_result Broken = Err (error_map ConnectionError)
reply_result TooLong = Err (error_map ResourceLimitError)
reply_result (Response code fs b) = response_result code (map (header_map fs)) (body_value (nat_le 400 code) fs b)

abbrev pub visit_pairs : Visitor → Data → List (Text × Data)
visit_pairs v body = (codes "body", body) ∷ (codes "headers", map (header_map v.headers)) ∷ (codes "method", text (method_name v.method)) ∷ []

-- a map of `http_request` alone
abbrev pub visit_map : Visitor → Data → Data
visit_map v body = map (map_of ((codes "http_request", map (map_of (visit_pairs v body))) ∷ []))

abbrev pub visit_kept : Visitor → Answer Data → Result Data Data
visit_kept v (Err t) = Err (error_map t)
visit_kept v (Ok body) = as_result (visit_map v body)

-- the value of a callback
abbrev pub visit_result : Visitor → Result Data Data
visit_result v = visit_kept v (body_value true v.headers v.body)

-- what counts toward the sum of bodies
abbrev pub reply_length : Reply → ℕ
reply_length (Response code fs b) = length b
reply_length Broken = 0
reply_length TooLong = 0

-- ## Lines and replies
-- a line with its end
abbrev pub line : Text → Text
line s = s ++ 13 ∷ 10 ∷ []

pub data ReplyCode : Type 0 where
  Accepted : ReplyCode
  BadRequest : ReplyCode
  NotFound : ReplyCode
  MethodNotAllowed : ReplyCode
  ContentTooLarge : ReplyCode
  TooManyRequests : ReplyCode

abbrev pub status_text : ReplyCode → Text
status_text Accepted = codes "200 OK"
status_text BadRequest = codes "400 Bad Request"
status_text NotFound = codes "404 Not Found"
status_text MethodNotAllowed = codes "405 Method Not Allowed"
status_text ContentTooLarge = codes "413 Content Too Large"
status_text TooManyRequests = codes "429 Too Many Requests"

-- a reply to a visit
abbrev pub reply_bytes : ReplyCode → Text
reply_bytes r = line (codes "HTTP/1.1 " ++ status_text r) ++ line (codes "Content-Length: 0") ++ line (codes "Connection: close") ++ line []

-- ## Callback addresses
-- the path of endpoint n, and its whole address
abbrev pub callback_path : Text → ℕ → Text
callback_path id n = codes "/callbacks/" ++ id ++ codes "/" ++ decimal n

abbrev pub callback_url : Text → Text → ℕ → Text
callback_url base id n = codes "http://" ++ base ++ callback_path id n
