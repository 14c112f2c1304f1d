-- Worked examples of the plain data: the library, requests, answers, bodies, retry policies and queues.
use Rattle.std.specs.Prelude.{◌≡◌, ℕ, Bool, true, false, List, [], ◌∷◌, ◌++◌, length, replicate, pos, Some, None, Ok, Err, codes, is_err}
use Rattle.std.specs.List.{list_all}
use Rattle.wf_value.specs.Data.{Data, null, integer, text, bytes, list, map, no_items, item, no_pairs, pair}
use Rattle.wf_value.specs.Errors.{Answer, error_map}
use Rattle.wf_value.specs.declared.errors.Tag.TheVariants.{ConnectionError, IndexError, KeyError, ResponseTypeError, TimeoutError, TypeError, ValueError}
use Rattle.wf_value.specs.Events.{Get, Post, Headers, Visitor, Response, Routes}
use Rattle.wf_value.specs.HttpBody.{OfLength, InChunks, ToTheEnd, BadFraming, by_fields}
use Rattle.wf_value.specs.HttpRequest.{Asked, asked, Request, request}
use Rattle.wf_value.specs.HttpText.{NotFound, header_map, reply_result, visit_result, reply_bytes, callback_url, line}
use Rattle.wf_value.specs.LibData.{map_get, map_delete, map_merge, json_decode, base64_encode, base64_decode}
use Rattle.wf_value.specs.LibText.{text_split, text_replace_all, text_substring, text_find_all, text_url_encode, text_url_decode, text_decode}
use Rattle.wf_value.specs.LibTime.{time_format, time_parse}
use Rattle.wf_value.specs.Policies.{Backoff, Idempotent, NonIdempotent, next_delay, default_says}
use Rattle.wf_value.specs.Queues.{Endpoint, UnknownEndpoint, WrongMethod, QueueFull, arrive_fault}
use Rattle.wf_value.specs.Pairs.{Text, map_of, text_items}

abbrev pub texts : List Text → Data
texts ts = list (text_items ts)

-- ## Texts
abbrev pub SplitKeepsEmptyParts : Type 0
SplitKeepsEmptyParts = text_split (text (codes "a,b,")) (text (codes ",")) ≡ Ok (texts (codes "a" ∷ codes "b" ∷ [] ∷ []))

abbrev pub EmptySeparatorRaises : Type 0
EmptySeparatorRaises = text_split (text (codes "ab")) (text []) ≡ Err ValueError

abbrev pub ReplacingGoesFromTheLeft : Type 0
ReplacingGoesFromTheLeft = text_replace_all (text (codes "aaa")) (text (codes "aa")) (text (codes "b")) ≡ Ok (text (codes "ba"))

-- positions count characters: the first one has two bytes
abbrev pub SubstringCountsCharacters : Type 0
SubstringCountsCharacters = text_substring (text (195 ∷ 169 ∷ codes "ab")) (integer (pos 1)) (integer (pos 2)) ≡ Ok (text (codes "a"))

abbrev pub SubstringPastTheEndRaises : Type 0
SubstringPastTheEndRaises = text_substring (text (codes "ab")) (integer (pos 1)) (integer (pos 3)) ≡ Err IndexError

abbrev pub FindingCountsCharacters : Type 0
FindingCountsCharacters = text_find_all (text (195 ∷ 169 ∷ codes "aba")) (text (codes "a")) ≡ Ok (list (item (integer (pos 1)) (item (integer (pos 3)) no_items)))

abbrev pub UrlEncodingEscapesABlank : Type 0
UrlEncodingEscapesABlank = text_url_encode (text (codes "a b")) ≡ Ok (text (codes "a%20b"))

-- a `%` without two digits stays
abbrev pub UrlDecodingKeepsALonePercent : Type 0
UrlDecodingKeepsALonePercent = text_url_decode (text (codes "%61%zz%")) ≡ Ok (text (codes "a%zz%"))

abbrev pub DecodingAsksForUtf8 : Type 0
DecodingAsksForUtf8 = text_decode (bytes (255 ∷ [])) ≡ Err ValueError

-- ## Lists, maps, JSON and base64
-- keys are followed one by one, and null comes where one is missing
abbrev pub one_in_a : Data
one_in_a = map (pair (codes "a") (map (pair (codes "b") (integer (pos 1)) no_pairs)) no_pairs)

abbrev pub MapGetFollowsKeys : Type 0
MapGetFollowsKeys =
    (map_get one_in_a (texts (codes "a" ∷ codes "b" ∷ [])) ≡ Ok (integer (pos 1))) × (map_get one_in_a (texts (codes "x" ∷ codes "b" ∷ [])) ≡ Ok null)

abbrev pub MissingKeyIsNotDeleted : Type 0
MissingKeyIsNotDeleted = map_delete one_in_a (text (codes "x")) ≡ Err KeyError

abbrev pub SecondMapWins : Type 0
SecondMapWins = map_merge one_in_a (map (pair (codes "a") null no_pairs)) ≡ Ok (map (pair (codes "a") null no_pairs))

abbrev pub DecimalsAreNotDecoded : Type 0
DecimalsAreNotDecoded = json_decode (text (codes "1.5")) ≡ Err ValueError

abbrev pub Base64IsPadded : Type 0
Base64IsPadded = base64_encode (bytes (codes "hi")) ≡ Ok (text (codes "aGk="))

abbrev pub UnpaddedBase64Raises : Type 0
UnpaddedBase64Raises = base64_decode (text (codes "aGk")) ≡ Err ValueError

-- ## Time
abbrev pub FirstSecond : Type 0
FirstSecond = time_format (integer (pos 0)) ≡ Ok (text (codes "1970-01-01T00:00:00Z"))

abbrev pub LastSecond : Type 0
LastSecond = time_format (integer (pos 253370764799)) ≡ Ok (text (codes "9998-12-31T23:59:59Z"))

abbrev pub NoSecondBehindTheLast : Type 0
NoSecondBehindTheLast = time_format (integer (pos 253370764800)) ≡ Err ValueError

abbrev pub SecondDay : Type 0
SecondDay = time_parse (text (codes "1970-01-02T00:00:00Z")) ≡ Ok (integer (pos 86400))

-- digits behind the point are dropped, and a zone that is ahead is taken off
abbrev pub ZoneIsTakenOff : Type 0
ZoneIsTakenOff = time_parse (text (codes "1970-01-02T01:30:00.999+01:30")) ≡ Ok (integer (pos 86400))

abbrev pub LeapDay : Type 0
LeapDay = (time_parse (text (codes "2000-02-29T00:00:00Z")) ≡ Ok (integer (pos 951782400))) × (time_parse (text (codes "1900-02-29T00:00:00Z")) ≡ Err ValueError)

-- ## Requests
abbrev pub asked_get : Text → Asked
asked_get u = record { method = Get; url = u; fields = []; query = []; body = None; timeout = 300 }

-- a request line, three fields and an empty line
abbrev pub first_request : Text
first_request =
    line (codes "GET /x HTTP/1.1") ++ line (codes "Host: 127.0.0.1:9000") ++ line (codes "Connection: close") ++ line (codes "X-Workflow-Call: t1-1") ++ line []

abbrev pub GetRequest : Type 0
GetRequest = request [] (asked_get (codes "http://127.0.0.1:9000/x")) (codes "t1") 1
    ≡ Ok (record { address = record { name = codes "127.0.0.1"; port = 9000 }; bytes = first_request })

abbrev pub GetRequestHas83Bytes : Type 0
GetRequestHas83Bytes = length first_request ≡ 83

abbrev pub to_here : Routes
to_here = (codes "api.test", record { name = codes "127.0.0.1"; port = 9000 }) ∷ []

abbrev pub posted : Asked
posted = record { method = Post; url = codes "https://api.test/list"; fields = []; query = []; body = Some (map (pair (codes "kind") (text (codes "new")) no_pairs)); timeout = 300 }

-- by its route; the host stays as written
abbrev pub PostRequest : Type 0
PostRequest = request to_here posted (codes "o1") 1 ≡ Ok (record {
  address = record { name = codes "127.0.0.1"; port = 9000 };
  bytes = line (codes "POST /list HTTP/1.1") ++ line (codes "Host: api.test") ++ line (codes "Connection: close") ++ line (codes "X-Workflow-Call: o1-1")
      ++ line (codes "Content-Type: application/json") ++ line (codes "Content-Length: 14") ++ line [] ++ codes "{\"kind\":\"new\"}";
})

abbrev pub SecureUrlTakesARoute : Type 0
SecureUrlTakesARoute = request [] posted (codes "o1") 1 ≡ Err ConnectionError

-- a query, encoded, behind the URL's own
abbrev pub queried : Text → Asked
queried u = record (asked_get u) { query = (codes "q r", codes "1/2") ∷ []; fields = (codes "Accept", codes "*/*") ∷ [] }

abbrev pub QueryFollowsTheUrls : Type 0
QueryFollowsTheUrls = request [] (queried (codes "http://h?a=1")) (codes "t1") 2 ≡ Ok (record {
  address = record { name = codes "h"; port = 80 };
  bytes = line (codes "GET /?a=1&q%20r=1%2F2 HTTP/1.1") ++ line (codes "Host: h") ++ line (codes "Accept: */*") ++ line (codes "Connection: close") ++ line (codes "X-Workflow-Call: t1-2") ++ line [];
})

-- also an empty one
abbrev pub EmptyQueryIsAQuery : Type 0
EmptyQueryIsAQuery = request [] (queried (codes "http://h:0080/?")) (codes "t1") 2 ≡ Ok (record {
  address = record { name = codes "h"; port = 80 };
  bytes = line (codes "GET /?&q%20r=1%2F2 HTTP/1.1") ++ line (codes "Host: h:0080") ++ line (codes "Accept: */*") ++ line (codes "Connection: close") ++ line (codes "X-Workflow-Call: t1-2") ++ line [];
})

-- a user, no host, a port of nothing, one that is too great, a fragment, another scheme, no absolute form, an empty text
abbrev pub is_refused : Text → Bool
is_refused u = is_err (request [] (asked_get u) (codes "t1") 1)

abbrev pub OtherUrlsAreRefused : Type 0
OtherUrlsAreRefused =
    list_all is_refused (codes "http://u@h/" ∷ codes "http://:80/" ∷ codes "http://h:/" ∷ codes "http://h:65536/" ∷ codes "http://h:0/" ∷ codes "http://h/#a" ∷ codes "ftp://h/" ∷ codes "/x" ∷ codes "h" ∷ [] ∷ []) ≡ true

-- fields that the request has by itself, without case, and names that stand twice
abbrev pub with_fields : List (Text × Text) → Answer Request
with_fields fs = request [] (record (asked_get (codes "http://h/")) { fields = fs }) (codes "t1") 1

abbrev pub OwnFieldsAreRefused : Type 0
OwnFieldsAreRefused = with_fields ((codes "HOST", codes "x") ∷ []) ≡ Err ValueError

abbrev pub DoubleFieldsAreRefused : Type 0
DoubleFieldsAreRefused = with_fields ((codes "A", codes "x") ∷ (codes "a", codes "y") ∷ []) ≡ Err ValueError

-- a body that is sent as JSON, under another media type
abbrev pub JsonUnderAnotherTypeRaises : Type 0
JsonUnderAnotherTypeRaises = request to_here (record posted { fields = (codes "content-type", codes "text/plain") ∷ [] }) (codes "o1") 1 ≡ Err ValueError

-- kinds come before the method and the timeout, and null is no map of fields
abbrev pub KindsAreTriedFirst : Type 0
KindsAreTriedFirst = asked None (map_of ((codes "method", text (codes "HEAD")) ∷ (codes "url", text (codes "x")) ∷ (codes "timeout", text []) ∷ [])) ≡ Err TypeError

abbrev pub NullIsNoMapOfFields : Type 0
NullIsNoMapOfFields = asked (Some Get) (map_of ((codes "headers", null) ∷ (codes "url", text (codes "x")) ∷ [])) ≡ Err TypeError

abbrev pub UnknownMethodRaises : Type 0
UnknownMethodRaises = asked None (map_of ((codes "method", text (codes "HEAD")) ∷ (codes "url", text (codes "x")) ∷ [])) ≡ Err ValueError

abbrev pub TimeoutOfNothingRaises : Type 0
TimeoutOfNothingRaises = asked (Some Get) (map_of ((codes "timeout", integer (pos 0)) ∷ (codes "url", text (codes "x")) ∷ [])) ≡ Err ValueError

-- ## Answers as values
abbrev pub json_field : Headers
json_field = (codes "content-TYPE", codes "Application/JSON; charset=utf-8") ∷ []

abbrev pub result_of : Data → Data
result_of body = map (map_of (
    (codes "body", body) ∷ (codes "code", integer (pos 200))
    ∷ (codes "headers", map (pair (codes "Content-Type") (text (codes "Application/JSON; charset=utf-8")) no_pairs)) ∷ []))

abbrev pub JsonAnswerIsDecoded : Type 0
JsonAnswerIsDecoded = reply_result (Response 200 json_field (codes "{\"n\":3}")) ≡ Ok (result_of (map (pair (codes "n") (integer (pos 3)) no_pairs)))

abbrev pub EmptyBodyIsNull : Type 0
EmptyBodyIsNull = reply_result (Response 200 json_field []) ≡ Ok (result_of null)

abbrev pub BadJsonRaises : Type 0
BadJsonRaises = reply_result (Response 200 json_field (codes "{")) ≡ Err (error_map ResponseTypeError)

abbrev pub http_error_of : Data → Data → Data
http_error_of headers body = map (map_of (
    (codes "body", body) ∷ (codes "code", integer (pos 404)) ∷ (codes "headers", headers)
    ∷ (codes "message", text (codes "HTTP server responded with error code 404")) ∷ (codes "tags", list (item (text (codes "HttpError")) no_items)) ∷ []))

abbrev pub ErrorCodeRaises : Type 0
ErrorCodeRaises = reply_result (Response 404 ((codes "Content-Length", codes "0") ∷ []) []) ≡ Err (http_error_of (map (pair (codes "Content-Length") (text (codes "0")) no_pairs)) null)

-- under such a code JSON that has no value is a text
abbrev pub BadJsonOfAnErrorIsAText : Type 0
BadJsonOfAnErrorIsAText = reply_result (Response 404 ((codes "Content-Type", codes "application/json") ∷ []) (codes "{"))
    ≡ Err (http_error_of (map (pair (codes "Content-Type") (text (codes "application/json")) no_pairs)) (text (codes "{")))

-- a body with a Content-Encoding is bytes
abbrev pub EncodedBodyIsBytes : Type 0
EncodedBodyIsBytes = visit_result (record { method = Post; headers = (codes "content-encoding", codes "br") ∷ (codes "content-type", codes "text/plain") ∷ []; body = codes "x" })
    ≡ Ok (map (pair (codes "http_request") (map (map_of (
    (codes "body", bytes (codes "x"))
    ∷ (codes "headers", map (map_of ((codes "Content-Encoding", text (codes "br")) ∷ (codes "Content-Type", text (codes "text/plain")) ∷ [])))
    ∷ (codes "method", text (codes "POST")) ∷ []))) no_pairs))

abbrev pub EqualFieldsAreJoined : Type 0
EqualFieldsAreJoined = header_map ((codes "x-a", codes "1") ∷ (codes "b", codes "2") ∷ (codes "X-A", codes "3") ∷ []) ≡ map_of ((codes "B", text (codes "2")) ∷ (codes "X-A", text (codes "1, 3")) ∷ [])

-- ## How long a body is
abbrev pub content_length : Text → Text × Text
content_length n = (codes "Content-Length", n)

abbrev pub chunked_field : Text × Text
chunked_field = (codes "Transfer-Encoding", codes "Chunked")

-- lengths are compared as numbers
abbrev pub EqualLengthsAgree : Type 0
EqualLengthsAgree = by_fields ToTheEnd (content_length (codes "3") ∷ content_length (codes "03") ∷ []) ≡ OfLength 3

abbrev pub OtherLengthsDiffer : Type 0
OtherLengthsDiffer = by_fields ToTheEnd (content_length (codes "3") ∷ content_length (codes "4") ∷ []) ≡ BadFraming

abbrev pub LengthIsOfDigits : Type 0
LengthIsOfDigits = by_fields ToTheEnd (content_length (codes "+3") ∷ []) ≡ BadFraming

-- a coding goes before a length, and is `chunked` alone
abbrev pub ChunksGoBeforeALength : Type 0
ChunksGoBeforeALength = by_fields ToTheEnd (content_length (codes "x") ∷ chunked_field ∷ []) ≡ InChunks

abbrev pub TwoCodingsAreBad : Type 0
TwoCodingsAreBad = by_fields ToTheEnd (chunked_field ∷ chunked_field ∷ []) ≡ BadFraming

-- ## Replies to visits, and callback addresses
abbrev pub NotFoundReply : Type 0
NotFoundReply = reply_bytes NotFound ≡ line (codes "HTTP/1.1 404 Not Found") ++ line (codes "Content-Length: 0") ++ line (codes "Connection: close") ++ line []

abbrev pub UrlOfAnEndpoint : Type 0
UrlOfAnEndpoint = callback_url (codes "127.0.0.1:8000") (codes "t1") 12 ≡ codes "http://127.0.0.1:8000/callbacks/t1/12"

-- ## Retry policies
abbrev pub default_backoff : Backoff
default_backoff = record { initial = 1000; max = 60000; multiplier = 1250 }

-- each delay is a quarter longer than the last one, in whole milliseconds, up to the greatest
abbrev pub DelaysGrow : Type 0
DelaysGrow = (next_delay default_backoff None ≡ 1000) × (next_delay default_backoff (Some 1250) ≡ 1562) × (next_delay default_backoff (Some 59000) ≡ 60000)

-- the first delay isn't bounded
abbrev pub FirstDelayIsNotBounded : Type 0
FirstDelayIsNotBounded = next_delay (record { initial = 100000; max = 1000; multiplier = 1000 }) None ≡ 100000

abbrev pub error_of_code : ℕ → Data
error_of_code n = map (pair (codes "code") (integer (pos n)) no_pairs)

abbrev pub PoliciesDecideByCodeAndTag : Type 0
PoliciesDecideByCodeAndTag =
    (default_says Idempotent (error_of_code 502) ≡ true) × (default_says NonIdempotent (error_of_code 502) ≡ false) × (default_says NonIdempotent (error_of_code 503) ≡ true)
    × (default_says Idempotent (error_map TimeoutError) ≡ true) × (default_says NonIdempotent (error_map TimeoutError) ≡ false) × (default_says Idempotent (text (codes "TimeoutError")) ≡ false)

-- ## Queues
abbrev pub hello : Visitor
hello = record { method = Post; headers = []; body = codes "hello" }

abbrev pub with_waiting : ℕ → List Endpoint
with_waiting n = record { method = Post; queue = replicate n hello } ∷ []

-- the endpoint, its method, its room, and the bytes that are left for bodies
abbrev pub ArrivalsMayBeRefused : Type 0
ArrivalsMayBeRefused =
    (arrive_fault (with_waiting 99) 1 hello 5 ≡ None) × (arrive_fault (with_waiting 0) 2 hello 5 ≡ Some UnknownEndpoint)
    × (arrive_fault (with_waiting 100) 1 (record hello { method = Get }) 5 ≡ Some WrongMethod)
    × (arrive_fault (with_waiting 100) 1 hello 5 ≡ Some QueueFull) × (arrive_fault (with_waiting 0) 1 hello 4 ≡ Some QueueFull)
