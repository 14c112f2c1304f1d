-- The errors that the language raises: a tag, and the map that stands for it.
use Rattle.std.specs.Prelude.{ℕ, ◌+◌, min, ◌&&◌, List, [], ◌∷◌, ◌++◌, pos, if◌then◌else◌, nat_le, Some, None, Ok, Err, codes, decimal, Option, Result}
use Rattle.wf_value.specs.Data.{Data, integer, text, list, map, depth, depth_limit, size, size_limit}
use Rattle.wf_value.specs.Pairs.{Text, map_of, text_items}
pub use Rattle.wf_value.specs.declared.errors.Tag.{Tag}
pub use Rattle.wf_value.specs.declared.errors.Tag.TheVariants.{ConnectionError, HttpError, IndexError, KeyError, ParallelNestingError, RecursionError, ResourceLimitError, ResponseTypeError, TimeoutError, TypeError, UnhandledBranchError, ValueError, ZeroDivisionError}

-- the name of a tag
abbrev pub tag_name : Tag → Text
tag_name ConnectionError = codes "ConnectionError"
tag_name HttpError = codes "HttpError"
tag_name IndexError = codes "IndexError"
tag_name KeyError = codes "KeyError"
tag_name ParallelNestingError = codes "ParallelNestingError"
tag_name RecursionError = codes "RecursionError"
tag_name ResourceLimitError = codes "ResourceLimitError"
tag_name ResponseTypeError = codes "ResponseTypeError"
tag_name TimeoutError = codes "TimeoutError"
tag_name TypeError = codes "TypeError"
tag_name UnhandledBranchError = codes "UnhandledBranchError"
tag_name ValueError = codes "ValueError"
tag_name ZeroDivisionError = codes "ZeroDivisionError"

-- the message of an error; that of an HttpError is followed by the status code
abbrev pub tag_message : Tag → Text
tag_message ConnectionError = codes "connection failed"
tag_message HttpError = codes "HTTP server responded with error code "
tag_message IndexError = codes "index out of range"
tag_message KeyError = codes "key not found"
tag_message ParallelNestingError = codes "parallel steps nested too deep"
tag_message RecursionError = codes "calls nested too deep"
tag_message ResourceLimitError = codes "limit exceeded"
tag_message ResponseTypeError = codes "unexpected response"
tag_message TimeoutError = codes "timed out"
tag_message TypeError = codes "wrong type"
tag_message UnhandledBranchError = codes "one or more branches failed"
tag_message ValueError = codes "bad value"
tag_message ZeroDivisionError = codes "division by zero"

-- the map of one tag and a message, beside these other pairs
abbrev pub error_with : Tag → Text → List (Text × Data) → Data
error_with t message more =
    map (map_of ((codes "message", text message) ∷ (codes "tags", list (text_items (tag_name t ∷ []))) ∷ more))

-- the map of one tag and its message
abbrev pub error_map : Tag → Data
error_map t = error_with t (tag_message t) []

-- an HttpError's code, fields and body
abbrev pub http_error : ℕ → Data → Data → Data
http_error code headers body =
    error_with HttpError (tag_message HttpError ++ decimal code) ((codes "body", body) ∷ (codes "code", integer (pos code)) ∷ (codes "headers", headers) ∷ [])

-- a value, or the tag of the first error
abbrev pub Answer : Type 0 → Type 0
Answer A = Result A Tag

infixl 20 ◌>>=◌
-- the next step of what has an answer; the first error ends it
abbrev pub ◌>>=◌ : {A B : Type 0} → Answer A → (A → Answer B) → Answer B
Ok a >>= f = f a
Err t >>= f = Err t

-- what is there, or an error with the tag
abbrev pub or_error : {A : Type 0} → Tag → Option A → Answer A
or_error t None = Err t
or_error t (Some a) = Ok a

-- a value within the limit on size
abbrev pub sized : Data → Answer Data
sized v = if nat_le (size v) size_limit then Ok v else Err ResourceLimitError

-- a value within the limits on size and on nesting
abbrev pub kept : Data → Answer Data
kept v = if nat_le (size v) size_limit && nat_le (depth v) depth_limit then Ok v else Err ResourceLimitError

-- the map of a call's answer or of a callback, or a ResourceLimitError past these limits
abbrev pub as_result : Data → Result Data Data
as_result v = if nat_le (size v) size_limit && nat_le (depth v) depth_limit then Ok v else Err (error_map ResourceLimitError)

-- an error that is raised, or a ResourceLimitError where it nests too deep
abbrev pub nested_error : Data → Data
nested_error e = if nat_le (depth e) depth_limit then e else error_map ResourceLimitError

-- a sum of moments stops at the greatest u64
abbrev pub later : ℕ → ℕ → ℕ
later t n = min (t + n) 18446744073709551615
