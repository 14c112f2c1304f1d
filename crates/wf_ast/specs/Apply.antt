-- What the functions of expressions answer: a value, or the tag of an error. An argument of a kind that a function doesn't take
-- is a TypeError, before any look at values.
--     View      what an evaluation sees
--     apply     what a function answers to its arguments
use Rattle.wf_ast.specs.declared.expr.Func.TheVariants as func
use Rattle.std.specs.Prelude.{ℕ, ◌/◌, Bool, true, false, ◌&&◌, List, [], ◌∷◌, length, take, drop, ℤ, pos, neg_ℤ, if◌then◌else◌, nat_lt, Some, None, Ok, Err, codes, bytes_eq, chars, Option}
use Rattle.std.specs.Fmt.{signed_decimal}
use Rattle.std.specs.List.{list_all}
use Rattle.std.specs.Char.{is_ascii_digit}
use Rattle.std.specs.Str.Parse.{digits_value}
use Rattle.wf_ast.specs.declared.expr.Func.{Func}
use Rattle.wf_value.specs.Data.{Data, null, boolean, integer, text, bytes, list, map, items_of}
use Rattle.wf_value.specs.Errors.{Answer, ◌>>=◌}
use Rattle.wf_value.specs.declared.Tag.TheVariants.{KeyError, TypeError, ValueError}
use Rattle.wf_value.specs.LibData.{list_concat, list_prepend, map_get, map_delete, map_merge, json_encode, json_encode_to_string, json_decode, base64_encode, base64_decode}
use Rattle.wf_value.specs.LibText.{text_split, text_replace_all, text_substring, text_find_all, text_to_upper, text_to_lower, text_url_encode, text_url_decode, text_encode, text_decode}
use Rattle.wf_value.specs.LibTime.{time_format, time_parse}
use Rattle.wf_value.specs.Numbers.{in_64_bits, as_answer}
use Rattle.wf_value.specs.Pairs.{Text, items, keys}

-- what an evaluation sees: the visible names, the environment, the id, the callback base, and the reading in milliseconds of every `sys.now`
pub record View : Type 0 where
  pub look : Text → Option Data
  pub env : List (Text × Text)
  pub id : Text
  pub base : Text
  pub now : ℕ

-- ## The functions whose names have no point
-- keys as texts
abbrev pub key_texts : List Text → List Data
key_texts [] = []
key_texts (k ∷ ks) = text k ∷ key_texts ks

-- `len`: the characters of a text, bytes, items, pairs
abbrev pub count : Data → Answer Data
count (text t) = Ok (integer (pos (length (chars t))))
count (bytes b) = Ok (integer (pos (length b)))
count (list ds) = Ok (integer (pos (length (items ds))))
count (map ps) = Ok (integer (pos (length (keys ps))))
count v = Err TypeError

-- `get_type`
abbrev pub kind_name : Data → Text
kind_name null = codes "null"
kind_name (boolean b) = codes "boolean"
kind_name (integer n) = codes "integer"
kind_name (text t) = codes "string"
kind_name (bytes b) = codes "bytes"
kind_name (list ds) = codes "list"
kind_name (map ps) = codes "map"

-- one or more digits
abbrev pub is_digits : Text → Bool
is_digits s = nat_lt 0 (length s) && list_all is_ascii_digit s

-- the text begins with a minus
abbrev pub has_minus : Text → Bool
has_minus s = bytes_eq (take 1 s) (codes "-")

-- the text without its minus
abbrev pub digits_in : Text → Text
digits_in s = if has_minus s then drop 1 s else s

-- the whole number that `-?[0-9]+` writes
abbrev pub read_whole : Text → ℤ
read_whole s = if has_minus s then neg_ℤ (pos (digits_value 10 (digits_in s))) else pos (digits_value 10 s)

-- `int`: a whole number, or a text `-?[0-9]+` of one within 64 bits
abbrev pub as_int : Data → Answer Data
as_int (integer n) = Ok (integer n)
as_int (text s) = elim (is_digits (digits_in s)) [ false ↦ Err ValueError | true ↦ as_answer (in_64_bits (read_whole s)) ]
as_int v = Err TypeError

-- a part of a joined text is a text, a whole number or a truth value
abbrev pub shown : Data → Answer Text
shown (text t) = Ok t
shown (integer n) = Ok (signed_decimal n)
shown (boolean true) = Ok (codes "true")
shown (boolean false) = Ok (codes "false")
shown v = Err TypeError

-- `string`
abbrev pub as_string : Data → Answer Data
as_string v = shown v >>= λ t. Ok (text t)

-- `default`: the second where the first is null
abbrev pub or_default : Data → Data → Data
or_default null d = d
or_default v d = v

-- `if`: one of two, by a truth value
abbrev pub chosen_by : Data → Data → Data → Answer Data
chosen_by (boolean true) v w = Ok v
chosen_by (boolean false) v w = Ok w
chosen_by c v w = Err TypeError

-- ## The environment
-- the first pair of a key
abbrev pub env_in : List (Text × Text) → Text → Option Text
env_in [] k = None
env_in (e ∷ es) k = if bytes_eq e.0 k then Some e.1 else env_in es k

-- the value of a key of the environment; the id comes before a pair of its name
abbrev pub env_value : View → Text → Option Text
env_value s k = if bytes_eq k (codes "GOOGLE_CLOUD_WORKFLOW_EXECUTION_ID") then Some s.id else env_in s.env k

-- `sys.get_env`, with what it answers where the key is absent
abbrev pub as_env : View → Data → Answer Data → Answer Data
as_env s (text k) absent = elim (env_value s k) [ None ↦ absent | Some t ↦ Ok (text t) ]
as_env s v absent = Err TypeError

-- ## All of them; another count of arguments than a function takes is of no accepted program
-- of one argument
abbrev pub apply_one : Func → Data → Answer Data
apply_one func.Keys (map ps) = Ok (list (items_of (key_texts (keys ps))))
apply_one func.Len v = count v
apply_one func.GetType v = Ok (text (kind_name v))
apply_one func.Int v = as_int v
apply_one func.String v = as_string v
apply_one func.TextToUpper v = text_to_upper v
apply_one func.TextToLower v = text_to_lower v
apply_one func.TextUrlEncode v = text_url_encode v
apply_one func.TextUrlDecode v = text_url_decode v
apply_one func.TextEncode v = text_encode v
apply_one func.TextDecode v = text_decode v
apply_one func.JsonEncode v = json_encode v
apply_one func.JsonEncodeToString v = json_encode_to_string v
apply_one func.JsonDecode v = json_decode v
apply_one func.Base64Encode v = base64_encode v
apply_one func.Base64Decode v = base64_decode v
apply_one func.TimeFormat v = time_format v
apply_one func.TimeParse v = time_parse v
apply_one f v = Err TypeError

-- of two arguments
abbrev pub apply_two : Func → Data → Data → Answer Data
apply_two func.Default v w = Ok (or_default v w)
apply_two func.TextSplit v w = text_split v w
apply_two func.TextFindAll v w = text_find_all v w
apply_two func.ListConcat v w = list_concat v w
apply_two func.ListPrepend v w = list_prepend v w
apply_two func.MapGet v w = map_get v w
apply_two func.MapDelete v w = map_delete v w
apply_two func.MapMerge v w = map_merge v w
apply_two f v w = Err TypeError

-- of three arguments
abbrev pub apply_three : Func → Data → Data → Data → Answer Data
apply_three func.If v w u = chosen_by v w u
apply_three func.TextReplaceAll v w u = text_replace_all v w u
apply_three func.TextSubstring v w u = text_substring v w u
apply_three f v w u = Err TypeError

-- of any number of arguments
abbrev pub apply : View → Func → List Data → Answer Data
apply s func.SysNow [] = Ok (integer (pos (s.now / 1000)))
apply s func.SysGetEnv (v ∷ []) = as_env s v (Err KeyError)
apply s func.SysGetEnv (v ∷ d ∷ []) = as_env s v (Ok d)
apply s f (v ∷ []) = apply_one f v
apply s f (v ∷ w ∷ []) = apply_two f v w
apply s f (v ∷ w ∷ u ∷ []) = apply_three f v w u
apply s f vs = Err TypeError
