-- The functions: their names, the names of their arguments in order, and which of these may be absent.
--     Func        those that expressions may call, and call steps too
--     Special     those of call steps alone
use Rattle.wf_ast.specs.declared.expr.Func.TheVariants as func
use Rattle.wf_ast.specs.declared.expr.Func.{Func}
use Rattle.std.specs.Prelude.{Bool, not, ◌&&◌, ◌||◌, List, [], ◌∷◌, ◌++◌, length, if◌then◌else◌, ◌==◌, Some, None, codes, bytes_eq, filter, Option, option_map}
use Rattle.std.specs.List.{list_all}
use Rattle.wf_value.specs.Data.{Data, Pairs}
use Rattle.wf_value.specs.Events.{Method, Get, Post, Put, Patch, Delete}
use Rattle.wf_value.specs.HttpRequest.{is_among}
use Rattle.wf_value.specs.HttpUrl.{first_of_two}
use Rattle.wf_value.specs.Pairs.{Text, get}

-- the functions that only call steps may call
pub data Special : Type 0 where
  SysLog : Special
  SysSleep : Special
  SysSleepUntil : Special
  -- with the method that the name tells, or none for `http.request`
  HttpCall : Option Method → Special
  CreateEndpoint : Special
  AwaitCallback : Special

-- the names of a function's arguments: those that it needs, and those that may be absent
pub record Signature : Type 0 where
  pub needs : List Text
  pub may : List Text

-- one argument
abbrev pub one_of : Text → Signature
one_of a = record { needs = a ∷ []; may = [] }

-- two arguments
abbrev pub two_of : Text → Text → Signature
two_of a b = record { needs = a ∷ b ∷ []; may = [] }

-- three arguments
abbrev pub three_of : Text → Text → Text → Signature
three_of a b c = record { needs = a ∷ b ∷ c ∷ []; may = [] }

-- a function that expressions may call
pub record Listing : Type 0 where
  pub name : Text
  pub func : Func
  pub signature : Signature

-- a line of the table
abbrev pub listed_as : Text → Func → Signature → Listing
listed_as x f g = record { name = x; func = f; signature = g }

-- all functions that expressions may call, by name
abbrev pub library : List Listing
library =
    listed_as (codes "default") func.Default (two_of (codes "value") (codes "default"))
    ∷ listed_as (codes "keys") func.Keys (one_of (codes "map"))
    ∷ listed_as (codes "len") func.Len (one_of (codes "value"))
    ∷ listed_as (codes "get_type") func.GetType (one_of (codes "value"))
    ∷ listed_as (codes "int") func.Int (one_of (codes "value"))
    ∷ listed_as (codes "string") func.String (one_of (codes "value"))
    ∷ listed_as (codes "if") func.If (three_of (codes "condition") (codes "ifTrue") (codes "ifFalse"))
    ∷ listed_as (codes "text.split") func.TextSplit (two_of (codes "source") (codes "separator"))
    ∷ listed_as (codes "text.replace_all") func.TextReplaceAll (three_of (codes "source") (codes "substr") (codes "repl"))
    ∷ listed_as (codes "text.substring") func.TextSubstring (three_of (codes "source") (codes "start") (codes "end"))
    ∷ listed_as (codes "text.find_all") func.TextFindAll (two_of (codes "source") (codes "substr"))
    ∷ listed_as (codes "text.to_upper") func.TextToUpper (one_of (codes "source"))
    ∷ listed_as (codes "text.to_lower") func.TextToLower (one_of (codes "source"))
    ∷ listed_as (codes "text.url_encode") func.TextUrlEncode (one_of (codes "source"))
    ∷ listed_as (codes "text.url_decode") func.TextUrlDecode (one_of (codes "source"))
    ∷ listed_as (codes "text.encode") func.TextEncode (one_of (codes "data"))
    ∷ listed_as (codes "text.decode") func.TextDecode (one_of (codes "data"))
    ∷ listed_as (codes "list.concat") func.ListConcat (two_of (codes "objs") (codes "val"))
    ∷ listed_as (codes "list.prepend") func.ListPrepend (two_of (codes "objs") (codes "val"))
    ∷ listed_as (codes "map.get") func.MapGet (two_of (codes "map") (codes "keys"))
    ∷ listed_as (codes "map.delete") func.MapDelete (two_of (codes "map") (codes "key"))
    ∷ listed_as (codes "map.merge") func.MapMerge (two_of (codes "first") (codes "second"))
    ∷ listed_as (codes "json.encode") func.JsonEncode (one_of (codes "data"))
    ∷ listed_as (codes "json.encode_to_string") func.JsonEncodeToString (one_of (codes "data"))
    ∷ listed_as (codes "json.decode") func.JsonDecode (one_of (codes "data"))
    ∷ listed_as (codes "base64.encode") func.Base64Encode (one_of (codes "data"))
    ∷ listed_as (codes "base64.decode") func.Base64Decode (one_of (codes "data"))
    ∷ listed_as (codes "time.format") func.TimeFormat (one_of (codes "seconds"))
    ∷ listed_as (codes "time.parse") func.TimeParse (one_of (codes "value"))
    ∷ listed_as (codes "sys.now") func.SysNow (record { needs = []; may = [] })
    ∷ listed_as (codes "sys.get_env") func.SysGetEnv (record { needs = codes "name" ∷ []; may = codes "default" ∷ [] }) ∷ []

-- a function that only call steps may call
pub record SpecialListing : Type 0 where
  pub name : Text
  pub special : Special
  pub signature : Signature

-- a line of the table
abbrev pub special_as : Text → Special → List Text → List Text → SpecialListing
special_as x s needs may = record { name = x; special = s; signature = record { needs = needs; may = may } }

-- what every HTTP call may have
abbrev pub http_may : List Text
http_may = codes "headers" ∷ codes "query" ∷ codes "body" ∷ codes "auth" ∷ codes "timeout" ∷ []

-- what an HTTP call needs
abbrev pub url_only : List Text
url_only = codes "url" ∷ []

-- all functions that only call steps may call, by name
abbrev pub specials : List SpecialListing
specials =
    special_as (codes "sys.log") SysLog [] (codes "data" ∷ codes "text" ∷ codes "json" ∷ codes "severity" ∷ [])
    ∷ special_as (codes "sys.sleep") SysSleep (codes "seconds" ∷ []) []
    ∷ special_as (codes "sys.sleep_until") SysSleepUntil (codes "time" ∷ []) []
    ∷ special_as (codes "http.get") (HttpCall (Some Get)) url_only http_may
    ∷ special_as (codes "http.post") (HttpCall (Some Post)) url_only http_may
    ∷ special_as (codes "http.put") (HttpCall (Some Put)) url_only http_may
    ∷ special_as (codes "http.patch") (HttpCall (Some Patch)) url_only http_may
    ∷ special_as (codes "http.delete") (HttpCall (Some Delete)) url_only http_may
    ∷ special_as (codes "http.request") (HttpCall None) (codes "method" ∷ codes "url" ∷ []) http_may
    ∷ special_as (codes "events.create_callback_endpoint") CreateEndpoint [] (codes "http_callback_method" ∷ [])
    ∷ special_as (codes "events.await_callback") AwaitCallback (codes "callback" ∷ []) (codes "timeout" ∷ []) ∷ []

-- the first of a name
abbrev pub entry_in : List Listing → Text → Option Listing
entry_in [] x = None
entry_in (e ∷ es) x = if bytes_eq x e.name then Some e else entry_in es x

-- the first of a name
abbrev pub special_in : List SpecialListing → Text → Option SpecialListing
special_in [] x = None
special_in (e ∷ es) x = if bytes_eq x e.name then Some e else special_in es x

-- the function of a name that expressions may call
abbrev pub func_named : Text → Option Listing
func_named x = entry_in library x

-- the function of a name that only call steps may call
abbrev pub special_named : Text → Option SpecialListing
special_named x = special_in specials x

-- what a call step may name
abbrev pub call_signature : Text → Option Signature
call_signature x = first_of_two (option_map (λ e. e.signature) (func_named x)) (option_map (λ e. e.signature) (special_named x))

-- each of the first is one of the second
abbrev pub all_among : List Text → List Text → Bool
all_among xs ys = list_all (λ x. is_among x ys) xs

-- the names that a call's arguments may have
abbrev pub takes : Signature → List Text → Bool
takes g names = all_among names (g.needs ++ g.may) && all_among g.needs names

-- `sys.log` takes exactly one of its three
abbrev pub logs_one : List Text → Bool
logs_one names = length (filter (λ x. is_among x (codes "data" ∷ codes "text" ∷ codes "json" ∷ [])) names) == 1

-- the names that the arguments of a call step may have
abbrev pub call_takes : Text → Signature → List Text → Bool
call_takes x g names = takes g names && (not (bytes_eq x (codes "sys.log")) || logs_one names)

-- the arguments in the order of their names, those that are absent left out
abbrev pub listed_args : List Text → Pairs → List Data
listed_args [] args = []
listed_args (x ∷ xs) args = elim (get x args) [ None ↦ listed_args xs args | Some v ↦ v ∷ listed_args xs args ]

abbrev pub in_order : Signature → Pairs → List Data
in_order g args = listed_args (g.needs ++ g.may) args
