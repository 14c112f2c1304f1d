-- The calls of workflows and of functions.
--     calls            what a call step does, by its name: a workflow, a function of expressions, or one of call steps alone
--     issues_call      the same for a call of HTTP, which comes by an event of its own
use Rattle.std.specs.Prelude.{ℕ, zero, suc, ◌+◌, ◌*◌, Bool, true, false, ◌&&◌, ◌||◌, List, [], ◌∷◌, length, ℤ, pos, if◌then◌else◌, nat_lt, nat_le, Some, None, Ok, Err, codes, bytes_eq, Option, unwrap_or, option_map}
use Rattle.wf_ast.specs.Accept.{UnknownCall, BadArgument}
use Rattle.wf_ast.specs.Apply.{apply}
use Rattle.wf_ast.specs.Eval.{fill_fields}
use Rattle.wf_ast.specs.Flows.{flow}
use Rattle.wf_ast.specs.declared.Func.{Func}
use Rattle.wf_ast.specs.Func.{Special, SysLog, SysSleep, SysSleepUntil, HttpCall, CreateEndpoint, AwaitCallback, Listing, SpecialListing, func_named, special_named, call_signature, takes, call_takes, in_order}
use Rattle.wf_ast.specs.Tree.{CallBody, Param, Flow, field_names}
use Rattle.wf_model.specs.Config.{Item, Do, Back, Sleep, Calling, Await, call_limit, log_limit}
use Rattle.wf_model.specs.Layers.{view, opened, enter}
use Rattle.wf_model.specs.Leave.{raises, on, gives, handed}
use Rattle.wf_model.specs.Local.{Local, Scene, Sends, Creates, Takes, Logs, Moved, Does, Breaks, Not, goes, waits}
use Rattle.wf_model.specs.Unwind.{calls_in}
use Rattle.wf_value.specs.Data.{Data, null, integer, text, map, Pairs, no_pairs, pair, size}
use Rattle.wf_value.specs.Errors.{error_map, Answer, ◌>>=◌, or_error, kept, later}
use Rattle.wf_value.specs.declared.Tag.TheVariants.{RecursionError, ResourceLimitError, TypeError, ValueError}
use Rattle.wf_value.specs.Events.{Method, Post, method_named, Visitor, severity_named}
use Rattle.wf_value.specs.declared.Severity.{Severity}
use Rattle.wf_value.specs.HttpRequest.{as_text, as_whole, whole_between, asked, Request, request}
use Rattle.wf_value.specs.HttpText.{visit_result, callback_url}
use Rattle.wf_value.specs.HttpUrl.{first_of_two}
use Rattle.wf_value.specs.LibTime.{parsed_time}
use Rattle.wf_value.specs.Pairs.{Text, get, keys}

-- ## Workflows
-- what an argument gives, and else the default
abbrev pub value_for : Param → Pairs → Option Data
value_for x args = first_of_two (get x.name args) x.default

-- the parameters with their values; none where one has no value
abbrev pub given : List Param → Pairs → Option (List (Text × Data))
given [] args = Some []
given (x ∷ xs) args = elim (value_for x args) [ None ↦ None | Some v ↦ option_map (λ rest. (x.name, v) ∷ rest) (given xs args) ]

-- each argument has the name of a parameter
abbrev pub is_param : Text → List Param → Bool
is_param x [] = false
is_param x (y ∷ ys) = bytes_eq x y.name || is_param x ys

abbrev pub all_params : Pairs → List Param → Bool
all_params no_pairs xs = true
all_params (pair k v ps) xs = is_param k xs && all_params ps xs

-- none where an argument has an unknown name, or one without a default is missing
abbrev pub bindings : List Param → Pairs → Option (List (Text × Data))
bindings xs args = if all_params args xs then given xs args else None

-- the call begins, with a layer of its parameters
abbrev pub calls_with : Scene → Flow → Option Text → Option (List (Text × Data)) → List Item → Local → Moved
calls_with s f r None k l = Breaks BadArgument
calls_with s f r (Some xs) k l =
    if nat_le call_limit (calls_in k) then raises s k l (error_map RecursionError) else
    on s k l (opened s l xs) λ ps. goes (Do f.steps f.steps ∷ Back r ∷ k) (enter true ps l)

-- ## Functions that expressions may call too
-- the function's answer goes into the result
abbrev pub evaluates : Scene → Option Text → Func → List Data → List Item → Local → Moved
evaluates s r f vs k l = on s k l (apply (view s l) f vs >>= kept) λ v. gives s r v k l

-- ## Sleeps
-- an argument that is a whole number
abbrev pub whole_arg : Option Data → Answer ℤ
whole_arg (Some (integer n)) = Ok n
whole_arg v = Err TypeError

-- the due moment of a sleep of some seconds, and that of a sleep until a time
abbrev pub sleep_due : ℕ → Pairs → Answer ℕ
sleep_due now args = whole_arg (get (codes "seconds") args) >>= whole_between 0 31536000 >>= λ n. Ok (later now (n * 1000))

abbrev pub until_due : Option Data → Answer ℕ
until_due (Some (text t)) = or_error ValueError (parsed_time t) >>= λ n. Ok (n * 1000)
until_due v = Err TypeError

abbrev pub sleeps : Scene → Option Text → Answer ℕ → List Item → Local → Moved
sleeps s r due k l = on s k l due λ d. waits (Sleep d r) k l

-- ## Logs
pub record Logged : Type 0 where
  pub severity : Severity
  pub value : Data

-- `data` or `json`, which may be any value
abbrev pub logged_any : Pairs → Data
logged_any args = unwrap_or (first_of_two (get (codes "data") args) (get (codes "json") args)) null

-- `text`, which must be a text, or one of these
abbrev pub logged_value : Pairs → Answer Data
logged_value args = elim (get (codes "text") args) [ None ↦ Ok (logged_any args) | Some v ↦ as_text (Some v) >>= λ t. Ok (text t) ]

abbrev pub severity_text : Option Data → Answer Text
severity_text None = Ok (codes "DEFAULT")
severity_text (Some v) = as_text (Some v)

-- kinds first, and then the name of the severity
abbrev pub log_entry : Pairs → Answer Logged
log_entry args =
    logged_value args >>= λ v. severity_text (get (codes "severity") args) >>= λ t.
    or_error ValueError (severity_named t) >>= λ severity. Ok (record { severity = severity; value = v })

-- an entry that would pass the limit isn't written
abbrev pub within_log : Scene → Logged → Answer Logged
within_log s e = if nat_le (s.logged + size e.value) log_limit then Ok e else Err ResourceLimitError

abbrev pub logs : Scene → Option Text → Pairs → List Item → Local → Moved
logs s r args k l = on s k l (log_entry args >>= within_log s) λ e. Does (Logs e.severity e.value) (gives s r null k l)

-- ## Callbacks
-- POST where it is absent
abbrev pub callback_method : Option Data → Answer Method
callback_method None = Ok Post
callback_method (Some v) = as_text (Some v) >>= λ t. or_error ValueError (method_named t)

-- only an execution that listens has endpoints
abbrev pub listening : Scene → Method → Answer Method
listening s m = if nat_lt 0 (length s.facts.base) then Ok m else Err ValueError

-- the value of the next endpoint: a map with its `url`
abbrev pub endpoint_value : Scene → Data
endpoint_value s = map (pair (codes "url") (text (callback_url s.facts.base s.facts.id (suc s.endpoints))) no_pairs)

-- an endpoint and its value; where the value would be too large, none is made
abbrev pub creates : Scene → Option Text → Pairs → List Item → Local → Moved
creates s r args k l =
    on s k l (callback_method (get (codes "http_callback_method") args) >>= listening s) λ m.
    on s k l (kept (endpoint_value s)) λ v. Does (Creates m) (gives s r v k l)

-- the endpoint of this url, among the first n
abbrev pub endpoint_named : ℕ → Scene → Text → Option ℕ
endpoint_named zero s u = None
endpoint_named (suc n) s u = if bytes_eq u (callback_url s.facts.base s.facts.id (suc n)) then Some (suc n) else endpoint_named n s u

abbrev pub callback_map : Option Data → Answer Pairs
callback_map (Some (map ps)) = Ok ps
callback_map v = Err TypeError

-- the `url` of a callback; the empty text is no endpoint's
abbrev pub url_in : Option Data → Text
url_in (Some (text u)) = u
url_in v = []

-- an endpoint and a due moment; kinds come before values
abbrev pub awaited : Scene → Pairs → Answer (ℕ × ℕ)
awaited s args =
    callback_map (get (codes "callback") args) >>= λ ps. as_whole (pos 43200) (get (codes "timeout") args) >>= λ seconds.
    or_error ValueError (endpoint_named s.endpoints s (url_in (get (codes "url") ps))) >>= λ n.
    whole_between 0 31536000 seconds >>= λ timeout. Ok (n, later s.now (timeout * 1000))

-- the oldest request is taken at once, and else the task waits
abbrev pub awaits : Scene → Option Text → ℕ × ℕ → Option Visitor → List Item → Local → Moved
awaits s r n None k l = waits (Await n.0 n.1 r) k l
awaits s r n (Some v) k l = Does (Takes n.0) (handed s r (visit_result v) k l)

abbrev pub awaits_callback : Scene → Option Text → Pairs → List Item → Local → Moved
awaits_callback s r args k l = on s k l (awaited s args) λ n. awaits s r n (s.oldest n.0) k l

-- ## By name
-- a function of call steps alone
abbrev pub calls_special : Scene → Option Text → Special → Pairs → List Item → Local → Moved
calls_special s r SysLog args k l = logs s r args k l
calls_special s r SysSleep args k l = sleeps s r (sleep_due s.now args) k l
calls_special s r SysSleepUntil args k l = sleeps s r (until_due (get (codes "time") args)) k l
calls_special s r (HttpCall m) args k l = Not
calls_special s r CreateEndpoint args k l = creates s r args k l
calls_special s r AwaitCallback args k l = awaits_callback s r args k l

-- a function, with the arguments that it takes
abbrev pub calls_listed : Scene → Option Text → Option Listing → Option SpecialListing → Pairs → List Item → Local → Moved
calls_listed s r (Some e) g args k l = if takes e.signature (keys args) then evaluates s r e.func (in_order e.signature args) k l else Breaks BadArgument
calls_listed s r None (Some g) args k l = if call_takes g.name g.signature (keys args) then calls_special s r g.special args k l else Breaks BadArgument
calls_listed s r None None args k l = Breaks UnknownCall

-- a name that is both is the workflow's
abbrev pub calls_named : Scene → Option Text → Option Flow → Text → Pairs → List Item → Local → Moved
calls_named s r (Some w) x args k l = calls_with s w r (bindings w.params args) k l
calls_named s r None x args k l = calls_listed s r (func_named x) (special_named x) args k l

-- the arguments, and then what the name says
abbrev pub calls : Scene → CallBody → List Item → Local → Moved
calls s f k l = on s k l (fill_fields f.args (view s l)) λ args. calls_named s f.result (flow s.program.flows f.name) f.name args k l

-- ## Requests
-- the request is made and gets the next call number, and the task waits for its answer
abbrev pub sends : Scene → Option Text → ℕ → List Item → Local → Request → Moved
sends s r timeout k l q = Does (Sends q (later s.now (timeout * 1000))) (waits (Calling (suc s.calls) r) k l)

-- the method of an HTTP call's name, which `http.request` has among its arguments
abbrev pub http_method : Option SpecialListing → Option (Option Method)
http_method None = None
http_method (Some g) = elim g.special [ HttpCall m ↦ Some m | x ↦ None ]

-- an error in the arguments is raised, and no number is used
abbrev pub requests : Scene → CallBody → Option Method → List Item → Local → Pairs → Moved
requests s f m k l args =
    on s k l (asked m args) λ a. on s k l (request s.facts.routes a s.facts.id (suc s.calls)) (sends s f.result a.timeout k l)

-- the arguments' names are those that the function takes
abbrev pub fits_call : CallBody → Bool
fits_call f = elim (call_signature f.name) [ None ↦ false | Some g ↦ call_takes f.name g (field_names f.args) ]

-- the call of HTTP at which the task stands
abbrev pub issues_call : Scene → CallBody → Option (Option Method) → List Item → Local → Moved
issues_call s f None k l = Not
issues_call s f (Some m) k l = if fits_call f then on s k l (fill_fields f.args (view s l)) (requests s f m k l) else Breaks BadArgument
