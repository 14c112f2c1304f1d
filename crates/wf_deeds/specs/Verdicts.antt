-- What the bytes of a visit come to.
--     verdict_of      what a visit gets, by what it asks
--     IsTheOutside    a meaning of bytes is this one
use Rattle.std.specs.Prelude.{◌≡◌, ℕ, zero, suc, Bool, true, false, List, if◌then◌else◌, length, Option, Some, None, bytes_eq}
use Rattle.http_uri.specs.ByteClasses.{split_once_front}
use Rattle.wf_deeds.specs.Outside.{Outside, Verdict, Arrives, Refuses}
use Rattle.wf_http_serve.specs.Visits.{VisitState, NotYet, Bad, TooLarge, Asks, VisitOf}
use Rattle.wf_model.specs.Config.{Config}
use Rattle.wf_model.specs.Step.{bodies_left}
use Rattle.wf_value.specs.Events.{Headers, Method, Visitor, method_named}
use Rattle.wf_value.specs.HttpBody.{Close}
use Rattle.wf_value.specs.HttpText.{BadRequest, NotFound, MethodNotAllowed, ContentTooLarge, TooManyRequests, callback_path}
use Rattle.wf_value.specs.Pairs.{Text}
use Rattle.wf_value.specs.Queues.{ArriveFault, UnknownEndpoint, WrongMethod, QueueFull, arrive_fault}

-- ## Targets
-- `?`, at which a path ends
abbrev pub question_byte : ℕ
question_byte = 63

abbrev pub path_of : Text → Text
path_of target = split_once_front question_byte target

-- of the first n endpoints of an execution with this id, the one with this path
abbrev pub endpoint_under : ℕ → Text → Text → Option ℕ
endpoint_under zero id path = None
endpoint_under (suc n) id path = if bytes_eq path (callback_path id (suc n)) then Some (suc n) else endpoint_under n id path

abbrev pub endpoint_of : Config → Text → Option ℕ
endpoint_of c target = endpoint_under (length c.endpoints) c.facts.id (path_of target)

-- ## Verdicts
-- a request that may arrive, or why it may not
abbrev pub arriving : ℕ → Visitor → Option ArriveFault → Verdict
arriving n v None = Arrives n v
arriving n v (Some UnknownEndpoint) = Refuses NotFound
arriving n v (Some WrongMethod) = Refuses MethodNotAllowed
arriving n v (Some QueueFull) = Refuses TooManyRequests

abbrev pub visitor : Method → Headers → List ℕ → Visitor
visitor m fs body = record { method = m; headers = fs; body = body }

-- by the name of its method, which may be none that endpoints have
abbrev pub by_method : Config → ℕ → Headers → List ℕ → Option Method → Verdict
by_method c n fs body None = Refuses MethodNotAllowed
by_method c n fs body (Some m) = arriving n (visitor m fs body) (arrive_fault c.endpoints n (visitor m fs body) (bodies_left c))

abbrev pub by_endpoint : Config → Text → Headers → List ℕ → Option ℕ → Verdict
by_endpoint c method fs body None = Refuses NotFound
by_endpoint c method fs body (Some n) = by_method c n fs body (method_named method)

-- while more has to come there is none, and this one says nothing
abbrev pub by_state : Config → VisitState → Verdict
by_state c NotYet = Refuses BadRequest
by_state c Bad = Refuses BadRequest
by_state c TooLarge = Refuses ContentTooLarge
by_state c (Asks method target fs body) = by_endpoint c method fs body (endpoint_of c target)

abbrev pub verdict_of : Config → (crowded : Bool) → VisitState → Verdict
verdict_of c true s = Refuses TooManyRequests
verdict_of c false s = by_state c s

-- ## The outside
-- it is known what the visit asks, or that it asks nothing that can be read
abbrev pub is_known : VisitState → Bool
is_known NotYet = false
is_known s = true

-- the bytes of a visit come to this state
abbrev pub IsState : List ℕ → Close → VisitState → Type 0
IsState bytes close s = ∥ VisitOf bytes close s ∥₁

-- this meaning of the bytes of visits is that of `VisitOf`
pub record IsTheOutside (O : Outside) : Type 0 where
  pub asked : (bytes : List ℕ) (close : Close) (s : VisitState) → IsState bytes close s → O.is_asked bytes close ≡ is_known s
  pub crowded : (c : Config) (bytes : List ℕ) (close : Close) → O.verdict c true bytes close ≡ Refuses TooManyRequests
  pub verdict : (c : Config) (bytes : List ℕ) (close : Close) (s : VisitState) → IsState bytes close s → O.verdict c false bytes close ≡ by_state c s

-- there is one
abbrev pub ThereIsAnOutside : Type 0
ThereIsAnOutside = (O : Outside) × IsTheOutside O
