-- Worked calls of services: the request of a call, its answer, and what may stand in its place.
use Rattle.wf_ast.specs.declared.Func.TheVariants as func
use Rattle.std.specs.Prelude.{◌≡◌, ℕ, List, [], ◌∷◌, ◌++◌, Some, None, codes, Option}
use Rattle.wf_ast.specs.Tree.{Expr, Whole, Listed, Mapped, no_templates, InList, Body, loop, parallel, OfLoop, try, except, Program, steps, fields, exprs}
use Rattle.wf_model.specs.Config.{After, To}
use Rattle.wf_model.specs.Ready.{call, call_due, request_of}
use Rattle.wf_model.specs.RowsRetries.{default_policy}
use Rattle.wf_model.specs.Run.{run_on, run}
use Rattle.wf_model.specs.Writing.{said, var, plus, sets, st, call_of, flow_of, get_call, param, main_of, start, gives_number, raises_tag, ending, ComesTo, MayNotCome, settles, then_event}
use Rattle.wf_value.specs.Data.{text}
use Rattle.wf_value.specs.declared.Tag.TheVariants.{ConnectionError, ResourceLimitError, TimeoutError}
use Rattle.wf_value.specs.Events.{Reply, Response, Broken, TooLong, Event, Start}
use Rattle.wf_value.specs.HttpRequest.{Request}
use Rattle.wf_value.specs.HttpText.{line}
use Rattle.wf_value.specs.Pairs.{Text}

-- ## A call whose answer's number is returned
-- r is http.get; return r.body.n
abbrev pub fetching : Program
fetching = main_of (
    st (codes "a") (get_call (Some (codes "r")))
    ∷ st (codes "b") (Body.Return (Whole (Expr.Key (Expr.Key (Expr.Name (codes "r")) (codes "body")) (codes "n")))) ∷ [])

abbrev pub bytes_of : Option Request → List ℕ
bytes_of None = []
bytes_of (Some q) = q.bytes

-- the bytes of call 1
abbrev pub first_request : After → List ℕ
first_request (To c) = bytes_of (request_of c 1)
first_request a = []

abbrev pub RequestOfTheFirstCall : Type 0
RequestOfTheFirstCall = first_request (run fetching start (Event.Issue 0 7 ∷ []))
    ≡ line (codes "GET /x HTTP/1.1") ++ line (codes "Host: 127.0.0.1:9000") ++ line (codes "Connection: close") ++ line (codes "X-Workflow-Call: t1-1") ++ line []

-- {"n":3}
abbrev pub three_in_json : Reply
three_in_json = Response 200 ((codes "Content-Type", codes "application/json") ∷ (codes "Content-Length", codes "7") ∷ []) (codes "{\"n\":3}")

abbrev pub AnswerGoesIntoTheResult : Type 0
AnswerGoesIntoTheResult = ComesTo fetching (Event.Issue 0 7 ∷ Event.Answer 1 9 three_in_json ∷ Event.Move 0 ∷ []) (gives_number 3) 2

-- a call is closed by its answer
abbrev pub CallIsAnsweredOnce : Type 0
CallIsAnsweredOnce = MayNotCome fetching (Event.Issue 0 7 ∷ Event.Answer 1 9 three_in_json ∷ Event.Answer 1 9 three_in_json ∷ [])

abbrev pub BrokenAnswerRaises : Type 0
BrokenAnswerRaises = ComesTo fetching (Event.Issue 0 7 ∷ Event.Answer 1 9 Broken ∷ []) (raises_tag ConnectionError) 1

abbrev pub LongAnswerRaises : Type 0
LongAnswerRaises = ComesTo fetching (Event.Issue 0 7 ∷ Event.Answer 1 9 TooLong ∷ []) (raises_tag ResourceLimitError) 1

-- ## Due moments
-- 300 seconds behind the reading of its event
abbrev pub CallTimesOut : Type 0
CallTimesOut = ComesTo fetching (Event.Issue 0 7 ∷ Event.Due 0 300007 ∷ []) (raises_tag TimeoutError) 1

abbrev pub CallDoesNotTimeOutEarly : Type 0
CallDoesNotTimeOutEarly = MayNotCome fetching (Event.Issue 0 7 ∷ Event.Due 0 300006 ∷ [])

-- ## Errors in the arguments
-- a call of this URL inside a `try` without a policy, and then a good call
abbrev pub calling_badly : Text → Program
calling_badly u = main_of (
    st (codes "t") (Body.Try (try (call_of (codes "http.get") ((codes "url", said u) ∷ []) None) None (except (codes "e") (steps (st (codes "c") (get_call None) ∷ [])))))
    ∷ [])

-- no number is used, so the good call is number 1
abbrev pub BadCallUsesNoNumber : Type 0
BadCallUsesNoNumber = first_request (run (calling_badly (codes "h")) start (Event.Move 0 ∷ Event.Issue 0 7 ∷ Event.Issue 0 7 ∷ []))
    ≡ first_request (run fetching start (Event.Issue 0 7 ∷ []))

-- a scheme that takes a route, without one
abbrev pub NoRouteRaises : Type 0
NoRouteRaises = ComesTo (main_of (st (codes "a") (call_of (codes "http.get") ((codes "url", said (codes "https://h/")) ∷ []) None) ∷ [])) (Event.Issue 0 7 ∷ []) (raises_tag ConnectionError) 1

-- ## The sum of bodies
abbrev pub nearly_full : After → After
nearly_full (To c) = To (record c { bodies = 67108860 })
nearly_full a = a

abbrev pub too_full : After
too_full = run_on fetching (nearly_full (run fetching start (Event.Issue 0 7 ∷ []))) (Event.Answer 1 9 three_in_json ∷ [])

-- an answer that lifts the sum past its limit ends the execution
abbrev pub BodiesPastTheLimitEndIt : Type 0
BodiesPastTheLimitEndIt = ending too_full ≡ Some (raises_tag ResourceLimitError, 1)

abbrev pub state_of_call : After → Option (Option ℕ × ℕ × ℕ)
state_of_call (To c) = Some (call_due (call c 1), c.bodies, c.last)
state_of_call a = None

-- and but for the reading all stays: the call is open, and the sum is as it was
abbrev pub CallStaysOpenAtTheLimit : Type 0
CallStaysOpenAtTheLimit = state_of_call too_full ≡ Some (Some 300007, 67108860, 9)

-- ## Fetch, fan out, collect
-- a list is fetched by a call with retries, each item is labelled by a workflow in a parallel loop, and the labels are counted
abbrev pub collecting : Program
collecting = record {
  flows = flow_of (codes "main") (param (codes "args") ∷ []) (
      st (codes "init") (Body.Assign (
      sets (codes "names") (Listed no_templates)
      ∷ sets (codes "base") (plus (Expr.Lit (text (codes "https://"))) (Expr.Key (Expr.Name (codes "args")) (codes "host"))) ∷ []))
      ∷ st (codes "fetch") (Body.Try (try
      (call_of (codes "http.post") (
      (codes "auth", Mapped (fields ((codes "type", said (codes "OIDC")) ∷ [])))
      ∷ (codes "body", Mapped (fields ((codes "kind", Whole (Expr.Key (Expr.Name (codes "args")) (codes "kind"))) ∷ [])))
      ∷ (codes "url", plus (Expr.Name (codes "base")) (Expr.Lit (text (codes "/list")))) ∷ []) (Some (codes "answer")))
      (Some default_policy)
      (except (codes "e") (steps (st (codes "give_up") (Body.Raise (var (codes "e"))) ∷ [])))))
      ∷ st (codes "each") (Body.Parallel (parallel (codes "names" ∷ []) None (OfLoop (loop (codes "item") None
      (InList (Whole (Expr.Key (Expr.Key (Expr.Name (codes "answer")) (codes "body")) (codes "items"))))
      (steps (
      st (codes "label") (call_of (codes "label_of") ((codes "item", var (codes "item")) ∷ []) (Some (codes "label_text")))
      ∷ st (codes "add") (Body.Assign (sets (codes "names") (Whole (Expr.Call func.ListConcat (exprs (Expr.Name (codes "names") ∷ Expr.Name (codes "label_text") ∷ [])))) ∷ [])) ∷ []))))))
      ∷ st (codes "done") (Body.Return (Whole (Expr.Call func.Len (exprs (Expr.Name (codes "names") ∷ []))))) ∷ [])
      ∷ flow_of (codes "label_of") (param (codes "item") ∷ record { name = codes "prefix"; default = Some (text (codes "no-")) } ∷ []) (
      st (codes "r") (Body.Return (plus (Expr.Name (codes "prefix")) (Expr.Call func.String (exprs (Expr.Key (Expr.Name (codes "item")) (codes "id") ∷ []))))) ∷ []) ∷ [];
}

abbrev pub collect_start : Start
collect_start = record start {
  id = codes "o1";
  argument = codes "{\"host\":\"api.test\",\"kind\":\"new\"}";
  routes = (codes "api.test", record { name = codes "127.0.0.1"; port = 9000 }) ∷ [];
}

abbrev pub two_items : Reply
two_items = Response 200 ((codes "Content-Type", codes "application/json") ∷ (codes "Content-Length", codes "29") ∷ []) (codes "{\"items\":[{\"id\":1},{\"id\":2}]}")

-- by the engine's choice, until the call is made
abbrev pub until_the_call : After
until_the_call = settles 9 collecting 0 (run collecting collect_start [])

abbrev pub RequestOfAPost : Type 0
RequestOfAPost = first_request until_the_call
    ≡ line (codes "POST /list HTTP/1.1") ++ line (codes "Host: api.test") ++ line (codes "Connection: close") ++ line (codes "X-Workflow-Call: o1-1")
    ++ line (codes "Content-Type: application/json") ++ line (codes "Content-Length: 14") ++ line [] ++ codes "{\"kind\":\"new\"}"

abbrev pub TwoNamesAreCollected : Type 0
TwoNamesAreCollected = ending (settles 40 collecting 0 (then_event collecting (Event.Answer 1 0 two_items) until_the_call)) ≡ Some (gives_number 2, 15)
