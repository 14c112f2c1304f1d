-- Worked logs, sleeps and callbacks.
use Rattle.wf_ast.specs.declared.Func.TheVariants as func
use Rattle.std.specs.Prelude.{◌≡◌, Bool, true, false, List, [], ◌∷◌, replicate, Some, None, codes}
use Rattle.wf_ast.specs.Tree.{Expr, no_exprs, Template, Whole, Body, Program}
use Rattle.wf_model.specs.Config.{LogEntry, After, To, NotNow}
use Rattle.wf_model.specs.Run.{run}
use Rattle.wf_model.specs.Writing.{num, said, var, st, call_of, main_of, start, moves_of, gives_number, gives_text, raises_tag, ending, ComesTo, MayNotCome}
use Rattle.wf_value.specs.Data.{text}
use Rattle.wf_value.specs.declared.Severity.{Severity}
use Rattle.wf_value.specs.declared.Tag.TheVariants.{TimeoutError, ValueError}
use Rattle.wf_value.specs.Events.{Get, Post, Visitor, Event, Start}
use Rattle.wf_value.specs.Pairs.{Text}

-- ## Logs
abbrev pub logging : Text → Program
logging severity = main_of (st (codes "l") (call_of (codes "sys.log") ((codes "severity", said severity) ∷ (codes "text", said (codes "hi")) ∷ []) None) ∷ [])

abbrev pub log_of : After → List LogEntry
log_of (To c) = c.log
log_of a = []

-- an entry has the last reading, here that of the start
abbrev pub LogHasTheLastReading : Type 0
LogHasTheLastReading = log_of (run (logging (codes "INFO")) (record start { reading = 5 }) (moves_of 1)) ≡ record { reading = 5; severity = Severity.Info; value = text (codes "hi") } ∷ []

abbrev pub UnknownSeverityRaises : Type 0
UnknownSeverityRaises = ComesTo (logging (codes "info")) (moves_of 1) (raises_tag ValueError) 1

-- ## Sleeps
-- sleep two seconds; return sys.now()
abbrev pub sleeping : Program
sleeping = main_of (st (codes "a") (call_of (codes "sys.sleep") ((codes "seconds", num 2) ∷ []) None) ∷ st (codes "b") (Body.Return (Whole (Expr.Call func.SysNow no_exprs))) ∷ [])

abbrev pub SleepEndsWhenDue : Type 0
SleepEndsWhenDue = ComesTo sleeping (Event.MoveAt 0 5000 ∷ Event.Due 0 7000 ∷ Event.MoveAt 0 7000 ∷ []) (gives_number 7) 2

abbrev pub SleepDoesNotEndEarly : Type 0
SleepDoesNotEndEarly = MayNotCome sleeping (Event.MoveAt 0 5000 ∷ Event.Due 0 6999 ∷ [])

-- a sleep begins at a reading
abbrev pub SleepTakesAReading : Type 0
SleepTakesAReading = MayNotCome sleeping (moves_of 1)

-- sleep until a moment; return 1
abbrev pub sleeping_until : Text → Program
sleeping_until t = main_of (st (codes "a") (call_of (codes "sys.sleep_until") ((codes "time", said t) ∷ []) None) ∷ st (codes "b") (Body.Return (num 1)) ∷ [])

-- one that has passed is due at once
abbrev pub PassedTimeIsDueAtOnce : Type 0
PassedTimeIsDueAtOnce = ComesTo (sleeping_until (codes "1970-01-01T00:00:01Z")) (Event.MoveAt 0 5000 ∷ Event.Due 0 5000 ∷ Event.Move 0 ∷ []) (gives_number 1) 2

abbrev pub BadTimeRaises : Type 0
BadTimeRaises = ComesTo (sleeping_until (codes "1970-02-29T00:00:01Z")) (Event.MoveAt 0 5000 ∷ []) (raises_tag ValueError) 1

-- ## Callbacks
-- an execution that listens
abbrev pub listening : Start
listening = record start { base = codes "127.0.0.1:8000" }

-- c is an endpoint; return c.url
abbrev pub telling_the_url : Program
telling_the_url = main_of (st (codes "a") (call_of (codes "events.create_callback_endpoint") [] (Some (codes "c"))) ∷ st (codes "b") (Body.Return (Whole (Expr.Key (Expr.Name (codes "c")) (codes "url")))) ∷ [])

abbrev pub EndpointHasAUrl : Type 0
EndpointHasAUrl = ending (run telling_the_url listening (moves_of 2)) ≡ Some (gives_text (codes "http://127.0.0.1:8000/callbacks/t1/1"), 2)

abbrev pub NoEndpointWithoutListening : Type 0
NoEndpointWithoutListening = ComesTo telling_the_url (moves_of 1) (raises_tag ValueError) 1

-- c is an endpoint; r awaits c; return r.http_request.body
abbrev pub awaiting : List (Text × Template) → Program
awaiting more = main_of (
    st (codes "a") (call_of (codes "events.create_callback_endpoint") [] (Some (codes "c")))
    ∷ st (codes "b") (call_of (codes "events.await_callback") ((codes "callback", var (codes "c")) ∷ more) (Some (codes "r")))
    ∷ st (codes "e") (Body.Return (Whole (Expr.Key (Expr.Key (Expr.Name (codes "r")) (codes "http_request")) (codes "body")))) ∷ [])

abbrev pub awaited : List Event → After
awaited es = run (awaiting []) listening es

abbrev pub hello : Visitor
hello = record { method = Post; headers = (codes "content-type", codes "text/plain") ∷ []; body = codes "hello" }

-- a request that comes before the await is taken by it at once
abbrev pub EarlyCallbackIsTakenAtOnce : Type 0
EarlyCallbackIsTakenAtOnce = ending (awaited (Event.Move 0 ∷ Event.Arrive 1 3 hello ∷ Event.MoveAt 0 4 ∷ Event.Move 0 ∷ [])) ≡ Some (gives_text (codes "hello"), 3)

-- and one that comes after it ends its wait
abbrev pub LateCallbackEndsTheWait : Type 0
LateCallbackEndsTheWait = ending (awaited (Event.Move 0 ∷ Event.MoveAt 0 4 ∷ Event.Arrive 1 5 hello ∷ Event.Move 0 ∷ [])) ≡ Some (gives_text (codes "hello"), 3)

abbrev pub OtherMethodsDoNotArrive : Type 0
OtherMethodsDoNotArrive = awaited (Event.Move 0 ∷ Event.Arrive 1 3 (record hello { method = Get }) ∷ []) ≡ NotNow

abbrev pub UnknownEndpointTakesNothing : Type 0
UnknownEndpointTakesNothing = awaited (Event.Move 0 ∷ Event.Arrive 2 3 hello ∷ []) ≡ NotNow

-- a hundred requests wait, and the next has no room
abbrev pub is_there : After → Bool
is_there (To c) = true
is_there a = false

abbrev pub HundredCallbacksWait : Type 0
HundredCallbacksWait = is_there (awaited (Event.Move 0 ∷ replicate 100 (Event.Arrive 1 3 hello))) ≡ true

abbrev pub OneMoreHasNoRoom : Type 0
OneMoreHasNoRoom = awaited (Event.Move 0 ∷ replicate 101 (Event.Arrive 1 3 hello)) ≡ NotNow

-- an await with the timeout 0 and an empty queue
abbrev pub AwaitTimesOut : Type 0
AwaitTimesOut = ending (run (awaiting ((codes "timeout", num 0) ∷ [])) listening (Event.Move 0 ∷ Event.MoveAt 0 4 ∷ Event.Due 0 4 ∷ [])) ≡ Some (raises_tag TimeoutError, 2)
