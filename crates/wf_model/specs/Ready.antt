-- Which tasks can go on: ready ones, parallel steps with branches left, and due moments that have come.
--     is_ready, may_begin, is_due      of one task
--     least_due, quiet                 of a configuration
--     call, request_of                 the calls by their numbers
use Rattle.std.specs.Prelude.{ℕ, zero, suc, min, Bool, true, false, not, ◌&&◌, ◌||◌, List, [], ◌∷◌, length, nat_lt, nat_le, slice_get, Some, None, Option, unwrap_or}
use Rattle.wf_ast.specs.Tree.{ParallelBody, parallel}
use Rattle.wf_model.specs.Config.{WorkLeft, Item, Wait, Awake, Sleep, Delay, Calling, Await, Task, Call, Open, Answered, Config, running_limit, is_empty}
use Rattle.wf_model.specs.Move.{due}
use Rattle.wf_value.specs.HttpRequest.{Request}

-- ## Ready tasks
-- branches or iterations that haven't begun or haven't ended
abbrev pub is_unended : WorkLeft → List ℕ → Bool
is_unended left [] = not (is_empty left)
is_unended left (n ∷ ns) = true

-- the innermost item is a parallel step with unended work
abbrev pub stands_waiting : List Item → Bool
stands_waiting (Item.Join body left n running es ∷ k) = is_unended left running
stands_waiting k = false

abbrev pub is_awake : Wait → Bool
is_awake Awake = true
is_awake w = false

-- the task has no wait, and doesn't stand in a parallel step with unended work
abbrev pub is_ready : Task → Bool
is_ready t = is_awake t.wait && not (stands_waiting t.control)

-- the lesser of 20 and the step's own limit
abbrev pub limit_of : ParallelBody → ℕ
limit_of (parallel names limit w) = min running_limit (unwrap_or limit running_limit)

-- work is left, and fewer tasks run than may run at once
abbrev pub begins : List Item → Bool
begins (Item.Join body left n running es ∷ k) = not (is_empty left) && nat_lt (length running) (limit_of body)
begins k = false

-- the task's next branch or iteration may begin
abbrev pub may_begin : Task → Bool
may_begin t = is_awake t.wait && begins t.control

-- ## Due moments
-- a call by its number from 1; one that there isn't counts as closed
abbrev pub call : Config → ℕ → Call
call c zero = Answered
call c (suc n) = elim (slice_get c.calls n) [ None ↦ Answered | Some x ↦ x ]

-- of an open call
abbrev pub call_due : Call → Option ℕ
call_due (Open b q due) = Some due
call_due x = None

-- the due moment of a task's wait
abbrev pub due_of : Config → Wait → Option ℕ
due_of c Awake = None
due_of c (Sleep due x) = Some due
due_of c (Delay due) = Some due
due_of c (Calling n x) = call_due (call c n)
due_of c (Await n due x) = Some due

-- the moment is at or before the reading
abbrev pub is_by : ℕ → Option ℕ → Bool
is_by r None = false
is_by r (Some due) = nat_le due r

-- the wait has a due moment at or before the reading
abbrev pub is_due : Config → ℕ → Wait → Bool
is_due c r w = is_by r (due_of c w)

abbrev pub dues_in : Config → List (ℕ × Task) → List ℕ
dues_in c [] = []
dues_in c (t ∷ ts) = elim (due_of c t.1.wait) [ None ↦ dues_in c ts | Some d ↦ d ∷ dues_in c ts ]

-- the due moments of sleeps, delays, awaits and open calls
abbrev pub dues : Config → List ℕ
dues c = dues_in c c.tasks

abbrev pub least_in : List ℕ → Option ℕ
least_in [] = None
least_in (d ∷ ds) = elim (least_in ds) [ None ↦ Some d | Some e ↦ Some (min d e) ]

-- the least of them, if there is one
abbrev pub least_due : Config → Option ℕ
least_due c = least_in (dues c)

-- ## Requests of open calls
abbrev pub request_in : Call → Option Request
request_in (Open b q due) = Some q
request_in x = None

-- the address and the bytes of call k
abbrev pub request_of : Config → ℕ → Option Request
request_of c k = request_in (call c k)

-- ## Quiet
-- the task can go on at the reading
abbrev pub can_go_on : Config → ℕ → Task → Bool
can_go_on c r t = is_ready t || may_begin t || is_due c r t.wait

abbrev pub none_goes_on : Config → ℕ → List (ℕ × Task) → Bool
none_goes_on c r [] = true
none_goes_on c r (t ∷ ts) = not (can_go_on c r t.1) && none_goes_on c r ts

-- no task is ready, none may begin a branch, and no due moment is at or before the reading
abbrev pub quiet : Config → ℕ → Bool
quiet c r = none_goes_on c r c.tasks
