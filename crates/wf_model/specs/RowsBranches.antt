-- Worked branches: tasks side by side, what they share, their joins, and the engine's choice among them.
use Rattle.std.specs.Prelude.{◌≡◌, ℕ, zero, suc, Bool, true, false, List, [], ◌∷◌, ◌++◌, length, Some, None, codes, Option}
use Rattle.wf_ast.specs.Accept.{UndeclaredWrite}
use Rattle.wf_ast.specs.Tree.{Expr, InRange, Step, step, Body, loop, parallel, OfBranches, OfLoop, Program, steps}
use Rattle.wf_model.specs.Choose.{choose}
use Rattle.wf_model.specs.Config.{Outcome, Returned, Cancelled, After, To, Wrong}
use Rattle.wf_model.specs.Ready.{least_due, quiet}
use Rattle.wf_model.specs.Run.{run}
use Rattle.wf_model.specs.Writing.{num, said, var, plus, one, sets, assigns, st, get_call, branches_of, parallel_of, try_steps, main_of, returns_error, start, step_0, plain_answer, gives_number, ending, ComesTo, MayNotCome, settles, choices, then_event, answered_in}
use Rattle.wf_value.specs.Events.{Event}
use Rattle.wf_value.specs.Data.{Data, text, list, map, no_items, item, no_pairs, pair}
use Rattle.wf_value.specs.Pairs.{Text, map_of}

-- ## Two branches that each read and then write a shared total
-- r: total and then total: r + 1, as two entries
abbrev pub adding : Text → List Step
adding r = st r (Body.Assign (sets r (var (codes "total")) ∷ sets (codes "total") (plus (Expr.Name r) one) ∷ [])) ∷ []

abbrev pub racing : Program
racing = main_of (
    st (codes "i") (assigns (codes "total") (num 0))
    ∷ st (codes "p") (parallel_of (codes "total" ∷ []) ((codes "x", adding (codes "r")) ∷ (codes "y", adding (codes "q")) ∷ []))
    ∷ st (codes "e") (Body.Return (var (codes "total"))) ∷ [])

-- the assign, the parallel step and its two branches begin; behind the branches' moves come its end and the return
abbrev pub forked : List Event → List Event
forked between = step_0 ∷ step_0 ∷ Event.Begin 0 ∷ Event.Begin 0 ∷ between ++ step_0 ∷ step_0 ∷ []

abbrev pub BothReadAndThenBothWrite : Type 0
BothReadAndThenBothWrite = ComesTo racing (forked (Event.Move 1 ∷ Event.Move 2 ∷ Event.Move 1 ∷ Event.Move 2 ∷ [])) (gives_number 1) 10

abbrev pub OneBranchAfterTheOther : Type 0
OneBranchAfterTheOther = ComesTo racing (forked (Event.Move 1 ∷ Event.Move 1 ∷ Event.Move 2 ∷ Event.Move 2 ∷ [])) (gives_number 2) 10

-- the engine lets the branches move in turn: which of the ready tasks moves is by the count of moves
abbrev pub EngineChoosesInTurn : Type 0
EngineChoosesInTurn = choices 20 racing 0 (run racing start []) ≡ forked (Event.Move 1 ∷ Event.Move 2 ∷ Event.Move 1 ∷ Event.Move 2 ∷ [])

-- ## A write to what isn't shared
-- t: 0; a branch sets a name to 1
abbrev pub branch_write : Text → List Text → Program
branch_write x shared = main_of (
    st (codes "i") (assigns (codes "t") (num 0))
    ∷ st (codes "p") (parallel_of shared ((codes "b", st (codes "w") (assigns x (num 1)) ∷ []) ∷ []))
    ∷ st (codes "r") (Body.Return (var (codes "t"))) ∷ [])

abbrev pub in_one_branch : List Event
in_one_branch = step_0 ∷ step_0 ∷ Event.Begin 0 ∷ Event.Move 1 ∷ step_0 ∷ step_0 ∷ []

-- a write to a shared name is seen outside, one to a new name isn't, and one to a name that isn't shared is wrong
abbrev pub SharedWriteIsSeenOutside : Type 0
SharedWriteIsSeenOutside = ComesTo (branch_write (codes "t") (codes "t" ∷ [])) in_one_branch (gives_number 1) 6

abbrev pub NewNameStaysInTheBranch : Type 0
NewNameStaysInTheBranch = ComesTo (branch_write (codes "u") []) in_one_branch (gives_number 0) 6

abbrev pub UndeclaredWriteIsWrong : Type 0
UndeclaredWriteIsWrong = run (branch_write (codes "t") []) start (step_0 ∷ step_0 ∷ Event.Begin 0 ∷ Event.Move 1 ∷ []) ≡ Wrong UndeclaredWrite

-- ## Two branches, each fifty times a call and then total: total + 1
abbrev pub fifty : List Step
fifty = st (codes "f") (Body.For (loop (codes "v") None (InRange (num 1) (num 50)) (steps (
    st (codes "c") (get_call None) ∷ st (codes "a") (assigns (codes "total") (plus (Expr.Name (codes "total")) one)) ∷ [])))) ∷ []

abbrev pub hundred : Program
hundred = main_of (
    st (codes "i") (assigns (codes "total") (num 0))
    ∷ st (codes "p") (parallel_of (codes "total" ∷ []) ((codes "x", fifty) ∷ (codes "y", fifty) ∷ []))
    ∷ st (codes "e") (Body.Return (var (codes "total"))) ∷ [])

abbrev pub up_from : ℕ → ℕ → List ℕ
up_from k zero = []
up_from k (suc n) = k ∷ up_from (suc k) n

-- a hundred, where the calls are answered in their order
abbrev pub HundredInTheOrderOfCalls : Type 0
HundredInTheOrderOfCalls = ending (answered_in hundred (up_from 1 100) (settles 20 hundred 0 (run hundred start []))) ≡ Some (gives_number 100, 310)

-- and where all calls of the first branch are answered before those of the second
abbrev pub HundredOneBranchFirst : Type 0
HundredOneBranchFirst = ending (answered_in hundred (1 ∷ up_from 3 49 ++ 2 ∷ up_from 52 49) (settles 20 hundred 0 (run hundred start []))) ≡ Some (gives_number 100, 310)

-- ## Errors in branches
-- try: a parallel step with two branches; except: return the error
abbrev pub failing : List Step → List Step → Program
failing x y = main_of (st (codes "t") (try_steps (st (codes "p") (parallel_of [] ((codes "x", x) ∷ (codes "y", y) ∷ [])) ∷ []) None returns_error) ∷ [])

abbrev pub raises_text : Text → List Step
raises_text t = st t (Body.Raise (said t)) ∷ []

-- the second branch calls a service
abbrev pub half_failed : Program
half_failed = failing (raises_text (codes "boom")) (st (codes "g") (get_call None) ∷ [])

abbrev pub branch_error : Text → Text → Data
branch_error x t = map (pair x (text t) no_pairs)

-- the error of a parallel step, with those of its branches
abbrev pub branches_error : Data → Data
branches_error errors = map (map_of (
    (codes "branches", errors)
    ∷ (codes "message", text (codes "one or more branches failed"))
    ∷ (codes "tags", list (item (text (codes "UnhandledBranchError")) no_items)) ∷ []))

-- the first branch has failed, and the second one finishes a call later
abbrev pub JoinTellsTheErrorOfABranch : Type 0
JoinTellsTheErrorOfABranch =
    ComesTo half_failed (step_0 ∷ step_0 ∷ Event.Begin 0 ∷ Event.Begin 0 ∷ Event.Issue 2 7 ∷ Event.Move 1 ∷ Event.Answer 1 9 (plain_answer 200) ∷ step_0 ∷ step_0 ∷ [])
    (Returned (branches_error (list (item (branch_error (codes "x") (codes "boom")) no_items)))) 8

-- the parallel step doesn't end while a branch runs
abbrev pub JoinWaitsForEachBranch : Type 0
JoinWaitsForEachBranch = MayNotCome half_failed (step_0 ∷ step_0 ∷ Event.Begin 0 ∷ Event.Begin 0 ∷ Event.Issue 2 7 ∷ Event.Move 1 ∷ step_0 ∷ [])

-- both branches fail, the later one first: the errors stand in the order of the branches
abbrev pub both_failed : Program
both_failed = failing (raises_text (codes "a")) (raises_text (codes "b"))

abbrev pub ErrorsStandInBranchOrder : Type 0
ErrorsStandInBranchOrder =
    ComesTo both_failed (step_0 ∷ step_0 ∷ Event.Begin 0 ∷ Event.Begin 0 ∷ Event.Move 2 ∷ Event.Move 1 ∷ step_0 ∷ step_0 ∷ [])
    (Returned (branches_error (list (item (branch_error (codes "x") (codes "a")) (item (branch_error (codes "y") (codes "b")) no_items))))) 8

-- ## A parallel loop
-- each iteration adds its value to a shared total, and jumps over a raise by `continue`
abbrev pub each_adds : Program
each_adds = main_of (
    st (codes "i") (assigns (codes "t") (num 0))
    ∷ st (codes "p") (Body.Parallel (parallel (codes "t" ∷ []) None (OfLoop (loop (codes "v") None (InRange (num 1) (num 2)) (steps (
    step (codes "a") (assigns (codes "t") (plus (Expr.Name (codes "t")) (Expr.Name (codes "v")))) (Some (codes "continue"))
    ∷ st (codes "b") (Body.Raise (said (codes "unreached"))) ∷ []))))))
    ∷ st (codes "r") (Body.Return (var (codes "t"))) ∷ [])

-- `continue` ends the iteration
abbrev pub ContinueEndsAnIteration : Type 0
ContinueEndsAnIteration = ComesTo each_adds (step_0 ∷ step_0 ∷ Event.Begin 0 ∷ Event.Move 1 ∷ Event.Begin 0 ∷ Event.Move 2 ∷ Event.Move 2 ∷ Event.Move 1 ∷ step_0 ∷ step_0 ∷ []) (gives_number 3) 10

-- ## A limit on branches at once
-- two branches with a call each
abbrev pub limited : Option ℕ → Program
limited limit = main_of (
    st (codes "p") (Body.Parallel (parallel [] limit (OfBranches (branches_of ((codes "x", st (codes "c") (get_call None) ∷ []) ∷ (codes "y", st (codes "d") (get_call None) ∷ []) ∷ [])))))
    ∷ st (codes "r") (Body.Return (num 1)) ∷ [])

-- where nothing can move any more
abbrev pub settled_with : Option ℕ → After
settled_with limit = settles 20 (limited limit) 0 (run (limited limit) start [])

abbrev pub calls_made : After → ℕ
calls_made (To c) = length c.calls
calls_made a = 0

-- without a limit both calls are made before an answer
abbrev pub BothCallsAreMade : Type 0
BothCallsAreMade = calls_made (settled_with None) ≡ 2

-- with a limit of 1 the second branch begins, and its call is made, only when the first has ended
abbrev pub LimitKeepsTheSecondBack : Type 0
LimitKeepsTheSecondBack = calls_made (settled_with (Some 1)) ≡ 1

abbrev pub EndedBranchMakesRoom : Type 0
EndedBranchMakesRoom = calls_made (answered_in (limited (Some 1)) (1 ∷ []) (settled_with (Some 1))) ≡ 2

-- thirty iterations: twenty run at once
abbrev pub thirty : Program
thirty = main_of (st (codes "p") (Body.Parallel (parallel [] None (OfLoop (loop (codes "v") None (InRange (num 1) (num 30)) (steps (st (codes "c") (get_call None) ∷ [])))))) ∷ [])

abbrev pub TwentyRunAtOnce : Type 0
TwentyRunAtOnce = calls_made (settles 60 thirty 0 (run thirty start [])) ≡ 20

-- ## Quiet, and readings
abbrev pub due_after : After → Option ℕ
due_after (To c) = least_due c
due_after a = None

abbrev pub quiet_after : ℕ → After → Bool
quiet_after r (To c) = quiet c r
quiet_after r a = false

-- while both calls are open nothing can move, up to the moment at which they are due
abbrev pub QuietUntilTheLeastDueMoment : Type 0
QuietUntilTheLeastDueMoment =
    (due_after (settled_with None) ≡ Some 300000) × (quiet_after 299999 (settled_with None) ≡ true) × (quiet_after 300000 (settled_with None) ≡ false)

abbrev pub chosen_after : ℕ → After → Option Event
chosen_after r (To c) = choose (limited None) c r
chosen_after r a = None

-- the last reading stands behind the due moments
abbrev pub read_late : After → After
read_late (To c) = To (record c { last = 300005 })
read_late a = a

-- what is due is asked at the given reading, and the event has the greater of both
abbrev pub ChoiceTakesTheGreaterReading : Type 0
ChoiceTakesTheGreaterReading =
    (chosen_after 299999 (read_late (settled_with None)) ≡ None) × (chosen_after 300000 (read_late (settled_with None)) ≡ Some (Event.Due 1 300005))

-- ## Cancelling
abbrev pub tasks_and_calls : After → Option (Outcome × ℕ × ℕ)
tasks_and_calls (To c) = Some (c.outcome, length c.tasks, length c.calls)
tasks_and_calls a = None

-- cancelling leaves the three tasks and their two open calls as they are
abbrev pub CancellingKeepsTasksAndCalls : Type 0
CancellingKeepsTasksAndCalls = tasks_and_calls (then_event (limited None) (Event.Cancel 7) (settled_with None)) ≡ Some (Cancelled, 3, 2)

-- it isn't counted among the moves
abbrev pub CancellingIsNoMove : Type 0
CancellingIsNoMove = ComesTo racing (step_0 ∷ step_0 ∷ Event.Cancel 9 ∷ []) Cancelled 2

-- and no event comes behind it
abbrev pub NothingFollowsCancelling : Type 0
NothingFollowsCancelling = MayNotCome racing (step_0 ∷ Event.Cancel 9 ∷ step_0 ∷ [])
