-- Worked limits: where an execution meets one, and what it comes to then.
use Rattle.std.specs.Prelude.{◌≡◌, ℕ, Bool, true, false, List, [], ◌∷◌, length, filter, replicate, Some, None, codes, Option}
use Rattle.wf_ast.specs.Tree.{FlowNamed, Listed, no_templates, template, InList, Step, Body, loop, parallel, OfLoop, except, Program, steps}
use Rattle.wf_model.specs.Config.{Item, Try, Outcome, Active, Raised, After, To, NotNow, limits, task}
use Rattle.wf_model.specs.Unwind.{calls_in}
use Rattle.wf_model.specs.Run.{run_on, run}
use Rattle.wf_model.specs.RowsRetries.{policy_of}
use Rattle.wf_model.specs.Writing.{num, said, var, assigns, st, jump, call_of, flow_of, main_of, main_and, param, parallel_of, try_steps, returns_error, start, first_rules, step_0, moves_of, gives_number, raises_tag, ending, ComesTo, settles}
use Rattle.wf_value.specs.Events.{Event, Start}
use Rattle.wf_value.specs.Data.{Data, list, map, no_items, item, no_pairs, pair}
use Rattle.wf_value.specs.Errors.{error_with, error_map}
use Rattle.wf_value.specs.Pairs.{Text}
use Rattle.wf_value.specs.declared.Tag.TheVariants.{ParallelNestingError, RecursionError, ResourceLimitError, UnhandledBranchError}

-- ## Moves
-- a step that jumps to itself
abbrev pub circling : Program
circling = main_of (jump (codes "a") (codes "a") ∷ [])

-- the same inside a `try` with `except`
abbrev pub circling_in_try : Program
circling_in_try = main_of (st (codes "t") (try_steps (jump (codes "a") (codes "a") ∷ []) None returns_error) ∷ [])

-- when 99,998 moves were made
abbrev pub near_the_limit : After → After
near_the_limit (To c) = To (record c { moves = 99998 })
near_the_limit a = a

abbrev pub circling_on : List Event → After
circling_on es = run_on circling (near_the_limit (run circling start (moves_of 2))) es

abbrev pub TenThousandMoves : Type 0
TenThousandMoves = ComesTo circling (moves_of 10000) Active 10000

-- the next move is carried out
abbrev pub MoveBeforeTheLimit : Type 0
MoveBeforeTheLimit = ending (circling_on (moves_of 1)) ≡ Some (Active, 99999)

-- the 100,000th isn't, and is counted
abbrev pub MoveAtTheLimit : Type 0
MoveAtTheLimit = ending (circling_on (moves_of 2)) ≡ Some (raises_tag ResourceLimitError, 100000)

-- no `except` sees it
abbrev pub LimitPassesEachTry : Type 0
LimitPassesEachTry = ending (run_on circling_in_try (near_the_limit (run circling_in_try start (moves_of 3))) (moves_of 2)) ≡ Some (raises_tag ResourceLimitError, 100000)

abbrev pub NothingFollowsTheLimit : Type 0
NothingFollowsTheLimit = circling_on (moves_of 3) ≡ NotNow

-- ## Calls in each other
-- main calls f, and f calls itself
abbrev pub recursive : Program
recursive = main_and (st (codes "s") (call_of (codes "f") [] None) ∷ []) (flow_of (codes "f") [] (st (codes "u") (call_of (codes "f") [] None) ∷ []))

abbrev pub TwentyCallsInEachOther : Type 0
TwentyCallsInEachOther = ComesTo recursive (moves_of 20) Active 20

abbrev pub TwentyFirstCallRaises : Type 0
TwentyFirstCallRaises = ComesTo recursive (moves_of 21) (raises_tag RecursionError) 21

-- f calls itself inside a `try` whose predicate is a workflow, and catches the error
abbrev pub recursive_in_try : Program
recursive_in_try = record {
  flows =
      flow_of (codes "main") [] (st (codes "s") (call_of (codes "f") [] None) ∷ [])
      ∷ flow_of (codes "ask") (param (codes "e") ∷ []) (st (codes "r") (Body.Return (num 1)) ∷ [])
      ∷ flow_of (codes "f") [] (st (codes "t") (try_steps (st (codes "u") (call_of (codes "f") [] None) ∷ []) (Some (policy_of (FlowNamed (codes "ask")) 1)) returns_error) ∷ []) ∷ [];
}

abbrev pub is_try : Item → Bool
is_try (Try body n d) = true
is_try i = false

abbrev pub tries_held : After → ℕ
tries_held (To c) = elim (task c 0) [ None ↦ 0 | Some t ↦ length (filter is_try t.control) ]
tries_held a = 0

abbrev pub calls_held : After → ℕ
calls_held (To c) = elim (task c 0) [ None ↦ 0 | Some t ↦ calls_in t.control ]
calls_held a = 0

-- The calls that a predicate's call counts are those outside its `try`. The call in the twentieth f raises, and there twenty are left,
-- so the predicate can't be called; the error goes on to the `try` of the nineteenth, where it is the twentieth call.
abbrev pub PredicateCountsTheCallsOutside : Type 0
PredicateCountsTheCallsOutside = (calls_held (run recursive_in_try start (moves_of 40)) ≡ 20) × (calls_held (run recursive_in_try start (moves_of 41)) ≡ 20)
    × (tries_held (run recursive_in_try start (moves_of 41)) ≡ 18)

-- ## Parallel steps in each other
-- a branch calls a workflow with a parallel step, whose branch does `inner`
abbrev pub nesting_with : List Step → Program
nesting_with inner = main_and
    (st (codes "p") (parallel_of [] ((codes "x", st (codes "c") (call_of (codes "f") [] None) ∷ []) ∷ [])) ∷ st (codes "r") (Body.Return (num 1)) ∷ [])
    (flow_of (codes "f") [] (st (codes "q") (parallel_of [] ((codes "y", inner) ∷ [])) ∷ []))

abbrev pub inner_assign : List Step
inner_assign = st (codes "n") (assigns (codes "a") (num 1)) ∷ []

-- a third parallel step, whose error is raised again
abbrev pub inner_parallel : List Step
inner_parallel = st (codes "n") (try_steps (st (codes "z") (parallel_of [] ((codes "w", inner_assign) ∷ [])) ∷ []) None (except (codes "e") (steps (st (codes "o") (Body.Raise (var (codes "e"))) ∷ [])))) ∷ []

abbrev pub outcome_of : After → Option Outcome
outcome_of (To c) = Some c.outcome
outcome_of a = None

-- by the engine's choice, under these rules
abbrev pub nested_outcome : Start → List Step → Option Outcome
nested_outcome s inner = outcome_of (settles 40 (nesting_with inner) 0 (run (nesting_with inner) s []))

-- the error of a parallel step whose one branch kept this error
abbrev pub in_branch : Text → Data → Data
in_branch x e = error_with UnhandledBranchError (codes "one or more branches failed") ((codes "branches", list (item (map (pair x e no_pairs)) no_items)) ∷ [])

-- the second one runs under the later rules, and raises under the first
abbrev pub SecondParallelStepRuns : Type 0
SecondParallelStepRuns = nested_outcome start inner_assign ≡ Some (gives_number 1)

abbrev pub SecondRaisesUnderTheFirstRules : Type 0
SecondRaisesUnderTheFirstRules = nested_outcome first_rules inner_assign ≡ Some (Raised (in_branch (codes "x") (error_map ParallelNestingError)))

-- the third one raises
abbrev pub ThirdParallelStepRaises : Type 0
ThirdParallelStepRaises = nested_outcome start inner_parallel ≡ Some (Raised (in_branch (codes "x") (in_branch (codes "y") (error_map ParallelNestingError))))

-- ## Variables
-- the first rules, and the later ones
abbrev pub RulesNameTheLimits : Type 0
RulesNameTheLimits = (limits 1 ≡ record { variables = 65536; nesting = 1 }) × (limits 2 ≡ record { variables = 524288; nesting = 2 })

-- x is a text of so many letters; return 1. The total of variables is five more: two and the name's length, and two for a text
abbrev pub holding : ℕ → Program
holding n = main_of (st (codes "a") (assigns (codes "x") (said (replicate n 97))) ∷ st (codes "r") (Body.Return (num 1)) ∷ [])

abbrev pub held_under : Start → ℕ → Option (Outcome × ℕ)
held_under s n = ending (run (holding n) s (moves_of 2))

-- 65,536 under the first rules
abbrev pub FirstRulesHold65536 : Type 0
FirstRulesHold65536 = held_under first_rules 65531 ≡ Some (gives_number 1, 2)

abbrev pub OneMoreRaises : Type 0
OneMoreRaises = ending (run (holding 65532) first_rules (moves_of 1)) ≡ Some (raises_tag ResourceLimitError, 1)

-- and more under the later ones
abbrev pub LaterRulesHoldMore : Type 0
LaterRulesHoldMore = held_under start 65532 ≡ Some (gives_number 1, 2)

-- a parallel loop over one such text: the iteration's names don't fit, and its error is kept in the parallel step
abbrev pub looping_over : ℕ → Program
looping_over n = main_of (st (codes "p") (Body.Parallel (parallel [] None (OfLoop (loop (codes "v") None (InList (Listed (template (said (replicate n 97)) no_templates))) (steps inner_assign))))) ∷ [])

abbrev pub BeginPastTheLimitKeepsItsError : Type 0
BeginPastTheLimitKeepsItsError =
    ending (run (looping_over 65532) first_rules (step_0 ∷ Event.Begin 0 ∷ step_0 ∷ [])) ≡ Some (Raised (in_branch (codes "0") (error_map ResourceLimitError)), 3)
