-- Parts as tests, which compute on a configuration.
--     tasks_test     TasksAreLinked
--     waits_test     WaitsAreNamed
--     limits_test    WithinLimits
use Rattle.std.specs.Prelude.{◌↔◌, ℕ, suc, Bool, true, false, not, ◌&&◌, T, length, List, [], ◌∷◌, nat_eq, nat_le, nat_lt, Some, None, Option, is_some}
use Rattle.wf_fits.specs.Fits.{WaitsAreNamed, TasksAreLinked, WithinLimits}
use Rattle.wf_model.specs.Config.{Layer, LogEntry, Left, OfList, OfRange, WorkLeft, BranchesLeft, ValuesLeft, limits, log_limit, Item, Loop, Judge, Join, Wait, Awake, Sleep, Delay, Calling, Await, Task, Call, Open, Answered, TimedOut, Outcome, Active, Returned, Raised, Cancelled, Config, body_limit, call_limit, running_limit, task_in, move_limit}
use Rattle.wf_model.specs.RunLaws.{RisesFrom}
use Rattle.wf_model.specs.Taken.{nesting, tasks_total, log_total}
use Rattle.wf_model.specs.Unwind.{calls_in}
use Rattle.wf_never_wrong.specs.Stands.{call_at, is_running, join_of}
use Rattle.wf_value.specs.Data.{Data, Pairs, no_pairs, pair, depth}
use Rattle.wf_value.specs.Events.{Visitor}
use Rattle.wf_value.specs.Queues.{Endpoint, endpoint_at, queue_limit}

-- of each live task
abbrev pub all_tasks : (ℕ → Task → Bool) → List (ℕ × Task) → Bool
all_tasks test [] = true
all_tasks test (t ∷ ts) = test t.0 t.1 && all_tasks test ts

-- ## Tasks
abbrev pub rises_test : ℕ → ℕ → List (ℕ × Task) → Bool
rises_test low made [] = true
rises_test low made (t ∷ ts) = nat_le low t.0 && (nat_lt t.0 made && rises_test (suc t.0) made ts)

abbrev pub runs : ℕ → List Item → Bool
runs n (Join body w m running es ∷ k) = is_running n running
runs n k = false

abbrev pub runs_in : ℕ → Option Task → Bool
runs_in b None = false
runs_in b (Some t) = runs b t.control

abbrev pub parent_test : List (ℕ × Task) → ℕ → Option (ℕ × ℕ) → Bool
parent_test ts b None = nat_eq b 0
parent_test ts b (Some p) = nat_lt p.0 b && runs_in b (task_in ts p.0)

abbrev pub is_child : Option (ℕ × ℕ) → ℕ → Bool
is_child None a = false
is_child (Some p) a = nat_eq p.0 a

abbrev pub child_by : Option Task → ℕ → Bool
child_by None a = false
child_by (Some t) a = is_child t.parent a

abbrev pub all_children : List (ℕ × Task) → ℕ → List ℕ → Bool
all_children ts a [] = true
all_children ts a (m ∷ ms) = child_by (task_in ts m) a && all_children ts a ms

abbrev pub joins_test : List (ℕ × Task) → ℕ → List Item → Bool
joins_test ts a (Join body w m running es ∷ k) = all_children ts a running
joins_test ts a k = true

-- ## Numbers of branches
abbrev pub errors_test : ℕ → ℕ → List (ℕ × Data) → Bool
errors_test low n [] = true
errors_test low n (x ∷ es) = nat_le low x.0 && (nat_lt x.0 n && errors_test (suc x.0) n es)

abbrev pub no_error : ℕ → List (ℕ × Data) → Bool
no_error i [] = true
no_error i (x ∷ es) = not (nat_eq i x.0) && no_error i es

abbrev pub join_at : Option Task → Option (ℕ × List (ℕ × Data))
join_at None = None
join_at (Some t) = join_of t.control

abbrev pub branch_fits : Option (ℕ × List (ℕ × Data)) → ℕ → Bool
branch_fits None i = true
branch_fits (Some j) i = nat_lt i j.0 && no_error i j.1

abbrev pub below_test : List (ℕ × Task) → Option (ℕ × ℕ) → Bool
below_test ts None = true
below_test ts (Some p) = branch_fits (join_at (task_in ts p.0)) p.1

abbrev pub kept_test : Option (ℕ × List (ℕ × Data)) → Bool
kept_test None = true
kept_test (Some j) = errors_test 0 j.0 j.1

abbrev pub same_pair : ℕ × ℕ → Option (ℕ × ℕ) → Bool
same_pair p None = false
same_pair p (Some q) = nat_eq p.0 q.0 && nat_eq p.1 q.1

abbrev pub no_twin : ℕ × ℕ → List (ℕ × Task) → Bool
no_twin p [] = true
no_twin p (u ∷ us) = not (same_pair p u.1.parent) && no_twin p us

abbrev pub twin_test : Option (ℕ × ℕ) → List (ℕ × Task) → Bool
twin_test None us = true
twin_test (Some p) us = no_twin p us

abbrev pub differ_test : List (ℕ × Task) → Bool
differ_test [] = true
differ_test (t ∷ ts) = twin_test t.1.parent ts && differ_test ts

abbrev pub branches_test : List (ℕ × Task) → Bool
branches_test ts = all_tasks (λ b t. below_test ts t.parent && kept_test (join_of t.control)) ts && differ_test ts

-- ## Numbers in controls
abbrev pub above_test : ℕ → List ℕ → Bool
above_test n [] = true
above_test n (m ∷ ms) = nat_lt n m && above_test n ms

abbrev pub rising_list : List ℕ → Bool
rising_list [] = true
rising_list (n ∷ ns) = above_test n ns && rising_list ns

abbrev pub bounded_test : ℕ → List Item → Bool
bounded_test most [] = true
bounded_test most (Loop l w i ∷ k) = nat_le i most && bounded_test most k
bounded_test most (Join b w n r es ∷ k) = rising_list r && (nat_le n most && bounded_test most k)
bounded_test most (i ∷ k) = bounded_test most k

-- ## Waits
abbrev pub open_for : Option Call → ℕ → Bool
open_for None b = false
open_for (Some (Open a q due)) b = nat_eq a b
open_for (Some Answered) b = false
open_for (Some TimedOut) b = false

abbrev pub is_nil : List Visitor → Bool
is_nil [] = true
is_nil (v ∷ vs) = false

abbrev pub empty_at : Option Endpoint → Bool
empty_at None = false
empty_at (Some e) = is_nil e.queue

abbrev pub wait_test : List Call → List Endpoint → ℕ → Wait → Bool
wait_test calls es b Awake = true
wait_test calls es b (Sleep d r) = true
wait_test calls es b (Delay d) = true
wait_test calls es b (Calling n r) = open_for (call_at calls n) b
wait_test calls es b (Await n d r) = empty_at (endpoint_at es n)

abbrev pub is_calling : ℕ → Wait → Bool
is_calling n Awake = false
is_calling n (Sleep d r) = false
is_calling n (Delay d) = false
is_calling n (Calling m r) = nat_eq m n
is_calling n (Await m d r) = false

abbrev pub waits_call : ℕ → Option Task → Bool
waits_call n None = false
waits_call n (Some t) = is_calling n t.wait

-- call m is the first of these
abbrev pub open_test : List (ℕ × Task) → ℕ → List Call → Bool
open_test ts m [] = true
open_test ts m (Open a q due ∷ cs) = waits_call m (task_in ts a) && open_test ts (suc m) cs
open_test ts m (Answered ∷ cs) = open_test ts (suc m) cs
open_test ts m (TimedOut ∷ cs) = open_test ts (suc m) cs

abbrev pub waits_test : Config → Bool
waits_test c = all_tasks (λ b t. wait_test c.calls c.endpoints b t.wait) c.tasks && open_test c.tasks 1 c.calls

-- ## Counts of queues, of running branches and of parallel steps in each other
abbrev pub short_test : List Endpoint → Bool
short_test [] = true
short_test (e ∷ es) = nat_le (length e.queue) queue_limit && short_test es

abbrev pub few_test : List Item → Bool
few_test [] = true
few_test (Join body left n r es ∷ k) = nat_le (length r) running_limit && few_test k
few_test (i ∷ k) = few_test k

abbrev pub deep_test : ℕ → ℕ → List Item → Bool
deep_test depth most [] = true
deep_test depth most (Join body left n r es ∷ k) = nat_lt depth most && deep_test depth most k
deep_test depth most (i ∷ k) = deep_test depth most k

-- ## Values
abbrev pub shallow_test : Data → Bool
shallow_test v = nat_le (depth v) 100

abbrev pub values_test : List Data → Bool
values_test [] = true
values_test (v ∷ vs) = shallow_test v && values_test vs

abbrev pub pairs_test : Pairs → Bool
pairs_test no_pairs = true
pairs_test (pair k v ps) = shallow_test v && pairs_test ps

abbrev pub left_test : Left → Bool
left_test (OfList vs) = values_test vs
left_test (OfRange a b) = true

abbrev pub work_test : WorkLeft → Bool
work_test (BranchesLeft bs) = true
work_test (ValuesLeft w) = left_test w

abbrev pub kept_values_test : List (ℕ × Data) → Bool
kept_values_test [] = true
kept_values_test (e ∷ es) = shallow_test e.1 && kept_values_test es

abbrev pub items_test : List Item → Bool
items_test [] = true
items_test (Loop l w i ∷ k) = left_test w && items_test k
items_test (Judge t n d e ∷ k) = shallow_test e && items_test k
items_test (Join b w n r es ∷ k) = work_test w && (kept_values_test es && items_test k)
items_test (i ∷ k) = items_test k

abbrev pub layers_test : List Layer → Bool
layers_test [] = true
layers_test (l ∷ ls) = pairs_test l.vars && layers_test ls

abbrev pub log_test : List LogEntry → Bool
log_test [] = true
log_test (e ∷ es) = shallow_test e.value && log_test es

abbrev pub outcome_test : Outcome → Bool
outcome_test Active = true
outcome_test (Returned v) = shallow_test v
outcome_test (Raised v) = shallow_test v
outcome_test Cancelled = true

-- the nesting of values, the total of variables and that of logged values
abbrev pub within_test : Config → Bool
within_test c =
    all_tasks (λ b t. items_test t.control && layers_test t.layers) c.tasks
    && (nat_le (tasks_total c.tasks) (limits c.facts.rules).variables && (log_test c.log && (nat_le (log_total c.log) log_limit && outcome_test c.outcome)))

-- ## Whole parts
abbrev pub every : List Bool → Bool
every [] = true
every (q ∷ qs) = q && every qs

-- while there is no outcome
abbrev pub if_active : Outcome → Bool → Bool
if_active Active q = q
if_active (Returned v) q = true
if_active (Raised v) q = true
if_active Cancelled q = true

abbrev pub tasks_tests : Config → List Bool
tasks_tests c =
    rises_test 0 c.made c.tasks
    ∷ nat_le c.made (suc c.moves)
    ∷ if_active c.outcome (is_some (task_in c.tasks 0))
    ∷ all_tasks (λ b t. parent_test c.tasks b t.parent) c.tasks
    ∷ all_tasks (λ b t. joins_test c.tasks b t.control) c.tasks
    ∷ all_tasks (λ b t. bounded_test c.moves t.control) c.tasks
    ∷ branches_test c.tasks
    ∷ []

abbrev pub tasks_test : Config → Bool
tasks_test c = every (tasks_tests c)

abbrev pub limits_tests : Config → List Bool
limits_tests c =
    nat_le c.moves move_limit
    ∷ if_active c.outcome (nat_lt c.moves move_limit)
    ∷ (nat_le c.bodies body_limit && short_test c.endpoints)
    ∷ all_tasks (λ b t. nat_le (calls_in t.control) call_limit) c.tasks
    ∷ all_tasks (λ b t. few_test t.control) c.tasks
    ∷ within_test c
    ∷ all_tasks (λ b t. deep_test (nesting b c t.parent) (limits c.facts.rules).nesting t.control) c.tasks
    ∷ []

abbrev pub limits_test : Config → Bool
limits_test c = every (limits_tests c)

-- ## Agreement
abbrev pub TasksAreTested : Type 0
TasksAreTested = (c : Config) → T (tasks_test c) ↔ TasksAreLinked c

-- of tasks whose numbers rise
abbrev pub WaitsAreTested : Type 0
WaitsAreTested = (c : Config) → RisesFrom 0 c.made c.tasks → T (waits_test c) ↔ WaitsAreNamed c

abbrev pub LimitsAreTested : Type 0
LimitsAreTested = (c : Config) → RisesFrom 0 c.made c.tasks → T (limits_test c) ↔ WithinLimits c
