-- How many events that nothing counts may come in a row.
use Rattle.std.specs.Prelude.{◌≡◌, ◌≤◌, ◌+◌, ◌*◌, ℕ, suc, List, [], ◌∷◌, length}
use Rattle.std.specs.List.{AllByRecursion}
use Rattle.wf_ast.specs.Tree.{Program}
use Rattle.wf_model.specs.Config.{Wait, Awake, Sleep, Delay, Calling, Await, Task, Outcome, Active, Returned, Raised, Cancelled, Config, To}
use Rattle.wf_model.specs.ReadingLaws.{IsFromInside}
use Rattle.wf_model.specs.Run.{Run, run_on}
use Rattle.wf_model.specs.Step.{Step}
use Rattle.wf_model.specs.WaitLaws.{Sound}
use Rattle.wf_value.specs.Events.{Event, Start}

-- how many due moments may come before the task makes a counted event: that of what it waits for, and that of a delay behind it
abbrev pub weight : Wait → ℕ
weight Awake = 0
weight (Delay d) = 1
weight (Sleep d r) = 2
weight (Calling k r) = 2
weight (Await n d r) = 2

abbrev pub weigh : List (ℕ × Task) → ℕ
weigh [] = 0
weigh (t ∷ ts) = weight t.1.wait + weigh ts

-- each event from inside makes the tasks lighter, or is a move, which makes them heavier by at most two: so the weight and three times the
-- moves that are left fall with each
abbrev pub EventsAreCounted : Type 0
EventsAreCounted = (p : Program) (b c : Config) (es : List Event) → Sound b → AllByRecursion IsFromInside es → run_on p (To b) es ≡ To c → weigh c.tasks + length es + 3 * b.moves ≤ weigh b.tasks + 3 * c.moves

-- an answer, or a request that comes, makes them no heavier
abbrev pub IsFromOutside : Event → Type 0
IsFromOutside (Event.Answer k r a) = Unit {0}
IsFromOutside (Event.Arrive n r v) = Unit {0}
IsFromOutside e = ⊥

abbrev pub TakenWeighsNothing : Type 0
TakenWeighsNothing = (p : Program) (b c : Config) (e : Event) → Sound b → IsFromOutside e → Step p b e c → weigh c.tasks ≤ weigh b.tasks

-- which is at most twice the number of live tasks
abbrev pub TasksWeighLittle : Type 0
TasksWeighLittle = (ts : List (ℕ × Task)) → weigh ts ≤ 2 * length ts

-- ## All events
-- an event that uses something up: each but a request that comes, which may only join a queue
abbrev pub price : Event → ℕ
price (Event.Arrive n r v) = 0
price e = 1

abbrev pub prices : List Event → ℕ
prices [] = 0
prices (e ∷ es) = price e + prices es

-- the requests that come
abbrev pub arrivals : List Event → ℕ
arrivals [] = 0
arrivals (Event.Arrive n r v ∷ es) = suc (arrivals es)
arrivals (e ∷ es) = arrivals es

-- the last event of an execution may be one that ends it and uses up nothing else
abbrev pub is_over : Outcome → ℕ
is_over Active = 0
is_over (Returned v) = 1
is_over (Raised v) = 1
is_over Cancelled = 1

-- an answer, too, makes the tasks lighter, unless it ends the execution
abbrev pub EventsAreFew : Type 0
EventsAreFew = (p : Program) (b c : Config) (es : List Event) → Sound b → run_on p (To b) es ≡ To c → weigh c.tasks + prices es + 3 * b.moves ≤ weigh b.tasks + 3 * c.moves + is_over c.outcome

-- so a run has at most three events for each move, and one more, beside the requests that come; and so at most 300,001
abbrev pub RunsAreShort : Type 0
RunsAreShort = (p : Program) (s : Start) (es : List Event) (c : Config) → Run p s es c → length es ≤ 300001 + arrivals es
