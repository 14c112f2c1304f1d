-- The engine's choice among the events that are enabled at a reading: a due moment that has come goes first, then the beginning of a
-- branch, and then the step of a ready task.
--     choose      the event, or none where the configuration is quiet or has an outcome
use Rattle.std.specs.Prelude.{ℕ, ◌%◌, max, ◌&&◌, List, [], ◌∷◌, if◌then◌else◌, nat_le, Some, None, Option, option_map}
use Rattle.wf_ast.specs.Tree.{Program}
use Rattle.wf_model.specs.Config.{Task, Active, Config}
use Rattle.wf_model.specs.Kinds.{NextKind, Plainly, ByClock, ByCall, next_kind}
use Rattle.wf_model.specs.Ready.{is_ready, may_begin, is_due}
use Rattle.wf_value.specs.Events.{Event}
use Rattle.wf_value.specs.HttpUrl.{first_of_two}

-- the event that a ready task's next step wants
abbrev pub wanted : NextKind → ℕ → ℕ → Event
wanted Plainly b now = Event.Move b
wanted ByClock b now = Event.MoveAt b now
wanted ByCall b now = Event.Issue b now

-- the least task whose due moment is at or before the reading
abbrev pub first_due : Config → ℕ → List (ℕ × Task) → Option ℕ
first_due c r [] = None
first_due c r (t ∷ ts) = if is_due c r t.1.wait then Some t.0 else first_due c r ts

-- the least task that may begin a branch or an iteration
abbrev pub first_begin : List (ℕ × Task) → Option ℕ
first_begin [] = None
first_begin (t ∷ ts) = if may_begin t.1 then Some t.0 else first_begin ts

-- the least ready task from a number on
abbrev pub first_ready : ℕ → List (ℕ × Task) → Option (ℕ × Task)
first_ready from [] = None
first_ready from (t ∷ ts) = if nat_le from t.0 && is_ready t.1 then Some t else first_ready from ts

-- from the remainder of the moves by the count of tasks made on, and else from the first
abbrev pub next_ready : Config → Option (ℕ × Task)
next_ready c = first_of_two (first_ready (c.moves % c.made) c.tasks) (first_ready 0 c.tasks)

-- the event of a ready task
abbrev pub ready_event : Program → ℕ → ℕ × Task → Event
ready_event p now t = wanted (next_kind p t.1.control) t.0 now

-- what is due is asked at the reading r, and the event has the reading `now`
abbrev pub chosen_event : Program → Config → ℕ → ℕ → Option Event
chosen_event p c r now =
    first_of_two (option_map (λ b. Event.Due b now) (first_due c r c.tasks))
    (first_of_two (option_map Event.Begin (first_begin c.tasks)) (option_map (ready_event p now) (next_ready c)))

-- the event's reading is the given one or the last one, whichever is greater
abbrev pub choose : Program → Config → ℕ → Option Event
choose p c r = elim c.outcome [ Active ↦ chosen_event p c r (max r c.last) | _ ↦ None ]
