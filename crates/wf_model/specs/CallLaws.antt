-- Laws of calls: how they are closed, and of what their requests are made.
use Rattle.std.specs.Prelude.{◌≡◌, ℕ, ◌≤◌, ◌<◌, ◌^◌, List, length, Some, None, Ok}
use Rattle.wf_ast.specs.Tree.{Program}
use Rattle.wf_model.specs.Config.{Active, Config, To}
use Rattle.wf_model.specs.Ready.{request_of}
use Rattle.wf_model.specs.Run.{Run, run_on}
use Rattle.wf_model.specs.Step.{next}
use Rattle.wf_value.specs.Events.{Event, Answer, Reply, Start}
use Rattle.wf_value.specs.HttpRequest.{Asked, Request, request}

-- events only close calls, and new ones come behind them
abbrev pub CallsGoOn : Type 0
CallsGoOn = (p : Program) (b c : Config) (es : List Event) → run_on p (To b) es ≡ To c
    → (length b.calls ≤ length c.calls) × ((k : ℕ) (q : Request) → k ≤ length b.calls → request_of c k ≡ Some q → request_of b k ≡ Some q)

-- a call that was answered is closed, unless the answer ended the execution
abbrev pub AnswersClose : Type 0
AnswersClose = (p : Program) (b c : Config) (k r : ℕ) (a : Reply) → next p b (Answer k r a) ≡ To c → c.outcome ≡ Active → (k ≤ length c.calls) × (request_of c k ≡ None)

-- the request of an open call is made of what the call asks, of the execution's id and of the call's number
abbrev pub RequestsAreAsked : Type 0
RequestsAreAsked = (p : Program) (s : Start) (es : List Event) (c : Config) (k : ℕ) (q : Request) → Run p s es c → request_of c k ≡ Some q → (a : Asked) × (request s.routes a s.id k ≡ Ok q) × (k < 2 ^ 64)
