-- Laws of steps and runs, for every program.
use Rattle.std.specs.Prelude.{◌≡◌, ℕ, suc, ◌<◌, ◌≤◌, ◌≢◌, ◌⊎◌, List, [], ◌∷◌, ◌++◌, length, Some, None}
use Rattle.wf_ast.specs.Tree.{Program}
use Rattle.wf_model.specs.Config.{Task, Call, Active, Config, After, To, NotNow, move_limit}
use Rattle.wf_model.specs.Ready.{request_in, request_of}
use Rattle.wf_model.specs.Run.{run_on, empty, Run}
use Rattle.wf_model.specs.Step.{next, Step}
use Rattle.wf_value.specs.Events.{Event, Start}
use Rattle.wf_value.specs.HttpRequest.{Request}

-- ## Runs in parts
-- events lead where their front leads, and then their rest
abbrev pub RunsJoin : Type 0
RunsJoin = (p : Program) (a : After) (es fs : List Event) → run_on p a (es ++ fs) ≡ run_on p (run_on p a es) fs

-- the front of a run is a run, and the rest leads on from there
abbrev pub FrontIsARun : Type 0
FrontIsARun = (p : Program) (s : Start) (es fs : List Event) (c : Config) → Run p s (es ++ fs) c → (b : Config) × Run p s es b × (run_on p (To b) fs ≡ To c)

-- and a run with a step behind it is a run
abbrev pub StepGoesOn : Type 0
StepGoesOn = (p : Program) (s : Start) (es : List Event) (e : Event) (b c : Config) → Run p s es b → Step p b e c → Run p s (es ++ e ∷ []) c

-- the same events lead to one configuration
abbrev pub RunsAgree : Type 0
RunsAgree = (p : Program) (s : Start) (es : List Event) (b c : Config) → Run p s es b → Run p s es c → b ≡ c

-- ## Steps
-- an event leads to at most one configuration
abbrev pub StepIsOne : Type 0
StepIsOne = (p : Program) (a b c : Config) (e : Event) → Step p a e b → Step p a e c → b ≡ c

-- no event comes once there is an outcome
abbrev pub NothingFollowsAnOutcome : Type 0
NothingFollowsAnOutcome = (p : Program) (c : Config) (e : Event) → c.outcome ≢ Active → next p c e ≡ NotNow

-- what a step keeps and counts: the facts stay, the last reading doesn't fall, and the count of moves stays or rises by one, which
-- comes to the limit only together with an outcome
pub record Counts (b c : Config) : Type 0 where
  pub facts : c.facts ≡ b.facts
  pub readings : b.last ≤ c.last
  pub moves : (c.moves ≡ b.moves) ⊎ ((c.moves ≡ suc b.moves) × ((suc b.moves < move_limit) ⊎ (c.outcome ≢ Active)))

abbrev pub StepsCount : Type 0
StepsCount = (p : Program) (b c : Config) (e : Event) → Step p b e c → Counts b c

-- a call is as it was, or is closed, and new ones come behind
abbrev pub OnlyClose : List Call → List Call → Type 0
OnlyClose [] ys = Unit {0}
OnlyClose (x ∷ xs) [] = ⊥
OnlyClose (x ∷ xs) (y ∷ ys) = ((y ≡ x) ⊎ (request_in y ≡ None)) × OnlyClose xs ys

abbrev pub StepsOnlyCloseCalls : Type 0
StepsOnlyCloseCalls = (p : Program) (b c : Config) (e : Event) → Step p b e c → OnlyClose b.calls c.calls

-- ## Runs
-- a call that is open has the request with which it was issued: at each point of the run since then it had this one
abbrev pub RequestsStay : Type 0
RequestsStay = (p : Program) (s : Start) (es fs : List Event) (b c : Config) → Run p s es b → Run p s (es ++ fs) c
    → (k : ℕ) (q : Request) → k ≤ length b.calls → request_of c k ≡ Some q → request_of b k ≡ Some q

-- a run keeps the facts of its start, its readings don't fall, and its moves are at most 100,000, and fewer while there is no outcome
pub record Bounds (s : Start) (c : Config) : Type 0 where
  pub facts : c.facts ≡ (empty s).facts
  pub readings : s.reading ≤ c.last
  pub moves : c.moves ≤ move_limit
  pub active : c.outcome ≡ Active → c.moves < move_limit

abbrev pub RunsAreBounded : Type 0
RunsAreBounded = (p : Program) (s : Start) (es : List Event) (c : Config) → Run p s es c → Bounds s c

-- the numbers of these tasks rise from one on, and are below another
abbrev pub RisesFrom : ℕ → ℕ → List (ℕ × Task) → Type 0
RisesFrom low made [] = Unit {0}
RisesFrom low made (t ∷ ts) = (low ≤ t.0) × (t.0 < made) × RisesFrom (suc t.0) made ts

-- the live tasks stand by rising number below the count of tasks made, which is at most the moves plus one
pub record Numbered (c : Config) : Type 0 where
  pub made : c.made ≤ suc c.moves
  pub rises : RisesFrom 0 c.made c.tasks

abbrev pub TasksAreNumbered : Type 0
TasksAreNumbered = (p : Program) (s : Start) (es : List Event) (c : Config) → Run p s es c → Numbered c
