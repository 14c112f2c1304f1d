-- Writing programs and events down, for the worked examples.
--     num, var, st, main_of ..     the parts of a program
--     start, step_0, moves_of      an execution's start, and moves of task 0
--     ComesTo, MayNotCome          what the events of an execution come to
--     settles, answered_in         running by the engine's choice
use Rattle.wf_ast.specs.declared.Op.TheVariants as op
use Rattle.std.specs.Prelude.{◌≡◌, ℕ, zero, suc, List, [], ◌∷◌, replicate, pos, Some, None, codes, Option}
use Rattle.wf_ast.specs.Tree.{Expr, no_exprs, Template, Scalar, Whole, Entry, Policy, Step, step, Body, parallel, OfBranches, Branches, no_branches, branch, try, Except, except, CallBody, Param, Flow, Program, steps, fields}
use Rattle.wf_model.specs.Choose.{choose}
use Rattle.wf_model.specs.Config.{Outcome, Returned, Raised, After, To, Wrong, NotNow}
use Rattle.wf_model.specs.Run.{run}
use Rattle.wf_model.specs.Step.{next}
use Rattle.wf_value.specs.Data.{integer, text}
use Rattle.wf_value.specs.Errors.{error_map}
use Rattle.wf_value.specs.declared.Tag.{Tag}
use Rattle.wf_value.specs.Events.{Reply, Response, Event, Start}
use Rattle.wf_value.specs.Pairs.{Text}

-- ## Expressions
abbrev pub num : ℕ → Template
num k = Scalar (integer (pos k))

abbrev pub said : Text → Template
said t = Scalar (text t)

abbrev pub var : Text → Template
var x = Whole (Expr.Name x)

abbrev pub plus : Expr → Expr → Template
plus a b = Whole (Expr.Bin op.Add a b)

abbrev pub one : Expr
one = Expr.Lit (integer (pos 1))

-- ## Steps
-- an entry of an assign
abbrev pub sets : Text → Template → Entry
sets x t = record { target = record { name = x; places = no_exprs; written = x }; value = t }

abbrev pub assigns : Text → Template → Body
assigns x t = Body.Assign (sets x t ∷ [])

-- a step without `next`
abbrev pub st : Text → Body → Step
st x b = step x b None

-- a step that is `next` alone
abbrev pub jump : Text → Text → Step
jump x name = step x Body.Nothing (Some name)

-- a call by its name, its arguments, and the name of its result
abbrev pub call_body : Text → List (Text × Template) → Option Text → CallBody
call_body f args r = record { name = f; args = fields args; result = r }

abbrev pub call_of : Text → List (Text × Template) → Option Text → Body
call_of f args r = Body.Call (call_body f args r)

-- `http.get` of a host under a result
abbrev pub get_call : Option Text → Body
get_call r = call_of (codes "http.get") ((codes "url", said (codes "http://127.0.0.1:9000/x")) ∷ []) r

abbrev pub branches_of : List (Text × List Step) → Branches
branches_of [] = no_branches
branches_of (b ∷ bs) = branch b.0 (steps b.1) (branches_of bs)

-- a parallel step with these shared names and branches
abbrev pub parallel_of : List Text → List (Text × List Step) → Body
parallel_of shared bs = Body.Parallel (parallel shared None (OfBranches (branches_of bs)))

abbrev pub try_steps : List Step → Option Policy → Except → Body
try_steps ss p x = Body.Try (try (Body.Block (steps ss)) p x)

-- an `except` under the name `e`, which returns the error
abbrev pub returns_error : Except
returns_error = except (codes "e") (steps (st (codes "caught") (Body.Return (var (codes "e"))) ∷ []))

-- ## Programs
abbrev pub flow_of : Text → List Param → List Step → Flow
flow_of x ps ss = record { name = x; params = ps; steps = steps ss }

abbrev pub main_of : List Step → Program
main_of ss = record { flows = flow_of (codes "main") [] ss ∷ [] }

-- `main` beside one other workflow
abbrev pub main_and : List Step → Flow → Program
main_and ss f = record { flows = flow_of (codes "main") [] ss ∷ f ∷ [] }

-- a parameter without a default
abbrev pub param : Text → Param
param x = record { name = x; default = None }

-- ## Starts and events
-- the later rules, the id t1, no routes, no callbacks, and the reading 0
abbrev pub start : Start
start = record { rules = 2; id = codes "t1"; source = []; argument = codes "null"; routes = []; env = []; base = []; reading = 0 }

-- the same under the first rules
abbrev pub first_rules : Start
first_rules = record start { rules = 1 }

abbrev pub step_0 : Event
step_0 = Event.Move 0

abbrev pub moves_of : ℕ → List Event
moves_of k = replicate k step_0

-- an answer without fields and body
abbrev pub plain_answer : ℕ → Reply
plain_answer code = Response code [] []

-- ## What events come to
abbrev pub gives_number : ℕ → Outcome
gives_number n = Returned (integer (pos n))

abbrev pub gives_text : Text → Outcome
gives_text t = Returned (text t)

abbrev pub raises_tag : Tag → Outcome
raises_tag t = Raised (error_map t)

-- the outcome and the count of moves
abbrev pub ending : After → Option (Outcome × ℕ)
ending (To c) = Some (c.outcome, c.moves)
ending (Wrong k) = None
ending NotNow = None

-- the events lead to this outcome with so many moves counted
abbrev pub ComesTo : Program → List Event → Outcome → ℕ → Type 0
ComesTo p es o n = ending (run p start es) ≡ Some (o, n)

-- the last of these events, or one before it, isn't enabled
abbrev pub MayNotCome : Program → List Event → Type 0
MayNotCome p es = run p start es ≡ NotNow

-- ## Running by the engine's choice
-- events are chosen at the reading until nothing can move, at most so many
abbrev pub settles : ℕ → Program → ℕ → After → After
settles zero p r a = a
settles (suc n) p r (Wrong k) = Wrong k
settles (suc n) p r NotNow = NotNow
settles (suc n) p r (To c) = elim (choose p c r) [ None ↦ To c | Some e ↦ settles n p r (next p c e) ]

-- these events themselves
abbrev pub choices : ℕ → Program → ℕ → After → List Event
choices zero p r a = []
choices (suc n) p r (Wrong k) = []
choices (suc n) p r NotNow = []
choices (suc n) p r (To c) = elim (choose p c r) [ None ↦ [] | Some e ↦ e ∷ choices n p r (next p c e) ]

abbrev pub then_event : Program → Event → After → After
then_event p e (To c) = next p c e
then_event p e (Wrong k) = Wrong k
then_event p e NotNow = NotNow

-- each of these calls is answered in turn with an empty body
abbrev pub answered_in : Program → List ℕ → After → After
answered_in p [] a = a
answered_in p (k ∷ ks) a = answered_in p ks (settles 9 p 0 (then_event p (Event.Answer k 0 (plain_answer 200)) a))
