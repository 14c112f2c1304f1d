-- How a task goes on: with a value, an error, a return or a jump.
--     raises, on        an error goes outward; an answer's value is used, or its error raised
--     gives, handed     a value goes into the variable that a step names
--     returns, jumps    to the caller, or to another step
use Rattle.std.specs.Prelude.{Bool, List, [], ◌∷◌, if◌then◌else◌, Some, None, Ok, Err, codes, bytes_eq, Option, Result}
use Rattle.std.specs.List.{list_any}
use Rattle.wf_ast.specs.Accept.{Kind, UnknownStep, JumpOutOfScope, BreakOutsideLoop, ReturnInBranch, UndeclaredWrite}
use Rattle.wf_ast.specs.Nodes.{step_names}
use Rattle.wf_ast.specs.Tree.{Flow, Program}
use Rattle.wf_model.specs.Config.{Item, Judge, Back}
use Rattle.wf_model.specs.Layers.{Assigned, Done, Refused, Undeclared, assign}
use Rattle.wf_model.specs.Local.{Local, Root, Main, Branch, Iteration, Scene, Gives, Moved, Ends, Breaks, Not, leave, goes}
use Rattle.wf_model.specs.Unwind.{unwind, answered, Found, Stands, AtEnd, NotFound, to_step, to_loop, to_back}
use Rattle.wf_value.specs.Data.{Data, null}
use Rattle.wf_value.specs.Errors.{error_map, Answer}
use Rattle.wf_value.specs.HttpRequest.{is_among}
use Rattle.wf_value.specs.Pairs.{Text}

-- ## Errors and results
-- the task raises an error at this control
abbrev pub raises : Scene → List Item → Local → Data → Moved
raises s k l e = unwind s k l e

-- goes on with a value, or raises its error
abbrev pub on : {A : Type 0} → Scene → List Item → Local → Answer A → (A → Moved) → Moved
on s k l (Err t) f = raises s k l (error_map t)
on s k l (Ok a) f = f a

-- goes on behind an assignment, or raises its error
abbrev pub on_assigned : Scene → List Item → Local → Assigned → Moved
on_assigned s k l (Done m) = goes k m
on_assigned s k l (Refused t) = raises s k l (error_map t)
on_assigned s k l Undeclared = Breaks UndeclaredWrite

-- a step's result goes into the variable that it names
abbrev pub gives : Scene → Option Text → Data → List Item → Local → Moved
gives s None v k l = goes k l
gives s (Some x) v k l = on_assigned s k l (assign s x [] v l)

-- a value, or an error that is raised
abbrev pub handed : Scene → Option Text → Result Data Data → List Item → Local → Moved
handed s r (Ok v) k l = gives s r v k l
handed s r (Err e) k l = raises s k l e

-- ## Returns and jumps
-- to the predicate that asked, or into the call's result
abbrev pub given_to : Scene → Option Text → Data → List Item → Local → Moved
given_to s r v (Judge t n d e ∷ k) l = answered s v t n d e k l
given_to s r v k l = gives s r v k l

-- without a call the execution has returned, and no branch returns
abbrev pub returns_in : Root → Data → Local → Moved
returns_in Main v l = Ends (Gives v) l
returns_in Branch v l = Breaks ReturnInBranch
returns_in Iteration v l = Breaks ReturnInBranch

-- by where the innermost call stands, whose layer ends
abbrev pub returned : Scene → Data → Local → Found → Moved
returned s v l (Stands (Back r ∷ k) m) = given_to s r v k (leave m)
returned s v l (Stands k m) = Not
returned s v l AtEnd = returns_in s.root v l
returned s v l NotFound = Not

-- a return with this value from inside these items
abbrev pub returns : Scene → Data → List Item → Local → Moved
returns s v k l = returned s v l (to_back k l)

-- a step of any of these workflows has the name
abbrev pub names_step : List Flow → Text → Bool
names_step fs x = list_any (λ f. is_among x (step_names f.steps)) fs

-- no block has the step: the kind tells whether any block of the program has it
abbrev pub no_step : Program → Text → Kind
no_step p x = if names_step p.flows x then JumpOutOfScope else UnknownStep

-- to the loop, or to the end of a parallel loop's iteration
abbrev pub continues : Scene → Local → Found → Moved
continues s l (Stands k m) = goes k m
continues s l AtEnd = elim s.root [ Iteration ↦ goes [] l | _ ↦ Breaks BreakOutsideLoop ]
continues s l NotFound = Breaks BreakOutsideLoop

-- past the loop
abbrev pub breaks : Found → Moved
breaks (Stands (i ∷ k) m) = goes k m
breaks f = Breaks BreakOutsideLoop

-- to the step that was found
abbrev pub jumps_to : Scene → Text → Found → Moved
jumps_to s x (Stands k m) = goes k m
jumps_to s x f = Breaks (no_step s.program x)

-- the jump from inside these items
abbrev pub jumps : Scene → Text → List Item → Local → Moved
jumps s x k l =
    if bytes_eq x (codes "end") then returns s null k l else
    (if bytes_eq x (codes "continue") then continues s l (to_loop k l) else
    (if bytes_eq x (codes "break") then breaks (to_loop k l) else jumps_to s x (to_step x k l)))
