-- How a task leaves what it stands in: an error, a jump and a return. Each goes over the items of the control, innermost first; a Mark
-- and a Back take the innermost own layer with them.
use Rattle.std.specs.Prelude.{ℕ, suc, Bool, true, false, List, [], ◌∷◌, if◌then◌else◌, nat_lt, nat_le, Some, None, Ok, Err, bytes_eq, Option}
use Rattle.wf_ast.specs.Accept.{UnknownCall, BadArgument}
use Rattle.wf_ast.specs.Flows.{flow}
use Rattle.wf_ast.specs.Tree.{Predicate, Always, Never, Predefined, FlowNamed, Policy, step, Steps, no_steps, more, TryBody, try, no_except, except, Param, Flow}
use Rattle.wf_model.specs.Config.{Item, Do, Loop, Try, Judge, Mark, Back, Delay, call_limit}
use Rattle.wf_model.specs.Layers.{opened, enter}
use Rattle.wf_model.specs.Local.{Local, Scene, Fails, Moved, Ends, Breaks, leave, goes, waits}
use Rattle.wf_value.specs.Data.{Data, boolean, Pairs}
use Rattle.wf_value.specs.Errors.{error_map, Answer, later}
use Rattle.wf_value.specs.declared.Tag.TheVariants.{RecursionError, TypeError}
use Rattle.wf_value.specs.Pairs.{Text}
use Rattle.wf_value.specs.Policies.{next_delay, default_says}

-- ## Calls
-- how many calls of workflows the control holds
abbrev pub calls_in : List Item → ℕ
calls_in [] = 0
calls_in (Back r ∷ k) = suc (calls_in k)
calls_in (i ∷ k) = calls_in k

-- ## Predicates
-- what a predicate says of an error by itself, or the workflow that it asks
pub data Judgement : Type 0 where
  Says : Bool → Judgement
  Asks : Text → Judgement

abbrev pub judgement : Predicate → Data → Judgement
judgement Always e = Says true
judgement Never e = Says false
judgement (Predefined d) e = Says (default_says d e)
judgement (FlowNamed f) e = Asks f

-- with no retries left the predicate isn't asked
abbrev pub judged : Option Policy → ℕ → Data → Judgement
judged None n e = Says false
judged (Some p) n e = if nat_lt n p.max_retries then judgement p.predicate e else Says false

-- ## Errors
-- What happens at a try; `outward` is where an error goes past it.
-- the task waits, with one more retry used
-- (without a policy nothing is tried again, and no error comes here)
abbrev pub retried : Scene → TryBody → ℕ → Option ℕ → List Item → Local → Moved
retried s (try body None x) n d k l = goes k l
retried s (try body (Some p) x) n d k l =
    let delay = next_delay p.backoff d in waits (Delay (later s.last delay)) (Try (try body (Some p) x) (suc n) (Some delay) ∷ k) l

-- the `except` block begins, with a layer of its name
abbrev pub excepted : Answer Pairs → Steps → List Item → Local → (Data → Moved) → Moved
excepted (Err t) ss k l outward = outward (error_map t)
excepted (Ok ps) ss k l outward = goes (Do ss ss ∷ Mark ∷ k) (enter false ps l)

-- without `except` the error goes outward
abbrev pub handled : Scene → Data → TryBody → List Item → Local → (Data → Moved) → Moved
handled s e (try body p no_except) k l outward = outward e
handled s e (try body p (except x ss)) k l outward = excepted (opened s l ((x, e) ∷ [])) ss k l outward

-- the call of the predicate begins, with its one parameter bound to the error
abbrev pub called : Answer Pairs → Steps → List Item → Local → (Data → Moved) → Moved
called (Err t) ss k l outward = outward (error_map t)
called (Ok ps) ss k l outward = goes (Do ss ss ∷ k) (enter true ps l)

-- a workflow that decides has one parameter, and its call counts the calls outside the `try`
abbrev pub asked_one : Scene → Data → List Param → Steps → List Item → Local → (Data → Moved) → Moved
asked_one s e (x ∷ []) ss k l outward =
    if nat_le call_limit (calls_in k) then outward (error_map RecursionError) else called (opened s l ((x.name, e) ∷ [])) ss (Back None ∷ k) l outward
asked_one s e xs ss k l outward = Breaks BadArgument

-- the workflow of this name, which the program has
abbrev pub asks : Scene → Data → Option Flow → List Item → Local → (Data → Moved) → Moved
asks s e None k l outward = Breaks UnknownCall
asks s e (Some f) k l outward = asked_one s e f.params f.steps k l outward

-- by the predicate's answer, or its call, which stands inside a Judge
abbrev pub decided : Scene → Data → Judgement → TryBody → ℕ → Option ℕ → List Item → Local → (Data → Moved) → Moved
decided s e (Says true) t n d k l outward = retried s t n d k l
decided s e (Says false) t n d k l outward = handled s e t k l outward
decided s e (Asks f) t n d k l outward = asks s e (flow s.program.flows f) (Judge t n d e ∷ k) l outward

abbrev pub policy_of : TryBody → Option Policy
policy_of (try body p x) = p

-- an error drops items outward to the nearest try, or to the control's end
abbrev pub unwind : Scene → List Item → Local → Data → Moved
unwind s [] l e = Ends (Fails e) l
unwind s (Mark ∷ k) l e = unwind s k (leave l) e
unwind s (Back r ∷ k) l e = unwind s k (leave l) e
unwind s (Try t n d ∷ k) l e = decided s e (judged (policy_of t) n e) t n d k l (unwind s k l)
unwind s (i ∷ k) l e = unwind s k l e

-- what the predicate's workflow returned: an answer that isn't a truth value goes outward as a TypeError
abbrev pub answered : Scene → Data → TryBody → ℕ → Option ℕ → Data → List Item → Local → Moved
answered s (boolean true) t n d e k l = retried s t n d k l
answered s (boolean false) t n d e k l = handled s e t k l (unwind s k l)
answered s v t n d e k l = unwind s k l (error_map TypeError)

-- ## Jumps
-- the steps of a block from this one on
abbrev pub from_step : Text → Steps → Steps
from_step x no_steps = no_steps
from_step x (more (step y b n) ss) = if bytes_eq x y then more (step y b n) ss else from_step x ss

-- where a jump or a return leads
pub data Found : Type 0 where
  Stands : List Item → Local → Found
  AtEnd : Found
  NotFound : Found

-- in this block, if it has the step, and else further out
abbrev pub cut_at : Steps → Steps → List Item → Local → Found → Found
cut_at block no_steps k l outward = outward
cut_at block (more s ss) k l outward = Stands (Do block (more s ss) ∷ k) l

-- a jump goes outward to the first block that has the step, across no loop and no call
abbrev pub to_step : Text → List Item → Local → Found
to_step x [] l = NotFound
to_step x (Do block left ∷ k) l = cut_at block (from_step x block) k l (to_step x k l)
to_step x (Mark ∷ k) l = to_step x k (leave l)
to_step x (Loop b w i ∷ k) l = NotFound
to_step x (Back r ∷ k) l = NotFound
to_step x (i ∷ k) l = to_step x k l

-- `continue` and `break` go outward to the innermost loop, or to the end of the control where no call stands outward
abbrev pub to_loop : List Item → Local → Found
to_loop [] l = AtEnd
to_loop (Loop b w i ∷ k) l = Stands (Loop b w i ∷ k) l
to_loop (Mark ∷ k) l = to_loop k (leave l)
to_loop (Back r ∷ k) l = NotFound
to_loop (i ∷ k) l = to_loop k l

-- ## Returns
-- the items from the innermost call on, with the layers that stand there
abbrev pub to_back : List Item → Local → Found
to_back [] l = AtEnd
to_back (Back r ∷ k) l = Stands (Back r ∷ k) l
to_back (Mark ∷ k) l = to_back k (leave l)
to_back (i ∷ k) l = to_back k l
