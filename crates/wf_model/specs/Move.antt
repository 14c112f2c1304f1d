-- One move of a task: what its innermost item does, by the table of moves. A task is settled after its move.
--     move            the move of a task
--     issue           the move of a task before a call of HTTP
--     due             how a task goes on at its due moment
use Rattle.std.specs.Prelude.{ℕ, zero, suc, true, false, List, [], ◌∷◌, pos, if◌then◌else◌, nat_le, Some, None, Ok, Err, codes, decimal, Option, Result}
use Rattle.wf_ast.specs.Apply.{View}
use Rattle.wf_ast.specs.Eval.{truth, whole, eval_all, fill}
use Rattle.wf_ast.specs.Func.{special_named}
use Rattle.wf_ast.specs.Tree.{Entry, Over, InList, InRange, step, Steps, no_steps, more, Body, Arms, no_arms, arm, LoopBody, loop, ParallelBody, parallel, OfBranches, OfLoop, Branches, no_branches, branch, try, unnamed}
use Rattle.wf_model.specs.Calls.{calls, http_method, issues_call}
use Rattle.wf_model.specs.Config.{Left, OfList, WorkLeft, BranchesLeft, ValuesLeft, Item, Do, Entries, Then, Loop, Try, Mark, Back, Join, Wait, Awake, Sleep, Delay, Calling, Await, limits, next_of, range_left, counted_left, is_empty}
use Rattle.wf_model.specs.Layers.{view, opened, enter, assign}
use Rattle.wf_model.specs.Leave.{raises, on, on_assigned, handed, returns, jumps}
use Rattle.wf_model.specs.Local.{Local, Scene, Moved, Not, goes}
use Rattle.wf_value.specs.Data.{Data, null, integer, text, list, map, no_pairs, pair, items_of}
use Rattle.wf_value.specs.Errors.{tag_message, error_with, error_map, Answer, ◌>>=◌, nested_error}
use Rattle.wf_value.specs.declared.Tag.TheVariants.{ParallelNestingError, TimeoutError, TypeError, UnhandledBranchError}
use Rattle.wf_value.specs.Pairs.{Text, items}

-- ## Steps
-- a `next` stands outside the body that it is beside
abbrev pub then_item : Option Text → List Item → List Item
then_item None k = k
then_item (Some x) k = Then x ∷ k

-- an arm's body, or a call inside a `try`: one step without a name, to which no jump leads
abbrev pub lone : Body → Option Text → Item
lone body next = Do no_steps (unnamed body next)

-- a body inside a `try`
abbrev pub entered : Body → Item
entered (Body.Block ss) = Do ss ss
entered body = lone body None

-- one assignment: the right side first, then the places of the target
abbrev pub assigns : Scene → Entry → List Item → Local → Moved
assigns s e k l =
    on s k l (fill e.value (view s l)) λ v. on s k l (eval_all e.target.places (view s l)) λ ks. on_assigned s k l (assign s e.target.name ks v l)

-- the first arm whose condition holds
abbrev pub chosen : View → Arms → Answer (Option (Body × Option Text))
chosen s no_arms = Ok None
chosen s (arm t body next rest) = fill t s >>= λ v. truth v >>= elim [ true ↦ Ok (Some (body, next)) | false ↦ chosen s rest ]

-- an arm with neither a body nor `next` puts on nothing
abbrev pub arm_items : Body → Option Text → List Item → List Item
arm_items Body.Nothing None k = k
arm_items body next k = lone body next ∷ k

-- no arm was chosen, or this one
abbrev pub in_arm : Option (Body × Option Text) → List Item → List Item
in_arm None k = k
in_arm (Some a) k = arm_items a.0 a.1 k

-- the values that a loop goes over
abbrev pub list_left : Data → Answer Left
list_left (list vs) = Ok (OfList (items vs))
list_left v = Err TypeError

-- both ends of a range are evaluated before their kinds are looked at
abbrev pub over : View → Over → Answer Left
over s (InList t) = fill t s >>= list_left
over s (InRange t u) = fill t s >>= λ v. fill u s >>= λ w. whole v >>= λ m. whole w >>= λ n. Ok (range_left m n)

-- ## Parallel steps
-- the branches, or the values of a loop
abbrev pub work : View → ParallelBody → Answer WorkLeft
work v (parallel names limit (OfBranches bs)) = Ok (BranchesLeft bs)
work v (parallel names limit (OfLoop (loop x i o ss))) = over v o >>= λ left. Ok (ValuesLeft (counted_left left))

-- in a task that is as deep as the limit nothing is evaluated
abbrev pub forks : Scene → ParallelBody → List Item → Local → Moved
forks s body k l =
    if nat_le (limits s.facts.rules).nesting s.nesting then raises s k l (error_map ParallelNestingError) else
    on s k l (work (view s l) body) λ w. goes (Join body w 0 [] [] ∷ k) l

abbrev pub branch_name : Branches → ℕ → Text
branch_name no_branches n = []
branch_name (branch x ss bs) zero = x
branch_name (branch x ss bs) (suc n) = branch_name bs n

-- a branch's name, or an iteration's number as a text
abbrev pub name_of : ParallelBody → ℕ → Text
name_of (parallel names limit (OfBranches bs)) n = branch_name bs n
name_of (parallel names limit (OfLoop l)) n = decimal n

-- a map from its name to its error for each branch that kept one
abbrev pub error_list : ParallelBody → List (ℕ × Data) → List Data
error_list body [] = []
error_list body (e ∷ es) = map (pair (name_of body e.0) e.1 no_pairs) ∷ error_list body es

-- the error of a parallel step; one that nests too deep is a ResourceLimitError
abbrev pub join_error : ParallelBody → List (ℕ × Data) → Data
join_error body es = nested_error (error_with UnhandledBranchError (tag_message UnhandledBranchError) ((codes "branches", list (items_of (error_list body es))) ∷ []))

-- a parallel step whose branches have all ended: its end, or its error
abbrev pub joins : Scene → ParallelBody → List (ℕ × Data) → List Item → Local → Moved
joins s body [] k l = goes k l
joins s body (e ∷ es) k l = raises s k l (join_error body (e ∷ es))

-- ## Raises
-- a text or a map
abbrev pub raised : Data → Answer Data
raised (text t) = Ok (text t)
raised (map ps) = Ok (map ps)
raised v = Err TypeError

-- ## Loops
-- the names that an iteration binds, the value before the index
abbrev pub loop_names : LoopBody → Data → ℕ → List (Text × Data)
loop_names (loop x None o ss) v i = (x, v) ∷ []
loop_names (loop x (Some y) o ss) v i = (x, v) ∷ (y, integer (pos i)) ∷ []

-- the steps of an iteration
abbrev pub loop_steps : LoopBody → Steps
loop_steps (loop x y o ss) = ss

-- a loop's next iteration, or its end
abbrev pub turns : Scene → LoopBody → Option (Data × Left) → ℕ → List Item → Local → Moved
turns s b None i k l = goes k l
turns s b (Some n) i k l =
    on s k l (opened s l (loop_names b n.0 i)) λ ps. goes (Do (loop_steps b) (loop_steps b) ∷ Mark ∷ Loop b n.1 (suc i) ∷ k) (enter false ps l)

-- ## Moves
-- a body is carried out; k is what stands outside it, its `next` among that. An assign carries out its first entry in the same move
abbrev pub performs : Scene → Body → List Item → Local → Moved
performs s Body.Nothing k l = goes k l
performs s (Body.Assign []) k l = goes k l
performs s (Body.Assign (e ∷ es)) k l = assigns s e (Entries es ∷ k) l
performs s (Body.Call f) k l = calls s f k l
performs s (Body.Switch arms) k l = on s k l (chosen (view s l) arms) λ a. goes (in_arm a k) l
performs s (Body.For (loop x i o ss)) k l = on s k l (over (view s l) o) λ left. goes (Loop (loop x i o ss) left 0 ∷ k) l
performs s (Body.Parallel body) k l = forks s body k l
performs s (Body.Block ss) k l = goes (Do ss ss ∷ k) l
performs s (Body.Try (try body policy x)) k l = goes (entered body ∷ Try (try body policy x) 0 None ∷ k) l
performs s (Body.Raise t) k l = on s k l (fill t (view s l) >>= raised) λ v. raises s k l v
performs s (Body.Return t) k l = on s k l (fill t (view s l)) λ v. returns s v k l

-- a `next` alone is a jump at once
abbrev pub steps_on : Scene → Body → Option Text → List Item → Local → Moved
steps_on s Body.Nothing (Some x) k l = jumps s x k l
steps_on s body next k l = performs s body (then_item next k) l

-- the move of a task by its control
abbrev pub moves : Scene → List Item → Local → Moved
moves s (Do block (more (step x body next) left) ∷ k) l = steps_on s body next (Do block left ∷ k) l
moves s (Entries (e ∷ es) ∷ k) l = assigns s e (Entries es ∷ k) l
moves s (Then x ∷ k) l = jumps s x k l
moves s (Loop b left i ∷ k) l = turns s b (next_of left) i k l
moves s (Back r ∷ k) l = returns s null (Back r ∷ k) l
moves s (Join body left n [] es ∷ k) l = if is_empty left then joins s body es k l else Not
moves s k l = Not

-- the move of a task
abbrev pub move : Scene → Local → Moved
move s l = moves s l.control l

-- by the control of a task that stands before a call of HTTP
abbrev pub issues : Scene → List Item → Local → Moved
issues s (Do block (more (step x (Body.Call f) next) left) ∷ k) l = issues_call s f (http_method (special_named f.name)) (then_item next (Do block left ∷ k)) l
issues s k l = Not

-- the move of a task that makes a request
abbrev pub issue : Scene → Local → Moved
issue s l = issues s l.control l

-- ## What a task waited for
-- without a wait
abbrev pub awake : Local → Local
awake l = record l { wait = Awake }

-- a value or an error, given to a task that waits for one
abbrev pub resumed : Scene → Option Text → Result Data Data → Local → Moved
resumed s r e l = handed s r e l.control (awake l)

-- after a delay the body stands inside its try anew
abbrev pub retries : List Item → Local → Moved
retries (Try (try body policy x) n d ∷ k) l = goes (entered body ∷ Try (try body policy x) n d ∷ k) l
retries k l = Not

-- what a call or an await raises that is due
abbrev pub timeout_error : Result Data Data
timeout_error = Err (error_map TimeoutError)

-- a sleep or a delay ends; a call and an await raise
abbrev pub due_by : Scene → Wait → Local → Moved
due_by s Awake l = Not
due_by s (Sleep t r) l = resumed s r (Ok null) l
due_by s (Delay t) l = retries l.control (awake l)
due_by s (Calling n r) l = resumed s r timeout_error l
due_by s (Await n t r) l = resumed s r timeout_error l

-- how a task goes on at its due moment
abbrev pub due : Scene → Local → Moved
due s l = due_by s l.wait l
