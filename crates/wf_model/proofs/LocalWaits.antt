-- No move of a task sends a call or waits for one, but that of an Issue.
use Rattle.std.specs.Prelude.{◌≡◌, ◌⊎◌, ℕ, suc, Bool, true, false, List, [], ◌∷◌, if◌then◌else◌, nat_le, Some, None, Ok, Err, codes, bytes_eq, Option, Result}
use Rattle.std.proofs.Common.{inl, inr, refl}
use Rattle.wf_ast.specs.Func.{Special, SysLog, SysSleep, SysSleepUntil, HttpCall, CreateEndpoint, AwaitCallback, Listing, SpecialListing, func_named, special_named, takes, call_takes, in_order}
use Rattle.wf_ast.specs.Accept.{BreakOutsideLoop}
use Rattle.wf_ast.specs.Apply.{apply}
use Rattle.wf_ast.specs.Eval.{eval_all, fill, fill_fields}
use Rattle.wf_ast.specs.Flows.{flow}
use Rattle.wf_ast.specs.Tree.{CallBody, Entry, step, Steps, no_steps, more, Body, Param, Flow, LoopBody, loop, ParallelBody, TryBody, try, no_except, except}
use Rattle.wf_ast.specs.declared.Func.{Func}
use Rattle.wf_model.proofs.Walk.{bool_case}
use Rattle.wf_model.specs.Calls.{bindings, calls_with, evaluates, sleeps, log_entry, within_log, endpoint_value, awaited, awaits, calls_special, calls_listed, calls_named, calls, sends, http_method, requests, fits_call, issues_call}
use Rattle.wf_model.specs.Config.{Left, Item, Do, Entries, Then, Loop, Try, Judge, Mark, Back, Wait, Awake, Sleep, Delay, Calling, Await, next_of, is_empty, limits, call_limit}
use Rattle.wf_model.specs.Layers.{Held, Own, Outside, Nowhere, view, held, opened, enter, written, made_new, all_share, Assigned, Done, Refused, Undeclared, within_limits, put_own, put_outside, put_layer, put_outer, assign_at, assign}
use Rattle.wf_model.specs.Leave.{raises, on, on_assigned, gives, handed, given_to, returns_in, returned, returns, continues, breaks, jumps_to, jumps}
use Rattle.wf_model.specs.Local.{Local, Root, Main, Branch, Iteration, Scene, Sends, Creates, Logs, Moved, Goes, Ends, Does, Breaks, Not, leave, settle, ended, goes, waits}
use Rattle.wf_model.specs.Move.{then_item, entered, assigns, chosen, in_arm, over, work, forks, join_error, joins, raised, loop_names, loop_steps, turns, performs, steps_on, moves, move, issues, issue, awake, resumed, retries, timeout_error, due_by, due}
use Rattle.wf_model.specs.Unwind.{Judgement, Says, Asks, judged, retried, excepted, handled, called, asked_one, asks, decided, policy_of, unwind, answered, from_step, Found, Stands, AtEnd, NotFound, cut_at, to_step, to_loop, to_back, calls_in}
use Rattle.wf_value.specs.Events.{Visitor, Method}
use Rattle.wf_value.specs.HttpRequest as http_request
use Rattle.wf_value.specs.HttpRequest.{Asked, Request, asked, request}
use Rattle.wf_value.specs.HttpText.{visit_result}
use Rattle.wf_value.specs.Data.{Data, boolean, null, Pairs}
use Rattle.wf_value.specs.Errors.{error_map, Answer, ◌>>=◌, kept}
use Rattle.wf_value.specs.declared.Tag.TheVariants.{ParallelNestingError, RecursionError}
use Rattle.wf_value.specs.Pairs.{Text, keys}

-- ## What is meant
abbrev pub NotCalling : Wait → Type 0
NotCalling (Calling k r) = ⊥
NotCalling w = Unit {0}

abbrev pub IsFree : Local → Type 0
IsFree l = NotCalling l.wait

-- it sends nothing, and doesn't wait for a call
abbrev pub Plain : Moved → Type 0
Plain (Goes l) = IsFree l
Plain (Ends e l) = Unit {0}
Plain (Does (Sends q d) m) = ⊥
Plain (Does x m) = Plain m
Plain (Breaks k) = Unit {0}
Plain Not = Unit {0}

-- ## Settling
settle_free : (k : List Item) (l : Local) → IsFree l → IsFree (settle k l)
settle_free [] l h = h
settle_free (Do block no_steps ∷ k) l h = settle_free k l h
settle_free (Do block (more s ss) ∷ k) l h = h
settle_free (Entries [] ∷ k) l h = settle_free k l h
settle_free (Entries (e ∷ es) ∷ k) l h = h
settle_free (Try t n d ∷ k) l h = settle_free k l h
settle_free (Mark ∷ k) l h = settle_free k (leave l) h
settle_free (i ∷ k) l h = h

ended_plain : (k : List Item) (l : Local) → IsFree l → Plain (ended k l)
ended_plain [] l h = tt
ended_plain (i ∷ k) l h = h

pub goes_plain : (k : List Item) (l : Local) → IsFree l → Plain (goes k l)
goes_plain k l h = ended_plain (settle k l).control (settle k l) (settle_free k l h)

-- ## Errors
retried_plain : (s : Scene) (t : TryBody) (n : ℕ) (d : Option ℕ) (k : List Item) (l : Local) → IsFree l → Plain (retried s t n d k l)
retried_plain s (try body None x) n d k l h = goes_plain k l h
retried_plain s (try body (Some p) x) n d k l h = tt

excepted_plain : (a : Answer Pairs) (ss : Steps) (k : List Item) (l : Local) (outward : Data → Moved) → IsFree l → ((e : Data) → Plain (outward e)) → Plain (excepted a ss k l outward)
excepted_plain (Err t) ss k l outward h out = out (error_map t)
excepted_plain (Ok ps) ss k l outward h out = goes_plain (Do ss ss ∷ Mark ∷ k) (enter false ps l) h

handled_plain : (s : Scene) (e : Data) (t : TryBody) (k : List Item) (l : Local) (outward : Data → Moved) → IsFree l → ((d : Data) → Plain (outward d)) → Plain (handled s e t k l outward)
handled_plain s e (try body p no_except) k l outward h out = out e
handled_plain s e (try body p (except x ss)) k l outward h out = excepted_plain (opened s l ((x, e) ∷ [])) ss k l outward h out

called_plain : (a : Answer Pairs) (ss : Steps) (k : List Item) (l : Local) (outward : Data → Moved) → IsFree l → ((e : Data) → Plain (outward e)) → Plain (called a ss k l outward)
called_plain (Err t) ss k l outward h out = out (error_map t)
called_plain (Ok ps) ss k l outward h out = goes_plain (Do ss ss ∷ k) (enter true ps l) h

asked_one_plain : (s : Scene) (e : Data) (xs : List Param) (ss : Steps) (k : List Item) (l : Local) (outward : Data → Moved) → IsFree l → ((d : Data) → Plain (outward d)) → Plain (asked_one s e xs ss k l outward)
asked_one_plain s e [] ss k l outward h out = tt
asked_one_plain s e (x ∷ []) ss k l outward h out =
    bool_case Plain (nat_le call_limit (calls_in k)) (outward (error_map RecursionError)) (called (opened s l ((x.name, e) ∷ [])) ss (Back None ∷ k) l outward)
    (λ _. out (error_map RecursionError)) (λ _. called_plain (opened s l ((x.name, e) ∷ [])) ss (Back None ∷ k) l outward h out)
asked_one_plain s e (x ∷ y ∷ xs) ss k l outward h out = tt

asks_plain : (s : Scene) (e : Data) (f : Option Flow) (k : List Item) (l : Local) (outward : Data → Moved) → IsFree l → ((d : Data) → Plain (outward d)) → Plain (asks s e f k l outward)
asks_plain s e None k l outward h out = tt
asks_plain s e (Some f) k l outward h out = asked_one_plain s e f.params f.steps k l outward h out

decided_plain : (s : Scene) (e : Data) (j : Judgement) (t : TryBody) (n : ℕ) (d : Option ℕ) (k : List Item) (l : Local) (outward : Data → Moved) → IsFree l → ((x : Data) → Plain (outward x)) → Plain (decided s e j t n d k l outward)
decided_plain s e (Says true) t n d k l outward h out = retried_plain s t n d k l h
decided_plain s e (Says false) t n d k l outward h out = handled_plain s e t k l outward h out
decided_plain s e (Asks f) t n d k l outward h out = asks_plain s e (flow s.program.flows f) (Judge t n d e ∷ k) l outward h out

pub unwind_plain : (s : Scene) (k : List Item) (l : Local) (e : Data) → IsFree l → Plain (unwind s k l e)
unwind_plain s [] l e h = tt
unwind_plain s (Mark ∷ k) l e h = unwind_plain s k (leave l) e h
unwind_plain s (Back r ∷ k) l e h = unwind_plain s k (leave l) e h
unwind_plain s (Try t n d ∷ k) l e h = decided_plain s e (judged (policy_of t) n e) t n d k l (unwind s k l) h (λ x. unwind_plain s k l x h)
unwind_plain s (i ∷ k) l e h = unwind_plain s k l e h

answered_plain : (s : Scene) (v : Data) (t : TryBody) (n : ℕ) (d : Option ℕ) (e : Data) (k : List Item) (l : Local) → IsFree l → Plain (answered s v t n d e k l)
answered_plain s (boolean true) t n d e k l h = retried_plain s t n d k l h
answered_plain s (boolean false) t n d e k l h = handled_plain s e t k l (unwind s k l) h (λ x. unwind_plain s k l x h)
answered_plain s v t n d e k l h = unwind_plain s k l _ h

-- ## Jumps and returns
abbrev FoundFree : Found → Type 0
FoundFree (Stands k m) = IsFree m
FoundFree f = Unit {0}

cut_at_free : (block ss : Steps) (k : List Item) (l : Local) (outward : Found) → IsFree l → FoundFree outward → FoundFree (cut_at block ss k l outward)
cut_at_free block no_steps k l outward h out = out
cut_at_free block (more s ss) k l outward h out = h

to_step_free : (x : Text) (k : List Item) (l : Local) → IsFree l → FoundFree (to_step x k l)
to_step_free x [] l h = tt
to_step_free x (Do block left ∷ k) l h = cut_at_free block (from_step x block) k l (to_step x k l) h (to_step_free x k l h)
to_step_free x (Mark ∷ k) l h = to_step_free x k (leave l) h
to_step_free x (Loop b w i ∷ k) l h = tt
to_step_free x (Back r ∷ k) l h = tt
to_step_free x (i ∷ k) l h = to_step_free x k l h

to_loop_free : (k : List Item) (l : Local) → IsFree l → FoundFree (to_loop k l)
to_loop_free [] l h = tt
to_loop_free (Loop b w i ∷ k) l h = h
to_loop_free (Mark ∷ k) l h = to_loop_free k (leave l) h
to_loop_free (Back r ∷ k) l h = tt
to_loop_free (i ∷ k) l h = to_loop_free k l h

to_back_free : (k : List Item) (l : Local) → IsFree l → FoundFree (to_back k l)
to_back_free [] l h = tt
to_back_free (Back r ∷ k) l h = h
to_back_free (Mark ∷ k) l h = to_back_free k (leave l) h
to_back_free (i ∷ k) l h = to_back_free k l h

-- ## Values and assignments
on_plain : {A : Type 0} (s : Scene) (k : List Item) (l : Local) (a : Answer A) (f : A → Moved) → IsFree l → ((x : A) → Plain (f x)) → Plain (on s k l a f)
on_plain s k l (Err t) f h g = unwind_plain s k l (error_map t) h
on_plain s k l (Ok x) f h g = g x

abbrev AssignedFree : Assigned → Type 0
AssignedFree (Done m) = IsFree m
AssignedFree a = Unit {0}

within_free : (s : Scene) (v : Data) (l : Local) → IsFree l → AssignedFree (within_limits s v l)
within_free s v l h = bool_case AssignedFree _ (Done l) (Refused _) (λ _. h) (λ _. tt)

put_own_free : (s : Scene) (x : Text) (n : ℕ) (a : Answer Data) (l : Local) → IsFree l → AssignedFree (put_own s x n a l)
put_own_free s x n (Err t) l h = tt
put_own_free s x n (Ok v) l h = within_free s v (record l { layers = put_layer n x v l.layers }) h

put_outside_free : (s : Scene) (x : Text) (n : ℕ) (shared : Bool) (a : Answer Data) (l : Local) → IsFree l → AssignedFree (put_outside s x n shared a l)
put_outside_free s x n shared (Err t) l h = tt
put_outside_free s x n false (Ok v) l h = tt
put_outside_free s x n true (Ok v) l h = within_free s v (record l { outer = put_outer n x v l.outer }) h

assign_at_free : (s : Scene) (x : Text) (ks : List Data) (v : Data) (w : Held) (l : Local) → IsFree l → AssignedFree (assign_at s x ks v w l)
assign_at_free s x ks v (Own n w) l h = put_own_free s x n (written ks w v) l h
assign_at_free s x ks v (Outside n shared w) l h = put_outside_free s x n (all_share x shared) (written ks w v) l h
assign_at_free s x ks v Nowhere l h = put_own_free s x 0 (made_new ks v) l h

on_assigned_plain : (s : Scene) (k : List Item) (l : Local) (a : Assigned) → IsFree l → AssignedFree a → Plain (on_assigned s k l a)
on_assigned_plain s k l (Done m) h g = goes_plain k m g
on_assigned_plain s k l (Refused t) h g = unwind_plain s k l (error_map t) h
on_assigned_plain s k l Undeclared h g = tt

pub gives_plain : (s : Scene) (r : Option Text) (v : Data) (k : List Item) (l : Local) → IsFree l → Plain (gives s r v k l)
gives_plain s None v k l h = goes_plain k l h
gives_plain s (Some x) v k l h = on_assigned_plain s k l (assign s x [] v l) h (assign_at_free s x [] v (held x l) l h)

pub handed_plain : (s : Scene) (r : Option Text) (e : Result Data Data) (k : List Item) (l : Local) → IsFree l → Plain (handed s r e k l)
handed_plain s r (Ok v) k l h = gives_plain s r v k l h
handed_plain s r (Err e) k l h = unwind_plain s k l e h

given_to_plain : (s : Scene) (r : Option Text) (v : Data) (k : List Item) (l : Local) → IsFree l → Plain (given_to s r v k l)
given_to_plain s r v [] l h = gives_plain s r v [] l h
given_to_plain s r v (Judge t n d e ∷ k) l h = answered_plain s v t n d e k l h
given_to_plain s r v (i ∷ k) l h = gives_plain s r v _ l h

returns_in_plain : (root : Root) (v : Data) (l : Local) → Plain (returns_in root v l)
returns_in_plain Main v l = tt
returns_in_plain Branch v l = tt
returns_in_plain Iteration v l = tt

returned_plain : (s : Scene) (v : Data) (l : Local) (f : Found) → FoundFree f → Plain (returned s v l f)
returned_plain s v l (Stands [] m) h = tt
returned_plain s v l (Stands (Back r ∷ k) m) h = given_to_plain s r v k (leave m) h
returned_plain s v l (Stands (i ∷ k) m) h = tt
returned_plain s v l AtEnd h = returns_in_plain s.root v l
returned_plain s v l NotFound h = tt

returns_plain : (s : Scene) (v : Data) (k : List Item) (l : Local) → IsFree l → Plain (returns s v k l)
returns_plain s v k l h = returned_plain s v l (to_back k l) (to_back_free k l h)

continues_plain : (s : Scene) (l : Local) (f : Found) → IsFree l → FoundFree f → Plain (continues s l f)
continues_plain s l (Stands k m) h g = goes_plain k m g
continues_plain s l AtEnd h g = at s.root
  where
    at : (root : Root) → Plain (elim root [ Iteration ↦ goes [] l | _ ↦ Breaks BreakOutsideLoop ])
    at Main = tt
    at Branch = tt
    at Iteration = goes_plain [] l h
continues_plain s l NotFound h g = tt

breaks_plain : (f : Found) → FoundFree f → Plain (breaks f)
breaks_plain (Stands [] m) h = tt
breaks_plain (Stands (i ∷ k) m) h = goes_plain k m h
breaks_plain AtEnd h = tt
breaks_plain NotFound h = tt

jumps_to_plain : (s : Scene) (x : Text) (f : Found) → FoundFree f → Plain (jumps_to s x f)
jumps_to_plain s x (Stands k m) h = goes_plain k m h
jumps_to_plain s x AtEnd h = tt
jumps_to_plain s x NotFound h = tt

jumps_plain : (s : Scene) (x : Text) (k : List Item) (l : Local) → IsFree l → Plain (jumps s x k l)
jumps_plain s x k l h =
    bool_case Plain (bytes_eq x (codes "end")) (returns s null k l)
    (if bytes_eq x (codes "continue") then continues s l (to_loop k l) else (if bytes_eq x (codes "break") then breaks (to_loop k l) else jumps_to s x (to_step x k l)))
    (λ _. returns_plain s null k l h)
    (λ _. bool_case Plain (bytes_eq x (codes "continue")) (continues s l (to_loop k l)) (if bytes_eq x (codes "break") then breaks (to_loop k l) else jumps_to s x (to_step x k l))
    (λ _. continues_plain s l (to_loop k l) h (to_loop_free k l h))
    (λ _. bool_case Plain (bytes_eq x (codes "break")) (breaks (to_loop k l)) (jumps_to s x (to_step x k l))
    (λ _. breaks_plain (to_loop k l) (to_loop_free k l h))
    (λ _. jumps_to_plain s x (to_step x k l) (to_step_free x k l h))))

-- ## Calls
calls_with_plain : (s : Scene) (f : Flow) (r : Option Text) (xs : Option (List (Text × Data))) (k : List Item) (l : Local) → IsFree l → Plain (calls_with s f r xs k l)
calls_with_plain s f r None k l h = tt
calls_with_plain s f r (Some xs) k l h =
    bool_case Plain (nat_le call_limit (calls_in k)) (raises s k l (error_map RecursionError)) (on s k l (opened s l xs) λ ps. goes (Do f.steps f.steps ∷ Back r ∷ k) (enter true ps l))
    (λ _. unwind_plain s k l (error_map RecursionError) h)
    (λ _. on_plain s k l (opened s l xs) (λ ps. goes (Do f.steps f.steps ∷ Back r ∷ k) (enter true ps l)) h (λ ps. goes_plain (Do f.steps f.steps ∷ Back r ∷ k) (enter true ps l) h))

evaluates_plain : (s : Scene) (r : Option Text) (f : Func) (vs : List Data) (k : List Item) (l : Local) → IsFree l → Plain (evaluates s r f vs k l)
evaluates_plain s r f vs k l h = on_plain s k l (apply (view s l) f vs >>= kept) (λ v. gives s r v k l) h (λ v. gives_plain s r v k l h)

sleeps_plain : (s : Scene) (r : Option Text) (due : Answer ℕ) (k : List Item) (l : Local) → IsFree l → Plain (sleeps s r due k l)
sleeps_plain s r due k l h = on_plain s k l due (λ d. waits (Sleep d r) k l) h (λ d. tt)

awaits_plain : (s : Scene) (r : Option Text) (n : ℕ × ℕ) (v : Option Visitor) (k : List Item) (l : Local) → IsFree l → Plain (awaits s r n v k l)
awaits_plain s r n None k l h = tt
awaits_plain s r n (Some v) k l h = handed_plain s r (visit_result v) k l h

calls_special_plain : (s : Scene) (r : Option Text) (x : Special) (args : Pairs) (k : List Item) (l : Local) → IsFree l → Plain (calls_special s r x args k l)
calls_special_plain s r SysLog args k l h = on_plain s k l (log_entry args >>= within_log s) (λ e. Does (Logs e.severity e.value) (gives s r null k l)) h (λ e. gives_plain s r null k l h)
calls_special_plain s r SysSleep args k l h = sleeps_plain s r _ k l h
calls_special_plain s r SysSleepUntil args k l h = sleeps_plain s r _ k l h
calls_special_plain s r (HttpCall m) args k l h = tt
calls_special_plain s r CreateEndpoint args k l h =
    on_plain s k l _ (λ m. on s k l (kept (endpoint_value s)) λ v. Does (Creates m) (gives s r v k l)) h
    (λ m. on_plain s k l (kept (endpoint_value s)) (λ v. Does (Creates m) (gives s r v k l)) h (λ v. gives_plain s r v k l h))
calls_special_plain s r AwaitCallback args k l h = on_plain s k l (awaited s args) (λ n. awaits s r n (s.oldest n.0) k l) h (λ n. awaits_plain s r n (s.oldest n.0) k l h)

calls_listed_plain : (s : Scene) (r : Option Text) (e : Option Listing) (g : Option SpecialListing) (args : Pairs) (k : List Item) (l : Local) → IsFree l → Plain (calls_listed s r e g args k l)
calls_listed_plain s r (Some e) g args k l h =
    bool_case Plain (takes e.signature (keys args)) (evaluates s r e.func (in_order e.signature args) k l) (Breaks _) (λ _. evaluates_plain s r e.func (in_order e.signature args) k l h) (λ _. tt)
calls_listed_plain s r None (Some g) args k l h =
    bool_case Plain (call_takes g.name g.signature (keys args)) (calls_special s r g.special args k l) (Breaks _) (λ _. calls_special_plain s r g.special args k l h) (λ _. tt)
calls_listed_plain s r None None args k l h = tt

calls_named_plain : (s : Scene) (r : Option Text) (w : Option Flow) (x : Text) (args : Pairs) (k : List Item) (l : Local) → IsFree l → Plain (calls_named s r w x args k l)
calls_named_plain s r (Some w) x args k l h = calls_with_plain s w r (bindings w.params args) k l h
calls_named_plain s r None x args k l h = calls_listed_plain s r (func_named x) (special_named x) args k l h

calls_plain : (s : Scene) (f : CallBody) (k : List Item) (l : Local) → IsFree l → Plain (calls s f k l)
calls_plain s f k l h =
    on_plain s k l (fill_fields f.args (view s l)) (λ args. calls_named s f.result (flow s.program.flows f.name) f.name args k l) h
    (λ args. calls_named_plain s f.result (flow s.program.flows f.name) f.name args k l h)

-- ## Moves
assigns_plain : (s : Scene) (e : Entry) (k : List Item) (l : Local) → IsFree l → Plain (assigns s e k l)
assigns_plain s e k l h =
    on_plain s k l (fill e.value (view s l)) (λ v. on s k l (eval_all e.target.places (view s l)) λ ks. on_assigned s k l (assign s e.target.name ks v l)) h
    (λ v. on_plain s k l (eval_all e.target.places (view s l)) (λ ks. on_assigned s k l (assign s e.target.name ks v l)) h
    (λ ks. on_assigned_plain s k l (assign s e.target.name ks v l) h (assign_at_free s e.target.name ks v (held e.target.name l) l h)))

forks_plain : (s : Scene) (body : ParallelBody) (k : List Item) (l : Local) → IsFree l → Plain (forks s body k l)
forks_plain s body k l h =
    bool_case Plain (nat_le (limits s.facts.rules).nesting s.nesting) (raises s k l (error_map ParallelNestingError)) (on s k l (work (view s l) body) λ w. goes (Item.Join body w 0 [] [] ∷ k) l)
    (λ _. unwind_plain s k l (error_map ParallelNestingError) h)
    (λ _. on_plain s k l (work (view s l) body) (λ w. goes (Item.Join body w 0 [] [] ∷ k) l) h (λ w. goes_plain (Item.Join body w 0 [] [] ∷ k) l h))

joins_plain : (s : Scene) (body : ParallelBody) (es : List (ℕ × Data)) (k : List Item) (l : Local) → IsFree l → Plain (joins s body es k l)
joins_plain s body [] k l h = goes_plain k l h
joins_plain s body (e ∷ es) k l h = unwind_plain s k l (join_error body (e ∷ es)) h

turns_plain : (s : Scene) (b : LoopBody) (n : Option (Data × Left)) (i : ℕ) (k : List Item) (l : Local) → IsFree l → Plain (turns s b n i k l)
turns_plain s b None i k l h = goes_plain k l h
turns_plain s b (Some n) i k l h =
    on_plain s k l (opened s l (loop_names b n.0 i)) (λ ps. goes (Do (loop_steps b) (loop_steps b) ∷ Mark ∷ Loop b n.1 (suc i) ∷ k) (enter false ps l)) h
    (λ ps. goes_plain (Do (loop_steps b) (loop_steps b) ∷ Mark ∷ Loop b n.1 (suc i) ∷ k) (enter false ps l) h)

performs_plain : (s : Scene) (body : Body) (k : List Item) (l : Local) → IsFree l → Plain (performs s body k l)
performs_plain s Body.Nothing k l h = goes_plain k l h
performs_plain s (Body.Assign []) k l h = goes_plain k l h
performs_plain s (Body.Assign (e ∷ es)) k l h = assigns_plain s e (Entries es ∷ k) l h
performs_plain s (Body.Call f) k l h = calls_plain s f k l h
performs_plain s (Body.Switch arms) k l h = on_plain s k l (chosen (view s l) arms) (λ a. goes (in_arm a k) l) h (λ a. goes_plain (in_arm a k) l h)
performs_plain s (Body.For (loop x i o ss)) k l h = on_plain s k l (over (view s l) o) (λ left. goes (Loop (loop x i o ss) left 0 ∷ k) l) h (λ left. goes_plain (Loop (loop x i o ss) left 0 ∷ k) l h)
performs_plain s (Body.Parallel body) k l h = forks_plain s body k l h
performs_plain s (Body.Block ss) k l h = goes_plain (Do ss ss ∷ k) l h
performs_plain s (Body.Try (try body policy x)) k l h = goes_plain (entered body ∷ Try (try body policy x) 0 None ∷ k) l h
performs_plain s (Body.Raise t) k l h = on_plain s k l (fill t (view s l) >>= raised) (λ v. raises s k l v) h (λ v. unwind_plain s k l v h)
performs_plain s (Body.Return t) k l h = on_plain s k l (fill t (view s l)) (λ v. returns s v k l) h (λ v. returns_plain s v k l h)

steps_on_plain : (s : Scene) (body : Body) (next : Option Text) (k : List Item) (l : Local) → IsFree l → Plain (steps_on s body next k l)
steps_on_plain s Body.Nothing (Some x) k l h = jumps_plain s x k l h
steps_on_plain s Body.Nothing None k l h = goes_plain k l h
steps_on_plain s body next k l h = performs_plain s body (then_item next k) l h

moves_plain : (s : Scene) (k : List Item) (l : Local) → IsFree l → Plain (moves s k l)
moves_plain s [] l h = tt
moves_plain s (Do block no_steps ∷ k) l h = tt
moves_plain s (Do block (more (step x body next) left) ∷ k) l h = steps_on_plain s body next (Do block left ∷ k) l h
moves_plain s (Entries [] ∷ k) l h = tt
moves_plain s (Entries (e ∷ es) ∷ k) l h = assigns_plain s e (Entries es ∷ k) l h
moves_plain s (Then x ∷ k) l h = jumps_plain s x k l h
moves_plain s (Loop b left i ∷ k) l h = turns_plain s b (next_of left) i k l h
moves_plain s (Back r ∷ k) l h = returns_plain s null (Back r ∷ k) l h
moves_plain s (Item.Join body left n [] es ∷ k) l h = bool_case Plain (is_empty left) (joins s body es k l) Not (λ _. joins_plain s body es k l h) (λ _. tt)
moves_plain s (Item.Join body left n (r ∷ rs) es ∷ k) l h = tt
moves_plain s (Try t n d ∷ k) l h = tt
moves_plain s (Judge t n d e ∷ k) l h = tt
moves_plain s (Mark ∷ k) l h = tt

pub move_plain : (s : Scene) (l : Local) → IsFree l → Plain (move s l)
move_plain s l h = moves_plain s l.control l h

-- ## What a task waited for
pub resumed_plain : (s : Scene) (r : Option Text) (e : Result Data Data) (l : Local) → Plain (resumed s r e l)
resumed_plain s r e l = handed_plain s r e l.control (awake l) tt

retries_plain : (k : List Item) (l : Local) → IsFree l → Plain (retries k l)
retries_plain [] l h = tt
retries_plain (Try (try body policy x) n d ∷ k) l h = goes_plain (entered body ∷ Try (try body policy x) n d ∷ k) l h
retries_plain (i ∷ k) l h = tt

due_by_plain : (s : Scene) (w : Wait) (l : Local) → Plain (due_by s w l)
due_by_plain s Awake l = tt
due_by_plain s (Sleep t r) l = resumed_plain s r (Ok null) l
due_by_plain s (Delay t) l = retries_plain l.control (awake l) tt
due_by_plain s (Calling n r) l = resumed_plain s r timeout_error l
due_by_plain s (Await n t r) l = resumed_plain s r timeout_error l

pub due_plain : (s : Scene) (l : Local) → Plain (due s l)
due_plain s l = due_by_plain s l.wait l

-- ## Issues
-- a request is sent that is made of what the call asks and of its number, and the task waits for it
pub record SendsOne (s : Scene) (m : Moved) : Type 0 where
  pub request : Request
  pub due : ℕ
  pub local : Local
  pub result : Option Text
  pub is : m ≡ Does (Sends request due) (Goes local)
  pub wait : local.wait ≡ Calling (suc s.calls) result
  pub asks : Asked
  pub made : http_request.request s.facts.routes asks s.facts.id (suc s.calls) ≡ Ok request

abbrev pub Issued : Scene → Moved → Type 0
Issued s m = Plain m ⊎ SendsOne s m

on_issued : {A : Type 0} (s : Scene) (k : List Item) (l : Local) (a : Answer A) (f : A → Moved) → IsFree l → ((x : A) → Issued s (f x)) → Issued s (on s k l a f)
on_issued s k l (Err t) f h g = inl (unwind_plain s k l (error_map t) h)
on_issued s k l (Ok x) f h g = g x

requests_made : (s : Scene) (f : CallBody) (k : List Item) (l : Local) (a : Asked) (r : Answer Request) → IsFree l → request s.facts.routes a s.facts.id (suc s.calls) ≡ r → Issued s (on s k l r (sends s f.result a.timeout k l))
requests_made s f k l a (Err t) h is = inl (unwind_plain s k l (error_map t) h)
requests_made s f k l a (Ok q) h is = inr (record { request = q; due = _; local = _; result = f.result; is = refl; wait = refl; asks = a; made = is })

requests_issued : (s : Scene) (f : CallBody) (m : Option Method) (k : List Item) (l : Local) (args : Pairs) → IsFree l → Issued s (requests s f m k l args)
requests_issued s f m k l args h =
    on_issued s k l (asked m args) (λ a. on s k l (request s.facts.routes a s.facts.id (suc s.calls)) (sends s f.result a.timeout k l)) h
    (λ a. requests_made s f k l a (request s.facts.routes a s.facts.id (suc s.calls)) h refl)

issues_call_issued : (s : Scene) (f : CallBody) (m : Option (Option Method)) (k : List Item) (l : Local) → IsFree l → Issued s (issues_call s f m k l)
issues_call_issued s f None k l h = inl tt
issues_call_issued s f (Some m) k l h =
    bool_case (Issued s) (fits_call f) (on s k l (fill_fields f.args (view s l)) (requests s f m k l)) (Breaks _)
    (λ _. on_issued s k l (fill_fields f.args (view s l)) (requests s f m k l) h (λ args. requests_issued s f m k l args h))
    (λ _. inl tt)

body_issued : (s : Scene) (x : Text) (body : Body) (next : Option Text) (block left : Steps) (k : List Item) (l : Local) → IsFree l → Issued s (issues s (Do block (more (step x body next) left) ∷ k) l)
body_issued s x (Body.Call f) next block left k l h = issues_call_issued s f (http_method (special_named f.name)) (then_item next (Do block left ∷ k)) l h
body_issued s x body next block left k l h = inl tt

issues_issued : (s : Scene) (k : List Item) (l : Local) → IsFree l → Issued s (issues s k l)
issues_issued s [] l h = inl tt
issues_issued s (Do block no_steps ∷ k) l h = inl tt
issues_issued s (Do block (more (step x body next) left) ∷ k) l h = body_issued s x body next block left k l h
issues_issued s (i ∷ k) l h = inl tt

pub issue_issued : (s : Scene) (l : Local) → IsFree l → Issued s (issue s l)
issue_issued s l h = issues_issued s l.control l h
