-- What a task holds stays within the limits through each of its moves: the nesting of its values, the total of what it sees, the values
-- that it logs, and how deep its parallel steps stand in each other.
--     Rest, Held     of its layers, and of its control
--     MovedWithin    of what a move leads to
use Rattle.std.specs.Prelude.{◌≡◌, ℕ, zero, suc, ◌+◌, ◌≤◌, ◌&&◌, Bool, true, false, drop, List, [], ◌∷◌, Some, None, Ok, Err, Option, Result, if◌then◌else◌, nat_le, pos, codes, bytes_eq, unwrap_or, option_map, ℤ, ◌+ℤ◌, int_le, int_lt}
use Rattle.std.proofs.Common.{arith}
use Rattle.std.proofs.lemmas.Bool.{leb-true, leb-false}
use mathlib.Core.Path.{refl, ap, ◌∙◌}
use Rattle.wf_ast.specs.Apply.{View, apply}
use Rattle.wf_ast.specs.Eval.{whole, eval_all, fill, fill_fields}
use Rattle.wf_ast.specs.Flows.{flow_in, flow}
use Rattle.wf_ast.specs.Func.{Special, SysLog, SysSleep, SysSleepUntil, HttpCall, CreateEndpoint, AwaitCallback, Listing, SpecialListing, func_named, special_named, takes, call_takes, in_order}
use Rattle.wf_ast.specs.Tree.{CallBody, Entry, Over, InList, InRange, TryBody, try, no_except, except, Body, step, Steps, no_steps, more, LoopBody, loop, ParallelBody, parallel, OfBranches, OfLoop, Param, Flow}
use Rattle.wf_fits.proofs.Values.{error_shallow, ResultShallow, nested_shallow, visit_shallow, put_shallow, get_shallow, first_shallow, list_shallow, fill_shallow, fields_shallow}
use Rattle.wf_fits.specs.Limits.{Shallow, OptionShallow, PairsShallow, LeftShallow, WorkShallow, ErrorsShallow, LayersShallow, ParamsShallow, FlowsShallow}
use Rattle.wf_model.specs.Calls.{value_for, given, bindings, all_params, calls_with, evaluates, sleeps, Logged, logged_any, logged_value, severity_text, log_entry, within_log, logs, callback_method, listening, endpoint_value, awaited, awaits, calls_special, calls_listed, calls_named, calls, sends, http_method, requests, fits_call, issues_call, sleep_due, until_due}
use Rattle.wf_model.specs.Config.{Layer, Left, OfList, OfRange, ValuesLeft, Item, Do, Entries, Then, Loop, Try, Judge, Mark, Back, Join, Wait, Awake, Sleep, Delay, Calling, Await, call_limit, log_limit, limits, next_of, range_left, counted_left, is_empty}
use Rattle.wf_model.specs.Layers.{Held, Own, Outside, Nowhere, held, view, bound, opened, enter, put_layer, put_outer, all_share, Assigned, Done, Refused, Undeclared, within_limits, put_own, put_outside, assign_at, assign, written, made_new}
use Rattle.wf_model.specs.Leave.{raises, on, on_assigned, gives, handed, given_to, returns_in, returned, returns, continues, breaks, jumps_to, jumps}
use Rattle.wf_model.specs.Local.{Outer, Local, Root, Main, Branch, Iteration, Scene, End, Gives, Fails, Sends, Creates, Takes, Logs, Moved, Goes, Ends, Does, Breaks, Not, layers_total, outers_total, total, leave, settle, ended, goes, waits}
use Rattle.wf_model.specs.Move.{then_item, entered, assigns, chosen, arm_items, in_arm, list_left, over, work, forks, error_list, join_error, joins, raised, loop_names, loop_steps, turns, performs, steps_on, moves, move, issues, issue, awake, resumed, retries, timeout_error, due_by, due}
use Rattle.wf_model.specs.Unwind.{calls_in, Judgement, Says, Asks, judged, retried, excepted, handled, called, asked_one, asks, decided, policy_of, unwind, answered, from_step, Found, Stands, AtEnd, NotFound, cut_at, to_step, to_loop, to_back}
use Rattle.wf_never_wrong.proofs.Arguments.{Each, Any, each_any, each_bind, each_with}
use Rattle.wf_value.specs.Data.{Data, null, boolean, text, list, map, Pairs, no_pairs, items_of, depth, size, pairs_size}
use Rattle.wf_value.specs.Errors.{Answer, ◌>>=◌, or_error, kept, error_map, error_with, tag_message}
use Rattle.wf_value.specs.Events.{Method, Visitor, severity_named}
use Rattle.wf_value.specs.HttpRequest.{Request, asked, as_text}
use Rattle.wf_value.specs.HttpText.{visit_result}
use Rattle.wf_value.specs.HttpUrl.{first_of_two}
use Rattle.wf_value.specs.Pairs.{Text, get, put}
use Rattle.wf_value.specs.declared.Tag.TheVariants.{RecursionError, TypeError, ValueError, ResourceLimitError, ParallelNestingError, TimeoutError, UnhandledBranchError}

-- ## Layers
abbrev pub OutersShallow : List Outer → Type 0
OutersShallow [] = Unit {0}
OutersShallow (o ∷ os) = PairsShallow o.layer.vars × OutersShallow os

-- where the layers outside stand
abbrev pub places_of : List Outer → List (ℕ × ℕ)
places_of [] = []
places_of (o ∷ os) = (o.task, o.above) ∷ places_of os

abbrev pub NamesShallow : List (Text × Data) → Type 0
NamesShallow [] = Unit {0}
NamesShallow (x ∷ xs) = Shallow x.1 × NamesShallow xs

put_layer_shallow : (n : ℕ) (x : Text) (v : Data) (ls : List Layer) → Shallow v → LayersShallow ls → LayersShallow (put_layer n x v ls)
put_layer_shallow n x v [] s h = tt
put_layer_shallow zero x v (l ∷ ls) s h = (put_shallow x v l.vars s h.0, h.1)
put_layer_shallow (suc n) x v (l ∷ ls) s h = (h.0, put_layer_shallow n x v ls s h.1)

put_outer_shallow : (n : ℕ) (x : Text) (v : Data) (os : List Outer) → Shallow v → OutersShallow os → OutersShallow (put_outer n x v os)
put_outer_shallow n x v [] s h = tt
put_outer_shallow zero x v (o ∷ os) s h = (put_shallow x v o.layer.vars s h.0, h.1)
put_outer_shallow (suc n) x v (o ∷ os) s h = (h.0, put_outer_shallow n x v os s h.1)

put_outer_places : (n : ℕ) (x : Text) (v : Data) (os : List Outer) → places_of (put_outer n x v os) ≡ places_of os
put_outer_places n x v [] = refl
put_outer_places zero x v (o ∷ os) = refl
put_outer_places (suc n) x v (o ∷ os) = ap (λ ps. (o.task, o.above) ∷ ps) (put_outer_places n x v os)

dropped : (ls : List Layer) → LayersShallow ls → LayersShallow (drop 1 ls)
dropped [] h = h
dropped (l ∷ ls) h = h.1

dropped_total : (ls : List Layer) → layers_total (drop 1 ls) ≤ layers_total ls
dropped_total [] = omega arith
dropped_total (l ∷ ls) = omega arith

pub bound_within : (limit rest : ℕ) (xs : List (Text × Data)) (ps : Pairs) → NamesShallow xs → PairsShallow ps → rest + pairs_size ps ≤ limit → Each (λ qs. PairsShallow qs × (rest + pairs_size qs ≤ limit)) (bound limit rest xs ps)
bound_within limit rest [] ps h p l = (p, l)
bound_within limit rest (x ∷ xs) ps h p l = by (nat_le (rest + pairs_size (put x.0 x.1 ps)) limit) refl (λ e. bound_within limit rest xs (put x.0 x.1 ps) h.1 (put_shallow x.0 x.1 ps h.0 p) (leb-true (rest + pairs_size (put x.0 x.1 ps)) limit e))
  where
    by : (q : Bool) → nat_le (rest + pairs_size (put x.0 x.1 ps)) limit ≡ q → (nat_le (rest + pairs_size (put x.0 x.1 ps)) limit ≡ true → Each (λ qs. PairsShallow qs × (rest + pairs_size qs ≤ limit)) (bound limit rest xs (put x.0 x.1 ps)))
        → Each (λ qs. PairsShallow qs × (rest + pairs_size qs ≤ limit)) (if q then bound limit rest xs (put x.0 x.1 ps) else Err ResourceLimitError)
    by true e f = f e
    by false e f = tt

-- ## Arguments
value_for_shallow : (x : Param) (args : Pairs) → OptionShallow x.default → PairsShallow args → OptionShallow (value_for x args)
value_for_shallow x args d h = first_shallow (get x.name args) x.default (get_shallow x.name args h) d

abbrev MaybeNames : Option (List (Text × Data)) → Type 0
MaybeNames None = Unit {0}
MaybeNames (Some xs) = NamesShallow xs

given_one : (x : Text) (o : Option Data) (r : Option (List (Text × Data))) → OptionShallow o → MaybeNames r → MaybeNames (elim o [ None ↦ None | Some v ↦ option_map (λ rest. (x, v) ∷ rest) r ])
given_one x None r h k = tt
given_one x (Some v) None h k = tt
given_one x (Some v) (Some xs) h k = (h, k)

given_shallow : (xs : List Param) (args : Pairs) → ParamsShallow xs → PairsShallow args → MaybeNames (given xs args)
given_shallow [] args p h = tt
given_shallow (x ∷ xs) args p h = given_one x.name (value_for x args) (given xs args) (value_for_shallow x args p.0 h) (given_shallow xs args p.1 h)

bindings_shallow : (xs : List Param) (args : Pairs) → ParamsShallow xs → PairsShallow args → MaybeNames (bindings xs args)
bindings_shallow xs args p h = by (all_params args xs)
  where
    by : (q : Bool) → MaybeNames (if q then given xs args else None)
    by true = given_shallow xs args p h
    by false = tt

abbrev MaybeFlow : Option Flow → Type 0
MaybeFlow None = Unit {0}
MaybeFlow (Some f) = ParamsShallow f.params

maybe_either : (q : Bool) (o r : Option Flow) → MaybeFlow o → MaybeFlow r → MaybeFlow (if q then o else r)
maybe_either true o r x y = x
maybe_either false o r x y = y

flow_in_shallow : (gs : List Flow) (x : Text) → FlowsShallow gs → MaybeFlow (flow_in gs x)
flow_in_shallow [] x h = tt
flow_in_shallow (g ∷ gs) x h = maybe_either (bytes_eq g.name x) (Some g) (flow_in gs x) h.0 (flow_in_shallow gs x h.1)

-- ## Loops
list_left_shallow : (v : Data) → Shallow v → Each LeftShallow (list_left v)
list_left_shallow (list vs) h = list_shallow vs h
list_left_shallow v h = tt

range_shallow : (m n : ℤ) → LeftShallow (range_left m n)
range_shallow m n = by (int_le m n)
  where
    by : (q : Bool) → LeftShallow (if q then OfRange m n else OfList [])
    by true = tt
    by false = tt

over_shallow : (v : View) (o : Over) → Each LeftShallow (over v o)
over_shallow v (InList t) = each_with Shallow LeftShallow (fill t v) list_left (fill_shallow t v) list_left_shallow
over_shallow v (InRange t u) =
    each_bind LeftShallow (fill t v) _ λ x. each_bind LeftShallow (fill u v) _ λ y. each_bind LeftShallow (whole x) _ λ m. each_bind LeftShallow (whole y) _ λ n. range_shallow m n

counted_shallow : (w : Left) → LeftShallow w → LeftShallow (counted_left w)
counted_shallow (OfList vs) h = h
counted_shallow (OfRange a b) h = tt

abbrev pub NextShallow : Option (Data × Left) → Type 0
NextShallow None = Unit {0}
NextShallow (Some n) = Shallow n.0 × LeftShallow n.1

pub next_shallow : (w : Left) → LeftShallow w → NextShallow (next_of w)
next_shallow (OfList []) h = tt
next_shallow (OfList (v ∷ vs)) h = h
next_shallow (OfRange a b) h = (omega arith, by (int_lt a b))
  where
    by : (q : Bool) → LeftShallow (if q then OfRange (a +ℤ pos 1) b else OfList [])
    by true = tt
    by false = tt

pub names_shallow : (b : LoopBody) (v : Data) (i : ℕ) → Shallow v → NamesShallow (loop_names b v i)
names_shallow (loop x None o ss) v i h = (h, tt)
names_shallow (loop x (Some y) o ss) v i h = (h, (omega arith, tt))

-- ## A task
module _ (s : Scene) (at : List (ℕ × ℕ)) (shallow : FlowsShallow s.program.flows) (Deep : Type 0) (deep : suc s.nesting ≤ (limits s.facts.rules).nesting → Deep) where
  abbrev most : ℕ
  most = (limits s.facts.rules).variables

  -- its layers and those that it sees
  pub record Rest (l : Local) : Type 0 where
    pub layers : LayersShallow l.layers
    pub outers : OutersShallow l.outer
    pub total : total s l ≤ most
    pub places : places_of l.outer ≡ at

  -- its control
  abbrev pub Holds : List Item → Type 0
  Holds [] = Unit {0}
  Holds (Loop l w i ∷ k) = LeftShallow w × Holds k
  Holds (Judge t n d e ∷ k) = Shallow e × Holds k
  Holds (Join b w n r es ∷ k) = WorkShallow w × ErrorsShallow es × Deep × Holds k
  Holds (i ∷ k) = Holds k

  abbrev pub EndShallow : End → Type 0
  EndShallow (Gives v) = Shallow v
  EndShallow (Fails e) = Shallow e

  -- what an ended task leaves
  pub record Leaves (l : Local) : Type 0 where
    pub outers : OutersShallow l.outer
    pub total : outers_total l.outer + s.others ≤ most
    pub places : places_of l.outer ≡ at

  -- with so much logged before
  abbrev pub MovedWithin : ℕ → Moved → Type 0
  MovedWithin n (Goes l) = Holds l.control × Rest l
  MovedWithin n (Ends e l) = EndShallow e × Leaves l
  MovedWithin n (Does (Logs severity v) m) = Shallow v × (n + size v ≤ log_limit) × MovedWithin (n + size v) m
  MovedWithin n (Does (Sends q d) m) = MovedWithin n m
  MovedWithin n (Does (Creates x) m) = MovedWithin n m
  MovedWithin n (Does (Takes i) m) = MovedWithin n m
  MovedWithin n (Breaks kind) = Unit {0}
  MovedWithin n Not = Unit {0}

  left_rest : (l : Local) → Rest l → Rest (leave l)
  left_rest l r = record { layers = dropped l.layers r.layers; outers = r.outers; total = by (layers_total (drop 1 l.layers)) (dropped_total l.layers); places = r.places }
    where
      by : (a : ℕ) → a ≤ layers_total l.layers → a + outers_total l.outer + s.others ≤ most
      by a le = let t = r.total in omega (arith, le, t)

  ended_rest : (l : Local) → Rest l → Leaves l
  ended_rest l r = record { outers = r.outers; total = let t = r.total in omega (arith, t); places = r.places }

  abbrev IsOpened : Local → Pairs → Type 0
  IsOpened l qs = PairsShallow qs × (total s l + pairs_size qs ≤ most)

  opened_within : (l : Local) (xs : List (Text × Data)) → Rest l → NamesShallow xs → Each (IsOpened l) (opened s l xs)
  opened_within l xs r h = bound_within most (total s l) xs no_pairs h tt (let t = r.total in omega (arith, t))

  entered_rest : (c : Bool) (qs : Pairs) (l : Local) → IsOpened l qs → Rest l → Rest (enter c qs l)
  entered_rest c qs l o r = record { layers = (o.0, r.layers); outers = r.outers; total = let t = o.1 in omega (arith, t); places = r.places }

  abbrev Kept : Local → Type 0
  Kept l = Holds l.control × Rest l

  at_end : (k : List Item) (l : Local) → Holds k → Rest l → Kept (record l { control = k })
  at_end k l h r = (h, record { layers = r.layers; outers = r.outers; total = r.total; places = r.places })

  settle_within : (k : List Item) (l : Local) → Holds k → Rest l → Kept (settle k l)
  settle_within [] l h r = at_end [] l h r
  settle_within (Do block no_steps ∷ k) l h r = settle_within k l h r
  settle_within (Do block (more x xs) ∷ k) l h r = at_end (Do block (more x xs) ∷ k) l h r
  settle_within (Entries [] ∷ k) l h r = settle_within k l h r
  settle_within (Entries (e ∷ es) ∷ k) l h r = at_end (Entries (e ∷ es) ∷ k) l h r
  settle_within (Then x ∷ k) l h r = at_end (Then x ∷ k) l h r
  settle_within (Loop b w i ∷ k) l h r = at_end (Loop b w i ∷ k) l h r
  settle_within (Try t n d ∷ k) l h r = settle_within k l h r
  settle_within (Judge t n d e ∷ k) l h r = at_end (Judge t n d e ∷ k) l h r
  settle_within (Mark ∷ k) l h r = settle_within k (leave l) h (left_rest l r)
  settle_within (Back x ∷ k) l h r = at_end (Back x ∷ k) l h r
  settle_within (Join b w n x es ∷ k) l h r = at_end (Join b w n x es ∷ k) l h r

  abbrev pub FoundWithin : Found → Type 0
  FoundWithin (Stands k l) = Holds k × Rest l
  FoundWithin AtEnd = Unit {0}
  FoundWithin NotFound = Unit {0}

  null_shallow : Shallow null
  null_shallow = omega arith

  module _ (n : ℕ) where
    abbrev Fine : Moved → Type 0
    Fine = MovedWithin n

    ended_within : (k : List Item) (l : Local) → Kept l → Fine (ended k l)
    ended_within [] l g = (null_shallow, ended_rest l g.1)
    ended_within (i ∷ k) l g = g

    pub goes_within : (k : List Item) (l : Local) → Holds k → Rest l → Fine (goes k l)
    goes_within k l h r = ended_within (settle k l).control (settle k l) (settle_within k l h r)

    pub waits_within : (w : Wait) (k : List Item) (l : Local) → Holds k → Rest l → Fine (waits w k l)
    waits_within w k l h r = (h, record { layers = r.layers; outers = r.outers; total = r.total; places = r.places })

    either : (q : Bool) (a b : Moved) → Fine a → Fine b → Fine (if q then a else b)
    either true a b x y = x
    either false a b x y = y

    -- ## Errors
    retried_within : (t : TryBody) (m : ℕ) (d : Option ℕ) (k : List Item) (l : Local) → Holds k → Rest l → Fine (retried s t m d k l)
    retried_within (try body None x) m d k l h r = goes_within k l h r
    retried_within (try body (Some p) x) m d k l h r = waits_within (Delay _) (Try (try body (Some p) x) (suc m) _ ∷ k) l h r

    excepted_within : (a : Answer Pairs) (ss : Steps) (k : List Item) (l : Local) (outward : Data → Moved) → Holds k → Rest l → Each (IsOpened l) a → ((e : Data) → Shallow e → Fine (outward e)) → Fine (excepted a ss k l outward)
    excepted_within (Err t) ss k l outward h r o out = out (error_map t) (error_shallow t)
    excepted_within (Ok qs) ss k l outward h r o out = goes_within (Do ss ss ∷ Mark ∷ k) (enter false qs l) h (entered_rest false qs l o r)

    handled_within : (e : Data) (t : TryBody) (k : List Item) (l : Local) (outward : Data → Moved) → Shallow e → Holds k → Rest l → ((e : Data) → Shallow e → Fine (outward e)) → Fine (handled s e t k l outward)
    handled_within e (try body p no_except) k l outward v h r out = out e v
    handled_within e (try body p (except x ss)) k l outward v h r out = excepted_within (opened s l ((x, e) ∷ [])) ss k l outward h r (opened_within l ((x, e) ∷ []) r (v, tt)) out

    called_within : (a : Answer Pairs) (ss : Steps) (k : List Item) (l : Local) (outward : Data → Moved) → Holds k → Rest l → Each (IsOpened l) a → ((e : Data) → Shallow e → Fine (outward e)) → Fine (called a ss k l outward)
    called_within (Err t) ss k l outward h r o out = out (error_map t) (error_shallow t)
    called_within (Ok qs) ss k l outward h r o out = goes_within (Do ss ss ∷ k) (enter true qs l) h (entered_rest true qs l o r)

    asked_one_within : (e : Data) (xs : List Param) (ss : Steps) (k : List Item) (l : Local) (outward : Data → Moved) → Shallow e → Holds k → Rest l → ((e : Data) → Shallow e → Fine (outward e)) → Fine (asked_one s e xs ss k l outward)
    asked_one_within e [] ss k l outward v h r out = tt
    asked_one_within e (x ∷ []) ss k l outward v h r out =
        either (nat_le call_limit (calls_in k)) (outward (error_map RecursionError)) (called (opened s l ((x.name, e) ∷ [])) ss (Back None ∷ k) l outward) (out (error_map RecursionError) (error_shallow RecursionError))
        (called_within (opened s l ((x.name, e) ∷ [])) ss (Back None ∷ k) l outward h r (opened_within l ((x.name, e) ∷ []) r (v, tt)) out)
    asked_one_within e (x ∷ y ∷ xs) ss k l outward v h r out = tt

    asks_within : (e : Data) (w : Option Flow) (k : List Item) (l : Local) (outward : Data → Moved) → Shallow e → Holds k → Rest l → ((e : Data) → Shallow e → Fine (outward e)) → Fine (asks s e w k l outward)
    asks_within e None k l outward v h r out = tt
    asks_within e (Some f) k l outward v h r out = asked_one_within e f.params f.steps k l outward v h r out

    decided_within : (e : Data) (j : Judgement) (t : TryBody) (m : ℕ) (d : Option ℕ) (k : List Item) (l : Local) (outward : Data → Moved) → Shallow e → Holds k → Rest l → ((e : Data) → Shallow e → Fine (outward e)) → Fine (decided s e j t m d k l outward)
    decided_within e (Says true) t m d k l outward v h r out = retried_within t m d k l h r
    decided_within e (Says false) t m d k l outward v h r out = handled_within e t k l outward v h r out
    decided_within e (Asks x) t m d k l outward v h r out = asks_within e (flow s.program.flows x) (Judge t m d e ∷ k) l outward v (v, h) r out

    pub unwind_within : (k : List Item) (l : Local) (e : Data) → Shallow e → Holds k → Rest l → Fine (unwind s k l e)
    unwind_within [] l e v h r = (v, ended_rest l r)
    unwind_within (Do block left ∷ k) l e v h r = unwind_within k l e v h r
    unwind_within (Entries es ∷ k) l e v h r = unwind_within k l e v h r
    unwind_within (Then x ∷ k) l e v h r = unwind_within k l e v h r
    unwind_within (Loop b w i ∷ k) l e v h r = unwind_within k l e v h.1 r
    unwind_within (Try t m d ∷ k) l e v h r = decided_within e (judged (policy_of t) m e) t m d k l (unwind s k l) v h r (λ x y. unwind_within k l x y h r)
    unwind_within (Judge t m d x ∷ k) l e v h r = unwind_within k l e v h.1 r
    unwind_within (Mark ∷ k) l e v h r = unwind_within k (leave l) e v h (left_rest l r)
    unwind_within (Back x ∷ k) l e v h r = unwind_within k (leave l) e v h (left_rest l r)
    unwind_within (Join b w m x es ∷ k) l e v h r = unwind_within k l e v h.3 r

    answered_within : (v : Data) (t : TryBody) (m : ℕ) (d : Option ℕ) (e : Data) (k : List Item) (l : Local) → Shallow e → Holds k → Rest l → Fine (answered s v t m d e k l)
    answered_within (boolean true) t m d e k l y h r = retried_within t m d k l h r
    answered_within (boolean false) t m d e k l y h r = handled_within e t k l (unwind s k l) y h r (λ x z. unwind_within k l x z h r)
    answered_within v t m d e k l y h r = unwind_within k l (error_map TypeError) (error_shallow TypeError) h r

    pub on_within : {A : Type 0} (P : A → Type 0) (k : List Item) (l : Local) (a : Answer A) (f : A → Moved) → Holds k → Rest l → Each P a → ((x : A) → P x → Fine (f x)) → Fine (on s k l a f)
    on_within P k l (Err t) f h r e g = unwind_within k l (error_map t) (error_shallow t) h r
    on_within P k l (Ok x) f h r e g = g x e

    -- ## Assignments
    abbrev AssignedWithin : Assigned → Type 0
    AssignedWithin (Done l) = Rest l
    AssignedWithin (Refused t) = Unit {0}
    AssignedWithin Undeclared = Unit {0}

    limited : (v : Data) (l : Local) → (Shallow v → total s l ≤ most → Rest l) → AssignedWithin (within_limits s v l)
    limited v l f = by (nat_le (total s l) most) (nat_le (depth v) 100) refl refl
      where
        by : (q p : Bool) → nat_le (total s l) most ≡ q → nat_le (depth v) 100 ≡ p → AssignedWithin (if q && p then Done l else Refused ResourceLimitError)
        by true true i j = f (leb-true (depth v) 100 j) (leb-true (total s l) most i)
        by true false i j = tt
        by false p i j = tt

    put_own_within : (x : Text) (m : ℕ) (a : Answer Data) (l : Local) → Rest l → AssignedWithin (put_own s x m a l)
    put_own_within x m (Err t) l r = tt
    put_own_within x m (Ok v) l r = limited v (record l { layers = put_layer m x v l.layers }) λ y t. record { layers = put_layer_shallow m x v l.layers y r.layers; outers = r.outers; total = t; places = r.places }

    put_outside_within : (x : Text) (m : ℕ) (q : Bool) (a : Answer Data) (l : Local) → Rest l → AssignedWithin (put_outside s x m q a l)
    put_outside_within x m q (Err t) l r = tt
    put_outside_within x m false (Ok v) l r = tt
    put_outside_within x m true (Ok v) l r =
        limited v (record l { outer = put_outer m x v l.outer }) λ y t. record { layers = r.layers; outers = put_outer_shallow m x v l.outer y r.outers; total = t; places = put_outer_places m x v l.outer ∙ r.places }

    assign_at_within : (x : Text) (ks : List Data) (v : Data) (w : Held) (l : Local) → Rest l → AssignedWithin (assign_at s x ks v w l)
    assign_at_within x ks v (Own m u) l r = put_own_within x m (written ks u v) l r
    assign_at_within x ks v (Outside m shared u) l r = put_outside_within x m (all_share x shared) (written ks u v) l r
    assign_at_within x ks v Nowhere l r = put_own_within x 0 (made_new ks v) l r

    on_assigned_within : (k : List Item) (l : Local) (a : Assigned) → Holds k → Rest l → AssignedWithin a → Fine (on_assigned s k l a)
    on_assigned_within k l (Done m) h r g = goes_within k m h g
    on_assigned_within k l (Refused t) h r g = unwind_within k l (error_map t) (error_shallow t) h r
    on_assigned_within k l Undeclared h r g = tt

    pub gives_within : (x : Option Text) (v : Data) (k : List Item) (l : Local) → Holds k → Rest l → Fine (gives s x v k l)
    gives_within None v k l h r = goes_within k l h r
    gives_within (Some x) v k l h r = on_assigned_within k l (assign s x [] v l) h r (assign_at_within x [] v (held x l) l r)

    pub handed_within : (x : Option Text) (e : Result Data Data) (k : List Item) (l : Local) → ResultShallow e → Holds k → Rest l → Fine (handed s x e k l)
    handed_within x (Ok v) k l y h r = gives_within x v k l h r
    handed_within x (Err e) k l y h r = unwind_within k l e y h r

    -- ## Returns and jumps
    given_to_within : (x : Option Text) (v : Data) (k : List Item) (l : Local) → Holds k → Rest l → Fine (given_to s x v k l)
    given_to_within x v (Judge t m d e ∷ k) l h r = answered_within v t m d e k l h.0 h.1 r
    given_to_within x v [] l h r = gives_within x v [] l h r
    given_to_within x v (i ∷ k) l h r = gives_within x v (i ∷ k) l h r

    returns_in_within : (q : Root) (v : Data) (l : Local) → Shallow v → Rest l → Fine (returns_in q v l)
    returns_in_within Main v l y r = (y, ended_rest l r)
    returns_in_within Branch v l y r = tt
    returns_in_within Iteration v l y r = tt

    back_within : (k : List Item) (l : Local) → Holds k → Rest l → FoundWithin (to_back k l)
    back_within [] l h r = tt
    back_within (Do block left ∷ k) l h r = back_within k l h r
    back_within (Entries es ∷ k) l h r = back_within k l h r
    back_within (Then x ∷ k) l h r = back_within k l h r
    back_within (Loop b w i ∷ k) l h r = back_within k l h.1 r
    back_within (Try t m d ∷ k) l h r = back_within k l h r
    back_within (Judge t m d e ∷ k) l h r = back_within k l h.1 r
    back_within (Mark ∷ k) l h r = back_within k (leave l) h (left_rest l r)
    back_within (Back x ∷ k) l h r = (h, r)
    back_within (Join b w m x es ∷ k) l h r = back_within k l h.3 r

    returned_within : (v : Data) (l : Local) (f : Found) → Shallow v → Rest l → FoundWithin f → Fine (returned s v l f)
    returned_within v l (Stands [] m) y r g = tt
    returned_within v l (Stands (Back x ∷ k) m) y r g = given_to_within x v k (leave m) g.0 (left_rest m g.1)
    returned_within v l (Stands (i ∷ k) m) y r g = tt
    returned_within v l AtEnd y r g = returns_in_within s.root v l y r
    returned_within v l NotFound y r g = tt

    pub returns_within : (v : Data) (k : List Item) (l : Local) → Shallow v → Holds k → Rest l → Fine (returns s v k l)
    returns_within v k l y h r = returned_within v l (to_back k l) y r (back_within k l h r)

    loop_within : (k : List Item) (l : Local) → Holds k → Rest l → FoundWithin (to_loop k l)
    loop_within [] l h r = tt
    loop_within (Do block left ∷ k) l h r = loop_within k l h r
    loop_within (Entries es ∷ k) l h r = loop_within k l h r
    loop_within (Then x ∷ k) l h r = loop_within k l h r
    loop_within (Loop b w i ∷ k) l h r = (h, r)
    loop_within (Try t m d ∷ k) l h r = loop_within k l h r
    loop_within (Judge t m d e ∷ k) l h r = loop_within k l h.1 r
    loop_within (Mark ∷ k) l h r = loop_within k (leave l) h (left_rest l r)
    loop_within (Back x ∷ k) l h r = tt
    loop_within (Join b w m x es ∷ k) l h r = loop_within k l h.3 r

    cut_within : (block ss : Steps) (k : List Item) (l : Local) (out : Found) → Holds k → Rest l → FoundWithin out → FoundWithin (cut_at block ss k l out)
    cut_within block no_steps k l out h r g = g
    cut_within block (more x xs) k l out h r g = (h, r)

    step_within : (x : Text) (k : List Item) (l : Local) → Holds k → Rest l → FoundWithin (to_step x k l)
    step_within x [] l h r = tt
    step_within x (Do block left ∷ k) l h r = cut_within block (from_step x block) k l (to_step x k l) h r (step_within x k l h r)
    step_within x (Entries es ∷ k) l h r = step_within x k l h r
    step_within x (Then y ∷ k) l h r = step_within x k l h r
    step_within x (Loop b w i ∷ k) l h r = tt
    step_within x (Try t m d ∷ k) l h r = step_within x k l h r
    step_within x (Judge t m d e ∷ k) l h r = step_within x k l h.1 r
    step_within x (Mark ∷ k) l h r = step_within x k (leave l) h (left_rest l r)
    step_within x (Back y ∷ k) l h r = tt
    step_within x (Join b w m y es ∷ k) l h r = step_within x k l h.3 r

    by_root : (q : Root) (l : Local) (m : Moved) → Fine m → Rest l → Fine (elim q [ Iteration ↦ goes [] l | _ ↦ m ])
    by_root Main l m f r = f
    by_root Branch l m f r = f
    by_root Iteration l m f r = goes_within [] l tt r

    continues_within : (l : Local) (f : Found) → Rest l → FoundWithin f → Fine (continues s l f)
    continues_within l (Stands k m) r g = goes_within k m g.0 g.1
    continues_within l AtEnd r g = by_root s.root l (Breaks _) tt r
    continues_within l NotFound r g = tt

    one_out : (i : Item) (k : List Item) → Holds (i ∷ k) → Holds k
    one_out (Do block left) k h = h
    one_out (Entries es) k h = h
    one_out (Then x) k h = h
    one_out (Loop b w i) k h = h.1
    one_out (Try t m d) k h = h
    one_out (Judge t m d e) k h = h.1
    one_out Mark k h = h
    one_out (Back x) k h = h
    one_out (Join b w m x es) k h = h.3

    breaks_within : (f : Found) → FoundWithin f → Fine (breaks f)
    breaks_within (Stands [] m) g = tt
    breaks_within (Stands (i ∷ k) m) g = goes_within k m (one_out i k g.0) g.1
    breaks_within AtEnd g = tt
    breaks_within NotFound g = tt

    jumps_to_within : (x : Text) (f : Found) → FoundWithin f → Fine (jumps_to s x f)
    jumps_to_within x (Stands k m) g = goes_within k m g.0 g.1
    jumps_to_within x AtEnd g = tt
    jumps_to_within x NotFound g = tt

    pub jumps_within : (x : Text) (k : List Item) (l : Local) → Holds k → Rest l → Fine (jumps s x k l)
    jumps_within x k l h r =
        either (bytes_eq x (codes "end")) (returns s null k l) _ (returns_within null k l null_shallow h r)
        (either (bytes_eq x (codes "continue")) (continues s l (to_loop k l)) _ (continues_within l (to_loop k l) r (loop_within k l h r))
        (either (bytes_eq x (codes "break")) (breaks (to_loop k l)) (jumps_to s x (to_step x k l)) (breaks_within (to_loop k l) (loop_within k l h r)) (jumps_to_within x (to_step x k l) (step_within x k l h r))))

  -- ## Calls
  module _ (n : ℕ) where
    either_within : (q : Bool) (a b : Moved) → MovedWithin n a → MovedWithin n b → MovedWithin n (if q then a else b)
    either_within true a b x y = x
    either_within false a b x y = y

    calls_with_within : (w : Flow) (x : Option Text) (xs : Option (List (Text × Data))) (k : List Item) (l : Local) → MaybeNames xs → Holds k → Rest l → MovedWithin n (calls_with s w x xs k l)
    calls_with_within w x None k l y h r = tt
    calls_with_within w x (Some xs) k l y h r =
        either_within (nat_le call_limit (calls_in k)) (raises s k l (error_map RecursionError)) (on s k l (opened s l xs) λ ps. goes (Do w.steps w.steps ∷ Back x ∷ k) (enter true ps l))
        (unwind_within n k l (error_map RecursionError) (error_shallow RecursionError) h r)
        (on_within n (IsOpened l) k l (opened s l xs) (λ ps. goes (Do w.steps w.steps ∷ Back x ∷ k) (enter true ps l)) h r (opened_within l xs r y)
        λ ps o. goes_within n (Do w.steps w.steps ∷ Back x ∷ k) (enter true ps l) h (entered_rest true ps l o r))

    evaluates_within : (x : Option Text) (g : _) (vs : List Data) (k : List Item) (l : Local) → Holds k → Rest l → MovedWithin n (evaluates s x g vs k l)
    evaluates_within x g vs k l h r = on_within n Any k l (apply (view s l) g vs >>= kept) (λ v. gives s x v k l) h r (each_any _) λ v _. gives_within n x v k l h r

    sleeps_within : (x : Option Text) (d : Answer ℕ) (k : List Item) (l : Local) → Holds k → Rest l → MovedWithin n (sleeps s x d k l)
    sleeps_within x d k l h r = on_within n Any k l d (λ m. waits (Sleep m x) k l) h r (each_any d) λ m _. waits_within n (Sleep m x) k l h r

    awaits_within : (x : Option Text) (i : ℕ × ℕ) (o : Option Visitor) (k : List Item) (l : Local) → Holds k → Rest l → MovedWithin n (awaits s x i o k l)
    awaits_within x i None k l h r = waits_within n (Await i.0 i.1 x) k l h r
    awaits_within x i (Some v) k l h r = handed_within n x (visit_result v) k l (visit_shallow v) h r

  -- what is logged
  unwrapped : (o : Option Data) → OptionShallow o → Shallow (unwrap_or o null)
  unwrapped None h = null_shallow
  unwrapped (Some v) h = h

  text_value : (o : Option Data) (args : Pairs) → PairsShallow args → Each Shallow (elim o [ None ↦ Ok (logged_any args) | Some v ↦ as_text (Some v) >>= λ t. Ok (text t) ])
  text_value None args h = unwrapped (first_of_two (get (codes "data") args) (get (codes "json") args)) (first_shallow (get (codes "data") args) (get (codes "json") args) (get_shallow (codes "data") args h) (get_shallow (codes "json") args h))
  text_value (Some v) args h = each_bind Shallow (as_text (Some v)) _ λ t. omega arith

  abbrev LogFine : Logged → Type 0
  LogFine e = Shallow e.value × (s.logged + size e.value ≤ log_limit)

  within_fine : (e : Logged) → Shallow e.value → Each LogFine (within_log s e)
  within_fine e y = by (nat_le (s.logged + size e.value) log_limit) refl
    where
      by : (q : Bool) → nat_le (s.logged + size e.value) log_limit ≡ q → Each LogFine (if q then Ok e else Err ResourceLimitError)
      by true i = (y, leb-true (s.logged + size e.value) log_limit i)
      by false i = tt

  entry_fine : (args : Pairs) → PairsShallow args → Each (λ e. Shallow e.value) (log_entry args)
  entry_fine args h =
      each_with Shallow (λ e. Shallow e.value) (logged_value args) _ (text_value (get (codes "text") args) args h)
      λ v y. each_bind (λ e. Shallow e.value) (severity_text (get (codes "severity") args)) _ λ t. each_bind (λ e. Shallow e.value) (or_error ValueError (severity_named t)) _ λ severity. y

  logs_within : (x : Option Text) (args : Pairs) (k : List Item) (l : Local) → PairsShallow args → Holds k → Rest l → MovedWithin s.logged (logs s x args k l)
  logs_within x args k l p h r =
      on_within s.logged LogFine k l (log_entry args >>= within_log s) (λ e. Does (Logs e.severity e.value) (gives s x null k l)) h r
      (each_with (λ e. Shallow e.value) LogFine (log_entry args) (within_log s) (entry_fine args p) within_fine)
      λ e f. (f.0, f.1, gives_within (s.logged + size e.value) x null k l h r)

  abbrev Now : Moved → Type 0
  Now = MovedWithin s.logged

  special_within : (x : Option Text) (g : Special) (args : Pairs) (k : List Item) (l : Local) → PairsShallow args → Holds k → Rest l → Now (calls_special s x g args k l)
  special_within x SysLog args k l p h r = logs_within x args k l p h r
  special_within x SysSleep args k l p h r = sleeps_within s.logged x (sleep_due s.now args) k l h r
  special_within x SysSleepUntil args k l p h r = sleeps_within s.logged x (until_due (get (codes "time") args)) k l h r
  special_within x (HttpCall m) args k l p h r = tt
  special_within x CreateEndpoint args k l p h r =
      on_within s.logged (λ (m : Method). Unit {0}) k l (callback_method (get (codes "http_callback_method") args) >>= listening s) (λ m. on s k l (kept (endpoint_value s)) λ v. Does (Creates m) (gives s x v k l)) h r (each_any _)
      λ m _. on_within s.logged (λ (v : Data). Unit {0}) k l (kept (endpoint_value s)) (λ v. Does (Creates m) (gives s x v k l)) h r (each_any _) λ v _. gives_within s.logged x v k l h r
  special_within x AwaitCallback args k l p h r = on_within s.logged Any k l (awaited s args) (λ i. awaits s x i (s.oldest i.0) k l) h r (each_any _) λ i _. awaits_within s.logged x i (s.oldest i.0) k l h r

  listed_within : (x : Option Text) (e : Option Listing) (g : Option SpecialListing) (args : Pairs) (k : List Item) (l : Local) → PairsShallow args → Holds k → Rest l → Now (calls_listed s x e g args k l)
  listed_within x (Some e) g args k l p h r = either_within s.logged (takes e.signature _) _ _ (evaluates_within s.logged x e.func (in_order e.signature args) k l h r) tt
  listed_within x None (Some g) args k l p h r = either_within s.logged (call_takes g.name g.signature _) _ _ (special_within x g.special args k l p h r) tt
  listed_within x None None args k l p h r = tt

  named_within : (x : Option Text) (w : Option Flow) (t : Text) (args : Pairs) (k : List Item) (l : Local) → MaybeFlow w → PairsShallow args → Holds k → Rest l → Now (calls_named s x w t args k l)
  named_within x (Some w) t args k l y p h r = calls_with_within s.logged w x (bindings w.params args) k l (bindings_shallow w.params args y p) h r
  named_within x None t args k l y p h r = listed_within x (func_named t) (special_named t) args k l p h r

  calls_within : (f : CallBody) (k : List Item) (l : Local) → Holds k → Rest l → Now (calls s f k l)
  calls_within f k l h r =
      on_within s.logged PairsShallow k l (fill_fields f.args (view s l)) (λ args. calls_named s f.result (flow s.program.flows f.name) f.name args k l) h r (fields_shallow f.args (view s l))
      λ args p. named_within f.result (flow s.program.flows f.name) f.name args k l (maybe_either (bytes_eq f.name (codes "main")) None (flow_in s.program.flows f.name) tt (flow_in_shallow s.program.flows f.name shallow)) p h r

  -- ## Steps
  assigns_within : (e : Entry) (k : List Item) (l : Local) → Holds k → Rest l → Now (assigns s e k l)
  assigns_within e k l h r =
      on_within s.logged Any k l (fill e.value (view s l)) (λ v. on s k l (eval_all e.target.places (view s l)) λ ks. on_assigned s k l (assign s e.target.name ks v l)) h r (each_any _)
      λ v _. on_within s.logged Any k l (eval_all e.target.places (view s l)) (λ ks. on_assigned s k l (assign s e.target.name ks v l)) h r (each_any _)
      λ ks _. on_assigned_within s.logged k l (assign s e.target.name ks v l) h r (assign_at_within s.logged e.target.name ks v (held e.target.name l) l r)

  work_shallow : (v : View) (body : ParallelBody) → Each WorkShallow (work v body)
  work_shallow v (parallel names limit (OfBranches bs)) = tt
  work_shallow v (parallel names limit (OfLoop (loop x i o ss))) = each_with LeftShallow WorkShallow (over v o) (λ left. Ok (ValuesLeft (counted_left left))) (over_shallow v o) counted_shallow

  forks_within : (body : ParallelBody) (k : List Item) (l : Local) → Holds k → Rest l → Now (forks s body k l)
  forks_within body k l h r = by (nat_le (limits s.facts.rules).nesting s.nesting) refl
    where
      by : (q : Bool) → nat_le (limits s.facts.rules).nesting s.nesting ≡ q → Now (if q then raises s k l (error_map ParallelNestingError) else (on s k l (work (view s l) body) λ w. goes (Join body w 0 [] [] ∷ k) l))
      by true e = unwind_within s.logged k l (error_map ParallelNestingError) (error_shallow ParallelNestingError) h r
      by false e =
          on_within s.logged WorkShallow k l (work (view s l) body) (λ w. goes (Join body w 0 [] [] ∷ k) l) h r (work_shallow (view s l) body)
          λ w y. goes_within s.logged (Join body w 0 [] [] ∷ k) l (y, tt, deep (leb-false (limits s.facts.rules).nesting s.nesting e), h) r

  joins_within : (body : ParallelBody) (es : List (ℕ × Data)) (k : List Item) (l : Local) → Holds k → Rest l → Now (joins s body es k l)
  joins_within body [] k l h r = goes_within s.logged k l h r
  joins_within body (e ∷ es) k l h r = unwind_within s.logged k l (join_error body (e ∷ es)) (nested_shallow (error_with UnhandledBranchError (tag_message UnhandledBranchError) ((codes "branches", list (items_of (error_list body (e ∷ es)))) ∷ []))) h r

  then_holds : (to : Option Text) (k : List Item) → Holds k → Holds (then_item to k)
  then_holds None k h = h
  then_holds (Some x) k h = h

  arm_holds : (body : Body) (to : Option Text) (k : List Item) → Holds k → Holds (arm_items body to k)
  arm_holds Body.Nothing None k h = h
  arm_holds body to k h = h

  in_arm_holds : (a : Option (Body × Option Text)) (k : List Item) → Holds k → Holds (in_arm a k)
  in_arm_holds None k h = h
  in_arm_holds (Some a) k h = arm_holds a.0 a.1 k h

  entered_holds : (body : Body) (k : List Item) → Holds k → Holds (entered body ∷ k)
  entered_holds (Body.Block ss) k h = h
  entered_holds body k h = h

  raised_shallow : (v : Data) → Shallow v → Each Shallow (raised v)
  raised_shallow (text t) h = h
  raised_shallow (map ps) h = h
  raised_shallow v h = tt

  performs_within : (body : Body) (k : List Item) (l : Local) → Holds k → Rest l → Now (performs s body k l)
  performs_within Body.Nothing k l h r = goes_within s.logged k l h r
  performs_within (Body.Assign []) k l h r = goes_within s.logged k l h r
  performs_within (Body.Assign (e ∷ es)) k l h r = assigns_within e (Entries es ∷ k) l h r
  performs_within (Body.Call f) k l h r = calls_within f k l h r
  performs_within (Body.Switch arms) k l h r = on_within s.logged Any k l (chosen (view s l) arms) (λ a. goes (in_arm a k) l) h r (each_any _) λ a _. goes_within s.logged (in_arm a k) l (in_arm_holds a k h) r
  performs_within (Body.For (loop x i o ss)) k l h r =
      on_within s.logged LeftShallow k l (over (view s l) o) (λ left. goes (Loop (loop x i o ss) left 0 ∷ k) l) h r (over_shallow (view s l) o) λ left y. goes_within s.logged (Loop (loop x i o ss) left 0 ∷ k) l (y, h) r
  performs_within (Body.Parallel body) k l h r = forks_within body k l h r
  performs_within (Body.Block ss) k l h r = goes_within s.logged (Do ss ss ∷ k) l h r
  performs_within (Body.Try (try body p x)) k l h r = goes_within s.logged (entered body ∷ Try (try body p x) 0 None ∷ k) l (entered_holds body (Try (try body p x) 0 None ∷ k) h) r
  performs_within (Body.Raise t) k l h r =
      on_within s.logged Shallow k l (fill t (view s l) >>= raised) (λ v. raises s k l v) h r (each_with Shallow Shallow (fill t (view s l)) raised (fill_shallow t (view s l)) raised_shallow) λ v y. unwind_within s.logged k l v y h r
  performs_within (Body.Return t) k l h r = on_within s.logged Shallow k l (fill t (view s l)) (λ v. returns s v k l) h r (fill_shallow t (view s l)) λ v y. returns_within s.logged v k l y h r

  then_within : (body : Body) (to : Option Text) (k : List Item) (l : Local) → Holds k → Rest l → Now (performs s body (then_item to k) l)
  then_within body to k l h r = performs_within body (then_item to k) l (then_holds to k h) r

  steps_on_within : (body : Body) (to : Option Text) (k : List Item) (l : Local) → Holds k → Rest l → Now (steps_on s body to k l)
  steps_on_within Body.Nothing (Some x) k l h r = jumps_within s.logged x k l h r
  steps_on_within Body.Nothing None k l h r = then_within Body.Nothing None k l h r
  steps_on_within (Body.Assign es) to k l h r = then_within (Body.Assign es) to k l h r
  steps_on_within (Body.Call g) to k l h r = then_within (Body.Call g) to k l h r
  steps_on_within (Body.Switch arms) to k l h r = then_within (Body.Switch arms) to k l h r
  steps_on_within (Body.For b) to k l h r = then_within (Body.For b) to k l h r
  steps_on_within (Body.Parallel g) to k l h r = then_within (Body.Parallel g) to k l h r
  steps_on_within (Body.Block ss) to k l h r = then_within (Body.Block ss) to k l h r
  steps_on_within (Body.Try t) to k l h r = then_within (Body.Try t) to k l h r
  steps_on_within (Body.Raise t) to k l h r = then_within (Body.Raise t) to k l h r
  steps_on_within (Body.Return t) to k l h r = then_within (Body.Return t) to k l h r

  turns_within : (b : LoopBody) (o : Option (Data × Left)) (i : ℕ) (k : List Item) (l : Local) → NextShallow o → Holds k → Rest l → Now (turns s b o i k l)
  turns_within b None i k l y h r = goes_within s.logged k l h r
  turns_within b (Some o) i k l y h r =
      on_within s.logged (IsOpened l) k l (opened s l (loop_names b o.0 i)) (λ ps. goes (Do (loop_steps b) (loop_steps b) ∷ Mark ∷ Loop b o.1 (suc i) ∷ k) (enter false ps l)) h r (opened_within l (loop_names b o.0 i) r (names_shallow b o.0 i y.0))
      λ ps p. goes_within s.logged (Do (loop_steps b) (loop_steps b) ∷ Mark ∷ Loop b o.1 (suc i) ∷ k) (enter false ps l) (y.1, h) (entered_rest false ps l p r)

  joins_if : (q : Bool) (m : Moved) → Now m → Now (if q then m else Not)
  joins_if true m f = f
  joins_if false m f = tt

  moves_within : (k : List Item) (l : Local) → Holds k → Rest l → Now (moves s k l)
  moves_within [] l h r = tt
  moves_within (Do block no_steps ∷ k) l h r = tt
  moves_within (Do block (more (step x body to) left) ∷ k) l h r = steps_on_within body to (Do block left ∷ k) l h r
  moves_within (Entries [] ∷ k) l h r = tt
  moves_within (Entries (e ∷ es) ∷ k) l h r = assigns_within e (Entries es ∷ k) l h r
  moves_within (Then x ∷ k) l h r = jumps_within s.logged x k l h r
  moves_within (Loop b w i ∷ k) l h r = turns_within b (next_of w) i k l (next_shallow w h.0) h.1 r
  moves_within (Try t m d ∷ k) l h r = tt
  moves_within (Judge t m d e ∷ k) l h r = tt
  moves_within (Mark ∷ k) l h r = tt
  moves_within (Back x ∷ k) l h r = returns_within s.logged null (Back x ∷ k) l null_shallow h r
  moves_within (Join b w m [] es ∷ k) l h r = joins_if (is_empty w) (joins s b es k l) (joins_within b es k l h.3 r)
  moves_within (Join b w m (x ∷ xs) es ∷ k) l h r = tt

  pub move_within : (l : Local) → Holds l.control → Rest l → Now (move s l)
  move_within l h r = moves_within l.control l h r

  -- ## Calls of HTTP
  sends_within : (x : Option Text) (t : ℕ) (k : List Item) (l : Local) (q : Request) → Holds k → Rest l → Now (sends s x t k l q)
  sends_within x t k l q h r = waits_within s.logged (Calling (suc s.calls) x) k l h r

  issues_call_within : (f : CallBody) (m : Option (Option Method)) (k : List Item) (l : Local) → Holds k → Rest l → Now (issues_call s f m k l)
  issues_call_within f None k l h r = tt
  issues_call_within f (Some m) k l h r =
      either_within s.logged (fits_call f) (on s k l (fill_fields f.args (view s l)) (requests s f m k l)) _
      (on_within s.logged Any k l (fill_fields f.args (view s l)) (requests s f m k l) h r (each_any _) λ args _.
      on_within s.logged Any k l (asked m args) _ h r (each_any _) λ b _. on_within s.logged Any k l _ (sends s f.result b.timeout k l) h r (each_any _) λ c _. sends_within f.result b.timeout k l c h r) tt

  issues_within : (k : List Item) (l : Local) → Holds k → Rest l → Now (issues s k l)
  issues_within [] l h r = tt
  issues_within (Do block no_steps ∷ k) l h r = tt
  issues_within (Do block (more (step x (Body.Call f) to) left) ∷ k) l h r = issues_call_within f (http_method (special_named f.name)) (then_item to (Do block left ∷ k)) l (then_holds to (Do block left ∷ k) h) r
  issues_within (Do block (more (step x body to) left) ∷ k) l h r = tt
  issues_within (i ∷ k) l h r = tt

  pub issue_within : (l : Local) → Holds l.control → Rest l → Now (issue s l)
  issue_within l h r = issues_within l.control l h r

  -- ## What a task waited for
  woken : (l : Local) → Rest l → Rest (awake l)
  woken l r = record { layers = r.layers; outers = r.outers; total = r.total; places = r.places }

  pub resumed_within : (x : Option Text) (e : Result Data Data) (l : Local) → ResultShallow e → Holds l.control → Rest l → Now (resumed s x e l)
  resumed_within x e l y h r = handed_within s.logged x e l.control (awake l) y h (woken l r)

  retries_within : (k : List Item) (l : Local) → Holds k → Rest l → Now (retries k l)
  retries_within [] l h r = tt
  retries_within (Try (try body p x) m d ∷ k) l h r = goes_within s.logged (entered body ∷ Try (try body p x) m d ∷ k) l (entered_holds body (Try (try body p x) m d ∷ k) h) r
  retries_within (i ∷ k) l h r = tt

  due_by_within : (w : Wait) (l : Local) → Holds l.control → Rest l → Now (due_by s w l)
  due_by_within Awake l h r = tt
  due_by_within (Sleep t x) l h r = resumed_within x (Ok null) l null_shallow h r
  due_by_within (Delay t) l h r = retries_within l.control (awake l) h (woken l r)
  due_by_within (Calling m x) l h r = resumed_within x timeout_error l (error_shallow TimeoutError) h r
  due_by_within (Await m t x) l h r = resumed_within x timeout_error l (error_shallow TimeoutError) h r

  pub due_within : (l : Local) → Holds l.control → Rest l → Now (due s l)
  due_within l h r = due_by_within l.wait l h r
