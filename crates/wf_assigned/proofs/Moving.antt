-- Each move of a task, each request, and each end of a wait leave it where a walk has come.
use Rattle.std.specs.Prelude.{◌≡◌, ℕ, suc, ◌+◌, ◌≤◌, Bool, true, false, List, [], ◌∷◌, ◌++◌, length, if◌then◌else◌, nat_le, Some, None, Ok, Err, Option, option_map, Result, codes}
use Rattle.std.proofs.Common.{arith}
use Rattle.std.proofs.lemmas.Option.{same_Some}
use Rattle.wf_lemmas.proofs.Options.{some_not_none}
use mathlib.Core.Logic.{inl, inr}
use mathlib.Core.Path.{refl, sym, subst, ap, ◌∙◌}
use Rattle.wf_ast.specs.Eval.{fill, eval_all, fill_fields, truth}
use Rattle.wf_ast.specs.Flows.{flow}
use Rattle.wf_ast.specs.Func.{in_order, Special, SysLog, SysSleep, SysSleepUntil, HttpCall, CreateEndpoint, AwaitCallback, Listing, SpecialListing, func_named, special_named, takes, call_takes}
use Rattle.wf_ast.specs.Apply.{apply}
use Rattle.wf_ast.specs.Nodes.{listed, loop_binds, param_names}
use Rattle.wf_ast.specs.Tree.{Template, Entry, Exprs, no_exprs, expr, CallBody, Param, LoopBody, loop, ParallelBody, parallel, Over, Work, OfBranches, OfLoop, Branches, branch, step, Steps, no_steps, more, Policy, Arms, no_arms, arm, try, Except, Body, Flow}
use Rattle.wf_assigned.proofs.Failing.{sub_left, sub_right, sub_head, sub_tail, in_right, try_body, enters, flow_steps, begins_flow, number_of, names_in, Binds}
use Rattle.wf_assigned.proofs.Leaving.{MayFail, raises_ok, on_ok, ends_ok, assigned_ok, gives_ok, handed_ok, returned_ok, jumps_ok}
use Rattle.wf_assigned.proofs.Reached.{Written, goes_along}
use Rattle.wf_assigned.proofs.Settled.{list_depth, size_is, settles}
use Rattle.wf_assigned.specs.Edges.{Looping, Point, At, HeadOf, EndOf, Edge, Exit, Site, to_exit, to_some, failing, evaluated, writing, passing, entering, plain_name, next_entry, entries_edges, ending, jump, first_in, in_block, in_loop, in_try, steps_edges, step_edges, body_edges, arms_edges, loop_edges, parallel_edges, branches_edges, in_task, NoLoop, InTurn, try_edges, flow_edges}
use Rattle.wf_assigned.specs.Standing
use Rattle.wf_assigned.specs.Standing.{HasAll, chain, held, Reach, Arrives, Leads, StandsAt, Shallow, Proper, Sub, in_list, looped, deeper, exit, Bottom, Root, Pins, edges_in, entry_in, text_in, site, station, Ended, Pinned, Sized, outer_vars, StandsMoved, StandsLocal, Waiting, DelayedAt, LeftPinned, task_site, task_root, first_local}
use Rattle.wf_assigned.specs.Walks.{IsAmong}
use Rattle.wf_model.proofs.Walk.{bool_case}
use Rattle.wf_model.specs.Calls
use Rattle.wf_model.specs.Calls.{given, all_params, bindings, calls_with, evaluates, sleeps, logs, creates, awaits, awaits_callback, log_entry, within_log, sleep_due, until_due, callback_method, listening, endpoint_value, awaited, calls_special, calls_listed, calls_named, calls, sends, http_method, requests, fits_call, issues_call}
use Rattle.wf_model.specs.Config.{Left, WorkLeft, BranchesLeft, ValuesLeft, counted_left, Item, Do, Entries, Then, Loop, Try, Judge, Mark, Back, Join, Wait, Awake, Sleep, Delay, Calling, Await, call_limit, next_of, is_empty, limits}
use Rattle.wf_model.specs.Layers.{view, opened, enter, assign}
use Rattle.wf_model.specs.Leave.{raises, on, on_assigned, gives, returns, jumps}
use Rattle.wf_model.specs.Local.{Outer, Local, Scene, Moved, Not, Does, Logs, Creates, goes, waits}
use Rattle.wf_model.specs.Move.{then_item, lone, entered, assigns, chosen, arm_items, in_arm, over, work, joins, raised, turns, loop_names, performs, steps_on, moves, move, issues, issue, awake, resumed, retries, timeout_error, due_by, due}
use Rattle.wf_model.specs.Spots.{body_size, steps_size}
use Rattle.wf_model.specs.Unwind.{calls_in}
use Rattle.wf_value.specs.Data.{Data, Pairs, null, no_pairs}
use Rattle.wf_value.specs.Errors.{error_map, Answer, ◌>>=◌, kept}
use Rattle.wf_value.specs.HttpRequest.{asked, request}
use Rattle.wf_value.specs.Events.{Method, Visitor}
use Rattle.wf_value.specs.Pairs.{Text, get, keys}

abbrev work_or : WorkLeft → Answer WorkLeft → WorkLeft
work_or d (Ok w) = w
work_or d (Err t) = d

-- what is written by an entry with a plain name
plain_written : (x : Text) (ks : Exprs) (d : ℕ) (ch : List Pairs) → held d x ch ≡ true → Written d (elim ks [ no_exprs ↦ x ∷ [] | expr k js ↦ [] ]) ch
plain_written x no_exprs d ch h = (h, tt)
plain_written x (expr k js) d ch h = tt

-- the names of arguments
given_names : (xs : List Param) (args : Pairs) (ys : List (Text × Data)) → given xs args ≡ Some ys → names_in ys ≡ param_names xs
given_names [] args ys h = sym (ap names_in (same_Some [] ys h))
given_names (x ∷ xs) args ys h = by (Calls.value_for x args) (given xs args) (given_names xs args) h
  where
    by : (o : Option Data) (q : Option (List (Text × Data))) → ((zs : List (Text × Data)) → q ≡ Some zs → names_in zs ≡ param_names xs)
        → elim o [ None ↦ None | Some v ↦ option_map (λ rest. (x.name, v) ∷ rest) q ] ≡ Some ys → names_in ys ≡ param_names (x ∷ xs)
    by None q f e = absurd (some_not_none ys (sym e))
    by (Some v) None f e = absurd (some_not_none ys (sym e))
    by (Some v) (Some zs) f e = sym (ap names_in (same_Some ((x.name, v) ∷ zs) ys e)) ∙ ap (λ ns. x.name ∷ ns) (f zs refl)

bound_names : (xs : List Param) (args : Pairs) (ys : List (Text × Data)) → bindings xs args ≡ Some ys → names_in ys ≡ param_names xs
bound_names xs args ys h = by (all_params args xs) h
  where
    by : (b : Bool) → (if b then given xs args else None) ≡ Some ys → names_in ys ≡ param_names xs
    by true e = given_names xs args ys e
    by false e = absurd (some_not_none ys (sym e))

-- an `if` between two moves
block_site : (ss : Steps) (n : ℕ) (a : Site) (out : Option Exit) (E : List Edge) → Sub (steps_edges ss n (in_block ss n a) out) E → Sub (steps_edges ss n (in_list ss n a) out) E
block_site no_steps n a out E h = h
block_site (more s ss) n a out E h = h

loop_site : (ss : Steps) (n : ℕ) (a : Site) (out : Option Exit) (E : List Edge) → Sub (steps_edges ss (suc n) (in_loop ss n a) out) E → Sub (steps_edges ss (suc n) (in_list ss (suc n) (deeper (looped n a))) out) E
loop_site no_steps n a out E h = h
loop_site (more s ss) n a out E h = h

first_same : (ss : Steps) (m n : ℕ) (a b : Site) (out : Option Exit) → a.depth ≡ b.depth → first_in a ss n out ≡ first_in b ss n out
first_same no_steps m n a b out e = refl
first_same (more s ss) m n a b out e = ap (λ d. Some (record { point = At n; depth = d })) e

no_more : (xs : List Edge) (E : List Edge) → Sub xs E → Sub (xs ++ []) E
no_more xs E h e i = h e (back xs i)
  where
    back : (ys : List Edge) → IsAmong e (ys ++ []) → IsAmong e ys
    back [] j = j
    back (y ∷ ys) (inl j) = inl j
    back (y ∷ ys) (inr j) = inr (back ys j)

module _ (r : Root) (bottom : Bottom r) (proper : (f : Flow) (n : ℕ) → Proper (flow_edges f n)) (s : Scene) (binds : Binds s) where
  -- what holds of a task whose walk has come to a point
  pub record HasCome (k : List Item) (ps : Pins k) (l : Local) (p : Point) : Type 0 where
    pub awake : l.wait ≡ Awake
    pub pinned : Pinned r k ps
    pub sized : Sized r k ps l.layers (outer_vars l.outer)
    pub walk : Reach (edges_in r k ps) (entry_in r k ps) p (site r k ps).depth (chain l.layers (outer_vars l.outer))

  may_fail : (k : List Item) (ps : Pins k) (l : Local) (n : ℕ) (es : List Edge) → HasCome k ps l (At n) → Sub (evaluated (site r k ps) n es) (edges_in r k ps) → MayFail r bottom proper s binds k ps l (At n)
  may_fail k ps l n es c h = record { awake = c.awake; pinned = c.pinned; sized = c.sized; fails = sub_left (edges_in r k ps) (failing (site r k ps) (At n)) es h; walk = c.walk }

  rest_of : (k : List Item) (ps : Pins k) (n : ℕ) (es : List Edge) → Sub (evaluated (site r k ps) n es) (edges_in r k ps) → Sub es (edges_in r k ps)
  rest_of k ps n es h = sub_right (edges_in r k ps) (failing (site r k ps) (At n)) es h

  -- along an edge of the same layer
  along : (k : List Item) (ps : Pins k) (l : Local) (p q : Point) → HasCome k ps l p → IsAmong (passing (site r k ps) p q) (edges_in r k ps) → HasCome k ps l q
  along k ps l p q c i = record {
    awake = c.awake;
    pinned = c.pinned;
    sized = c.sized;
    walk = goes_along (edges_in r k ps) (entry_in r k ps) p (exit q (site r k ps)) (site r k ps).depth (chain l.layers (outer_vars l.outer)) i c.walk;
  }

  -- ## Assignments
  assigns_ok : (e : Entry) (es : List Entry) (m n : ℕ) (k : List Item) (ps : Pins k) (l : Local) → HasCome k ps l (At m) → Sub (entries_edges (e ∷ es) m n (site r k ps)) (edges_in r k ps) → Ended r n k ps → StandsMoved r (assigns s e (Entries es ∷ k) l)
  assigns_ok e es m n k ps l c h j =
      let a = site r k ps in
      let E = edges_in r k ps in
      let K = Entries es ∷ k in
      let qs : Pins K = (record { here = suc m; number = n }, ps) in
      let first = writing a (At m) (next_entry es (suc m) n) (plain_name e) in
      let head = sub_left E (first ∷ failing a (At m)) (entries_edges es (suc m) n a) h in
      let tail = sub_right E (first ∷ failing a (At m)) (entries_edges es (suc m) n a) h in
      let at : MayFail r bottom proper s binds K qs l (At m) = record { awake = c.awake; pinned = (tail, j, c.pinned); sized = c.sized; fails = sub_tail E first (failing a (At m)) head; walk = c.walk } in
      on_ok r bottom proper s binds K qs l (At m) (fill e.value (view s l)) (λ v. on s K l (eval_all e.target.places (view s l)) λ ks. on_assigned s K l (assign s e.target.name ks v l)) at
      (λ v i. on_ok r bottom proper s binds K qs l (At m) (eval_all e.target.places (view s l)) (λ ks. on_assigned s K l (assign s e.target.name ks v l)) at
      (λ ks i2. assigned_ok r bottom proper s binds K qs l (At m) (next_entry es (suc m) n) e.target.name (plain_name e) ks v at (sub_head E first (failing a (At m)) head) (plain_written e.target.name e.target.places) (inl (refl, refl))))

  -- ## Calls
  abbrev CallEdges : (k : List Item) → Pins k → ℕ → Option Text → Type 0
  CallEdges k ps n x = Sub (evaluated (site r k ps) n (writing (site r k ps) (At n) (EndOf n) (listed x) ∷ [])) (edges_in r k ps)

  call_edge : (k : List Item) (ps : Pins k) (n : ℕ) (x : Option Text) → CallEdges k ps n x → IsAmong (writing (site r k ps) (At n) (EndOf n) (listed x)) (edges_in r k ps)
  call_edge k ps n x h =
      let call = writing (site r k ps) (At n) (EndOf n) (listed x) in
      sub_head (edges_in r k ps) call [] (sub_right (edges_in r k ps) (failing (site r k ps) (At n)) (call ∷ []) h)

  -- a workflow is called
  flow_call_ok : (g : Flow) (x : Option Text) (o : Option (List (Text × Data))) (args : Pairs) → bindings g.params args ≡ o → (n : ℕ) (k : List Item) (ps : Pins k) (l : Local) → HasCome k ps l (At n) → CallEdges k ps n x → Ended r n k ps → StandsMoved r (calls_with s g x o k l)
  flow_call_ok g x None args e n k ps l c h j = tt
  flow_call_ok g x (Some xs) args e n k ps l c h j =
      let at = may_fail k ps l n _ c h in
      bool_case (StandsMoved r) (nat_le call_limit (calls_in k)) _ _ (λ q. raises_ok r bottom proper s binds k ps l (At n) _ at)
      (λ q. on_ok r bottom proper s binds k ps l (At n) (opened s l xs) (λ vars. goes (Do g.steps g.steps ∷ Back x ∷ k) (enter true vars l)) at begins)
    where
      number : ℕ
      number = number_of s.program.flows g.name 0

      begins : (vars : Pairs) → opened s l xs ≡ Ok vars → StandsMoved r (goes (Do g.steps g.steps ∷ Back x ∷ k) (enter true vars l))
      begins vars i =
          settles r bottom proper (Do g.steps g.steps ∷ Back x ∷ k) (record { first = suc number; here = suc number; out = None }, (record { number = n; inner = record { flow = g; entry = number } }, ps)) (enter true vars l) c.awake
          (flow_steps g number, flow_steps g number, refl, tt, (inl (h, j), c.pinned)) (tt, inl c.walk, c.sized)
          (begins_flow g number vars (subst (λ ns. HasAll ns vars) (bound_names g.params args xs e) (binds l xs vars i)))

  waits_ok : (x : Option Text) (n : ℕ) (k : List Item) (ps : Pins k) (l : Local) → HasCome k ps l (At n) → CallEdges k ps n x → Ended r n k ps → Waiting r x k l.layers (outer_vars l.outer)
  waits_ok x n k ps l c h j = record { pins = ps; pinned = c.pinned; sized = c.sized; number = n; call = h; ended = j; walk = c.walk }

  -- a function of call steps alone
  special_ok : (g : Special) (x : Option Text) (args : Pairs) (n : ℕ) (k : List Item) (ps : Pins k) (l : Local) → HasCome k ps l (At n) → CallEdges k ps n x → Ended r n k ps → StandsMoved r (calls_special s x g args k l)
  special_ok SysLog x args n k ps l c h j =
      let at = may_fail k ps l n _ c h in
      on_ok r bottom proper s binds k ps l (At n) (log_entry args >>= within_log s) (λ e. Does (Logs e.severity e.value) (gives s x null k l)) at (λ e i. gives_ok r bottom proper s binds k ps l n x null at (call_edge k ps n x h) j)
  special_ok SysSleep x args n k ps l c h j = on_ok r bottom proper s binds k ps l (At n) (sleep_due s.now args) (λ d. waits (Sleep d x) k l) (may_fail k ps l n _ c h) (λ d i. waits_ok x n k ps l c h j)
  special_ok SysSleepUntil x args n k ps l c h j = on_ok r bottom proper s binds k ps l (At n) (until_due (get (codes "time") args)) (λ d. waits (Sleep d x) k l) (may_fail k ps l n _ c h) (λ d i. waits_ok x n k ps l c h j)
  special_ok (HttpCall m) x args n k ps l c h j = tt
  special_ok CreateEndpoint x args n k ps l c h j =
      let at = may_fail k ps l n _ c h in
      on_ok r bottom proper s binds k ps l (At n) (callback_method (get (codes "http_callback_method") args) >>= listening s) (λ m. on s k l (kept (endpoint_value s)) λ v. Does (Creates m) (gives s x v k l)) at
      (λ m i. on_ok r bottom proper s binds k ps l (At n) (kept (endpoint_value s)) (λ v. Does (Creates m) (gives s x v k l)) at (λ v i2. gives_ok r bottom proper s binds k ps l n x v at (call_edge k ps n x h) j))
  special_ok AwaitCallback x args n k ps l c h j = on_ok r bottom proper s binds k ps l (At n) (awaited s args) (λ m. awaits s x m (s.oldest m.0) k l) (may_fail k ps l n _ c h) (λ m i. by m (s.oldest m.0))
    where
      by : (m : ℕ × ℕ) (o : Option Visitor) → StandsMoved r (awaits s x m o k l)
      by m None = waits_ok x n k ps l c h j
      by m (Some v) = handed_ok r bottom proper s binds k ps l n x _ (may_fail k ps l n _ c h) (call_edge k ps n x h) j

  listed_ok : (o : Option Listing) (q : Option SpecialListing) (x : Option Text) (args : Pairs) (n : ℕ) (k : List Item) (ps : Pins k) (l : Local) → HasCome k ps l (At n) → CallEdges k ps n x → Ended r n k ps → StandsMoved r (calls_listed s x o q args k l)
  listed_ok (Some e) q x args n k ps l c h j =
      let at = may_fail k ps l n _ c h in
      bool_case (StandsMoved r) (takes e.signature (keys args)) _ _ (λ i. on_ok r bottom proper s binds k ps l (At n) (apply (view s l) e.func (in_order e.signature args) >>= kept) (λ v. gives s x v k l) at (λ v i2. gives_ok r bottom proper s binds k ps l n x v at (call_edge k ps n x h) j)) (λ i. tt)
  listed_ok None (Some g) x args n k ps l c h j = bool_case (StandsMoved r) (call_takes g.name g.signature (keys args)) _ _ (λ i. special_ok g.special x args n k ps l c h j) (λ i. tt)
  listed_ok None None x args n k ps l c h j = tt

  named_ok : (o : Option Flow) (y : Text) (x : Option Text) (args : Pairs) (n : ℕ) (k : List Item) (ps : Pins k) (l : Local) → HasCome k ps l (At n) → CallEdges k ps n x → Ended r n k ps → StandsMoved r (calls_named s x o y args k l)
  named_ok None y x args n k ps l c h j = listed_ok (func_named y) (special_named y) x args n k ps l c h j
  named_ok (Some g) y x args n k ps l c h j = flow_call_ok g x (bindings g.params args) args refl n k ps l c h j

  calls_ok : (f : CallBody) (n : ℕ) (k : List Item) (ps : Pins k) (l : Local) → HasCome k ps l (At n) → CallEdges k ps n f.result → Ended r n k ps → StandsMoved r (calls s f k l)
  calls_ok f n k ps l c h j = on_ok r bottom proper s binds k ps l (At n) (fill_fields f.args (view s l)) (λ args. calls_named s f.result (flow s.program.flows f.name) f.name args k l) (may_fail k ps l n _ c h) (λ args i. named_ok (flow s.program.flows f.name) f.name f.result args n k ps l c h j)

  issues_ok : (f : CallBody) (o : Option (Option Method)) (n : ℕ) (k : List Item) (ps : Pins k) (l : Local) → HasCome k ps l (At n) → CallEdges k ps n f.result → Ended r n k ps → StandsMoved r (issues_call s f o k l)
  issues_ok f None n k ps l c h j = tt
  issues_ok f (Some m) n k ps l c h j =
      let at = may_fail k ps l n _ c h in
      bool_case (StandsMoved r) (fits_call f) _ _
      (λ i. on_ok r bottom proper s binds k ps l (At n) (fill_fields f.args (view s l)) (requests s f m k l) at
      (λ args i2. on_ok r bottom proper s binds k ps l (At n) (asked m args) (λ b. on s k l (request s.facts.routes b s.facts.id (suc s.calls)) (sends s f.result b.timeout k l)) at (λ b i3. on_ok r bottom proper s binds k ps l (At n) (request s.facts.routes b s.facts.id (suc s.calls)) (sends s f.result b.timeout k l) at (λ q i4. waits_ok f.result n k ps l c h j))))
      (λ i. tt)

  -- ## Bodies of their own
  -- one body at its number, whose end leads to where k goes on
  lone_ok : (body : Body) (next : Option Text) (n : ℕ) (out : Exit) (k : List Item) (ps : Pins k) (l : Local) → HasCome k ps l (At n) → Sub (body_edges body n (site r k ps) ++ ending (site r k ps) n next (Some out)) (edges_in r k ps)
      → Leads (edges_in r k ps) (Some out) (station r k ps) → out.depth ≤ (site r k ps).depth → StandsMoved r (goes (lone body next ∷ k) l)
  lone_ok body next n out k ps l c h j i =
      settles r bottom proper (lone body next ∷ k) (record { first = 0; here = n; out = Some out }, ps) l c.awake
      ((λ e q. absurd q), no_more (body_edges body n (site r k ps) ++ ending (site r k ps) n next (Some out)) (edges_in r k ps) h, j, i, c.pinned) c.sized c.walk

  -- a list at its number
  list_ok : (ss : Steps) (n : ℕ) (p : Point) (out : Exit) (k : List Item) (ps : Pins k) (l : Local) → HasCome k ps l p → Sub (to_some p (first_in (site r k ps) ss n (Some out))) (edges_in r k ps)
      → Sub (steps_edges ss n (in_block ss n (site r k ps)) (Some out)) (edges_in r k ps) → Leads (edges_in r k ps) (Some out) (station r k ps) → out.depth ≤ (site r k ps).depth → StandsMoved r (goes (Do ss ss ∷ k) l)
  list_ok ss n p out k ps l c f h j i =
      let part = block_site ss n (site r k ps) (Some out) (edges_in r k ps) h in
      settles r bottom proper (Do ss ss ∷ k) (record { first = n; here = n; out = Some out }, ps) l c.awake (part, part, j, i, c.pinned) c.sized
      (subst (λ o. StandsAt (edges_in r k ps) (entry_in r k ps) o (chain l.layers (outer_vars l.outer))) (first_same ss n n (site r k ps) (in_list ss n (site r k ps)) (Some out) (sym (list_depth ss n (site r k ps))))
      (by (first_in (site r k ps) ss n (Some out)) f))
    where
      by : (o : Option Exit) → Sub (to_some p o) (edges_in r k ps) → StandsAt (edges_in r k ps) (entry_in r k ps) o (chain l.layers (outer_vars l.outer))
      by None g = tt
      by (Some e) g = goes_along (edges_in r k ps) (entry_in r k ps) p e (site r k ps).depth (chain l.layers (outer_vars l.outer)) (g (to_exit p e) (inl refl)) c.walk

  -- ## Tries
  entered_list : (ss : Steps) (p : Option Policy) (x : Except) (m n : ℕ) (d : Option ℕ) (k : List Item) (ps : Pins k) (l : Local) → HasCome k ps l (At (suc n)) → Sub (try_edges (try (Body.Block ss) p x) n (site r k ps)) (edges_in r k ps) → Ended r n k ps
      → StandsMoved r (goes (Do ss ss ∷ Try (try (Body.Block ss) p x) m d ∷ k) l)
  entered_list ss p x m n d k ps l c h j =
      let a = site r k ps in
      let b = in_try n a in
      let E = edges_in r k ps in
      let out = exit (EndOf (suc n)) a in
      let own = body_edges (Body.Block ss) (suc n) b in
      let end = ending b (suc n) None (Some (exit (EndOf n) a)) in
      let all = try_body E (Body.Block ss) p x n a h in
      let inside = sub_right E (failing b (At (suc n))) (to_some (At (suc n)) (first_in b ss (suc (suc n)) (Some out)) ++ steps_edges ss (suc (suc n)) (in_block ss (suc (suc n)) b) (Some out)) (sub_left E own end all) in
      let last = sub_right E (failing b (EndOf (suc n))) (to_some (EndOf (suc n)) (Some (exit (EndOf n) a))) (sub_right E own end all) in
      list_ok ss (suc (suc n)) (At (suc n)) out (Try (try (Body.Block ss) p x) m d ∷ k) (n, ps) l (record { awake = c.awake; pinned = (h, j, c.pinned); sized = c.sized; walk = c.walk })
      (sub_left E (to_some (At (suc n)) (first_in b ss (suc (suc n)) (Some out))) (steps_edges ss (suc (suc n)) (in_block ss (suc (suc n)) b) (Some out)) inside)
      (sub_right E (to_some (At (suc n)) (first_in b ss (suc (suc n)) (Some out))) (steps_edges ss (suc (suc n)) (in_block ss (suc (suc n)) b) (Some out)) inside)
      (inr (last (to_exit (EndOf (suc n)) (exit (EndOf n) a)) (inl refl), omega arith)) (omega arith)

  entered_lone : (body : Body) (p : Option Policy) (x : Except) (m n : ℕ) (d : Option ℕ) (k : List Item) (ps : Pins k) (l : Local) → HasCome k ps l (At (suc n)) → Sub (try_edges (try body p x) n (site r k ps)) (edges_in r k ps) → Ended r n k ps
      → StandsMoved r (goes (lone body None ∷ Try (try body p x) m d ∷ k) l)
  entered_lone body p x m n d k ps l c h j =
      let a = site r k ps in
      lone_ok body None (suc n) (exit (EndOf n) a) (Try (try body p x) m d ∷ k) (n, ps) l (record { awake = c.awake; pinned = (h, j, c.pinned); sized = c.sized; walk = c.walk }) (try_body (edges_in r k ps) body p x n a h) (inl (refl, refl)) (omega arith)

  pub entered_ok : (body : Body) (p : Option Policy) (x : Except) (m n : ℕ) (d : Option ℕ) (k : List Item) (ps : Pins k) (l : Local) → HasCome k ps l (At (suc n)) → Sub (try_edges (try body p x) n (site r k ps)) (edges_in r k ps) → Ended r n k ps
      → StandsMoved r (goes (entered body ∷ Try (try body p x) m d ∷ k) l)
  entered_ok (Body.Block ss) = entered_list ss
  entered_ok Body.Nothing = entered_lone Body.Nothing
  entered_ok (Body.Assign es) = entered_lone (Body.Assign es)
  entered_ok (Body.Call f) = entered_lone (Body.Call f)
  entered_ok (Body.Switch arms) = entered_lone (Body.Switch arms)
  entered_ok (Body.For b) = entered_lone (Body.For b)
  entered_ok (Body.Parallel b) = entered_lone (Body.Parallel b)
  entered_ok (Body.Try t) = entered_lone (Body.Try t)
  entered_ok (Body.Raise t) = entered_lone (Body.Raise t)
  entered_ok (Body.Return t) = entered_lone (Body.Return t)

  -- ## Arms
  -- a switch at number n goes on with an arm of these, or ends
  arm_ok : (body : Body) (next : Option Text) (m n : ℕ) (k : List Item) (ps : Pins k) (l : Local) → HasCome k ps l (At n) → IsAmong (passing (site r k ps) (At n) (EndOf n)) (edges_in r k ps) → Ended r n k ps
      → IsAmong (passing (site r k ps) (At n) (At m)) (edges_in r k ps) → IsAmong (passing (site r k ps) (At m) (At (suc m))) (edges_in r k ps)
      → Sub (body_edges body (suc m) (site r k ps) ++ ending (site r k ps) (suc m) next (Some (exit (EndOf n) (site r k ps)))) (edges_in r k ps) → MayFail r bottom proper s binds k ps l (At n) → StandsMoved r (goes (arm_items body next k) l)
  arm_ok body next m n k ps l c i j f g h at = by body next (lone_ok body next (suc m) (exit (EndOf n) (site r k ps)) k ps l (along k ps l (At m) (At (suc m)) (along k ps l (At n) (At m) c f) g) h j (omega arith))
    where
      by : (b : Body) (o : Option Text) → StandsMoved r (goes (lone b o ∷ k) l) → StandsMoved r (goes (arm_items b o k) l)
      by Body.Nothing None q = ends_ok r bottom proper s binds k ps l (At n) n at i j
      by Body.Nothing (Some x) q = q
      by (Body.Assign es) o q = q
      by (Body.Call b) o q = q
      by (Body.Switch arms) o q = q
      by (Body.For b) o q = q
      by (Body.Parallel b) o q = q
      by (Body.Block ss) o q = q
      by (Body.Try t) o q = q
      by (Body.Raise t) o q = q
      by (Body.Return t) o q = q

  arms_rest : (t : Template) (body : Body) (next : Option Text) (rest : Arms) (m n : ℕ) (a : Site) (E : List Edge) → Sub (arms_edges (arm t body next rest) m n a) E → Sub (arms_edges rest (m + suc (suc (body_size body))) n a) E
  arms_rest t body next rest m n a E h =
      let own = body_edges body (suc m) a in
      let end = ending a (suc m) next (Some (exit (EndOf n) a)) in
      let others = arms_edges rest (m + suc (suc (body_size body))) n a in
      let into = passing a (At m) (At (suc m)) in
      sub_right E (own ++ end) others (sub_tail E into (own ++ end ++ others) (sub_right E (failing a (At m)) (into ∷ (own ++ end ++ others)) (sub_tail E (passing a (At n) (At m)) (failing a (At m) ++ (into ∷ (own ++ end ++ others))) h)))

  arms_ok : (arms : Arms) (m n : ℕ) (k : List Item) (ps : Pins k) (l : Local) → HasCome k ps l (At n) → IsAmong (passing (site r k ps) (At n) (EndOf n)) (edges_in r k ps) → Ended r n k ps → Sub (arms_edges arms m n (site r k ps)) (edges_in r k ps)
      → MayFail r bottom proper s binds k ps l (At n) → StandsMoved r (on s k l (chosen (view s l) arms) λ o. goes (in_arm o k) l)
  arms_ok no_arms m n k ps l c i j h at = ends_ok r bottom proper s binds k ps l (At n) n at i j
  arms_ok (arm t body next rest) m n k ps l c i j h at = by (arms_ok rest (m + suc (suc (body_size body))) n k ps l c i j (arms_rest t body next rest m n (site r k ps) (edges_in r k ps) h) at) (fill t (view s l))
    where
      E : List Edge
      E = edges_in r k ps

      a : Site
      a = site r k ps

      own : List Edge
      own = body_edges body (suc m) a

      end : List Edge
      end = ending a (suc m) next (Some (exit (EndOf n) a))

      others : List Edge
      others = arms_edges rest (m + suc (suc (body_size body))) n a

      into : Edge
      into = passing a (At m) (At (suc m))

      inside : Sub (into ∷ (own ++ end ++ others)) E
      inside = sub_right E (failing a (At m)) (into ∷ (own ++ end ++ others)) (sub_tail E (passing a (At n) (At m)) (failing a (At m) ++ (into ∷ (own ++ end ++ others))) h)

      by : StandsMoved r (on s k l (chosen (view s l) rest) λ o. goes (in_arm o k) l) → (v : Answer Data) → StandsMoved r (on s k l (v >>= λ w. truth w >>= elim [ true ↦ Ok (Some (body, next)) | false ↦ chosen (view s l) rest ]) λ o. goes (in_arm o k) l)
      by f (Err q) = raises_ok r bottom proper s binds k ps l (At n) (error_map q) at
      by f (Ok w) = then_by (truth w)
        where
          then_by : (b : Answer Bool) → StandsMoved r (on s k l (b >>= elim [ true ↦ Ok (Some (body, next)) | false ↦ chosen (view s l) rest ]) λ o. goes (in_arm o k) l)
          then_by (Err q) = raises_ok r bottom proper s binds k ps l (At n) (error_map q) at
          then_by (Ok true) = arm_ok body next m n k ps l c i j (sub_head E (passing a (At n) (At m)) (failing a (At m) ++ (into ∷ (own ++ end ++ others))) h) (sub_head E into (own ++ end ++ others) inside) (sub_left E (own ++ end) others (sub_tail E into (own ++ end ++ others) inside)) at
          then_by (Ok false) = f

  -- all branches are left at first
  left_ok : (b : ParallelBody) (w : WorkLeft) (n : ℕ) (k : List Item) (ps : Pins k) (l : Local) → Sub (body_edges (Body.Parallel b) n (site r k ps)) (edges_in r k ps) → work (view s l) b ≡ Ok w → LeftPinned w (suc n) n (site r k ps) (edges_in r k ps)
  left_ok (parallel names limit (OfBranches bs)) w n k ps l h e =
      let parts = branches_edges bs (suc n) n (site r k ps) in
      subst (λ z. LeftPinned z (suc n) n (site r k ps) (edges_in r k ps)) (ap (work_or w) e) (sub_tail (edges_in r k ps) (passing (site r k ps) (At n) (EndOf n)) parts (rest_of k ps n (passing (site r k ps) (At n) (EndOf n) ∷ parts) h))
  left_ok (parallel names limit (OfLoop (loop x i o ss))) w n k ps l h e = by (over (view s l) o) e
    where
      by : (a : Answer Left) → (a >>= λ left. Ok (ValuesLeft (counted_left left))) ≡ Ok w → LeftPinned w (suc n) n (site r k ps) (edges_in r k ps)
      by (Err t) q = absurd (cc q)
      by (Ok left) q = subst (λ z. LeftPinned z (suc n) n (site r k ps) (edges_in r k ps)) (ap (work_or w) q) tt

  -- ## Bodies
  pub body_ok : (body : Body) (n : ℕ) (k : List Item) (ps : Pins k) (l : Local) → HasCome k ps l (At n) → Sub (body_edges body n (site r k ps)) (edges_in r k ps) → Ended r n k ps → StandsMoved r (performs s body k l)
  body_ok Body.Nothing n k ps l c h j = ends_ok r bottom proper s binds k ps l (At n) n (may_fail k ps l n _ c h) (rest_of k ps n _ h (passing (site r k ps) (At n) (EndOf n)) (inl refl)) j
  body_ok (Body.Assign []) n k ps l c h j = ends_ok r bottom proper s binds k ps l (At n) n (may_fail k ps l n _ c h) (rest_of k ps n _ h (passing (site r k ps) (At n) (EndOf n)) (inl refl)) j
  body_ok (Body.Assign (e ∷ es)) n k ps l c h j =
      let E = edges_in r k ps in
      let into = passing (site r k ps) (At n) (At (suc n)) in
      let entries = entries_edges (e ∷ es) (suc n) n (site r k ps) in
      assigns_ok e es (suc n) n k ps l (along k ps l (At n) (At (suc n)) c (sub_head E into entries (rest_of k ps n (into ∷ entries) h))) (sub_tail E into entries (rest_of k ps n (into ∷ entries) h)) j
  body_ok (Body.Call f) n k ps l c h j = calls_ok f n k ps l c h j
  body_ok (Body.Switch arms) n k ps l c h j =
      let E = edges_in r k ps in
      let end = passing (site r k ps) (At n) (EndOf n) in
      let parts = arms_edges arms (suc n) n (site r k ps) in
      arms_ok arms (suc n) n k ps l c (sub_head E end parts (rest_of k ps n (end ∷ parts) h)) j (sub_tail E end parts (rest_of k ps n (end ∷ parts) h)) (may_fail k ps l n (end ∷ parts) c h)
  body_ok (Body.For (loop x i o ss)) n k ps l c h j =
      let E = edges_in r k ps in
      let into = passing (site r k ps) (At n) (HeadOf n) in
      let parts = loop_edges (loop x i o ss) n (site r k ps) in
      on_ok r bottom proper s binds k ps l (At n) (over (view s l) o) (λ left. goes (Loop (loop x i o ss) left 0 ∷ k) l) (may_fail k ps l n (into ∷ parts) c h)
      (λ left q. settles r bottom proper (Loop (loop x i o ss) left 0 ∷ k) (n, ps) l c.awake (sub_tail E into parts (rest_of k ps n (into ∷ parts) h), j, c.pinned) c.sized
      (along k ps l (At n) (HeadOf n) c (sub_head E into parts (rest_of k ps n (into ∷ parts) h))).walk)
  body_ok (Body.Parallel b) n k ps l c h j =
      let at = may_fail k ps l n _ c h in
      bool_case (StandsMoved r) (nat_le (limits s.facts.rules).nesting s.nesting) _ (on s k l (work (view s l) b) λ w. goes (Join b w 0 [] [] ∷ k) l) (λ q. raises_ok r bottom proper s binds k ps l (At n) _ at)
      (λ q. on_ok r bottom proper s binds k ps l (At n) (work (view s l) b) (λ w. goes (Join b w 0 [] [] ∷ k) l) at
      (λ w q2. settles r bottom proper (Join b w 0 [] [] ∷ k) (record { number = n; left = suc n }, ps) l c.awake (h, j, c.pinned, left_ok b w n k ps l h q2) c.sized c.walk))
  body_ok (Body.Block ss) n k ps l c h j =
      let E = edges_in r k ps in
      let out = exit (EndOf n) (site r k ps) in
      let first = to_some (At n) (first_in (site r k ps) ss (suc n) (Some out)) in
      let parts = steps_edges ss (suc n) (in_block ss (suc n) (site r k ps)) (Some out) in
      list_ok ss (suc n) (At n) out k ps l c (sub_left E first parts (rest_of k ps n (first ++ parts) h)) (sub_right E first parts (rest_of k ps n (first ++ parts) h)) j (omega arith)
  body_ok (Body.Try (try body p x)) n k ps l c h j =
      let E = edges_in r k ps in
      let into = passing (site r k ps) (At n) (At (suc n)) in
      let parts = try_edges (try body p x) n (site r k ps) in
      entered_ok body p x 0 n None k ps l (along k ps l (At n) (At (suc n)) c (sub_head E into parts (rest_of k ps n (into ∷ parts) h))) (sub_tail E into parts (rest_of k ps n (into ∷ parts) h)) j
  body_ok (Body.Raise t) n k ps l c h j =
      let at = may_fail k ps l n [] c h in
      on_ok r bottom proper s binds k ps l (At n) (fill t (view s l) >>= raised) (λ v. raises s k l v) at (λ v q. raises_ok r bottom proper s binds k ps l (At n) v at)
  body_ok (Body.Return t) n k ps l c h j = on_ok r bottom proper s binds k ps l (At n) (fill t (view s l)) (λ v. returns s v k l) (may_fail k ps l n [] c h) (λ v q. returned_ok r bottom proper s binds v l k ps l c.awake c.pinned c.sized)

  -- ## Steps
  abbrev IsNothing : Body → Type 0
  IsNothing Body.Nothing = Unit {0}
  IsNothing body = ⊥

  -- a step with no jump of its own is its body, with its `next` outside
  abbrev StepsOn : Body → Option Text → List Item → Local → Type 0
  StepsOn body next k l = StandsMoved r (performs s body (then_item next k) l) → StandsMoved r (steps_on s body next k l)

  by_body : (body : Body) (k : List Item) (l : Local) → StepsOn body None k l
  by_body Body.Nothing k l h = h
  by_body (Body.Assign es) k l h = h
  by_body (Body.Call f) k l h = h
  by_body (Body.Switch arms) k l h = h
  by_body (Body.For b) k l h = h
  by_body (Body.Parallel b) k l h = h
  by_body (Body.Block ss) k l h = h
  by_body (Body.Try t) k l h = h
  by_body (Body.Raise t) k l h = h
  by_body (Body.Return t) k l h = h

  by_next : (body : Body) (x : Text) (k : List Item) (l : Local) → (IsNothing body → StandsMoved r (jumps s x k l)) → StepsOn body (Some x) k l
  by_next Body.Nothing x k l j h = j tt
  by_next (Body.Assign es) x k l j h = h
  by_next (Body.Call f) x k l j h = h
  by_next (Body.Switch arms) x k l j h = h
  by_next (Body.For b) x k l j h = h
  by_next (Body.Parallel b) x k l j h = h
  by_next (Body.Block ss) x k l j h = h
  by_next (Body.Try t) x k l j h = h
  by_next (Body.Raise t) x k l j h = h
  by_next (Body.Return t) x k l j h = h

  -- where the end of a step with this `next` leads
  jump_from : (x : Text) (n : ℕ) (k : List Item) (ps : Pins k) (l : Local) → HasCome k ps l (EndOf n) → Sub (to_some (EndOf n) (jump (site r k ps) x)) (edges_in r k ps) → StandsMoved r (jumps s x k l)
  jump_from x n k ps l c h = jumps_ok r bottom proper s binds x k ps l c.awake c.pinned c.sized (by (jump (site r k ps) x) h)
    where
      by : (o : Option Exit) → Sub (to_some (EndOf n) o) (edges_in r k ps) → StandsAt (edges_in r k ps) (entry_in r k ps) o (chain l.layers (outer_vars l.outer))
      by None g = tt
      by (Some e) g = goes_along (edges_in r k ps) (entry_in r k ps) (EndOf n) e (site r k ps).depth (chain l.layers (outer_vars l.outer)) (g (to_exit (EndOf n) e) (inl refl)) c.walk

  -- a body, and what stands behind it: k goes on where its end leads
  Carries : Body → ℕ → Local → (List Item → Moved) → Type 0
  Carries body n l f = (k : List Item) (ps : Pins k) → HasCome k ps l (At n) → Sub (body_edges body n (site r k ps)) (edges_in r k ps) → Ended r n k ps → StandsMoved r (f k)

  step_ok : (f : List Item → Moved) (body : Body) (next : Option Text) (n : ℕ) (out : Option Exit) (k : List Item) (ps : Pins k) (l : Local) → Carries body n l f → HasCome k ps l (At n) → Sub (body_edges body n (site r k ps)) (edges_in r k ps)
      → Sub (ending (site r k ps) n next out) (edges_in r k ps) → out ≡ station r k ps → Shallow out (site r k ps).depth → StandsMoved r (f (then_item next k))
  unfolding Carries
  step_ok f body None n out k ps l q c h g e i = q k ps c h (by out e i (sub_right (edges_in r k ps) (failing (site r k ps) (EndOf n)) (to_some (EndOf n) out) g))
    where
      by : (o : Option Exit) → o ≡ station r k ps → Shallow o (site r k ps).depth → Sub (to_some (EndOf n) o) (edges_in r k ps) → Ended r n k ps
      by None u v w = subst (λ z. Arrives (edges_in r k ps) (EndOf n) (site r k ps).depth z) u tt
      by (Some x) u v w = subst (λ z. Arrives (edges_in r k ps) (EndOf n) (site r k ps).depth z) u (inr (w (to_exit (EndOf n) x) (inl refl), v))
  step_ok f body (Some x) n out k ps l q c h g e i = q (Then x ∷ k) (n, ps) (record { awake = c.awake; pinned = (g, c.pinned); sized = c.sized; walk = c.walk }) h (inl (refl, refl))

  nothing_ends : (body : Body) → IsNothing body → (n : ℕ) (a : Site) (E : List Edge) → Sub (body_edges body n a) E → IsAmong (passing a (At n) (EndOf n)) E
  nothing_ends Body.Nothing i n a E h = h (passing a (At n) (EndOf n)) (in_right (passing a (At n) (EndOf n)) (failing a (At n)) (passing a (At n) (EndOf n) ∷ []) (inl refl))
  nothing_ends (Body.Assign es) i n a E h = absurd i
  nothing_ends (Body.Call f) i n a E h = absurd i
  nothing_ends (Body.Switch arms) i n a E h = absurd i
  nothing_ends (Body.For b) i n a E h = absurd i
  nothing_ends (Body.Parallel b) i n a E h = absurd i
  nothing_ends (Body.Block ss) i n a E h = absurd i
  nothing_ends (Body.Try t) i n a E h = absurd i
  nothing_ends (Body.Raise t) i n a E h = absurd i
  nothing_ends (Body.Return t) i n a E h = absurd i

  -- a step is carried out
  module _ (x : Text) (body : Body) (next : Option Text) (left block : Steps) (k : List Item) (ps : Pins (Do block (more (step x body next) left) ∷ k)) (l : Local) (a : l.wait ≡ Awake) (h : Pinned r (Do block (more (step x body next) left) ∷ k) ps)
      (z : Sized r k ps.1 l.layers (outer_vars l.outer)) (w : StandsAt (edges_in r k ps.1) (entry_in r k ps.1) (station r (Do block (more (step x body next) left) ∷ k) ps) (chain l.layers (outer_vars l.outer))) where
    abbrev E : List Edge
    E = edges_in r k ps.1

    abbrev site_here : Site
    site_here = in_list block ps.0.first (site r k ps.1)

    abbrev later : ℕ
    later = ps.0.here + suc (body_size body)

    abbrev out : Option Exit
    out = first_in site_here left later ps.0.out

    abbrev K : List Item
    K = Do block left ∷ k

    abbrev qs : Pins K
    qs = (record { first = ps.0.first; here = later; out = ps.0.out }, ps.1)

    this : Sub (step_edges (step x body next) ps.0.here site_here out) E
    this = sub_left E (step_edges (step x body next) ps.0.here site_here out) (steps_edges left later site_here ps.0.out) h.1

    own : Sub (body_edges body ps.0.here site_here) E
    own = sub_left E (body_edges body ps.0.here site_here) (ending site_here ps.0.here next out) this

    ending_part : Sub (ending site_here ps.0.here next out) E
    ending_part = sub_right E (body_edges body ps.0.here site_here) (ending site_here ps.0.here next out) this

    come : HasCome K qs l (At ps.0.here)
    come = record { awake = a; pinned = (h.0, sub_right E (step_edges (step x body next) ps.0.here site_here out) (steps_edges left later site_here ps.0.out) h.1, h.2, h.3, h.4); sized = z; walk = w }

    out_shallow : (ss : Steps) → Shallow (first_in site_here ss later ps.0.out) site_here.depth
    out_shallow no_steps = subst (Shallow ps.0.out) (sym (list_depth block ps.0.first (site r k ps.1))) h.3
    out_shallow (more t ts) = omega arith

    carried : (f : List Item → Moved) → Carries body ps.0.here l f → StandsMoved r (f (then_item next K))
    carried f q = step_ok f body next ps.0.here out K qs l q come own ending_part refl (out_shallow left)

  steps_ok : (x : Text) (body : Body) (next : Option Text) (left block : Steps) (k : List Item) (ps : Pins (Do block (more (step x body next) left) ∷ k)) (l : Local) → l.wait ≡ Awake → Pinned r (Do block (more (step x body next) left) ∷ k) ps
      → Sized r k ps.1 l.layers (outer_vars l.outer) → StandsAt (edges_in r k ps.1) (entry_in r k ps.1) (station r (Do block (more (step x body next) left) ∷ k) ps) (chain l.layers (outer_vars l.outer)) → StandsMoved r (steps_on s body next (Do block left ∷ k) l)
  unfolding Carries
  steps_ok x body None left block k ps l a h z w =
      by_body body (Do block left ∷ k) l (carried x body None left block k ps l a h z w (λ q. performs s body q l) (λ q qs c e j. body_ok body ps.0.here q qs l c e j))
  steps_ok x body (Some y) left block k ps l a h z w =
      let E = edges_in r k ps.1 in
      let b = in_list block ps.0.first (site r k ps.1) in
      let K = Do block left ∷ k in
      let qs : Pins K = (record { first = ps.0.first; here = ps.0.here + suc (body_size body); out = ps.0.out }, ps.1) in
      by_next body y K l
      (λ i. jump_from y ps.0.here K qs l
      (along K qs l (At ps.0.here) (EndOf ps.0.here) (come x body (Some y) left block k ps l a h z w) (nothing_ends body i ps.0.here b E (own x body (Some y) left block k ps l a h z w)))
      (sub_right E (failing b (EndOf ps.0.here)) (to_some (EndOf ps.0.here) (jump b y)) (ending_part x body (Some y) left block k ps l a h z w)))
      (carried x body (Some y) left block k ps l a h z w (λ q. performs s body q l) (λ q qs2 c e j. body_ok body ps.0.here q qs2 l c e j))

  -- ## The moves
  abbrev Stands : Local → Type 0
  Stands l = Standing.Standing r l.control l.layers (outer_vars l.outer)

  joins_ok : (b : ParallelBody) (es : List (ℕ × Data)) (n : ℕ) (k : List Item) (ps : Pins k) (l : Local) → HasCome k ps l (At n) → Sub (body_edges (Body.Parallel b) n (site r k ps)) (edges_in r k ps) → Ended r n k ps → StandsMoved r (joins s b es k l)
  joins_ok b [] n k ps l c h j =
      let parts = parallel_edges b n (site r k ps) in
      ends_ok r bottom proper s binds k ps l (At n) n (may_fail k ps l n _ c h) (rest_of k ps n (passing (site r k ps) (At n) (EndOf n) ∷ parts) h (passing (site r k ps) (At n) (EndOf n)) (inl refl)) j
  joins_ok b (e ∷ es) n k ps l c h j = raises_ok r bottom proper s binds k ps l (At n) _ (may_fail k ps l n _ c h)

  -- a loop's next iteration, or its end
  turns_ok : (b : LoopBody) (o : Option (Data × Left)) (i n : ℕ) (k : List Item) (ps : Pins k) (l : Local) → HasCome k ps l (HeadOf n) → Sub (loop_edges b n (site r k ps)) (edges_in r k ps) → Ended r n k ps → StandsMoved r (turns s b o i k l)
  turns_ok (loop x y o ss) q i n k ps l c h j = by q
    where
      E : List Edge
      E = edges_in r k ps

      a : Site
      a = site r k ps

      out : Option Exit
      out = Some (exit (HeadOf n) a)

      enter_edges : List Edge
      enter_edges = entering a.depth (HeadOf n) ss (suc n) (loop_binds x y) out

      inner : List Edge
      inner = steps_edges ss (suc n) (in_loop ss n a) out

      end : Edge
      end = passing a (HeadOf n) (EndOf n)

      tail : Sub (failing a (HeadOf n) ++ enter_edges ++ inner) E
      tail = sub_tail E end (failing a (HeadOf n) ++ enter_edges ++ inner) h

      at : MayFail r bottom proper s binds k ps l (HeadOf n)
      at = record { awake = c.awake; pinned = c.pinned; sized = c.sized; fails = sub_left E (failing a (HeadOf n)) enter_edges (sub_left E (failing a (HeadOf n) ++ enter_edges) inner tail); walk = c.walk }

      steps_here : Sub (steps_edges ss (suc n) (in_list ss (suc n) (deeper (looped n a))) out) E
      steps_here = loop_site ss n a out E (sub_right E (failing a (HeadOf n) ++ enter_edges) inner tail)

      names : (z : Option Text) (v : Data) (vars : Pairs) → HasAll (names_in (loop_names (loop x z o ss) v i)) vars → HasAll (loop_binds x z) vars
      names None v vars g = g
      names (Some w) v vars g = g

      by : (p : Option (Data × Left)) → StandsMoved r (turns s (loop x y o ss) p i k l)
      by None = ends_ok r bottom proper s binds k ps l (HeadOf n) n at (sub_head E end (failing a (HeadOf n) ++ enter_edges ++ inner) h) j
      by (Some p) =
          on_ok r bottom proper s binds k ps l (HeadOf n) (opened s l (loop_names (loop x y o ss) p.0 i)) (λ vars. goes (Do ss ss ∷ Mark ∷ Loop (loop x y o ss) p.1 (suc i) ∷ k) (enter false vars l)) at
          (λ vars e. settles r bottom proper (Do ss ss ∷ Mark ∷ Loop (loop x y o ss) p.1 (suc i) ∷ k) (record { first = suc n; here = suc n; out = out }, (tt, (n, ps))) (enter false vars l) c.awake
          (steps_here, steps_here, inl (refl, refl), omega arith, (h, j, c.pinned)) (tt, c.sized)
          (enters E (entry_in r k ps) (in_list ss (suc n) (deeper (looped n a))) a.depth ss (HeadOf n) (suc n) (loop_binds x y) out vars (chain l.layers (outer_vars l.outer)) (list_depth ss (suc n) (deeper (looped n a)))
          (size_is r (outer_vars l.outer) k ps l.layers c.sized) (sub_right E (failing a (HeadOf n)) enter_edges (sub_left E (failing a (HeadOf n) ++ enter_edges) inner tail)) (names y p.0 vars (binds l (loop_names (loop x y o ss) p.0 i) vars e)) c.walk))

  moves_ok : (k : List Item) (ps : Pins k) (l : Local) → l.wait ≡ Awake → Pinned r k ps → Sized r k ps l.layers (outer_vars l.outer) → StandsAt (edges_in r k ps) (entry_in r k ps) (station r k ps) (chain l.layers (outer_vars l.outer)) → StandsMoved r (moves s k l)
  moves_ok [] ps l a h z w = tt
  moves_ok (Do block no_steps ∷ k) ps l a h z w = tt
  moves_ok (Do block (more (step x body next) left) ∷ k) ps l a h z w = steps_ok x body next left block k ps l a h z w
  moves_ok (Entries [] ∷ k) ps l a h z w = tt
  moves_ok (Entries (e ∷ es) ∷ k) ps l a h z w = assigns_ok e es ps.0.here ps.0.number k ps.1 l (record { awake = a; pinned = h.2; sized = z; walk = w }) h.0 h.1
  moves_ok (Then x ∷ k) ps l a h z w =
      jump_from x ps.0 k ps.1 l (record { awake = a; pinned = h.1; sized = z; walk = w })
      (sub_right (edges_in r k ps.1) (failing (site r k ps.1) (EndOf ps.0)) (to_some (EndOf ps.0) (jump (site r k ps.1) x)) h.0)
  moves_ok (Loop b left i ∷ k) ps l a h z w = turns_ok b (next_of left) i ps.0 k ps.1 l (record { awake = a; pinned = h.2; sized = z; walk = w }) h.0 h.1
  moves_ok (Try t n d ∷ k) ps l a h z w = tt
  moves_ok (Judge t n d e ∷ k) ps l a h z w = tt
  moves_ok (Mark ∷ k) ps l a h z w = tt
  moves_ok (Back x ∷ k) ps l a h z w = returned_ok r bottom proper s binds null l (Back x ∷ k) ps l a h z
  moves_ok (Join b left n [] es ∷ k) ps l a h z w =
      bool_case (StandsMoved r) (is_empty left) (joins s b es k l) Not (λ e. joins_ok b es ps.0.number k ps.1 l (record { awake = a; pinned = h.2; sized = z; walk = w }) h.0 h.1) (λ e. tt)
  moves_ok (Join b left n (m ∷ ms) es ∷ k) ps l a h z w = tt

  -- each move of a task that stands so leaves it standing so
  pub move_stands : (l : Local) → l.wait ≡ Awake → Stands l → StandsMoved r (move s l)
  move_stands l a h = moves_ok l.control h.pins l a h.pinned h.sized h.walk

  -- a task that makes a request
  issued_ok : (body : Body) (x : Text) (next : Option Text) (left block : Steps) (k : List Item) (ps : Pins (Do block (more (step x body next) left) ∷ k)) (l : Local) → l.wait ≡ Awake → Pinned r (Do block (more (step x body next) left) ∷ k) ps
      → Sized r k ps.1 l.layers (outer_vars l.outer) → StandsAt (edges_in r k ps.1) (entry_in r k ps.1) (station r (Do block (more (step x body next) left) ∷ k) ps) (chain l.layers (outer_vars l.outer))
      → StandsMoved r (issues s (Do block (more (step x body next) left) ∷ k) l)
  unfolding Carries
  issued_ok (Body.Call f) x next left block k ps l a h z w =
      carried x (Body.Call f) next left block k ps l a h z w (λ q. issues_call s f (http_method (special_named f.name)) q l) (λ q qs c e j. issues_ok f (http_method (special_named f.name)) ps.0.here q qs l c e j)
  issued_ok Body.Nothing x next left block k ps l a h z w = tt
  issued_ok (Body.Assign es) x next left block k ps l a h z w = tt
  issued_ok (Body.Switch arms) x next left block k ps l a h z w = tt
  issued_ok (Body.For b) x next left block k ps l a h z w = tt
  issued_ok (Body.Parallel b) x next left block k ps l a h z w = tt
  issued_ok (Body.Block ss) x next left block k ps l a h z w = tt
  issued_ok (Body.Try t) x next left block k ps l a h z w = tt
  issued_ok (Body.Raise t) x next left block k ps l a h z w = tt
  issued_ok (Body.Return t) x next left block k ps l a h z w = tt

  issues_stand : (k : List Item) (ps : Pins k) (l : Local) → l.wait ≡ Awake → Pinned r k ps → Sized r k ps l.layers (outer_vars l.outer) → StandsAt (edges_in r k ps) (entry_in r k ps) (station r k ps) (chain l.layers (outer_vars l.outer)) → StandsMoved r (issues s k l)
  issues_stand [] ps l a h z w = tt
  issues_stand (Do block no_steps ∷ k) ps l a h z w = tt
  issues_stand (Do block (more (step x body next) left) ∷ k) ps l a h z w = issued_ok body x next left block k ps l a h z w
  issues_stand (Entries es ∷ k) ps l a h z w = tt
  issues_stand (Then x ∷ k) ps l a h z w = tt
  issues_stand (Loop b left i ∷ k) ps l a h z w = tt
  issues_stand (Try t n d ∷ k) ps l a h z w = tt
  issues_stand (Judge t n d e ∷ k) ps l a h z w = tt
  issues_stand (Mark ∷ k) ps l a h z w = tt
  issues_stand (Back x ∷ k) ps l a h z w = tt
  issues_stand (Join b left n running es ∷ k) ps l a h z w = tt

  pub issue_stands : (l : Local) → l.wait ≡ Awake → Stands l → StandsMoved r (issue s l)
  issue_stands l a h = issues_stand l.control h.pins l a h.pinned h.sized h.walk

  -- ## Waits that end
  -- a task that is given what it waited for
  pub resumed_stands : (x : Option Text) (v : Result Data Data) (l : Local) → Waiting r x l.control l.layers (outer_vars l.outer) → StandsMoved r (resumed s x v l)
  resumed_stands x v l h =
      let c : HasCome l.control h.pins (awake l) (At h.number) = record { awake = refl; pinned = h.pinned; sized = h.sized; walk = h.walk } in
      handed_ok r bottom proper s binds l.control h.pins (awake l) h.number x v (may_fail l.control h.pins (awake l) h.number _ c h.call) (call_edge l.control h.pins h.number x h.call) h.ended

  retries_stand : (k : List Item) (l : Local) → l.wait ≡ Awake → DelayedAt r k l.layers (outer_vars l.outer) → StandsMoved r (retries k l)
  retries_stand (Try (try body p x) n d ∷ k) l a h = entered_ok body p x n h.pins.0 d k h.pins.1 l (record { awake = a; pinned = h.pinned.2; sized = h.sized; walk = h.walk }) h.pinned.0 h.pinned.1
  retries_stand [] l a h = absurd h
  retries_stand (Do block left ∷ k) l a h = absurd h
  retries_stand (Entries es ∷ k) l a h = absurd h
  retries_stand (Then x ∷ k) l a h = absurd h
  retries_stand (Loop b left i ∷ k) l a h = absurd h
  retries_stand (Judge t n d e ∷ k) l a h = absurd h
  retries_stand (Mark ∷ k) l a h = absurd h
  retries_stand (Back x ∷ k) l a h = absurd h
  retries_stand (Join b left n running es ∷ k) l a h = absurd h

  -- at its due moment
  pub due_stands : (l : Local) → StandsLocal r l → StandsMoved r (due s l)
  due_stands l h = by l.wait h
    where
      by : (w : Wait) → Standing.StandsBy r w l.control l.layers (outer_vars l.outer) → StandsMoved r (due_by s w l)
      by Awake g = tt
      by (Sleep t x) g = resumed_stands x (Ok null) l g
      by (Delay t) g = retries_stand l.control (awake l) refl g
      by (Calling n x) g = resumed_stands x timeout_error l g
      by (Await n t x) g = resumed_stands x timeout_error l g

  -- ## Branches that begin
  task_site_same : (ss : Steps) (m : ℕ) (z : Looping) (a : Site) (E : List Edge) → Sub (steps_edges ss m (in_task ss m z a) None) E → Sub (steps_edges ss m (in_list ss m (task_site z a)) None) E
  task_site_same no_steps m z a E h = h
  task_site_same (more t ts) m z a E h = h

  -- the task of a parallel step at number n, in a layer with these names, whose chain outside is the parent's
  task_begins : (z : Looping) → Bottom (task_root z r.text r.site) → (ss : Steps) (m n : ℕ) (xs : List Text) (vars : Pairs) (k : List Item) (ps : Pins k) (l : Local) (os : List Outer) → HasCome k ps l (At n)
      → Sub (entering (site r k ps).depth (At n) ss m xs None) (edges_in r k ps) → Sub (steps_edges ss m (in_task ss m z (site r k ps)) None) (edges_in r k ps) → HasAll xs vars → outer_vars os ≡ chain l.layers (outer_vars l.outer)
      → StandsMoved (task_root z (text_in r k ps) (site r k ps)) (goes (Do ss ss ∷ []) (first_local vars os))
  task_begins z under ss m n xs vars k ps l os c h g i v =
      let a = site r k ps in
      let q = task_root z (text_in r k ps) a in
      let part = task_site_same ss m z a (edges_in r k ps) g in
      let size = size_is r (outer_vars l.outer) k ps l.layers c.sized in
      settles q (record { fails = refl; blocks = refl; continues = under.continues; breaks = under.breaks }) proper (Do ss ss ∷ []) (record { first = m; here = m; out = None }, tt) (first_local vars os) refl
      (part, part, refl, tt, tt) (ap suc (ap length v ∙ size), tt)
      (subst (λ ch. StandsAt (edges_in r k ps) (entry_in r k ps) (first_in (in_list ss m (task_site z a)) ss m None) (vars ∷ ch)) (sym v)
      (enters (edges_in r k ps) (entry_in r k ps) (in_list ss m (task_site z a)) a.depth ss (At n) m xs None vars (chain l.layers (outer_vars l.outer)) (list_depth ss m (task_site z a)) size h i c.walk))

  -- a branch begins, and the others stand at their numbers
  pub branch_begins : (names : List Text) (limit : Option ℕ) (w : Work) (x : Text) (ss : Steps) (bs : Branches) (n : ℕ) (running : List ℕ) (es : List (ℕ × Data)) (k : List Item) (l : Local) (os : List Outer) → l.wait ≡ Awake
      → (h : Standing.Standing r (Join (parallel names limit w) (BranchesLeft (branch x ss bs)) n running es ∷ k) l.layers (outer_vars l.outer)) → outer_vars os ≡ chain l.layers (outer_vars l.outer)
      → StandsMoved (task_root NoLoop (text_in r k h.pins.1) (site r k h.pins.1)) (goes (Do ss ss ∷ []) (first_local no_pairs os))
      × ((m : ℕ) (ms : List ℕ) (fs : List (ℕ × Data)) → Standing.Standing r (Join (parallel names limit w) (BranchesLeft bs) m ms fs ∷ k) l.layers (outer_vars l.outer))
  branch_begins names limit w x ss bs n running es k l os a h v =
      let p = h.pins.0 in
      let ps = h.pins.1 in
      let E = edges_in r k ps in
      let b = site r k ps in
      let into = entering b.depth (At p.number) ss (suc p.left) [] None in
      let own = steps_edges ss (suc p.left) (in_task ss (suc p.left) NoLoop b) None in
      let others = branches_edges bs (p.left + suc (steps_size ss)) p.number b in
      let c : HasCome k ps l (At p.number) = record { awake = a; pinned = h.pinned.2; sized = h.sized; walk = h.walk } in
      let first = sub_left E (into ++ own) others h.pinned.3 in (
        task_begins NoLoop (record { fails = refl; blocks = refl; continues = refl; breaks = refl }) ss (suc p.left) p.number [] no_pairs k ps l os c (sub_left E into own first) (sub_right E into own first) tt v,
        λ m ms fs. record { pins = (record { number = p.number; left = p.left + suc (steps_size ss) }, ps); pinned = (h.pinned.0, h.pinned.1, h.pinned.2, sub_right E (into ++ own) others h.pinned.3); sized = h.sized; walk = h.walk },
      )

  -- an iteration of a parallel loop begins
  pub turn_begins : (names : List Text) (limit : Option ℕ) (x : Text) (y : Option Text) (o : Over) (ss : Steps) (left rest : Left) (n : ℕ) (running : List ℕ) (es : List (ℕ × Data)) (vars : Pairs) (k : List Item) (l : Local) (os : List Outer) → l.wait ≡ Awake
      → (h : Standing.Standing r (Join (parallel names limit (OfLoop (loop x y o ss))) (ValuesLeft left) n running es ∷ k) l.layers (outer_vars l.outer)) → outer_vars os ≡ chain l.layers (outer_vars l.outer) → HasAll (loop_binds x y) vars
      → StandsMoved (task_root InTurn (text_in r k h.pins.1) (site r k h.pins.1)) (goes (Do ss ss ∷ []) (first_local vars os))
      × ((m : ℕ) (ms : List ℕ) (fs : List (ℕ × Data)) → Standing.Standing r (Join (parallel names limit (OfLoop (loop x y o ss))) (ValuesLeft rest) m ms fs ∷ k) l.layers (outer_vars l.outer))
  turn_begins names limit x y o ss left rest n running es vars k l os a h v i =
      let p = h.pins.0 in
      let ps = h.pins.1 in
      let E = edges_in r k ps in
      let b = site r k ps in
      let into = entering b.depth (At p.number) ss (suc p.number) (loop_binds x y) None in
      let own = steps_edges ss (suc p.number) (in_task ss (suc p.number) InTurn b) None in
      let c : HasCome k ps l (At p.number) = record { awake = a; pinned = h.pinned.2; sized = h.sized; walk = h.walk } in
      let parts = sub_tail E (passing b (At p.number) (EndOf p.number)) (into ++ own) (rest_of k ps p.number (passing b (At p.number) (EndOf p.number) ∷ (into ++ own)) h.pinned.0) in (
        task_begins InTurn (record { fails = refl; blocks = refl; continues = refl; breaks = refl }) ss (suc p.number) p.number (loop_binds x y) vars k ps l os c (sub_left E into own parts) (sub_right E into own parts) i v,
        λ m ms fs. record { pins = (p, ps); pinned = (h.pinned.0, h.pinned.1, h.pinned.2, tt); sized = h.sized; walk = h.walk },
      )
