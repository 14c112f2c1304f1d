-- A task that raises an error stands where a walk has come: the walk goes over the errors of each `try` outward.
use Rattle.std.specs.Prelude.{◌≡◌, ◌⊎◌, ℕ, suc, ◌<◌, Bool, true, false, ◌&&◌, ◌||◌, List, [], ◌∷◌, ◌++◌, ◌+◌, length, drop, if◌then◌else◌, nat_lt, nat_le, Some, None, Ok, Err, Option, bytes_eq}
use Rattle.std.proofs.Common.{arith}
use Rattle.std.proofs.lemmas.Bool.{lt-ltb}
use mathlib.Core.Logic.{inl, inr}
use mathlib.Core.Path.{refl, sym, subst}
use Rattle.wf_ast.specs.Flows.{flow}
use Rattle.wf_ast.specs.Nodes.{listed, param_names}
use Rattle.wf_ast.specs.Tree.{Flow, Steps, no_steps, more, Policy, Param, try, Except, no_except, except, Body}
use Rattle.wf_assigned.proofs.Reached.{Written, goes_on, goes_along}
use Rattle.wf_assigned.proofs.Settled.{list_depth, list_fails, size_is, fails_shallow, outside_mark, settles}
use Rattle.wf_assigned.specs.Edges.{Point, At, FailOf, EndOf, Edge, Exit, Site, to_exit, to_some, failing, first_in, entering, evaluated, writing, ending, retrying, in_try, in_flow, in_except, body_edges, steps_edges, except_edges, try_edges, flow_edges}
use Rattle.wf_assigned.specs.Standing
use Rattle.wf_assigned.specs.Standing.{HasAll, chain, held, Covers, Reach, Arrives, Leads, StandsAt, Shallow, Proper, Sub, in_list, deeper, exit, Workflow, Bottom, Root, Pin, Pins, text_in, edges_in, entry_in, site, station, Ended, Pinned, Sized, outer_vars, StandsMoved}
use Rattle.wf_assigned.specs.Walks.{IsAmong}
use Rattle.wf_model.proofs.Walk.{bool_case}
use Rattle.wf_model.specs.Config.{Layer, Item, Do, Entries, Then, Loop, Try, Judge, Mark, Back, Join, Awake, call_limit}
use Rattle.wf_model.specs.Layers.{opened, enter}
use Rattle.wf_model.specs.Local.{Local, Scene, Moved, leave, goes}
use Rattle.wf_model.specs.Spots.{body_size, steps_size}
use Rattle.wf_model.specs.Unwind.{calls_in, Judgement, Says, Asks, judged, retried, excepted, handled, called, asked_one, asks, decided, unwind}
use Rattle.wf_never_wrong.specs.Places.{has, IsJudge}
use Rattle.wf_value.specs.Data.{Data, Pairs}
use Rattle.wf_value.specs.Errors.{error_map, Answer}
use Rattle.wf_value.specs.declared.Tag.TheVariants.{RecursionError}
use Rattle.wf_value.specs.Pairs.{Text}

-- ## Edges of parts
pub in_left : (e : Edge) (xs ys : List Edge) → IsAmong e xs → IsAmong e (xs ++ ys)
in_left e [] ys h = absurd h
in_left e (x ∷ xs) ys (inl h) = inl h
in_left e (x ∷ xs) ys (inr h) = inr (in_left e xs ys h)

pub in_right : (e : Edge) (xs ys : List Edge) → IsAmong e ys → IsAmong e (xs ++ ys)
in_right e [] ys h = h
in_right e (x ∷ xs) ys h = inr (in_right e xs ys h)

module _ (E : List Edge) where
  pub sub_left : (xs ys : List Edge) → Sub (xs ++ ys) E → Sub xs E
  sub_left xs ys h e i = h e (in_left e xs ys i)

  pub sub_right : (xs ys : List Edge) → Sub (xs ++ ys) E → Sub ys E
  sub_right xs ys h e i = h e (in_right e xs ys i)

  pub sub_tail : (x : Edge) (xs : List Edge) → Sub (x ∷ xs) E → Sub xs E
  sub_tail x xs h e i = h e (inr i)

  pub sub_head : (x : Edge) (xs : List Edge) → Sub (x ∷ xs) E → IsAmong x E
  sub_head x xs h = h x (inl refl)

abbrev pub names_in : List (Text × Data) → List Text
names_in [] = []
names_in (x ∷ xs) = x.0 ∷ names_in xs

-- ## New layers
pub held_in : (d : ℕ) (x : Text) (l : Pairs) (ch : List Pairs) → length ch < d → has x l ≡ true → held d x (l ∷ ch) ≡ true
held_in d x l ch h i = by (nat_lt (length ch) d) (has x l) (lt-ltb (length ch) d h) i
  where
    by : (b c : Bool) → b ≡ true → c ≡ true → ((b && c) || held d x ch) ≡ true
    by true true e f = refl
    by true false e f = absurd (cc f)
    by false c e f = absurd (cc e)

pub held_more : (d : ℕ) (x : Text) (l : Pairs) (ch : List Pairs) → held d x ch ≡ true → held d x (l ∷ ch) ≡ true
held_more d x l ch h = by (nat_lt (length ch) d && has x l) (held d x ch) h
  where
    by : (b c : Bool) → c ≡ true → (b || c) ≡ true
    by true c e = refl
    by false c e = e

pub written_in : (d : ℕ) (xs : List Text) (l : Pairs) (ch : List Pairs) → length ch < d → HasAll xs l → Written d xs (l ∷ ch)
written_in d [] l ch h i = tt
written_in d (x ∷ xs) l ch h i = (held_in d x l ch h i.0, written_in d xs l ch h i.1)

module _ (E : List Edge) (entry : Point) where
  -- into a list of steps in a layer of its own
  pub enters : (b : Site) (depth : ℕ) (ss : Steps) (p : Point) (m : ℕ) (xs : List Text) (out : Option Exit) (vars : Pairs) (ch : List Pairs) → b.depth ≡ suc depth → length ch ≡ depth
      → Sub (entering depth p ss m xs out) E → HasAll xs vars → Reach E entry p depth ch → StandsAt E entry (first_in b ss m out) (vars ∷ ch)
  enters b depth no_steps p m xs None vars ch i j h n w = tt
  enters b depth no_steps p m xs (Some e) vars ch i j h n w = goes_on E entry (to_exit p e) (h (to_exit p e) (inl refl)) depth ch (vars ∷ ch) w (λ d x l k. held_more d x vars ch k) tt
  enters b depth (more s ss) p m xs out vars ch i j h n w =
      subst (λ z. Reach E entry (At m) z (vars ∷ ch)) (sym i)
      (goes_on E entry (record { from = p; to = At m; keeps = depth; depth = suc depth; writes = xs }) (h (record { from = p; to = At m; keeps = depth; depth = suc depth; writes = xs }) (inl refl)) depth ch (vars ∷ ch) w
      (λ d x l k. held_more d x vars ch k) (written_in (suc depth) xs vars ch (omega (arith, j)) n))

  -- an error at a point
  pub fails_from : (a : Site) (p : Point) (d : ℕ) (ch : List Pairs) → Sub (failing a p) E → Reach E entry p d ch → StandsAt E entry a.fails ch
  fails_from a p d ch h w = by a.fails h
    where
      by : (o : Option Exit) → Sub (to_some p o) E → StandsAt E entry o ch
      by None i = tt
      by (Some e) i = goes_along E entry p e d ch (i (to_exit p e) (inl refl)) w

-- the edges of an except's list do not ask for what stands in it
except_site : (ss : Steps) (m : ℕ) (a : Site) (out : Option Exit) (E : List Edge) → Sub (steps_edges ss m (in_except ss m a) out) E → Sub (steps_edges ss m (in_list ss m (deeper a)) out) E
except_site no_steps m a out E h = h
except_site (more s ss) m a out E h = h

-- and those of a workflow's
flow_site : (ss : Steps) (n : ℕ) (E : List Edge) → Sub (steps_edges ss (suc n) (in_flow ss n) None) E → Sub (steps_edges ss (suc n) (in_list ss (suc n) Standing.call_site) None) E
flow_site no_steps n E h = h
flow_site (more s ss) n E h = h

-- the parts of a workflow, and the walk that is at its entry
pub flow_steps : (g : Flow) (n : ℕ) → Sub (steps_edges g.steps (suc n) (in_list g.steps (suc n) Standing.call_site) None) (flow_edges g n)
unfolding flow_edges
flow_steps g n = flow_site g.steps n (flow_edges g n) (sub_right (flow_edges g n) (entering 0 (At n) g.steps (suc n) (param_names g.params) None) (steps_edges g.steps (suc n) (in_flow g.steps n) None) (λ e i. i))

pub flow_enters : (g : Flow) (n : ℕ) → Sub (entering 0 (At n) g.steps (suc n) (param_names g.params) None) (flow_edges g n)
unfolding flow_edges
flow_enters g n = sub_left (flow_edges g n) (entering 0 (At n) g.steps (suc n) (param_names g.params) None) (steps_edges g.steps (suc n) (in_flow g.steps n) None) (λ e i. i)

pub begins_flow : (g : Flow) (n : ℕ) (vars : Pairs) → HasAll (param_names g.params) vars → StandsAt (flow_edges g n) (At n) (first_in (in_list g.steps (suc n) Standing.call_site) g.steps (suc n) None) (vars ∷ [])
begins_flow g n vars h =
    enters (flow_edges g n) (At n) (in_list g.steps (suc n) Standing.call_site) 0 g.steps (At n) (suc n) (param_names g.params) None vars [] (list_depth g.steps (suc n) Standing.call_site) refl (flow_enters g n) h
    (record { walk = []; is = refl; depth = refl; covers = tt })

-- the parts of a try
module _ (E : List Edge) (body : Body) (policy : Option Policy) (x : Except) (n : ℕ) (a : Site) (h : Sub (try_edges (try body policy x) n a) E) where
  abbrev body_part : List Edge
  body_part = body_edges body (suc n) (in_try n a) ++ ending (in_try n a) (suc n) None (Some (exit (EndOf n) a))

  pub try_body : Sub (body_edges body (suc n) (in_try n a) ++ ending (in_try n a) (suc n) None (Some (exit (EndOf n) a))) E
  try_body = sub_left E body_part (retrying policy n a) (sub_left E (body_part ++ retrying policy n a) (failing a (FailOf n)) (sub_left E (body_part ++ retrying policy n a ++ failing a (FailOf n)) (except_edges x (n + suc (suc (body_size body))) n a) h))

  pub try_retries : Sub (retrying policy n a) E
  try_retries = sub_right E body_part (retrying policy n a) (sub_left E (body_part ++ retrying policy n a) (failing a (FailOf n)) (sub_left E (body_part ++ retrying policy n a ++ failing a (FailOf n)) (except_edges x (n + suc (suc (body_size body))) n a) h))

  pub try_fails : Sub (failing a (FailOf n)) E
  try_fails = sub_right E (body_part ++ retrying policy n a) (failing a (FailOf n)) (sub_left E (body_part ++ retrying policy n a ++ failing a (FailOf n)) (except_edges x (n + suc (suc (body_size body))) n a) h)

  pub try_except : Sub (except_edges x (n + suc (suc (body_size body))) n a) E
  try_except = sub_right E (body_part ++ retrying policy n a ++ failing a (FailOf n)) (except_edges x (n + suc (suc (body_size body))) n a) h

-- ## Errors
-- the workflow of this name, with its number
abbrev pub number_of : List Flow → Text → ℕ → ℕ
number_of [] x n = n
number_of (f ∷ fs) x n = if bytes_eq f.name x then n else number_of fs x (n + suc (steps_size f.steps))

-- new layers have the names that are bound in them
abbrev pub Binds : Scene → Type 0
Binds s = (l : Local) (xs : List (Text × Data)) (ps : Pairs) → opened s l xs ≡ Ok ps → HasAll (names_in xs) ps

-- an error where a predicate is asked
judge_fails_in : (r : Root) (outer : List Pairs) (k : List Item) (ps : Pins k) (ls : List Layer) → IsJudge k → Sized r k ps ls outer → Pinned r k ps → StandsAt (edges_in r k ps) (entry_in r k ps) (site r k ps).fails (chain ls outer)
judge_fails_in r outer (Judge (try body p x) m d e ∷ k) ps ls i z h =
    fails_from (edges_in r k ps.1) (entry_in r k ps.1) (site r k ps.1) (FailOf ps.0) (site r k ps.1).depth (chain ls outer) (try_fails (edges_in r k ps.1) body p x ps.0 (site r k ps.1) h.0) z.0
judge_fails_in r outer [] ps ls i z h = absurd i
judge_fails_in r outer (Do block left ∷ k) ps ls i z h = absurd i
judge_fails_in r outer (Entries es ∷ k) ps ls i z h = absurd i
judge_fails_in r outer (Then x ∷ k) ps ls i z h = absurd i
judge_fails_in r outer (Loop b left n ∷ k) ps ls i z h = absurd i
judge_fails_in r outer (Try t n d ∷ k) ps ls i z h = absurd i
judge_fails_in r outer (Mark ∷ k) ps ls i z h = absurd i
judge_fails_in r outer (Back x ∷ k) ps ls i z h = absurd i
judge_fails_in r outer (Join b left n running es ∷ k) ps ls i z h = absurd i

module _ (r : Root) (bottom : Bottom r) (proper : (f : Flow) (n : ℕ) → Proper (flow_edges f n)) (s : Scene) (binds : Binds s) where
  -- an except block begins
  excepts : (x : Text) (ss : Steps) (m n : ℕ) (k : List Item) (ps : Pins k) (l : Local) (vars : Pairs) → l.wait ≡ Awake → Pinned r k ps → Sized r k ps l.layers (outer_vars l.outer)
      → Sub (except_edges (except x ss) m n (site r k ps)) (edges_in r k ps) → Ended r n k ps
      → Reach (edges_in r k ps) (entry_in r k ps) (FailOf n) (site r k ps).depth (chain l.layers (outer_vars l.outer)) → has x vars ≡ true
      → StandsMoved r (goes (Do ss ss ∷ Mark ∷ k) (enter false vars l))
  excepts x ss m n k ps l vars e h z i j w v =
      let a = site r k ps in
      let out = Some (exit (EndOf n) a) in
      let part = except_site ss m a out (edges_in r k ps) (sub_right (edges_in r k ps) (entering a.depth (FailOf n) ss m (x ∷ []) out) (steps_edges ss m (in_except ss m a) out) i) in
      settles r bottom proper (Do ss ss ∷ Mark ∷ k) (record { first = m; here = m; out = out }, (tt, ps)) (enter false vars l) e
      (part, part, j, omega arith, h) (tt, z)
      (enters (edges_in r k ps) (entry_in r k ps) (in_list ss m (deeper a)) a.depth ss (FailOf n) m (x ∷ []) out vars (chain l.layers (outer_vars l.outer)) (list_depth ss m (deeper a)) (size_is r (outer_vars l.outer) k ps l.layers z)
      (sub_left (edges_in r k ps) (entering a.depth (FailOf n) ss m (x ∷ []) out) (steps_edges ss m (in_except ss m a) out) i) (v, tt) w)

  -- without `except` the error goes outward
  pub handles : (e : Data) (body : Body) (p : Option Policy) (x : Except) (n : ℕ) (k : List Item) (ps : Pins k) (l : Local) (outward : Data → Moved) → l.wait ≡ Awake → Pinned r k ps → Sized r k ps l.layers (outer_vars l.outer)
      → Sub (try_edges (try body p x) n (site r k ps)) (edges_in r k ps) → Ended r n k ps
      → Reach (edges_in r k ps) (entry_in r k ps) (FailOf n) (site r k ps).depth (chain l.layers (outer_vars l.outer))
      → ((d : Data) → StandsMoved r (outward d)) → StandsMoved r (handled s e (try body p x) k l outward)
  handles e body p no_except n k ps l outward a h z i j w f = f e
  handles e body p (except x ss) n k ps l outward a h z i j w f = by (opened s l ((x, e) ∷ [])) refl
    where
      by : (o : Answer Pairs) → opened s l ((x, e) ∷ []) ≡ o → StandsMoved r (excepted o ss k l outward)
      by (Err t) q = f (error_map t)
      by (Ok vars) q =
          excepts x ss (n + suc (suc (body_size body))) n k ps l vars a h z (try_except (edges_in r k ps) body p (except x ss) n (site r k ps) i) j w (binds l ((x, e) ∷ []) vars q).0

  -- the body stands again inside its try, behind a delay
  pub tries_again : (body : Body) (p : Policy) (x : Except) (n m : ℕ) (d : Option ℕ) (k : List Item) (ps : Pins k) (l : Local) → Pinned r k ps → Sized r k ps l.layers (outer_vars l.outer)
      → Sub (try_edges (try body (Some p) x) n (site r k ps)) (edges_in r k ps) → Ended r n k ps
      → Reach (edges_in r k ps) (entry_in r k ps) (FailOf n) (site r k ps).depth (chain l.layers (outer_vars l.outer))
      → StandsMoved r (retried s (try body (Some p) x) m d k l)
  tries_again body p x n m d k ps l h z i j w = record {
    pins = (n, ps);
    pinned = (i, j, h);
    sized = z;
    walk =
        goes_along (edges_in r k ps) (entry_in r k ps) (FailOf n) (exit (At (suc n)) (site r k ps)) (site r k ps).depth (chain l.layers (outer_vars l.outer))
        (try_retries (edges_in r k ps) body (Some p) x n (site r k ps) i (to_exit (FailOf n) (exit (At (suc n)) (site r k ps))) (inl refl)) w;
  }

  -- the call of a predicate
  asked_for : (e : Data) (o : Option Flow) (body : Body) (q0 : Policy) (x : Except) (n m : ℕ) (d : Option ℕ) (k : List Item) (ps : Pins k) (l : Local) (outward : Data → Moved) → l.wait ≡ Awake → Pinned r k ps
      → Sized r k ps l.layers (outer_vars l.outer) → Sub (try_edges (try body (Some q0) x) n (site r k ps)) (edges_in r k ps) → Ended r n k ps
      → Reach (edges_in r k ps) (entry_in r k ps) (FailOf n) (site r k ps).depth (chain l.layers (outer_vars l.outer))
      → ((d : Data) → StandsMoved r (outward d)) → StandsMoved r (asks s e o (Judge (try body (Some q0) x) m d e ∷ k) l outward)
  asked_for e None body q0 x n m d k ps l outward a h z i j w f = tt
  asked_for e (Some g) body q0 x n m d k ps l outward a h z i j w f = params g.params refl
    where
      params : (xs : List Param) → g.params ≡ xs → StandsMoved r (asked_one s e xs g.steps (Judge (try body (Some q0) x) m d e ∷ k) l outward)
      params [] q = tt
      params (y ∷ z2 ∷ zs) q = tt
      params (y ∷ []) q =
          bool_case (StandsMoved r) (nat_le call_limit (calls_in (Judge (try body (Some q0) x) m d e ∷ k))) (outward (error_map RecursionError)) (called (opened s l ((y.name, e) ∷ [])) g.steps (Back None ∷ Judge (try body (Some q0) x) m d e ∷ k) l outward)
          (λ q2. f (error_map RecursionError)) (λ q2. by (opened s l ((y.name, e) ∷ [])) refl)
        where
          number : ℕ
          number = number_of s.program.flows g.name 0

          E : List Edge
          E = flow_edges g number

          by : (o : Answer Pairs) → opened s l ((y.name, e) ∷ []) ≡ o → StandsMoved r (called o g.steps (Back None ∷ Judge (try body (Some q0) x) m d e ∷ k) l outward)
          by (Err t) q3 = f (error_map t)
          by (Ok vars) q3 =
              settles r bottom proper (Do g.steps g.steps ∷ Back None ∷ Judge (try body (Some q0) x) m d e ∷ k)
              (record { first = suc number; here = suc number; out = None }, (record { number = 0; inner = record { flow = g; entry = number } }, (n, ps))) (enter true vars l) a
              (steps, steps, refl, tt, (inr (tt, refl), (i, j, h, tt))) (tt, inr tt, (w, z)) start
            where
              steps : Sub (steps_edges g.steps (suc number) (in_list g.steps (suc number) Standing.call_site) None) E
              steps = flow_steps g number

              start : StandsAt E (At number) (first_in (in_list g.steps (suc number) Standing.call_site) g.steps (suc number) None) (vars ∷ [])
              start = begins_flow g number vars (subst (λ zs. HasAll (param_names zs) vars) (sym q) (binds l ((y.name, e) ∷ []) vars q3))

  -- by what the predicate says
  pub decides : (e : Data) (body : Body) (p : Option Policy) (x : Except) (n m : ℕ) (d : Option ℕ) (k : List Item) (ps : Pins k) (l : Local) (outward : Data → Moved) → l.wait ≡ Awake → Pinned r k ps
      → Sized r k ps l.layers (outer_vars l.outer) → Sub (try_edges (try body p x) n (site r k ps)) (edges_in r k ps) → Ended r n k ps
      → Reach (edges_in r k ps) (entry_in r k ps) (FailOf n) (site r k ps).depth (chain l.layers (outer_vars l.outer))
      → ((c : Data) → StandsMoved r (outward c)) → StandsMoved r (decided s e (judged p m e) (try body p x) m d k l outward)
  decides e body None x n m d k ps l outward a h z i j w f = handles e body None x n k ps l outward a h z i j w f
  decides e body (Some q) x n m d k ps l outward a h z i j w f = by (judged (Some q) m e)
    where
      by : (v : Judgement) → StandsMoved r (decided s e v (try body (Some q) x) m d k l outward)
      by (Says true) = tries_again body q x n m d k ps l h z i j w
      by (Says false) = handles e body (Some q) x n k ps l outward a h z i j w f
      by (Asks g) = asked_for e (flow s.program.flows g) body q x n m d k ps l outward a h z i j w f

  -- an error goes outward
  pub unwinds : (k : List Item) (ps : Pins k) (l : Local) (e : Data) → l.wait ≡ Awake → Pinned r k ps → Sized r k ps l.layers (outer_vars l.outer)
      → StandsAt (edges_in r k ps) (entry_in r k ps) (site r k ps).fails (chain l.layers (outer_vars l.outer)) → StandsMoved r (unwind s k l e)
  unwinds [] ps l e a h z w = tt
  unwinds (Do block left ∷ k) ps l e a h z w =
      unwinds k ps.1 l e a h.4 z (subst (λ o. StandsAt (edges_in r k ps.1) (entry_in r k ps.1) o (chain l.layers (outer_vars l.outer))) (list_fails block ps.0.first (site r k ps.1)) w)
  unwinds (Entries es ∷ k) ps l e a h z w = unwinds k ps.1 l e a h.2 z w
  unwinds (Then x ∷ k) ps l e a h z w = unwinds k ps.1 l e a h.1 z w
  unwinds (Loop b left i ∷ k) ps l e a h z w = unwinds k ps.1 l e a h.2 z w
  unwinds (Try (try body p x) m d ∷ k) ps l e a h z w =
      let E = edges_in r k ps.1 in
      let out = fails_from E (entry_in r k ps.1) (site r k ps.1) (FailOf ps.0) (site r k ps.1).depth (chain l.layers (outer_vars l.outer)) (try_fails E body p x ps.0 (site r k ps.1) h.0) w in
      decides e body p x ps.0 m d k ps.1 l (unwind s k l) a h.2 z h.0 h.1 w (λ c. unwinds k ps.1 l c a h.2 z out)
  unwinds (Judge t m d q ∷ k) ps l e a h z w = unwinds k ps.1 l e a h.2 z.1 w
  unwinds (Mark ∷ k) ps l e a h z w = by l.layers (unwinds k ps.1 (leave l) e a h) z w
    where
      by : (ls : List Layer) → (Sized r k ps.1 (drop 1 ls) (outer_vars l.outer) → StandsAt (edges_in r k ps.1) (entry_in r k ps.1) (site r k ps.1).fails (chain (drop 1 ls) (outer_vars l.outer)) → StandsMoved r (unwind s k (leave l) e))
          → Sized r (Mark ∷ k) ps ls (outer_vars l.outer) → StandsAt (edges_in r k ps.1) (entry_in r k ps.1) (site r k ps.1).fails (chain ls (outer_vars l.outer)) → StandsMoved r (unwind s k (leave l) e)
      by [] f y v = absurd y
      by (x ∷ ls) f y v = f y.1 (outside_mark r bottom proper k ps.1 (site r k ps.1).fails x ls (outer_vars l.outer) (fails_shallow r bottom proper k ps.1) y.0 y.1 v)
  unwinds (Back x ∷ k) ps l e a h z w = by l.layers (unwinds k ps.1 (leave l) e a h.1) z
    where
      outward : (ls : List Layer) → ((Sub (evaluated (site r k ps.1) ps.0.number (writing (site r k ps.1) (At ps.0.number) (EndOf ps.0.number) (listed x) ∷ [])) (edges_in r k ps.1) × Ended r ps.0.number k ps.1) ⊎ (IsJudge k × (x ≡ None)))
          → (Reach (edges_in r k ps.1) (entry_in r k ps.1) (At ps.0.number) (site r k ps.1).depth (chain ls (outer_vars l.outer)) ⊎ IsJudge k) → Sized r k ps.1 ls (outer_vars l.outer) → Pinned r k ps.1
          → StandsAt (edges_in r k ps.1) (entry_in r k ps.1) (site r k ps.1).fails (chain ls (outer_vars l.outer))
      outward ls (inl c) (inl v) y p =
          fails_from (edges_in r k ps.1) (entry_in r k ps.1) (site r k ps.1) (At ps.0.number) (site r k ps.1).depth (chain ls (outer_vars l.outer))
          (sub_left (edges_in r k ps.1) (failing (site r k ps.1) (At ps.0.number)) (writing (site r k ps.1) (At ps.0.number) (EndOf ps.0.number) (listed x) ∷ []) c.0) v
      outward ls (inl c) (inr v) y p = judge_fails_in r (outer_vars l.outer) k ps.1 ls v y p
      outward ls (inr c) v y p = judge_fails_in r (outer_vars l.outer) k ps.1 ls c.0 y p

      by : (ls : List Layer) → (Sized r k ps.1 (drop 1 ls) (outer_vars l.outer) → StandsAt (edges_in r k ps.1) (entry_in r k ps.1) (site r k ps.1).fails (chain (drop 1 ls) (outer_vars l.outer)) → StandsMoved r (unwind s k (leave l) e))
          → Sized r (Back x ∷ k) ps ls (outer_vars l.outer) → StandsMoved r (unwind s k (leave l) e)
      by [] f y = absurd y
      by (q ∷ ls) f y = f y.2 (outward ls h.0 y.1 y.2 h.1)
  unwinds (Join b left n running es ∷ k) ps l e a h z w = unwinds k ps.1 l e a h.2 z w
