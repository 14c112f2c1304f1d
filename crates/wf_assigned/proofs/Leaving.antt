-- How a task goes on with a value, by a return and by a jump: it stands where a walk has come.
use Rattle.std.specs.Prelude.{◌≡◌, ◌⊎◌, ℕ, suc, ◌+◌, Bool, true, false, List, [], ◌∷◌, drop, if◌then◌else◌, Some, None, Ok, Err, Option, Result, codes, bytes_eq}
use Rattle.std.proofs.Common.{arith}
use mathlib.Core.Logic.{inl, inr}
use mathlib.Core.Path.{refl, sym, subst, ◌∙◌}
use Rattle.wf_ast.specs.Nodes.{listed}
use Rattle.wf_ast.specs.Tree.{LoopBody, step, Steps, no_steps, more, Policy, try, Except, Body}
use Rattle.wf_assigned.proofs.Failing.{sub_left, sub_right, sub_head, fails_from, try_fails, unwinds, handles, tries_again, Binds}
use Rattle.wf_assigned.proofs.Growing.{GrownBy, grown_held, grown_chain, sized_grows, assign_grows, has_one}
use Rattle.wf_assigned.proofs.Reached.{Written, goes_on, goes_along, leads_on}
use Rattle.wf_assigned.proofs.Settled.{list_depth, size_is, shallow_up, outside_mark, settles}
use Rattle.wf_assigned.specs.Edges.{Point, At, FailOf, EndOf, Edge, Exit, Site, Looping, NoLoop, InLoop, InTurn, failing, evaluated, writing, passing, number_in, step_exit, to_step, continues, breaks, jump, steps_edges, step_edges, first_in, flow_edges}
use Rattle.wf_assigned.specs.Standing.{chain, held, Reach, Leads, StandsAt, Shallow, Proper, Sub, in_list, exit, Bottom, Root, Pins, edges_in, entry_in, site, station, Ended, Pinned, Sized, outer_vars, StandsMoved}
use Rattle.wf_assigned.specs.Walks.{IsAmong}
use Rattle.wf_ast.specs.Tree.{Flow}
use Rattle.wf_model.specs.Config.{Layer, Left, Item, Do, Entries, Then, Loop, Try, Judge, Mark, Back, Join, Awake}
use Rattle.wf_model.specs.Layers.{Assigned, Done, Refused, Undeclared, assign}
use Rattle.wf_model.specs.Leave.{raises, on, on_assigned, gives, handed, given_to, returns_in, returned, returns, jumps, jumps_to}
use Rattle.wf_model.specs.Leave as leave_by
use Rattle.wf_model.specs.Local.{Local, Root as Kind, Main, Branch, Iteration, Scene, Moved, leave, goes}
use Rattle.wf_model.specs.Spots.{body_size}
use Rattle.wf_model.specs.Unwind.{Found, Stands, AtEnd, NotFound, answered, unwind, retried, cut_at, from_step, to_loop, to_back}
use Rattle.wf_model.specs.Unwind as walk_by
use Rattle.wf_never_wrong.specs.Places.{IsJudge}
use Rattle.wf_value.specs.Data.{Data, Pairs, null, boolean, integer, text, bytes, list, map}
use Rattle.wf_value.specs.Errors.{error_map, Answer}
use Rattle.wf_value.specs.Pairs.{Text}

-- ## What a jump finds in a list
-- the list has no such step, or it stands at its number
abbrev pub FoundIn : List Edge → Text → Site → Option Exit → Option ℕ → Steps → Type 0
FoundIn E x a out None no_steps = Unit {0}
FoundIn E x a out None (more s ss) = ⊥
FoundIn E x a out (Some m) no_steps = ⊥
FoundIn E x a out (Some m) (more s ss) = Sub (steps_edges (more s ss) m a out) E

found_step : (E : List Edge) (x : Text) (a : Site) (out : Option Exit) (ss : Steps) (n : ℕ) → Sub (steps_edges ss n a out) E → FoundIn E x a out (number_in x ss n) (walk_by.from_step x ss)
found_step E x a out no_steps n h = tt
found_step E x a out (more (step y body next) ss) n h =
    by (bytes_eq x y) (found_step E x a out ss (n + suc (body_size body)) (sub_right E (step_edges (step y body next) n a (first_in a ss (n + suc (body_size body)) out)) (steps_edges ss (n + suc (body_size body)) a out) h))
  where
    by : (b : Bool) → FoundIn E x a out (number_in x ss (n + suc (body_size body))) (walk_by.from_step x ss)
        → FoundIn E x a out (if b then Some n else number_in x ss (n + suc (body_size body))) (if b then more (step y body next) ss else walk_by.from_step x ss)
    by true f = h
    by false f = f

list_loop : (ss : Steps) (n : ℕ) (a : Site) → (in_list ss n a).loop ≡ a.loop
list_loop no_steps n a = refl
list_loop (more s ss) n a = refl

module _ (r : Root) (bottom : Bottom r) (proper : (f : Flow) (n : ℕ) → Proper (flow_edges f n)) (s : Scene) (binds : Binds s) where
  -- a walk has come to a point at which an error may come, and k stands outside it
  pub record MayFail (k : List Item) (ps : Pins k) (l : Local) (p : Point) : Type 0 where
    pub awake : l.wait ≡ Awake
    pub pinned : Pinned r k ps
    pub sized : Sized r k ps l.layers (outer_vars l.outer)
    pub fails : Sub (failing (site r k ps) p) (edges_in r k ps)
    pub walk : Reach (edges_in r k ps) (entry_in r k ps) p (site r k ps).depth (chain l.layers (outer_vars l.outer))

  pub raises_ok : (k : List Item) (ps : Pins k) (l : Local) (p : Point) (e : Data) → MayFail k ps l p → StandsMoved r (raises s k l e)
  raises_ok k ps l p e h =
      unwinds r bottom proper s binds k ps l e h.awake h.pinned h.sized (fails_from (edges_in r k ps) (entry_in r k ps) (site r k ps) p (site r k ps).depth (chain l.layers (outer_vars l.outer)) h.fails h.walk)

  pub on_ok : {A : Type 0} (k : List Item) (ps : Pins k) (l : Local) (p : Point) (a : Answer A) (f : A → Moved) → MayFail k ps l p → ((v : A) → a ≡ Ok v → StandsMoved r (f v)) → StandsMoved r (on s k l a f)
  on_ok k ps l p (Err t) f h g = raises_ok k ps l p (error_map t) h
  on_ok k ps l p (Ok v) f h g = g v refl

  -- the step of number n has ended
  pub ends_ok : (k : List Item) (ps : Pins k) (l : Local) (p : Point) (n : ℕ) → MayFail k ps l p → IsAmong (passing (site r k ps) p (EndOf n)) (edges_in r k ps) → Ended r n k ps → StandsMoved r (goes k l)
  ends_ok k ps l p n h i j =
      settles r bottom proper k ps l h.awake h.pinned h.sized
      (leads_on (edges_in r k ps) (entry_in r k ps) (Some (exit (EndOf n) (site r k ps))) (station r k ps) (chain l.layers (outer_vars l.outer)) j
      (goes_along (edges_in r k ps) (entry_in r k ps) p (exit (EndOf n) (site r k ps)) (site r k ps).depth (chain l.layers (outer_vars l.outer)) i h.walk))

  -- a name is assigned on an edge to a point from which k goes on
  pub assigned_ok : (k : List Item) (ps : Pins k) (l : Local) (p q : Point) (x : Text) (xs : List Text) (ks : List Data) (v : Data) → MayFail k ps l p → IsAmong (writing (site r k ps) p q xs) (edges_in r k ps)
      → ((d : ℕ) (ch : List Pairs) → held d x ch ≡ true → Written d xs ch) → Leads (edges_in r k ps) (Some (exit q (site r k ps))) (station r k ps) → StandsMoved r (on_assigned s k l (assign s x ks v l))
  assigned_ok k ps l p q x xs ks v h i w j = by (assign s x ks v l) (assign_grows s x ks v l (has_one r (outer_vars l.outer) k ps l.layers h.sized))
    where
      by : (o : Assigned) → GrownBy x l o → StandsMoved r (on_assigned s k l o)
      by (Refused t) g = raises_ok k ps l p (error_map t) h
      by Undeclared g = tt
      by (Done m) g =
          settles r bottom proper k ps m (g.wait ∙ h.awake) h.pinned (sized_grows r (outer_vars l.outer) (outer_vars m.outer) g.outer k ps l.layers m.layers g.layers h.sized)
          (leads_on (edges_in r k ps) (entry_in r k ps) (Some (exit q (site r k ps))) (station r k ps) (chain m.layers (outer_vars m.outer)) j
          (goes_on (edges_in r k ps) (entry_in r k ps) (writing (site r k ps) p q xs) i (site r k ps).depth (chain l.layers (outer_vars l.outer)) (chain m.layers (outer_vars m.outer)) h.walk
          (λ d y t z. grown_held (chain l.layers (outer_vars l.outer)) (chain m.layers (outer_vars m.outer)) (grown_chain l.layers m.layers (outer_vars l.outer) (outer_vars m.outer) g.layers g.outer) d y z)
          (w (site r k ps).depth (chain m.layers (outer_vars m.outer)) (subst (λ d. held d x (chain m.layers (outer_vars m.outer)) ≡ true) (size_is r (outer_vars l.outer) k ps l.layers h.sized) g.there))))

  -- a result
  pub gives_ok : (k : List Item) (ps : Pins k) (l : Local) (n : ℕ) (x : Option Text) (v : Data) → MayFail k ps l (At n) → IsAmong (writing (site r k ps) (At n) (EndOf n) (listed x)) (edges_in r k ps) → Ended r n k ps → StandsMoved r (gives s x v k l)
  gives_ok k ps l n None v h i j = ends_ok k ps l (At n) n h i j
  gives_ok k ps l n (Some x) v h i j = assigned_ok k ps l (At n) (EndOf n) x (x ∷ []) [] v h i (λ d ch t. (t, tt)) j

  pub handed_ok : (k : List Item) (ps : Pins k) (l : Local) (n : ℕ) (x : Option Text) (v : Result Data Data) → MayFail k ps l (At n) → IsAmong (writing (site r k ps) (At n) (EndOf n) (listed x)) (edges_in r k ps) → Ended r n k ps → StandsMoved r (handed s x v k l)
  handed_ok k ps l n x (Ok v) h i j = gives_ok k ps l n x v h i j
  handed_ok k ps l n x (Err e) h i j = raises_ok k ps l (At n) e h

  -- ## Returns
  -- what a predicate's workflow returned
  answered_ok : (e v : Data) (body : Body) (p : Option Policy) (x : Except) (m : ℕ) (d : Option ℕ) (k : List Item) (ps : Pins (Judge (try body p x) m d e ∷ k)) (l : Local) → l.wait ≡ Awake → Pinned r (Judge (try body p x) m d e ∷ k) ps
      → Sized r (Judge (try body p x) m d e ∷ k) ps l.layers (outer_vars l.outer) → StandsMoved r (answered s v (try body p x) m d e k l)
  answered_ok e v body None x m d k ps l a h z = absurd h.3
  answered_ok e v body (Some q) x m d k ps l a h z = by v
    where
      out : (c : Data) → StandsMoved r (unwind s k l c)
      out c =
          unwinds r bottom proper s binds k ps.1 l c a h.2 z.1
          (fails_from (edges_in r k ps.1) (entry_in r k ps.1) (site r k ps.1) (FailOf ps.0) (site r k ps.1).depth (chain l.layers (outer_vars l.outer)) (try_fails (edges_in r k ps.1) body (Some q) x ps.0 (site r k ps.1) h.0) z.0)

      by : (w : Data) → StandsMoved r (answered s w (try body (Some q) x) m d e k l)
      by (boolean true) = tries_again r bottom proper s binds body q x ps.0 m d k ps.1 l h.2 z.1 h.0 h.1 z.0
      by (boolean false) = handles r bottom proper s binds e body (Some q) x ps.0 k ps.1 l (unwind s k l) a h.2 z.1 h.0 h.1 z.0 out
      by null = out _
      by (integer n) = out _
      by (text t) = out _
      by (bytes t) = out _
      by (list vs) = out _
      by (map qs) = out _

  -- a call's result, where no predicate was asked
  plain_ok : (x : Option Text) (v : Data) (n : ℕ) (k : List Item) (ps : Pins k) (l : Local) → l.wait ≡ Awake → Pinned r k ps → Sized r k ps l.layers (outer_vars l.outer) → (IsJudge k → ⊥)
      → ((Sub (evaluated (site r k ps) n (writing (site r k ps) (At n) (EndOf n) (listed x) ∷ [])) (edges_in r k ps) × Ended r n k ps) ⊎ (IsJudge k × (x ≡ None)))
      → (Reach (edges_in r k ps) (entry_in r k ps) (At n) (site r k ps).depth (chain l.layers (outer_vars l.outer)) ⊎ IsJudge k) → StandsMoved r (gives s x v k l)
  plain_ok x v n k ps l a h z f (inr c) w = absurd (f c.0)
  plain_ok x v n k ps l a h z f (inl c) (inr w) = absurd (f w)
  plain_ok x v n k ps l a h z f (inl c) (inl w) =
      let E = edges_in r k ps in
      let call = writing (site r k ps) (At n) (EndOf n) (listed x) in
      gives_ok k ps l n x v (record { awake = a; pinned = h; sized = z; fails = sub_left E (failing (site r k ps) (At n)) (call ∷ []) c.0; walk = w }) (sub_head E call [] (sub_right E (failing (site r k ps) (At n)) (call ∷ []) c.0)) c.1

  given_ok : (x : Option Text) (v : Data) (n : ℕ) (k : List Item) (ps : Pins k) (l : Local) → l.wait ≡ Awake → Pinned r k ps → Sized r k ps l.layers (outer_vars l.outer)
      → ((Sub (evaluated (site r k ps) n (writing (site r k ps) (At n) (EndOf n) (listed x) ∷ [])) (edges_in r k ps) × Ended r n k ps) ⊎ (IsJudge k × (x ≡ None)))
      → (Reach (edges_in r k ps) (entry_in r k ps) (At n) (site r k ps).depth (chain l.layers (outer_vars l.outer)) ⊎ IsJudge k) → StandsMoved r (given_to s x v k l)
  given_ok x v n (Judge (try body p y) m d e ∷ k) ps l a h z c w = answered_ok e v body p y m d k ps l a h z
  given_ok x v n [] ps l a h z c w = plain_ok x v n [] ps l a h z (λ j. j) c w
  given_ok x v n (Do block left ∷ k) ps l a h z c w = plain_ok x v n (Do block left ∷ k) ps l a h z (λ j. j) c w
  given_ok x v n (Entries es ∷ k) ps l a h z c w = plain_ok x v n (Entries es ∷ k) ps l a h z (λ j. j) c w
  given_ok x v n (Then y ∷ k) ps l a h z c w = plain_ok x v n (Then y ∷ k) ps l a h z (λ j. j) c w
  given_ok x v n (Loop b left i ∷ k) ps l a h z c w = plain_ok x v n (Loop b left i ∷ k) ps l a h z (λ j. j) c w
  given_ok x v n (Try t m d ∷ k) ps l a h z c w = plain_ok x v n (Try t m d ∷ k) ps l a h z (λ j. j) c w
  given_ok x v n (Mark ∷ k) ps l a h z c w = plain_ok x v n (Mark ∷ k) ps l a h z (λ j. j) c w
  given_ok x v n (Back y ∷ k) ps l a h z c w = plain_ok x v n (Back y ∷ k) ps l a h z (λ j. j) c w
  given_ok x v n (Join b left m running es ∷ k) ps l a h z c w = plain_ok x v n (Join b left m running es ∷ k) ps l a h z (λ j. j) c w

  ended_ok : (k : Kind) (v : Data) (l : Local) → StandsMoved r (returns_in k v l)
  ended_ok Main v l = tt
  ended_ok Branch v l = tt
  ended_ok Iteration v l = tt

  pub returned_ok : (v : Data) (l0 : Local) (k : List Item) (ps : Pins k) (l : Local) → l.wait ≡ Awake → Pinned r k ps → Sized r k ps l.layers (outer_vars l.outer) → StandsMoved r (returned s v l0 (to_back k l))
  returned_ok v l0 [] ps l a h z = ended_ok s.root v l0
  returned_ok v l0 (Do block left ∷ k) ps l a h z = returned_ok v l0 k ps.1 l a h.4 z
  returned_ok v l0 (Entries es ∷ k) ps l a h z = returned_ok v l0 k ps.1 l a h.2 z
  returned_ok v l0 (Then x ∷ k) ps l a h z = returned_ok v l0 k ps.1 l a h.1 z
  returned_ok v l0 (Loop b left i ∷ k) ps l a h z = returned_ok v l0 k ps.1 l a h.2 z
  returned_ok v l0 (Try t n d ∷ k) ps l a h z = returned_ok v l0 k ps.1 l a h.2 z
  returned_ok v l0 (Judge t n d e ∷ k) ps l a h z = returned_ok v l0 k ps.1 l a h.2 z.1
  returned_ok v l0 (Mark ∷ k) ps l a h z = by l.layers (returned_ok v l0 k ps.1 (leave l) a h) z
    where
      by : (ls : List Layer) → (Sized r k ps.1 (drop 1 ls) (outer_vars l.outer) → StandsMoved r (returned s v l0 (to_back k (leave l)))) → Sized r (Mark ∷ k) ps ls (outer_vars l.outer) → StandsMoved r (returned s v l0 (to_back k (leave l)))
      by [] f y = absurd y
      by (x ∷ ls) f y = f y.1
  returned_ok v l0 (Back x ∷ k) ps l a h z = by l.layers (given_ok x v ps.0.number k ps.1 (leave l) a h.1) z
    where
      by : (ls : List Layer)
          → (Sized r k ps.1 (drop 1 ls) (outer_vars l.outer)
          → ((Sub (evaluated (site r k ps.1) ps.0.number (writing (site r k ps.1) (At ps.0.number) (EndOf ps.0.number) (listed x) ∷ [])) (edges_in r k ps.1) × Ended r ps.0.number k ps.1) ⊎ (IsJudge k × (x ≡ None)))
          → (Reach (edges_in r k ps.1) (entry_in r k ps.1) (At ps.0.number) (site r k ps.1).depth (chain (drop 1 ls) (outer_vars l.outer)) ⊎ IsJudge k) → StandsMoved r (given_to s x v k (leave l)))
          → Sized r (Back x ∷ k) ps ls (outer_vars l.outer) → StandsMoved r (given_to s x v k (leave l))
      by [] f y = absurd y
      by (q ∷ ls) f y = f y.2 h.0 y.1
  returned_ok v l0 (Join b left n running es ∷ k) ps l a h z = returned_ok v l0 k ps.1 l a h.2 z

  -- ## Jumps
  loop_shallow : (f : Looping → Option Exit) → (f NoLoop ≡ None) → (f InTurn ≡ None) → ((n d : ℕ) → Shallow (f (InLoop n d)) d) → f r.site.loop ≡ None → (k : List Item) (ps : Pins k) → Shallow (f (site r k ps).loop) (site r k ps).depth
  loop_shallow f e g h b [] ps = subst (λ o. Shallow o r.site.depth) (sym b) tt
  loop_shallow f e g h b (Do block left ∷ k) ps =
      subst (λ o. Shallow (f o) (in_list block ps.0.first (site r k ps.1)).depth) (sym (list_loop block ps.0.first (site r k ps.1)))
      (subst (Shallow (f (site r k ps.1).loop)) (sym (list_depth block ps.0.first (site r k ps.1))) (loop_shallow f e g h b k ps.1))
  loop_shallow f e g h b (Entries es ∷ k) ps = loop_shallow f e g h b k ps.1
  loop_shallow f e g h b (Then x ∷ k) ps = loop_shallow f e g h b k ps.1
  loop_shallow f e g h b (Loop c left i ∷ k) ps = h ps.0 (site r k ps.1).depth
  loop_shallow f e g h b (Try t n d ∷ k) ps = loop_shallow f e g h b k ps.1
  loop_shallow f e g h b (Judge t n d c ∷ k) ps = loop_shallow f e g h b k ps.1
  loop_shallow f e g h b (Mark ∷ k) ps = shallow_up r bottom proper (f (site r k ps.1).loop) (site r k ps.1).depth (suc (site r k ps.1).depth) (omega arith) (loop_shallow f e g h b k ps.1)
  loop_shallow f e g h b (Back x ∷ k) ps = subst (λ o. Shallow o 1) (sym e) tt
  loop_shallow f e g h b (Join c left n running es ∷ k) ps = loop_shallow f e g h b k ps.1

  -- to the head of the innermost loop, or past it
  module _ (f : Looping → Option Exit) (e : f NoLoop ≡ None) (g : f InTurn ≡ None) (h : (n d : ℕ) → Shallow (f (InLoop n d)) d) (b : f r.site.loop ≡ None) (onward : Found → Moved) (at_end : StandsMoved r (onward AtEnd)) (nowhere : StandsMoved r (onward NotFound))
      (at : (c : LoopBody) (left : Left) (i : ℕ) (k : List Item) (ps : Pins (Loop c left i ∷ k)) (l : Local) → l.wait ≡ Awake → Pinned r (Loop c left i ∷ k) ps → Sized r k ps.1 l.layers (outer_vars l.outer)
      → StandsAt (edges_in r k ps.1) (entry_in r k ps.1) (f (InLoop ps.0 (site r k ps.1).depth)) (chain l.layers (outer_vars l.outer)) → StandsMoved r (onward (Stands (Loop c left i ∷ k) l))) where
    to_loop_ok : (k : List Item) (ps : Pins k) (l : Local) → l.wait ≡ Awake → Pinned r k ps → Sized r k ps l.layers (outer_vars l.outer)
        → StandsAt (edges_in r k ps) (entry_in r k ps) (f (site r k ps).loop) (chain l.layers (outer_vars l.outer)) → StandsMoved r (onward (to_loop k l))
    to_loop_ok [] ps l a p z w = at_end
    to_loop_ok (Do block left ∷ k) ps l a p z w =
        to_loop_ok k ps.1 l a p.4 z (subst (λ o. StandsAt (edges_in r k ps.1) (entry_in r k ps.1) (f o) (chain l.layers (outer_vars l.outer))) (list_loop block ps.0.first (site r k ps.1)) w)
    to_loop_ok (Entries es ∷ k) ps l a p z w = to_loop_ok k ps.1 l a p.2 z w
    to_loop_ok (Then x ∷ k) ps l a p z w = to_loop_ok k ps.1 l a p.1 z w
    to_loop_ok (Loop c left i ∷ k) ps l a p z w = at c left i k ps l a p z w
    to_loop_ok (Try t n d ∷ k) ps l a p z w = to_loop_ok k ps.1 l a p.2 z w
    to_loop_ok (Judge t n d c ∷ k) ps l a p z w = to_loop_ok k ps.1 l a p.2 z.1 w
    to_loop_ok (Mark ∷ k) ps l a p z w = by l.layers (to_loop_ok k ps.1 (leave l) a p) z w
      where
        by : (ls : List Layer) → (Sized r k ps.1 (drop 1 ls) (outer_vars l.outer) → StandsAt (edges_in r k ps.1) (entry_in r k ps.1) (f (site r k ps.1).loop) (chain (drop 1 ls) (outer_vars l.outer)) → StandsMoved r (onward (to_loop k (leave l))))
            → Sized r (Mark ∷ k) ps ls (outer_vars l.outer) → StandsAt (edges_in r k ps.1) (entry_in r k ps.1) (f (site r k ps.1).loop) (chain ls (outer_vars l.outer)) → StandsMoved r (onward (to_loop k (leave l)))
        by [] m y v = absurd y
        by (x ∷ ls) m y v = m y.1 (outside_mark r bottom proper k ps.1 (f (site r k ps.1).loop) x ls (outer_vars l.outer) (loop_shallow f e g h b k ps.1) y.0 y.1 v)
    to_loop_ok (Back x ∷ k) ps l a p z w = nowhere
    to_loop_ok (Join c left n running es ∷ k) ps l a p z w = to_loop_ok k ps.1 l a p.2 z w

  blocks_shallow : (x : Text) (k : List Item) (ps : Pins k) → Shallow (to_step x (site r k ps).blocks) (site r k ps).depth
  blocks_shallow x [] ps = subst (λ bs. Shallow (to_step x bs) r.site.depth) (sym bottom.blocks) tt
  blocks_shallow x (Do no_steps left ∷ k) ps = blocks_shallow x k ps.1
  blocks_shallow x (Do (more t ts) left ∷ k) ps = by (number_in x (more t ts) ps.0.first) (to_step x (site r k ps.1).blocks) (blocks_shallow x k ps.1)
    where
      by : (o : Option ℕ) (q : Option Exit) → Shallow q (site r k ps.1).depth → Shallow (step_exit (site r k ps.1).depth o q) (site r k ps.1).depth
      by None q i = i
      by (Some n) q i = omega arith
  blocks_shallow x (Entries es ∷ k) ps = blocks_shallow x k ps.1
  blocks_shallow x (Then y ∷ k) ps = blocks_shallow x k ps.1
  blocks_shallow x (Loop c left i ∷ k) ps = tt
  blocks_shallow x (Try t n d ∷ k) ps = blocks_shallow x k ps.1
  blocks_shallow x (Judge t n d c ∷ k) ps = blocks_shallow x k ps.1
  blocks_shallow x (Mark ∷ k) ps = shallow_up r bottom proper (to_step x (site r k ps.1).blocks) (site r k ps.1).depth (suc (site r k ps.1).depth) (omega arith) (blocks_shallow x k ps.1)
  blocks_shallow x (Back y ∷ k) ps = tt
  blocks_shallow x (Join c left n running es ∷ k) ps = blocks_shallow x k ps.1

  to_step_ok : (x : Text) (k : List Item) (ps : Pins k) (l : Local) → l.wait ≡ Awake → Pinned r k ps → Sized r k ps l.layers (outer_vars l.outer)
      → StandsAt (edges_in r k ps) (entry_in r k ps) (to_step x (site r k ps).blocks) (chain l.layers (outer_vars l.outer)) → StandsMoved r (jumps_to s x (walk_by.to_step x k l))
  to_step_ok x [] ps l a p z w = tt
  to_step_ok x (Do no_steps left ∷ k) ps l a p z w = to_step_ok x k ps.1 l a p.4 z w
  to_step_ok x (Do (more t ts) left ∷ k) ps l a p z w =
      by (number_in x (more t ts) ps.0.first) (walk_by.from_step x (more t ts)) (found_step (edges_in r k ps.1) x (in_list (more t ts) ps.0.first (site r k ps.1)) ps.0.out (more t ts) ps.0.first p.0) w
      (to_step_ok x k ps.1 l a p.4 z)
    where
      by : (o : Option ℕ) (rest : Steps) → FoundIn (edges_in r k ps.1) x (in_list (more t ts) ps.0.first (site r k ps.1)) ps.0.out o rest
          → StandsAt (edges_in r k ps.1) (entry_in r k ps.1) (step_exit (site r k ps.1).depth o (to_step x (site r k ps.1).blocks)) (chain l.layers (outer_vars l.outer))
          → (StandsAt (edges_in r k ps.1) (entry_in r k ps.1) (to_step x (site r k ps.1).blocks) (chain l.layers (outer_vars l.outer)) → StandsMoved r (jumps_to s x (walk_by.to_step x k l)))
          → StandsMoved r (jumps_to s x (cut_at (more t ts) rest k l (walk_by.to_step x k l)))
      by None no_steps f v g = g v
      by None (more u us) f v g = absurd f
      by (Some m) no_steps f v g = absurd f
      by (Some m) (more u us) f v g = settles r bottom proper (Do (more t ts) (more u us) ∷ k) (record { first = ps.0.first; here = m; out = ps.0.out }, ps.1) l a (p.0, f, p.2, p.3, p.4) z v
  to_step_ok x (Entries es ∷ k) ps l a p z w = to_step_ok x k ps.1 l a p.2 z w
  to_step_ok x (Then y ∷ k) ps l a p z w = to_step_ok x k ps.1 l a p.1 z w
  to_step_ok x (Loop c left i ∷ k) ps l a p z w = tt
  to_step_ok x (Try t n d ∷ k) ps l a p z w = to_step_ok x k ps.1 l a p.2 z w
  to_step_ok x (Judge t n d c ∷ k) ps l a p z w = to_step_ok x k ps.1 l a p.2 z.1 w
  to_step_ok x (Mark ∷ k) ps l a p z w = by l.layers (to_step_ok x k ps.1 (leave l) a p) z w
    where
      by : (ls : List Layer) → (Sized r k ps.1 (drop 1 ls) (outer_vars l.outer) → StandsAt (edges_in r k ps.1) (entry_in r k ps.1) (to_step x (site r k ps.1).blocks) (chain (drop 1 ls) (outer_vars l.outer)) → StandsMoved r (jumps_to s x (walk_by.to_step x k (leave l))))
          → Sized r (Mark ∷ k) ps ls (outer_vars l.outer) → StandsAt (edges_in r k ps.1) (entry_in r k ps.1) (to_step x (site r k ps.1).blocks) (chain ls (outer_vars l.outer)) → StandsMoved r (jumps_to s x (walk_by.to_step x k (leave l)))
      by [] m y v = absurd y
      by (q ∷ ls) m y v = m y.1 (outside_mark r bottom proper k ps.1 (to_step x (site r k ps.1).blocks) q ls (outer_vars l.outer) (blocks_shallow x k ps.1) y.0 y.1 v)
  to_step_ok x (Back y ∷ k) ps l a p z w = tt
  to_step_ok x (Join c left n running es ∷ k) ps l a p z w = to_step_ok x k ps.1 l a p.2 z w

  continue_end : (k : Kind) (l : Local) → StandsMoved r (elim k [ Iteration ↦ goes [] l | _ ↦ leave_by.continues s l NotFound ])
  continue_end Main l = tt
  continue_end Branch l = tt
  continue_end Iteration l = tt

  -- the walk has come to an end with this `next`
  pub jumps_ok : (x : Text) (k : List Item) (ps : Pins k) (l : Local) → l.wait ≡ Awake → Pinned r k ps → Sized r k ps l.layers (outer_vars l.outer)
      → StandsAt (edges_in r k ps) (entry_in r k ps) (jump (site r k ps) x) (chain l.layers (outer_vars l.outer)) → StandsMoved r (jumps s x k l)
  jumps_ok x k ps l a p z w = first (bytes_eq x (codes "end")) (bytes_eq x (codes "continue")) (bytes_eq x (codes "break")) w
    where
      first : (b c d : Bool) → StandsAt (edges_in r k ps) (entry_in r k ps) (if b then None else (if c then continues (site r k ps).loop else (if d then breaks (site r k ps).loop else to_step x (site r k ps).blocks))) (chain l.layers (outer_vars l.outer))
          → StandsMoved r (if b then returns s null k l else (if c then leave_by.continues s l (to_loop k l) else (if d then leave_by.breaks (to_loop k l) else jumps_to s x (walk_by.to_step x k l))))
      first true c d v = returned_ok null l k ps l a p z
      first false true d v =
          to_loop_ok continues refl refl (λ n m. omega arith) bottom.continues (leave_by.continues s l) (continue_end s.root l) tt
          (λ c left i k2 ps2 l2 a2 p2 z2 w2. settles r bottom proper (Loop c left i ∷ k2) ps2 l2 a2 p2 z2 w2) k ps l a p z v
      first false false true v =
          to_loop_ok breaks refl refl (λ n m. omega arith) bottom.breaks leave_by.breaks tt tt
          (λ c left i k2 ps2 l2 a2 p2 z2 w2. settles r bottom proper k2 ps2.1 l2 a2 p2.2 z2 (leads_on (edges_in r k2 ps2.1) (entry_in r k2 ps2.1) (Some (exit (EndOf ps2.0) (site r k2 ps2.1))) (station r k2 ps2.1) (chain l2.layers (outer_vars l2.outer)) p2.1 w2)) k ps l a p z v
      first false false false v = to_step_ok x k ps l a p z v
