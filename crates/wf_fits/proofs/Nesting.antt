-- A chain of items in an accepted program is nested as NeverWrong wants it.
--     fine_at     what is carried out at the items, and what begins inside them, is fine there
--     nested      all items
use Rattle.std.specs.Prelude.{◌≡◌, ◌⊎◌, ℕ, zero, suc, ◌≤◌, Bool, true, false, List, [], ◌∷◌, if◌then◌else◌, Some, None, Option, bytes_eq, codes}
use Rattle.std.proofs.Common.{arith}
use mathlib.Core.Logic.{inl, inr}
use mathlib.Core.Path.{sym, subst}
use Rattle.wf_ast.specs.Flows.{flow_in, flow}
use Rattle.wf_ast.specs.Nodes.{Names, assigned, loop_binds, param_names}
use Rattle.wf_ast.specs.Tree.{Entry, CallBody, Predicate, FlowNamed, Policy, TryBody, try, no_except, except, Body, step, Steps, no_steps, more, Arms, no_arms, arm, LoopBody, loop, ParallelBody, parallel, OfBranches, OfLoop, Branches, no_branches, branch, Flow, unnamed}
use Rattle.wf_fits.specs.Chain as chain
use Rattle.wf_fits.specs.PlacesExist.{IsBody, ItemExists, AllExist}
use Rattle.wf_model.specs.Config.{WorkLeft, BranchesLeft, ValuesLeft, Item, Do, Entries, Then, Loop, Try, Judge, Mark, Back, Join, Wait, Awake, Sleep, Delay, Calling, Await, call_limit}
use Rattle.wf_model.specs.Unwind.{policy_of, calls_in}
use Rattle.wf_never_wrong.specs.Fine as fine
use Rattle.wf_never_wrong.specs.Fine.{Reach, in_block}
use Rattle.wf_never_wrong.specs.Places as places
use Rattle.wf_never_wrong.specs.Places.{Own, OfMark, OfCall, OfTask, Home, root_reach, reached, seen, NoJoin, IsJudge, IsRest, RestOf, Before, ArmIn, Carried, Entered, TriedIn, HasBody, IsTail, IsLeftOf, IsInner}
use Rattle.wf_model.specs.Spots.{loop_list}
use Rattle.wf_value.specs.Pairs.{Text}

module _ (fs : List Flow) (all : fine.AllFine fs fs) (h : Home) (start : fine.StepsFine fs h.steps (in_block h.steps (root_reach h.root)) (seen h (OfTask h.binds (assigned h.steps) ∷ []))) where
  abbrev Chained : List Item → List Own → Type 0
  Chained = chain.Chained fs h.steps h.binds

  abbrev reach : List Item → Reach
  reach = reached h

  abbrev visible : List Own → List Names
  visible = seen h

  abbrev BodyFine : Body → Reach → List Names → Type 0
  BodyFine = fine.BodyFine fs

  abbrev StepFine : Body → Option Text → Reach → List Names → Type 0
  StepFine b n j ls = BodyFine b j ls × fine.NextAt fs n j ls

  -- ## Parts of a body that is fine
  before_fine : (block left : Steps) (b : Body) (n : Option Text) (j : Reach) (ls : List Names) → fine.StepsFine fs block j ls → Before block left b n → StepFine b n j ls
  before_fine no_steps left b n j ls f x = absurd x
  before_fine (more (step y body next) ss) left b n j ls f (inl e) = (subst (λ c. BodyFine c j ls) e.0 f.0.0, subst (λ m. fine.NextAt fs m j ls) e.1 f.0.1)
  before_fine (more (step y body next) ss) left b n j ls f (inr r) = before_fine ss left b n j ls f.1 r

  arm_fine : (arms : Arms) (b : Body) (n : Option Text) (j : Reach) (ls : List Names) → fine.ArmsFine fs arms j ls → ArmIn arms b n → StepFine b n j ls
  arm_fine no_arms b n j ls f i = absurd i
  arm_fine (arm t body next rest) b n j ls f (inl e) = (subst (λ c. BodyFine c j ls) e.0 f.0, subst (λ m. fine.NextAt fs m j ls) e.1 f.1)
  arm_fine (arm t body next rest) b n j ls f (inr r) = arm_fine rest b n j ls f.2 r

  rest_fine : (block left : Steps) (j : Reach) (ls : List Names) → fine.StepsFine fs block j ls → IsRest left block → fine.StepsFine fs left j ls
  rest_fine no_steps left j ls f e = subst (λ s. fine.StepsFine fs s j ls) (sym e) tt
  rest_fine (more s ss) left j ls f (inl e) = subst (λ x. fine.StepsFine fs x j ls) (sym e) f
  rest_fine (more s ss) left j ls f (inr r) = rest_fine ss left j ls f.1 r

  tail_fine : (whole es : List Entry) (ls : List Names) → fine.EntriesFine whole ls → IsTail es whole → fine.EntriesFine es ls
  tail_fine [] es ls f e = subst (λ x. fine.EntriesFine x ls) (sym e) tt
  tail_fine (x ∷ xs) es ls f (inl e) = subst (λ y. fine.EntriesFine y ls) (sym e) f
  tail_fine (x ∷ xs) es ls f (inr r) = tail_fine xs es ls f.1 r

  left_fine : (n : ℕ) (bs left : Branches) (shared : List Text) (ls : List Names) → fine.BranchesFine fs bs shared ls → IsLeftOf n bs left → fine.BranchesFine fs left shared ls
  left_fine zero bs left shared ls f e = subst (λ x. fine.BranchesFine fs x shared ls) (sym e) f
  left_fine (suc n) no_branches left shared ls f e = absurd e
  left_fine (suc n) (branch x ss bs) left shared ls f e = left_fine n bs left shared ls f.1 e

  tried_fine : (t : TryBody) (b : Body) (j : Reach) (ls : List Names) → fine.TryFine fs t j ls → HasBody t b → BodyFine b j ls
  tried_fine (try body p x) b j ls f e = subst (λ c. BodyFine c j ls) e f.0

  -- ## Workflows
  abbrev MaybeFine : Option Flow → Type 0
  MaybeFine None = Unit {0}
  MaybeFine (Some f) = fine.FlowFine fs f

  maybe_either : (q : Bool) (o r : Option Flow) → MaybeFine o → MaybeFine r → MaybeFine (if q then o else r)
  maybe_either true o r x y = x
  maybe_either false o r x y = y

  flow_in_fine : (gs : List Flow) (x : Text) → fine.AllFine fs gs → MaybeFine (flow_in gs x)
  flow_in_fine [] x f = tt
  flow_in_fine (g ∷ gs) x f = maybe_either (bytes_eq g.name x) (Some g) (flow_in gs x) f.0 (flow_in_fine gs x f.1)

  flow_fine : (x : Text) (f : Flow) → flow fs x ≡ Some f → fine.FlowFine fs f
  flow_fine x f e = subst MaybeFine e (maybe_either (bytes_eq x (codes "main")) None (flow_in fs x) tt (flow_in_fine fs x all))

  predicate_fine : (q : Predicate) (f : Flow) → places.IsPredicate fs q f → fine.FlowFine fs f
  predicate_fine (FlowNamed x) f e = flow_fine x f e
  predicate_fine q f e = absurd e

  asked_fine : (p : Option Policy) (f : Flow) → places.IsAsked fs p f → fine.FlowFine fs f
  asked_fine None f e = absurd e
  asked_fine (Some p) f e = predicate_fine p.predicate f e

  judged_fine : (k : List Item) (r : Option Text) (f : Flow) → places.JudgedIn fs k r f → fine.FlowFine fs f
  judged_fine [] r f j = absurd j
  judged_fine (Judge t n d e ∷ k) r f j = asked_fine (policy_of t) f j.1
  judged_fine (i ∷ k) r f j = absurd j

  called_fine : (k : List Item) (r : Option Text) (f : Flow) → places.CalledIn fs k r f → fine.FlowFine fs f
  called_fine k r f (inl c) = flow_fine c.0.name f c.3
  called_fine k r f (inr j) = judged_fine k r f j

  -- ## What is carried out, and what begins, is fine there
  pub record FineAt (k : List Item) (E : List Own) : Type 0 where
    pub carried : (n : Option Text) (b : Body) → Carried k n b → StepFine b n (reach k) (visible E)
    pub opens : (ss : Steps) → places.Opens fs h.steps h.binds k ss E → fine.StepsFine fs ss (in_block ss (reach k)) (visible E)
    pub tried : (b : Body) → TriedIn k b → BodyFine b (reach k) (visible E)

  opened_fine : (k : List Item) (E : List Own) → FineAt k E → (ss : Steps) → places.Opened fs h.steps h.binds k ss E → fine.StepsFine fs ss (in_block ss (reach k)) (visible E)
  opened_fine k E f ss (inl c) = (f.carried None (Body.Block ss) c).0.1
  opened_fine k E f ss (inr o) = f.opens ss o

  entered_fine : (k : List Item) (E : List Own) → FineAt k E → (n : Option Text) (b : Body) → Entered k n b → StepFine b n (reach k) (visible E)
  entered_fine k E f n b (inl t) = (f.tried b t.0, subst (λ m. fine.NextAt fs m (reach k) (visible E)) (sym t.1) tt)
  entered_fine k E f n b (inr a) = arm_fine a.0 b n (reach k) (visible E) (f.carried None (Body.Switch a.0) a.1).0.1 a.2

  block_fine : (k : List Item) (E : List Own) → FineAt k E → (block left : Steps) → places.DoStands fs h.steps h.binds k block left E → fine.StepsFine fs block (in_block block (reach k)) (visible E)
  block_fine k E f block left (inl d) = opened_fine k E f block d.0
  block_fine k E f block left (inr d) = subst (λ s. fine.StepsFine fs s (in_block s (reach k)) (visible E)) (sym d.0) tt

  -- a loop's iteration, and an `except`
  turn_fine : (l : LoopBody) (j : Reach) (E : List Own) (N : Own) (ss : Steps) → fine.LoopFine fs l j (visible E) → (loop_list l ≡ ss) × (N ≡ OfMark (places.binds_of l) (assigned ss)) → fine.StepsFine fs ss (in_block ss (fine.in_loop j)) (visible (N ∷ E))
  turn_fine (loop x i o block) j E N ss f e =
      subst (λ M. fine.StepsFine fs ss (in_block ss (fine.in_loop j)) (visible (M ∷ E))) (sym e.1)
      (subst (λ s. fine.StepsFine fs s (in_block s (fine.in_loop j)) (visible (OfMark (loop_binds x i) (assigned s) ∷ E))) e.0 f)

  except_fine : (t : TryBody) (j : Reach) (E : List Own) (N : Own) (ss : Steps) → fine.TryFine fs t j (visible E) → places.ExceptOf t ss (N ∷ E) → fine.StepsFine fs ss (in_block ss j) (visible (N ∷ E))
  except_fine (try body p no_except) j E N ss f e = absurd e
  except_fine (try body p (except x block)) j E N ss f e =
      subst (λ M. fine.StepsFine fs ss (in_block ss j) (visible (M ∷ E))) (sym e.1)
      (subst (λ s. fine.StepsFine fs s (in_block s j) (visible (OfMark (x ∷ []) (assigned s) ∷ E))) e.0 f.2)

  -- nothing is carried out directly inside these items, and nothing begins there
  nothing : (k : List Item) (E : List Own) → ((n : Option Text) (b : Body) → Carried k n b → ⊥) → ((ss : Steps) → places.Opens fs h.steps h.binds k ss E → ⊥) → ((b : Body) → TriedIn k b → ⊥) → FineAt k E
  nothing k E c o t = record { carried = λ n b x. absurd (c n b x); opens = λ ss x. absurd (o ss x); tried = λ b x. absurd (t b x) }

  pub fine_at : (k : List Item) (E : List Own) → Chained k E → FineAt k E
  fine_at [] E c = record {
    carried = λ n b x. absurd x;
    opens = λ ss o.
        subst (λ D. fine.StepsFine fs ss (in_block ss (root_reach h.root)) (visible D)) (sym o.1)
        (subst (λ s. fine.StepsFine fs s (in_block s (root_reach h.root)) (visible (OfTask h.binds (assigned h.steps) ∷ []))) o.0 start);
    tried = λ b x. absurd x;
  }
  fine_at (Do block left ∷ k) E c = record { carried = by (fine_at k E c.1) c.0; opens = λ ss o. absurd o; tried = λ b x. absurd x }
    where
      by : FineAt k E → places.DoStands fs h.steps h.binds k block left E → (n : Option Text) (b : Body) → Carried (Do block left ∷ k) n b → StepFine b n (reach (Do block left ∷ k)) (visible E)
      by f d n b (inl x) = before_fine block left b n (in_block block (reach k)) (visible E) (block_fine k E f block left d) x
      by f d n b (inr x) = subst (λ s. StepFine b n (in_block s (reach k)) (visible E)) (sym x.0) (entered_fine k E f n b x.2)
  fine_at (Then x ∷ k) E c = record { carried = by (fine_at k E c.1); opens = λ ss o. absurd o; tried = λ b y. absurd y }
    where
      by : FineAt k E → (n : Option Text) (b : Body) → Carried (Then x ∷ k) n b → StepFine b n (reach k) (visible E)
      by f None b y = ((f.carried (Some x) b y).0, tt)
      by f (Some z) b y = absurd y
  fine_at (Entries es ∷ k) E c = nothing (Entries es ∷ k) E (λ n b x. x) (λ ss x. x) (λ b x. x)
  fine_at (Loop l w i ∷ k) E c = nothing (Loop l w i ∷ k) E (λ n b x. x) (λ ss x. x) (λ b x. x)
  fine_at (Try t n d ∷ k) E c = record {
    carried = λ m b x. absurd x;
    opens = λ ss o. (tried_fine t (Body.Block ss) (reach k) (visible E) ((fine_at k E c.2).carried None (Body.Try t) c.0.0).0.1 o).1;
    tried = λ b x. tried_fine t b (reach k) (visible E) ((fine_at k E c.2).carried None (Body.Try t) c.0.0).0.1 x.0;
  }
  fine_at (Judge t n d e ∷ k) E c = nothing (Judge t n d e ∷ k) E (λ n b x. x) (λ ss x. x) (λ b x. x)
  fine_at (Mark ∷ k) [] c = absurd c
  fine_at (Mark ∷ []) (N ∷ E) c = record { carried = λ m b x. absurd x; opens = λ ss o. by ss o; tried = λ b x. absurd x }
    where
      by : (ss : Steps) → places.Opens fs h.steps h.binds (Mark ∷ []) ss (N ∷ E) → fine.StepsFine fs ss (in_block ss (reach (Mark ∷ []))) (visible (N ∷ E))
      by ss (inl o) = absurd o
      by ss (inr o) = absurd o.1
  fine_at (Mark ∷ Loop l w i ∷ k) (N ∷ E) c = record { carried = λ m b x. absurd x; opens = by (fine_at k E c.2.1); tried = λ b x. absurd x }
    where
      by : FineAt k E → (ss : Steps) → places.Opens fs h.steps h.binds (Mark ∷ Loop l w i ∷ k) ss (N ∷ E) → fine.StepsFine fs ss (in_block ss (reach (Mark ∷ Loop l w i ∷ k))) (visible (N ∷ E))
      by f ss (inl o) = turn_fine l (reach k) E N ss (f.carried None (Body.For l) c.2.0.0).0.1 o
      by f ss (inr o) = absurd o.1
  fine_at (Mark ∷ i ∷ k) (N ∷ E) c = record { carried = λ m b x. absurd x; opens = by (fine_at (i ∷ k) E c.2); tried = λ b x. absurd x }
    where
      by : FineAt (i ∷ k) E → (ss : Steps) → places.Opens fs h.steps h.binds (Mark ∷ i ∷ k) ss (N ∷ E) → fine.StepsFine fs ss (in_block ss (reach (Mark ∷ i ∷ k))) (visible (N ∷ E))
      by f ss (inl o) = absurd o
      by f ss (inr o) = except_fine o.0 (reach (i ∷ k)) E N ss (f.carried None (Body.Try o.0) o.1).0.1 o.2
  fine_at (Back r ∷ k) [] c = absurd c
  fine_at (Back r ∷ k) (N ∷ E) c = record { carried = λ m b x. absurd x; opens = λ ss o. by ss o; tried = λ b x. absurd x }
    where
      by : (ss : Steps) → places.Opens fs h.steps h.binds (Back r ∷ k) ss (N ∷ E) → fine.StepsFine fs ss (in_block ss fine.in_call) (visible (N ∷ E))
      by ss o =
          let w = o.0 in
          subst (λ M. fine.StepsFine fs ss (in_block ss fine.in_call) (visible (M ∷ E))) (sym o.3)
          (subst (λ s. fine.StepsFine fs s (in_block s fine.in_call) (visible (OfCall (param_names w.params) (assigned w.steps) ∷ E))) o.2 (called_fine k r w o.1))
  fine_at (Join body left n r es ∷ k) E c = nothing (Join body left n r es ∷ k) E (λ n b x. x) (λ ss x. x) (λ b x. x)

  -- ## All items
  lone_fine : (k : List Item) (E : List Own) → FineAt k E → (block left : Steps) → places.DoStands fs h.steps h.binds k block left E → fine.StepsFine fs left (in_block block (reach k)) (visible E) × RestOf left block
  lone_fine k E f block left (inl d) = (rest_fine block left (in_block block (reach k)) (visible E) (opened_fine k E f block d.0) d.1, inl d.1)
  lone_fine k E f block left (inr d) = (subst (λ s. fine.StepsFine fs left (in_block s (reach k)) (visible E)) (sym d.0) (by d.1.3), inr d.0)
    where
      by : (left ≡ unnamed d.1.0 d.1.1) ⊎ (left ≡ no_steps) → fine.StepsFine fs left (reach k) (visible E)
      by (inl e) = subst (λ s. fine.StepsFine fs s (reach k) (visible E)) (sym e) (let g = entered_fine k E f d.1.1 d.1.0 d.1.2 in ((g.0, g.1), tt))
      by (inr e) = subst (λ s. fine.StepsFine fs s (reach k) (visible E)) (sym e) tt

  is_judge : (k : List Item) (r : Option Text) (f : Flow) → places.JudgedIn fs k r f → (r ≡ None) × IsJudge k
  is_judge [] r f j = absurd j
  is_judge (Judge t n d e ∷ k) r f j = (j.0, tt)
  is_judge (i ∷ k) r f j = absurd j

  -- the result of a call, and the call
  call_fine : (k : List Item) (E : List Own) → FineAt k E → (g : CallBody) (r : Option Text) → Carried k None (Body.Call g) → g.result ≡ r → fine.ResultFine r (visible E) × fine.CallHere fs r (reach k) (visible E)
  call_fine k E f g r c e =
      let b = f.carried None (Body.Call g) c in
      (subst (λ x. fine.ResultFine x (visible E)) e b.0.1.2, record { call = g; here = b.0.0; is = e })

  result_fine : (k : List Item) (E : List Own) → FineAt k E → (r : Option Text) (w : Flow) → places.CalledIn fs k r w → fine.ResultFine r (visible E) × (fine.CallHere fs r (reach k) (visible E) ⊎ ((r ≡ None) × IsJudge k))
  result_fine k E f r w (inl c) = let x = call_fine k E f c.0 r c.1 c.2 in (x.0, inl x.1)
  result_fine k E f r w (inr j) = let x = is_judge k r w j in (subst (λ o. fine.ResultFine o (visible E)) (sym x.0) tt, inr x)

  is_call : (b a : List Text) (N : Own) → N ≡ OfCall b a → places.IsCall N
  is_call b a N e = subst places.IsCall (sym e) tt

  -- nothing stands inside a parallel step
  carried_in : (k : List Item) (n : Option Text) (b : Body) → Carried k n b → NoJoin k
  carried_in [] n b c = tt
  carried_in (Join body left m r es ∷ k) n b c = absurd c
  carried_in (i ∷ k) n b c = tt

  tried_in : (k : List Item) (b : Body) → TriedIn k b → NoJoin k
  tried_in [] b c = tt
  tried_in (Join body left m r es ∷ k) b c = absurd c
  tried_in (i ∷ k) b c = tt

  opens_in : (k : List Item) (ss : Steps) (E : List Own) → places.Opens fs h.steps h.binds k ss E → NoJoin k
  opens_in [] ss E o = tt
  opens_in (Join body left m r es ∷ k) ss E o = absurd o
  opens_in (i ∷ k) ss E o = tt

  turned_in : (k : List Item) (ss : Steps) (E : List Own) → places.TurnOf k ss E → NoJoin k
  turned_in [] ss E o = tt
  turned_in (Join body left m r es ∷ k) ss E o = absurd o
  turned_in (i ∷ k) ss E o = tt

  judged_in : (k : List Item) (r : Option Text) (w : Flow) → places.JudgedIn fs k r w → NoJoin k
  judged_in [] r w o = tt
  judged_in (Join body left m x es ∷ k) r w o = absurd o
  judged_in (i ∷ k) r w o = tt

  entered_in : (k : List Item) (n : Option Text) (b : Body) → Entered k n b → NoJoin k
  entered_in k n b (inl t) = tried_in k b t.0
  entered_in k n b (inr a) = carried_in k None (Body.Switch a.0) a.1

  opened_in : (k : List Item) (ss : Steps) (E : List Own) → places.Opened fs h.steps h.binds k ss E → NoJoin k
  opened_in k ss E (inl c) = carried_in k None (Body.Block ss) c
  opened_in k ss E (inr o) = opens_in k ss E o

  do_in : (k : List Item) (block left : Steps) (E : List Own) → places.DoStands fs h.steps h.binds k block left E → NoJoin k
  do_in k block left E (inl d) = opened_in k block E d.0
  do_in k block left E (inr d) = entered_in k d.1.1 d.1.0 d.1.2

  mark_in : (k : List Item) (ss : Steps) (E : List Own) → places.Opens fs h.steps h.binds (Mark ∷ k) ss E → NoJoin k
  mark_in k ss E (inl o) = turned_in k ss E o
  mark_in k ss E (inr o) = carried_in k None (Body.Try o.0) o.1

  called_in : (k : List Item) (r : Option Text) (w : Flow) → places.CalledIn fs k r w → NoJoin k
  called_in k r w (inl c) = carried_in k None (Body.Call c.0) c.1
  called_in k r w (inr j) = judged_in k r w j

  pub nested : (most : ℕ) (k : List Item) (E : List Own) → NoJoin k → Chained k E → chain.Bounded most k → calls_in k ≤ call_limit → places.Nested fs most h k E
  nested most [] E j c q z = c
  nested most (Do block left ∷ k) E j c q z = let f = fine_at k E c.1 in (block_fine k E f block left c.0, lone_fine k E f block left c.0, nested most k E (do_in k block left E c.0) c.1 q z, c.0)
  nested most (Entries es ∷ k) E j c q z =
      let f = fine_at k E c.1 in
      (tail_fine c.0.0 es (visible E) (f.carried None (Body.Assign c.0.0) c.0.1).0.1 c.0.2, nested most k E (carried_in k None (Body.Assign c.0.0) c.0.1) c.1 q z, c.0)
  nested most (Then x ∷ k) E j c q z = let f = fine_at k E c.1 in ((f.carried (Some x) c.0.0 c.0.1).1, nested most k E (carried_in k (Some x) c.0.0 c.0.1) c.1 q z, c.0)
  nested most (Loop l w i ∷ k) E j c q z = let f = fine_at k E c.1 in ((f.carried None (Body.For l) c.0.0).0, q.0, nested most k E (carried_in k None (Body.For l) c.0.0) c.1 q.1 z, c.0)
  nested most (Try t n d ∷ k) E j c q z = let f = fine_at k E c.2 in ((f.carried None (Body.Try t) c.0.0).0, c.1, nested most k E (carried_in k None (Body.Try t) c.0.0) c.2 q z, c.0)
  nested most (Judge t n d e ∷ k) E j c q z = let f = fine_at k E c.2 in ((f.carried None (Body.Try t) c.0.0).0, c.1, nested most k E (carried_in k None (Body.Try t) c.0.0) c.2 q z, c.0)
  nested most (Mark ∷ k) [] j c q z = absurd c
  nested most (Mark ∷ k) (N ∷ E) j c q z = (c.0, nested most k E (mark_in k c.1.0 (N ∷ E) c.1.1) c.2 q z, c.1)
  nested most (Back r ∷ k) [] j c q z = absurd c
  nested most (Back r ∷ k) (N ∷ E) j c q z =
      let f = fine_at k E c.1 in
      let x = result_fine k E f r c.0.0 c.0.1 in
      (is_call (param_names c.0.0.params) (assigned c.0.0.steps) N c.0.2, x.0, x.1, nested most k E (called_in k r c.0.0 c.0.1) c.1 q (omega (arith, z)), c.0, z)
  nested most (Join body left n r es ∷ k) E j c q z = absurd j

  work_fine : (body : ParallelBody) (left : WorkLeft) (n : ℕ) (ls : List Names) → fine.ParallelFine fs body ls → places.IsLeftIn body left n → places.LeftFine fs h body left ls
  work_fine (parallel shared limit (OfBranches bs)) (BranchesLeft left) n ls f e = left_fine n bs left shared ls f e
  work_fine (parallel shared limit (OfBranches bs)) (ValuesLeft w) n ls f e = absurd e
  work_fine (parallel shared limit (OfLoop l)) (BranchesLeft left) n ls f e = absurd e
  work_fine (parallel shared limit (OfLoop (loop x i o ss))) (ValuesLeft w) n ls f e = tt

  pub control : (most : ℕ) (k : List Item) (E : List Own) → Chained k E → chain.Bounded most k → calls_in k ≤ call_limit → chain.RunsFew k → places.Control fs most h k E
  control most (Join body left n r es ∷ k) E c q z y =
      let f = (fine_at k E c.1).carried None (Body.Parallel body) c.0.0 in
      (f.0, work_fine body left n (visible E) f.0.1 c.0.1, q.0, q.1, nested most k E (carried_in k None (Body.Parallel body) c.0.0) c.1 q.2 z, c.0, y.0)
  control most [] E c q z y = nested most [] E tt c q z
  control most (i ∷ k) E c q z y = nested most (i ∷ k) E tt c q z

  -- ## Waits
  pub named : (w : Wait) (k : List Item) (E : List Own) → Chained k E → chain.WaitStands fs w k → places.Named fs h w k E
  named Awake k E c s = s
  named (Sleep d r) k E c s = let x = call_fine k E (fine_at k E c) s.0 r s.1 s.2 in (carried_in k None (Body.Call s.0) s.1, x.0, x.1, s)
  named (Delay d) k E c s = s
  named (Calling n r) k E c s = let x = call_fine k E (fine_at k E c) s.0 r s.1 s.2 in (carried_in k None (Body.Call s.0) s.1, x.0, x.1, s)
  named (Await n d r) k E c s = let x = call_fine k E (fine_at k E c) s.0 r s.1 s.2 in (carried_in k None (Body.Call s.0) s.1, x.0, x.1, s)

  -- ## What the items hold stands in the program
  here : (b : Body) (j : Reach) (ls : List Names) → BodyFine b j ls → IsBody fs b
  here b j ls f = (f.0.node, f.0.member, f.0.is)

  pub exist : (k : List Item) (E : List Own) → Chained k E → AllExist fs k
  exist [] E c = tt
  exist (Do block left ∷ k) E c = (by c.0 (fine_at k E c.1), exist k E c.1)
    where
      by : places.DoStands fs h.steps h.binds k block left E → FineAt k E → ItemExists fs (Do block left)
      by (inl d) f = inl d.1
      by (inr d) f = inr (d.0, (d.1.0, d.1.1, here d.1.0 (reach k) (visible E) (entered_fine k E f d.1.1 d.1.0 d.1.2).0, d.1.3))
  exist (Entries es ∷ k) E c = ((c.0.0, here (Body.Assign c.0.0) (reach k) (visible E) ((fine_at k E c.1).carried None (Body.Assign c.0.0) c.0.1).0, c.0.2), exist k E c.1)
  exist (Then x ∷ k) E c = (tt, exist k E c.1)
  exist (Loop l w i ∷ k) E c = ((here (Body.For l) (reach k) (visible E) ((fine_at k E c.1).carried None (Body.For l) c.0.0).0, c.0.1), exist k E c.1)
  exist (Try t n d ∷ k) E c = (here (Body.Try t) (reach k) (visible E) ((fine_at k E c.2).carried None (Body.Try t) c.0.0).0, exist k E c.2)
  exist (Judge t n d e ∷ k) E c = (here (Body.Try t) (reach k) (visible E) ((fine_at k E c.2).carried None (Body.Try t) c.0.0).0, exist k E c.2)
  exist (Mark ∷ k) [] c = absurd c
  exist (Mark ∷ k) (N ∷ E) c = (tt, exist k E c.2)
  exist (Back r ∷ k) [] c = absurd c
  exist (Back r ∷ k) (N ∷ E) c = (tt, exist k E c.1)
  exist (Join body left n r es ∷ k) E c = ((here (Body.Parallel body) (reach k) (visible E) ((fine_at k E c.1).carried None (Body.Parallel body) c.0.0).0, c.0.1), exist k E c.1)

-- ## Back
module _ (fs : List Flow) (h : Home) where
  abbrev ChainedIn : List Item → List Own → Type 0
  ChainedIn = chain.Chained fs h.steps h.binds

  -- what NeverWrong's nesting says of a chain
  pub chained : (most : ℕ) (k : List Item) (E : List Own) → places.Nested fs most h k E → ChainedIn k E
  chained most [] E n = n
  chained most (Do block left ∷ k) E n = (n.3, chained most k E n.2)
  chained most (Entries es ∷ k) E n = (n.2, chained most k E n.1)
  chained most (Then x ∷ k) E n = (n.2, chained most k E n.1)
  chained most (Loop l w i ∷ k) E n = (n.3, chained most k E n.2)
  chained most (Try t m d ∷ k) E n = (n.3, n.1, chained most k E n.2)
  chained most (Judge t m d e ∷ k) E n = (n.3, n.1, chained most k E n.2)
  chained most (Mark ∷ k) [] n = absurd n
  chained most (Mark ∷ k) (N ∷ E) n = (n.0, n.2, chained most k E n.1)
  chained most (Back r ∷ k) [] n = absurd n
  chained most (Back r ∷ k) (N ∷ E) n = (n.4, chained most k E n.3)
  chained most (Join body left m r es ∷ k) E n = absurd n

  pub chained_control : (most : ℕ) (k : List Item) (E : List Own) → places.Control fs most h k E → ChainedIn k E
  chained_control most (Join body left m r es ∷ k) E n = (n.5, chained most k E n.4)
  chained_control most [] E n = chained most [] E n
  chained_control most (i ∷ k) E n = chained most (i ∷ k) E n

  pub wait_stands : (w : Wait) (k : List Item) (E : List Own) → places.Named fs h w k E → chain.WaitStands fs w k
  wait_stands Awake k E n = n
  wait_stands (Sleep d r) k E n = n.3
  wait_stands (Delay d) k E n = n
  wait_stands (Calling m r) k E n = n.3
  wait_stands (Await m d r) k E n = n.3

  pub bounded : (most : ℕ) (k : List Item) (E : List Own) → places.Nested fs most h k E → chain.Bounded most k
  bounded most [] E n = tt
  bounded most (Do block left ∷ k) E n = bounded most k E n.2
  bounded most (Entries es ∷ k) E n = bounded most k E n.1
  bounded most (Then x ∷ k) E n = bounded most k E n.1
  bounded most (Loop l w i ∷ k) E n = (n.1, bounded most k E n.2)
  bounded most (Try t m d ∷ k) E n = bounded most k E n.2
  bounded most (Judge t m d e ∷ k) E n = bounded most k E n.2
  bounded most (Mark ∷ k) [] n = absurd n
  bounded most (Mark ∷ k) (N ∷ E) n = bounded most k E n.1
  bounded most (Back r ∷ k) [] n = absurd n
  bounded most (Back r ∷ k) (N ∷ E) n = bounded most k E n.3
  bounded most (Join body left m r es ∷ k) E n = absurd n

  pub bounded_control : (most : ℕ) (k : List Item) (E : List Own) → places.Control fs most h k E → chain.Bounded most k
  bounded_control most (Join body left m r es ∷ k) E n = (n.2, n.3, bounded most k E n.4)
  bounded_control most [] E n = bounded most [] E n
  bounded_control most (i ∷ k) E n = bounded most (i ∷ k) E n

  pub few_calls : (most : ℕ) (k : List Item) (E : List Own) → places.Nested fs most h k E → calls_in k ≤ call_limit
  few_calls most [] E n = omega arith
  few_calls most (Do block left ∷ k) E n = few_calls most k E n.2
  few_calls most (Entries es ∷ k) E n = few_calls most k E n.1
  few_calls most (Then x ∷ k) E n = few_calls most k E n.1
  few_calls most (Loop l w i ∷ k) E n = few_calls most k E n.2
  few_calls most (Try t m d ∷ k) E n = few_calls most k E n.2
  few_calls most (Judge t m d e ∷ k) E n = few_calls most k E n.2
  few_calls most (Mark ∷ k) [] n = absurd n
  few_calls most (Mark ∷ k) (N ∷ E) n = few_calls most k E n.1
  few_calls most (Back r ∷ k) [] n = absurd n
  few_calls most (Back r ∷ k) (N ∷ E) n = let l = n.5 in omega (arith, l)
  few_calls most (Join body left m r es ∷ k) E n = absurd n

  few_none : (most : ℕ) (k : List Item) (E : List Own) → places.Nested fs most h k E → chain.RunsFew k
  few_none most [] E n = tt
  few_none most (Do block left ∷ k) E n = few_none most k E n.2
  few_none most (Entries es ∷ k) E n = few_none most k E n.1
  few_none most (Then x ∷ k) E n = few_none most k E n.1
  few_none most (Loop l w i ∷ k) E n = few_none most k E n.2
  few_none most (Try t m d ∷ k) E n = few_none most k E n.2
  few_none most (Judge t m d e ∷ k) E n = few_none most k E n.2
  few_none most (Mark ∷ k) [] n = absurd n
  few_none most (Mark ∷ k) (N ∷ E) n = few_none most k E n.1
  few_none most (Back r ∷ k) [] n = absurd n
  few_none most (Back r ∷ k) (N ∷ E) n = few_none most k E n.3
  few_none most (Join body left m r es ∷ k) E n = absurd n

  pub few_control : (most : ℕ) (k : List Item) (E : List Own) → places.Control fs most h k E → (calls_in k ≤ call_limit) × chain.RunsFew k
  few_control most (Join body left m r es ∷ k) E n = (few_calls most k E n.4, (n.6, few_none most k E n.4))
  few_control most [] E n = (few_calls most [] E n, few_none most [] E n)
  few_control most (i ∷ k) E n = (few_calls most (i ∷ k) E n, few_none most (i ∷ k) E n)
