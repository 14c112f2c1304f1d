-- The places of the tasks of a configuration that fits, and what fits of one whose tasks stand.
--     home_at, place_at    a task's home by the chain of its parents
--     fits_stands          what fits stands as NeverWrong wants it
--     stands_fits          and what stands so fits
use Rattle.std.specs.Prelude.{◌≡◌, ◌≢◌, ◌⊎◌, unwrap_or, ℕ, zero, suc, ◌<◌, ◌≤◌, List, [], ◌∷◌, Some, None, Option}
use Rattle.std.proofs.Common.{arith}
use Rattle.std.proofs.lemmas.Option.{same_Some}
use mathlib.Core.Logic.{inl, inr}
use mathlib.Core.Path.{refl, sym, subst, ap, ◌∙◌}
use Rattle.wf_ast.specs.Accept.{Accept}
use Rattle.wf_ast.specs.Nodes.{Names, assigned}
use Rattle.wf_ast.specs.Tree.{Steps, no_steps, loop, parallel, OfBranches, OfLoop, Branches, no_branches, branch, Flow, Program}
use Rattle.wf_fits.specs.Chain as chain
use Rattle.wf_fits.specs.Chain.{first_steps, first_binds, HoldsFirst, Matched}
use Rattle.wf_fits.specs.Fits.{Nests, HasParent, Fits, FitsAfter, InitialFits, StepsFit, RunsFit, FittingExists, ItemsAreNested, LayersMatch, TasksAreLinked, WaitsAreNamed, WithinLimits, IsSo, Stays, PlacesStay, ItemsStay, LayersStay, TasksStay, WaitsStay, LimitsStay}
use Rattle.wf_fits.specs.PlacesExist.{PlacesExist}
use Rattle.wf_fits.proofs.Kept as kept
use Rattle.wf_fits.proofs.Nesting as nesting
use Rattle.wf_fits.proofs.Outside.{bodies_within, first_within}
use Rattle.wf_fits.proofs.Deep as deep
use Rattle.wf_fits.proofs.Lifting as lifting
use Rattle.wf_fits.proofs.Totals as totals
use Rattle.wf_fits.specs.Limits.{FlowsShallow, WithinBodies, Within, AreNested}
use Rattle.wf_model.specs.Config.{Layer, Item, Do, Join, Wait, Awake, Sleep, Delay, Calling, Await, Task, Outcome, Active, Returned, Raised, Cancelled, Config, After, To, Wrong, NotNow, move_limit, limits, task_in}
use Rattle.wf_model.proofs.After.{Leads}
use Rattle.wf_model.proofs.Counts.{next_counts}
use Rattle.wf_model.proofs.Walk.{leads_on}
use Rattle.wf_model.specs.Local.{goes}
use Rattle.wf_model.specs.RunLaws.{Counts}
use Rattle.wf_model.specs.Run.{main_steps, main_local, empty, initial, run_on}
use Rattle.wf_model.specs.Step.{step_from, next}
use Rattle.wf_never_wrong.proofs.Accepted.{accepted_fine}
use Rattle.wf_never_wrong.proofs.NeverWrong.{initial_stands, steps_stand}
use Rattle.wf_never_wrong.proofs.Names.{among_first}
use Rattle.wf_never_wrong.proofs.Tasks.{some_is_no}
use Rattle.wf_never_wrong.specs.Fine as fine
use Rattle.wf_never_wrong.specs.Fine.{in_block, names}
use Rattle.wf_never_wrong.specs.Places as places
use Rattle.wf_never_wrong.specs.Places.{Own, OfMark, OfCall, OfTask, Home, Holds, HoldsInside, root_reach, seen}
use Rattle.wf_never_wrong.specs.Stands.{Place, OfEach, main_home, home_in, branch_steps, steps_in, binds_in, IsJoinOf, IsLinked, Stands, StandsAfter}
use Rattle.wf_value.specs.Data.{Pairs, null}
use Rattle.wf_value.specs.Decode.{json_value}
use Rattle.wf_value.specs.Events.{Event, Start}
use Rattle.wf_value.specs.Pairs.{Text}

-- ## Homes by the chain of parents
abbrev Below : Option (ℕ × ℕ) → ℕ → Type 0
Below None n = Unit {0}
Below (Some p) n = p.0 < n

below_more : (o : Option (ℕ × ℕ)) (n m : ℕ) → n ≤ m → Below o n → Below o m
below_more None n m le l = tt
below_more (Some p) n m le l = omega (arith, le, l)

none_below : {A : Type 0} (n : ℕ) → n < 0 → A
none_below n l = absurd (by l)
  where
    by : n < 0 → ⊥
    by i = omega (arith, i)

down : (a n : ℕ) → a < suc n → a ≤ n
down a n l = omega (arith, l)

module _ (fs : List Flow) (ts : List (ℕ × Task)) (own : ℕ → List Own) where
  abbrev home_at : ℕ → Option (ℕ × ℕ) → Home
  home_at zero o = main_home fs
  home_at (suc n) None = main_home fs
  home_at (suc n) (Some p) = elim (task_in ts p.0) [ None ↦ main_home fs | Some t ↦ home_in (record { own = own p.0; home = home_at n t.parent }) t.control p.1 ]

  abbrev parent_of : ℕ → Option (ℕ × ℕ)
  parent_of b = elim (task_in ts b) [ None ↦ None | Some t ↦ t.parent ]

  abbrev place_at : ℕ → Place
  place_at b = record { own = own b; home = home_at b (parent_of b) }

  parent_is : (b : ℕ) (t : Task) → task_in ts b ≡ Some t → parent_of b ≡ t.parent
  parent_is b t e = ap (λ o. elim o as (λ x. Option (ℕ × ℕ)) [ None ↦ None | Some v ↦ v.parent ]) e

  no_parent : (n : ℕ) → home_at n None ≡ main_home fs
  no_parent zero = refl
  no_parent (suc n) = refl

  module _ (linked : OfEach ts (λ b t. HasParent ts b t.parent)) where
    below_by : (b : ℕ) (o : Option (ℕ × ℕ)) → HasParent ts b o → Below o b
    below_by b None h = tt
    below_by b (Some p) h = h.less

    same_home : (n m : ℕ) (o : Option (ℕ × ℕ)) → Below o n → Below o m → home_at n o ≡ home_at m o
    same_home zero zero o l k = refl
    same_home zero (suc m) None l k = refl
    same_home zero (suc m) (Some p) l k = none_below p.0 l
    same_home (suc n) zero None l k = refl
    same_home (suc n) zero (Some p) l k = none_below p.0 k
    same_home (suc n) (suc m) None l k = refl
    same_home (suc n) (suc m) (Some p) l k = by (λ o u v. same_home n m o u v) (task_in ts p.0) refl
      where
        by : ((o : Option (ℕ × ℕ)) → Below o n → Below o m → home_at n o ≡ home_at m o) → (o : Option Task) → task_in ts p.0 ≡ o
            → elim o as (λ x. Home) [ None ↦ main_home fs | Some t ↦ home_in (record { own = own p.0; home = home_at n t.parent }) t.control p.1 ]
            ≡ elim o as (λ x. Home) [ None ↦ main_home fs | Some t ↦ home_in (record { own = own p.0; home = home_at m t.parent }) t.control p.1 ]
        by again None e = refl
        by again (Some t) e =
            let under = below_by p.0 t.parent (linked p.0 t e) in
            ap (λ x. home_in (record { own = own p.0; home = x }) t.control p.1) (again t.parent (below_more t.parent p.0 n (down p.0 n l) under) (below_more t.parent p.0 m (down p.0 m k) under))

    some_parent : (n : ℕ) (p : ℕ × ℕ) (t : Task) → p.0 < n → task_in ts p.0 ≡ Some t → home_at n (Some p) ≡ home_in (place_at p.0) t.control p.1
    some_parent zero p t l e = none_below p.0 l
    some_parent (suc n) p t l e =
        let under = below_by p.0 t.parent (linked p.0 t e) in
        ap (λ o. elim o as (λ x. Home) [ None ↦ main_home fs | Some v ↦ home_in (record { own = own p.0; home = home_at n v.parent }) v.control p.1 ]) e
        ∙ ap (λ x. home_in (record { own = own p.0; home = x }) t.control p.1) (same_home n p.0 t.parent (below_more t.parent p.0 n (down p.0 n l) under) under ∙ ap (home_at p.0) (sym (parent_is p.0 t e)))

    module _ (awake : (b n : ℕ) (t : Task) → task_in ts b ≡ Some t → IsJoinOf t.control n → t.wait ≡ Awake) where
      link_by : (b : ℕ) (o : Option (ℕ × ℕ)) → HasParent ts b o → parent_of b ≡ o → IsLinked fs ts place_at b o
      link_by b None h e = (h, ap (home_at b) e ∙ no_parent b)
      link_by b (Some p) h e = record {
        parent = h.parent;
        found = h.found;
        less = h.less;
        awake = awake p.0 b h.parent h.found h.joins;
        joins = h.joins;
        home = ap (home_at b) e ∙ some_parent b p h.parent h.less h.found;
      }

      link : (b : ℕ) (t : Task) → task_in ts b ≡ Some t → IsLinked fs ts place_at b t.parent
      link b t e = link_by b t.parent (linked b t e) (parent_is b t e)

-- ## Steps and names of a home
first_is : (fs : List Flow) (ts : List (ℕ × Task)) (G : ℕ → Place) (b : ℕ) (o : Option (ℕ × ℕ)) → IsLinked fs ts G b o → first_steps fs ts o ≡ (G b).home.steps
first_is fs ts G b None l = ap (λ h. h.steps) (sym l.1)
first_is fs ts G b (Some p) l = ap (λ o. elim o as (λ x. Steps) [ None ↦ no_steps | Some t ↦ steps_in t.control p.1 ]) l.found ∙ ap (λ h. h.steps) (sym l.home)

binds_is : (fs : List Flow) (ts : List (ℕ × Task)) (G : ℕ → Place) (b : ℕ) (o : Option (ℕ × ℕ)) → IsLinked fs ts G b o → first_binds fs ts o ≡ (G b).home.binds
binds_is fs ts G b None l = ap (λ h. h.binds) (sym l.1)
binds_is fs ts G b (Some p) l = ap (λ o. elim o as (λ x. List Text) [ None ↦ [] | Some t ↦ binds_in t.control ]) l.found ∙ ap (λ h. h.binds) (sym l.home)

-- ## Layers
inside_of : (ls : List Names) (ps : Pairs) (b : List Text) → Holds ps b → HoldsInside ls ps b
inside_of [] ps b h = λ x i. h x (among_first x b i)
inside_of (l ∷ ls) ps b h = h

layered : (fs : List Flow) (h : Home) (o : Option (ℕ × ℕ)) (ls : List Layer) (E : List Own) → ((ps : Pairs) (b : List Text) → HoldsFirst o ps b → HoldsInside h.base ps b) → Matched o ls E → places.Layered fs h ls E
layered fs h o [] [] f m = absurd m
layered fs h o [] (OfMark b a ∷ E) f m = absurd m
layered fs h o [] (OfCall b a ∷ E) f m = absurd m
layered fs h o [] (OfTask b a ∷ E) f m = absurd m
layered fs h o (l ∷ ls) [] f m = absurd m
layered fs h o (l ∷ ls) (OfMark b a ∷ E) f m = (m.0, m.1, inside_of (seen h E) l.vars b m.2, layered fs h o ls E f m.3)
layered fs h o (l ∷ ls) (OfCall b a ∷ E) f m = (m.0, m.1, layered fs h o ls E f m.3, m.2)
layered fs h o (l ∷ []) (OfTask b a ∷ []) f m = (m.0, m.1, f l.vars b m.2)
layered fs h o (l ∷ []) (OfTask b a ∷ N ∷ E) f m = absurd m
layered fs h o (l ∷ out ∷ ls) (OfTask b a ∷ E) f m = absurd m

-- some layer is seen from inside a task
some_seen : (fs : List Flow) (h : Home) (ls : List Layer) (E : List Own) → places.Layered fs h ls E → (ps : Pairs) (b : List Text) → HoldsInside (seen h E) ps b → Holds ps b
some_seen fs h [] [] m ps b i = absurd m
some_seen fs h (l ∷ ls) [] m ps b i = absurd m
some_seen fs h ls (OfMark c a ∷ E) m ps b i = i
some_seen fs h ls (OfCall c a ∷ E) m ps b i = i
some_seen fs h ls (OfTask c a ∷ E) m ps b i = i

matched : (fs : List Flow) (h : Home) (o : Option (ℕ × ℕ)) (ls : List Layer) (E : List Own) → ((ps : Pairs) (b : List Text) → HoldsInside h.base ps b → HoldsFirst o ps b) → places.Layered fs h ls E → Matched o ls E
matched fs h o [] [] f m = absurd m
matched fs h o [] (OfMark b a ∷ E) f m = absurd m
matched fs h o [] (OfCall b a ∷ E) f m = absurd m
matched fs h o [] (OfTask b a ∷ E) f m = absurd m
matched fs h o (l ∷ ls) [] f m = absurd m
matched fs h o (l ∷ ls) (OfMark b a ∷ E) f m = (m.0, m.1, some_seen fs h ls E m.3 l.vars b m.2, matched fs h o ls E f m.3)
matched fs h o (l ∷ ls) (OfCall b a ∷ E) f m = (m.0, m.1, m.3, matched fs h o ls E f m.2)
matched fs h o (l ∷ []) (OfTask b a ∷ []) f m = (m.0, m.1, f l.vars b m.2)
matched fs h o (l ∷ []) (OfTask b a ∷ N ∷ E) f m = absurd m
matched fs h o (l ∷ out ∷ ls) (OfTask b a ∷ E) f m = absurd m

-- ## Where a task begins
abbrev StartFine : List Flow → Home → Type 0
StartFine fs h = fine.StepsFine fs h.steps (in_block h.steps (root_reach h.root)) (seen h (OfTask h.binds (assigned h.steps) ∷ []))

main_start : (fs gs : List Flow) → fine.AllFine fs gs → StartFine fs (main_home gs)
main_start fs [] f = tt
main_start fs (g ∷ gs) f = f.0

branches_start : (fs : List Flow) (bs : Branches) (i : ℕ) (shared : List Text) (ls : List Names) → fine.BranchesFine fs bs shared ls
    → fine.StepsFine fs (branch_steps bs i) (in_block (branch_steps bs i) fine.in_branch) (names [] (assigned (branch_steps bs i)) (Some shared) ∷ ls)
branches_start fs no_branches i shared ls f = tt
branches_start fs (branch x ss bs) zero shared ls f = f.0
branches_start fs (branch x ss bs) (suc i) shared ls f = branches_start fs bs i shared ls f.1

child_start : (fs : List Flow) (most : ℕ) (g : Place) (k : List Item) (i : ℕ) → places.Control fs most g.home k g.own → StartFine fs (home_in g k i)
child_start fs most g (Join (parallel shared limit (OfBranches bs)) left n r es ∷ k) i c = branches_start fs bs i shared (seen g.home g.own) c.0.1
child_start fs most g (Join (parallel shared limit (OfLoop (loop x y o ss))) left n r es ∷ k) i c = c.0.1
child_start fs most g [] i c = tt
child_start fs most g (j ∷ k) i c = tt

join_awake : (fs : List Flow) (w : Wait) (k : List Item) (n : ℕ) → chain.WaitStands fs w k → IsJoinOf k n → w ≡ Awake
join_awake fs Awake k n s j = refl
join_awake fs (Sleep d r) (Join body left m x es ∷ k) n s j = absurd s.1
join_awake fs (Sleep d r) [] n s j = absurd j
join_awake fs (Sleep d r) (i ∷ k) n s j = absurd j
join_awake fs (Delay d) (Join body left m x es ∷ k) n s j = absurd s
join_awake fs (Delay d) [] n s j = absurd j
join_awake fs (Delay d) (i ∷ k) n s j = absurd j
join_awake fs (Calling c r) (Join body left m x es ∷ k) n s j = absurd s.1
join_awake fs (Calling c r) [] n s j = absurd j
join_awake fs (Calling c r) (i ∷ k) n s j = absurd j
join_awake fs (Await d c r) (Join body left m x es ∷ k) n s j = absurd s.1
join_awake fs (Await d c r) [] n s j = absurd j
join_awake fs (Await d c r) (i ∷ k) n s j = absurd j

-- ## What fits stands
module _ (p : Program) (all : fine.AllFine p.flows p.flows) (c : Config) (f : Fits p c) where
  abbrev fs : List Flow
  fs = p.flows

  abbrev Known : Task → List Own → Type 0
  Known t E = Nests fs c.tasks t E × Matched t.parent t.layers E

  abbrev own_by : (b : ℕ) (o : Option Task) → task_in c.tasks b ≡ o → List Own
  own_by b None e = []
  own_by b (Some t) e = (f.layers b t e).0

  abbrev own_of : ℕ → List Own
  own_of b = own_by b (task_in c.tasks b) refl

  known_by : (b : ℕ) (t : Task) (o : Option Task) (e : task_in c.tasks b ≡ o) → o ≡ Some t → Known t (own_by b o e)
  known_by b t None e i = some_is_no t (sym i)
  known_by b t (Some u) e i = let x = f.layers b u e in subst (λ v. Known v x.0) (same_Some u t i) (x.1, x.2)

  known : (b : ℕ) (t : Task) → task_in c.tasks b ≡ Some t → Known t (own_of b)
  known b t e = known_by b t (task_in c.tasks b) refl e

  awake : (b n : ℕ) (t : Task) → task_in c.tasks b ≡ Some t → IsJoinOf t.control n → t.wait ≡ Awake
  awake b n t e j = join_awake fs t.wait t.control n (known b t e).0.1 j

  abbrev G : ℕ → Place
  G = place_at fs c.tasks own_of

  linked : (b : ℕ) (t : Task) → task_in c.tasks b ≡ Some t → IsLinked fs c.tasks G b t.parent
  linked = link fs c.tasks own_of f.tasks.parents awake

  chained : (b : ℕ) (t : Task) → task_in c.tasks b ≡ Some t → chain.Chained fs (G b).home.steps (G b).home.binds t.control (G b).own
  chained b t e =
      subst (λ s. chain.Chained fs s (G b).home.binds t.control (G b).own) (first_is fs c.tasks G b t.parent (linked b t e))
      (subst (λ n. chain.Chained fs (first_steps fs c.tasks t.parent) n t.control (G b).own) (binds_is fs c.tasks G b t.parent (linked b t e)) (known b t e).0.0)

  starts : (n b : ℕ) → b < n → (t : Task) → task_in c.tasks b ≡ Some t → StartFine fs (G b).home
  starts zero b l t e = none_below b l
  starts (suc n) b l t e = by (λ a i u x. starts n a i u x) t.parent (linked b t e)
    where
      by : ((a : ℕ) → a < n → (u : Task) → task_in c.tasks a ≡ Some u → StartFine fs (G a).home) → (o : Option (ℕ × ℕ)) → IsLinked fs c.tasks G b o → StartFine fs (G b).home
      by again None k = subst (StartFine fs) (sym k.1) (main_start fs fs all)
      by again (Some q) k =
          let less : q.0 < n = omega (arith, k.less, l) in
          subst (StartFine fs) (sym k.home)
          (child_start fs c.moves (G q.0) k.parent.control q.1
          (nesting.control fs all (G q.0).home (again q.0 less k.parent k.found) c.moves k.parent.control (G q.0).own (chained q.0 k.parent k.found) (f.tasks.bounded q.0 k.parent k.found) (f.limits.calls q.0 k.parent k.found) (f.limits.running q.0 k.parent k.found)))

  start_of : (b : ℕ) (t : Task) → task_in c.tasks b ≡ Some t → StartFine fs (G b).home
  start_of b t e = starts (suc b) b (omega arith) t e

  layers_at : (b : ℕ) (o : Option (ℕ × ℕ)) (ls : List Layer) → IsLinked fs c.tasks G b o → Matched o ls (G b).own → places.Layered fs (G b).home ls (G b).own
  layers_at b None ls l m = layered fs (G b).home None ls (G b).own (λ ps x i. subst (λ h. HoldsInside h.base ps x) (sym l.1) i) m
  layers_at b (Some q) ls l m = layered fs (G b).home (Some q) ls (G b).own (λ ps x i. inside_of (G b).home.base ps x i) m

  fits_stands : Stands p c
  fits_stands = record {
    places = G;
    numbered = f.tasks.numbered;
    nested = λ b t e. nesting.control fs all (G b).home (start_of b t e) c.moves t.control (G b).own (chained b t e) (f.tasks.bounded b t e) (f.limits.calls b t e) (f.limits.running b t e);
    layers = λ b t e. layers_at b t.parent t.layers (linked b t e) (known b t e).1;
    waits = λ b t e. nesting.named fs all (G b).home (start_of b t e) t.wait t.control (G b).own (chained b t e) (known b t e).0.1;
    linked = linked;
    running = f.tasks.running;
    first = f.tasks.first;
    opens = f.waits.waits;
    open_tasks = f.waits.calls;
    branches = f.tasks.branches;
    few = f.tasks.few;
    limit = f.limits.limit;
  }

  -- what its items hold stands in the program
  places_exist : PlacesExist p c
  places_exist b t e = nesting.exist fs all (G b).home (start_of b t e) t.control (G b).own (chained b t e)

-- ## And back
module _ (p : Program) (c : Config) (s : Stands p c) (m : c.moves ≤ move_limit) (w : WithinBodies c) (v : Within c) (d : AreNested (limits c.facts.rules).nesting c) where
  abbrev gs : List Flow
  gs = p.flows

  chained_back : (b : ℕ) (t : Task) → task_in c.tasks b ≡ Some t → Nests gs c.tasks t (s.places b).own
  chained_back b t e =
      let h = (s.places b).home in
      let l = s.linked b t e in (
        subst (λ x. chain.Chained gs x (first_binds gs c.tasks t.parent) t.control (s.places b).own) (sym (first_is gs c.tasks s.places b t.parent l))
            (subst (λ n. chain.Chained gs h.steps n t.control (s.places b).own) (sym (binds_is gs c.tasks s.places b t.parent l)) (nesting.chained_control gs h c.moves t.control (s.places b).own (s.nested b t e))),
        nesting.wait_stands gs h t.wait t.control (s.places b).own (s.waits b t e),
      )

  matched_back : (b : ℕ) (o : Option (ℕ × ℕ)) (ls : List Layer) → IsLinked gs c.tasks s.places b o → places.Layered gs (s.places b).home ls (s.places b).own → Matched o ls (s.places b).own
  matched_back b None ls l m = matched gs (s.places b).home None ls (s.places b).own (λ ps x i. subst (λ h. HoldsInside h.base ps x) l.1 i) m
  matched_back b (Some q) ls l m =
      matched gs (s.places b).home (Some q) ls (s.places b).own
      (λ ps x i. some_seen gs (s.places q.0).home l.parent.layers (s.places q.0).own (s.layers q.0 l.parent l.found) ps x (subst (λ h. HoldsInside h.base ps x) l.home i)) m

  parent_back : (b : ℕ) (o : Option (ℕ × ℕ)) → IsLinked gs c.tasks s.places b o → HasParent c.tasks b o
  parent_back b None l = l.0
  parent_back b (Some q) l = record { parent = l.parent; found = l.found; less = l.less; joins = l.joins }

  stands_fits : Fits p c
  stands_fits = record {
    items = λ b t e. ((s.places b).own, chained_back b t e);
    layers = λ b t e. ((s.places b).own, chained_back b t e, matched_back b t.parent t.layers (s.linked b t e) (s.layers b t e));
    tasks = record {
      numbered = s.numbered;
      few = s.few;
      first = s.first;
      parents = λ b t e. parent_back b t.parent (s.linked b t e);
      running = s.running;
      bounded = λ b t e. nesting.bounded_control gs (s.places b).home c.moves t.control (s.places b).own (s.nested b t e);
      branches = s.branches;
    };
    waits = record { waits = s.opens; calls = s.open_tasks };
    limits = record {
      moves = m;
      limit = s.limit;
      bodies = w;
      values = v;
      nesting = d;
      calls = λ b t e. (nesting.few_control gs (s.places b).home c.moves t.control (s.places b).own (s.nested b t e)).0;
      running = λ b t e. (nesting.few_control gs (s.places b).home c.moves t.control (s.places b).own (s.nested b t e)).1;
    };
  }

-- ## The laws
fits_after : (p : Program) (a : After) → StandsAfter p a → Leads (λ c. c.moves ≤ move_limit) a → Leads WithinBodies a → Leads Within a → Leads (λ c. AreNested (limits c.facts.rules).nesting c) a → FitsAfter p a
fits_after p (To c) s m w v d = stands_fits p c s m w v d
fits_after p (Wrong k) s m w v d = s
fits_after p NotNow s m w v d = tt

-- the moves are at most their limit
moves_on : (b c : Config) → (b.outcome ≡ Active → b.moves < move_limit) → b.moves ≤ move_limit → b.outcome ≡ Active → Counts b c → c.moves ≤ move_limit
moves_on b c l k a n = by n.moves
  where
    by : (c.moves ≡ b.moves) ⊎ ((c.moves ≡ suc b.moves) × ((suc b.moves < move_limit) ⊎ (c.outcome ≢ Active))) → c.moves ≤ move_limit
    by (inl e) = omega (arith, e, k)
    by (inr e) = let low = l a in let same = e.0 in omega (arith, same, low)

next_moves : (p : Program) (c : Config) (e : Event) → (c.outcome ≡ Active → c.moves < move_limit) → c.moves ≤ move_limit → Leads (λ d. d.moves ≤ move_limit) (next p c e)
next_moves p c e l k = by c.outcome refl
  where
    by : (o : Outcome) → c.outcome ≡ o → Leads (λ d. d.moves ≤ move_limit) (step_from o p c e)
    by Active i = leads_on (Counts c) (λ d. d.moves ≤ move_limit) (step_from Active p c e) (λ d n. moves_on c d l k i n) (subst (λ o. Leads (Counts c) (step_from o p c e)) i (next_counts p c e))
    by (Returned v) i = tt
    by (Raised v) i = tt
    by Cancelled i = tt

abbrev FewMoves : Config → Type 0
FewMoves c = c.moves ≤ move_limit

first_moves : (p : Program) (s : Start) → Leads FewMoves (initial p s)
first_moves p s =
    kept.merged_keeps FewMoves (record { tasks = λ c ts h. h; made = λ c h. h; calls = λ c cs h. h; created = λ c m h. h; taken = λ c n h. h; logged = λ c e h. h; outcome = λ c o h. h })
    0 None (goes (Do (main_steps p.flows) (main_steps p.flows) ∷ []) (main_local p (unwrap_or (json_value s.argument) null))) (empty s) (omega arith)

below_of : (ts : List (ℕ × Task)) (b : ℕ) (o : Option (ℕ × ℕ)) → HasParent ts b o → totals.Below o b
below_of ts b None h = tt
below_of ts b (Some p) h = h.less

pub initial_fits : InitialFits
initial_fits p accepted small s room = fits_after p (initial p s) (initial_stands p accepted s) (first_moves p s) (first_within p s) (lifting.first_within p small s room) (deep.first_nested p small s)

pub steps_fit : StepsFit
steps_fit p accepted small c f e = fits_after p (next p c e) (steps_stand p accepted c (fits_stands p (accepted_fine p accepted.0) c f) e) (next_moves p c e f.limits.limit f.limits.moves) (bodies_within p c e f.limits.bodies) (lifting.steps_within p small c e ((f.tasks.numbered, λ b t i. below_of c.tasks b t.parent (f.tasks.parents b t i)), f.limits.values)) (deep.steps_nested p small c e ((f.tasks.numbered, λ b t i. below_of c.tasks b t.parent (f.tasks.parents b t i)), f.limits.values, f.limits.nesting))

-- so each configuration of a run does
run_on_fits : (p : Program) → Accept p → FlowsShallow p.flows → (a : After) → FitsAfter p a → (es : List Event) → FitsAfter p (run_on p a es)
run_on_fits p accepted small a f [] = f
run_on_fits p accepted small (To c) f (e ∷ es) = run_on_fits p accepted small (next p c e) (steps_fit p accepted small c f e) es
run_on_fits p accepted small (Wrong k) f (e ∷ es) = tt
run_on_fits p accepted small NotNow f (e ∷ es) = tt

pub runs_fit : RunsFit
runs_fit p accepted small s room es = run_on_fits p accepted small (initial p s) (initial_fits p accepted small s room) es

pub fitting_exists : FittingExists
fitting_exists p accepted c f = places_exist p (accepted_fine p accepted.0) c f

-- ## Part by part
part_of : (F : Program → Config → Type 0) → ((p : Program) → Accept p → (c : Config) → Fits p c → F p c) → Stays F
part_of F f p accepted small c h e = by (next p c e) (steps_fit p accepted small c h e)
  where
    by : (a : After) → FitsAfter p a → IsSo (F p) a
    by (To d) x = f p accepted d x
    by (Wrong k) x = x
    by NotNow x = tt

pub places_stay : PlacesStay
places_stay = part_of PlacesExist fitting_exists

pub items_stay : ItemsStay
items_stay = part_of ItemsAreNested (λ p a c f. f.items)

pub layers_stay : LayersStay
layers_stay = part_of LayersMatch (λ p a c f. f.layers)

pub tasks_stay : TasksStay
tasks_stay = part_of (λ p c. TasksAreLinked c) (λ p a c f. f.tasks)

pub waits_stay : WaitsStay
waits_stay = part_of (λ p c. WaitsAreNamed c) (λ p a c f. f.waits)

pub limits_stay : LimitsStay
limits_stay = part_of (λ p c. WithinLimits c) (λ p a c f. f.limits)
