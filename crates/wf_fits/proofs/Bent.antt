-- The worked configurations.
use Rattle.std.specs.Prelude.{◌≡◌, ◌≤◌, ◌<◌, ℕ, zero, suc, T, Bool, true, false, ◌||◌, if◌then◌else◌, List, [], ◌∷◌, Some, None, Option, option_map, codes, bytes_eq, nat_eq}
use Rattle.std.proofs.Common.{arith}
use Rattle.std.proofs.lemmas.Bool.{eqb-true}
use Rattle.std.proofs.lemmas.Option.{same_Some}
use mathlib.Core.Logic.{inl, inr}
use mathlib.Core.Path.{refl, sym, subst, ap}
use Rattle.wf_ast.specs.Nodes.{assigned}
use Rattle.wf_ast.specs.Tree.{CallBody, Body, Steps, no_steps, more, step}
use Rattle.wf_fits.specs.Chain as chain
use Rattle.wf_fits.specs.Fits.{Fits}
use Rattle.wf_fits.specs.Limits.{TaskShallow, NestsFew}
use Rattle.wf_model.specs.Taken.{nesting}
use Rattle.wf_fits.specs.Rows as rows
use Rattle.wf_model.specs.Config.{Do, Back, Awake, Task}
use Rattle.wf_never_wrong.proofs.Rests.{IsMore}
use Rattle.wf_never_wrong.proofs.Tasks.{some_is_no}
use Rattle.wf_never_wrong.specs.Places as places
use Rattle.wf_never_wrong.specs.Places.{Own, OfMark, OfCall, OfTask}
use Rattle.wf_never_wrong.specs.Stands.{OfEach, line, line_at, OpenCallsHaveTasks}
use Rattle.wf_value.specs.Data.{Data}
use Rattle.wf_value.specs.HttpRequest.{is_among}

abbrev IsNothing : Steps → Type 0
IsNothing no_steps = ⊥
IsNothing (more (step x Body.Nothing n) ss) = Unit {0}
IsNothing (more (step x body n) ss) = ⊥

abbrev IsSomeText : {A : Type 0} → Option A → Type 0
IsSomeText None = ⊥
IsSomeText (Some x) = Unit {0}

abbrev some_block : rows.block ≡ no_steps → ⊥
some_block e = subst IsMore e tt

-- it has neither
no_nothing : places.IsRest (more (step (codes "z") Body.Nothing None) no_steps) rows.block → ⊥
no_nothing (inl e) = subst IsNothing e tt
no_nothing (inr (inl e)) = subst IsNothing e tt
no_nothing (inr (inr (inl e))) = subst IsNothing e tt
no_nothing (inr (inr (inr e))) = subst IsNothing e tt

pub strange_step : rows.StrangeStep
strange_step f = by (f.items 0 _ refl).1.0.0
  where
    by : places.DoStands rows.summing.flows rows.block [] [] rows.block (more (step (codes "z") Body.Nothing None) no_steps) (f.items 0 _ refl).0 → ⊥
    by (inl d) = no_nothing d.1
    by (inr d) = some_block d.0

pub unsettled : rows.Unsettled
unsettled f = (f.items 0 _ refl).1.1

-- no step before the last one has a `next`, or is a call
no_next : (b : Body) → places.Carried (Do rows.block rows.last ∷ []) (Some (codes "r")) b → ⊥
no_next b (inl (inl e)) = subst IsSomeText (sym e.1) tt
no_next b (inl (inr (inl e))) = subst IsSomeText (sym e.1) tt
no_next b (inl (inr (inr (inl e)))) = subst IsSomeText (sym e.1) tt
no_next b (inl (inr (inr (inr e)))) = e
no_next b (inr x) = some_block x.0

abbrev IsCallBody : Body → Type 0
IsCallBody (Body.Call g) = Unit {0}
IsCallBody b = ⊥

no_call : (g : CallBody) → places.Carried (Do rows.block rows.last ∷ []) None (Body.Call g) → ⊥
no_call g (inl (inl e)) = subst IsCallBody (sym e.0) tt
no_call g (inl (inr (inl e))) = subst IsCallBody (sym e.0) tt
no_call g (inl (inr (inr (inl e)))) = subst IsCallBody (sym e.0) tt
no_call g (inl (inr (inr (inr e)))) = e
no_call g (inr x) = some_block x.0

pub strange_then : rows.StrangeThen
strange_then f = let x = (f.items 0 _ refl).1.0.0 in no_next x.0 x.1

pub strange_back : rows.StrangeBack
strange_back f = by (f.items 0 _ refl).0 (f.items 0 _ refl).1.0
  where
    called : (w : _) → places.CalledIn rows.summing.flows (Do rows.block rows.last ∷ []) None w → ⊥
    called w (inl x) = no_call x.0 x.1
    called w (inr j) = j

    by : (E : List Own) → chain.Chained rows.summing.flows rows.block [] (Back None ∷ Do rows.block rows.last ∷ []) E → ⊥
    by [] c = c
    by (N ∷ E) c = called c.0.0 c.0.1

pub falling_range : rows.FallingRange
falling_range f = (f.items 0 _ refl).1.0.0.1

pub great_index : rows.GreatIndex
great_index f = by (f.tasks.bounded 0 _ refl).0
  where
    by : 9 ≤ 6 → ⊥
    by l = omega (arith, l)

pub missing_layer : rows.MissingLayer
missing_layer f = by (f.layers 0 _ refl).0 (f.layers 0 _ refl).2
  where
    by : (E : List Own) → chain.Matched None [] E → ⊥
    by [] m = m
    by (OfMark b a ∷ E) m = m
    by (OfCall b a ∷ E) m = m
    by (OfTask b a ∷ E) m = m

pub many_tasks : rows.ManyTasks
many_tasks f = by f.tasks.few
  where
    by : 8 ≤ 7 → ⊥
    by l = omega (arith, l)

pub strange_sleep : rows.StrangeSleep
strange_sleep f = let x = (f.items 0 _ refl).1.1 in no_call x.0 x.1

pub moves_at_the_limit : rows.MovesAtTheLimit
moves_at_the_limit f = by (f.limits.limit refl)
  where
    by : 100000 < 100000 → ⊥
    by l = omega (arith, l)

-- ## Those that fit
only_task : (P : ℕ → Task → Type 0) (t : Task) → P 0 t → OfEach ((0, t) ∷ []) P
only_task P t h b u e = by (nat_eq 0 b) refl e
  where
    by : (q : Bool) → nat_eq 0 b ≡ q → (if q then Some t else None) ≡ Some u → P b u
    by true i e = subst (λ n. P n u) (eqb-true 0 b i) (subst (P 0) (same_Some t u e) h)
    by false i e = some_is_no u (sym e)

no_calls : (ts : List (ℕ × Task)) → OpenCallsHaveTasks ts []
no_calls ts zero a i = absurd i
no_calls ts (suc n) a i = absurd i

in_first : (q r : Bool) → T (q || false) → T (q || r)
in_first true r h = tt
in_first false r h = absurd h

in_one : (q r : Bool) → T (q || false) → T ((q || false) || r)
in_one true r h = tt
in_one false r h = absurd h

abbrev around : ℕ → Task
around n = rows.task_at rows.inside (rows.layer (rows.variable (codes "v") 2) ∷ rows.layer (rows.variable (codes "t") n) ∷ []) Awake

abbrev owns : List Own
owns = OfMark (codes "v" ∷ []) (assigned rows.inner) ∷ OfTask [] (assigned rows.block) ∷ []

chained : chain.Chained rows.summing.flows rows.block [] rows.inside owns
chained = (
  inl (inr (inl (refl, refl)), inl refl),
  (tt, (rows.inner, inl (refl, refl)), ((inl (inr (inl (refl, refl, refl))), tt), (inl (inr (refl, refl), inr (inr (inl refl))), tt))),
)

matched : (n : ℕ) → chain.Matched None (around n).layers owns
matched n = (
  tt,
  (λ x h. in_one (bytes_eq x (codes "v")) (is_among x (assigned rows.inner)) h),
  (λ x h. h),
  (tt, (λ x h. in_first (bytes_eq x (codes "t")) _ h), λ x h. absurd h),
)

one_line : (n m : ℕ) (o : Option (ℕ × ℕ)) (x : Option (ℕ × List (ℕ × Data))) → line_at ((0, around n) ∷ []) m ≡ Some (o, x) → (None ≡ o) × (None ≡ x)
one_line n m o x l = by (nat_eq 0 m) l
  where
    by : (q : Bool) → option_map line (if q then Some (around n) else None) ≡ Some (o, x) → (None ≡ o) × (None ≡ x)
    by true j = let same : line (around n) ≡ (o, x) = same_Some (line (around n)) (o, x) j in (ap (λ (y : Option (ℕ × ℕ) × Option (ℕ × List (ℕ × Data))). y.0) same, ap (λ (y : Option (ℕ × ℕ) × Option (ℕ × List (ℕ × Data))). y.1) same)
    by false j = some_is_no (o, x) (sym j)

fits_with : (n : ℕ) → Fits rows.summing (rows.alone (around n) 1 6)
fits_with n = record {
  items = only_task _ (around n) (owns, (chained, tt));
  layers = only_task _ (around n) (owns, (chained, tt), matched n);
  tasks = record {
    numbered = (omega arith, omega arith, tt);
    few = omega arith;
    first = λ i. (around n, refl);
    parents = only_task _ (around n) refl;
    running = only_task _ (around n) (λ m j. absurd j);
    bounded = only_task _ (around n) (omega arith, tt);
    branches = record {
      below = λ m a i k x y es p q. some_is_no (a, i) (sym (one_line n m (Some (a, i)) x p).0);
      differ = λ m k a i x y p q. some_is_no (a, i) (sym (one_line n m (Some (a, i)) x p).0);
      errors = λ a k y es p. some_is_no (k, es) (sym (one_line n a y (Some (k, es)) p).1);
    };
  };
  waits = record { waits = only_task _ (around n) tt; calls = no_calls ((0, around n) ∷ []) };
  limits = record { moves = omega arith; limit = λ i. omega arith; bodies = (omega arith, tt); calls = only_task _ (around n) (omega arith); running = only_task _ (around n) tt; values = record { tasks = only_task (λ b t. TaskShallow t) (around n) ((tt, tt), ((omega arith, tt), ((omega arith, tt), tt))); total = omega arith; log = tt; logged = omega arith; outcome = tt }; nesting = only_task (λ b t. NestsFew (nesting b (rows.alone (around n) 1 6) t.parent) 2 t.control) (around n) tt };
}

pub loop_fits : rows.LoopFits
loop_fits = fits_with 1

pub other_values_fit : rows.OtherValuesFit
other_values_fit = fits_with 40
