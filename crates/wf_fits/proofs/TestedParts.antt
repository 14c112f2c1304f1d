-- The tests of whole parts agree with what they test.
use Rattle.std.specs.Prelude.{◌≡◌, ℕ, suc, Bool, T, List, [], ◌∷◌, is_some, nat_lt, Some, None, Option}
use Rattle.wf_lemmas.proofs.Bools.{T_left, T_right}
use mathlib.Core.Path.{refl, sym, subst}
use Rattle.wf_fits.proofs.Tested.{at_most, at_most_so, bodies_tested, calls_tested, running_tested, nesting_tested}
use Rattle.wf_fits.proofs.TestedTasks.{below_is, below_so, rising_tested, parents_tested, running_tasks_tested, branches_tested}
use Rattle.wf_fits.proofs.TestedValues.{values_tested, numbers_tested}
use Rattle.wf_fits.specs.Tests.{every, if_active, TasksAreTested, LimitsAreTested, tasks_tests, limits_tests}
use Rattle.wf_model.specs.Config.{Task, Outcome, Active, Returned, Raised, Cancelled, limits, move_limit, task_in}
use Rattle.wf_never_wrong.proofs.Names.{both}
use Rattle.wf_never_wrong.specs.Stands.{FirstLives}

-- ## Each of some answers
abbrev AllTrue : List Bool → Type 0
AllTrue [] = Unit {0}
AllTrue (q ∷ qs) = T q × AllTrue qs

apart : (qs : List Bool) → T (every qs) → AllTrue qs
apart [] h = tt
apart (q ∷ qs) h = (T_left q (every qs) h, apart qs (T_right q (every qs) h))

together : (qs : List Bool) → AllTrue qs → T (every qs)
together [] h = tt
together (q ∷ qs) h = both q (every qs) h.0 (together qs h.1)

-- ## While there is no outcome
active_is : (o : Outcome) (q : Bool) → T (if_active o q) → o ≡ Active → T q
active_is o q h e = subst (λ x. T (if_active x q)) e h

active_so : (o : Outcome) (q : Bool) → (o ≡ Active → T q) → T (if_active o q)
active_so Active q h = h refl
active_so (Returned v) q h = tt
active_so (Raised v) q h = tt
active_so Cancelled q h = tt

-- task 0 lives
lives_is : (ts : List (ℕ × Task)) → T (is_some (task_in ts 0)) → FirstLives ts
lives_is ts = by (task_in ts 0) refl
  where
    by : (o : Option Task) → task_in ts 0 ≡ o → T (is_some o) → FirstLives ts
    by None e h = absurd h
    by (Some t) e h = (t, e)

lives_so : (ts : List (ℕ × Task)) → FirstLives ts → T (is_some (task_in ts 0))
lives_so ts l = subst (λ o. T (is_some o)) (sym l.1) tt

-- ## Parts
pub tasks_tested : TasksAreTested
tasks_tested c = (
  λ h. let t = apart (tasks_tests c) h in let rises = (rising_tested 0 c.made c.tasks).0 t.0 in record {
    numbered = rises;
    few = at_most c.made (suc c.moves) t.1.0;
    first = λ e. lives_is c.tasks (active_is c.outcome (is_some (task_in c.tasks 0)) t.1.1.0 e);
    parents = (parents_tested c rises).0 t.1.1.1.0;
    running = (running_tasks_tested c rises).0 t.1.1.1.1.0;
    bounded = (numbers_tested c rises).0 t.1.1.1.1.1.0;
    branches = (branches_tested c rises).0 t.1.1.1.1.1.1.0;
  },
  λ l. together (tasks_tests c) (
    (rising_tested 0 c.made c.tasks).1 l.numbered,
    (
      at_most_so c.made (suc c.moves) l.few,
      (
        active_so c.outcome (is_some (task_in c.tasks 0)) (λ e. lives_so c.tasks (l.first e)),
        (
          (parents_tested c l.numbered).1 l.parents,
          (
            (running_tasks_tested c l.numbered).1 l.running,
            (
              (numbers_tested c l.numbered).1 l.bounded,
              ((branches_tested c l.numbered).1 l.branches, tt),
            ),
          ),
        ),
      ),
    ),
  ),
)

pub limits_tested : LimitsAreTested
limits_tested c rises = (
  λ h. let t = apart (limits_tests c) h in record {
    moves = at_most c.moves move_limit t.0;
    limit = λ e. below_is c.moves move_limit (active_is c.outcome (nat_lt c.moves move_limit) t.1.0 e);
    bodies = (bodies_tested c).0 t.1.1.0;
    calls = (calls_tested c rises).0 t.1.1.1.0;
    running = (running_tested c rises).0 t.1.1.1.1.0;
    values = (values_tested c rises).0 t.1.1.1.1.1.0;
    nesting = (nesting_tested c (limits c.facts.rules).nesting rises).0 t.1.1.1.1.1.1.0;
  },
  λ l. together (limits_tests c) (
    at_most_so c.moves move_limit l.moves,
    (
      active_so c.outcome (nat_lt c.moves move_limit) (λ e. below_so c.moves move_limit (l.limit e)),
      (
        (bodies_tested c).1 l.bodies,
        (
          (calls_tested c rises).1 l.calls,
          (
            (running_tested c rises).1 l.running,
            (
              (values_tested c rises).1 l.values,
              ((nesting_tested c (limits c.facts.rules).nesting rises).1 l.nesting, tt),
            ),
          ),
        ),
      ),
    ),
  ),
)
