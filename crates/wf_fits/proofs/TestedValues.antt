-- The tests of values and of the numbers in controls agree with what they test.
use Rattle.std.specs.Prelude.{ℕ, ◌&&◌, T, List, [], ◌∷◌, nat_le, nat_lt, ◌↔◌}
use Rattle.wf_lemmas.proofs.Bools.{T_left, T_right}
use Rattle.wf_fits.proofs.Tested.{at_most, at_most_so, to_each, from_each}
use Rattle.wf_fits.proofs.TestedTasks.{below_is, below_so}
use Rattle.wf_fits.specs.Chain.{Bounded}
use Rattle.wf_fits.specs.Limits.{AllShallow, PairsShallow, LeftShallow, WorkShallow, ErrorsShallow, ItemsShallow, LayersShallow, LogShallow, OutcomeShallow, TaskShallow, Within}
use Rattle.wf_fits.specs.Tests.{all_tasks, shallow_test, values_test, pairs_test, left_test, work_test, kept_values_test, items_test, layers_test, log_test, outcome_test, above_test, rising_list, bounded_test, within_test}
use Rattle.wf_model.specs.Config.{Layer, LogEntry, Left, OfList, OfRange, WorkLeft, BranchesLeft, ValuesLeft, limits, log_limit, Item, Do, Entries, Then, Loop, Try, Judge, Mark, Back, Join, Task, Outcome, Active, Returned, Raised, Cancelled, Config}
use Rattle.wf_model.specs.Taken.{tasks_total, log_total}
use Rattle.wf_never_wrong.specs.Places.{Above, Rises}
use Rattle.wf_value.specs.Data.{Data, Pairs, no_pairs, pair, depth}
use Rattle.wf_never_wrong.proofs.Names.{both}
use Rattle.wf_never_wrong.specs.Stands.{OfEach}
use Rattle.wf_model.specs.RunLaws.{RisesFrom}

values_is : (x : List Data) → T (values_test x) → AllShallow x
values_is [] h = tt
values_is (v ∷ vs) h = (at_most (depth v) 100 (T_left (shallow_test v) (values_test vs) h), values_is vs (T_right (shallow_test v) (values_test vs) h))

values_so : (x : List Data) → AllShallow x → T (values_test x)
values_so [] h = tt
values_so (v ∷ vs) h = both (shallow_test v) (values_test vs) (at_most_so (depth v) 100 h.0) (values_so vs h.1)

pairs_is : (x : Pairs) → T (pairs_test x) → PairsShallow x
pairs_is no_pairs h = tt
pairs_is (pair k v ps) h = (at_most (depth v) 100 (T_left (shallow_test v) (pairs_test ps) h), pairs_is ps (T_right (shallow_test v) (pairs_test ps) h))

pairs_so : (x : Pairs) → PairsShallow x → T (pairs_test x)
pairs_so no_pairs h = tt
pairs_so (pair k v ps) h = both (shallow_test v) (pairs_test ps) (at_most_so (depth v) 100 h.0) (pairs_so ps h.1)

left_is : (x : Left) → T (left_test x) → LeftShallow x
left_is (OfList vs) h = values_is vs h
left_is (OfRange a b) h = tt

left_so : (x : Left) → LeftShallow x → T (left_test x)
left_so (OfList vs) h = values_so vs h
left_so (OfRange a b) h = tt

work_is : (x : WorkLeft) → T (work_test x) → WorkShallow x
work_is (BranchesLeft bs) h = tt
work_is (ValuesLeft w) h = left_is w h

work_so : (x : WorkLeft) → WorkShallow x → T (work_test x)
work_so (BranchesLeft bs) h = tt
work_so (ValuesLeft w) h = left_so w h

kept_is : (x : List (ℕ × Data)) → T (kept_values_test x) → ErrorsShallow x
kept_is [] h = tt
kept_is (e ∷ es) h = (at_most (depth e.1) 100 (T_left (shallow_test e.1) (kept_values_test es) h), kept_is es (T_right (shallow_test e.1) (kept_values_test es) h))

kept_so : (x : List (ℕ × Data)) → ErrorsShallow x → T (kept_values_test x)
kept_so [] h = tt
kept_so (e ∷ es) h = both (shallow_test e.1) (kept_values_test es) (at_most_so (depth e.1) 100 h.0) (kept_so es h.1)

items_is : (x : List Item) → T (items_test x) → ItemsShallow x
items_is [] h = tt
items_is (Loop l w i ∷ k) h = (left_is w (T_left (left_test w) (items_test k) h), items_is k (T_right (left_test w) (items_test k) h))
items_is (Judge t n d e ∷ k) h = (at_most (depth e) 100 (T_left (shallow_test e) (items_test k) h), items_is k (T_right (shallow_test e) (items_test k) h))
items_is (Join b w n r es ∷ k) h = (work_is w (T_left (work_test w) ((kept_values_test es && items_test k)) h), kept_is es (T_left (kept_values_test es) (items_test k) (T_right (work_test w) ((kept_values_test es && items_test k)) h)), items_is k (T_right (kept_values_test es) (items_test k) (T_right (work_test w) ((kept_values_test es && items_test k)) h)))
items_is (Do block left ∷ k) h = items_is k h
items_is (Entries es ∷ k) h = items_is k h
items_is (Then x ∷ k) h = items_is k h
items_is (Try t n d ∷ k) h = items_is k h
items_is (Mark ∷ k) h = items_is k h
items_is (Back r ∷ k) h = items_is k h

items_so : (x : List Item) → ItemsShallow x → T (items_test x)
items_so [] h = tt
items_so (Loop l w i ∷ k) h = both (left_test w) (items_test k) (left_so w h.0) (items_so k h.1)
items_so (Judge t n d e ∷ k) h = both (shallow_test e) (items_test k) (at_most_so (depth e) 100 h.0) (items_so k h.1)
items_so (Join b w n r es ∷ k) h = both (work_test w) ((kept_values_test es && items_test k)) (work_so w h.0) (both (kept_values_test es) (items_test k) (kept_so es h.1) (items_so k h.2))
items_so (Do block left ∷ k) h = items_so k h
items_so (Entries es ∷ k) h = items_so k h
items_so (Then x ∷ k) h = items_so k h
items_so (Try t n d ∷ k) h = items_so k h
items_so (Mark ∷ k) h = items_so k h
items_so (Back r ∷ k) h = items_so k h

layers_is : (x : List Layer) → T (layers_test x) → LayersShallow x
layers_is [] h = tt
layers_is (l ∷ ls) h = (pairs_is l.vars (T_left (pairs_test l.vars) (layers_test ls) h), layers_is ls (T_right (pairs_test l.vars) (layers_test ls) h))

layers_so : (x : List Layer) → LayersShallow x → T (layers_test x)
layers_so [] h = tt
layers_so (l ∷ ls) h = both (pairs_test l.vars) (layers_test ls) (pairs_so l.vars h.0) (layers_so ls h.1)

log_is : (x : List LogEntry) → T (log_test x) → LogShallow x
log_is [] h = tt
log_is (e ∷ es) h = (at_most (depth e.value) 100 (T_left (shallow_test e.value) (log_test es) h), log_is es (T_right (shallow_test e.value) (log_test es) h))

log_so : (x : List LogEntry) → LogShallow x → T (log_test x)
log_so [] h = tt
log_so (e ∷ es) h = both (shallow_test e.value) (log_test es) (at_most_so (depth e.value) 100 h.0) (log_so es h.1)

outcome_is : (x : Outcome) → T (outcome_test x) → OutcomeShallow x
outcome_is Active h = tt
outcome_is (Returned v) h = at_most (depth v) 100 h
outcome_is (Raised v) h = at_most (depth v) 100 h
outcome_is Cancelled h = tt

outcome_so : (x : Outcome) → OutcomeShallow x → T (outcome_test x)
outcome_so Active h = tt
outcome_so (Returned v) h = at_most_so (depth v) 100 h
outcome_so (Raised v) h = at_most_so (depth v) 100 h
outcome_so Cancelled h = tt

task_is : (t : Task) → T (items_test t.control && layers_test t.layers) → TaskShallow t
task_is t h = (items_is t.control (T_left (items_test t.control) (layers_test t.layers) h), layers_is t.layers (T_right (items_test t.control) (layers_test t.layers) h))

task_so : (t : Task) → TaskShallow t → T (items_test t.control && layers_test t.layers)
task_so t h = both (items_test t.control) (layers_test t.layers) (items_so t.control h.0) (layers_so t.layers h.1)

pub values_tested : (c : Config) → RisesFrom 0 c.made c.tasks → T (within_test c) ↔ Within c
values_tested c r =
    let tasks = all_tasks (λ b t. items_test t.control && layers_test t.layers) c.tasks in
    let total = nat_le (tasks_total c.tasks) (limits c.facts.rules).variables in
    let log = log_test c.log in
    let logged = nat_le (log_total c.log) log_limit in
    let end = outcome_test c.outcome in (
      λ h.
          let behind_tasks = T_right tasks (total && (log && (logged && end))) h in
          let behind_total = T_right total (log && (logged && end)) behind_tasks in
          let behind_log = T_right log (logged && end) behind_total in
          record {
            tasks = to_each (λ b t. items_test t.control && layers_test t.layers) (λ b t. TaskShallow t) (λ b t. task_is t) c.tasks (T_left tasks (total && (log && (logged && end))) h);
            total = at_most (tasks_total c.tasks) (limits c.facts.rules).variables (T_left total (log && (logged && end)) behind_tasks);
            log = log_is c.log (T_left log (logged && end) behind_total);
            logged = at_most (log_total c.log) log_limit (T_left logged end behind_log);
            outcome = outcome_is c.outcome (T_right logged end behind_log);
          },
      λ w.
          both tasks (total && (log && (logged && end))) (from_each (λ b t. items_test t.control && layers_test t.layers) (λ b t. TaskShallow t) (λ b t. task_so t) 0 c.made c.tasks r w.tasks)
          (both total (log && (logged && end)) (at_most_so (tasks_total c.tasks) (limits c.facts.rules).variables w.total)
          (both log (logged && end) (log_so c.log w.log) (both logged end (at_most_so (log_total c.log) log_limit w.logged) (outcome_so c.outcome w.outcome)))),
    )

-- ## Numbers
above_is : (n : ℕ) (ms : List ℕ) → T (above_test n ms) → Above n ms
above_is n [] h = tt
above_is n (m ∷ ms) h = (below_is n m (T_left (nat_lt n m) (above_test n ms) h), above_is n ms (T_right (nat_lt n m) (above_test n ms) h))

above_so : (n : ℕ) (ms : List ℕ) → Above n ms → T (above_test n ms)
above_so n [] h = tt
above_so n (m ∷ ms) h = both (nat_lt n m) (above_test n ms) (below_so n m h.0) (above_so n ms h.1)

rising_is : (ns : List ℕ) → T (rising_list ns) → Rises ns
rising_is [] h = tt
rising_is (n ∷ ns) h = (above_is n ns (T_left (above_test n ns) (rising_list ns) h), rising_is ns (T_right (above_test n ns) (rising_list ns) h))

rising_so : (ns : List ℕ) → Rises ns → T (rising_list ns)
rising_so [] h = tt
rising_so (n ∷ ns) h = both (above_test n ns) (rising_list ns) (above_so n ns h.0) (rising_so ns h.1)

bounded_is : (most : ℕ) (x : List Item) → T (bounded_test most x) → Bounded most x
bounded_is most [] h = tt
bounded_is most (Loop l w i ∷ k) h = (at_most i most (T_left (nat_le i most) (bounded_test most k) h), bounded_is most k (T_right (nat_le i most) (bounded_test most k) h))
bounded_is most (Join b w n r es ∷ k) h = (rising_is r (T_left (rising_list r) ((nat_le n most && bounded_test most k)) h), at_most n most (T_left (nat_le n most) (bounded_test most k) (T_right (rising_list r) ((nat_le n most && bounded_test most k)) h)), bounded_is most k (T_right (nat_le n most) (bounded_test most k) (T_right (rising_list r) ((nat_le n most && bounded_test most k)) h)))
bounded_is most (Do block left ∷ k) h = bounded_is most k h
bounded_is most (Entries es ∷ k) h = bounded_is most k h
bounded_is most (Then x ∷ k) h = bounded_is most k h
bounded_is most (Try t n d ∷ k) h = bounded_is most k h
bounded_is most (Judge t n d e ∷ k) h = bounded_is most k h
bounded_is most (Mark ∷ k) h = bounded_is most k h
bounded_is most (Back r ∷ k) h = bounded_is most k h

bounded_so : (most : ℕ) (x : List Item) → Bounded most x → T (bounded_test most x)
bounded_so most [] h = tt
bounded_so most (Loop l w i ∷ k) h = both (nat_le i most) (bounded_test most k) (at_most_so i most h.0) (bounded_so most k h.1)
bounded_so most (Join b w n r es ∷ k) h = both (rising_list r) ((nat_le n most && bounded_test most k)) (rising_so r h.0) (both (nat_le n most) (bounded_test most k) (at_most_so n most h.1) (bounded_so most k h.2))
bounded_so most (Do block left ∷ k) h = bounded_so most k h
bounded_so most (Entries es ∷ k) h = bounded_so most k h
bounded_so most (Then x ∷ k) h = bounded_so most k h
bounded_so most (Try t n d ∷ k) h = bounded_so most k h
bounded_so most (Judge t n d e ∷ k) h = bounded_so most k h
bounded_so most (Mark ∷ k) h = bounded_so most k h
bounded_so most (Back r ∷ k) h = bounded_so most k h

pub numbers_tested : (c : Config) → RisesFrom 0 c.made c.tasks → T (all_tasks (λ b t. bounded_test c.moves t.control) c.tasks) ↔ OfEach c.tasks (λ b t. Bounded c.moves t.control)
numbers_tested c r = (
  to_each (λ b t. bounded_test c.moves t.control) (λ b t. Bounded c.moves t.control) (λ b t. bounded_is c.moves t.control) c.tasks,
  from_each (λ b t. bounded_test c.moves t.control) (λ b t. Bounded c.moves t.control) (λ b t. bounded_so c.moves t.control) 0 c.made c.tasks r,
)
